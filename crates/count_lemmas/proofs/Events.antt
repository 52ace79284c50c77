-- What a turn makes, and what follows it: one statement makes what its call makes, and nothing else that follows from it makes an
-- event. The ticks that are pending stay as they are.
use Rattle.std.proofs.Common.{ℕ, zero, suc, ◌≤◌, Bool, true, false, cond, List, [], ◌∷◌, ℤ, pos}
use Rattle.std.specs.Bool.{◌==◌}
use Rattle.std.specs.Prelude.{filter, fold, slice_index, slice_set}
use Rattle.std.specs.Ordering.{int_eq}
use Rattle.tk_types.specs.declared.answer.Outcome.{Outcome}
use Rattle.tk_types.specs.declared.answer.Outcome.TheVariants as outcomes
use Rattle.tk_types.specs.declared.calls.Call.{Call}
use Rattle.tk_types.specs.declared.calls.Call.TheVariants as calls
use Rattle.tk_types.specs.declared.calls.ContextCall.{ContextCall}
use Rattle.tk_types.specs.declared.calls.ContextCall.TheVariants as context
use Rattle.tk_types.specs.declared.calls.TaskCall.{TaskCall}
use Rattle.tk_types.specs.declared.calls.TaskCall.TheVariants as task
use Rattle.tk_types.specs.declared.calls.TimeCall.{TimeCall}
use Rattle.tk_types.specs.declared.calls.TimeCall.TheVariants as time
use Rattle.tk_types.specs.declared.run.Act.{Act}
use Rattle.tk_types.specs.declared.run.Act.TheVariants as acts
use Rattle.tk_types.specs.declared.run.Mode.{Mode}
use Rattle.tk_types.specs.declared.script.Interrupt.{Interrupt}
use Rattle.tk_types.specs.declared.script.Script.{Script}
use Rattle.tk_types.specs.declared.task.Event.{Event as DueKind}
use Rattle.tk_types.specs.declared.task.Event.TheVariants as dues
use Rattle.tk_types.specs.declared.task.Release.{Release}
use Rattle.kernel_model.specs.Words.Checks.{natural, within}
use Rattle.kernel_model.specs.Tasks.Base.{Base, release}
use Rattle.kernel_model.specs.Bodies.Statements.{fetch, give, start_frame}
use Rattle.context_model.specs.Contexts.Tables.{depth_in, handler_of, left}
use Rattle.machine_model.specs.States.Objects.{dev_parts, mail_parts, pool_parts}
use Rattle.machine_model.specs.States.State.{State, frame_of, parts_of, who_of, with_frame}
use Rattle.machine_model.specs.Events.Follow.{dispatched, follow_each, follow_release, followed, settled, turned, with_releases}
use Rattle.machine_model.specs.Events.Bodies.{begun, body_returned, entered, noted, returned, undefined, with_start, withdrawn}
use Rattle.machine_model.specs.Events.Calls.{answered, called, ended_by, family_call, without_holdings}
use Rattle.machine_model.specs.Events.Handlers.{due_begun, handler_begun, insert_once, interrupt_begun, requested, with_requests}
use Rattle.machine_model.specs.Events.Ticks.{fallen, limit_answer}
use Rattle.machine_model.specs.Runs.Turns.{acted, fell_in, ran}
use Rattle.count_lemmas.proofs.Making.{IsMaking, IsQuiet}
use Rattle.count_lemmas.proofs.Contexts.{context_calls_make}
use Rattle.count_lemmas.proofs.Devices.{device_calls_make}
use Rattle.count_lemmas.proofs.Mails.{mail_calls_make}
use Rattle.count_lemmas.proofs.Mutexes.{mutex_calls_make}
use Rattle.count_lemmas.proofs.Pools.{pool_calls_make}
use Rattle.count_lemmas.proofs.SemFlags.{sem_flag_calls_make}
use Rattle.count_lemmas.proofs.Tasks.{task_calls_make}
use Rattle.count_lemmas.proofs.Times.{again_makes, time_calls_make}
use Rattle.count_lemmas.proofs.Settled.{freed_quiet, settle_quiet}

-- a word holds of the base, and at most so many ticks are pending
abbrev pub On : (Base → Type 0) → ℕ → State → Type 0
On P k st = P st.base × (st.ticks ≤ k)

pub either_state : (P : State → Type 0) (test : Bool) (one other : State) → P one → P other → P (cond test one other)
either_state P true one other first second = first
either_state P false one other first second = second

-- ---- what follows an event

each_on : (P : Base → Type 0) (k : ℕ) (script : Script) (n : ℕ) (st : State) (released : List Release) → On P k st → On P k (follow_each script n st released).state
unfolding follow_each follow_release
each_on P k script n st [] on = on
each_on P k script n st (ended ∷ rest) on = each_on P k script n (follow_release script n st ended).state rest on

turned_on : (P : Base → Type 0) → IsQuiet P → (k : ℕ) (same : Bool) (n : ℕ) (st : State) → On P k st → On P k (turned same n st).state
turned_on P is k true n st on = on
turned_on P is k false n st on = (is.turned st.base _ on.0, on.1)

pub settled_on : (P : Base → Type 0) → IsQuiet P → (k : ℕ) (mode : Mode) (st : State) → On P k st → On P k (settled mode st)
settled_on P is k mode st on = (settle_quiet P is mode (parts_of st) on.0, on.1)

-- settling, the ends of waits, and the dispatch
pub followed_on : (P : Base → Type 0) → IsQuiet P → (k : ℕ) (script : Script) (mode : Mode) (n : ℕ) (st : State) → On P k st → On P k (followed script mode n st).state
unfolding followed with_releases dispatched
followed_on P is k script mode n st on =
    let now : State = settled mode st in
    let on_now : On P k now = settled_on P is k mode st on in
    turned_on P is k _ n (with_releases script n now).state (each_on P k script n (record now { base = record now.base { released = [] } }) now.base.released (is.emptied now.base on_now.0, on_now.1))

-- ---- calls

begun_on : (P : Base → Type 0) → IsQuiet P → (k : ℕ) (st : State) (t : ℕ) (c : TaskCall) (value : ℤ) → On P k st → On P k (begun st t c value)
begun_on P is k st t (task.CreTsk attributes body priority stack) value on = either_state (On P k) (within 1 255 value) (record st { bodies = slice_set st.bodies (natural value) body }) st on on
begun_on P is k st t (task.StaTsk id code) value on =
    either_state (On P k) (int_eq value (pos 0)) (with_start st id code) st
    (either_state (On P k) (within 0 255 id) (with_frame st (natural id) (start_frame (slice_index st.bodies (natural id)) code (pos 0))) st on on) on
begun_on P is k st t task.ExdTsk value on = (is.deleted st.base t on.0, on.1)
begun_on P is k st t _ value on = on

withdrawn_on : (P : Base → Type 0) (k : ℕ) (st : State) (c : TimeCall) → On P k st → On P k (withdrawn st c)
withdrawn_on P k st (time.DelCyc id) on = on
withdrawn_on P k st (time.DelAlm id) on = on
withdrawn_on P k st _ on = on

undefined_on : (P : Base → Type 0) (k : ℕ) (st : State) (c : ContextCall) → On P k st → On P k (undefined st c)
undefined_on P k st (context.DefInt number zero) on = on
undefined_on P k st (context.DefInt number (suc body)) on = on
undefined_on P k st context.DisDsp on = on
undefined_on P k st context.EnaDsp on = on
undefined_on P k st context.Di on = on
undefined_on P k st context.Ei on = on
undefined_on P k st context.RefSys on = on
undefined_on P k st (context.DefSsy number body) on = on
undefined_on P k st (context.RefSsy number) on = on
undefined_on P k st (context.Svc number value) on = on

noted_on : (P : Base → Type 0) → IsQuiet P → (k : ℕ) (st : State) (t : ℕ) (c : Call) (value : ℤ) → On P k st → On P k (noted st t c value)
noted_on P is k st t (calls.Task c) value on = begun_on P is k st t c value on
noted_on P is k st t (calls.Time c) value on = either_state (On P k) (int_eq value (pos 0)) (withdrawn st c) st (withdrawn_on P k st c on) on
noted_on P is k st t (calls.Context c) value on = either_state (On P k) (int_eq value (pos 0)) (undefined st c) st (undefined_on P k st c on) on
noted_on P is k st t _ value on = on

answered_on : (P : Base → Type 0) → IsQuiet P → (k : ℕ) (st : State) (t : ℕ) (c : Call) (outcome : Outcome) → On P k st → On P k (answered st t c outcome)
unfolding answered entered
answered_on P is k st t c (outcomes.Returned result) on = noted_on P is k (with_frame st t (give (frame_of st t) result)) t c result.value on
answered_on P is k st t c outcomes.Blocked on = on
answered_on P is k st t c (outcomes.Entered body) on = on

holdings_on : (P : Base → Type 0) → IsQuiet P → (k : ℕ) (mode : Mode) (st : State) (t : ℕ) → On P k st → On P k (without_holdings mode st t)
holdings_on P is k mode st zero on = on
holdings_on P is k mode st (suc t) on = (freed_quiet P is 64 mode (suc t) (record (parts_of st) { objects = record st.objects { contexts = left st.objects.contexts (suc t) true } }) on.0, on.1)

-- a call of any family, by its row
pub family_on : (P Q : Base → Type 0) → IsMaking P Q → (k : ℕ) (st : State) (t : ℕ) (c : Call) → On P k st → On Q k (family_call st t c).state
unfolding family_call
family_on P Q is k st t (calls.Task c) on = (task_calls_make P Q is st.base st.objects.mutexes (who_of t) c on.0, on.1)
family_on P Q is k st t (calls.SemFlag c) on = (sem_flag_calls_make P Q is st.base st.objects.sem_flags (who_of t) c on.0, on.1)
family_on P Q is k st t (calls.Mutex c) on = (mutex_calls_make P Q is st.base st.objects.mutexes (who_of t) c on.0, on.1)
family_on P Q is k st t (calls.Mail c) on = (mail_calls_make P Q is (mail_parts (parts_of st)) (who_of t) c on.0, on.1)
family_on P Q is k st t (calls.Pool c) on = (pool_calls_make P Q is (pool_parts (parts_of st)) (who_of t) c on.0, on.1)
family_on P Q is k st t (calls.Time c) on = (time_calls_make P Q is st.base st.objects.clocks c on.0, on.1)
family_on P Q is k st t (calls.Context c) on = (context_calls_make P Q is st.base st.objects.contexts (who_of t) c on.0, on.1)
family_on P Q is k st t (calls.Device c) on = (device_calls_make P Q is (dev_parts (parts_of st)) (who_of t) c on.0, on.1)
family_on P Q is k st t (calls.Hook c) on = (is.more st.base on.0, on.1)

-- a call, with all that follows from it for holdings, bodies and frames
pub called_on : (P Q : Base → Type 0) → IsMaking P Q → IsQuiet Q → (k : ℕ) (mode : Mode) (n : ℕ) (st : State) (t : ℕ) (c : Call) → On P k st → On Q k (called mode n st t c).state
unfolding called
called_on P Q is later k mode n st t c on =
    let done = family_call st t c in
    answered_on Q later k (without_holdings mode done.state (ended_by t c done.outcome)) t c done.outcome (holdings_on Q later k mode done.state (ended_by t c done.outcome) (family_on P Q is k st t c on))

-- ---- statements

returned_if : (P : Base → Type 0) (k n : ℕ) (st : State) (t : ℕ) (value : ℤ) (none : Bool) → On P k st → On P k (cond none (record { state = st; lines = [] }) (returned n st t value)).state
unfolding returned
returned_if P k n st t value true on = on
returned_if P k n st t value false on = on

returned_on : (P : Base → Type 0) → IsQuiet P → (k n : ℕ) (st : State) (t : ℕ) (value : ℤ) → On P k st → On P k (body_returned n st t value).state
unfolding body_returned
returned_on P is k n st zero value on = (is.flagged st.base _ on.0, on.1)
returned_on P is k n st (suc t) value on = returned_if P k n st (suc t) value (depth_in st.objects.contexts (suc t) == 0) on

more_on : (P Q : Base → Type 0) → IsMaking P Q → (k : ℕ) (st : State) → On P k st → On Q k st
more_on P Q is k st on = (is.more st.base on.0, on.1)

fell_on : (P Q : Base → Type 0) → IsMaking P Q → IsQuiet Q → (k : ℕ) (mode : Mode) (n : ℕ) (st : State) (t depth : ℕ) → On P k st → On Q k (fell_in mode n st t depth).state
fell_on P Q is later k mode n st zero depth on = returned_on Q later k n st 0 (pos 0) (more_on P Q is k st on)
fell_on P Q is later k mode n st (suc t) zero on = called_on P Q is later k mode n st (suc t) (calls.Task task.ExtTsk) on
fell_on P Q is later k mode n st (suc t) (suc depth) on = returned_on Q later k n st (suc t) (pos 0) (more_on P Q is k st on)

pub acted_on : (P Q : Base → Type 0) → IsMaking P Q → IsQuiet Q → (k : ℕ) (mode : Mode) (n : ℕ) (st : State) (t : ℕ) (act : Act) → On P k st → On Q k (acted mode n st t act).state
unfolding acted
acted_on P Q is later k mode n st t acts.Computed on = more_on P Q is k st on
acted_on P Q is later k mode n st t (acts.Call c) on = called_on P Q is later k mode n st t c on
acted_on P Q is later k mode n st t (acts.Say text) on = more_on P Q is k st on
acted_on P Q is later k mode n st t (acts.Return value) on = returned_on Q later k n st t value (more_on P Q is k st on)
acted_on P Q is later k mode n st t acts.Fell on = fell_on P Q is later k mode n st t (depth_in st.objects.contexts t) on
acted_on P Q is later k mode n st t acts.Halt on = more_on P Q is k st on

pub ran_on : (P Q : Base → Type 0) → IsMaking P Q → IsQuiet Q → (k : ℕ) (script : Script) (mode : Mode) (n : ℕ) (st : State) (t : ℕ) → On P k st → On Q k (ran script mode n st t).state
unfolding ran
ran_on P Q is later k script mode n st t on =
    let result = fetch script (frame_of st t) st.memory in
    acted_on P Q is later k mode n (record (with_frame st t result.frame) { memory = result.memory }) t result.act on

-- ---- handlers

pub due_begun_on : (P : Base → Type 0) → IsQuiet P → (k n : ℕ) (st : State) (what : DueKind) → On P k st → On P k (due_begun n st what).state
unfolding due_begun handler_begun
due_begun_on P is k n st (dues.Cyclic id) on = (is.flagged st.base _ on.0, on.1)
due_begun_on P is k n st (dues.Alarm id) on = (is.flagged st.base _ on.0, on.1)
due_begun_on P is k n st (dues.Wait t) on = on

pub interrupt_begun_on : (P : Base → Type 0) → IsQuiet P → (k n : ℕ) (st : State) (number : ℕ) → On P k st → On P k (interrupt_begun n st number).state
unfolding interrupt_begun handler_begun
interrupt_begun_on P is k n st number on = (is.flagged st.base _ on.0, on.1)

requested_on : (P : Base → Type 0) (k : ℕ) (st : State) (number : ℕ) → On P k st → On P k (requested st number)
requested_on P k st number on = either_state (On P k) (handler_of st.objects.contexts number == 0) st (record st { pending = insert_once number st.pending }) on on

each_request_on : (P : Base → Type 0) (k : ℕ) (irqs : List Interrupt) (st : State) → On P k st → On P k (fold (λ before (irq : Interrupt). requested before irq.number) st irqs)
each_request_on P k [] st on = on
each_request_on P k (irq ∷ later) st on = each_request_on P k later (requested st irq.number) (requested_on P k st irq.number on)

-- the interrupts of a step become pending
pub requests_on : (P : Base → Type 0) (k : ℕ) (script : Script) (n : ℕ) (st : State) → On P k st → On P k (with_requests script n st)
unfolding with_requests
requests_on P k script n st on = each_request_on P k (filter (λ irq. irq.step == n) script.irqs) st on

-- ---- what falls due

-- the end of a wait makes no event, and a cyclic handler makes one
pub fallen_on : (P Q : Base → Type 0) → IsMaking P Q → (k : ℕ) (mode : Mode) (st : State) (what : DueKind) → On P k st → On Q k (fallen mode st what)
unfolding fallen
fallen_on P Q is k mode st (dues.Wait t) on =
    let ended : State = record st { base = release st.base t (limit_answer st.base t) } in
    more_on P Q is k (settled mode ended) (settled_on P is.quiet k mode ended (is.quiet.released st.base t (limit_answer st.base t) on.0, on.1))
fallen_on P Q is k mode st (dues.Cyclic id) on = (again_makes P Q is st.base st.objects.clocks (dues.Cyclic id) on.0, on.1)
fallen_on P Q is k mode st (dues.Alarm id) on = (again_makes P Q is st.base st.objects.clocks (dues.Alarm id) on.0, on.1)
