-- What survives each call on devices, and each serving, survives in sync mode all that a step does, and all that follows an ending
-- that has arrived: no request goes to a driver there.
use Rattle.std.proofs.Common.{ℕ, zero, suc, ◌+◌, ◌-◌, Bool, true, false, cond, List, [], ◌∷◌, Option, Some, None, ℤ, pos}
use Rattle.std.specs.Bool.{◌==◌}
use Rattle.std.specs.Prelude.{filter, fold, length, slice_index, slice_set}
use Rattle.std.specs.Ordering.{int_eq}
use Rattle.tk_types.specs.declared.answer.Outcome.{Outcome}
use Rattle.tk_types.specs.declared.answer.Outcome.TheVariants as outcomes
use Rattle.tk_types.specs.declared.calls.Call.{Call}
use Rattle.tk_types.specs.declared.calls.Call.TheVariants as calls
use Rattle.tk_types.specs.declared.answer.Who.{Who}
use Rattle.tk_types.specs.declared.calls.DeviceCall.{DeviceCall}
use Rattle.device_model.specs.Devices.Calls.{device_call}
use Rattle.world_laws.proofs.DeviceWalk.{dispatched_keeps}
use Rattle.tk_types.specs.declared.calls.ContextCall.{ContextCall}
use Rattle.tk_types.specs.declared.calls.ContextCall.TheVariants as context
use Rattle.tk_types.specs.declared.calls.TaskCall.{TaskCall}
use Rattle.tk_types.specs.declared.calls.TaskCall.TheVariants as task
use Rattle.tk_types.specs.declared.calls.TimeCall.{TimeCall}
use Rattle.tk_types.specs.declared.calls.TimeCall.TheVariants as time
use Rattle.tk_types.specs.declared.run.Act.{Act}
use Rattle.tk_types.specs.declared.run.Act.TheVariants as acts
use Rattle.tk_types.specs.declared.run.Mode.TheVariants as modes
use Rattle.tk_types.specs.declared.script.Interrupt.{Interrupt}
use Rattle.tk_types.specs.declared.script.Script.{Script}
use Rattle.tk_types.specs.declared.task.Event.{Event as DueKind}
use Rattle.tk_types.specs.declared.task.Event.TheVariants as dues
use Rattle.tk_types.specs.declared.task.Release.{Release}
use Rattle.kernel_model.specs.Words.Checks.{natural, within}
use Rattle.kernel_model.specs.Words.Events.{due_event}
use Rattle.kernel_model.specs.Tasks.Base.{advance, release, take_due}
use Rattle.kernel_model.specs.Bodies.Statements.{fetch, give, start_frame}
use Rattle.object_model.specs.Mutexes.Tables.{Mutexes, free_last}
use Rattle.context_model.specs.Contexts.Tables.{depth_in, handler_of, left}
use Rattle.device_model.specs.Devices.Tables.{Devices}
use Rattle.device_model.specs.Devices.Endings.{DevParts}
use Rattle.machine_model.specs.declared.turns.Turn.{Turn}
use Rattle.machine_model.specs.declared.turns.Turn.TheVariants as turns
use Rattle.machine_model.specs.States.Objects.{Parts, dev_parts, serve_object}
use Rattle.machine_model.specs.States.State.{State, frame_of, parts_of, who_of, with_frame}
use Rattle.machine_model.specs.Events.Settle.{freed_within, refreshed, served_within, settle, with_freed}
use Rattle.machine_model.specs.Events.Follow.{follow_each, follow_release, followed, settled, with_releases}
use Rattle.machine_model.specs.Events.Bodies.{begun, body_returned, entered, noted, returned, undefined, with_start, withdrawn}
use Rattle.machine_model.specs.Events.Calls.{answered, called, ended_by, family_call, without_holdings}
use Rattle.machine_model.specs.Events.Handlers.{due_begun, first_taken, handler_begun, insert_once, interrupt_begun, requested, with_requests}
use Rattle.machine_model.specs.Events.Ticks.{due_done, fallen, limit_answer, tick}
use Rattle.machine_model.specs.Runs.Turns.{acted, done_turn, fell_in, ran, turn_of}
use Rattle.machine_model.specs.Runs.Step.{is_paced, made_pending, worked}

-- the word holds of the devices of a state, and of those of parts, where there are any
abbrev pub Of : (Devices → Type 0) → State → Type 0
Of P st = P st.objects.devices

abbrev pub OfParts : (Devices → Type 0) → Option Parts → Type 0
OfParts P None = Unit {0}
OfParts P (Some q) = P q.objects.devices

-- what survives each call on devices and each serving
pub record IsSyncProof (P : Devices → Type 0) : Type 0 where
  pub calls : (p : DevParts) (who : Who) (c : DeviceCall) → P p.table → P (device_call p who c).parts.table
  pub serves : (p : Parts) → P p.objects.devices → OfParts P (serve_object p)

either_state : (P : Devices → Type 0) (test : Bool) (one other : State) → Of P one → Of P other → Of P (cond test one other)
either_state P true one other first second = first
either_state P false one other first second = second

-- ---- settling

served_cases : (P : Devices → Type 0) (left_over : ℕ) (p : Parts) (found : Option Parts) → P p.objects.devices → OfParts P found →
    ((q : Parts) → P q.objects.devices → P (served_within left_over (refreshed q)).objects.devices) →
    P (elim found as (λ _. Parts) [ None ↦ p | Some served ↦ served_within left_over (refreshed served) ]).objects.devices
served_cases P left_over p None has kept rest = has
served_cases P left_over p (Some q) has kept rest = rest q kept

served_keeps : (P : Devices → Type 0) → IsSyncProof P → (left_over : ℕ) (p : Parts) → P p.objects.devices → P (served_within left_over p).objects.devices
unfolding served_within
served_keeps P is zero p has = has
served_keeps P is (suc left_over) p has =
    served_cases P left_over p (serve_object p) has (is.serves p has) (λ q kept. served_keeps P is left_over (refreshed q) kept)

settle_keeps : (P : Devices → Type 0) → IsSyncProof P → (p : Parts) → P p.objects.devices → P (settle modes.Sync p).objects.devices
unfolding settle
settle_keeps P is p has = served_keeps P is 512 (refreshed p) has

-- ---- what follows an event

each_keeps : (P : Devices → Type 0) (script : Script) (n : ℕ) (st : State) (released : List Release) → Of P st → Of P (follow_each script n st released).state
unfolding follow_each follow_release
each_keeps P script n st [] has = has
each_keeps P script n st (ended ∷ rest) has = each_keeps P script n (follow_release script n st ended).state rest has

pub sync_followed : (P : Devices → Type 0) → IsSyncProof P → (script : Script) (n : ℕ) (st : State) → Of P st → Of P (followed script modes.Sync n st).state
unfolding followed with_releases
sync_followed P is script n st has =
    let now : State = settled modes.Sync st in
    let ended : State = (with_releases script n now).state in
    dispatched_keeps P n ended (each_keeps P script n (record now { base = record now.base { released = [] } }) now.base.released (settle_keeps P is (parts_of st) has))

-- ---- calls

family_keeps : (P : Devices → Type 0) → IsSyncProof P → (st : State) (t : ℕ) (c : Call) → Of P st → Of P (family_call st t c).state
unfolding family_call
family_keeps P is st t (calls.Device c) has = is.calls (dev_parts (parts_of st)) (who_of t) c has
family_keeps P is st t (calls.Task c) has = has
family_keeps P is st t (calls.SemFlag c) has = has
family_keeps P is st t (calls.Mutex c) has = has
family_keeps P is st t (calls.Mail c) has = has
family_keeps P is st t (calls.Pool c) has = has
family_keeps P is st t (calls.Time c) has = has
family_keeps P is st t (calls.Context c) has = has
family_keeps P is st t (calls.Hook c) has = has

begun_keeps : (P : Devices → Type 0) (st : State) (t : ℕ) (c : TaskCall) (value : ℤ) → Of P st → Of P (begun st t c value)
begun_keeps P st t (task.CreTsk attributes body priority stack) value has = either_state P (within 1 255 value) (record st { bodies = slice_set st.bodies (natural value) body }) st has has
begun_keeps P st t (task.StaTsk id code) value has =
    either_state P (int_eq value (pos 0)) (with_start st id code) st
    (either_state P (within 0 255 id) (with_frame st (natural id) (start_frame (slice_index st.bodies (natural id)) code (pos 0))) st has has) has
begun_keeps P st t task.ExdTsk value has = has
begun_keeps P st t _ value has = has

withdrawn_keeps : (P : Devices → Type 0) (st : State) (c : TimeCall) → Of P st → Of P (withdrawn st c)
withdrawn_keeps P st (time.DelCyc id) has = has
withdrawn_keeps P st (time.DelAlm id) has = has
withdrawn_keeps P st _ has = has

undefined_keeps : (P : Devices → Type 0) (st : State) (c : ContextCall) → Of P st → Of P (undefined st c)
undefined_keeps P st (context.DefInt number zero) has = has
undefined_keeps P st (context.DefInt number (suc body)) has = has
undefined_keeps P st _ has = has

noted_keeps : (P : Devices → Type 0) (st : State) (t : ℕ) (c : Call) (value : ℤ) → Of P st → Of P (noted st t c value)
noted_keeps P st t (calls.Task c) value has = begun_keeps P st t c value has
noted_keeps P st t (calls.Time c) value has = either_state P (int_eq value (pos 0)) (withdrawn st c) st (withdrawn_keeps P st c has) has
noted_keeps P st t (calls.Context c) value has = either_state P (int_eq value (pos 0)) (undefined st c) st (undefined_keeps P st c has) has
noted_keeps P st t _ value has = has

answered_keeps : (P : Devices → Type 0) (st : State) (t : ℕ) (c : Call) (outcome : Outcome) → Of P st → Of P (answered st t c outcome)
unfolding answered entered
answered_keeps P st t c (outcomes.Returned result) has = noted_keeps P (with_frame st t (give (frame_of st t) result)) t c result.value has
answered_keeps P st t c outcomes.Blocked has = has
answered_keeps P st t c (outcomes.Entered body) has = has

freed_cases : (P : Devices → Type 0) (left_over : ℕ) (t : ℕ) (p : Parts) (next : Option Mutexes) → P p.objects.devices →
    ((m : Mutexes) → P (freed_within left_over modes.Sync t (settle modes.Sync (with_freed p m))).objects.devices) →
    P (elim next as (λ _. Parts) [ None ↦ p | Some m ↦ freed_within left_over modes.Sync t (settle modes.Sync (with_freed p m)) ]).objects.devices
freed_cases P left_over t p None has rest = has
freed_cases P left_over t p (Some m) has rest = rest m

freed_keeps : (P : Devices → Type 0) → IsSyncProof P → (left_over : ℕ) (t : ℕ) (p : Parts) → P p.objects.devices → P (freed_within left_over modes.Sync t p).objects.devices
unfolding freed_within
freed_keeps P is zero t p has = has
freed_keeps P is (suc left_over) t p has =
    freed_cases P left_over t p (free_last p.base p.objects.mutexes t) has
    (λ m. freed_keeps P is left_over t (settle modes.Sync (with_freed p m)) (settle_keeps P is (with_freed p m) has))

holdings_keep : (P : Devices → Type 0) → IsSyncProof P → (st : State) (t : ℕ) → Of P st → Of P (without_holdings modes.Sync st t)
holdings_keep P is st zero has = has
holdings_keep P is st (suc t) has = freed_keeps P is 64 (suc t) (record (parts_of st) { objects = record st.objects { contexts = left st.objects.contexts (suc t) true } }) has

called_keeps : (P : Devices → Type 0) → IsSyncProof P → (n : ℕ) (st : State) (t : ℕ) (c : Call) → Of P st → Of P (called modes.Sync n st t c).state
unfolding called
called_keeps P is n st t c has =
    let done = family_call st t c in
    answered_keeps P (without_holdings modes.Sync done.state (ended_by t c done.outcome)) t c done.outcome
    (holdings_keep P is done.state (ended_by t c done.outcome) (family_keeps P is st t c has))

-- ---- statements

returned_if : (P : Devices → Type 0) (n : ℕ) (st : State) (t : ℕ) (value : ℤ) (none : Bool) → Of P st → Of P (cond none (record { state = st; lines = [] }) (returned n st t value)).state
unfolding returned
returned_if P n st t value true has = has
returned_if P n st t value false has = has

returned_keeps : (P : Devices → Type 0) (n : ℕ) (st : State) (t : ℕ) (value : ℤ) → Of P st → Of P (body_returned n st t value).state
unfolding body_returned
returned_keeps P n st zero value has = has
returned_keeps P n st (suc t) value has = returned_if P n st (suc t) value (depth_in st.objects.contexts (suc t) == 0) has

fell_keeps : (P : Devices → Type 0) → IsSyncProof P → (n : ℕ) (st : State) (t depth : ℕ) → Of P st → Of P (fell_in modes.Sync n st t depth).state
fell_keeps P is n st zero depth has = returned_keeps P n st 0 (pos 0) has
fell_keeps P is n st (suc t) zero has = called_keeps P is n st (suc t) (calls.Task task.ExtTsk) has
fell_keeps P is n st (suc t) (suc depth) has = returned_keeps P n st (suc t) (pos 0) has

acted_keeps : (P : Devices → Type 0) → IsSyncProof P → (n : ℕ) (st : State) (t : ℕ) (act : Act) → Of P st → Of P (acted modes.Sync n st t act).state
unfolding acted
acted_keeps P is n st t acts.Computed has = has
acted_keeps P is n st t (acts.Call c) has = called_keeps P is n st t c has
acted_keeps P is n st t (acts.Say text) has = has
acted_keeps P is n st t (acts.Return value) has = returned_keeps P n st t value has
acted_keeps P is n st t acts.Fell has = fell_keeps P is n st t (depth_in st.objects.contexts t) has
acted_keeps P is n st t acts.Halt has = has

ran_keeps : (P : Devices → Type 0) → IsSyncProof P → (script : Script) (n : ℕ) (st : State) (t : ℕ) → Of P st → Of P (ran script modes.Sync n st t).state
unfolding ran
ran_keeps P is script n st t has =
    let result = fetch script (frame_of st t) st.memory in
    acted_keeps P is n (record (with_frame st t result.frame) { memory = result.memory }) t result.act has

-- ---- ticks and handlers

fallen_keeps : (P : Devices → Type 0) → IsSyncProof P → (st : State) (what : DueKind) → Of P st → Of P (fallen modes.Sync st what)
unfolding fallen
fallen_keeps P is st (dues.Wait t) has = settle_keeps P is (record (parts_of st) { base = release st.base t (limit_answer st.base t) }) has
fallen_keeps P is st (dues.Cyclic id) has = has
fallen_keeps P is st (dues.Alarm id) has = has

due_cases : (P : Devices → Type 0) (left_over : ℕ) (st : State) (next : Option DueKind) → Of P st →
    ((what : DueKind) → Of P (due_done left_over modes.Sync (fallen modes.Sync (record st { base = take_due st.base }) what))) →
    Of P (elim next as (λ _. State) [ None ↦ st | Some what ↦ due_done left_over modes.Sync (fallen modes.Sync (record st { base = take_due st.base }) what) ])
due_cases P left_over st None has later = has
due_cases P left_over st (Some what) has later = later what

due_keeps : (P : Devices → Type 0) → IsSyncProof P → (left_over : ℕ) (st : State) → Of P st → Of P (due_done left_over modes.Sync st)
unfolding due_done
due_keeps P is zero st has = has
due_keeps P is (suc left_over) st has =
    let rest : State = record st { base = take_due st.base } in
    due_cases P left_over st (due_event st.base.time st.base.events) has (λ what. due_keeps P is left_over (fallen modes.Sync rest what) (fallen_keeps P is rest what has))

tick_keeps : (P : Devices → Type 0) → IsSyncProof P → (n : ℕ) (st : State) → Of P st → Of P (tick modes.Sync n st).state
unfolding tick
tick_keeps P is n st has = due_keeps P is (length st.base.events) (record st { base = advance st.base }) has

due_begun_keeps : (P : Devices → Type 0) (n : ℕ) (st : State) (what : DueKind) → Of P st → Of P (due_begun n st what).state
unfolding due_begun handler_begun
due_begun_keeps P n st (dues.Cyclic id) has = has
due_begun_keeps P n st (dues.Alarm id) has = has
due_begun_keeps P n st (dues.Wait t) has = has

interrupt_keeps : (P : Devices → Type 0) (n : ℕ) (st : State) (number : ℕ) → Of P st → Of P (interrupt_begun n st number).state
unfolding interrupt_begun handler_begun
interrupt_keeps P n st number has = has

requests_keep : (P : Devices → Type 0) (irqs : List Interrupt) (st : State) → Of P st → Of P (fold (λ before (irq : Interrupt). requested before irq.number) st irqs)
requests_keep P [] st has = has
requests_keep P (irq ∷ later) st has =
    requests_keep P later (requested st irq.number) (either_state P (handler_of st.objects.contexts irq.number == 0) st (record st { pending = insert_once irq.number st.pending }) has has)

pending_keeps : (P : Devices → Type 0) (script : Script) (n : ℕ) (st : State) → Of P st → Of P (made_pending script n st)
unfolding with_requests
pending_keeps P script n st has =
    let asked = requests_keep P (filter (λ irq. irq.step == n) script.irqs) st has in
    either_state P (is_paced script.pace n) (record (with_requests script n st) { ticks = (with_requests script n st).ticks + 1 }) (with_requests script n st) asked asked

-- ---- a step

turn_keeps : (P : Devices → Type 0) → IsSyncProof P → (script : Script) (n : ℕ) (st : State) (turn : Turn) → Of P st → Of P (done_turn script modes.Sync n st turn).state
unfolding done_turn
turn_keeps P is script n st turns.Handler has = ran_keeps P is script n st 0 has
turn_keeps P is script n st (turns.Due what) has = due_begun_keeps P n (first_taken st) what has
turn_keeps P is script n st turns.Tick has = tick_keeps P is n (record st { ticks = st.ticks - 1 }) has
turn_keeps P is script n st (turns.Interrupt number) has = interrupt_keeps P n st number has
turn_keeps P is script n st (turns.Task t) has = ran_keeps P is script n st t has
turn_keeps P is script n st turns.Idle has = tick_keeps P is n st has

pub sync_worked : (P : Devices → Type 0) → IsSyncProof P → (script : Script) (n : ℕ) (st : State) → Of P st → Of P (worked script modes.Sync n st).state
unfolding worked
sync_worked P is script n st has =
    let now : State = made_pending script n st in
    sync_followed P is script n (done_turn script modes.Sync n now (turn_of now)).state (turn_keeps P is script n now (turn_of now) (pending_keeps P script n st has))
