-- What an event keeps, where that says that the script's memory has all its bytes: no statement and no call of a debugger shortens
-- it. What survives each change survives every event, and so holds in every state that a machine comes to.
use Rattle.std.proofs.Common.{◌≡◌, ℕ, suc, zero, ◌+◌, ◌-◌, Bool, true, false, cond, List, [], ◌∷◌, Option, Some, None, ℤ, pos, refl}
use Rattle.std.specs.Bool.{◌==◌}
use Rattle.std.specs.Prelude.{drop, length, slice_set, slice_index}
use Rattle.std.specs.Ordering.{int_eq}
use Rattle.tk_types.specs.declared.answer.Answer.{Answer}
use Rattle.tk_types.specs.declared.answer.Outcome.{Outcome}
use Rattle.tk_types.specs.declared.answer.Outcome.TheVariants as outcomes
use Rattle.tk_types.specs.declared.answer.Who.{Who}
use Rattle.tk_types.specs.declared.calls.Call.{Call}
use Rattle.tk_types.specs.declared.calls.Call.TheVariants as calls
use Rattle.tk_types.specs.declared.calls.ContextCall.{ContextCall}
use Rattle.tk_types.specs.declared.calls.ContextCall.TheVariants as context
use Rattle.tk_types.specs.declared.calls.DeviceCall.{DeviceCall}
use Rattle.tk_types.specs.declared.calls.MailCall.{MailCall}
use Rattle.tk_types.specs.declared.calls.MutexCall.{MutexCall}
use Rattle.tk_types.specs.declared.calls.PoolCall.{PoolCall}
use Rattle.tk_types.specs.declared.calls.SemFlagCall.{SemFlagCall}
use Rattle.tk_types.specs.declared.calls.TaskCall.{TaskCall}
use Rattle.tk_types.specs.declared.calls.TaskCall.TheVariants as task
use Rattle.tk_types.specs.declared.calls.TimeCall.{TimeCall}
use Rattle.tk_types.specs.declared.calls.TimeCall.TheVariants as time
use Rattle.tk_types.specs.declared.run.Act.{Act}
use Rattle.tk_types.specs.declared.run.Act.TheVariants as acts
use Rattle.tk_types.specs.declared.run.Mode.{Mode}
use Rattle.tk_types.specs.declared.script.Script.{Script}
use Rattle.tk_types.specs.declared.task.Event.{Event as DueKind}
use Rattle.tk_types.specs.declared.task.Event.TheVariants as dues
use Rattle.tk_types.specs.declared.task.Flags.{Flags}
use Rattle.kernel_model.specs.Words.Checks.{natural, within}
use Rattle.kernel_model.specs.Words.Events.{due_event}
use Rattle.kernel_model.specs.Tasks.Base.{advance, delete, release, set_flags, take_due}
use Rattle.kernel_model.specs.SemFlags.Calls.{sem_flag_call}
use Rattle.kernel_model.specs.Bodies.Statements.{fetch, give, start_frame}
use Rattle.object_model.specs.Mutexes.Tables.{Mutexes, free_last}
use Rattle.object_model.specs.Mutexes.Calls.{mutex_call, task_call_beside}
use Rattle.object_model.specs.Mails.Calls.{mail_call}
use Rattle.object_model.specs.Pools.Calls.{pool_call}
use Rattle.context_model.specs.Clocks.Calls.{time_call}
use Rattle.context_model.specs.Clocks.Tables.{again}
use Rattle.context_model.specs.Contexts.Calls.{context_call}
use Rattle.context_model.specs.Contexts.Tables.{depth_in, left}
use Rattle.context_model.specs.Hooks.Calls.{hook_call}
use Rattle.device_model.specs.declared.messages.Ending.{Ending}
use Rattle.device_model.specs.Devices.Calls.{device_call}
use Rattle.device_model.specs.Devices.Endings.{DevParts, arrive}
use Rattle.device_model.specs.Devices.Handing.{emptied, hand_first}
use Rattle.machine_model.specs.declared.turns.Turn.{Turn}
use Rattle.machine_model.specs.declared.turns.Turn.TheVariants as turns
use Rattle.machine_model.specs.States.Objects.{Parts, dev_parts, mail_parts, pool_parts, with_devices}
use Rattle.machine_model.specs.States.State.{State, with_parts, frame_of, parts_of, who_of, with_frame}
use Rattle.machine_model.specs.Events.Settle.{freed_within, settle, with_freed}
use Rattle.machine_model.specs.Events.Follow.{followed}
use Rattle.machine_model.specs.Events.Bodies.{begun, body_returned, entered, handler_ended, noted, returned, undefined, with_start, withdrawn}
use Rattle.machine_model.specs.Events.Calls.{answered, called, ended_by, family_call, views_of, without_holdings}
use Rattle.machine_model.specs.Events.Ticks.{due_done, fallen, limit_answer, tick, tick_state}
use Rattle.machine_model.specs.Events.Handlers.{due_begun, handler_begun, interrupt_begun}
use Rattle.machine_model.specs.Runs.Turns.{acted, done_turn, fell_in, ran, turn_of}
use Rattle.machine_model.specs.Runs.Step.{made_pending, step, worked}
use Rattle.machine_lemmas.proofs.Servings.{FewDevices}
use Rattle.machine_lemmas.proofs.Settling.{Handed, Refreshed, Served, settle_keeps}
use Rattle.machine_lemmas.proofs.Walk.{Has, pending_has, settled_keeps}
use Rattle.ask_lemmas.proofs.LongMemory.{IsLong}
use Rattle.ask_lemmas.proofs.WholeMemory.{fetch_long, hook_long}
use Rattle.machine_lemmas.proofs.Reached.{offer_has, step_is}
use Rattle.machine_model.specs.Runs.Trace.{start}
use Rattle.machine_model.specs.Runs.Reached.{Arrives, Move, Steps, after_move, after_pace, state_after}

-- what something has to survive to survive every event, where it says that the script's memory has all its bytes
pub record IsKeptWhole (P : Parts → Type 0) : Type 0 where
  pub long : (p : Parts) → P p → IsLong p.memory
  pub few : (p : Parts) → P p → FewDevices p
  pub task_calls : (p : Parts) (who : Who) (c : TaskCall) → P p → P (record p { base = (task_call_beside p.base p.objects.mutexes who c).base })
  pub sem_flag_calls : (p : Parts) (who : Who) (c : SemFlagCall) → P p →
      P (record p { base = (sem_flag_call p.base p.objects.sem_flags who c).base; objects = record p.objects { sem_flags = (sem_flag_call p.base p.objects.sem_flags who c).table } })
  pub mutex_calls : (p : Parts) (who : Who) (c : MutexCall) → P p →
      P (record p { base = (mutex_call p.base p.objects.mutexes who c).base; objects = record p.objects { mutexes = (mutex_call p.base p.objects.mutexes who c).table } })
  pub mail_calls : (p : Parts) (who : Who) (c : MailCall) → P p →
      P (record { base = (mail_call (mail_parts p) who c).base; objects = record p.objects { mails = (mail_call (mail_parts p) who c).table }; memory = (mail_call (mail_parts p) who c).memory })
  pub pool_calls : (p : Parts) (who : Who) (c : PoolCall) → P p →
      P (record p { base = (pool_call (pool_parts p) who c).base; objects = record p.objects { pools = (pool_call (pool_parts p) who c).table } })
  pub time_calls : (p : Parts) (c : TimeCall) → P p →
      P (record p { base = (time_call p.base p.objects.clocks c).base; objects = record p.objects { clocks = (time_call p.base p.objects.clocks c).table } })
  pub context_calls : (p : Parts) (who : Who) (c : ContextCall) → P p →
      P (record p { base = (context_call p.base p.objects.contexts who c).base; objects = record p.objects { contexts = (context_call p.base p.objects.contexts who c).table } })
  pub device_calls : (p : Parts) (who : Who) (c : DeviceCall) → P p → P (with_devices p (device_call (dev_parts p) who c).parts)
  pub left : (p : Parts) (t : ℕ) (all : Bool) → P p → P (record p { objects = record p.objects { contexts = left p.objects.contexts t all } })
  pub freed : (p : Parts) (t : ℕ) (m : Mutexes) → free_last p.base p.objects.mutexes t ≡ Some m → P p → P (with_freed p m)
  pub deleted : (p : Parts) (t : ℕ) → P p → P (record p { base = delete p.base t })
  pub refreshed : Refreshed P
  pub served : Served P
  pub handed : Handed P
  pub handed_first : (p : Parts) → P p → P (record p { objects = record p.objects { devices = hand_first p.objects.devices } })
  pub messages : (p : Parts) → P p → P (record p { objects = record p.objects { devices = emptied p.objects.devices } })
  pub arrived : (p : Parts) (e : Ending) (q : DevParts) → arrive (dev_parts p) e ≡ Some q → P p → P (with_devices p q)
  pub released : (p : Parts) (t : ℕ) (answer : Answer) → P p → P (record p { base = release p.base t answer })
  pub again : (p : Parts) (what : DueKind) → P p → P (record p { base = again p.base p.objects.clocks what })
  pub taken : (p : Parts) → P p → P (record p { base = take_due p.base })
  pub advanced : (p : Parts) → P p → P (record p { base = advance p.base })
  pub flagged : (p : Parts) (flags : Flags) → P p → P (record p { base = set_flags p.base flags })
  pub turned : (p : Parts) (cur : Option ℕ) → P p → P (record p { base = record p.base { cur = cur } })
  pub emptied : (p : Parts) → P p → P (record p { base = record p.base { released = [] } })
  pub written : (p : Parts) (memory : List ℕ) → IsLong memory → P p → P (record p { memory = memory })

-- ---- ticks

settled_in : (P : Parts → Type 0) → IsKeptWhole P → (mode : Mode) (p : Parts) → P p → P (settle mode p)
settled_in P kept mode p has = settle_keeps P kept.refreshed kept.served kept.handed mode p (kept.few p has) has

-- an event that falls due
pub kept_fallen : (P : Parts → Type 0) → IsKeptWhole P → (mode : Mode) (st : State) (what : DueKind) → Has P st → Has P (fallen mode st what)
unfolding fallen
kept_fallen P kept mode st (dues.Wait t) has = settled_in P kept mode _ (kept.released (parts_of st) t (limit_answer st.base t) has)
kept_fallen P kept mode st (dues.Cyclic id) has = kept.again (parts_of st) (dues.Cyclic id) has
kept_fallen P kept mode st (dues.Alarm id) has = kept.again (parts_of st) (dues.Alarm id) has

due_cases : (P : Parts → Type 0) (left_over : ℕ) (mode : Mode) (st : State) (what : Option DueKind) → Has P st → ((kind : DueKind) → Has P (due_done left_over mode (fallen mode (record st { base = take_due st.base }) kind))) →
    Has P (elim what as (λ _. State) [ None ↦ st | Some kind ↦ due_done left_over mode (fallen mode (record st { base = take_due st.base }) kind) ])
due_cases P left_over mode st None has later = has
due_cases P left_over mode st (Some kind) has later = later kind

kept_due : (P : Parts → Type 0) → IsKeptWhole P → (left_over : ℕ) (mode : Mode) (st : State) → Has P st → Has P (due_done left_over mode st)
unfolding due_done
kept_due P kept zero mode st has = has
kept_due P kept (suc left_over) mode st has =
    let rest : State = record st { base = take_due st.base } in
    due_cases P left_over mode st (due_event st.base.time st.base.events) has
    (λ what. kept_due P kept left_over mode (fallen mode rest what) (kept_fallen P kept mode rest what (kept.taken (parts_of st) has)))

-- what survives all that is done in a tick survives the tick
pub kept_tick : (P : Parts → Type 0) → IsKeptWhole P → (mode : Mode) (st : State) → Has P st → Has P (tick_state mode st)
kept_tick P kept mode st has = kept_due P kept (length st.base.events) mode (record st { base = advance st.base }) (kept.advanced (parts_of st) has)

-- ---- what follows an event

pub kept_settled : (P : Parts → Type 0) → IsKeptWhole P → (mode : Mode) (p : Parts) → P p → P (settle mode p)
kept_settled P kept mode p has = settle_keeps P kept.refreshed kept.served kept.handed mode p (kept.few p has) has

pub kept_followed : (P : Parts → Type 0) → IsKeptWhole P → (script : Script) (mode : Mode) (n : ℕ) (st : State) → Has P st → Has P (followed script mode n st).state
kept_followed P kept script mode n st has = settled_keeps P kept.turned kept.emptied script mode n st (kept_settled P kept mode (parts_of st) has)

-- ---- calls

state_if : (P : State → Type 0) (test : Bool) (a b : State) → P a → P b → P (cond test a b)
state_if P true a b first second = first
state_if P false a b first second = second

kept_begun : (P : Parts → Type 0) → IsKeptWhole P → (st : State) (t : ℕ) (c : TaskCall) (value : ℤ) → Has P st → Has P (begun st t c value)
kept_begun P kept st t (task.CreTsk attributes body priority stack) value has = state_if (Has P) (within 1 255 value) (record st { bodies = slice_set st.bodies (natural value) body }) st has has
kept_begun P kept st t (task.StaTsk id code) value has =
    state_if (Has P) (int_eq value (pos 0)) (with_start st id code) st
    (state_if (Has P) (within 0 255 id) (with_frame st (natural id) (start_frame (slice_index st.bodies (natural id)) code (pos 0))) st has has) has
kept_begun P kept st t task.ExdTsk value has = kept.deleted (parts_of st) t has
kept_begun P kept st t _ value has = has

withdrawn_has : (P : Parts → Type 0) (st : State) (c : TimeCall) → Has P st → Has P (withdrawn st c)
withdrawn_has P st (time.DelCyc id) has = has
withdrawn_has P st (time.DelAlm id) has = has
withdrawn_has P st _ has = has

undefined_has : (P : Parts → Type 0) (st : State) (c : ContextCall) → Has P st → Has P (undefined st c)
undefined_has P st (context.DefInt number zero) has = has
undefined_has P st (context.DefInt number (suc body)) has = has
undefined_has P st context.DisDsp has = has
undefined_has P st context.EnaDsp has = has
undefined_has P st context.Di has = has
undefined_has P st context.Ei has = has
undefined_has P st context.RefSys has = has
undefined_has P st (context.DefSsy number body) has = has
undefined_has P st (context.RefSsy number) has = has
undefined_has P st (context.Svc number value) has = has

kept_noted : (P : Parts → Type 0) → IsKeptWhole P → (st : State) (t : ℕ) (c : Call) (value : ℤ) → Has P st → Has P (noted st t c value)
kept_noted P kept st t (calls.Task c) value has = kept_begun P kept st t c value has
kept_noted P kept st t (calls.Time c) value has = state_if (Has P) (int_eq value (pos 0)) (withdrawn st c) st (withdrawn_has P st c has) has
kept_noted P kept st t (calls.Context c) value has = state_if (Has P) (int_eq value (pos 0)) (undefined st c) st (undefined_has P st c has) has
kept_noted P kept st t _ value has = has

kept_answered : (P : Parts → Type 0) → IsKeptWhole P → (st : State) (t : ℕ) (c : Call) (outcome : Outcome) → Has P st → Has P (answered st t c outcome)
unfolding answered entered
kept_answered P kept st t c (outcomes.Returned result) has = kept_noted P kept (with_frame st t (give (frame_of st t) result)) t c result.value has
kept_answered P kept st t c outcomes.Blocked has = has
kept_answered P kept st t c (outcomes.Entered body) has = has

-- a call of any family
pub kept_family : (P : Parts → Type 0) → IsKeptWhole P → (st : State) (t : ℕ) (c : Call) → Has P st → Has P (family_call st t c).state
unfolding family_call
kept_family P kept st t (calls.Task c) has = kept.task_calls (parts_of st) (who_of t) c has
kept_family P kept st t (calls.SemFlag c) has = kept.sem_flag_calls (parts_of st) (who_of t) c has
kept_family P kept st t (calls.Mutex c) has = kept.mutex_calls (parts_of st) (who_of t) c has
kept_family P kept st t (calls.Mail c) has = kept.mail_calls (parts_of st) (who_of t) c has
kept_family P kept st t (calls.Pool c) has = kept.pool_calls (parts_of st) (who_of t) c has
kept_family P kept st t (calls.Time c) has = kept.time_calls (parts_of st) c has
kept_family P kept st t (calls.Context c) has = kept.context_calls (parts_of st) (who_of t) c has
kept_family P kept st t (calls.Device c) has = kept.device_calls (parts_of st) (who_of t) c has
kept_family P kept st t (calls.Hook c) has =
    kept.written (parts_of st) (hook_call (views_of st) st.hooks st.memory (who_of t) c).memory
    (hook_long (views_of st) st.hooks st.memory (who_of t) c (kept.long (parts_of st) has)) has

-- ---- tasks that end

freed_next : (P : Parts → Type 0) (left_over : ℕ) (mode : Mode) (t : ℕ) (p : Parts) (next : Option Mutexes) → P p → ((m : Mutexes) → next ≡ Some m → P (freed_within left_over mode t (settle mode (with_freed p m)))) →
    P (elim next as (λ _. Parts) [ None ↦ p | Some m ↦ freed_within left_over mode t (settle mode (with_freed p m)) ])
freed_next P left_over mode t p None has rest = has
freed_next P left_over mode t p (Some m) has rest = rest m refl

pub kept_freed : (P : Parts → Type 0) → IsKeptWhole P → (left_over : ℕ) (mode : Mode) (t : ℕ) (p : Parts) → P p → P (freed_within left_over mode t p)
unfolding freed_within
kept_freed P kept zero mode t p has = has
kept_freed P kept (suc left_over) mode t p has =
    freed_next P left_over mode t p (free_last p.base p.objects.mutexes t) has
    (λ m is. kept_freed P kept left_over mode t (settle mode (with_freed p m)) (kept_settled P kept mode (with_freed p m) (kept.freed p t m is has)))

kept_holdings : (P : Parts → Type 0) → IsKeptWhole P → (mode : Mode) (st : State) (t : ℕ) → Has P st → Has P (without_holdings mode st t)
kept_holdings P kept mode st zero has = has
kept_holdings P kept mode st (suc t) has = kept_freed P kept 64 mode (suc t) _ (kept.left (parts_of st) (suc t) true has)

pub kept_called : (P : Parts → Type 0) → IsKeptWhole P → (mode : Mode) (n : ℕ) (st : State) (t : ℕ) (c : Call) → Has P st → Has P (called mode n st t c).state
unfolding called
kept_called P kept mode n st t c has =
    let done = family_call st t c in
    kept_answered P kept (without_holdings mode done.state (ended_by t c done.outcome)) t c done.outcome
    (kept_holdings P kept mode done.state (ended_by t c done.outcome) (kept_family P kept st t c has))

-- ---- bodies

kept_ended : (P : Parts → Type 0) → IsKeptWhole P → (st : State) → Has P st → Has P (handler_ended st)
kept_ended P kept st has = kept.flagged (parts_of st) (record st.base.flags { handler = false }) has

returned_if : (P : Parts → Type 0) → IsKeptWhole P → (n : ℕ) (st : State) (t : ℕ) (value : ℤ) (none : Bool) → Has P st → Has P (cond none (record { state = st; lines = [] }) (returned n st t value)).state
unfolding returned
returned_if P kept n st t value true has = has
returned_if P kept n st t value false has = kept.left (parts_of st) t false has

kept_returned : (P : Parts → Type 0) → IsKeptWhole P → (n : ℕ) (st : State) (t : ℕ) (value : ℤ) → Has P st → Has P (body_returned n st t value).state
unfolding body_returned
kept_returned P kept n st zero value has = kept_ended P kept st has
kept_returned P kept n st (suc t) value has = returned_if P kept n st (suc t) value (depth_in st.objects.contexts (suc t) == 0) has

kept_fell : (P : Parts → Type 0) → IsKeptWhole P → (mode : Mode) (n : ℕ) (st : State) (t depth : ℕ) → Has P st → Has P (fell_in mode n st t depth).state
kept_fell P kept mode n st zero depth has = kept_returned P kept n st 0 (pos 0) has
kept_fell P kept mode n st (suc t) zero has = kept_called P kept mode n st (suc t) (calls.Task task.ExtTsk) has
kept_fell P kept mode n st (suc t) (suc depth) has = kept_returned P kept n st (suc t) (pos 0) has

kept_acted : (P : Parts → Type 0) → IsKeptWhole P → (mode : Mode) (n : ℕ) (st : State) (t : ℕ) (act : Act) → Has P st → Has P (acted mode n st t act).state
unfolding acted
kept_acted P kept mode n st t acts.Computed has = has
kept_acted P kept mode n st t (acts.Call c) has = kept_called P kept mode n st t c has
kept_acted P kept mode n st t (acts.Say text) has = has
kept_acted P kept mode n st t (acts.Return value) has = kept_returned P kept n st t value has
kept_acted P kept mode n st t acts.Fell has = kept_fell P kept mode n st t (depth_in st.objects.contexts t) has
kept_acted P kept mode n st t acts.Halt has = has

kept_ran : (P : Parts → Type 0) → IsKeptWhole P → (script : Script) (mode : Mode) (n : ℕ) (st : State) (t : ℕ) → Has P st → Has P (ran script mode n st t).state
unfolding ran
kept_ran P kept script mode n st t has =
    let result = fetch script (frame_of st t) st.memory in
    kept_acted P kept mode n (record (with_frame st t result.frame) { memory = result.memory }) t result.act (kept.written (parts_of st) result.memory (fetch_long script (frame_of st t) st.memory (kept.long (parts_of st) has)) has)

-- ---- handlers

kept_handler : (P : Parts → Type 0) → IsKeptWhole P → (st : State) → Has P st → P (record (parts_of st) { base = set_flags st.base (record st.base.flags { handler = true }) })
kept_handler P kept st has = kept.flagged (parts_of st) (record st.base.flags { handler = true }) has

kept_due_begun : (P : Parts → Type 0) → IsKeptWhole P → (n : ℕ) (st : State) (what : DueKind) → Has P st → Has P (due_begun n st what).state
unfolding due_begun handler_begun
kept_due_begun P kept n st (dues.Cyclic id) has = kept_handler P kept st has
kept_due_begun P kept n st (dues.Alarm id) has = kept_handler P kept st has
kept_due_begun P kept n st (dues.Wait t) has = has

kept_interrupt : (P : Parts → Type 0) → IsKeptWhole P → (n : ℕ) (st : State) (number : ℕ) → Has P st → Has P (interrupt_begun n st number).state
unfolding interrupt_begun handler_begun
kept_interrupt P kept n st number has = kept_handler P kept st has

-- ---- turns

ticked : (P : Parts → Type 0) → IsKeptWhole P → (mode : Mode) (n : ℕ) (st : State) → Has P st → Has P (tick mode n st).state
unfolding tick
ticked P kept mode n st has = kept_tick P kept mode st has

pub kept_turn : (P : Parts → Type 0) → IsKeptWhole P → (script : Script) (mode : Mode) (n : ℕ) (st : State) (turn : Turn) → Has P st → Has P (done_turn script mode n st turn).state
unfolding done_turn
kept_turn P kept script mode n st turns.Handler has = kept_ran P kept script mode n st 0 has
kept_turn P kept script mode n st (turns.Due what) has = kept_due_begun P kept n (record st { due = drop 1 st.due }) what has
kept_turn P kept script mode n st turns.Tick has = ticked P kept mode n (record st { ticks = st.ticks - 1 }) has
kept_turn P kept script mode n st (turns.Interrupt number) has = kept_interrupt P kept n st number has
kept_turn P kept script mode n st (turns.Task t) has = kept_ran P kept script mode n st t has
kept_turn P kept script mode n st turns.Idle has = ticked P kept mode n st has

-- what is done at a step, before all that follows it
pub kept_first : (P : Parts → Type 0) → IsKeptWhole P → (script : Script) (mode : Mode) (n : ℕ) (st : State) → Has P st → Has P (done_turn script mode n (made_pending script n st) (turn_of (made_pending script n st))).state
kept_first P kept script mode n st has = kept_turn P kept script mode n (made_pending script n st) (turn_of (made_pending script n st)) (pending_has P script n st has)

pub kept_worked : (P : Parts → Type 0) → IsKeptWhole P → (script : Script) (mode : Mode) (n : ℕ) (st : State) → Has P st → Has P (worked script mode n st).state
unfolding worked
kept_worked P kept script mode n st has =
    kept_followed P kept script mode n (done_turn script mode n (made_pending script n st) (turn_of (made_pending script n st))).state (kept_first P kept script mode n st has)

-- ---- every state that a machine comes to

step_whole : (P : Parts → Type 0) → IsKeptWhole P → (script : Script) (mode : Mode) (budget : ℕ) (st : State) → Has P st → Has P (worked script mode (st.steps + 1) st).state →
    Has P (after_pace st (step script mode budget st))
step_whole P kept script mode budget st has works = step_is (Has P) (λ now. kept.messages (parts_of now)) script mode budget st has (λ sync. kept.handed_first (parts_of st) has) works

pub kept_move : (P : Parts → Type 0) → IsKeptWhole P → (script : Script) (mode : Mode) (budget : ℕ) (st : State) (move : Move) → Has P st → Has P (after_move script mode budget st move)
kept_move P kept script mode budget st Steps has = step_whole P kept script mode budget st has (kept_worked P kept script mode (st.steps + 1) st has)
kept_move P kept script mode budget st (Arrives e) has =
    offer_has P (λ now. kept.messages (parts_of now)) script mode st e has
    (λ q is. kept_followed P kept script mode (st.steps + 1) (with_parts st (with_devices (parts_of st) q)) (kept.arrived (parts_of st) e q is has))

-- what survives each change holds in every state that a machine comes to, where it holds once the first task is dispatched
pub reached_whole : (P : Parts → Type 0) → IsKeptWhole P → (script : Script) (mode : Mode) (budget : ℕ) (moves : List Move) → Has P (start script).state →
    Has P (state_after script mode budget moves)
unfolding state_after
reached_whole P kept script mode budget [] has = has
reached_whole P kept script mode budget (move ∷ before) has =
    kept_move P kept script mode budget (state_after script mode budget before) move (reached_whole P kept script mode budget before has)
