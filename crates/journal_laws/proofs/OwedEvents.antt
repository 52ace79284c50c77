-- How many endings may still come, through the events of a run: a step adds one at most, with its one call, and an ending that
-- arrives leaves one less.
use Rattle.std.proofs.Common.{◌≡◌, ℕ, zero, suc, ◌+◌, ◌-◌, ◌≤◌, Bool, true, false, cond, [], length, Option, Some, None, ℤ, pos, refl, ap, arith}
use Rattle.std.specs.Bool.{◌==◌}
use Rattle.std.specs.Prelude.{slice_index, slice_set}
use Rattle.std.specs.Ordering.{int_eq}
use Rattle.tk_types.specs.declared.answer.Outcome.{Outcome}
use Rattle.tk_types.specs.declared.answer.Outcome.TheVariants as outcomes
use Rattle.tk_types.specs.declared.calls.Call.{Call}
use Rattle.tk_types.specs.declared.calls.Call.TheVariants as calls
use Rattle.tk_types.specs.declared.calls.ContextCall.{ContextCall}
use Rattle.tk_types.specs.declared.calls.ContextCall.TheVariants as context
use Rattle.tk_types.specs.declared.calls.TaskCall.{TaskCall}
use Rattle.tk_types.specs.declared.calls.TaskCall.TheVariants as task
use Rattle.tk_types.specs.declared.calls.TimeCall.{TimeCall}
use Rattle.tk_types.specs.declared.calls.TimeCall.TheVariants as time
use Rattle.tk_types.specs.declared.run.Act.{Act}
use Rattle.tk_types.specs.declared.run.Act.TheVariants as acts
use Rattle.tk_types.specs.declared.run.Mode.{Mode}
use Rattle.tk_types.specs.declared.script.Script.{Script}
use Rattle.tk_types.specs.declared.task.Event.{Event as DueKind}
use Rattle.tk_types.specs.declared.task.Event.TheVariants as dues
use Rattle.kernel_model.specs.Words.Checks.{natural, within}
use Rattle.kernel_model.specs.Words.Events.{due_event}
use Rattle.kernel_model.specs.Tasks.Base.{Base, advance, release, take_due}
use Rattle.kernel_model.specs.Bodies.Statements.{fetch, give, start_frame}
use Rattle.context_model.specs.declared.cyclic_row.CyclicRow.{CyclicRow}
use Rattle.context_model.specs.Clocks.Tables.{Clocks, again, again_in, cyclic_at}
use Rattle.context_model.specs.Contexts.Tables.{depth_in, left}
use Rattle.device_model.specs.Devices.Tables.{Devices}
use Rattle.machine_model.specs.declared.turns.Turn.{Turn}
use Rattle.machine_model.specs.declared.turns.Turn.TheVariants as turns
use Rattle.machine_model.specs.States.Objects.{Parts, dev_parts, mail_parts, pool_parts}
use Rattle.machine_model.specs.States.State.{State, frame_of, parts_of, who_of, with_frame}
use Rattle.machine_model.specs.Events.Follow.{followed}
use Rattle.machine_model.specs.Events.Bodies.{begun, body_returned, entered, noted, returned, undefined, with_start, withdrawn}
use Rattle.machine_model.specs.Events.Calls.{answered, called, ended_by, family_call, without_holdings}
use Rattle.machine_model.specs.Events.Handlers.{due_begun, first_taken, handler_begun, interrupt_begun}
use Rattle.machine_model.specs.Events.Ticks.{due_done, fallen, limit_answer, tick}
use Rattle.machine_model.specs.Runs.Turns.{acted, done_turn, fell_in, ran, turn_of}
use Rattle.machine_model.specs.Runs.Step.{made_pending, worked}
use Rattle.machine_lemmas.proofs.Walk.{pending_has, settled_keeps}
use Rattle.count_lemmas.proofs.Contexts.{context_calls_make}
use Rattle.count_lemmas.proofs.Mails.{mail_calls_make}
use Rattle.count_lemmas.proofs.Making.{IsMaking}
use Rattle.count_lemmas.proofs.Mutexes.{mutex_calls_make}
use Rattle.count_lemmas.proofs.Pools.{pool_calls_make}
use Rattle.count_lemmas.proofs.SemFlags.{sem_flag_calls_make}
use Rattle.count_lemmas.proofs.Tasks.{task_calls_make}
use Rattle.count_lemmas.proofs.Times.{time_calls_make}
use Rattle.journal_laws.specs.Owed.{asks_in, owed}
use Rattle.journal_laws.proofs.Asks.{Asks, asks_making, asks_quiet}
use Rattle.journal_laws.proofs.OwedDevices.{device_call_owes}
use Rattle.journal_laws.proofs.OwedServings.{Within, freed_few, released_owes, settle_within}

-- at most so many endings may still come in a state
abbrev pub Owing : ℕ → State → Type 0
Owing n st = Within n (parts_of st)

either_owing : (n : ℕ) (test : Bool) (one other : State) → Owing n one → Owing n other → Owing n (cond test one other)
either_owing n true one other first second = first
either_owing n false one other first second = second

one_more : (n : ℕ) (st : State) → Owing n st → Owing (n + 1) st
one_more n st has = omega (arith, has)

-- ---- what follows an event

pub followed_owing : (n : ℕ) (script : Script) (mode : Mode) (number : ℕ) (st : State) → Owing n st → Owing n (followed script mode number st).state
followed_owing n script mode number st has = settled_keeps (Within n) (λ p cur is. is) (λ p is. is) script mode number st (settle_within n mode (parts_of st) has)

-- ---- calls

-- a call of another family than devices leaves these, and one task more asks at most
family_base : (n : ℕ) (p : Parts) (c : Base) → Asks p.objects.devices.wishes (asks_in p.objects.devices.wishes p.base.tasks + 1) c → Within n p → owed c p.objects.devices ≤ n + 1
family_base n p c few has = omega (arith, few, has)

abbrev few : State → Base → Type 0
few st = Asks st.objects.devices.wishes (asks_in st.objects.devices.wishes st.base.tasks)

abbrev more : State → Base → Type 0
more st = Asks st.objects.devices.wishes (asks_in st.objects.devices.wishes st.base.tasks + 1)

making : (st : State) → IsMaking (few st) (more st)
making st = asks_making st.objects.devices.wishes (asks_in st.objects.devices.wishes st.base.tasks)

family_owing : (n : ℕ) (st : State) (t : ℕ) (c : Call) → Owing n st → Owing (n + 1) (family_call st t c).state
unfolding family_call
family_owing n st t (calls.Device c) has = let adds = device_call_owes (dev_parts (parts_of st)) (who_of t) c in omega (arith, adds, has)
family_owing n st t (calls.Task c) has = family_base n (parts_of st) (family_call st t (calls.Task c)).state.base (task_calls_make (few st) (more st) (making st) st.base st.objects.mutexes (who_of t) c (omega arith)) has
family_owing n st t (calls.SemFlag c) has = family_base n (parts_of st) (family_call st t (calls.SemFlag c)).state.base (sem_flag_calls_make (few st) (more st) (making st) st.base st.objects.sem_flags (who_of t) c (omega arith)) has
family_owing n st t (calls.Mutex c) has = family_base n (parts_of st) (family_call st t (calls.Mutex c)).state.base (mutex_calls_make (few st) (more st) (making st) st.base st.objects.mutexes (who_of t) c (omega arith)) has
family_owing n st t (calls.Mail c) has = family_base n (parts_of st) (family_call st t (calls.Mail c)).state.base (mail_calls_make (few st) (more st) (making st) (mail_parts (parts_of st)) (who_of t) c (omega arith)) has
family_owing n st t (calls.Pool c) has = family_base n (parts_of st) (family_call st t (calls.Pool c)).state.base (pool_calls_make (few st) (more st) (making st) (pool_parts (parts_of st)) (who_of t) c (omega arith)) has
family_owing n st t (calls.Time c) has = family_base n (parts_of st) (family_call st t (calls.Time c)).state.base (time_calls_make (few st) (more st) (making st) st.base st.objects.clocks c (omega arith)) has
family_owing n st t (calls.Context c) has = family_base n (parts_of st) (family_call st t (calls.Context c)).state.base (context_calls_make (few st) (more st) (making st) st.base st.objects.contexts (who_of t) c (omega arith)) has
family_owing n st t (calls.Hook c) has = omega (arith, has)

-- ---- what becomes of a call

begun_owing : (n : ℕ) (st : State) (t : ℕ) (c : TaskCall) (value : ℤ) → Owing n st → Owing n (begun st t c value)
begun_owing n st t (task.CreTsk attributes body priority stack) value has = either_owing n (within 1 255 value) (record st { bodies = slice_set st.bodies (natural value) body }) st has has
begun_owing n st t (task.StaTsk id code) value has =
    either_owing n (int_eq value (pos 0)) (with_start st id code) st
    (either_owing n (within 0 255 id) (with_frame st (natural id) (start_frame (slice_index st.bodies (natural id)) code (pos 0))) st has has) has
begun_owing n st t task.ExdTsk value has =
    let wishes = st.objects.devices.wishes in
    let less = (asks_quiet wishes (asks_in wishes st.base.tasks)).deleted st.base t (omega arith) in
    omega (arith, less, has)
begun_owing n st t _ value has = has

withdrawn_owing : (n : ℕ) (st : State) (c : TimeCall) → Owing n st → Owing n (withdrawn st c)
withdrawn_owing n st (time.DelCyc id) has = has
withdrawn_owing n st (time.DelAlm id) has = has
withdrawn_owing n st _ has = has

undefined_owing : (n : ℕ) (st : State) (c : ContextCall) → Owing n st → Owing n (undefined st c)
undefined_owing n st (context.DefInt number zero) has = has
undefined_owing n st (context.DefInt number (suc body)) has = has
undefined_owing n st context.DisDsp has = has
undefined_owing n st context.EnaDsp has = has
undefined_owing n st context.Di has = has
undefined_owing n st context.Ei has = has
undefined_owing n st context.RefSys has = has
undefined_owing n st (context.DefSsy number body) has = has
undefined_owing n st (context.RefSsy number) has = has
undefined_owing n st (context.Svc number value) has = has

noted_owing : (n : ℕ) (st : State) (t : ℕ) (c : Call) (value : ℤ) → Owing n st → Owing n (noted st t c value)
noted_owing n st t (calls.Task c) value has = begun_owing n st t c value has
noted_owing n st t (calls.Time c) value has = either_owing n (int_eq value (pos 0)) (withdrawn st c) st (withdrawn_owing n st c has) has
noted_owing n st t (calls.Context c) value has = either_owing n (int_eq value (pos 0)) (undefined st c) st (undefined_owing n st c has) has
noted_owing n st t _ value has = has

answered_owing : (n : ℕ) (st : State) (t : ℕ) (c : Call) (outcome : Outcome) → Owing n st → Owing n (answered st t c outcome)
unfolding answered entered
answered_owing n st t c (outcomes.Returned result) has = noted_owing n (with_frame st t (give (frame_of st t) result)) t c result.value has
answered_owing n st t c outcomes.Blocked has = has
answered_owing n st t c (outcomes.Entered body) has = has

holdings_owing : (n : ℕ) (mode : Mode) (st : State) (t : ℕ) → Owing n st → Owing n (without_holdings mode st t)
holdings_owing n mode st zero has = has
holdings_owing n mode st (suc t) has = freed_few n 64 mode (suc t) (record (parts_of st) { objects = record st.objects { contexts = left st.objects.contexts (suc t) true } }) has

-- a call adds one at most, with all that follows from it
called_owing : (n : ℕ) (mode : Mode) (number : ℕ) (st : State) (t : ℕ) (c : Call) → Owing n st → Owing (n + 1) (called mode number st t c).state
unfolding called
called_owing n mode number st t c has =
    let done = family_call st t c in
    answered_owing (n + 1) (without_holdings mode done.state (ended_by t c done.outcome)) t c done.outcome
    (holdings_owing (n + 1) mode done.state (ended_by t c done.outcome) (family_owing n st t c has))

-- ---- statements

returned_if : (n number : ℕ) (st : State) (t : ℕ) (value : ℤ) (none : Bool) → Owing n st → Owing n (cond none (record { state = st; lines = [] }) (returned number st t value)).state
unfolding returned
returned_if n number st t value true has = has
returned_if n number st t value false has = has

returned_owing : (n number : ℕ) (st : State) (t : ℕ) (value : ℤ) → Owing n st → Owing n (body_returned number st t value).state
unfolding body_returned
returned_owing n number st zero value has = has
returned_owing n number st (suc t) value has = returned_if n number st (suc t) value (depth_in st.objects.contexts (suc t) == 0) has

fell_owing : (n : ℕ) (mode : Mode) (number : ℕ) (st : State) (t depth : ℕ) → Owing n st → Owing (n + 1) (fell_in mode number st t depth).state
fell_owing n mode number st zero depth has = returned_owing (n + 1) number st 0 (pos 0) (one_more n st has)
fell_owing n mode number st (suc t) zero has = called_owing n mode number st (suc t) (calls.Task task.ExtTsk) has
fell_owing n mode number st (suc t) (suc depth) has = returned_owing (n + 1) number st (suc t) (pos 0) (one_more n st has)

acted_owing : (n : ℕ) (mode : Mode) (number : ℕ) (st : State) (t : ℕ) (act : Act) → Owing n st → Owing (n + 1) (acted mode number st t act).state
unfolding acted
acted_owing n mode number st t acts.Computed has = one_more n st has
acted_owing n mode number st t (acts.Call c) has = called_owing n mode number st t c has
acted_owing n mode number st t (acts.Say text) has = one_more n st has
acted_owing n mode number st t (acts.Return value) has = returned_owing (n + 1) number st t value (one_more n st has)
acted_owing n mode number st t acts.Fell has = fell_owing n mode number st t (depth_in st.objects.contexts t) has
acted_owing n mode number st t acts.Halt has = one_more n st has

ran_owing : (n : ℕ) (script : Script) (mode : Mode) (number : ℕ) (st : State) (t : ℕ) → Owing n st → Owing (n + 1) (ran script mode number st t).state
unfolding ran
ran_owing n script mode number st t has =
    let result = fetch script (frame_of st t) st.memory in
    acted_owing n mode number (record (with_frame st t result.frame) { memory = result.memory }) t result.act has

-- ---- ticks and handlers

again_tasks : (b : Base) (what : DueKind) (slot : Option CyclicRow) → (again_in b what slot).tasks ≡ b.tasks
again_tasks b what None = refl
again_tasks b what (Some k) = refl

again_same : (b : Base) (c : Clocks) (what : DueKind) → (again b c what).tasks ≡ b.tasks
unfolding again
again_same b c (dues.Wait t) = refl
again_same b c (dues.Cyclic id) = again_tasks b (dues.Cyclic id) (cyclic_at c id)
again_same b c (dues.Alarm id) = refl

again_owes : (n : ℕ) (b : Base) (c : Clocks) (what : DueKind) (dv : Devices) → owed b dv ≤ n → owed (again b c what) dv ≤ n
again_owes n b c what dv has = let same : asks_in dv.wishes (again b c what).tasks ≡ asks_in dv.wishes b.tasks = ap (asks_in dv.wishes) (again_same b c what) in omega (arith, same, has)

fallen_owing : (n : ℕ) (mode : Mode) (st : State) (what : DueKind) → Owing n st → Owing n (fallen mode st what)
unfolding fallen
fallen_owing n mode st (dues.Wait t) has =
    let less = released_owes st.base st.objects.devices t (limit_answer st.base t) in
    settle_within n mode (record (parts_of st) { base = release st.base t (limit_answer st.base t) }) (omega (arith, less, has))
fallen_owing n mode st (dues.Cyclic id) has = again_owes n st.base st.objects.clocks (dues.Cyclic id) st.objects.devices has
fallen_owing n mode st (dues.Alarm id) has = again_owes n st.base st.objects.clocks (dues.Alarm id) st.objects.devices has

due_cases : (n left_over : ℕ) (mode : Mode) (st : State) (next : Option DueKind) → Owing n st → ((what : DueKind) → Owing n (due_done left_over mode (fallen mode (record st { base = take_due st.base }) what))) →
    Owing n (elim next as (λ _. State) [ None ↦ st | Some what ↦ due_done left_over mode (fallen mode (record st { base = take_due st.base }) what) ])
due_cases n left_over mode st None has later = has
due_cases n left_over mode st (Some what) has later = later what

due_owing : (n left_over : ℕ) (mode : Mode) (st : State) → Owing n st → Owing n (due_done left_over mode st)
unfolding due_done
due_owing n zero mode st has = has
due_owing n (suc left_over) mode st has =
    let rest : State = record st { base = take_due st.base } in
    due_cases n left_over mode st (due_event st.base.time st.base.events) has (λ what. due_owing n left_over mode (fallen mode rest what) (fallen_owing n mode rest what has))

tick_owing : (n : ℕ) (mode : Mode) (number : ℕ) (st : State) → Owing n st → Owing n (tick mode number st).state
unfolding tick
tick_owing n mode number st has = due_owing n (length st.base.events) mode (record st { base = advance st.base }) has

due_begun_owing : (n number : ℕ) (st : State) (what : DueKind) → Owing n st → Owing n (due_begun number st what).state
unfolding due_begun handler_begun
due_begun_owing n number st (dues.Cyclic id) has = has
due_begun_owing n number st (dues.Alarm id) has = has
due_begun_owing n number st (dues.Wait t) has = has

interrupt_owing : (n number : ℕ) (st : State) (irq : ℕ) → Owing n st → Owing n (interrupt_begun number st irq).state
unfolding interrupt_begun handler_begun
interrupt_owing n number st irq has = has

-- ---- a step

turn_owing : (n : ℕ) (script : Script) (mode : Mode) (number : ℕ) (st : State) (turn : Turn) → Owing n st → Owing (n + 1) (done_turn script mode number st turn).state
unfolding done_turn
turn_owing n script mode number st turns.Handler has = ran_owing n script mode number st 0 has
turn_owing n script mode number st (turns.Due what) has = one_more n (due_begun number (first_taken st) what).state (due_begun_owing n number (first_taken st) what has)
turn_owing n script mode number st turns.Tick has = one_more n (tick mode number (record st { ticks = st.ticks - 1 })).state (tick_owing n mode number (record st { ticks = st.ticks - 1 }) has)
turn_owing n script mode number st (turns.Interrupt irq) has = one_more n (interrupt_begun number st irq).state (interrupt_owing n number st irq has)
turn_owing n script mode number st (turns.Task t) has = ran_owing n script mode number st t has
turn_owing n script mode number st turns.Idle has = one_more n (tick mode number st).state (tick_owing n mode number st has)

-- what is done at a step adds one at most
pub worked_owing : (n : ℕ) (script : Script) (mode : Mode) (number : ℕ) (st : State) → Owing n st → Owing (n + 1) (worked script mode number st).state
unfolding worked
worked_owing n script mode number st has =
    let now : State = made_pending script number st in
    followed_owing (n + 1) script mode number (done_turn script mode number now (turn_of now)).state (turn_owing n script mode number now (turn_of now) (pending_has (Within n) script number st has))
