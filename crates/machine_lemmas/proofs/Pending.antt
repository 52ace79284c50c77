-- What an event does to the ticks and the interrupts that are pending: a step takes at most one tick, and no interrupt comes
-- to be pending twice.
use Rattle.std.proofs.Common.{◌≡◌, ℕ, suc, zero, ◌+◌, ◌-◌, Bool, true, false, cond, List, [], ◌∷◌, Option, Some, None, ℤ, pos, refl, ◌∙◌, ap, subst, arith}
use Rattle.std.specs.Bool.{◌==◌}
use Rattle.std.specs.Prelude.{drop, filter, fold, length, slice_set, slice_index}
use Rattle.std.specs.Ordering.{int_eq}
use Rattle.tk_types.specs.declared.answer.Outcome.{Outcome}
use Rattle.tk_types.specs.declared.answer.Outcome.TheVariants as outcomes
use Rattle.tk_types.specs.declared.calls.Call.{Call}
use Rattle.tk_types.specs.declared.calls.Call.TheVariants as calls
use Rattle.tk_types.specs.declared.calls.ContextCall.{ContextCall}
use Rattle.tk_types.specs.declared.calls.ContextCall.TheVariants as context
use Rattle.tk_types.specs.declared.calls.TaskCall.{TaskCall}
use Rattle.tk_types.specs.declared.calls.TaskCall.TheVariants as task
use Rattle.tk_types.specs.declared.calls.TimeCall.{TimeCall}
use Rattle.tk_types.specs.declared.calls.TimeCall.TheVariants as time
use Rattle.tk_types.specs.declared.run.Act.{Act}
use Rattle.tk_types.specs.declared.run.Act.TheVariants as acts
use Rattle.tk_types.specs.declared.run.Mode.{Mode}
use Rattle.tk_types.specs.declared.script.Interrupt.{Interrupt}
use Rattle.tk_types.specs.declared.script.Script.{Script}
use Rattle.tk_types.specs.declared.task.Event.{Event as DueKind}
use Rattle.tk_types.specs.declared.task.Event.TheVariants as dues
use Rattle.tk_types.specs.declared.task.Release.{Release}
use Rattle.kernel_model.specs.Words.Checks.{natural, within}
use Rattle.kernel_model.specs.Words.Events.{due_event}
use Rattle.kernel_model.specs.Words.Orders.{without}
use Rattle.kernel_model.specs.Tasks.Base.{advance, take_due}
use Rattle.kernel_model.specs.Bodies.Statements.{fetch, give, start_frame}
use Rattle.context_model.specs.Contexts.Tables.{depth_in, handler_of}
use Rattle.machine_model.specs.declared.turns.Turn.{Turn}
use Rattle.machine_model.specs.declared.turns.Turn.TheVariants as turns
use Rattle.machine_model.specs.States.State.{State, frame_of, with_frame}
use Rattle.machine_model.specs.Events.Follow.{dispatched, follow_each, follow_release, followed, settled, turned, with_releases}
use Rattle.machine_model.specs.Events.Bodies.{begun, body_returned, entered, noted, returned, undefined, with_start, withdrawn}
use Rattle.machine_model.specs.Events.Calls.{answered, called, ended_by, family_call, without_holdings}
use Rattle.machine_model.specs.Events.Ticks.{due_done, fallen, tick}
use Rattle.machine_model.specs.Events.Handlers.{due_begun, handler_begun, insert_once, interrupt_begun, requested, with_requests}
use Rattle.machine_lemmas.specs.Taken.{ticks_taken}
use Rattle.machine_model.specs.Runs.Turns.{acted, done_turn, fell_in, ran, turn_of}
use Rattle.machine_model.specs.Runs.Step.{is_paced, made_pending, worked}

-- what is said of the ticks and the interrupts that are pending, and holds where an interrupt is taken back
pub record IsOfPending (Q : ℕ → List ℕ → Type 0) : Type 0 where
  pub taken_back : (ticks number : ℕ) (pending : List ℕ) → Q ticks pending → Q ticks (without number pending)

abbrev pub Of : (ℕ → List ℕ → Type 0) → State → Type 0
Of Q st = Q st.ticks st.pending

of_if : (Q : ℕ → List ℕ → Type 0) (test : Bool) (a b : State) → Of Q a → Of Q b → Of Q (cond test a b)
of_if Q true a b first second = first
of_if Q false a b first second = second

-- ---- what follows an event

each_of : (Q : ℕ → List ℕ → Type 0) (script : Script) (n : ℕ) (st : State) (released : List Release) → Of Q st → Of Q (follow_each script n st released).state
unfolding follow_each follow_release
each_of Q script n st [] has = has
each_of Q script n st (ended ∷ rest) has = each_of Q script n (follow_release script n st ended).state rest has

turned_of : (Q : ℕ → List ℕ → Type 0) (same : Bool) (n : ℕ) (st : State) → Of Q st → Of Q (turned same n st).state
turned_of Q true n st has = has
turned_of Q false n st has = has

pub followed_of : (Q : ℕ → List ℕ → Type 0) (script : Script) (mode : Mode) (n : ℕ) (st : State) → Of Q st → Of Q (followed script mode n st).state
unfolding followed with_releases dispatched
followed_of Q script mode n st has =
    let now : State = settled mode st in
    turned_of Q _ n (with_releases script n now).state (each_of Q script n (record now { base = record now.base { released = [] } }) now.base.released has)

-- ---- calls

begun_of : (Q : ℕ → List ℕ → Type 0) (st : State) (t : ℕ) (c : TaskCall) (value : ℤ) → Of Q st → Of Q (begun st t c value)
begun_of Q st t (task.CreTsk attributes body priority stack) value has = of_if Q (within 1 255 value) (record st { bodies = slice_set st.bodies (natural value) body }) st has has
begun_of Q st t (task.StaTsk id code) value has =
    of_if Q (int_eq value (pos 0)) (with_start st id code) st
    (of_if Q (within 0 255 id) (with_frame st (natural id) (start_frame (slice_index st.bodies (natural id)) code (pos 0))) st has has) has
begun_of Q st t _ value has = has

withdrawn_of : (Q : ℕ → List ℕ → Type 0) (st : State) (c : TimeCall) → Of Q st → Of Q (withdrawn st c)
withdrawn_of Q st (time.DelCyc id) has = has
withdrawn_of Q st (time.DelAlm id) has = has
withdrawn_of Q st _ has = has

undefined_of : (Q : ℕ → List ℕ → Type 0) → IsOfPending Q → (st : State) (c : ContextCall) → Of Q st → Of Q (undefined st c)
undefined_of Q is st (context.DefInt number zero) has = is.taken_back st.ticks (natural number) st.pending has
undefined_of Q is st (context.DefInt number (suc body)) has = has
undefined_of Q is st context.DisDsp has = has
undefined_of Q is st context.EnaDsp has = has
undefined_of Q is st context.Di has = has
undefined_of Q is st context.Ei has = has
undefined_of Q is st context.RefSys has = has
undefined_of Q is st (context.DefSsy number body) has = has
undefined_of Q is st (context.RefSsy number) has = has
undefined_of Q is st (context.Svc number value) has = has

noted_of : (Q : ℕ → List ℕ → Type 0) → IsOfPending Q → (st : State) (t : ℕ) (c : Call) (value : ℤ) → Of Q st → Of Q (noted st t c value)
noted_of Q is st t (calls.Task c) value has = begun_of Q st t c value has
noted_of Q is st t (calls.Time c) value has = of_if Q (int_eq value (pos 0)) (withdrawn st c) st (withdrawn_of Q st c has) has
noted_of Q is st t (calls.Context c) value has = of_if Q (int_eq value (pos 0)) (undefined st c) st (undefined_of Q is st c has) has
noted_of Q is st t _ value has = has

answered_of : (Q : ℕ → List ℕ → Type 0) → IsOfPending Q → (st : State) (t : ℕ) (c : Call) (outcome : Outcome) → Of Q st → Of Q (answered st t c outcome)
unfolding answered entered
answered_of Q is st t c (outcomes.Returned result) has = noted_of Q is (with_frame st t (give (frame_of st t) result)) t c result.value has
answered_of Q is st t c outcomes.Blocked has = has
answered_of Q is st t c (outcomes.Entered body) has = has

family_of : (Q : ℕ → List ℕ → Type 0) (st : State) (t : ℕ) (c : Call) → Of Q st → Of Q (family_call st t c).state
unfolding family_call
family_of Q st t (calls.Task c) has = has
family_of Q st t (calls.SemFlag c) has = has
family_of Q st t (calls.Mutex c) has = has
family_of Q st t (calls.Mail c) has = has
family_of Q st t (calls.Pool c) has = has
family_of Q st t (calls.Time c) has = has
family_of Q st t (calls.Context c) has = has
family_of Q st t (calls.Device c) has = has
family_of Q st t (calls.Hook c) has = has

holdings_of : (Q : ℕ → List ℕ → Type 0) (mode : Mode) (st : State) (t : ℕ) → Of Q st → Of Q (without_holdings mode st t)
holdings_of Q mode st zero has = has
holdings_of Q mode st (suc t) has = has

called_of : (Q : ℕ → List ℕ → Type 0) → IsOfPending Q → (mode : Mode) (n : ℕ) (st : State) (t : ℕ) (c : Call) → Of Q st → Of Q (called mode n st t c).state
unfolding called
called_of Q is mode n st t c has =
    let done = family_call st t c in
    answered_of Q is (without_holdings mode done.state (ended_by t c done.outcome)) t c done.outcome
    (holdings_of Q mode done.state (ended_by t c done.outcome) (family_of Q st t c has))

-- ---- bodies

service_of : (Q : ℕ → List ℕ → Type 0) (n : ℕ) (st : State) (t : ℕ) (value : ℤ) (none : Bool) → Of Q st → Of Q (cond none (record { state = st; lines = [] }) (returned n st t value)).state
unfolding returned
service_of Q n st t value true has = has
service_of Q n st t value false has = has

returned_of : (Q : ℕ → List ℕ → Type 0) (n : ℕ) (st : State) (t : ℕ) (value : ℤ) → Of Q st → Of Q (body_returned n st t value).state
unfolding body_returned
returned_of Q n st zero value has = has
returned_of Q n st (suc t) value has = service_of Q n st (suc t) value (depth_in st.objects.contexts (suc t) == 0) has

fell_of : (Q : ℕ → List ℕ → Type 0) → IsOfPending Q → (mode : Mode) (n : ℕ) (st : State) (t depth : ℕ) → Of Q st → Of Q (fell_in mode n st t depth).state
fell_of Q is mode n st zero depth has = returned_of Q n st 0 (pos 0) has
fell_of Q is mode n st (suc t) zero has = called_of Q is mode n st (suc t) (calls.Task task.ExtTsk) has
fell_of Q is mode n st (suc t) (suc depth) has = returned_of Q n st (suc t) (pos 0) has

acted_of : (Q : ℕ → List ℕ → Type 0) → IsOfPending Q → (mode : Mode) (n : ℕ) (st : State) (t : ℕ) (act : Act) → Of Q st → Of Q (acted mode n st t act).state
unfolding acted
acted_of Q is mode n st t acts.Computed has = has
acted_of Q is mode n st t (acts.Call c) has = called_of Q is mode n st t c has
acted_of Q is mode n st t (acts.Say text) has = has
acted_of Q is mode n st t (acts.Return value) has = returned_of Q n st t value has
acted_of Q is mode n st t acts.Fell has = fell_of Q is mode n st t (depth_in st.objects.contexts t) has
acted_of Q is mode n st t acts.Halt has = has

ran_of : (Q : ℕ → List ℕ → Type 0) → IsOfPending Q → (script : Script) (mode : Mode) (n : ℕ) (st : State) (t : ℕ) → Of Q st → Of Q (ran script mode n st t).state
unfolding ran
ran_of Q is script mode n st t has =
    let result = fetch script (frame_of st t) st.memory in
    acted_of Q is mode n (record (with_frame st t result.frame) { memory = result.memory }) t result.act has

-- ---- ticks

fallen_of : (Q : ℕ → List ℕ → Type 0) (mode : Mode) (st : State) (what : DueKind) → Of Q st → Of Q (fallen mode st what)
unfolding fallen
fallen_of Q mode st (dues.Wait t) has = has
fallen_of Q mode st (dues.Cyclic id) has = has
fallen_of Q mode st (dues.Alarm id) has = has

due_cases : (Q : ℕ → List ℕ → Type 0) (left_over : ℕ) (mode : Mode) (st : State) (what : Option DueKind) → Of Q st → ((kind : DueKind) → Of Q (due_done left_over mode (fallen mode (record st { base = take_due st.base }) kind))) →
    Of Q (elim what as (λ _. State) [ None ↦ st | Some kind ↦ due_done left_over mode (fallen mode (record st { base = take_due st.base }) kind) ])
due_cases Q left_over mode st None has later = has
due_cases Q left_over mode st (Some kind) has later = later kind

due_of : (Q : ℕ → List ℕ → Type 0) (left_over : ℕ) (mode : Mode) (st : State) → Of Q st → Of Q (due_done left_over mode st)
unfolding due_done
due_of Q zero mode st has = has
due_of Q (suc left_over) mode st has =
    let rest : State = record st { base = take_due st.base } in
    due_cases Q left_over mode st (due_event st.base.time st.base.events) has (λ what. due_of Q left_over mode (fallen mode rest what) (fallen_of Q mode rest what has))

tick_of : (Q : ℕ → List ℕ → Type 0) (mode : Mode) (n : ℕ) (st : State) → Of Q st → Of Q (tick mode n st).state
unfolding tick
tick_of Q mode n st has = due_of Q (length st.base.events) mode (record st { base = advance st.base }) has

begun_handler_of : (Q : ℕ → List ℕ → Type 0) (n : ℕ) (st : State) (what : DueKind) → Of Q st → Of Q (due_begun n st what).state
unfolding due_begun handler_begun
begun_handler_of Q n st (dues.Cyclic id) has = has
begun_handler_of Q n st (dues.Alarm id) has = has
begun_handler_of Q n st (dues.Wait t) has = has

interrupt_of : (Q : ℕ → List ℕ → Type 0) (n : ℕ) (st : State) (number : ℕ) → Q st.ticks (without number st.pending) → Of Q (interrupt_begun n st number).state
unfolding interrupt_begun handler_begun
interrupt_of Q n st number has = has

-- ---- turns

-- a turn takes its tick, and no interrupt becomes pending by it
pub turn_of_pending : (Q : ℕ → List ℕ → Type 0) → IsOfPending Q → (script : Script) (mode : Mode) (n : ℕ) (st : State) (turn : Turn) → Q (st.ticks - ticks_taken turn) st.pending → (0 - 0 ≡ 0 → st.ticks - 0 ≡ st.ticks) → Of Q (done_turn script mode n st turn).state
unfolding done_turn
turn_of_pending Q is script mode n st turns.Handler has whole = ran_of Q is script mode n st 0 (subst (λ (ticks : ℕ). Q ticks st.pending) (whole refl) has)
turn_of_pending Q is script mode n st (turns.Due what) has whole = begun_handler_of Q n (record st { due = drop 1 st.due }) what (subst (λ (ticks : ℕ). Q ticks st.pending) (whole refl) has)
turn_of_pending Q is script mode n st turns.Tick has whole = tick_of Q mode n (record st { ticks = st.ticks - 1 }) has
turn_of_pending Q is script mode n st (turns.Interrupt number) has whole = interrupt_of Q n st number (is.taken_back st.ticks number st.pending (subst (λ (ticks : ℕ). Q ticks st.pending) (whole refl) has))
turn_of_pending Q is script mode n st (turns.Task t) has whole = ran_of Q is script mode n st t (subst (λ (ticks : ℕ). Q ticks st.pending) (whole refl) has)
turn_of_pending Q is script mode n st turns.Idle has whole = tick_of Q mode n st (subst (λ (ticks : ℕ). Q ticks st.pending) (whole refl) has)

pub worked_of : (Q : ℕ → List ℕ → Type 0) → IsOfPending Q → (script : Script) (mode : Mode) (n : ℕ) (st : State) → Q ((made_pending script n st).ticks - ticks_taken (turn_of (made_pending script n st))) (made_pending script n st).pending → Of Q (worked script mode n st).state
unfolding worked
worked_of Q is script mode n st has =
    let now : State = made_pending script n st in
    followed_of Q script mode n (done_turn script mode n now (turn_of now)).state (turn_of_pending Q is script mode n now (turn_of now) has (λ same. omega arith))

-- ---- ticks

abbrev SameTicks : ℕ → ℕ → List ℕ → Type 0
SameTicks ticks now pending = now ≡ ticks

-- a step takes the tick whose turn it is, and no other
pub ticks_after : (script : Script) (mode : Mode) (n : ℕ) (st : State) → (worked script mode n st).state.ticks ≡ (made_pending script n st).ticks - ticks_taken (turn_of (made_pending script n st))
ticks_after script mode n st = worked_of (SameTicks ((made_pending script n st).ticks - ticks_taken (turn_of (made_pending script n st)))) (record { taken_back = λ ticks number pending same. same }) script mode n st refl

requests_ticks : (irqs : List Interrupt) (st : State) → (fold (λ before (irq : Interrupt). requested before irq.number) st irqs).ticks ≡ st.ticks
requests_ticks [] st = refl
requests_ticks (irq ∷ later) st = requests_ticks later (requested st irq.number) ∙ requested_ticks (handler_of st.objects.contexts irq.number == 0) st (record st { pending = insert_once irq.number st.pending }) refl
  where
    requested_ticks : (none : Bool) (a b : State) → b.ticks ≡ a.ticks → (cond none a b).ticks ≡ a.ticks
    requested_ticks true a b same = refl
    requested_ticks false a b same = same

paced_ticks : (test : Bool) (st : State) → (cond test (record st { ticks = st.ticks + 1 }) st).ticks ≡ st.ticks + cond test 1 0
paced_ticks true st = refl
paced_ticks false st = omega arith

-- a tick becomes pending where the step is one of the pace
pub ticks_made : (script : Script) (n : ℕ) (st : State) → (made_pending script n st).ticks ≡ st.ticks + cond (is_paced script.pace n) 1 0
unfolding with_requests
ticks_made script n st =
    paced_ticks (is_paced script.pace n) (with_requests script n st)
    ∙ ap (λ ticks. ticks + cond (is_paced script.pace n) 1 0) (requests_ticks (filter (λ irq. irq.step == n) script.irqs) st)
