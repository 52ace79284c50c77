-- Each event of the machine has few lines that a summary counts.
use Rattle.std.proofs.Common.{ℕ, zero, suc, ◌+◌, ◌≤◌, ◌≡◌, Bool, true, false, List, [], ◌∷◌, ◌++◌, Option, Some, None, length, refl, ap, subst, arith}
use Rattle.std.specs.Prelude.{ℤ, cond, count_by, ◌==◌, if◌then◌else◌, pos}
use Rattle.std.specs.Option.{option_map}
use Rattle.std.proofs.lemmas.List.Sums.{count_by-le-length}
use Rattle.tk_types.specs.declared.answer.Outcome.{Outcome}
use Rattle.tk_types.specs.declared.answer.Outcome.TheVariants as outcomes
use Rattle.tk_types.specs.declared.call_name.CallName.{CallName}
use Rattle.tk_types.specs.declared.calls.Call.{Call}
use Rattle.tk_types.specs.declared.calls.Call.TheVariants as calls
use Rattle.tk_types.specs.declared.calls.TaskCall.TheVariants as tasks
use Rattle.tk_types.specs.declared.line.HandlerKind.{HandlerKind}
use Rattle.tk_types.specs.declared.line.Hook.{Hook}
use Rattle.tk_types.specs.declared.line.Line.{Line}
use Rattle.tk_types.specs.declared.line.Line.TheVariants as lines
use Rattle.tk_types.specs.declared.run.Act.{Act}
use Rattle.tk_types.specs.declared.run.Act.TheVariants as acts
use Rattle.tk_types.specs.declared.run.Mode.{Mode}
use Rattle.tk_types.specs.declared.script.Script.{Script}
use Rattle.tk_types.specs.declared.task.Event.{Event as DueKind}
use Rattle.tk_types.specs.declared.task.Event.TheVariants as dues
use Rattle.tk_types.specs.declared.task.Release.{Release}
use Rattle.tk_types.specs.Calls.{name_of}
use Rattle.kernel_model.specs.Bodies.Statements.{Fetched, call_before, fetch}
use Rattle.context_model.specs.Contexts.Tables.{depth_in}
use Rattle.device_model.specs.declared.messages.Ending.{Ending}
use Rattle.device_model.specs.Devices.Endings.{DevParts, arrive}
use Rattle.machine_model.specs.declared.turns.Turn.{Turn}
use Rattle.machine_model.specs.declared.turns.Turn.TheVariants as turns
use Rattle.machine_model.specs.States.Objects.{dev_parts, with_devices}
use Rattle.machine_model.specs.States.State.{State, frame_of, parts_of, with_frame, with_parts}
use Rattle.machine_model.specs.Events.Arrivals.{after_arrival, arrived, ending_line}
use Rattle.machine_model.specs.Events.Bodies.{body_returned, returned}
use Rattle.machine_model.specs.Events.Calls.{call_lines, called, family_call}
use Rattle.machine_model.specs.Events.Follow.{Event, dispatched, follow_each, follow_release, followed, hooked, release_line, settled, turned, with_releases}
use Rattle.machine_model.specs.Events.Handlers.{due_begun, first_taken, handler_begun, interrupt_begun}
use Rattle.machine_model.specs.Events.Ticks.{tick}
use Rattle.machine_model.specs.Runs.Step.{made_pending, worked}
use Rattle.machine_model.specs.Runs.Trace.{start}
use Rattle.machine_model.specs.Runs.Turns.{acted, done_turn, fell_in, ran, turn_of}
use Rattle.machine_model.specs.States.State.{state_start}
use Rattle.tk_gen.specs.Counts.{IsPlain}
use Rattle.tk_gen.proofs.Counted.{count_both}

-- ---- what follows an event

-- none of these lines is of a kind
abbrev None_of : (Line → Bool) → List Line → Type 0
None_of p all = count_by p all ≡ 0

one_not : (p : Line → Bool) (line : Line) (rest : List Line) → p line ≡ false → None_of p rest → None_of p (line ∷ rest)
one_not p line rest not none =
    let both : count_by p (line ∷ rest) ≡ count_by p (line ∷ []) + count_by p rest = count_both p (line ∷ []) rest in
    let single : count_by p (line ∷ []) ≡ 0 = ap (λ (test : Bool). let n : ℕ = 0 + cond test 1 0 in n) not in
    omega (arith, both, single, none)

both_none : (p : Line → Bool) (xs ys : List Line) → None_of p xs → None_of p ys → None_of p (xs ++ ys)
both_none p xs ys first second = let both = count_both p xs ys in omega (arith, both, first, second)

released_none : (p : Line → Bool) → IsPlain p → (n : ℕ) (ended : Release) (call : Option CallName) → None_of p (release_line n ended call)
released_none p plain n ended None = refl
released_none p plain n ended (Some name) = one_not p (lines.Released n ended.task name ended.answer) [] (plain.released n ended.task name ended.answer) refl

each_none : (p : Line → Bool) → IsPlain p → (script : Script) (n : ℕ) (st : State) (all : List Release) → None_of p (follow_each script n st all).lines
unfolding follow_each follow_release
each_none p plain script n st [] = refl
each_none p plain script n st (ended ∷ rest) =
    both_none p (follow_release script n st ended).lines (follow_each script n (follow_release script n st ended).state rest).lines
    (released_none p plain n ended (call_before script (frame_of st ended.task))) (each_none p plain script n (follow_release script n st ended).state rest)

hooked_none : (p : Line → Bool) → IsPlain p → (set : Bool) (n : ℕ) (hook : Hook) (task : ℕ) → None_of p (hooked set n hook (lines.Dispatch n task))
hooked_none p plain true n hook task =
    one_not p (lines.Hook n hook) (lines.Dispatch n task ∷ []) (plain.hook n hook) (one_not p (lines.Dispatch n task) [] (plain.dispatch n task) refl)
hooked_none p plain false n hook task = one_not p (lines.Dispatch n task) [] (plain.dispatch n task) refl

turned_none : (p : Line → Bool) → IsPlain p → (stays : Bool) (n : ℕ) (st : State) → None_of p (turned stays n st).lines
turned_none p plain true n st = refl
turned_none p plain false n st = hooked_none p plain st.hooks.dsp n _ _

dispatched_none : (p : Line → Bool) → IsPlain p → (n : ℕ) (st : State) → None_of p (dispatched n st).lines
unfolding dispatched
dispatched_none p plain n st = turned_none p plain _ n st

followed_none : (p : Line → Bool) → IsPlain p → (script : Script) (mode : Mode) (n : ℕ) (st : State) → None_of p (followed script mode n st).lines
unfolding followed with_releases
followed_none p plain script mode n st =
    let released : Event = with_releases script n (settled mode st) in
    both_none p released.lines (dispatched n released.state).lines (each_none p plain script n _ _) (dispatched_none p plain n released.state)

-- ---- what is done at a step

abbrev IsShort : List Line → Type 0
IsShort all = length all ≤ 2

hooked_short : (set : Bool) (n : ℕ) (hook : Hook) (line : Line) → IsShort (hooked set n hook line)
hooked_short true n hook line = omega arith
hooked_short false n hook line = omega arith

call_short : (hook : Bool) (n t : ℕ) (name : CallName) (outcome : Outcome) → IsShort (call_lines hook n t name outcome)
call_short hook n t name (outcomes.Returned result) = hooked_short hook n _ _
call_short hook n t name outcomes.Blocked = hooked_short hook n _ _
call_short hook n t name (outcomes.Entered body) = omega arith

called_short : (mode : Mode) (n : ℕ) (st : State) (t : ℕ) (call : Call) → IsShort (called mode n st t call).lines
unfolding called
called_short mode n st t call = call_short st.hooks.svc n t (name_of call) (family_call st t call).outcome

returned_by : (none : Bool) (n : ℕ) (st : State) (t : ℕ) (value : ℤ) → IsShort (if none then record { state = st; lines = [] } else returned n st t value).lines
unfolding returned
returned_by true n st t value = omega arith
returned_by false n st t value = hooked_short st.hooks.svc n _ _

returned_short : (n : ℕ) (st : State) (t : ℕ) (value : ℤ) → IsShort (body_returned n st t value).lines
unfolding body_returned
returned_short n st zero value = omega arith
returned_short n st (suc t) value = returned_by (depth_in st.objects.contexts (suc t) == 0) n st (suc t) value

fell_short : (mode : Mode) (n : ℕ) (st : State) (t depth : ℕ) → IsShort (fell_in mode n st t depth).lines
fell_short mode n st zero depth = returned_short n st 0 (pos 0)
fell_short mode n st (suc t) zero = called_short mode n st (suc t) (calls.Task tasks.ExtTsk)
fell_short mode n st (suc t) (suc depth) = returned_short n st (suc t) (pos 0)

acted_short : (mode : Mode) (n : ℕ) (st : State) (t : ℕ) (act : Act) → IsShort (acted mode n st t act).lines
unfolding acted
acted_short mode n st t acts.Computed = omega arith
acted_short mode n st t (acts.Call call) = called_short mode n st t call
acted_short mode n st t (acts.Say text) = omega arith
acted_short mode n st t (acts.Return value) = returned_short n st t value
acted_short mode n st t acts.Fell = fell_short mode n st t (depth_in st.objects.contexts t)
acted_short mode n st t acts.Halt = omega arith

ran_short : (script : Script) (mode : Mode) (n : ℕ) (st : State) (t : ℕ) → IsShort (ran script mode n st t).lines
unfolding ran
ran_short script mode n st t =
    let result : Fetched = fetch script (frame_of st t) st.memory in
    acted_short mode n (record (with_frame st t result.frame) { memory = result.memory }) t result.act

begun_short : (n : ℕ) (st : State) (kind : HandlerKind) (number body : ℕ) → IsShort (handler_begun n st kind number body).lines
unfolding handler_begun
begun_short n st kind number body = hooked_short st.hooks.int n _ _

due_short : (n : ℕ) (st : State) (what : DueKind) → IsShort (due_begun n st what).lines
unfolding due_begun
due_short n st (dues.Cyclic id) = begun_short n st _ _ _
due_short n st (dues.Alarm id) = begun_short n st _ _ _
due_short n st (dues.Wait t) = omega arith

done_short : (script : Script) (mode : Mode) (n : ℕ) (st : State) (turn : Turn) → IsShort (done_turn script mode n st turn).lines
unfolding done_turn tick interrupt_begun
done_short script mode n st turns.Handler = ran_short script mode n st 0
done_short script mode n st (turns.Due what) = due_short n (first_taken st) what
done_short script mode n st turns.Tick = omega arith
done_short script mode n st (turns.Interrupt number) = begun_short n _ _ _ _
done_short script mode n st (turns.Task t) = ran_short script mode n st t
done_short script mode n st turns.Idle = omega arith

-- ---- counts

-- two at most of the lines of a step are of a kind
pub worked_few : (p : Line → Bool) → IsPlain p → (script : Script) (mode : Mode) (n : ℕ) (st : State) → count_by p (worked script mode n st).lines ≤ 2
unfolding worked
worked_few p plain script mode n st =
    let now : State = made_pending script n st in
    let first : Event = done_turn script mode n now (turn_of now) in
    let both = count_both p first.lines (followed script mode n first.state).lines in
    let none = followed_none p plain script mode n first.state in
    let most = count_by-le-length p first.lines in
    let short = done_short script mode n now (turn_of now) in
    omega (arith, both, none, most, short)

arrival_few : (p : Line → Bool) → IsPlain p → (script : Script) (mode : Mode) (st : State) (e : Ending) (event : Event) (parts : Option DevParts) →
    option_map (after_arrival script mode (st.steps + 1) st e) parts ≡ Some event → count_by p event.lines ≤ 2
arrival_few p plain script mode st e event None comes = absurd (cc comes)
arrival_few p plain script mode st e event (Some q) comes =
    let same : after_arrival script mode (st.steps + 1) st e q ≡ event = cc comes in
    let rest : List Line = (followed script mode (st.steps + 1) (with_parts st (with_devices (parts_of st) q))).lines in
    let line : Line = ending_line (st.steps + 1) e in
    let both = count_both p (line ∷ []) rest in
    let most = count_by-le-length p (line ∷ []) in
    let none = followed_none p plain script mode (st.steps + 1) (with_parts st (with_devices (parts_of st) q)) in
    subst (λ (it : Event). count_by p it.lines ≤ 2) same (omega (arith, both, none, most))

-- and of those of an ending that arrives
pub arrived_few : (p : Line → Bool) → IsPlain p → (script : Script) (mode : Mode) (st : State) (e : Ending) (event : Event) → arrived script mode st e ≡ Some event →
    count_by p event.lines ≤ 2
unfolding arrived
arrived_few p plain script mode st e event comes = arrival_few p plain script mode st e event (arrive (dev_parts (parts_of st)) e) comes

-- none of those of the start
pub start_none : (p : Line → Bool) → IsPlain p → (script : Script) → count_by p (start script).lines ≡ 0
unfolding start
start_none p plain script = dispatched_none p plain 0 (state_start script)
