-- No line of a step is that of an ending.
use Rattle.std.proofs.Common.{◌≡◌, ℕ, zero, suc, Bool, true, false, cond, List, [], ◌∷◌, ◌++◌, Option, Some, None, ℤ, pos, refl, ◌∙◌, ap}
use Rattle.std.specs.Bool.{◌==◌}
use Rattle.std.specs.List.{cons_option, filter_map}
use Rattle.std.proofs.lemmas.List.Elements.{filter_map-append}
use Rattle.tk_types.specs.declared.answer.Outcome.{Outcome}
use Rattle.tk_types.specs.declared.answer.Outcome.TheVariants as outcomes
use Rattle.tk_types.specs.declared.call_name.CallName.{CallName}
use Rattle.tk_types.specs.declared.calls.Call.{Call}
use Rattle.tk_types.specs.declared.calls.Call.TheVariants as calls
use Rattle.tk_types.specs.declared.calls.TaskCall.TheVariants.{ExtTsk}
use Rattle.tk_types.specs.declared.line.Entry.{Entry}
use Rattle.tk_types.specs.declared.line.HandlerKind.{HandlerKind}
use Rattle.tk_types.specs.declared.line.Hook.{Hook}
use Rattle.tk_types.specs.declared.line.Line.{Line}
use Rattle.tk_types.specs.declared.run.Act.{Act}
use Rattle.tk_types.specs.declared.run.Act.TheVariants as acts
use Rattle.tk_types.specs.declared.run.Mode.{Mode}
use Rattle.tk_types.specs.declared.run.SayText.{SayText}
use Rattle.tk_types.specs.declared.run.SayText.TheVariants as texts
use Rattle.tk_types.specs.declared.script.Script.{Script}
use Rattle.tk_types.specs.declared.task.Event.{Event as DueKind}
use Rattle.tk_types.specs.declared.task.Event.TheVariants as dues
use Rattle.tk_types.specs.declared.task.Release.{Release}
use Rattle.tk_model.specs.Journal.{entry_of, journal_of}
use Rattle.kernel_model.specs.Bodies.Statements.{call_before, fetch}
use Rattle.context_model.specs.Contexts.Tables.{depth_in}
use Rattle.machine_model.specs.declared.turns.Turn.{Turn}
use Rattle.machine_model.specs.declared.turns.Turn.TheVariants as turns
use Rattle.machine_model.specs.States.State.{State, frame_of, with_frame}
use Rattle.machine_model.specs.Events.Follow.{dispatched, follow_each, follow_release, followed, hooked, release_line, settled, turned, with_releases}
use Rattle.machine_model.specs.Events.Bodies.{body_returned, returned}
use Rattle.machine_model.specs.Events.Calls.{call_lines, called, family_call, with_ended}
use Rattle.machine_model.specs.Events.Ticks.{tick}
use Rattle.machine_model.specs.Events.Handlers.{due_begun, handler_begun, interrupt_begun}
use Rattle.machine_model.specs.Runs.Turns.{acted, done_turn, fell_in, ran, said_line, turn_of}
use Rattle.machine_model.specs.Runs.Step.{made_pending, worked}

-- lines without an ending
abbrev pub IsQuiet : List Line → Type 0
IsQuiet some = journal_of some ≡ []

pub quiet_after : (front behind : List Line) → IsQuiet front → IsQuiet behind → IsQuiet (front ++ behind)
quiet_after front behind first second =
    filter_map-append entry_of front behind ∙ ap (λ (entries : List Entry). entries ++ filter_map entry_of behind) first ∙ second

-- a line, with or without its hook
hooked_quiet : (hook : Bool) (n : ℕ) (which : Hook) (line : Line) → entry_of line ≡ None → IsQuiet (hooked hook n which line)
unfolding entry_of
hooked_quiet true n which line none = ap (λ (entry : Option Entry). cons_option entry []) none
hooked_quiet false n which line none = ap (λ (entry : Option Entry). cons_option entry []) none

-- ---- what follows an event

release_quiet : (n : ℕ) (ended : Release) (name : Option CallName) → IsQuiet (release_line n ended name)
unfolding entry_of
release_quiet n ended None = refl
release_quiet n ended (Some name) = refl

each_quiet : (script : Script) (n : ℕ) (st : State) (released : List Release) → IsQuiet (follow_each script n st released).lines
unfolding follow_each follow_release
each_quiet script n st [] = refl
each_quiet script n st (ended ∷ rest) =
    let first = follow_release script n st ended in
    quiet_after first.lines (follow_each script n first.state rest).lines (release_quiet n ended (call_before script (frame_of st ended.task))) (each_quiet script n first.state rest)

turned_quiet : (same : Bool) (n : ℕ) (st : State) → IsQuiet (turned same n st).lines
unfolding entry_of
turned_quiet true n st = refl
turned_quiet false n st = hooked_quiet st.hooks.dsp n _ _ refl

dispatched_quiet : (n : ℕ) (st : State) → IsQuiet (dispatched n st).lines
unfolding dispatched
dispatched_quiet n st = turned_quiet _ n st

pub start_quiet : (st : State) → IsQuiet (dispatched 0 st).lines
start_quiet st = dispatched_quiet 0 st

pub followed_quiet : (script : Script) (mode : Mode) (n : ℕ) (st : State) → IsQuiet (followed script mode n st).lines
unfolding followed with_releases
followed_quiet script mode n st =
    let released = with_releases script n (settled mode st) in
    quiet_after released.lines (dispatched n released.state).lines
    (each_quiet script n (record (settled mode st) { base = record (settled mode st).base { released = [] } }) (settled mode st).base.released)
    (dispatched_quiet n released.state)

-- ---- what is done at a turn

call_quiet : (hook : Bool) (n t : ℕ) (name : CallName) (outcome : Outcome) → IsQuiet (call_lines hook n t name outcome)
unfolding entry_of
call_quiet hook n t name (outcomes.Returned result) = hooked_quiet hook n _ _ refl
call_quiet hook n t name outcomes.Blocked = hooked_quiet hook n _ _ refl
call_quiet hook n t name (outcomes.Entered body) = refl

called_quiet : (mode : Mode) (n : ℕ) (st : State) (t : ℕ) (c : Call) → IsQuiet (called mode n st t c).lines
unfolding called
called_quiet mode n st t c = call_quiet st.hooks.svc n t _ (with_ended mode t c (family_call st t c)).outcome

returned_if : (none : Bool) (n : ℕ) (st : State) (t : ℕ) (value : ℤ) → IsQuiet (cond none (record { state = st; lines = [] }) (returned n st t value)).lines
unfolding returned entry_of
returned_if true n st t value = refl
returned_if false n st t value = hooked_quiet st.hooks.svc n _ _ refl

returned_quiet : (n : ℕ) (st : State) (t : ℕ) (value : ℤ) → IsQuiet (body_returned n st t value).lines
unfolding body_returned
returned_quiet n st zero value = refl
returned_quiet n st (suc t) value = returned_if (depth_in st.objects.contexts (suc t) == 0) n st (suc t) value

fell_quiet : (mode : Mode) (n : ℕ) (st : State) (t depth : ℕ) → IsQuiet (fell_in mode n st t depth).lines
fell_quiet mode n st zero depth = returned_quiet n st 0 (pos 0)
fell_quiet mode n st (suc t) zero = called_quiet mode n st (suc t) (calls.Task ExtTsk)
fell_quiet mode n st (suc t) (suc depth) = returned_quiet n st (suc t) (pos 0)

said_quiet : (n t : ℕ) (text : SayText) → IsQuiet (said_line n t text ∷ [])
unfolding entry_of
said_quiet n t (texts.Name name) = refl
said_quiet n t (texts.Number number) = refl

acted_quiet : (mode : Mode) (n : ℕ) (st : State) (t : ℕ) (act : Act) → IsQuiet (acted mode n st t act).lines
unfolding acted
acted_quiet mode n st t acts.Computed = refl
acted_quiet mode n st t (acts.Call c) = called_quiet mode n st t c
acted_quiet mode n st t (acts.Say text) = said_quiet n t text
acted_quiet mode n st t (acts.Return value) = returned_quiet n st t value
acted_quiet mode n st t acts.Fell = fell_quiet mode n st t (depth_in st.objects.contexts t)
acted_quiet mode n st t acts.Halt = refl

ran_quiet : (script : Script) (mode : Mode) (n : ℕ) (st : State) (t : ℕ) → IsQuiet (ran script mode n st t).lines
unfolding ran
ran_quiet script mode n st t =
    let result = fetch script (frame_of st t) st.memory in
    acted_quiet mode n (record (with_frame st t result.frame) { memory = result.memory }) t result.act

begun_quiet : (n : ℕ) (st : State) (kind : HandlerKind) (number body : ℕ) → IsQuiet (handler_begun n st kind number body).lines
unfolding handler_begun entry_of
begun_quiet n st kind number body = hooked_quiet st.hooks.int n _ _ refl

due_quiet : (n : ℕ) (st : State) (what : DueKind) → IsQuiet (due_begun n st what).lines
unfolding due_begun
due_quiet n st (dues.Cyclic id) = begun_quiet n st _ id _
due_quiet n st (dues.Alarm id) = begun_quiet n st _ id _
due_quiet n st (dues.Wait t) = refl

interrupt_quiet : (n : ℕ) (st : State) (number : ℕ) → IsQuiet (interrupt_begun n st number).lines
unfolding interrupt_begun
interrupt_quiet n st number = begun_quiet n _ _ number _

tick_quiet : (mode : Mode) (n : ℕ) (st : State) → IsQuiet (tick mode n st).lines
unfolding tick entry_of
tick_quiet mode n st = refl

turn_quiet : (script : Script) (mode : Mode) (n : ℕ) (st : State) (turn : Turn) → IsQuiet (done_turn script mode n st turn).lines
unfolding done_turn
turn_quiet script mode n st turns.Handler = ran_quiet script mode n st 0
turn_quiet script mode n st (turns.Due what) = due_quiet n _ what
turn_quiet script mode n st turns.Tick = tick_quiet mode n _
turn_quiet script mode n st (turns.Interrupt number) = interrupt_quiet n st number
turn_quiet script mode n st (turns.Task t) = ran_quiet script mode n st t
turn_quiet script mode n st turns.Idle = tick_quiet mode n st

-- what is done at a step, and all that follows it, has no line of an ending
pub worked_quiet : (script : Script) (mode : Mode) (n : ℕ) (st : State) → IsQuiet (worked script mode n st).lines
unfolding worked
worked_quiet script mode n st =
    let now : State = made_pending script n st in
    let first = done_turn script mode n now (turn_of now) in
    quiet_after first.lines (followed script mode n first.state).lines (turn_quiet script mode n now (turn_of now)) (followed_quiet script mode n first.state)
