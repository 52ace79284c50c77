-- Whose turn it is at a step, and what is done then.
use Rattle.std.specs.Prelude.{ℕ, zero, suc, ◌-◌, Bool, true, false, nat_lt, pos, List, [], ◌∷◌, unwrap_or}
use Rattle.tk_types.specs.declared.calls.Call.TheVariants as calls
use Rattle.tk_types.specs.declared.calls.TaskCall.TheVariants.{ExtTsk}
use Rattle.tk_types.specs.declared.line.Line.{Line}
use Rattle.tk_types.specs.declared.line.Line.TheVariants as lines
use Rattle.tk_types.specs.declared.run.Act.{Act}
use Rattle.tk_types.specs.declared.run.Act.TheVariants as acts
use Rattle.tk_types.specs.declared.run.Mode.{Mode}
use Rattle.tk_types.specs.declared.run.SayText.{SayText}
use Rattle.tk_types.specs.declared.run.SayText.TheVariants as texts
use Rattle.tk_types.specs.declared.script.Script.{Script}
use Rattle.tk_types.specs.declared.task.Event.{Event as DueKind}
use Rattle.kernel_model.specs.Bodies.Statements.{Fetched, fetch}
use Rattle.context_model.specs.Contexts.Tables.{depth_in}
use Rattle.machine_model.specs.declared.turns.Turn.{Turn}
use Rattle.machine_model.specs.declared.turns.Turn.TheVariants as turns
use Rattle.machine_model.specs.States.State.{State, frame_of, with_frame}
use Rattle.machine_model.specs.Events.Follow.{Event}
use Rattle.machine_model.specs.Events.Bodies.{body_returned}
use Rattle.machine_model.specs.Events.Calls.{called}
use Rattle.machine_model.specs.Events.Handlers.{due_begun, first_taken, interrupt_begun}
use Rattle.machine_model.specs.Events.Ticks.{tick}

-- ---- a statement

-- the line of what a body says
abbrev pub said_line : ℕ → ℕ → SayText → Line
said_line n who (texts.Name name) = lines.SaidName n who name
said_line n who (texts.Number number) = lines.SaidNumber n who number

abbrev pub fell_in : Mode → ℕ → State → ℕ → ℕ → Event
fell_in mode n st zero depth = body_returned n st 0 (pos 0)
fell_in mode n st (suc t) zero = called mode n st (suc t) (calls.Task ExtTsk)
fell_in mode n st (suc t) (suc depth) = body_returned n st (suc t) (pos 0)

-- the end of a body: that of a task's body is the call that ends the task, and that of any other body returns 0
abbrev pub fell : Mode → ℕ → State → ℕ → Event
fell mode n st t = fell_in mode n st t (depth_in st.objects.contexts t)

-- what a statement asked for, in the frame with a number
unfoldable pub acted : Mode → ℕ → State → ℕ → Act → Event
acted mode n st t acts.Computed = record { state = st; lines = [] }
acted mode n st t (acts.Call call) = called mode n st t call
acted mode n st t (acts.Say text) = record { state = st; lines = said_line n t text ∷ [] }
acted mode n st t (acts.Return value) = body_returned n st t value
acted mode n st t acts.Fell = fell mode n st t
acted mode n st t acts.Halt = record { state = record st { halted = true }; lines = [] }

abbrev pub after_fetch : Mode → ℕ → State → ℕ → Fetched → Event
after_fetch mode n st t result = acted mode n (record (with_frame st t result.frame) { memory = result.memory }) t result.act

-- a statement in the frame with a number
unfoldable pub ran : Script → Mode → ℕ → State → ℕ → Event
ran script mode n st t = after_fetch mode n st t (fetch script (frame_of st t) st.memory)

-- ---- whose turn it is

-- the current task's statement; where there is none, an idle tick
abbrev pub turn_of_task : ℕ → Turn
turn_of_task zero = turns.Idle
turn_of_task (suc t) = turns.Task (suc t)

-- the pending interrupt with the least number comes before the current task
abbrev pub turn_of_interrupts : List ℕ → ℕ → Turn
turn_of_interrupts [] t = turn_of_task t
turn_of_interrupts (number ∷ later) t = turns.Interrupt number

-- a pending tick comes before interrupts
abbrev pub turn_of_ticks : Bool → List ℕ → ℕ → Turn
turn_of_ticks true pending t = turns.Tick
turn_of_ticks false pending t = turn_of_interrupts pending t

-- while interrupts are disabled neither a pending tick nor a pending interrupt has its turn
abbrev pub turn_of_events : Bool → State → Turn
turn_of_events true st = turn_of_task (unwrap_or st.base.cur 0)
turn_of_events false st = turn_of_ticks (nat_lt 0 st.ticks) st.pending (unwrap_or st.base.cur 0)

-- the first handler that is due comes before these
abbrev pub turn_of_due : List DueKind → State → Turn
turn_of_due [] st = turn_of_events st.base.flags.di st
turn_of_due (what ∷ later) st = turns.Due what

-- the handler that runs comes before all else
abbrev pub turn_unless_handler : Bool → State → Turn
turn_unless_handler true st = turns.Handler
turn_unless_handler false st = turn_of_due st.due st

-- whose turn it is: the running handler's, the first due handler's, a pending tick's, that of the pending interrupt with
-- the least number, the current task's, or an idle tick's
unfoldable pub turn_of : State → Turn
turn_of st = turn_unless_handler st.base.flags.handler st

-- what is done at a turn
unfoldable pub done_turn : Script → Mode → ℕ → State → Turn → Event
done_turn script mode n st turns.Handler = ran script mode n st 0
done_turn script mode n st (turns.Due what) = due_begun n (first_taken st) what
done_turn script mode n st turns.Tick = tick mode n (record st { ticks = st.ticks - 1 })
done_turn script mode n st (turns.Interrupt number) = interrupt_begun n st number
done_turn script mode n st (turns.Task t) = ran script mode n st t
done_turn script mode n st turns.Idle = tick mode n st
