-- A tick: the time grows by one, and what is due by now is taken, one event after another.
use Rattle.std.specs.Prelude.{ℕ, zero, suc, ◌+◌, if◌then◌else◌, pos, [], ◌∷◌, ◌++◌, length, Some, None}
use Rattle.tk_types.specs.declared.answer.Answer.{Answer}
use Rattle.tk_types.specs.declared.error_code.Er.TheVariants as er
use Rattle.tk_types.specs.declared.run.Mode.{Mode}
use Rattle.tk_types.specs.declared.task.Event.{Event as DueKind}
use Rattle.tk_types.specs.declared.task.Event.TheVariants as dues
use Rattle.tk_types.specs.declared.line.Line.TheVariants as lines
use Rattle.tk_types.specs.Codes.{code_of}
use Rattle.kernel_model.specs.Words.Checks.{plain}
use Rattle.kernel_model.specs.Words.Events.{due_event}
use Rattle.kernel_model.specs.Tasks.Base.{Base, advance, release, take_due, waits_for}
use Rattle.kernel_model.specs.Tasks.Calls.{delay_object}
use Rattle.context_model.specs.Clocks.Tables.{again}
use Rattle.machine_model.specs.States.State.{State}
use Rattle.machine_model.specs.Events.Follow.{Event, settled}

-- the answer of a wait whose time has come: a delay has done its work, and every other wait is over without it
abbrev pub limit_answer : Base → ℕ → Answer
limit_answer b t = if waits_for b delay_object t then plain (pos 0) else plain (code_of er.TmOut)

-- a handler that fell due joins those that wait to start; a cyclic one is due again
abbrev pub joined : State → DueKind → State
joined st what = record st { base = again st.base st.objects.clocks what; due = st.due ++ what ∷ [] }

-- an event that fell due; settling follows the end of a wait
unfoldable pub fallen : Mode → State → DueKind → State
fallen mode st (dues.Wait t) = settled mode (record st { base = release st.base t (limit_answer st.base t) })
fallen mode st (dues.Cyclic id) = joined st (dues.Cyclic id)
fallen mode st (dues.Alarm id) = joined st (dues.Alarm id)

-- the events that are due, at most so many
unfoldable pub due_done : ℕ → Mode → State → State
due_done zero mode st = st
due_done (suc left) mode st =
    elim (due_event st.base.time st.base.events) as (λ _. State) [
      | None ↦ st
      | Some what ↦ due_done left mode (fallen mode (record st { base = take_due st.base }) what)
    ]

-- the time grows by one, and all that is due by then is done; what a tick sets is due later
abbrev pub tick_state : Mode → State → State
tick_state mode st = due_done (length st.base.events) mode (record st { base = advance st.base })

-- a tick, with its line
unfoldable pub tick : Mode → ℕ → State → Event
tick mode n st = record { state = tick_state mode st; lines = lines.Tick n (st.base.time + 1) ∷ [] }
