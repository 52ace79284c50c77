-- What follows each event: settling, the lines of the waits that ended, and the dispatch.
use Rattle.std.specs.Prelude.{ℕ, Bool, true, false, not, ◌||◌, ◌==◌, length, List, [], ◌∷◌, ◌++◌, Option, Some, None}
use Rattle.tk_types.specs.declared.script.Script.{Script}
use Rattle.tk_types.specs.declared.call_name.CallName.{CallName}
use Rattle.tk_types.specs.declared.run.Mode.{Mode}
use Rattle.tk_types.specs.declared.task.Release.{Release}
use Rattle.tk_types.specs.declared.line.Hook.{Hook}
use Rattle.tk_types.specs.declared.line.Hook.TheVariants as hooks
use Rattle.tk_types.specs.declared.line.Line.{Line}
use Rattle.tk_types.specs.declared.line.Line.TheVariants as lines
use Rattle.kernel_model.specs.Tasks.Base.{chosen, dispatch}
use Rattle.kernel_model.specs.Tasks.Views.{is_current}
use Rattle.kernel_model.specs.Bodies.Statements.{call_before, give}
use Rattle.machine_model.specs.States.State.{State, frame_of, parts_of, with_frame, with_parts}
use Rattle.machine_model.specs.Events.Settle.{settle}

-- a state, and the lines on the way to it
pub record Event : Type 0 where
  pub state : State
  pub lines : List Line

-- lines before those of an event
abbrev pub behind : List Line → Event → Event
behind front event = record event { lines = front ++ event.lines }

-- a line, with a hook directly before it where that hook is set
abbrev pub hooked : Bool → ℕ → Hook → Line → List Line
hooked true n hook line = lines.Hook n hook ∷ line ∷ []
hooked false n hook line = line ∷ []

-- all settles
abbrev pub settled : Mode → State → State
settled mode st = with_parts st (settle mode (parts_of st))

-- the line of a wait that ended
abbrev pub release_line : ℕ → Release → Option CallName → List Line
release_line n ended None = []
release_line n ended (Some name) = lines.Released n ended.task name ended.answer ∷ []

-- a wait that ended has its line, and its answer goes into the registers of its task
unfoldable pub follow_release : Script → ℕ → State → Release → Event
follow_release script n st ended = record {
  state = with_frame st ended.task (give (frame_of st ended.task) ended.answer);
  lines = release_line n ended (call_before script (frame_of st ended.task));
}

-- the same of waits that ended, in order
unfoldable pub follow_each : Script → ℕ → State → List Release → Event
follow_each script n st [] = record { state = st; lines = [] }
follow_each script n st (ended ∷ rest) = let first = follow_release script n st ended in behind first.lines (follow_each script n first.state rest)

-- the waits that ended are followed, and none is left to take
unfoldable pub with_releases : Script → ℕ → State → Event
with_releases script n st = follow_each script n (record st { base = record st.base { released = [] } }) st.base.released

-- dispatching is delayed while a handler runs, while one that is due waits to start, while dispatching is disabled, and
-- while interrupts are
abbrev pub delays : State → Bool
delays st = st.base.flags.handler || (not (length st.due == 0) || (st.base.flags.dispatch_off || st.base.flags.di))

abbrev pub turned : Bool → ℕ → State → Event
turned true n st = record { state = st; lines = [] }
turned false n st = record {
  state = record st { base = dispatch st.base };
  lines = hooked st.hooks.dsp n (hooks.Dispatch (chosen st.base)) (lines.Dispatch n (chosen st.base));
}

-- dispatching, with a line where the chosen task isn't the current one
unfoldable pub dispatched : ℕ → State → Event
dispatched n st = turned (delays st || is_current (chosen st.base) st.base.cur) n st

-- what follows an event: settling, the waits that ended, the dispatch
unfoldable pub followed : Script → Mode → ℕ → State → Event
followed script mode n st = let released = with_releases script n (settled mode st) in behind released.lines (dispatched n released.state)
