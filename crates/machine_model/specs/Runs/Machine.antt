-- What contracts see of a machine, and what its calls do to that.
use Rattle.std.specs.Prelude.{ℕ, Bool, false, List, [], ◌∷◌, ◌++◌, Option, Some, None}
use Rattle.std.specs.Option.{option_map}
use Rattle.tk_types.specs.declared.script.Script.{Script}
use Rattle.tk_types.specs.declared.run.Mode.{Mode}
use Rattle.tk_types.specs.declared.run.End.{End}
use Rattle.tk_types.specs.declared.run.End.TheVariants as ends
use Rattle.tk_types.specs.declared.line.Line.{Line}
use Rattle.tk_types.specs.declared.line.Line.TheVariants as lines
use Rattle.device_model.specs.declared.messages.Ending.{Ending}
use Rattle.device_model.specs.declared.messages.Message.{Message}
use Rattle.device_model.specs.Devices.Handing.{messages}
use Rattle.machine_model.specs.States.State.{State, taken}
use Rattle.machine_model.specs.Events.Follow.{Event}
use Rattle.machine_model.specs.Events.Arrivals.{arrived}
use Rattle.machine_model.specs.Runs.Step.{Pace, Ends, Needs, Went, step}
use Rattle.machine_model.specs.Runs.Trace.{last_of, start}

pub record Machine : Type 0 where
  pub script : Script
  pub mode : Mode
  pub budget : ℕ
  pub state : State
  pub over : Option End  -- how the run ended, where it is over
  pub failed : Bool  -- whether the host's memory ran out in a call
  pub lines : List Line  -- the lines that weren't taken yet
  pub messages : List Message  -- the messages to drivers that weren't taken yet

-- a new machine has the line of its first dispatch
abbrev pub new_machine : Script → Mode → ℕ → Machine
new_machine script mode budget = record {
  script = script;
  mode = mode;
  budget = budget;
  state = (start script).state;
  over = None;
  failed = false;
  lines = (start script).lines;
  messages = [];
}

-- a state that was come to: its messages go behind those that wait already
abbrev pub with_state : Machine → State → Machine
with_state m now = record m { state = taken now; messages = m.messages ++ messages now.objects.devices }

abbrev pub with_event : Machine → Event → Machine
with_event m event = record (with_state m event.state) { lines = m.lines ++ event.lines }

-- the run is over, and has its last line
abbrev pub ended : Machine → End → Machine
ended m end = record m { over = Some end; lines = m.lines ++ lines.End m.state.steps (last_of end) ∷ [] }

abbrev pub ended_if : Machine → Option End → Machine
ended_if m None = m
ended_if m (Some end) = ended m end

abbrev pub after_pace : Machine → Pace → Machine
after_pace m (Went event over) = ended_if (with_event m event) over
after_pace m (Needs waiting) = with_state m waiting
after_pace m Ends = ended m ends.Idle

-- a call of `step`: a machine that is over stays as it is
abbrev pub after_step : Machine → Machine
after_step m = elim m.over as (λ _. Machine) [ Some end ↦ m | None ↦ after_pace m (step m.script m.mode m.budget m.state) ]

-- a call of `arrive`: none where the machine is over, or the ending isn't fit
abbrev pub after_arrive : Machine → Ending → Option Machine
after_arrive m e = elim m.over as (λ _. Option Machine) [ Some end ↦ None | None ↦ option_map (with_event m) (arrived m.script m.mode m.state e) ]
