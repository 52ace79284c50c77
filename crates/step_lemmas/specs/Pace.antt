-- What a step leaves: the state with the messages that wait in it, how the run ended with it, and its lines.
use Rattle.std.specs.Prelude.{ℕ, List, [], ◌∷◌, ◌++◌, Option, Some, None}
use Rattle.tk_types.specs.declared.line.Line.{Line}
use Rattle.tk_types.specs.declared.line.Line.TheVariants as lines
use Rattle.tk_types.specs.declared.run.End.{End}
use Rattle.tk_types.specs.declared.run.End.TheVariants as ends
use Rattle.device_model.specs.declared.messages.Message.{Message}
use Rattle.device_model.specs.Devices.Handing.{messages}
use Rattle.machine_model.specs.Runs.Step.{Pace as Outcome, Ends, Needs, Went}
use Rattle.machine_model.specs.Runs.Trace.{last_of}

-- over where the run ended with it
abbrev pub over_with : Outcome → Option End
over_with (Went event over) = over
over_with (Needs waiting) = None
over_with Ends = Some ends.Idle

-- the last line of a run that is over after so many steps
abbrev pub end_lines : ℕ → Option End → List Line
end_lines n None = []
end_lines n (Some end) = lines.End n (last_of end) ∷ []

-- the lines of a step, from so many steps on, with the last line where the run is over with it
abbrev pub lines_with : ℕ → Outcome → List Line
lines_with n (Went event over) = event.lines ++ end_lines event.state.steps over
lines_with n (Needs waiting) = []
lines_with n Ends = end_lines n (Some ends.Idle)

-- the messages to drivers of a step
abbrev pub messages_with : Outcome → List Message
messages_with (Went event over) = messages event.state.objects.devices
messages_with (Needs waiting) = messages waiting.objects.devices
messages_with Ends = []
