-- The ending of a request arrives: its line, and what follows it.
use Rattle.std.specs.Prelude.{ℕ, ◌+◌, [], ◌∷◌, Option, Some, None}
use Rattle.std.specs.Option.{option_map}
use Rattle.tk_types.specs.declared.line.How.{How}
use Rattle.tk_types.specs.declared.line.How.TheVariants as hows
use Rattle.tk_types.specs.declared.line.Line.{Line}
use Rattle.tk_types.specs.declared.line.Line.TheVariants as lines
use Rattle.tk_types.specs.declared.line.LineEnding.{LineEnding}
use Rattle.tk_types.specs.declared.line.LineEnding.TheVariants as endings
use Rattle.tk_types.specs.declared.run.Mode.{Mode}
use Rattle.tk_types.specs.declared.script.Script.{Script}
use Rattle.tk_types.specs.Codes.{code_of}
use Rattle.device_model.specs.declared.messages.Ending.{Ending}
use Rattle.device_model.specs.Devices.Endings.{DevParts, arrive}
use Rattle.machine_model.specs.States.Objects.{dev_parts, with_devices}
use Rattle.machine_model.specs.States.State.{State, parts_of, with_parts}
use Rattle.machine_model.specs.Events.Follow.{Event, behind, followed}

-- how the line of an ending says it
abbrev pub shown_ending : Ending → How → LineEnding
shown_ending e hows.Done = endings.Done (code_of e.error) e.size
shown_ending e (hows.Cut moved) = endings.Cut moved

abbrev pub ending_line : ℕ → Ending → Line
ending_line n e = lines.Ending n e.device e.request (shown_ending e e.how)

abbrev pub after_arrival : Script → Mode → ℕ → State → Ending → DevParts → Event
after_arrival script mode n st e parts = behind (ending_line n e ∷ []) (followed script mode n (with_parts st (with_devices (parts_of st) parts)))

-- an ending arrives before the next step: none where it isn't fit
unfoldable pub arrived : Script → Mode → State → Ending → Option Event
arrived script mode st e = option_map (after_arrival script mode (st.steps + 1) st e) (arrive (dev_parts (parts_of st)) e)
