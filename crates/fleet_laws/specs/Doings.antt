-- What is done in the world at a step, and at all steps of a list: what passes between the kernel and the drivers, and what the driver
-- of a device does.
use Rattle.std.specs.Prelude.{ℕ, ◌==◌, nat_lt, if◌then◌else◌, List, [], ◌∷◌, ◌++◌, length, Option, Some, None}
use Rattle.tk_types.specs.declared.line.Line.{Line}
use Rattle.tk_types.specs.declared.run.End.{End as RunEnd}
use Rattle.device_model.specs.declared.messages.Ending.{Ending}
use Rattle.device_model.specs.declared.messages.Message.{Message}
use Rattle.driver_model.specs.Cores.{Core, can_take, ending_out}
use Rattle.driver_model.specs.Drives.{listed}
use Rattle.machine_model.specs.Events.Arrivals.{arrived}
use Rattle.machine_model.specs.Events.Follow.{Event}
use Rattle.machine_model.specs.Runs.Step.{Ends, Needs, Pace, Went, step}
use Rattle.world_model.specs.Roads.{Road, outbox_size}
use Rattle.world_model.specs.Worlds.{Arrive, End, Kernel, Step, Take, World, road_at, stepped}
use Rattle.run_model.specs.Passings.{Passing, Takes, gives}

-- what each of these steps has, in order
unfoldable pub gathered : {A : Type 0} → (World → Step → List A) → World → List Step → List A
gathered at w [] = []
gathered at w (s ∷ steps) = at w s ++ gathered at (stepped w s) steps

-- nothing passes once the run is over
abbrev pub unless_over : {A : Type 0} → Option RunEnd → List A → List A
unless_over None found = found
unless_over (Some end) found = []

-- ---- what passes between the kernel and the drivers

-- the messages of the state that a step comes to
abbrev pub of_pace : Pace → List Passing
of_pace (Went event over) = gives event.state
of_pace (Needs waiting) = gives waiting
of_pace Ends = []

-- an ending that arrives, and the messages behind it
abbrev pub of_event : Ending → Option Event → List Passing
of_event ending None = []
of_event ending (Some event) = Takes ending ∷ gives event.state

abbrev pub of_outbox : World → List Ending → List Passing
of_outbox w [] = []
of_outbox w (ending ∷ later) = of_event ending (arrived w.script w.mode w.state ending)

abbrev pub of_road : World → Option Road → List Passing
of_road w None = []
of_road w (Some road) = of_outbox w road.outbox

-- what passes at a step of the kernel, and as an ending arrives
unfoldable pub passes_at : World → Step → List Passing
passes_at w Kernel = unless_over w.over (of_pace (step w.script w.mode w.budget w.state))
passes_at w (Arrive d) = unless_over w.over (of_road w (road_at w d))
passes_at w _ = []

-- ---- what is written

abbrev pub pace_lines : Pace → List Line
pace_lines (Went event over) = event.lines
pace_lines (Needs waiting) = []
pace_lines Ends = []

abbrev pub event_lines : Option Event → List Line
event_lines None = []
event_lines (Some event) = event.lines

abbrev pub outbox_lines : World → List Ending → List Line
outbox_lines w [] = []
outbox_lines w (ending ∷ later) = event_lines (arrived w.script w.mode w.state ending)

abbrev pub road_lines : World → Option Road → List Line
road_lines w None = []
road_lines w (Some road) = outbox_lines w road.outbox

-- the lines of a step of the kernel, and of an ending that arrives with all that follows it
unfoldable pub writes_at : World → Step → List Line
writes_at w Kernel = unless_over w.over (pace_lines (step w.script w.mode w.budget w.state))
writes_at w (Arrive d) = unless_over w.over (road_lines w (road_at w d))
writes_at w _ = []

-- ---- what a driver does

abbrev pub of_inbox : Core → List Message → List Message
of_inbox core [] = []
of_inbox core (m ∷ later) = if can_take core m then m ∷ [] else []

abbrev pub took_on : Option Road → List Message
took_on None = []
took_on (Some road) = of_inbox road.core road.inbox

-- the message that the driver of a device takes
unfoldable pub takes_at : ℕ → World → Step → List Message
takes_at d w (Take device) = if device == d then took_on (road_at w d) else []
takes_at d w _ = []

abbrev pub sent_on : Option Road → List Ending
sent_on None = []
sent_on (Some road) = if nat_lt (length road.outbox) outbox_size then listed (ending_out road.core) else []

-- the ending that it gives out
unfoldable pub sends_at : ℕ → World → Step → List Ending
sends_at d w (End device) = if device == d then sent_on (road_at w d) else []
sends_at d w _ = []
