-- The world: a kernel beside one driver for each device, and the steps that one of them may do. A step that can't be done
-- leaves the world as it is. Each order of steps is one way in which kernel and drivers may run side by side.
use Rattle.std.specs.Prelude.{ℕ, List, [], ◌∷◌, Option, Some, None, fold, slice_set}
use Rattle.tk_types.specs.declared.script.Script.{Script}
use Rattle.tk_types.specs.declared.run.Mode.{Mode}
use Rattle.tk_types.specs.declared.run.End.{End as RunEnd}
use Rattle.tk_types.specs.declared.run.End.TheVariants as ends
use Rattle.kernel_model.specs.Words.Orders.{entry}
use Rattle.device_model.specs.declared.messages.Ending.{Ending}
use Rattle.device_model.specs.Devices.Tables.{Devices}
use Rattle.machine_model.specs.States.State.{State, taken}
use Rattle.machine_model.specs.Events.Follow.{Event}
use Rattle.machine_model.specs.Events.Arrivals.{arrived}
use Rattle.machine_model.specs.Runs.Step.{Pace, Ends, Needs, Went, step}
use Rattle.machine_model.specs.Runs.Trace.{start}
use Rattle.world_model.specs.Roads.{Road, after_abort, after_end, after_hand, after_take, after_turn, joined, roads_from, stops_joined}

pub record World : Type 0 where
  pub script : Script
  pub mode : Mode
  pub budget : ℕ
  pub state : State
  pub over : Option RunEnd  -- how the run ended, where it is over
  pub roads : List (Option Road)  -- by device

-- a kernel at its start, and drivers without requests
unfoldable pub world_start : Script → Mode → ℕ → World
world_start script mode budget = record {
  script = script;
  mode = mode;
  budget = budget;
  state = (start script).state;
  over = None;
  roads = None ∷ roads_from 1 script.devices;
}

abbrev pub road_at : World → ℕ → Option Road
road_at w d = entry w.roads d

abbrev pub devices_of : World → Devices
devices_of w = w.state.objects.devices

-- ---- the kernel's steps

-- the kernel came to a state: the messages to drivers that stand there join those that wait on the roads
abbrev pub came_to : World → State → World
came_to w now = record w { state = taken now; roads = joined now.objects.devices.links w.roads }

-- the run is over: each driver is to stop
abbrev pub over_with : World → RunEnd → World
over_with w end = record w { over = Some end; roads = stops_joined 0 w.roads }

abbrev pub over_if : World → Option RunEnd → World
over_if w None = w
over_if w (Some end) = over_with w end

-- where an ending is needed, requests went to drivers, and no more is done until it arrives
abbrev pub after_pace : World → Pace → World
after_pace w (Went event over) = over_if (came_to w event.state) over
after_pace w (Needs waiting) = came_to w waiting
after_pace w Ends = over_with w ends.Idle

abbrev pub unless_over : Option RunEnd → World → World → World
unless_over None w now = now
unless_over (Some end) w now = w

-- a step of the machine, while it isn't over
unfoldable pub after_kernel : World → World
after_kernel w = unless_over w.over w (after_pace w (step w.script w.mode w.budget w.state))

-- ---- a driver's steps, and messages on a road

abbrev pub with_road : (Road → Road) → World → ℕ → Option Road → World
with_road change w d None = w
with_road change w d (Some road) = record w { roads = slice_set w.roads d (Some (change road)) }

abbrev pub on_road : (Road → Road) → World → ℕ → World
on_road change w d = with_road change w d (road_at w d)

-- ---- endings that arrive

abbrev pub after_arrival : World → ℕ → Road → List Ending → Option Event → World
after_arrival w d road later None = w
after_arrival w d road later (Some event) =
    came_to (record w { roads = slice_set w.roads d (Some (record road { outbox = later })) }) event.state

abbrev pub arrive_first : World → ℕ → Road → List Ending → World
arrive_first w d road [] = w
arrive_first w d road (ending ∷ later) = after_arrival w d road later (arrived w.script w.mode w.state ending)

abbrev pub arrive_from : World → ℕ → Option Road → World
arrive_from w d None = w
arrive_from w d (Some road) = arrive_first w d road road.outbox

-- the first ending of a device's outbox goes to the kernel, while the machine isn't over, and all follows that
unfoldable pub after_arrive : World → ℕ → World
after_arrive w d = unless_over w.over w (arrive_from w d (road_at w d))

-- ---- all steps

-- a step of the kernel; of a device, by its number: its first message that waits, which is no Abort, goes into the inbox;
-- the same of an Abort; its driver takes a message, makes a turn, gives out an ending; an ending arrives from it
pub data Step : Type 0 where
  Kernel : Step
  Hand : (device : ℕ) → Step
  Abort : (device : ℕ) → Step
  Take : (device : ℕ) → Step
  Block : (device : ℕ) → Step
  End : (device : ℕ) → Step
  Arrive : (device : ℕ) → Step

unfoldable pub stepped : World → Step → World
stepped w Kernel = after_kernel w
stepped w (Hand d) = on_road after_hand w d
stepped w (Abort d) = on_road after_abort w d
stepped w (Take d) = on_road after_take w d
stepped w (Block d) = on_road after_turn w d
stepped w (End d) = on_road after_end w d
stepped w (Arrive d) = after_arrive w d

-- a world after steps, in order
unfoldable pub all_stepped : World → List Step → World
all_stepped w steps = fold stepped w steps

-- the worlds that there are: after any steps from the start
abbrev pub world_after : Script → Mode → ℕ → List Step → World
world_after script mode budget steps = all_stepped (world_start script mode budget) steps
