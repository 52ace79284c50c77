-- Each device keeps its road.
use Rattle.std.proofs.Common.{◌≡◌, ℕ, ◌+◌, List, [], ◌∷◌, Option, Some, None, refl, ap, sym, ◌∙◌}
use Rattle.std.specs.Prelude.{slice_set}
use Rattle.std.specs.Option.{is_some}
use Rattle.tk_types.specs.declared.run.End.{End as RunEnd}
use Rattle.tk_types.specs.declared.run.End.TheVariants as run_ends
use Rattle.tk_types.specs.declared.run.Mode.{Mode}
use Rattle.tk_types.specs.declared.script.Script.{Script}
use Rattle.kernel_model.specs.Words.Orders.{entry}
use Rattle.kernel_lemmas.proofs.Tables.{entry_each, entry_there}
use Rattle.device_model.specs.declared.messages.Ending.{Ending}
use Rattle.device_model.specs.Devices.Tables.{Link}
use Rattle.machine_model.specs.States.State.{State}
use Rattle.machine_model.specs.Events.Follow.{Event}
use Rattle.machine_model.specs.Events.Arrivals.{arrived}
use Rattle.machine_model.specs.Runs.Step.{Ends, Needs, Pace, Went, step}
use Rattle.world_model.specs.Roads.{Road, after_abort, after_end, after_hand, after_take, after_turn, joined_to, roads_from, stop_to}
use Rattle.world_model.specs.Worlds.{Step, Kernel, Hand, Abort, Take, Block, End, Arrive, World, after_arrival, after_arrive, after_kernel, after_pace, all_stepped, arrive_first, arrive_from, came_to, over_with, road_at, stepped, unless_over, with_road, world_after, world_start}
use Rattle.world_laws.proofs.Worlds.{joined_at, stops_at}

-- the same devices have roads
abbrev Same : List (Option Road) → List (Option Road) → Type 0
Same before now = (d : ℕ) → is_some (entry now d) ≡ is_some (entry before d)

road_written : (before now : List (Option Road)) (i : ℕ) (road next : Road) → entry now i ≡ Some road → Same before now → Same before (slice_set now i (Some next))
road_written before now i road next there same =
    entry_each (λ j slot. is_some slot ≡ is_some (entry before j)) now i (Some next)
    (ap is_some (entry_there now i road (Some next) there) ∙ (ap is_some (sym there) ∙ same i))
    (λ j apart. same j)

joined_there : (link : Option Link) (road : Option Road) → is_some (joined_to link road) ≡ is_some road
joined_there None None = refl
joined_there None (Some road) = refl
joined_there (Some link) None = refl
joined_there (Some link) (Some road) = refl

came_same : (before : List (Option Road)) (w : World) (now : State) → Same before w.roads → Same before (came_to w now).roads
came_same before w now same d = ap is_some (joined_at now.objects.devices.links w.roads d) ∙ (joined_there (entry now.objects.devices.links d) (entry w.roads d) ∙ same d)

stop_there : (d : ℕ) (road : Option Road) → is_some (stop_to d road) ≡ is_some road
stop_there d None = refl
stop_there d (Some road) = refl

over_same : (before : List (Option Road)) (w : World) (end : RunEnd) → Same before w.roads → Same before (over_with w end).roads
over_same before w end same d = ap is_some (stops_at 0 w.roads d) ∙ (stop_there (0 + d) (entry w.roads d) ∙ same d)

pace_same : (before : List (Option Road)) (w : World) (pace : Pace) → Same before w.roads → Same before (after_pace w pace).roads
pace_same before w (Went event None) same = came_same before w event.state same
pace_same before w (Went event (Some end)) same = over_same before (came_to w event.state) end (came_same before w event.state same)
pace_same before w (Needs waiting) same = came_same before w waiting same
pace_same before w Ends same = over_same before w run_ends.Idle same

unless_same : (before : List (Option Road)) (w now : World) (o : Option RunEnd) → Same before w.roads → Same before now.roads → Same before (unless_over o w now).roads
unless_same before w now None same then_same = then_same
unless_same before w now (Some end) same then_same = same

road_same : (before : List (Option Road)) (change : Road → Road) (w : World) (d : ℕ) (slot : Option Road) → road_at w d ≡ slot → Same before w.roads → Same before (with_road change w d slot).roads
road_same before change w d None there same = same
road_same before change w d (Some road) there same = road_written before w.roads d road (change road) there same

event_same : (before : List (Option Road)) (w : World) (d : ℕ) (road : Road) (later : List Ending) (event : Option Event) → road_at w d ≡ Some road → Same before w.roads → Same before (after_arrival w d road later event).roads
event_same before w d road later None there same = same
event_same before w d road later (Some event) there same =
    came_same before (record w { roads = slice_set w.roads d (Some (record road { outbox = later })) }) event.state (road_written before w.roads d road (record road { outbox = later }) there same)

outbox_same : (before : List (Option Road)) (w : World) (d : ℕ) (road : Road) (out : List Ending) → road_at w d ≡ Some road → Same before w.roads → Same before (arrive_first w d road out).roads
outbox_same before w d road [] there same = same
outbox_same before w d road (e ∷ later) there same = event_same before w d road later (arrived w.script w.mode w.state e) there same

from_same : (before : List (Option Road)) (w : World) (d : ℕ) (slot : Option Road) → road_at w d ≡ slot → Same before w.roads → Same before (arrive_from w d slot).roads
from_same before w d None there same = same
from_same before w d (Some road) there same = outbox_same before w d road road.outbox there same

step_same : (before : List (Option Road)) (w : World) (s : Step) → Same before w.roads → Same before (stepped w s).roads
unfolding stepped after_kernel after_arrive
step_same before w Kernel same = unless_same before w (after_pace w (step w.script w.mode w.budget w.state)) w.over same (pace_same before w (step w.script w.mode w.budget w.state) same)
step_same before w (Hand d) same = road_same before after_hand w d (road_at w d) refl same
step_same before w (Abort d) same = road_same before after_abort w d (road_at w d) refl same
step_same before w (Take d) same = road_same before after_take w d (road_at w d) refl same
step_same before w (Block d) same = road_same before after_turn w d (road_at w d) refl same
step_same before w (End d) same = road_same before after_end w d (road_at w d) refl same
step_same before w (Arrive d) same = unless_same before w (arrive_from w d (road_at w d)) w.over same (from_same before w d (road_at w d) refl same)

steps_same : (before : List (Option Road)) (steps : List Step) (w : World) → Same before w.roads → Same before (all_stepped w steps).roads
unfolding all_stepped
steps_same before [] w same = same
steps_same before (s ∷ steps) w same = steps_same before steps (stepped w s) (step_same before w s same)

-- after every list of steps the same devices have roads as at the start
pub always_there : (script : Script) (mode : Mode) (budget : ℕ) (steps : List Step) (d : ℕ) →
    is_some (road_at (world_after script mode budget steps) d) ≡ is_some (entry (None ∷ roads_from 1 script.devices) d)
unfolding world_start
always_there script mode budget steps d = steps_same (None ∷ roads_from 1 script.devices) steps (world_start script mode budget) (λ j. refl) d
