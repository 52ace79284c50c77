-- What holds in every world.
use Rattle.std.proofs.Common.{◌≡◌, ℕ, true, List, ◌∷◌, Some, None, Bool, subst, refl, Option}
use Rattle.std.specs.Option.{is_some}
use Rattle.tk_types.specs.declared.run.Mode.{Mode}
use Rattle.tk_types.specs.declared.script.Script.{Script}
use Rattle.device_model.specs.declared.messages.Ending.{Ending}
use Rattle.device_model.specs.Devices.Tables.{Row, has_ended, link_at, row_at, Link}
use Rattle.device_laws.specs.Requests.{AreApart, AreTied, StaysSo}
use Rattle.device_laws.proofs.Lives.{apart_at_first, so_now, so_stays, stay_apart}
use Rattle.device_laws.proofs.Ties.{stay_tied, tied_at_first}
use Rattle.machine_model.specs.Events.Arrivals.{arrived}
use Rattle.world_model.specs.Roads.{Road}
use Rattle.world_model.specs.Worlds.{Step, World, all_stepped, devices_of, road_at, world_after, world_start}
use Rattle.world_laws.specs.Sound.{untaken}
use Rattle.world_laws.proofs.Requests.{outbox_fit, start_has, steps_keep}
use Rattle.world_laws.proofs.Sounds.{AreSound, IsSound, sound}
use Rattle.world_laws.proofs.Worlds.{IsMet, start_met, steps_met}

always_met : (script : Script) (mode : Mode) (budget : ℕ) (steps : List Step) → IsMet (world_after script mode budget steps)
always_met script mode budget steps = steps_met steps (world_start script mode budget) (start_met script mode budget)

pub always_sound : (script : Script) (mode : Mode) (budget : ℕ) (steps : List Step) (d : ℕ) →
    let w : World = world_after script mode budget steps in AreSound (is_some w.over) d (link_at (devices_of w) d) (road_at w d)
always_sound script mode budget steps d =
    let w : World = world_after script mode budget steps in
    let met : IsMet w = always_met script mode budget steps in
    sound (is_some w.over) d (link_at (devices_of w) d) (road_at w d) (met.empty d) (met.met.roads d)

both_there : (over : Bool) (d : ℕ) (link : Option Link) (road : Option Road) → AreSound over d link road → is_some link ≡ is_some road
both_there over d None None are = refl
both_there over d (Some link) None are = absurd are
both_there over d None (Some road) are = absurd are
both_there over d (Some link) (Some road) are = refl

-- each device with a driver has a road
pub always_linked : (script : Script) (mode : Mode) (budget : ℕ) (steps : List Step) (d : ℕ) →
    let w : World = world_after script mode budget steps in is_some (link_at (devices_of w) d) ≡ is_some (road_at w d)
always_linked script mode budget steps d = both_there _ d _ _ (always_sound script mode budget steps d)

-- which is sound
pub sound_road : (script : Script) (mode : Mode) (budget : ℕ) (steps : List Step) (d : ℕ) (link : Link) (road : Road) →
    let w : World = world_after script mode budget steps in link_at (devices_of w) d ≡ Some link → road_at w d ≡ Some road → IsSound (is_some w.over) d link road.core road.outbox (untaken road)
sound_road script mode budget steps d link road linked there =
    let w : World = world_after script mode budget steps in
    subst (λ (slot : Option Road). AreSound (is_some w.over) d (Some link) slot) there
    (subst (λ (slot : Option Link). AreSound (is_some w.over) d slot (road_at w d)) linked (always_sound script mode budget steps d))

always_tied : (script : Script) (mode : Mode) (budget : ℕ) (steps : List Step) → AreTied (devices_of (world_after script mode budget steps))
always_tied script mode budget steps = steps_keep AreTied stay_tied steps (world_start script mode budget) (start_has AreTied script mode budget (tied_at_first script))

pub always_fit : (script : Script) (mode : Mode) (budget : ℕ) (steps : List Step) (d : ℕ) (road : Road) (e : Ending) (later : List Ending) →
    let w : World = world_after script mode budget steps in w.over ≡ None → road_at w d ≡ Some road → road.outbox ≡ e ∷ later → is_some (arrived w.script w.mode w.state e) ≡ true
always_fit script mode budget steps d road e later over there out =
    outbox_fit (world_after script mode budget steps) d road e later (always_met script mode budget steps) (always_tied script mode budget steps) over there out

pub always_apart : (script : Script) (mode : Mode) (budget : ℕ) (steps : List Step) → AreApart (devices_of (world_after script mode budget steps))
always_apart script mode budget steps = steps_keep AreApart stay_apart steps (world_start script mode budget) (start_has AreApart script mode budget (apart_at_first script))

-- a request that has ended stays so
pub ended_stays : (script : Script) (mode : Mode) (budget : ℕ) (steps later : List Step) (id : ℕ) (row : Row) →
    let w : World = world_after script mode budget steps in row_at (devices_of w) id ≡ Some row → has_ended row.life ≡ true → StaysSo row (devices_of (all_stepped w later))
ended_stays script mode budget steps later id row there over =
    steps_keep (StaysSo row) (so_stays row over) later (world_after script mode budget steps)
    (so_now (devices_of (world_after script mode budget steps)) id row (always_apart script mode budget steps) there)
