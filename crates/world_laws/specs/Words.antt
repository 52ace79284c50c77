-- Words that the law of the world speaks in.
use Rattle.std.specs.Prelude.{◌≡◌, ℕ, Bool, List, Some}
use Rattle.std.specs.Option.{is_some}
use Rattle.tk_types.specs.declared.run.Mode.{Mode}
use Rattle.tk_types.specs.declared.script.Script.{Script}
use Rattle.device_model.specs.Devices.Tables.{Link, link_at}
use Rattle.world_model.specs.Roads.{Road}
use Rattle.world_model.specs.Worlds.{Step, World, devices_of, road_at, world_after}

-- the word holds in every world: of every script, in both modes, with every budget, after every list of steps
abbrev pub Everywhere : (World → Type 0) → Type 0
Everywhere P = (script : Script) (mode : Mode) (budget : ℕ) (steps : List Step) → P (world_after script mode budget steps)

-- the word holds in every world of each device with its road
abbrev pub OnEachRoad : (Bool → ℕ → Link → Road → Type 0) → Type 0
OnEachRoad P = Everywhere (λ w. (d : ℕ) (link : Link) (road : Road) → link_at (devices_of w) d ≡ Some link → road_at w d ≡ Some road → P (is_some w.over) d link road)
