-- A driver that has an ending to give out finds its outbox empty.
use Rattle.std.proofs.Common.{◌≡◌, Bool, true, false, List, [], Option, Some, None}
use Rattle.std.specs.Prelude.{if◌then◌else◌}
use Rattle.std.specs.Option.{option_map}
use Rattle.device_model.specs.declared.messages.Ending.{Ending}
use Rattle.device_model.specs.declared.messages.Message.{Message}
use Rattle.driver_model.specs.Cores.{Core, ending_out}
use Rattle.world_laws.proofs.Places.{Place, Side, Stands, at_ready, in_hand, nowhere, on_way, sent}

none_out : (core : Core) (stopped : Bool) (slot : Option Ending) (e : Ending) → slot ≡ None → (if stopped then None else option_map (λ (it : Ending). record it { taken = core.taken }) slot) ≡ Some e → ⊥
none_out core true slot e none is = cc is
none_out core false None e none is = cc is
none_out core false (Some other) e none is = cc none

by_place : (s : Side) (core : Core) (out : List Ending) (path : List Message) (e : Ending) → Place s core out path → ending_out core ≡ Some e → out ≡ []
unfolding ending_out
by_place s core out path e (nowhere p) is = p.empty
by_place s core out path e (on_way p) is = p.empty
by_place s core out path e (in_hand p) is = p.empty
by_place s core out path e (at_ready p) is = p.empty
by_place s core out path e (sent p) is = absurd (none_out core core.stopped core.ready e p.unready is)

pub has_room : (s : Side) (core : Core) (out : List Ending) (path : List Message) (e : Ending) → Stands s core out path → ending_out core ≡ Some e → out ≡ []
has_room s core out path e stands is = by_place s core out path e stands.place is
