use Rattle.std.proofs.Common.{map, subst}
use Rattle.fleet_model.specs.Fleets.{Fleet}
use Rattle.fleet_model.specs.Records.{Closes, Record}
use Rattle.dev_drivers.specs.Closings.{joined_of}
use Rattle.dev_drivers.specs.Lines.{channels_of}
use Rattle.dev_drivers.proofs.Fleets.{closes_of}
use Rattle.dev_drivers.proofs.fleet.Fleet.close.Goals as goal

pub returns-clause-closed : goal.returns-clause-closed
returns-clause-closed g c =
    subst (λ (f : Fleet). let r : Record = record { channels = map joined_of c.close_all-kept.result.items; dropped = c.self.inside.dropped; polls = c.self.inside.polls } in Closes f r) c.self.view_is
    (closes_of (channels_of c.self.inside.lines.items) (map joined_of c.close_all-kept.result.items) c.self.inside.dropped c.self.inside.polls c.close_all-kept.ensures.closed)
