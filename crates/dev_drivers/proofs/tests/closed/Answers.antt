use Rattle.std.proofs.Common.{◌∙◌}
use Rattle.dev_drivers.proofs.Places.{as_many_closed, as_many_started, places_at_start}
use Rattle.dev_drivers.proofs.tests.closed.Goals as goal

pub close-requires-after_bounds : goal.close-requires-after_bounds
close-requires-after_bounds g c κs within = places_at_start c.args.script.now.devices c.in_ok-fleet.fleet c.in_ok-fleet.ensures.fleet

pub returns : goal.returns
returns g c =
    as_many_closed c.in_ok-fleet.fleet c.close.result c.close.ensures.closed
    ∙ as_many_started c.args.script.now.devices c.in_ok-fleet.fleet c.in_ok-fleet.ensures.fleet
