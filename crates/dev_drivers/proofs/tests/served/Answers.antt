use Rattle.std.proofs.Common.{◌∙◌}
use Rattle.dev_drivers.proofs.Places.{as_many_closed, as_many_handed, as_many_started, place_at_start, places_after_one}
use Rattle.dev_drivers.proofs.tests.served.Goals as goal

pub hand-requires-clause-place : goal.hand-requires-clause-place
hand-requires-clause-place g c = place_at_start c.args.script.now.devices c.in_ok-fleet.fleet _ c.in_ok-fleet.ensures.fleet c.requires.some c.requires.first

pub poll_often-ending-requires : goal.poll_often-ending-requires
poll_often-ending-requires g c = places_after_one c.args.script.now.devices c.in_ok-fleet.fleet c.hand.new.self c.args.m c.in_ok-fleet.ensures.fleet c.hand.ensures

pub returns : goal.returns
returns g c =
    as_many_closed c.poll_often-ending.new.fleet c.close-record.result c.close-record.ensures.closed
    ∙ (c.poll_often-ending.ensures.many
    ∙ (as_many_handed c.in_ok-fleet.fleet c.hand.new.self c.args.m c.hand.ensures
    ∙ as_many_started c.args.script.now.devices c.in_ok-fleet.fleet c.in_ok-fleet.ensures.fleet))
