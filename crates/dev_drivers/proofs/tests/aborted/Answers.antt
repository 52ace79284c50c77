use Rattle.std.proofs.Common.{refl}
use Rattle.dev_drivers.proofs.Places.{place_after_one, place_at_start, places_after_two}
use Rattle.dev_drivers.proofs.tests.aborted.Goals as goal

pub hand-requires-clause-place : goal.hand-requires-clause-place
hand-requires-clause-place g c = place_at_start c.args.script.now.devices c.in_ok-fleet.fleet _ c.in_ok-fleet.ensures.fleet c.requires.some c.requires.first

pub hand-requires-2-clause-place : goal.hand-requires-2-clause-place
hand-requires-2-clause-place g c = place_after_one c.args.script.now.devices c.in_ok-fleet.fleet c.hand.new.self c.args.m 1 c.in_ok-fleet.ensures.fleet c.requires.some refl c.hand.ensures

pub poll_often-ending-requires : goal.poll_often-ending-requires
poll_often-ending-requires g c = places_after_two c.args.script.now.devices c.in_ok-fleet.fleet c.hand.new.self c.hand-2.new.self c.args.m _ c.in_ok-fleet.ensures.fleet c.hand.ensures c.hand-2.ensures
