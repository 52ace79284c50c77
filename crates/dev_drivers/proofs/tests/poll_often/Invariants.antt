use Rattle.std.specs.Prelude.{◌≡◌, length}
use Rattle.fleet_model.specs.Fleets.{EachHasPlace}
use Rattle.dev_drivers.proofs.tests.poll_often.Given as goal

abbrev pub invariant-turns : goal.invariant-turns
invariant-turns g l = EachHasPlace l.fleet.channels × (length l.fleet.channels ≡ length l.fn.fleet.channels)
