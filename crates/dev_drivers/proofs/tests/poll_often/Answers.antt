use Rattle.std.proofs.Common.{◌∙◌}
use Rattle.dev_drivers.proofs.Places.{as_many_polled, places_polled}
use Rattle.dev_drivers.proofs.tests.poll_often.Goals as goal

pub returns-then-is_some-clause-places : goal.returns-then-is_some-clause-places
returns-then-is_some-clause-places g c = places_polled c.turns.fleet c.poll-ending.new.self c.poll-ending.result c.turns.invariant.0 c.poll-ending.ensures.polled

pub returns-then-is_some-clause-many : goal.returns-then-is_some-clause-many
returns-then-is_some-clause-many g c = as_many_polled c.turns.fleet c.poll-ending.new.self c.poll-ending.result c.poll-ending.ensures.polled ∙ c.turns.invariant.1

pub turns-preserved : goal.turns-preserved
turns-preserved g c = (
  places_polled c.turns.fleet c.poll-ending.new.self c.poll-ending.result c.turns.invariant.0 c.poll-ending.ensures.polled,
  as_many_polled c.turns.fleet c.poll-ending.new.self c.poll-ending.result c.poll-ending.ensures.polled ∙ c.turns.invariant.1,
)
