use Rattle.dev_layer.proofs.Starting.{queued_at_start}
use Rattle.dev_layer.proofs.tests.ends.Goals as goal

pub arrive-requires : goal.arrive-requires
arrive-requires c = record { queued = queued_at_start c.in_ok-base.base 10 c.in_ok-base.ensures }

pub arrive-requires-2 : goal.arrive-requires-2
arrive-requires-2 c = record { queued = queued_at_start c.in_ok-base.base 10 c.in_ok-base.ensures }
