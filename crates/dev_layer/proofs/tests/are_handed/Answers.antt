use Rattle.dev_layer.proofs.Starting.{queued_at_start}
use Rattle.dev_layer.proofs.tests.are_handed.Goals as goal

pub hand_over-requires : goal.hand_over-requires
hand_over-requires c = record { queued = queued_at_start c.in_ok-base.base 10 c.in_ok-base.ensures }
