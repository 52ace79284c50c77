use Rattle.kernel_base.proofs.Waited.{joins_object, joins_order, left_waits_not, may_as}
use Rattle.kernel_base.proofs.joining.rejoin_counted.Goals as goal

pub join-requires-clause-object : goal.join-requires-clause-object
join-requires-clause-object g c = joins_object c.args.task c.in-Waiting.object c.in-Some.row _ _ (may_as _ _ _ c.requires.queue c.in-Some.is) c.in-Waiting.is c.take_out.ensures

pub join-requires-clause-same_order : goal.join-requires-clause-same_order
join-requires-clause-same_order g c = joins_order c.args.task c.in-Waiting.object c.in-Some.row _ _ (may_as _ _ _ c.requires.queue c.in-Some.is) c.in-Waiting.is c.take_out.ensures

pub join-requires-clause-outside : goal.join-requires-clause-outside
join-requires-clause-outside g c = left_waits_not c.args.task _ _ c.take_out.ensures
