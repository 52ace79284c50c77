use Rattle.tk_types.specs.declared.task.Phase.TheVariants.{Waiting}
use Rattle.kernel_base.proofs.Restored.{moved_whole}
use Rattle.kernel_base.proofs.base.Base.write_moved.Goals as goal

pub returns : goal.returns
returns c =
    moved_whole c.args.task _ c.args.self.now c.write_waiting.new.self c.restore_order.new.self c.restore_since.new.self (record c.args.row { phase = Waiting c.args.obj; queue = c.args.order }) c.self.inside.waits _ _
    c.self.view_is c.self.invariant.waits c.requires.waits c.listed-stamps.ensures.ids c.listed-waits.ensures.ids c.listed-stamps.ensures.once c.listed-waits.ensures.once
    c.write_waiting.ensures c.restore_order.ensures c.restore_since.ensures
