use Rattle.std.proofs.Common.{rules, ◌≡◌, ◌+◌, ◌≤◌, Some}
use Rattle.tk_types.specs.declared.task.Order.TheVariants.{Fifo}
use Rattle.object_model.specs.Mails.Tables.{MessageBuffer, buffer_at}
use Rattle.mail_buffer.proofs.Ending.{still_alike}
use Rattle.mail_buffer.proofs.deleting.delete_buffer.Goals as goal

pub end_waits-requires-2-clause-order : goal.end_waits-requires-2-clause-order
end_waits-requires-2-clause-order c =
    let k : MessageBuffer = c.in-Some-buffer.row.now in
    let there : buffer_at c.args.table.now c.in-Some.id ≡ Some k = search rules in
    let low : 1 ≤ c.in-Some.id = search rules in
    let high : c.in-Some.id ≤ 64 = search rules in
    still_alike c.order.result (319 + c.in-Some.id) c.args.base.now c.end_waits.new.base Fifo (383 + c.in-Some.id) c.end_waits.ensures (c.requires.queued.receivers c.in-Some.id k low high there)
