use Rattle.std.proofs.Common.{rules, ◌≡◌, Some, sym, ◌∙◌}
use Rattle.std.specs.Prelude.{slice_get}
use Rattle.object_model.specs.Mails.Tables.{MessageBuffer, MailParts, buffer_at, place_of}
use Rattle.object_model.specs.Mails.Buffers.{receivers}
use Rattle.mail_buffer.specs.Parts.{parts_of}
use Rattle.mail_buffer.proofs.BufferMails.{placed, room_at, short_of}
use Rattle.mail_buffer.proofs.sending.send_at_once.Goals as goal

pub hand_over-requires-clause-place : goal.hand_over-requires-clause-place
hand_over-requires-clause-place c =
    let p : MailParts = parts_of c.args.base.now c.args.table.now c.args.memory.now in
    let k : MessageBuffer = c.in-Some.row.now in
    let there : buffer_at c.args.table.now c.args.id ≡ Some k = search rules in
    let receiving : slice_get (receivers c.args.base.now c.args.id) 0 ≡ Some c.in-Some-waiter.receiver = sym c.waiter.ensures ∙ c.in-Some-waiter.is in
    room_at (place_of c.args.table.now c.in-Some-waiter.receiver) c.args.length k
    (placed c.args.base.now c.args.table.now c.args.id c.in-Some-waiter.receiver k c.requires.asked c.requires.low c.requires.high there receiving)
    (short_of c.args.length k (c.requires.fits k there))
