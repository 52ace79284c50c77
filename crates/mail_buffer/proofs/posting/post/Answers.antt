use Rattle.std.proofs.Common.{rules, ◌≡◌, Some, true, length, sym, ◌∙◌}
use Rattle.std.specs.Prelude.{slice_get}
use Rattle.object_model.specs.Mails.Tables.{MessageBuffer, MailParts, buffer_at, place_of}
use Rattle.object_model.specs.Mails.Buffers.{receivers, takes_length}
use Rattle.mail_buffer.specs.Parts.{parts_of}
use Rattle.mail_buffer.proofs.BufferMails.{placed, room_at, short_of}
use Rattle.mail_buffer.proofs.posting.post.Goals as goal

pub write_bytes-requires : goal.write_bytes-requires
write_bytes-requires c =
    let p : MailParts = parts_of c.args.base.now c.args.table.now c.args.memory.now in
    let k : MessageBuffer = c.in-Some.row.now in
    let there : buffer_at c.args.table.now c.args.id ≡ Some k = search rules in
    let receiving : slice_get (receivers c.args.base.now c.args.id) 0 ≡ Some c.in-Some-waiter.receiver = sym c.waiter-2.ensures ∙ c.in-Some-waiter.is in
    let takes : takes_length (length c.args.bytes.now) k ≡ true = sym c.takes_length.ensures.takes ∙ c.if-not-takes_length.false in
    rw c.place_of.ensures (room_at (place_of c.args.table.now c.in-Some-waiter.receiver) (length c.args.bytes.now) k
    (placed c.args.base.now c.args.table.now c.args.id c.in-Some-waiter.receiver k c.requires.asked c.requires.low c.requires.high there receiving)
    (short_of (length c.args.bytes.now) k takes))
