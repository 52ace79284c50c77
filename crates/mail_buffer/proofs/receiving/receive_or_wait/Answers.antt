use Rattle.std.proofs.Common.{rules, ◌≡◌, ◌≤◌, Some, None, true, false, length, arith, sym, ◌∙◌}
use Rattle.std.specs.Bool.{◌==◌}
use Rattle.std.specs.Option.{is_some}
use Rattle.std.specs.Prelude.{slice_get}
use Rattle.object_model.specs.Mails.Tables.{MessageBuffer, MailParts, buffer_at, bytes_of}
use Rattle.object_model.specs.Mails.Buffers.{receivers, senders}
use Rattle.mail_buffer.specs.Parts.{parts_of}
use Rattle.std.proofs.Common.{◌+◌}
use Rattle.mail_buffer.proofs.BufferMails.{not_some, received_oldest, received_sent, room_at, short_of, sized}
use Rattle.mail_buffer.proofs.receiving.receive_or_wait.Goals as goal

pub returns-then-not-is_empty : goal.returns-then-not-is_empty
returns-then-not-is_empty c =
    let p : MailParts = parts_of c.args.base.now c.args.table.now c.args.memory.now in
    let k : MessageBuffer = c.in-Some.row.now in
    let there : buffer_at c.args.table.now c.args.id ≡ Some k = search rules in
    let nobody : is_some (slice_get (receivers c.args.base.now c.args.id) 0) ≡ false = search rules in
    let receiving : slice_get (receivers c.args.base.now c.args.id) 0 ≡ None = not_some (slice_get (receivers c.args.base.now c.args.id) 0) nobody in
    let some : (length k.messages == 0) ≡ false = sym c.is_empty.ensures ∙ c.if-not-is_empty.true in
    let read = c.take_into-length.ensures.read k there in
    let left = c.take_into-length.ensures.left k there in
    let told = c.take_into-length.ensures.length k there in
    received_oldest p c.args.task c.args.id c.args.address c.args.timeout k there receiving some ∙ search rules

pub write_bytes-requires : goal.write_bytes-requires
write_bytes-requires c =
    let p : MailParts = parts_of c.args.base.now c.args.table.now c.args.memory.now in
    let k : MessageBuffer = c.in-Some.row.now in
    let there : buffer_at c.args.table.now c.args.id ≡ Some k = search rules in
    let sending : slice_get (senders c.args.base.now k c.args.id) 0 ≡ Some c.in-Some-waiter.sender = search rules in
    let short : length (bytes_of c.args.table.now c.in-Some-waiter.sender) ≤ k.most =
    short_of (length (bytes_of c.args.table.now c.in-Some-waiter.sender)) k (sized c.args.base.now c.args.table.now c.args.id c.in-Some-waiter.sender k c.requires.asked c.requires.low c.requires.high there sending) in
    let room : c.args.address + length (bytes_of c.args.table.now c.in-Some-waiter.sender) ≤ 65536 = room_at c.args.address (length (bytes_of c.args.table.now c.in-Some-waiter.sender)) k (c.requires.place k there) short in
    rw c.bytes_of-sent.ensures room

pub overflow_cast-sent : goal.overflow_cast-sent
overflow_cast-sent c =
    let p : MailParts = parts_of c.args.base.now c.args.table.now c.args.memory.now in
    let k : MessageBuffer = c.in-Some.row.now in
    let there : buffer_at c.args.table.now c.args.id ≡ Some k = search rules in
    let sending : slice_get (senders c.args.base.now k c.args.id) 0 ≡ Some c.in-Some-waiter.sender = search rules in
    let short : length (bytes_of c.args.table.now c.in-Some-waiter.sender) ≤ k.most =
    short_of (length (bytes_of c.args.table.now c.in-Some-waiter.sender)) k (sized c.args.base.now c.args.table.now c.args.id c.in-Some-waiter.sender k c.requires.asked c.requires.low c.requires.high there sending) in
    let room : c.args.address + length (bytes_of c.args.table.now c.in-Some-waiter.sender) ≤ 65536 = room_at c.args.address (length (bytes_of c.args.table.now c.in-Some-waiter.sender)) k (c.requires.place k there) short in
    let small : length c.bytes_of-sent.result.now ≤ 65536 = rw c.bytes_of-sent.ensures (omega (arith, room)) in
    search rules

pub returns : goal.returns
returns c =
    let p : MailParts = parts_of c.args.base.now c.args.table.now c.args.memory.now in
    let k : MessageBuffer = c.in-Some.row.now in
    let there : buffer_at c.args.table.now c.args.id ≡ Some k = search rules in
    let nobody : is_some (slice_get (receivers c.args.base.now c.args.id) 0) ≡ false = search rules in
    let receiving : slice_get (receivers c.args.base.now c.args.id) 0 ≡ None = not_some (slice_get (receivers c.args.base.now c.args.id) 0) nobody in
    let sending : slice_get (senders c.args.base.now k c.args.id) 0 ≡ Some c.in-Some-waiter.sender = search rules in
    let empty : (length k.messages == 0) ≡ true = sym c.is_empty.ensures ∙ c.if-not-is_empty.false in
    let short : length (bytes_of c.args.table.now c.in-Some-waiter.sender) ≤ k.most =
    short_of (length (bytes_of c.args.table.now c.in-Some-waiter.sender)) k (sized c.args.base.now c.args.table.now c.args.id c.in-Some-waiter.sender k c.requires.asked c.requires.low c.requires.high there sending) in
    let room : c.args.address + length (bytes_of c.args.table.now c.in-Some-waiter.sender) ≤ 65536 = room_at c.args.address (length (bytes_of c.args.table.now c.in-Some-waiter.sender)) k (c.requires.place k there) short in
    let small : length c.bytes_of-sent.result.now ≤ 65536 = rw c.bytes_of-sent.ensures (omega (arith, room)) in
    received_sent p c.args.task c.args.id c.args.address c.args.timeout k c.in-Some-waiter.sender there receiving sending empty ∙ search rules
