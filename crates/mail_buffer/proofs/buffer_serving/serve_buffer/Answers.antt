use Rattle.std.proofs.Common.{rules, ◌≡◌, Some, None, true, false, length, refl, ap, sym, subst, ◌∙◌}
use Rattle.std.specs.Bool.{◌==◌}
use Rattle.std.specs.Option.{is_some}
use Rattle.std.specs.Prelude.{slice_get}
use Rattle.object_model.specs.Mails.Tables.{MessageBuffer, MailParts, buffer_at, bytes_of, place_of}
use Rattle.object_model.specs.Mails.Buffers.{has_space, receivers, senders}
use Rattle.mail_buffer.specs.Cuts.{MayEnter}
use Rattle.mail_buffer.specs.Parts.{parts_of}
use Rattle.mail_buffer.proofs.BufferMails.{both_served, missing, nobody_served, nothing_served, placed, receiver_served, room_at, sender_served, sender_stays, short_of, sized}
use Rattle.mail_buffer.proofs.buffer_serving.serve_buffer.Goals as goal

pub returns-in_default-clause-served : goal.returns-in_default-clause-served
returns-in_default-clause-served c =
    let none : buffer_at c.args.table.now c.args.id ≡ None = search rules in
    ap is_some (sym (missing (parts_of c.args.base.now c.args.table.now c.args.memory.now) c.args.id none))

pub returns-in_default-clause-left : goal.returns-in_default-clause-left
returns-in_default-clause-left c =
    let none : buffer_at c.args.table.now c.args.id ≡ None = search rules in
    rw (missing (parts_of c.args.base.now c.args.table.now c.args.memory.now) c.args.id none) refl

pub serve_receiver-requires-clause-place : goal.serve_receiver-requires-clause-place
serve_receiver-requires-clause-place c =
    let receiving : slice_get (receivers c.args.base.now c.args.id) 0 ≡ Some c.in-Some-waiter.receiver = sym c.waiter.ensures ∙ c.in-Some-waiter.is in
    λ k there. placed c.args.base.now c.args.table.now c.args.id c.in-Some-waiter.receiver k c.requires.asked c.requires.low c.requires.high there receiving

pub returns-then-not-is_empty-clause-served : goal.returns-then-not-is_empty-clause-served
returns-then-not-is_empty-clause-served c =
    let p : MailParts = parts_of c.args.base.now c.args.table.now c.args.memory.now in
    let k : MessageBuffer = c.in-Some.row.now in
    let there : buffer_at c.args.table.now c.args.id ≡ Some k = search rules in
    let receiving : slice_get (receivers c.args.base.now c.args.id) 0 ≡ Some c.in-Some-waiter.receiver = sym c.waiter.ensures ∙ c.in-Some-waiter.is in
    let some : (length k.messages == 0) ≡ false = sym c.is_empty.ensures ∙ c.if-not-is_empty.true in
    ap is_some (sym (receiver_served p c.args.id k c.in-Some-waiter.receiver there receiving some))

pub returns-then-not-is_empty-clause-left : goal.returns-then-not-is_empty-clause-left
returns-then-not-is_empty-clause-left c =
    let p : MailParts = parts_of c.args.base.now c.args.table.now c.args.memory.now in
    let k : MessageBuffer = c.in-Some.row.now in
    let there : buffer_at c.args.table.now c.args.id ≡ Some k = search rules in
    let receiving : slice_get (receivers c.args.base.now c.args.id) 0 ≡ Some c.in-Some-waiter.receiver = sym c.waiter.ensures ∙ c.in-Some-waiter.is in
    let some : (length k.messages == 0) ≡ false = sym c.is_empty.ensures ∙ c.if-not-is_empty.true in
    rw (receiver_served p c.args.id k c.in-Some-waiter.receiver there receiving some) (c.serve_receiver.ensures k there)

pub returns-in_default-sender-clause-served : goal.returns-in_default-sender-clause-served
returns-in_default-sender-clause-served c =
    let p : MailParts = parts_of c.args.base.now c.args.table.now c.args.memory.now in
    let k : MessageBuffer = c.in-Some.row.now in
    let there : buffer_at c.args.table.now c.args.id ≡ Some k = search rules in
    let receiving : slice_get (receivers c.args.base.now c.args.id) 0 ≡ Some c.in-Some-waiter.receiver = sym c.waiter.ensures ∙ c.in-Some-waiter.is in
    let sending : slice_get (senders c.args.base.now k c.args.id) 0 ≡ None = search rules in
    let empty : (length k.messages == 0) ≡ true = sym c.is_empty.ensures ∙ c.if-not-is_empty.false in
    ap is_some (sym (nothing_served p c.args.id k c.in-Some-waiter.receiver there receiving sending empty))

pub returns-in_default-sender-clause-left : goal.returns-in_default-sender-clause-left
returns-in_default-sender-clause-left c =
    let p : MailParts = parts_of c.args.base.now c.args.table.now c.args.memory.now in
    let k : MessageBuffer = c.in-Some.row.now in
    let there : buffer_at c.args.table.now c.args.id ≡ Some k = search rules in
    let receiving : slice_get (receivers c.args.base.now c.args.id) 0 ≡ Some c.in-Some-waiter.receiver = sym c.waiter.ensures ∙ c.in-Some-waiter.is in
    let sending : slice_get (senders c.args.base.now k c.args.id) 0 ≡ None = search rules in
    let empty : (length k.messages == 0) ≡ true = sym c.is_empty.ensures ∙ c.if-not-is_empty.false in
    rw (nothing_served p c.args.id k c.in-Some-waiter.receiver there receiving sending empty) refl

pub pass_on-requires : goal.pass_on-requires
pass_on-requires c =
    let p : MailParts = parts_of c.args.base.now c.args.table.now c.args.memory.now in
    let k : MessageBuffer = c.in-Some.row.now in
    let there : buffer_at c.args.table.now c.args.id ≡ Some k = search rules in
    let receiving : slice_get (receivers c.args.base.now c.args.id) 0 ≡ Some c.in-Some-waiter.receiver = sym c.waiter.ensures ∙ c.in-Some-waiter.is in
    let sending : slice_get (senders c.args.base.now k c.args.id) 0 ≡ Some c.in-Some-sender.sender = search rules in
    room_at (place_of c.args.table.now c.in-Some-waiter.receiver) (length (bytes_of c.args.table.now c.in-Some-sender.sender)) k
    (placed c.args.base.now c.args.table.now c.args.id c.in-Some-waiter.receiver k c.requires.asked c.requires.low c.requires.high there receiving)
    (short_of (length (bytes_of c.args.table.now c.in-Some-sender.sender)) k (sized c.args.base.now c.args.table.now c.args.id c.in-Some-sender.sender k c.requires.asked c.requires.low c.requires.high there sending))

pub returns-in-Some-waiter-clause-served : goal.returns-in-Some-waiter-clause-served
returns-in-Some-waiter-clause-served c =
    let p : MailParts = parts_of c.args.base.now c.args.table.now c.args.memory.now in
    let k : MessageBuffer = c.in-Some.row.now in
    let there : buffer_at c.args.table.now c.args.id ≡ Some k = search rules in
    let receiving : slice_get (receivers c.args.base.now c.args.id) 0 ≡ Some c.in-Some-waiter.receiver = sym c.waiter.ensures ∙ c.in-Some-waiter.is in
    let sending : slice_get (senders c.args.base.now k c.args.id) 0 ≡ Some c.in-Some-sender.sender = search rules in
    let empty : (length k.messages == 0) ≡ true = sym c.is_empty.ensures ∙ c.if-not-is_empty.false in
    ap is_some (sym (both_served p c.args.id k c.in-Some-waiter.receiver c.in-Some-sender.sender there receiving sending empty))

pub returns-in-Some-waiter-clause-left : goal.returns-in-Some-waiter-clause-left
returns-in-Some-waiter-clause-left c =
    let p : MailParts = parts_of c.args.base.now c.args.table.now c.args.memory.now in
    let k : MessageBuffer = c.in-Some.row.now in
    let there : buffer_at c.args.table.now c.args.id ≡ Some k = search rules in
    let receiving : slice_get (receivers c.args.base.now c.args.id) 0 ≡ Some c.in-Some-waiter.receiver = sym c.waiter.ensures ∙ c.in-Some-waiter.is in
    let sending : slice_get (senders c.args.base.now k c.args.id) 0 ≡ Some c.in-Some-sender.sender = search rules in
    let empty : (length k.messages == 0) ≡ true = sym c.is_empty.ensures ∙ c.if-not-is_empty.false in
    rw (both_served p c.args.id k c.in-Some-waiter.receiver c.in-Some-sender.sender there receiving sending empty) c.pass_on.ensures

pub returns-in_default-sender-2-clause-served : goal.returns-in_default-sender-2-clause-served
returns-in_default-sender-2-clause-served c =
    let p : MailParts = parts_of c.args.base.now c.args.table.now c.args.memory.now in
    let k : MessageBuffer = c.in-Some.row.now in
    let there : buffer_at c.args.table.now c.args.id ≡ Some k = search rules in
    let receiving : slice_get (receivers c.args.base.now c.args.id) 0 ≡ None = sym c.waiter.ensures ∙ c.in_default-waiter.is in
    let sending : slice_get (senders c.args.base.now k c.args.id) 0 ≡ None = search rules in
    ap is_some (sym (nobody_served p c.args.id k there receiving sending))

pub returns-in_default-sender-2-clause-left : goal.returns-in_default-sender-2-clause-left
returns-in_default-sender-2-clause-left c =
    let p : MailParts = parts_of c.args.base.now c.args.table.now c.args.memory.now in
    let k : MessageBuffer = c.in-Some.row.now in
    let there : buffer_at c.args.table.now c.args.id ≡ Some k = search rules in
    let receiving : slice_get (receivers c.args.base.now c.args.id) 0 ≡ None = sym c.waiter.ensures ∙ c.in_default-waiter.is in
    let sending : slice_get (senders c.args.base.now k c.args.id) 0 ≡ None = search rules in
    rw (nobody_served p c.args.id k there receiving sending) refl

pub returns-then-not-has_space-clause-served : goal.returns-then-not-has_space-clause-served
returns-then-not-has_space-clause-served c =
    let p : MailParts = parts_of c.args.base.now c.args.table.now c.args.memory.now in
    let k : MessageBuffer = c.in-Some.row.now in
    let there : buffer_at c.args.table.now c.args.id ≡ Some k = search rules in
    let receiving : slice_get (receivers c.args.base.now c.args.id) 0 ≡ None = sym c.waiter.ensures ∙ c.in_default-waiter.is in
    let sending : slice_get (senders c.args.base.now k c.args.id) 0 ≡ Some c.in-Some-sender-2.sender = search rules in
    let room : has_space k (bytes_of c.args.table.now c.in-Some-sender-2.sender) ≡ false = search rules in
    ap is_some (sym (sender_stays p c.args.id k c.in-Some-sender-2.sender there receiving sending room))

pub returns-then-not-has_space-clause-left : goal.returns-then-not-has_space-clause-left
returns-then-not-has_space-clause-left c =
    let p : MailParts = parts_of c.args.base.now c.args.table.now c.args.memory.now in
    let k : MessageBuffer = c.in-Some.row.now in
    let there : buffer_at c.args.table.now c.args.id ≡ Some k = search rules in
    let receiving : slice_get (receivers c.args.base.now c.args.id) 0 ≡ None = sym c.waiter.ensures ∙ c.in_default-waiter.is in
    let sending : slice_get (senders c.args.base.now k c.args.id) 0 ≡ Some c.in-Some-sender-2.sender = search rules in
    let room : has_space k (bytes_of c.args.table.now c.in-Some-sender-2.sender) ≡ false = search rules in
    rw (sender_stays p c.args.id k c.in-Some-sender-2.sender there receiving sending room) refl

pub admit-requires-clause-may : goal.admit-requires-clause-may
admit-requires-clause-may c =
    let p : MailParts = parts_of c.args.base.now c.args.table.now c.args.memory.now in
    let k : MessageBuffer = c.in-Some.row.now in
    let there : buffer_at c.args.table.now c.args.id ≡ Some k = search rules in
    let sending : slice_get (senders c.args.base.now k c.args.id) 0 ≡ Some c.in-Some-sender-2.sender = search rules in
    let room : has_space k (bytes_of c.args.table.now c.in-Some-sender-2.sender) ≡ true = search rules in
    let may : MayEnter k (bytes_of c.args.table.now c.in-Some-sender-2.sender) = record {
      length_fits = sized c.args.base.now c.args.table.now c.args.id c.in-Some-sender-2.sender k c.requires.asked c.requires.low c.requires.high there sending;
      space_fits = room;
    } in
    λ other found. let same : k ≡ other = cc (there, found) in subst (λ (r : MessageBuffer). MayEnter r (bytes_of c.args.table.now c.in-Some-sender-2.sender)) same may

pub returns-clause-served : goal.returns-clause-served
returns-clause-served c =
    let p : MailParts = parts_of c.args.base.now c.args.table.now c.args.memory.now in
    let k : MessageBuffer = c.in-Some.row.now in
    let there : buffer_at c.args.table.now c.args.id ≡ Some k = search rules in
    let receiving : slice_get (receivers c.args.base.now c.args.id) 0 ≡ None = sym c.waiter.ensures ∙ c.in_default-waiter.is in
    let sending : slice_get (senders c.args.base.now k c.args.id) 0 ≡ Some c.in-Some-sender-2.sender = search rules in
    let room : has_space k (bytes_of c.args.table.now c.in-Some-sender-2.sender) ≡ true = search rules in
    ap is_some (sym (sender_served p c.args.id k c.in-Some-sender-2.sender there receiving sending room))

pub returns-clause-left : goal.returns-clause-left
returns-clause-left c =
    let p : MailParts = parts_of c.args.base.now c.args.table.now c.args.memory.now in
    let k : MessageBuffer = c.in-Some.row.now in
    let there : buffer_at c.args.table.now c.args.id ≡ Some k = search rules in
    let receiving : slice_get (receivers c.args.base.now c.args.id) 0 ≡ None = sym c.waiter.ensures ∙ c.in_default-waiter.is in
    let sending : slice_get (senders c.args.base.now k c.args.id) 0 ≡ Some c.in-Some-sender-2.sender = search rules in
    let room : has_space k (bytes_of c.args.table.now c.in-Some-sender-2.sender) ≡ true = search rules in
    rw (sender_served p c.args.id k c.in-Some-sender-2.sender there receiving sending room) (c.admit.ensures k there c.args.memory.now)
