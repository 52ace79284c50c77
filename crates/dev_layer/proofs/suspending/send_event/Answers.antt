use Rattle.std.proofs.Common.{◌≡◌, ◌∷◌, ℕ, List, [], None, ap, sym, ◌∙◌}
use Rattle.std.specs.Prelude.{unwrap_or}
use Rattle.object_model.specs.Mails.Buffers.{post}
use Rattle.object_model.specs.Mails.Tables.{MailParts, buffer_at}
use Rattle.device_model.specs.Devices.Endings.{DevParts}
use Rattle.device_model.specs.Devices.Suspension.{event_bytes, mail_parts}
use Rattle.mail_buffer.specs.Parts.{parts_of as mails_of}
use Rattle.dev_layer.specs.Parts.{parts_of}
use Rattle.dev_layer.proofs.Posting.{bytes_are, event_dropped, event_goes, id_high, id_low, sent_fit}
use Rattle.dev_layer.proofs.Slots.{not_some}
use Rattle.dev_layer.proofs.suspending.send_event.Goals as goal

pub returns-then-not-has_mbf-clause-sent : goal.returns-then-not-has_mbf-clause-sent
returns-then-not-has_mbf-clause-sent c =
    let none : buffer_at c.args.mails.now c.buffer-id.result ≡ None = not_some (buffer_at c.args.mails.now c.buffer-id.result) (sym c.has_mbf.ensures ∙ c.if-not-has_mbf.true) in
    event_dropped (parts_of c.args.base.now c.args.table.now c.args.mails.now c.args.memory.now) c.args.event c.args.device c.buffer-id.result c.buffer-id.ensures none

pub post-sent-requires-clause-high : goal.post-sent-requires-clause-high
post-sent-requires-clause-high c = id_high c.args.mails.now c.buffer-id.result c.known_of_buffers.ensures (sym c.has_mbf.ensures ∙ c.if-not-has_mbf.false)

pub post-sent-requires-clause-low : goal.post-sent-requires-clause-low
post-sent-requires-clause-low c = id_low c.args.mails.now c.buffer-id.result c.known_of_buffers.ensures (sym c.has_mbf.ensures ∙ c.if-not-has_mbf.false)

pub returns-clause-sent : goal.returns-clause-sent
returns-clause-sent c =
    let p : DevParts = parts_of c.args.base.now c.args.table.now c.args.mails.now c.args.memory.now in
    let q : MailParts = mails_of c.post-sent.new.base c.post-sent.new.table c.post-sent.new.memory in
    let bytes : (c.args.event ∷ 0 ∷ 0 ∷ 0 ∷ c.args.device ∷ 0 ∷ 0 ∷ 0 ∷ 0 ∷ 0 ∷ 0 ∷ 0 ∷ []) ≡ event_bytes c.args.event c.args.device = bytes_are c.args.event c.args.device c.ranges.event.fits c.ranges.device.fits in
    event_goes p c.args.event c.args.device c.buffer-id.result q c.buffer-id.ensures
    (c.post-sent.ensures.left ∙ ap (λ (xs : List ℕ). unwrap_or (post (mail_parts p) c.buffer-id.result xs) (mail_parts p)) bytes)

pub returns-clause-fit : goal.returns-clause-fit
returns-clause-fit c =
    let p : DevParts = parts_of c.args.base.now c.args.table.now c.args.mails.now c.args.memory.now in
    let q : MailParts = mails_of c.post-sent.new.base c.post-sent.new.table c.post-sent.new.memory in
    sent_fit (mail_parts p) q c.buffer-id.result _ c.requires.fit c.post-sent.ensures.left
