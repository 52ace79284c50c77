-- At the start there is no mailbox and no message buffer, and so none whose waiters could queue or ask otherwise.
use Rattle.std.proofs.Common.{◌≡◌, ℕ, zero, suc, None, refl, replicate, ap}
use Rattle.kernel_model.specs.Words.Orders.{entry}
use Rattle.kernel_model.specs.Tasks.Base.{Base}
use Rattle.object_model.specs.Mails.Tables.{Mails, mails_start}
use Rattle.mail_buffer.specs.Parts.{AreQueued, HaveAsked}

none_in : {A : Type 0} (n id : ℕ) → entry {A = A} (replicate n None) id ≡ None
none_in zero id = refl
none_in (suc n) zero = refl
none_in (suc n) (suc id) = none_in n id

pub queued_at_start : (b : Base) (m : Mails) → m ≡ mails_start → AreQueued b m
queued_at_start b m is = record {
  boxes = λ id k low high there. absurd (cc (ap (λ (t : Mails). entry t.boxes id) is, none_in 65 id, there));
  senders = λ id k low high there. absurd (cc (ap (λ (t : Mails). entry t.buffers id) is, none_in 65 id, there));
  receivers = λ id k low high there. absurd (cc (ap (λ (t : Mails). entry t.buffers id) is, none_in 65 id, there));
}

pub asked_at_start : (b : Base) (m : Mails) → m ≡ mails_start → HaveAsked b m
asked_at_start b m is = record {
  senders = λ id t k low high there waits. absurd (cc (ap (λ (t : Mails). entry t.buffers id) is, none_in 65 id, there));
  receivers = λ id t k low high there waits. absurd (cc (ap (λ (t : Mails). entry t.buffers id) is, none_in 65 id, there));
}
