-- At the start there is no semaphore and no event flag, and so none whose waiters could queue otherwise.
use Rattle.std.proofs.Common.{◌≡◌, ℕ, zero, suc, None, refl, replicate, ap}
use Rattle.kernel_model.specs.Words.Orders.{entry}
use Rattle.kernel_model.specs.Tasks.Base.{Base}
use Rattle.kernel_model.specs.SemFlags.Tables.{SemFlags, sem_flags_start}
use Rattle.sem_flag.specs.Parts.{AreQueued}

none_in : {A : Type 0} (n id : ℕ) → entry {A = A} (replicate n None) id ≡ None
none_in zero id = refl
none_in (suc n) zero = refl
none_in (suc n) (suc id) = none_in n id

pub queued_at_start : (b : Base) (s : SemFlags) → s ≡ sem_flags_start → AreQueued b s
queued_at_start b s is = record {
  sems = λ id k low high there. absurd (cc (ap (λ (t : SemFlags). entry t.sems id) is, none_in 65 id, there));
  flags = λ id k low high there. absurd (cc (ap (λ (t : SemFlags). entry t.flags id) is, none_in 65 id, there));
}
