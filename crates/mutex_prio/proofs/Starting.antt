-- At the start there is no mutex, and so none whose waiters could queue otherwise.
use Rattle.std.proofs.Common.{◌≡◌, ℕ, zero, suc, None, refl, replicate, ap}
use Rattle.kernel_model.specs.Words.Orders.{entry}
use Rattle.kernel_model.specs.Tasks.Base.{Base}
use Rattle.object_model.specs.Mutexes.Tables.{Mutexes, mutexes_start}
use Rattle.mutex_prio.specs.Parts.{AreQueued}

none_in : {A : Type 0} (n id : ℕ) → entry {A = A} (replicate n None) id ≡ None
none_in zero id = refl
none_in (suc n) zero = refl
none_in (suc n) (suc id) = none_in n id

pub queued_at_start : (b : Base) (m : Mutexes) → m ≡ mutexes_start → AreQueued b m
queued_at_start b m is = record { waiters = λ id k low high there. absurd (cc (ap (λ (t : Mutexes). entry t.table id) is, none_in 65 id, there)) }
