-- At the start there is no pool, and so none whose waiters could queue otherwise; and only task 1 is there, which is ready.
use Rattle.std.proofs.Common.{◌≡◌, ℕ, zero, suc, None, true, refl, replicate, ap, sym, ◌∙◌}
use Rattle.kernel_model.specs.Words.Orders.{entry}
use Rattle.kernel_model.specs.Tasks.Base.{Base, base_start, waiting_in, waits_for}
use Rattle.object_model.specs.Pools.Tables.{Pools, pools_start, variable_object}
use Rattle.mem_pools.specs.Parts.{AreQueued}

none_in : {A : Type 0} (n id : ℕ) → entry {A = A} (replicate n None) id ≡ None
none_in zero id = refl
none_in (suc n) zero = refl
none_in (suc n) (suc id) = none_in n id

nobody : (n t object : ℕ) → waiting_in object (entry (replicate n None) t) ≡ true → ⊥
nobody zero t object there = absurd (cc there)
nobody (suc n) zero object there = absurd (cc there)
nobody (suc n) (suc t) object there = nobody n t object there

nobody_first : (priority t object : ℕ) → waits_for (base_start priority) object t ≡ true → ⊥
nobody_first priority zero object there = absurd (cc there)
nobody_first priority (suc zero) object there = absurd (cc there)
nobody_first priority (suc (suc t)) object there = nobody 254 t object there

pub queued_at_start : (b : Base) (m : Pools) (priority : ℕ) → b ≡ base_start priority → m ≡ pools_start → AreQueued b m
queued_at_start b m priority starts is = record {
  fixed = λ id k low high there. absurd (cc (ap (λ (t : Pools). entry t.fixed id) is, none_in 65 id, there));
  variable = λ id k low high there. absurd (cc (ap (λ (t : Pools). entry t.variable id) is, none_in 65 id, there));
  asked = λ id t low high there. absurd (nobody_first priority t (variable_object id) (ap (λ (c : Base). waits_for c (variable_object id) t) (sym starts) ∙ there));
}
