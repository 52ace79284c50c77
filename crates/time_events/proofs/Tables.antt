-- The table when it is new, and when a slot of it is written.
use Rattle.std.proofs.Common.{◌≡◌, ℕ, zero, suc, ◌≤◌, List, Option, Some, None, refl, ap, sym, subst, ◌∙◌, arith, length}
use Rattle.std.specs.Prelude.{IfSome, replicate, slice_set}
use Rattle.std.proofs.Math.ListN.{length-set}
use Rattle.kernel_model.specs.Words.Orders.{entry}
use Rattle.kernel_lemmas.proofs.Tables.{entry_each, entry_other, entry_same}
use Rattle.context_model.specs.declared.cyclic_row.CyclicRow.{CyclicRow}
use Rattle.context_model.specs.Clocks.Phases.{IsPeriodic}
use Rattle.time_events.specs.Tables.{AreClocks}

nothing : (n id : ℕ) → entry (replicate {A = Option CyclicRow} n None) id ≡ None
nothing zero id = refl
nothing (suc n) zero = refl
nothing (suc n) (suc id) = nothing n id

pub fit_at_start : (cyclics : List (Option CyclicRow)) (alarms : List (Option ℕ)) → cyclics ≡ replicate 65 None → alarms ≡ replicate 65 None → AreClocks cyclics alarms 0
fit_at_start cyclics alarms no_cyclics no_alarms = record {
  all_cyclics = ap length no_cyclics;
  all_alarms = ap length no_alarms;
  nameless = ap (λ (slots : List (Option CyclicRow)). entry slots 0) no_cyclics ∙ nothing 65 0;
  periodic = λ id. subst IsPeriodic (sym (ap (λ (slots : List (Option CyclicRow)). entry slots id) no_cyclics ∙ nothing 65 id)) tt;
  early = omega arith;
}

slot_periodic : (slot : Option CyclicRow) → IfSome slot (λ k. 1 ≤ k.period) → IsPeriodic slot
slot_periodic None is = tt
slot_periodic (Some k) is = is

pub fit_written : (id : ℕ) (slot : Option CyclicRow) (cyclics : List (Option CyclicRow)) (alarms : List (Option ℕ)) (set_to : ℕ) → 1 ≤ id → IfSome slot (λ k. 1 ≤ k.period) →
    AreClocks cyclics alarms set_to → AreClocks (slice_set cyclics id slot) alarms set_to
fit_written id slot cyclics alarms set_to low is old = record {
  all_cyclics = length-set cyclics id slot ∙ old.all_cyclics;
  all_alarms = old.all_alarms;
  nameless = entry_other cyclics id 0 slot (λ same. omega (arith, low, same)) ∙ old.nameless;
  periodic = entry_each (λ n written. IsPeriodic written) cyclics id slot (entry_same IsPeriodic cyclics id slot (slot_periodic slot is) tt) (λ other apart. old.periodic other);
  early = old.early;
}
