-- How far a table is used.
use Rattle.std.proofs.Common.{◌≡◌, ℕ, zero, suc, ◌+◌, ◌≤◌, List, Option, None, refl, ap, sym, subst, ◌∙◌, arith, length}
use Rattle.std.specs.Prelude.{max, replicate, slice_index, slice_set}
use Rattle.std.proofs.Math.Nat.{le-max_left, le-max_right}
use Rattle.kernel_model.specs.Words.Orders.{entry}
use Rattle.object_model.specs.Pools.Tables.{FixedPool, VariablePool}
use Rattle.kernel_lemmas.proofs.Tables.{entry_other}
use Rattle.mem_pools.specs.Tables.{AreFreeFrom, AreSizes, AreTables}

nothing : {A : Type 0} (n id : ℕ) → entry (replicate {A = Option A} n None) id ≡ None
nothing zero id = refl
nothing (suc n) zero = refl
nothing (suc n) (suc id) = nothing n id

none_asked : (n t : ℕ) → slice_index (replicate n 0) t ≡ 0
none_asked zero t = refl
none_asked (suc n) zero = refl
none_asked (suc n) (suc t) = none_asked n t

-- a table of free slots is free from any place on
free_at_start : {A : Type 0} (used n : ℕ) → AreFreeFrom used (replicate {A = Option A} n None)
free_at_start used n = record { free = λ id from. nothing n id }

-- a slot that is written may be used from then on, and those after it are as they were
pub free_written : {A : Type 0} (used id : ℕ) (slots : List (Option A)) (slot : Option A) → AreFreeFrom used slots → AreFreeFrom (max used (id + 1)) (slice_set slots id slot)
free_written used id slots slot old = record {
  free = λ n from.
      let before : used ≤ max used (id + 1) = le-max_left used (id + 1) in
      let past : id + 1 ≤ max used (id + 1) = le-max_right used (id + 1) in
      entry_other slots id n slot (λ is. omega (arith, past, from, is)) ∙ old.free n (omega (arith, before, from));
}

-- the tables are fit when all is free
pub fit_at_start : (fixed : List (Option FixedPool)) (variable : List (Option VariablePool)) (sizes : List ℕ) →
    fixed ≡ replicate 65 None → variable ≡ replicate 65 None → sizes ≡ replicate 256 0 → AreTables fixed variable sizes 1 1
fit_at_start fixed variable sizes no_fixed no_variable no_sizes = record {
  all_fixed = ap length no_fixed;
  all_variable = ap length no_variable;
  all_sizes = ap length no_sizes;
  used_fixed = omega arith;
  used_variable = omega arith;
  free_fixed = subst (λ (slots : List (Option FixedPool)). AreFreeFrom 1 slots) (sym no_fixed) (free_at_start 1 65);
  free_variable = subst (λ (slots : List (Option VariablePool)). AreFreeFrom 1 slots) (sym no_variable) (free_at_start 1 65);
  asked = subst (λ (sizes : List ℕ). AreSizes sizes) (sym no_sizes) (record { least = λ t some. absurd (omega (arith, none_asked 256 t, some)) });
}
