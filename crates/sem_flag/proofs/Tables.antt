-- How far a table is used.
use Rattle.std.proofs.Common.{◌≡◌, ℕ, zero, suc, ◌+◌, ◌≤◌, List, Option, None, refl, ap, sym, subst, ◌∙◌, arith, length}
use Rattle.std.specs.Prelude.{max, replicate, slice_set}
use Rattle.std.proofs.Math.Nat.{le-max_left, le-max_right}
use Rattle.kernel_model.specs.declared.objects.Semaphore.{Semaphore}
use Rattle.kernel_model.specs.declared.objects.EventFlag.{EventFlag}
use Rattle.kernel_model.specs.declared.objects.FlagWish.{FlagWish}
use Rattle.kernel_model.specs.Words.Orders.{entry}
use Rattle.kernel_model.specs.SemFlags.Tables.{no_wish}
use Rattle.kernel_lemmas.proofs.Tables.{entry_other}
use Rattle.sem_flag.specs.Tables.{AreFreeFrom, AreTables}

nothing : {A : Type 0} (n id : ℕ) → entry (replicate {A = Option A} n None) id ≡ None
nothing zero id = refl
nothing (suc n) zero = refl
nothing (suc n) (suc id) = nothing n id

-- a table of free slots is free from any place on
free_at_start : {A : Type 0} (used n : ℕ) → AreFreeFrom used (replicate {A = Option A} n None)
free_at_start used n = record { free = λ id from. nothing n id }

-- a slot that is written may be used from then on, and those after it are as they were
pub free_written : {A : Type 0} (used id : ℕ) (slots : List (Option A)) (slot : Option A) → AreFreeFrom used slots → AreFreeFrom (max used (id + 1)) (slice_set slots id slot)
free_written used id slots slot old = record {
  free = λ n from.
      let before : used ≤ max used (id + 1) = le-max_left used (id + 1) in
      let past : id + 1 ≤ max used (id + 1) = le-max_right used (id + 1) in
      entry_other slots id n slot (λ is. omega (arith, past, from, is)) ∙ old.free n (omega (arith, before, from));
}

-- the tables are fit when all is free
pub fit_at_start : (sems : List (Option Semaphore)) (flags : List (Option EventFlag)) (counts : List ℕ) (wishes : List FlagWish) →
    sems ≡ replicate 65 None → flags ≡ replicate 65 None → counts ≡ replicate 256 0 → wishes ≡ replicate 256 no_wish → AreTables sems flags counts wishes 1 1
fit_at_start sems flags counts wishes no_sems no_flags no_counts no_wishes = record {
  all_sems = ap length no_sems;
  all_flags = ap length no_flags;
  all_counts = ap length no_counts;
  all_wishes = ap length no_wishes;
  used_sems = omega arith;
  used_flags = omega arith;
  free_sems = subst (λ (slots : List (Option Semaphore)). AreFreeFrom 1 slots) (sym no_sems) (free_at_start 1 65);
  free_flags = subst (λ (slots : List (Option EventFlag)). AreFreeFrom 1 slots) (sym no_flags) (free_at_start 1 65);
}
