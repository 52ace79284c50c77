-- How far a table is used.
use Rattle.std.proofs.Common.{◌≡◌, ℕ, zero, suc, ◌+◌, ◌≤◌, List, [], Option, None, refl, ap, sym, subst, ◌∙◌, arith, length}
use Rattle.std.specs.Prelude.{max, replicate, slice_set}
use Rattle.std.proofs.Math.Nat.{le-max_left, le-max_right}
use Rattle.kernel_model.specs.Words.Orders.{entry}
use Rattle.object_model.specs.Mails.Tables.{Mailbox, MessageBuffer}
use Rattle.kernel_lemmas.proofs.Tables.{entry_other}
use Rattle.mail_buffer.specs.Tables.{AreFreeFrom, AreTables}

nothing : {A : Type 0} (n id : ℕ) → entry (replicate {A = Option A} n None) id ≡ None
nothing zero id = refl
nothing (suc n) zero = refl
nothing (suc n) (suc id) = nothing n id

-- a table of free slots is free from any place on
free_at_start : {A : Type 0} (used n : ℕ) → AreFreeFrom used (replicate {A = Option A} n None)
free_at_start used n = record { free = λ id from. nothing n id }

-- a slot that is written may be used from then on, and those after it are as they were
pub free_written : {A : Type 0} (used id : ℕ) (slots : List (Option A)) (slot : Option A) → AreFreeFrom used slots → AreFreeFrom (max used (id + 1)) (slice_set slots id slot)
free_written used id slots slot old = record {
  free = λ n from.
      let before : used ≤ max used (id + 1) = le-max_left used (id + 1) in
      let past : id + 1 ≤ max used (id + 1) = le-max_right used (id + 1) in
      entry_other slots id n slot (λ is. omega (arith, past, from, is)) ∙ old.free n (omega (arith, before, from));
}

-- where a slot other than 0 is written, that of 0 stays free
pub unnamed_written : (id : ℕ) (slots : List (Option MessageBuffer)) (slot : Option MessageBuffer) → 1 ≤ id → entry slots 0 ≡ None → entry (slice_set slots id slot) 0 ≡ None
unnamed_written id slots slot named none = entry_other slots id 0 slot (λ is. omega (arith, named, is)) ∙ none

-- the tables are fit when all is free
pub fit_at_start : (boxes : List (Option Mailbox)) (buffers : List (Option MessageBuffer)) (sending : List (List ℕ)) (into : List ℕ) →
    boxes ≡ replicate 65 None → buffers ≡ replicate 65 None → sending ≡ replicate 256 [] → into ≡ replicate 256 0 → AreTables boxes buffers sending into 1 1
fit_at_start boxes buffers sending into no_boxes no_buffers no_sending no_into = record {
  all_boxes = ap length no_boxes;
  all_buffers = ap length no_buffers;
  all_sending = ap length no_sending;
  all_into = ap length no_into;
  used_boxes = omega arith;
  used_buffers = omega arith;
  free_boxes = subst (λ (slots : List (Option Mailbox)). AreFreeFrom 1 slots) (sym no_boxes) (free_at_start 1 65);
  free_buffers = subst (λ (slots : List (Option MessageBuffer)). AreFreeFrom 1 slots) (sym no_buffers) (free_at_start 1 65);
  unnamed = subst (λ (slots : List (Option MessageBuffer)). entry slots 0 ≡ None) (sym no_buffers) refl;
}
