-- What is kept of the table when a slot is written.
use Rattle.std.proofs.Common.{◌≡◌, ℕ, zero, suc, ◌+◌, ◌≤◌, Bool, true, false, not, List, [], ◌∷◌, Option, Some, None, option_map, refl, ap, sym, subst, cond, ◌∙◌, arith, length}
use Rattle.std.specs.Prelude.{max, replicate, slice_set}
use Rattle.std.specs.Bool.{◌==◌}
use Rattle.std.specs.List.{AllPass}
use Rattle.std.proofs.Math.Nat.{le-max_left, le-max_right}
use Rattle.std.proofs.Math.ListN.{length-set}
use Rattle.std.proofs.lemmas.List.Elements.{All-set, All-replicate}
use Rattle.std.proofs.lemmas.Bool.Decides.{nat_tests}
use Rattle.kernel_model.specs.LawWords.Once.{times}
use Rattle.kernel_model.specs.Words.Orders.{entry, to_back, without}
use Rattle.kernel_lemmas.proofs.Once.{times_append, times_without}
use Rattle.kernel_lemmas.proofs.ReadyLists.{times_filter_is}
use Rattle.kernel_lemmas.proofs.Tables.{entry_other, entry_same, itself}
use Rattle.object_model.specs.declared.mutexes.Mutex.{Mutex}
use Rattle.object_model.specs.Mutexes.Tables.{owner_in}
use Rattle.mutex_prio.specs.Tables.{AreFreeFrom, AreLocked, AreMutexes, fits_slot}

nothing : (n id : ℕ) → entry (replicate {A = Option Mutex} n None) id ≡ None
nothing zero id = refl
nothing (suc n) zero = refl
nothing (suc n) (suc id) = nothing n id

by_place : (P : ℕ → Type 0) (id other : ℕ) (same : Bool) → (other == id) ≡ same → P id → ((other ≡ id → ⊥) → P other) → P other
by_place P id other true at here there = let e : id ≡ other = grind (arith, nat_tests, at) in subst P e here
by_place P id other false at here there = there (λ e. grind (arith, nat_tests, at, e))

-- ---- one slot is written

free_written : (used id : ℕ) (slots : List (Option Mutex)) (slot : Option Mutex) → AreFreeFrom used slots → AreFreeFrom (max used (id + 1)) (slice_set slots id slot)
free_written used id slots slot old = record {
  free = λ n from.
      let before : used ≤ max used (id + 1) = le-max_left used (id + 1) in
      let past : id + 1 ≤ max used (id + 1) = le-max_right used (id + 1) in
      entry_other slots id n slot (λ is. omega (arith, past, from, is)) ∙ old.free n (omega (arith, before, from));
}

owned_written : (slots : List (Option Mutex)) (locks now : List ℕ) (id : ℕ) (slot : Option Mutex) → AreLocked slots locks →
    ((owner_in slot ≡ 0 → ⊥) → 1 ≤ times id now) → ((other : ℕ) → (other ≡ id → ⊥) → times other now ≡ times other locks) → AreLocked (slice_set slots id slot) now
owned_written slots locks now id slot old locked others = record {
  each = λ n. by_place (λ n. (owner_in (entry (slice_set slots id slot) n) ≡ 0 → ⊥) → 1 ≤ times n now) id n (n == id) refl
      (entry_same (λ o. (owner_in o ≡ 0 → ⊥) → 1 ≤ times id now) slots id slot locked (λ none. absurd (none refl)))
      (λ apart has.
      let stands = old.each n (λ none. has (ap owner_in (entry_other slots id n slot apart) ∙ none)) in
      let same = others n apart in
      omega (arith, stands, same));
}

-- a slot is written, and what is locked changes for its mutex alone
slot_written : (slots : List (Option Mutex)) (locks now : List ℕ) (used id : ℕ) (slot : Option Mutex) → id ≤ 64 → AreMutexes slots locks used → fits_slot slot ≡ true →
    ((owner_in slot ≡ 0 → ⊥) → 1 ≤ times id now) → ((other : ℕ) → (other ≡ id → ⊥) → times other now ≡ times other locks) → AreMutexes (slice_set slots id slot) now (max used (id + 1))
slot_written slots locks now used id slot low is fits locked others = record {
  all = length-set slots id slot ∙ is.all;
  within = let had = is.within in omega arith;
  unused = free_written used id slots slot is.unused;
  ceilings = All-set (λ at. fits_slot at ≡ true) slots id slot fits is.ceilings;
  owned = owned_written slots locks now id slot is.owned locked others;
}

-- ---- how often the others are locked

kept_times : (n id : ℕ) (ids : List ℕ) (same : Bool) → (n == id) ≡ same → (n ≡ id → ⊥) → cond (not same) (times n ids) 0 ≡ times n ids
kept_times n id ids true at apart = absurd (apart (grind (arith, nat_tests, at)))
kept_times n id ids false at apart = refl

times_left : (n id : ℕ) (ids : List ℕ) → (n ≡ id → ⊥) → times n (without id ids) ≡ times n ids
times_left n id ids apart = times_filter_is (λ other. not (other == id)) n ids ∙ kept_times n id ids (n == id) refl apart

behind_none : (n id : ℕ) (same : Bool) → (id == n) ≡ same → (n ≡ id → ⊥) → ◌≡◌ {A = ℕ} (cond same 1 0 + 0) 0
behind_none n id true at apart = absurd (apart (grind (arith, nat_tests, at)))
behind_none n id false at apart = refl

times_back : (n id : ℕ) (ids : List ℕ) → (n ≡ id → ⊥) → times n (to_back id ids) ≡ times n ids
times_back n id ids apart =
    let both : times n (to_back id ids) ≡ times n (without id ids) + (cond (id == n) 1 0 + 0) = times_append n (without id ids) (id ∷ []) in
    let left = times_left n id ids apart in
    let none = behind_none n id (id == n) refl apart in
    omega (arith, both, left, none)

back_stands : (id : ℕ) (ids : List ℕ) → 1 ≤ times id (to_back id ids)
back_stands id ids =
    let both : times id (to_back id ids) ≡ times id (without id ids) + (cond (id == id) 1 0 + 0) = times_append id (without id ids) (id ∷ []) in
    let here : cond (id == id) 1 0 + 0 ≡ 1 + 0 = ap (λ (test : Bool). cond test 1 0 + 0) (itself id) in
    omega (arith, both, here)

-- ---- the moves

made_fit : (slots : List (Option Mutex)) (locks : List ℕ) (used id : ℕ) (slot : Option Mutex) → id ≤ 64 → AreMutexes slots locks used → fits_slot slot ≡ true → owner_in slot ≡ 0 →
    AreMutexes (slice_set slots id slot) locks (max used (id + 1))
made_fit slots locks used id slot low is fits none = slot_written slots locks locks used id slot low is fits (λ has. absurd (has none)) (λ other apart. refl)

locked_fit : (slots : List (Option Mutex)) (locks : List ℕ) (used id : ℕ) (slot : Option Mutex) → id ≤ 64 → AreMutexes slots locks used → fits_slot slot ≡ true →
    AreMutexes (slice_set slots id slot) (to_back id locks) (max used (id + 1))
locked_fit slots locks used id slot low is fits = slot_written slots locks (to_back id locks) used id slot low is fits (λ has. back_stands id locks) (λ other apart. times_back other id locks apart)

freed_fit : (slots : List (Option Mutex)) (locks : List ℕ) (used id : ℕ) (slot : Option Mutex) → id ≤ 64 → AreMutexes slots locks used → fits_slot slot ≡ true → owner_in slot ≡ 0 →
    AreMutexes (slice_set slots id slot) (without id locks) (max used (id + 1))
freed_fit slots locks used id slot low is fits none =
    slot_written slots locks (without id locks) used id slot low is fits (λ has. absurd (has none)) (λ other apart. times_left other id locks apart)

pub locked_at : (slots : List (Option Mutex)) (locks now : List ℕ) (used reach id : ℕ) (slot : Option Mutex) → id ≤ 64 → AreMutexes slots locks used → fits_slot slot ≡ true → now ≡ to_back id locks → reach ≡ max used (id + 1) →
    AreMutexes (slice_set slots id slot) now reach
locked_at slots locks now used reach id slot low is fits moved up =
    subst (λ (n : ℕ). AreMutexes (slice_set slots id slot) now n) (sym up) (subst (λ (ids : List ℕ). AreMutexes (slice_set slots id slot) ids (max used (id + 1))) (sym moved) (locked_fit slots locks used id slot low is fits))

pub freed_at : (slots : List (Option Mutex)) (locks now : List ℕ) (used reach id : ℕ) (slot : Option Mutex) → id ≤ 64 → AreMutexes slots locks used → fits_slot slot ≡ true → owner_in slot ≡ 0 → now ≡ without id locks → reach ≡ max used (id + 1) →
    AreMutexes (slice_set slots id slot) now reach
freed_at slots locks now used reach id slot low is fits none moved up =
    subst (λ (n : ℕ). AreMutexes (slice_set slots id slot) now n) (sym up) (subst (λ (ids : List ℕ). AreMutexes (slice_set slots id slot) ids (max used (id + 1))) (sym moved) (freed_fit slots locks used id slot low is fits none))

pub ownerless_free : (slot : Option Mutex) → owner_in (option_map {T = Mutex} (λ k. record k { owner = 0 }) slot) ≡ 0
ownerless_free None = refl
ownerless_free (Some k) = refl

-- ---- the start

none_owned : (n : ℕ) → AreLocked (replicate {A = Option Mutex} n None) []
none_owned n = record { each = λ id has. absurd (has (ap owner_in (nothing n id))) }

pub fit_at_start : (slots : List (Option Mutex)) (locks : List ℕ) → slots ≡ replicate 65 None → locks ≡ [] → AreMutexes slots locks 1
fit_at_start slots locks no_slots no_locks = record {
  all = ap length no_slots;
  within = omega arith;
  unused = subst (λ (at : List (Option Mutex)). AreFreeFrom 1 at) (sym no_slots) (record { free = λ id from. nothing 65 id });
  ceilings = subst (λ (at : List (Option Mutex)). AllPass fits_slot at) (sym no_slots) (All-replicate (λ at. fits_slot at ≡ true) 65 None refl);
  owned = subst (λ (ids : List ℕ). AreLocked slots ids) (sym no_locks) (subst (λ (at : List (Option Mutex)). AreLocked at []) (sym no_slots) (none_owned 65));
}

-- ---- nobody owns one where none is locked

free_by : (owner : ℕ) (none : Bool) → (owner == 0) ≡ none → ((owner ≡ 0 → ⊥) → ⊥) → owner ≡ 0
free_by owner true at never = grind (arith, nat_tests, at)
free_by owner false at never = absurd (never (λ e. grind (arith, nat_tests, at, e)))

pub unlocked_free : (slots : List (Option Mutex)) (locks : List ℕ) (id : ℕ) → AreLocked slots locks → locks ≡ [] → owner_in (entry slots id) ≡ 0
unlocked_free slots locks id is none =
    free_by (owner_in (entry slots id)) (owner_in (entry slots id) == 0) refl
    (λ has. let stands = is.each id has in let absent : times id locks ≡ 0 = ap (times id) none in omega (arith, stands, absent))
