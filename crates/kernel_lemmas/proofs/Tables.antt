-- What is read of a table after one slot was written.
use Rattle.std.proofs.Common.{◌≡◌, ℕ, suc, zero, ◌≤◌, ◌<◌, length, Bool, true, false, List, [], ◌∷◌, Option, Some, None, refl, ap, sym, subst, arith}
use Rattle.std.specs.Prelude.{replicate, slice_get, slice_set}
use Rattle.std.specs.Bool.{◌==◌}
use Rattle.std.specs.Option.{option_flatten}
use Rattle.std.proofs.lemmas.Bool.Decides.{nat_tests}
use Rattle.tk_types.specs.declared.task.Task.{Task}
use Rattle.kernel_model.specs.Words.Orders.{entry}
use Rattle.kernel_model.specs.Tasks.Base.{Base, with_entry}

-- the test of a number against itself
pub itself : (t : ℕ) → (t == t) ≡ true
itself t = grind (arith, nat_tests)

get_other : {A : Type 0} → (xs : List A) (i j : ℕ) (y : A) → (j ≡ i → ⊥) → slice_get (slice_set xs i y) j ≡ slice_get xs j
get_other [] i j y apart = refl
get_other (x ∷ xs) zero zero y apart = absurd (apart refl)
get_other (x ∷ xs) zero (suc j) y apart = refl
get_other (x ∷ xs) (suc i) zero y apart = refl
get_other (x ∷ xs) (suc i) (suc j) y apart = get_other xs i j y (λ e. apart (ap (λ n. suc n) e))

-- every other slot is as it was
pub entry_other : {A : Type 0} → (xs : List (Option A)) (i j : ℕ) (y : Option A) → (j ≡ i → ⊥) → entry (slice_set xs i y) j ≡ entry xs j
entry_other xs i j y apart = ap option_flatten (get_other xs i j y apart)

-- a slot that was written has what was written, or nothing where there is no such slot
pub entry_same : {A : Type 0} → (P : Option A → Type 0) (xs : List (Option A)) (i : ℕ) (y : Option A) → P y → P None → P (entry (slice_set xs i y) i)
entry_same P [] i y written nothing = nothing
entry_same P (x ∷ xs) zero y written nothing = written
entry_same P (x ∷ xs) (suc i) y written nothing = entry_same P xs i y written nothing

-- a slot that had something is inside the table
pub entry_there : {A : Type 0} → (xs : List (Option A)) (i : ℕ) (k : A) (y : Option A) → entry xs i ≡ Some k → entry (slice_set xs i y) i ≡ y
entry_there [] i k y there = absurd (cc there)
entry_there (x ∷ xs) zero k y there = refl
entry_there (x ∷ xs) (suc i) k y there = entry_there xs i k y there

-- and one of which the table has no such slot has nothing
pub entry_beyond : {A : Type 0} → (xs : List (Option A)) (i : ℕ) → length xs ≤ i → entry xs i ≡ None
entry_beyond [] i beyond = refl
entry_beyond (x ∷ xs) zero beyond = absurd (omega (arith, beyond))
entry_beyond (x ∷ xs) (suc i) beyond = entry_beyond xs i (omega (arith, beyond))

-- what has something isn't beyond
pub entry_inside : {A : Type 0} → (xs : List (Option A)) (i : ℕ) (k : A) → entry xs i ≡ Some k → i < length xs
entry_inside [] i k there = absurd (cc there)
entry_inside (x ∷ xs) zero k there = omega arith
entry_inside (x ∷ xs) (suc i) k there = let inside : i < length xs = entry_inside xs i k there in omega (arith, inside)

by_test : {A : Type 0} → (P : ℕ → Option A → Type 0) (xs : List (Option A)) (i j : ℕ) (y : Option A) (b : Bool) → (j == i) ≡ b → P i (entry (slice_set xs i y) i) → ((j ≡ i → ⊥) → P j (entry xs j)) → P j (entry (slice_set xs i y) j)
by_test P xs i j y true is same other = let e : i ≡ j = grind (arith, nat_tests, is) in subst (λ (n : ℕ). P n (entry (slice_set xs i y) n)) e same
by_test {A = A} P xs i j y false is same other = let apart : j ≡ i → ⊥ = λ e. grind (arith, nat_tests, is, e) in subst (λ (o : Option A). P j o) (sym (entry_other xs i j y apart)) (other apart)

-- what holds of each slot, once one was written: that one, and the others as they were
pub entry_each : {A : Type 0} → (P : ℕ → Option A → Type 0) (xs : List (Option A)) (i : ℕ) (y : Option A) → P i (entry (slice_set xs i y) i) → ((j : ℕ) → (j ≡ i → ⊥) → P j (entry xs j)) → (j : ℕ) → P j (entry (slice_set xs i y) j)
entry_each P xs i y same others = λ j. by_test P xs i j y (j == i) refl same (others j)

-- a move on a task that doesn't exist changes nothing, and else it is that on its row
pub entry_cases : (P : Base → Type 0) (o : Option Task) (b : Base) (f : Task → Base) → P b → ((k : Task) → o ≡ Some k → P (f k)) → P (with_entry o b f)
entry_cases P None b f same moved = same
entry_cases P (Some k) b f same moved = moved k refl

-- a move on a task that exists is that on its row
pub entry_at : (P : Base → Type 0) (o : Option Task) (k : Task) (b : Base) (f : Task → Base) → o ≡ Some k → P (f k) → P (with_entry o b f)
entry_at P o k b f at moved = subst (λ (q : Option Task). P (with_entry q b f)) (sym at) moved

-- the same, where what holds of a task that doesn't exist rests on that
pub entry_split : (P : Base → Type 0) (o : Option Task) (b : Base) (f : Task → Base) → (o ≡ None → P b) → ((k : Task) → o ≡ Some k → P (f k)) → P (with_entry o b f)
entry_split P None b f same moved = same refl
entry_split P (Some k) b f same moved = moved k refl

-- a table that is free has nothing
pub none_there : (n t : ℕ) → entry (replicate {A = Option Task} n None) t ≡ None
none_there zero t = refl
none_there (suc n) zero = refl
none_there (suc n) (suc t) = none_there n t
