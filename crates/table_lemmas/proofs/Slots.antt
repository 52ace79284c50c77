-- A slot that is written leaves a table as long as it is, and the first object that serves is one of those that do.
use Rattle.std.proofs.Common.{ℕ, ◌≤◌, length, List, [], ◌∷◌, Option, Some, None, sym, subst}
use Rattle.std.specs.Prelude.{slice_set}
use Rattle.std.specs.Option.{option_or}
use Rattle.object_model.specs.Servings.{first_serving}
use Rattle.machine_lemmas.proofs.Handing.{set_length}

-- a table with a slot written has no more slots than before
pub set_short : {A : Type 0} → (xs : List A) (i : ℕ) (y : A) → length xs ≤ 65 → length (slice_set xs i y) ≤ 65
set_short xs i y short = subst (λ n. n ≤ 65) (sym (set_length xs i y)) short

-- it holds of what a serving left, where there was one
abbrev pub IfServed : {A : Type 0} → (A → Type 0) → Option A → Type 0
IfServed P None = Unit {0}
IfServed P (Some q) = P q

-- what holds of one of two servings holds of the first that there is
pub either_served : {A : Type 0} → (P : A → Type 0) (one other : Option A) → IfServed P one → IfServed P other → IfServed P (option_or one other)
either_served P None other first second = second
either_served P (Some q) other first second = first

-- what holds of all servings holds of the first that there is
pub first_kept : {A : Type 0} → (P : A → Type 0) (serve : ℕ → Option A) (ids : List ℕ) → ((id : ℕ) → IfServed P (serve id)) → IfServed P (first_serving serve ids)
unfolding first_serving
first_kept P serve [] each = tt
first_kept P serve (id ∷ ids) each = either_served P (serve id) (first_serving serve ids) (each id) (first_kept P serve ids each)
