-- What is done at steps, and at steps behind these; and lists that begin alike.
use Rattle.std.proofs.Common.{◌≡◌, ℕ, zero, suc, List, [], ◌∷◌, ◌++◌, Option, Some, refl, ap, sym, ◌∙◌}
use Rattle.std.specs.Prelude.{slice_set}
use Rattle.std.proofs.lemmas.List.{append_assoc}
use Rattle.kernel_model.specs.Words.Orders.{entry}
use Rattle.world_model.specs.Worlds.{Step, World, all_stepped, stepped}
use Rattle.fleet_laws.specs.Doings.{gathered}

pub stepped_on : (w : World) (first later : List Step) → all_stepped w (first ++ later) ≡ all_stepped (all_stepped w first) later
unfolding all_stepped
stepped_on w [] later = refl
stepped_on w (s ∷ first) later = stepped_on (stepped w s) first later

pub gathered_on : {A : Type 0} → (at : World → Step → List A) (w : World) (first later : List Step) → gathered at w (first ++ later) ≡ gathered at w first ++ gathered at (all_stepped w first) later
unfolding gathered all_stepped
gathered_on at w [] later = refl
gathered_on {A = A} at w (s ∷ first) later =
    ap (λ (xs : List A). at w s ++ xs) (gathered_on at (stepped w s) first later) ∙ sym (append_assoc (at w s) (gathered at (stepped w s) first) (gathered at (all_stepped (stepped w s) first) later))

-- ---- lists

-- what follows the same front is the same
pub behind_same : {A : Type 0} → (front one other : List A) → front ++ one ≡ front ++ other → one ≡ other
behind_same [] one other is = is
behind_same (x ∷ front) one other is = behind_same front one other (cc is)

pub never_longer : {A : Type 0} → (xs : List A) (x : A) (more : List A) → xs ≡ xs ++ (x ∷ more) → ⊥
never_longer [] x more is = cc is
never_longer (y ∷ xs) x more is = never_longer xs x more (cc is)

-- a slot that is written twice has what was written last
pub set_twice : {A : Type 0} → (xs : List A) (i : ℕ) (x y : A) → slice_set (slice_set xs i x) i y ≡ slice_set xs i y
set_twice [] i x y = refl
set_twice (z ∷ xs) zero x y = refl
set_twice {A = A} (z ∷ xs) (suc i) x y = ap (λ (ys : List A). z ∷ ys) (set_twice xs i x y)

-- and one where the same is written stays
pub set_same : {A : Type 0} → (xs : List (Option A)) (i : ℕ) (x : A) → entry xs i ≡ Some x → slice_set xs i (Some x) ≡ xs
set_same [] i x there = refl
set_same {A = A} (z ∷ xs) zero x there = ap (λ (y : Option A). y ∷ xs) (sym there)
set_same {A = A} (z ∷ xs) (suc i) x there = ap (λ (ys : List (Option A)). z ∷ ys) (set_same xs i x there)
