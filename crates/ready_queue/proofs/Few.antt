-- How many different numbers stand below a bound.
use Rattle.std.proofs.Common.{◌≡◌, ℕ, ◌<◌, ◌≤◌, true, List, [], ◌∷◌, length, eqb, nat_eq, sym, subst, ⊎_elim}
use Rattle.std.specs.List.{IsDistinct, AllByRecursion, list_any}
use Rattle.std.proofs.lemmas.Bool.{or_cases, eqb-true}
use Rattle.std.proofs.lemmas.Map.Steps.{length-le_from_distinct_below}

below_from_any : (n : ℕ) (xs : List ℕ) → AllByRecursion (λ x. x < n) xs → (q : ℕ) → list_any (eqb q) xs ≡ true → q < n
below_from_any n [] below q any = absurd (cc any)
below_from_any n (x ∷ xs) below q any =
    ⊎_elim (λ here. subst (λ y. y < n) (sym (eqb-true q x here)) below.0) (λ behind. below_from_any n xs below.1 q behind) (or_cases (eqb q x) (list_any (eqb q) xs) any)

-- numbers below n, each at most once, are at most n
pub few_below : (n : ℕ) (xs : List ℕ) → AllByRecursion (λ x. x < n) xs → IsDistinct nat_eq xs → length xs ≤ n
few_below n xs below once = length-le_from_distinct_below xs n once (below_from_any n xs below)
