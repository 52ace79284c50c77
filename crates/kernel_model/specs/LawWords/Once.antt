-- Lists in which each number stands once at most.
use Rattle.std.specs.Prelude.{ℕ, ◌+◌, ◌≤◌, ◌<◌, ◌==◌, if◌then◌else◌, List, [], ◌∷◌}

-- how often a number stands in a list
abbrev pub times : ℕ → List ℕ → ℕ
times n [] = 0
times n (first ∷ rest) = (if first == n then 1 else 0) + times n rest

-- each number stands in the list once at most
abbrev pub IsOnce : List ℕ → Type 0
IsOnce list = (n : ℕ) → times n list ≤ 1

-- each number of a list is below one
abbrev pub AreBelow : ℕ → List ℕ → Type 0
AreBelow limit [] = Unit {0}
AreBelow limit (x ∷ xs) = (x < limit) × AreBelow limit xs
