-- Lists in rising order of a key.
use Rattle.std.specs.Prelude.{ℕ, ◌≤◌, List, [], ◌∷◌}

-- each key of the list is at least a number
abbrev pub AllFrom : (ℕ → ℕ) → ℕ → List ℕ → Type 0
AllFrom key low [] = Unit {0}
AllFrom key low (id ∷ ids) = (low ≤ key id) × AllFrom key low ids

-- the keys rise along the list, or stay equal
abbrev pub IsRisingBy : (ℕ → ℕ) → List ℕ → Type 0
IsRisingBy key [] = Unit {0}
IsRisingBy key (id ∷ ids) = AllFrom key (key id) ids × IsRisingBy key ids
