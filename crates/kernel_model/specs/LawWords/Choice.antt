-- The best of an order in one pass: the least key, and of equals the earliest.
use Rattle.std.specs.Prelude.{ℕ, Bool, nat_lt, if◌then◌else◌, List, [], ◌∷◌, Option, Some, None}

abbrev pub better_than : (ℕ → ℕ) → Option ℕ → ℕ → Option ℕ
better_than key None id = Some id
better_than key (Some best) id = if nat_lt (key id) (key best) then Some id else Some best

-- the better one of the best so far and one that comes behind it
abbrev pub better : (ℕ → Bool) → (ℕ → ℕ) → Option ℕ → ℕ → Option ℕ
better passes key best id = if passes id then better_than key best id else best

abbrev pub best_of : (ℕ → Bool) → (ℕ → ℕ) → Option ℕ → List ℕ → Option ℕ
best_of passes key best [] = best
best_of passes key best (id ∷ ids) = best_of passes key (better passes key best id) ids
