-- Words that the families of objects share: the first object of a kind that can serve one, and how sizes are rounded.
use Rattle.std.specs.Prelude.{ℕ, ◌+◌, ◌-◌, ◌*◌, ◌/◌, List, [], ◌∷◌, Option, None}
use Rattle.std.specs.Option.{option_or}

-- the first of these IDs at which one can be served
unfoldable pub first_serving : {A : Type 0} → (ℕ → Option A) → List ℕ → Option A
first_serving serve [] = None
first_serving serve (id ∷ ids) = let later = first_serving serve ids in option_or (serve id) later

-- the least multiple of a step that is at least so many
abbrev pub rounded_up : ℕ → ℕ → ℕ
rounded_up step n = step * ((n + (step - 1)) / step)
