-- The place of a number in a rising list.
use Rattle.std.specs.Prelude.{ℕ, ◌≡◌, ◌++◌, List, drop, take}
use Rattle.machine_model.specs.Events.Handlers.{insert_once}

-- a number takes no place before this one
abbrev pub InFront : ℕ → ℕ → List ℕ → Type 0
InFront number place pending = insert_once number pending ≡ take place pending ++ insert_once number (drop place pending)
