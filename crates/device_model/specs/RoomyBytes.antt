-- What contracts see of bytes with room.
use Rattle.std.specs.Prelude.{ℕ, ◌-◌, List, length}

-- bytes, and how many more there is room for
pub record RoomyBytes : Type 0 where
  pub items : List ℕ
  pub room : ℕ

-- bytes in a place for so many
abbrev pub bytes_within : ℕ → List ℕ → RoomyBytes
bytes_within size items = record { items = items; room = size - length items }
