-- IDs one behind the other in the script's memory.
use Rattle.std.specs.Prelude.{ℕ, ◌≡◌, ◌+◌, ◌*◌, ◌≤◌, nat_lt, if◌then◌else◌, length, List}
use Rattle.std.specs.Int.{w32, to_le_bytes}
use Rattle.kernel_model.specs.Bodies.Statements.{memory_size}
use Rattle.object_model.specs.Mails.Bytes.{with_bytes}
use Rattle.td_hooks.specs.declared.places.Place.{Place}

-- all of a place lies inside the script's memory
pub record IsInside (place : Place) (memory : List ℕ) : Type 0 where
  pub ends : place.address + 4 * place.most ≤ memory_size
  pub whole : length memory ≡ memory_size

-- the memory with an ID written behind so many others, where its place has room
abbrev pub with_id : List ℕ → ℕ → ℕ → ℕ → ℕ → List ℕ
with_id memory address most count id = if nat_lt count most then with_bytes memory (address + 4 * count) (to_le_bytes w32 id) else memory
