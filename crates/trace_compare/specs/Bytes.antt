-- A list of bytes by the list before it.
use Rattle.std.specs.Prelude.{ℕ, List, [], ◌∷◌, ◌++◌, Some, None}
use Rattle.std.specs.declared.option.Option.{Option}
use Rattle.std.specs.declared.snapshot.Snapshot.{Snapshot}

-- the list before with one byte behind it, and no bytes where there is none
abbrev pub bytes_behind : Option (Snapshot (List ℕ)) → ℕ → List ℕ
bytes_behind None byte = []
bytes_behind (Some before) byte = before.value ++ byte ∷ []
