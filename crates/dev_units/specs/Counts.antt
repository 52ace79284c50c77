-- A count by the one before it.
use Rattle.std.specs.Prelude.{ℕ, ◌+◌, Some, None}
use Rattle.std.specs.declared.option.Option.{Option}
use Rattle.std.specs.declared.snapshot.Snapshot.{Snapshot}

-- one more than the number before, and 0 where there is none
abbrev pub count_behind : Option (Snapshot ℕ) → ℕ
count_behind None = 0
count_behind (Some before) = before.value + 1
