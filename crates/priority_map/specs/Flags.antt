-- Which priorities are set: a truth value for each, the first one for priority 0.
use Rattle.std.specs.Prelude.{ℕ, ◌+◌, ◌/◌, ◌%◌, ◌==◌, Bool, false, if◌then◌else◌, List, [], ◌∷◌, map, Option, Some, None, replicate}
use Rattle.std.specs.Int.{bit_at}
use Rattle.std.specs.List.{range_with_len, slice_index_or}

-- each word has the flags of 64 priorities, the lowest bit that of the first
abbrev pub is_set : List ℕ → ℕ → Bool
is_set words priority = bit_at (slice_index_or words (priority / 64) 0) (priority % 64) == 1

-- the flags of all priorities in three words
unfoldable pub flags : List ℕ → List Bool
flags words = map (is_set words) (range_with_len 0 192)

unfoldable pub nothing_set : List Bool
nothing_set = replicate 192 false

-- the first priority that is set, where the first flag is that of this one
abbrev pub first_set : ℕ → List Bool → Option ℕ
first_set priority [] = None
first_set priority (flag ∷ rest) = if flag then Some priority else first_set (priority + 1) rest
