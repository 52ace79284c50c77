-- What a name is.
use Rattle.std.specs.Prelude.{ℕ, Bool, ◌==◌, nat_lt, nat_le, ◌&&◌, ◌||◌, List, length, slice_index}
use Rattle.std.specs.Char.{is_ascii_lowercase, is_ascii_digit}
use Rattle.std.specs.List.{list_all}

-- a byte that may stand in a name: a lower-case letter, a digit or an underscore
unfoldable pub is_name_byte : ℕ → Bool
is_name_byte byte = is_ascii_lowercase byte || is_ascii_digit byte || byte == 95

-- whether a word is a name of at most so many bytes: a lower-case letter, then lower-case letters, digits and underscores
unfoldable pub name_at_most : ℕ → List ℕ → Bool
name_at_most most word =
    nat_le (length word) most && (nat_lt 0 (length word) && (is_ascii_lowercase (slice_index word 0) && list_all is_name_byte word))
