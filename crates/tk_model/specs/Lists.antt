-- Lists: `-`, or words of a table in the table's order, none twice, with `|` between. A list is a number with one bit
-- for each word of the table, the lowest for the first word.
use Rattle.std.specs.Prelude.{ℕ, ◌+◌, ◌*◌, ◌/◌, ◌%◌, Bool, true, not, ◌==◌, ◌&&◌, ◌||◌, if◌then◌else◌, List, [], ◌∷◌, ◌++◌, map, Option, Some, None}
use Rattle.std.specs.Option.{option_map}
use Rattle.std.specs.List.{join_with_byte, list_all, list_any}
use Rattle.std.specs.Str.{bytes_eq}
use Rattle.tk_model.specs.Words.{parts_of}
use denote.Ref.{Bor}

-- what the texts of a table are
abbrev pub texts : List (Bor (List ℕ)) → List (List ℕ)
texts table = map (λ word. word.now) table

-- the words of a table whose bit is set
unfoldable pub chosen : List (List ℕ) → ℕ → List (List ℕ)
chosen [] bits = []
chosen (word ∷ table) bits = if bits % 2 == 1 then word ∷ chosen table (bits / 2) else chosen table (bits / 2)

-- the bits of a table whose first word is there, and whose first word isn't
abbrev pub with_bit : Option ℕ → Option ℕ
with_bit bits = option_map (λ n. 2 * n + 1) bits

abbrev pub without_bit : Option ℕ → Option ℕ
without_bit bits = option_map (λ n. 2 * n) bits

-- the bits of parts that are words of a table and come in its order
unfoldable pub bits_of : List (List ℕ) → List (List ℕ) → Option ℕ
bits_of [] [] = Some 0
bits_of [] (part ∷ parts) = None
bits_of (word ∷ table) [] = Some 0
bits_of (word ∷ table) (part ∷ parts) =
    if bytes_eq part word then with_bit (bits_of table parts) else without_bit (bits_of table (part ∷ parts))

-- the bits of a word that is a list of a table
unfoldable pub list_at : List (List ℕ) → List ℕ → Option ℕ
list_at table word = if bytes_eq word (45 ∷ []) then Some 0 else bits_of table (parts_of 124 word)

-- the list that has these bits
unfoldable pub list_text_of : List (List ℕ) → ℕ → List ℕ
list_text_of table bits = if bits == 0 then 45 ∷ [] else join_with_byte 124 (chosen table bits)

-- words with a bar before each
unfoldable pub barred : List (List ℕ) → List ℕ
barred [] = []
barred (word ∷ words) = 124 ∷ (word ++ barred words)

-- words with a bar between
unfoldable pub between_bars : List (List ℕ) → List ℕ
between_bars [] = []
between_bars (word ∷ words) = word ++ barred words

-- a byte that may stand in a word of a table
abbrev pub is_list_byte : ℕ → Bool
is_list_byte byte = not (byte == 124 || byte == 45)

-- whether words make a table: none of them has a bar or a dash, and they differ
unfoldable pub is_table : List (List ℕ) → Bool
is_table [] = true
is_table (word ∷ table) = list_all is_list_byte word && (not (list_any (bytes_eq word) table) && is_table table)
