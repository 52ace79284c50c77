-- A text as lines, a line as words, and what a line shows by itself.
use Rattle.std.specs.Prelude.{ℕ, ◌+◌, Bool, not, ◌==◌, nat_lt, nat_le, ◌&&◌, if◌then◌else◌, List, [], ◌∷◌, ◌++◌, length, map, Option, Some, None}
use Rattle.std.specs.List.{slice_split, filter, list_all}
use Rattle.tk_types.specs.declared.why.Why.{Why}
use Rattle.tk_types.specs.declared.why.Why.TheVariants.{Byte, Line}

-- what lies between two marks, before the first and behind the last one
unfoldable pub parts_of : ℕ → List ℕ → List (List ℕ)
parts_of mark bytes = slice_split (λ byte. byte == mark) bytes

-- the lines of a text
abbrev pub lines_of : List ℕ → List (List ℕ)
lines_of text = parts_of 10 text

-- a part with bytes
abbrev pub is_word : List ℕ → Bool
is_word part = not (length part == 0)

-- the words of a line
abbrev pub words_of : List ℕ → List (List ℕ)
words_of line = filter is_word (parts_of 32 line)

-- a word with the number of its line
abbrev pub numbered : ℕ → List ℕ → ℕ × List ℕ
numbered number word = (number, word)

-- the words of lines that are counted from a number on, each with the number of its line
unfoldable pub words_from : ℕ → List (List ℕ) → List (ℕ × List ℕ)
words_from number [] = []
words_from number (line ∷ lines) = map (numbered number) (words_of line) ++ words_from (number + 1) lines

-- the words of a text, each with the number of its line
abbrev pub numbered_words : List ℕ → List (ℕ × List ℕ)
numbered_words text = words_from 1 (lines_of text)

-- a byte that may stand in a line
unfoldable pub is_text_byte : ℕ → Bool
is_text_byte byte = nat_le 32 byte && nat_le byte 126

-- what a line shows by itself: a byte that may not stand there, or too many bytes
unfoldable pub line_fault : List ℕ → Option Why
line_fault line =
    if list_all is_text_byte line then (if nat_lt 200 (length line) then Some Line else None) else Some Byte

-- the fault of a line, or else one of a later line
abbrev pub fault_or : ℕ → Option Why → Option (ℕ × Why) → Option (ℕ × Why)
fault_or number (Some why) later = Some (number, why)
fault_or number None later = later

-- the first of the lines, counted from a number on, that shows a fault by itself
unfoldable pub faults_from : ℕ → List (List ℕ) → Option (ℕ × Why)
faults_from number [] = None
faults_from number (line ∷ lines) = fault_or number (line_fault line) (faults_from (number + 1) lines)

-- the first line of a text that shows a fault by itself
abbrev pub fault_at : List ℕ → Option (ℕ × Why)
fault_at text = faults_from 1 (lines_of text)
