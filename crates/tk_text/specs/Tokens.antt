-- Tokens: where the words of a text lie.
use Rattle.std.specs.Prelude.{ℕ, ◌+◌, ◌<◌, ◌≤◌, ◌==◌, if◌then◌else◌, List, [], ◌∷◌, ◌++◌, length, Option, Some, None, slice_range}
use Rattle.tk_model.specs.Words.{parts_of}
use Rattle.tk_text.specs.declared.token.Token.{Token}

-- the parts of what is left
abbrev pub parts_left : ℕ → Option (List ℕ) → List (List ℕ)
parts_left mark None = []
parts_left mark (Some rest) = parts_of mark rest

-- a bound on how many parts are left
abbrev pub room_left : Option (List ℕ) → ℕ
room_left None = 0
room_left (Some rest) = length rest + 1

-- the token of a part, where it has bytes
abbrev pub part_token : ℕ → ℕ → ℕ → List Token
part_token number at size = if size == 0 then [] else record { line = number; from = at; to = at + size } ∷ []

-- the tokens of the parts of a line
unfoldable pub line_tokens : ℕ → ℕ → List (List ℕ) → List Token
line_tokens number at [] = []
line_tokens number at (part ∷ parts) = part_token number at (length part) ++ line_tokens number (at + (length part + 1)) parts

-- the tokens of lines
unfoldable pub text_tokens : ℕ → ℕ → List (List ℕ) → List Token
text_tokens number at [] = []
text_tokens number at (line ∷ lines) =
    line_tokens number at (parts_of 32 line) ++ text_tokens (number + 1) (at + (length line + 1)) lines

-- the word of a token, with the number of its line
abbrev pub read_token : List ℕ → Token → ℕ × List ℕ
read_token text token = (token.line, slice_range text token.from token.to)

-- each span has bytes, begins at or behind the end of the one before, and ends in the text
unfoldable pub SpansRise : ℕ → ℕ → List Token → Type 0
SpansRise low end [] = Unit {0}
SpansRise low end (token ∷ tokens) = (low ≤ token.from) × (token.from < token.to) × (token.to ≤ end) × SpansRise token.to end tokens
