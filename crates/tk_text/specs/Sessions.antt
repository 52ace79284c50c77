-- A session: a script, a line whose only word is the divider, and lines of a journal or of a trace.
use Rattle.std.specs.Prelude.{◌≡◌, ℕ, ◌+◌, ◌-◌, ◌<◌, ◌≤◌, Bool, true, false, not, ◌==◌, ◌||◌, ◌&&◌, nat_lt, if◌then◌else◌, List, [], ◌∷◌, length, take, drop, Option, Some, None, codes, bytes_eq, slice_index_or, option_map}
use Rattle.std.specs.List.{list_all}
use Rattle.tk_model.specs.Words.{lines_of, words_of}
use Rattle.tk_text.specs.declared.session.Place.{Place}
use Rattle.tk_text.specs.declared.session.Session.{Session}
use Rattle.tk_text.specs.declared.session.Behind.{Behind}
use Rattle.tk_text.specs.declared.session.Divider.{Divider}
use Rattle.tk_text.specs.declared.session.Divider.TheVariants.{Journal, Trace}

-- the most bytes of a script
abbrev pub script_limit : ℕ
script_limit = 1048576

-- the most bytes of a session
abbrev pub session_limit : ℕ
session_limit = 67108864

-- the word of a divider
abbrev pub divider_word : Divider → List ℕ
divider_word Journal = codes "%journal"
divider_word Trace = codes "%trace"

abbrev pub is_none : List (List ℕ) → Bool
is_none [] = true
is_none (word ∷ words) = false

-- whether these words are this one alone
abbrev pub is_only : List ℕ → List (List ℕ) → Bool
is_only word [] = false
is_only word (first ∷ rest) = bytes_eq first word && is_none rest

-- whether a line has this word and no other
unfoldable pub is_divider : List ℕ → List ℕ → Bool
is_divider word line = is_only word (words_of line)

-- the first of these lines that has this word alone; the lines are counted from a number on and begin at a place
unfoldable pub divider_from : List ℕ → ℕ → ℕ → List (List ℕ) → Option Place
divider_from word number at [] = None
divider_from word number at (line ∷ lines) =
    if is_divider word line then Some (record { line = number; from = at; to = at + length line })
    else divider_from word (number + 1) (at + (length line + 1)) lines

-- the first line of a text that has this word alone
abbrev pub divider_at : List ℕ → List ℕ → Option Place
divider_at word text = divider_from word 1 0 (lines_of text)

-- what lies behind a divider: the number of its first line, and its bytes
pub record Rest : Type 0 where
  pub line : ℕ
  pub bytes : List ℕ

-- a text in its two parts; the second one is missing where no line is the divider
pub record Parts : Type 0 where
  pub script : List ℕ
  pub behind : Option Rest

-- a place ends in the text, and has no more lines before it than bytes
abbrev pub IsWithin : ℕ → Place → Type 0
IsWithin size place = (place.from ≤ place.to) × (place.to ≤ size) × (place.line ≤ place.from + 1)

abbrev pub parts_at : List ℕ → Option Place → Parts
parts_at text None = record { script = text; behind = None }
parts_at text (Some place) = record { script = take place.from text; behind = Some (record { line = place.line + 1; bytes = drop (place.to + 1) text }) }

-- the parts that a value shows
abbrev pub rest_of : Behind → Rest
rest_of behind = record { line = behind.line; bytes = behind.bytes.now }

abbrev pub parts_of_session : Session → Parts
parts_of_session session = record { script = session.script.now; behind = option_map rest_of session.behind }

-- a session has no more bytes than its limit, and its script no more than a script's
abbrev pub within_limits : List ℕ → Parts → Option Parts
within_limits text parts = if nat_lt session_limit (length text) || nat_lt script_limit (length parts.script) then None else Some parts

-- the parts of a session, or none where a limit is passed
abbrev pub session : Divider → List ℕ → Option Parts
session divider text = within_limits text (parts_at text (divider_at (divider_word divider) text))

-- ---- the same without counting

-- no line before this one has the word alone, and this one has it
abbrev pub IsFirstDivider : List ℕ → List ℕ → Place → Type 0
IsFirstDivider word text place =
    (0 < place.line) × (list_all (λ line. not (is_divider word line)) (take (place.line - 1) (lines_of text)) ≡ true)
    × (is_divider word (slice_index_or (lines_of text) (place.line - 1) []) ≡ true)
