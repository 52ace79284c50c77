-- How the words of a line are read as numbers, names, lists and registers, and those behind a first word as arguments.
use Rattle.std.specs.Prelude.{ℕ, ℤ, Bool, nat_lt, nat_le, ◌==◌, ◌&&◌, if◌then◌else◌, List, [], ◌∷◌, ◌++◌, length, Option, Some, None, Result, Ok, Err}
use Rattle.std.specs.Str.{bytes_eq}
use Rattle.tk_types.specs.declared.call_name.ArgumentKind.{ArgumentKind}
use Rattle.tk_types.specs.declared.call_name.ArgumentKind.TheVariants as kinds
use Rattle.tk_types.specs.declared.why.Why.{Why}
use Rattle.tk_types.specs.declared.why.Why.TheVariants as whys
use Rattle.tk_types.specs.Names.{name_at_most}
use Rattle.tk_model.specs.Decimals.{number_at, natural_at}
use Rattle.tk_model.specs.Lists.{list_at}
use Rattle.tk_model.specs.ScriptText.{dash, table_of}
use Rattle.tk_raw.specs.Heads.{head_named, form_of_head}
use Rattle.tk_raw.specs.declared.head.Head.{Head}
use Rattle.tk_raw.specs.declared.raw.Piece.{Piece}
use Rattle.tk_raw.specs.declared.raw.Piece.TheVariants as pieces
use Rattle.tk_raw.specs.declared.raw.RawStmt.{RawStmt}

-- one step after another, the first that fails deciding
infixl 10 ◌>>=◌
abbrev pub ◌>>=◌ : {A B : Type 0} → Result A Why → (A → Result B Why) → Result B Why
(Ok read) >>= next = next read
(Err why) >>= next = Err why

-- a test that fails for a reason
abbrev pub tested : Bool → Why → Result (Unit {0}) Why
tested passed why = if passed then Ok tt else Err why

abbrev pub below_sixteen : Option ℕ → Option ℕ
below_sixteen None = None
below_sixteen (Some number) = if nat_lt number 16 then Some number else None

-- the register that a word spells: `r` and a number from 0 to 15
unfoldable pub register_at : List ℕ → Option ℕ
register_at [] = None
register_at (first ∷ digits) = if first == 114 then below_sixteen (natural_at digits) else None

abbrev pub number_from : Option ℕ → ℕ → ℕ → Result ℕ Why
number_from None low high = Err whys.Number
number_from (Some number) low high = if nat_le low number && nat_le number high then Ok number else Err whys.Number

-- the number of a range that a word spells
unfoldable pub number_between : ℕ → ℕ → List ℕ → Result ℕ Why
number_between low high word = number_from (natural_at word) low high

-- the name that a word spells
unfoldable pub name_at : List ℕ → Result (List ℕ) Why
name_at word = if name_at_most 16 word then Ok word else Err whys.Name

-- the name of a device that a word spells
unfoldable pub short_name_at : List ℕ → Result (List ℕ) Why
short_name_at word = if name_at_most 8 word then name_at word else Err whys.Name

abbrev pub register_piece : Option ℕ → Why → Result Piece Why
register_piece (Some register) why = Ok (pieces.Register register)
register_piece None why = Err why

abbrev pub value_piece : Option ℤ → Option ℕ → Result Piece Why
value_piece (Some number) register = Ok (pieces.Number number)
value_piece None register = register_piece register whys.Number

-- a number or a register
unfoldable pub value_at : List ℕ → Result Piece Why
value_at word = value_piece (number_at word) (register_at word)

abbrev pub list_piece : Option ℕ → Result Piece Why
list_piece (Some bits) = Ok (pieces.List bits)
list_piece None = Err whys.List

abbrev pub name_piece : Result (List ℕ) Why → Result Piece Why
name_piece (Ok name) = Ok (pieces.Name name)
name_piece (Err why) = Err why

-- the name of a body, or `-` for none
unfoldable pub name_or_dash_at : List ℕ → Result Piece Why
name_or_dash_at word = if bytes_eq word dash then Ok pieces.Dash else name_piece (name_at word)

-- the argument that a word is in a place of that kind
unfoldable pub piece_at : ArgumentKind → List ℕ → Result Piece Why
piece_at kinds.Value word = value_at word
piece_at kinds.Attributes word = list_piece (list_at (table_of kinds.Attributes) word)
piece_at kinds.FlagMode word = list_piece (list_at (table_of kinds.FlagMode) word)
piece_at kinds.OpenMode word = list_piece (list_at (table_of kinds.OpenMode) word)
piece_at kinds.SuspendMode word = list_piece (list_at (table_of kinds.SuspendMode) word)
piece_at kinds.TaskBody word = name_piece (name_at word)
piece_at kinds.HandlerBody word = name_piece (name_at word)
piece_at kinds.HandlerBodyOrNone word = name_or_dash_at word
piece_at kinds.ServiceBodyOrNone word = name_or_dash_at word
piece_at kinds.DeviceName word = name_piece (short_name_at word)
piece_at kinds.Register word = register_piece (register_at word) whys.Name
piece_at kinds.Label word = name_piece (name_at word)
piece_at kinds.Text word = name_piece (name_at word)

-- the arguments that words are in the places of a form, from left to right, behind those that are there already
unfoldable pub pieces_from : List ArgumentKind → List (List ℕ) → List Piece → Result (List Piece) Why
pieces_from [] [] front = Ok front
pieces_from [] (word ∷ words) front = Err whys.Count
pieces_from (kind ∷ form) [] front = Err whys.Count
pieces_from (kind ∷ form) (word ∷ words) front = do
  piece ← piece_at kind word
  pieces_from form words (front ++ piece ∷ [])

-- as many arguments as the form has, and each as its place wants
unfoldable pub arguments_at : List ArgumentKind → List (List ℕ) → Result (List Piece) Why
arguments_at form words = if length words == length form then pieces_from form words [] else Err whys.Count

abbrev pub stmt_from : Option Head → List (List ℕ) → Result RawStmt Why
stmt_from None words = Err whys.Word
stmt_from (Some head) words = do
  arguments ← arguments_at (form_of_head head) words
  Ok (record { head = head; pieces = arguments })

-- the statement of a line that begins with that word: first the word, then the number of words, then the leftmost wrong argument
unfoldable pub raw_stmt_at : List ℕ → List (List ℕ) → Result RawStmt Why
raw_stmt_at first words = stmt_from (head_named first) words
