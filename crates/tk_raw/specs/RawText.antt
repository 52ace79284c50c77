-- The lines of a script whose names aren't resolved yet, and what such a script has to be.
use Rattle.std.specs.Prelude.{◌≡◌, ℕ, ◌<◌, ◌≤◌, ◌^◌, true, List, [], ◌∷◌, ◌++◌, map, length, IfSome, codes, decimal, flat_map, FitsSigned}
use Rattle.std.specs.Fmt.{signed_decimal}
use Rattle.std.specs.Int.{w32}
use Rattle.std.specs.List.{AllByRecursion}
use Rattle.tk_types.specs.declared.call_name.ArgumentKind.{ArgumentKind}
use Rattle.tk_types.specs.declared.call_name.ArgumentKind.TheVariants as kinds
use Rattle.tk_types.specs.declared.script.Device.{Device}
use Rattle.tk_model.specs.Lists.{list_text_of}
use Rattle.tk_model.specs.ScriptText.{dash, register_word, table_of, body_kind_word, device_words, pace_lines, irq_words, all_differ, IsBetween, IsName, IsDevice, StepsRise}
use Rattle.tk_raw.specs.Heads.{head_text, form_of_head}
use Rattle.tk_raw.specs.declared.raw.Piece.{Piece}
use Rattle.tk_raw.specs.declared.raw.Piece.TheVariants as pieces
use Rattle.tk_raw.specs.declared.raw.RawBody.{RawBody}
use Rattle.tk_raw.specs.declared.raw.RawBoot.{RawBoot}
use Rattle.tk_raw.specs.declared.raw.RawItem.{RawItem}
use Rattle.tk_raw.specs.declared.raw.RawItem.TheVariants as items
use Rattle.tk_raw.specs.declared.raw.RawScript.{RawScript}
use Rattle.tk_raw.specs.declared.raw.RawStmt.{RawStmt}

-- the word of an argument in a place of that kind
unfoldable pub piece_word : ArgumentKind → Piece → List ℕ
piece_word kind (pieces.Number number) = signed_decimal number
piece_word kind (pieces.Register register) = register_word register
piece_word kind (pieces.Name name) = name
piece_word kind (pieces.List bits) = list_text_of (table_of kind) bits
piece_word kind pieces.Dash = dash

-- the words of arguments
unfoldable pub piece_words : List ArgumentKind → List Piece → List (List ℕ)
piece_words [] arguments = []
piece_words (kind ∷ form) [] = []
piece_words (kind ∷ form) (piece ∷ arguments) = piece_word kind piece ∷ piece_words form arguments

unfoldable pub raw_stmt_words : RawStmt → List (List ℕ)
raw_stmt_words stmt = head_text stmt.head ∷ piece_words (form_of_head stmt.head) stmt.pieces

-- the words of a line between `body` and `end`
unfoldable pub raw_item_words : RawItem → List (List ℕ)
raw_item_words (items.Label name) = codes "label" ∷ name ∷ []
raw_item_words (items.Stmt stmt) = raw_stmt_words stmt

-- the lines of a body without its `end`
unfoldable pub open_body_lines : RawBody → List (List (List ℕ))
open_body_lines body = (codes "body" ∷ body.name ∷ body_kind_word body.kind ∷ []) ∷ map raw_item_words body.items

unfoldable pub raw_body_lines : RawBody → List (List (List ℕ))
raw_body_lines body = open_body_lines body ++ (codes "end" ∷ []) ∷ []

abbrev pub raw_boot_words : RawBoot → List (List ℕ)
raw_boot_words boot = codes "boot" ∷ boot.body ∷ decimal boot.priority ∷ []

-- the lines of a script behind the first one, each as its words
unfoldable pub raw_lines : RawScript → List (List (List ℕ))
raw_lines raw =
    map device_words raw.devices ++ (pace_lines raw.pace ++ (map irq_words raw.irqs
    ++ raw_boot_words raw.boot ∷ flat_map raw_body_lines raw.bodies))

-- which arguments may stand in a place of that kind
unfoldable pub FitsPiece : ArgumentKind → Piece → Type 0
FitsPiece kinds.Value (pieces.Number number) = FitsSigned w32 number
FitsPiece kinds.Value (pieces.Register register) = register < 16
FitsPiece kinds.Attributes (pieces.List bits) = bits < 2 ^ 18
FitsPiece kinds.FlagMode (pieces.List bits) = bits < 2 ^ 4
FitsPiece kinds.OpenMode (pieces.List bits) = bits < 2 ^ 6
FitsPiece kinds.SuspendMode (pieces.List bits) = bits < 2 ^ 5
FitsPiece kinds.TaskBody (pieces.Name name) = IsName 16 name
FitsPiece kinds.HandlerBody (pieces.Name name) = IsName 16 name
FitsPiece kinds.HandlerBodyOrNone (pieces.Name name) = IsName 16 name
FitsPiece kinds.HandlerBodyOrNone pieces.Dash = Unit {0}
FitsPiece kinds.ServiceBodyOrNone (pieces.Name name) = IsName 16 name
FitsPiece kinds.ServiceBodyOrNone pieces.Dash = Unit {0}
FitsPiece kinds.DeviceName (pieces.Name name) = IsName 8 name
FitsPiece kinds.Register (pieces.Register register) = register < 16
FitsPiece kinds.Label (pieces.Name name) = IsName 16 name
FitsPiece kinds.Text (pieces.Name name) = IsName 16 name
FitsPiece _ _ = ⊥

unfoldable pub FitsPieces : List ArgumentKind → List Piece → Type 0
FitsPieces [] [] = Unit {0}
FitsPieces (kind ∷ form) (piece ∷ arguments) = FitsPiece kind piece × FitsPieces form arguments
FitsPieces _ _ = ⊥

unfoldable pub FitsItem : RawItem → Type 0
FitsItem (items.Label name) = IsName 16 name
FitsItem (items.Stmt stmt) = FitsPieces (form_of_head stmt.head) stmt.pieces

-- the names of the labels among the lines of a body
unfoldable pub label_names : List RawItem → List (List ℕ)
label_names [] = []
label_names (items.Label name ∷ rest) = name ∷ label_names rest
label_names (items.Stmt stmt ∷ rest) = label_names rest

pub record IsRawBody (body : RawBody) : Type 0 where
  pub name : IsName 16 body.name
  pub labels_differ : all_differ (label_names body.items) ≡ true
  pub items : AllByRecursion FitsItem body.items

abbrev pub device_names : List Device → List (List ℕ)
device_names devices = map (λ (device : Device). device.name) devices

abbrev pub body_names : List RawBody → List (List ℕ)
body_names bodies = map (λ (body : RawBody). body.name) bodies

-- what a script whose names aren't resolved yet has to be
pub record IsRaw (raw : RawScript) : Type 0 where
  pub few_devices : length raw.devices ≤ 8
  pub devices : AllByRecursion IsDevice raw.devices
  pub devices_differ : all_differ (device_names raw.devices) ≡ true
  pub pace : IfSome raw.pace (IsBetween 1 1000000)
  pub few_irqs : length raw.irqs ≤ 1024
  pub irqs : StepsRise 1 raw.irqs
  pub boot_body : IsName 16 raw.boot.body
  pub boot_priority : IsBetween 1 140 raw.boot.priority
  pub few_bodies : IsBetween 1 255 (length raw.bodies)
  pub bodies_differ : all_differ (body_names raw.bodies) ≡ true
  pub bodies : AllByRecursion IsRawBody raw.bodies
  pub numbered : length raw.lines ≡ length (raw_lines raw)
