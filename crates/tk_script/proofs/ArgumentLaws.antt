-- Arguments, with the names in them looked up: each has the word that was read, and each that may stand is found again.
use Rattle.std.proofs.Common.{◌≡◌, ◌∙◌, sym, ap, subst, refl, inl, inr, ℕ, zero, suc, ◌-◌, eqb, ◌<◌, ◌≤◌, Bool, true, false, cond, List, [], ◌∷◌, ◌++◌, map, length, Some, Result, Ok, Err, append_assoc}
use Rattle.std.specs.Prelude.{◌⊎◌, ◌==◌, slice_get, if◌then◌else◌}
use Rattle.std.specs.List.{AllByRecursion, list_all}
use Rattle.std.proofs.lemmas.List.{append-nil}
use Rattle.tk_types.specs.declared.call_name.ArgumentKind.{ArgumentKind}
use Rattle.tk_types.specs.declared.call_name.ArgumentKind.TheVariants as kinds
use Rattle.tk_types.specs.declared.script.Arg.{Arg}
use Rattle.tk_types.specs.declared.script.Arg.TheVariants as args
use Rattle.tk_types.specs.declared.script.Body.{Body}
use Rattle.tk_types.specs.declared.script.BodyKind.{BodyKind}
use Rattle.tk_types.specs.declared.script.BodyKind.TheVariants.{Task, Hand, Svc}
use Rattle.tk_types.specs.declared.script.Label.{Label}
use Rattle.tk_types.specs.declared.script.Operand.{Operand}
use Rattle.tk_types.specs.declared.script.Operand.TheVariants as operands
use Rattle.tk_types.specs.declared.why.Why.{Why}
use Rattle.tk_model.specs.ScriptText.{all_differ, arg_word, arg_words, body_word, label_name, name_or_dash, operand_word, register_word, FitsArg, FitsArgs, FitsOperand, IsBodyNumber, IsName}
use Rattle.tk_raw.specs.RawText.{piece_word, piece_words, FitsPiece, FitsPieces}
use Rattle.tk_raw.specs.declared.raw.Piece.{Piece}
use Rattle.tk_raw.specs.declared.raw.Piece.TheVariants as pieces
use Rattle.tk_raw.specs.declared.raw.RawBody.{RawBody}
use Rattle.tk_raw.proofs.Results.{ok_is, some_is, both_true}
use Rattle.tk_script.specs.Resolving.{◌>>=◌, arg_of, args_from, body_arg, body_number, label_of, name_of, named_arg, operand_of, register_of}
use Rattle.tk_script.proofs.NameLaws.{SameBodies, number_takes, number_again, label_takes, not_zero, mapped_some, numbered_word}

-- a step behind another
pub bind_ok : {A B E : Type 0} (read : Result A E) (next : A → Result B E) (y : B) → (read >>= next) ≡ Ok y → (x : A) × (read ≡ Ok x) × (next x ≡ Ok y)
bind_ok (Ok x) next y e = (x, refl, e)
bind_ok (Err error) next y e = absurd (cc)

-- ---- what is read

pub register_takes : (piece : Piece) (register : ℕ) → register_of piece ≡ Ok register → FitsPiece kinds.Register piece → (register_word register ≡ piece_word kinds.Register piece) × (register < 16)
unfolding register_of piece_word FitsPiece
register_takes (pieces.Register r) register e fits = subst (λ (n : ℕ). (register_word n ≡ register_word r) × (n < 16)) (ok_is r register e) (refl, fits)
register_takes _ register e fits = absurd fits

pub operand_takes : (piece : Piece) (value : Operand) → operand_of piece ≡ Ok value → FitsPiece kinds.Value piece → (operand_word value ≡ piece_word kinds.Value piece) × FitsOperand value
unfolding operand_of operand_word piece_word FitsPiece FitsOperand
operand_takes (pieces.Number z) value e fits = subst (λ (v : Operand). (operand_word v ≡ piece_word kinds.Value (pieces.Number z)) × FitsOperand v) (ok_is (operands.Number z) value e) (refl, fits)
operand_takes (pieces.Register r) value e fits = subst (λ (v : Operand). (operand_word v ≡ piece_word kinds.Value (pieces.Register r)) × FitsOperand v) (ok_is (operands.Register r) value e) (refl, fits)
operand_takes _ value e fits = absurd fits

pub text_takes : (piece : Piece) (name : List ℕ) → name_of piece ≡ Ok name → FitsPiece kinds.Text piece → (name ≡ piece_word kinds.Text piece) × IsName 16 name
unfolding name_of piece_word FitsPiece
text_takes (pieces.Name n) name e fits = subst (λ (w : List ℕ). (w ≡ n) × IsName 16 w) (ok_is n name e) (refl, fits)
text_takes _ name e fits = absurd fits

pub mark_takes : (labels : List Label) (piece : Piece) (label : ℕ) → label_of labels piece ≡ Ok label → FitsPiece kinds.Label piece → (label_name (slice_get labels label) ≡ piece_word kinds.Label piece) × (label < length labels)
unfolding label_of piece_word FitsPiece
mark_takes labels (pieces.Name n) label e fits = label_takes labels n label e
mark_takes labels _ label e fits = absurd fits

-- an argument of a call
pub record TakenArg (bodies : List Body) (kind : ArgumentKind) (piece : Piece) (argument : Arg) : Type 0 where
  pub word : arg_word bodies kind argument ≡ piece_word kind piece
  pub fits : FitsArg bodies kind argument

is_body : (r : Result ℕ Why) (argument : Arg) → body_arg r ≡ Ok argument → (n : ℕ) × (r ≡ Ok n) × (args.Body n ≡ argument)
is_body (Ok n) argument e = (n, refl, cc)
is_body (Err why) argument e = absurd (cc)

body_taken : (raws : List RawBody) (bodies : List Body) (kind : ArgumentKind) (wanted : BodyKind) (name : List ℕ) (argument : Arg) → SameBodies raws bodies → ((n : ℕ) → IsBodyNumber bodies wanted n → FitsArg bodies kind (args.Body n)) → body_arg (body_number raws wanted name) ≡ Ok argument → TakenArg bodies kind (pieces.Name name) argument
unfolding arg_word piece_word
body_taken raws bodies kind wanted name argument same fits e =
    let found = is_body (body_number raws wanted name) argument e in
    let is = number_takes raws bodies wanted name found.0 same found.1 in
    subst (TakenArg bodies kind (pieces.Name name)) found.2 (record { word = is.word; fits = fits found.0 is.is })

-- the kinds of arguments that calls have
abbrev pub is_call_kind : ArgumentKind → Bool
is_call_kind kinds.Register = false
is_call_kind kinds.Label = false
is_call_kind kinds.Text = false
is_call_kind _ = true

pub arg_takes : (raws : List RawBody) (bodies : List Body) (kind : ArgumentKind) (piece : Piece) (argument : Arg) → SameBodies raws bodies → is_call_kind kind ≡ true → arg_of raws kind piece ≡ Ok argument → FitsPiece kind piece → TakenArg bodies kind piece argument
unfolding arg_of named_arg arg_word piece_word FitsPiece FitsArg body_word
arg_takes raws bodies kinds.Value (pieces.Number z) argument same calls e fits = subst (TakenArg bodies kinds.Value (pieces.Number z)) (ok_is (args.Number z) argument e) (record { word = refl; fits = fits })
arg_takes raws bodies kinds.Value (pieces.Register r) argument same calls e fits = subst (TakenArg bodies kinds.Value (pieces.Register r)) (ok_is (args.Register r) argument e) (record { word = refl; fits = fits })
arg_takes raws bodies kinds.Attributes (pieces.List bits) argument same calls e fits = subst (TakenArg bodies kinds.Attributes (pieces.List bits)) (ok_is (args.List bits) argument e) (record { word = refl; fits = fits })
arg_takes raws bodies kinds.FlagMode (pieces.List bits) argument same calls e fits = subst (TakenArg bodies kinds.FlagMode (pieces.List bits)) (ok_is (args.List bits) argument e) (record { word = refl; fits = fits })
arg_takes raws bodies kinds.OpenMode (pieces.List bits) argument same calls e fits = subst (TakenArg bodies kinds.OpenMode (pieces.List bits)) (ok_is (args.List bits) argument e) (record { word = refl; fits = fits })
arg_takes raws bodies kinds.SuspendMode (pieces.List bits) argument same calls e fits = subst (TakenArg bodies kinds.SuspendMode (pieces.List bits)) (ok_is (args.List bits) argument e) (record { word = refl; fits = fits })
arg_takes raws bodies kinds.DeviceName (pieces.Name name) argument same calls e fits = subst (TakenArg bodies kinds.DeviceName (pieces.Name name)) (ok_is (args.Name name) argument e) (record { word = refl; fits = fits })
arg_takes raws bodies kinds.TaskBody (pieces.Name name) argument same calls e fits = body_taken raws bodies kinds.TaskBody Task name argument same (λ n is. is) e
arg_takes raws bodies kinds.HandlerBody (pieces.Name name) argument same calls e fits = body_taken raws bodies kinds.HandlerBody Hand name argument same (λ n is. is) e
arg_takes raws bodies kinds.HandlerBodyOrNone (pieces.Name name) argument same calls e fits = body_taken raws bodies kinds.HandlerBodyOrNone Hand name argument same (λ n is. inr is) e
arg_takes raws bodies kinds.ServiceBodyOrNone (pieces.Name name) argument same calls e fits = body_taken raws bodies kinds.ServiceBodyOrNone Svc name argument same (λ n is. inr is) e
arg_takes raws bodies kinds.HandlerBodyOrNone pieces.Dash argument same calls e fits = subst (TakenArg bodies kinds.HandlerBodyOrNone pieces.Dash) (ok_is (args.Body 0) argument e) (record { word = refl; fits = inl refl })
arg_takes raws bodies kinds.ServiceBodyOrNone pieces.Dash argument same calls e fits = subst (TakenArg bodies kinds.ServiceBodyOrNone pieces.Dash) (ok_is (args.Body 0) argument e) (record { word = refl; fits = inl refl })
arg_takes raws bodies kinds.Register _ argument same calls e fits = absurd (cc)
arg_takes raws bodies kinds.Label _ argument same calls e fits = absurd (cc)
arg_takes raws bodies kinds.Text _ argument same calls e fits = absurd (cc)
arg_takes raws bodies _ _ argument same calls e fits = absurd fits

-- the arguments of a call
pub record TakenArgs (bodies : List Body) (form : List ArgumentKind) (list : List Piece) (front all : List Arg) : Type 0 where
  pub more : List Arg
  pub is : all ≡ front ++ more
  pub words : arg_words bodies form more ≡ piece_words form list
  pub fits : FitsArgs bodies form more

pub args_takes : (raws : List RawBody) (bodies : List Body) (form : List ArgumentKind) (list : List Piece) (front all : List Arg) → SameBodies raws bodies → list_all is_call_kind form ≡ true → args_from raws form list front ≡ Ok all → FitsPieces form list → TakenArgs bodies form list front all
unfolding args_from arg_words piece_words FitsPieces FitsArgs
args_takes raws bodies [] [] front all same calls e fits = record { more = []; is = sym (append-nil front ∙ ok_is front all e); words = refl; fits = tt }
args_takes raws bodies [] (piece ∷ list) front all same calls e fits = absurd fits
args_takes raws bodies (kind ∷ form) [] front all same calls e fits = absurd fits
args_takes raws bodies (kind ∷ form) (piece ∷ list) front all same calls e fits =
    let t = both_true (is_call_kind kind) (list_all is_call_kind form) calls in
    let b = bind_ok (arg_of raws kind piece) (λ argument. args_from raws form list (front ++ argument ∷ [])) all e in
    let one = arg_takes raws bodies kind piece b.0 same t.0 b.1 fits.0 in
    let rest = args_takes raws bodies form list (front ++ b.0 ∷ []) all same t.1 b.2 fits.1 in
    record {
      more = b.0 ∷ rest.more;
      is = rest.is ∙ append_assoc front (b.0 ∷ []) rest.more;
      words = rw (one.word, rest.words) refl;
      fits = (one.fits, rest.fits);
    }

-- ---- what may stand is found again

abbrev pub operand_piece : Operand → Piece
operand_piece (operands.Number z) = pieces.Number z
operand_piece (operands.Register r) = pieces.Register r

-- how an argument is written
abbrev pub body_piece : List Body → ℕ → Piece
body_piece bodies n = if n == 0 then pieces.Dash else pieces.Name (body_word bodies n)

abbrev pub arg_piece : List Body → Arg → Piece
arg_piece bodies (args.Number z) = pieces.Number z
arg_piece bodies (args.Register r) = pieces.Register r
arg_piece bodies (args.List bits) = pieces.List bits
arg_piece bodies (args.Body n) = body_piece bodies n
arg_piece bodies (args.Name name) = pieces.Name name

abbrev pub arg_pieces : List Body → List Arg → List Piece
arg_pieces bodies list = map (arg_piece bodies) list

pub operand_again : (value : Operand) → operand_of (operand_piece value) ≡ Ok value
unfolding operand_of
operand_again (operands.Number z) = refl
operand_again (operands.Register r) = refl

pub operand_same : (value : Operand) → piece_word kinds.Value (operand_piece value) ≡ operand_word value
unfolding piece_word operand_word
operand_same (operands.Number z) = refl
operand_same (operands.Register r) = refl

pub operand_fits : (value : Operand) → FitsOperand value → FitsPiece kinds.Value (operand_piece value)
unfolding FitsOperand FitsPiece
operand_fits (operands.Number z) fits = fits
operand_fits (operands.Register r) fits = fits

body_same : (bodies : List Body) (kind : ArgumentKind) (n : ℕ) (zero : Bool) → eqb n 0 ≡ zero → piece_word kind (cond zero pieces.Dash (pieces.Name (body_word bodies n))) ≡ body_word bodies n
unfolding piece_word body_word
body_same bodies kind n true is = rw is refl
body_same bodies kind n false is = rw is refl

pub arg_same : (bodies : List Body) (kind : ArgumentKind) (argument : Arg) → piece_word kind (arg_piece bodies argument) ≡ arg_word bodies kind argument
unfolding piece_word arg_word
arg_same bodies kind (args.Number z) = refl
arg_same bodies kind (args.Register r) = refl
arg_same bodies kind (args.List bits) = refl
arg_same bodies kind (args.Body n) = body_same bodies kind n (eqb n 0) refl
arg_same bodies kind (args.Name name) = refl

pub args_same : (bodies : List Body) (form : List ArgumentKind) (list : List Arg) → piece_words form (arg_pieces bodies list) ≡ arg_words bodies form list
unfolding piece_words arg_words
args_same bodies [] list = refl
args_same bodies (kind ∷ form) [] = refl
args_same bodies (kind ∷ form) (argument ∷ list) = rw (arg_same bodies kind argument, args_same bodies form list) refl

-- what holds of two scripts of which one is the other with its names looked up
pub record Alike (raws : List RawBody) (bodies : List Body) : Type 0 where
  pub same : SameBodies raws bodies
  pub differ : all_differ (map (λ (body : Body). body.name) bodies) ≡ true
  pub few : length bodies ≤ 255
  pub named : AllByRecursion (λ (body : Body). IsName 16 body.name) bodies

-- what an argument is when it is found again
pub record AgainArg (raws : List RawBody) (bodies : List Body) (kind : ArgumentKind) (argument : Arg) : Type 0 where
  pub found : arg_of raws kind (arg_piece bodies argument) ≡ Ok argument
  pub fits : FitsPiece kind (arg_piece bodies argument)

name_there : (bodies : List Body) (i : ℕ) (body : Body) → AllByRecursion (λ (b : Body). IsName 16 b.name) bodies → slice_get bodies i ≡ Some body → IsName 16 body.name
name_there [] i body all is = absurd (cc)
name_there (first ∷ bodies) zero body all is = subst (λ (b : Body). IsName 16 b.name) (some_is first body is) all.0
name_there (first ∷ bodies) (suc i) body all is = name_there bodies i body all.1 is

-- the word of a number from 1 on is a name
pub word_named : (raws : List RawBody) (bodies : List Body) (kind : BodyKind) (n : ℕ) → Alike raws bodies → IsBodyNumber bodies kind n → IsName 16 (body_word bodies n)
word_named raws bodies kind n alike is =
    let found = mapped_some (λ (body : Body). body.kind) (slice_get bodies (n - 1)) kind is.is in
    let word : body_word bodies n ≡ found.0.name = numbered_word bodies n is.from_one ∙ ap name_or_dash found.1 in
    subst (IsName 16) (sym word) (name_there bodies (n - 1) found.0 alike.named found.1)

body_piece_is : (bodies : List Body) (n : ℕ) → 1 ≤ n → body_piece bodies n ≡ pieces.Name (body_word bodies n)
body_piece_is bodies n low = rw (not_zero n low) refl

body_again : (raws : List RawBody) (bodies : List Body) (kind : ArgumentKind) (wanted : BodyKind) (n : ℕ) → Alike raws bodies → IsBodyNumber bodies wanted n → ((name : List ℕ) → arg_of raws kind (pieces.Name name) ≡ body_arg (body_number raws wanted name)) → ((name : List ℕ) → IsName 16 name → FitsPiece kind (pieces.Name name)) → AgainArg raws bodies kind (args.Body n)
body_again raws bodies kind wanted n alike is reads fits =
    let piece = body_piece_is bodies n is.from_one in
    record {
      found = ap (arg_of raws kind) piece ∙ (reads (body_word bodies n) ∙ ap body_arg (number_again raws bodies wanted n alike.same alike.differ alike.few is));
      fits = subst (FitsPiece kind) (sym piece) (fits (body_word bodies n) (word_named raws bodies wanted n alike is));
    }

none_again : (raws : List RawBody) (bodies : List Body) (kind : ArgumentKind) (n : ℕ) → n ≡ 0 → arg_of raws kind pieces.Dash ≡ Ok (args.Body 0) → FitsPiece kind pieces.Dash → AgainArg raws bodies kind (args.Body n)
none_again raws bodies kind n is reads fits = subst (λ (m : ℕ). AgainArg raws bodies kind (args.Body m)) (sym is) (record { found = reads; fits = fits })

or_none_again : (raws : List RawBody) (bodies : List Body) (kind : ArgumentKind) (wanted : BodyKind) (n : ℕ) → Alike raws bodies → ((n ≡ 0) ⊎ IsBodyNumber bodies wanted n) → ((name : List ℕ) → arg_of raws kind (pieces.Name name) ≡ body_arg (body_number raws wanted name)) → ((name : List ℕ) → IsName 16 name → FitsPiece kind (pieces.Name name)) → arg_of raws kind pieces.Dash ≡ Ok (args.Body 0) → FitsPiece kind pieces.Dash → AgainArg raws bodies kind (args.Body n)
or_none_again raws bodies kind wanted n alike (inl none) reads fits reads_none fits_none = none_again raws bodies kind n none reads_none fits_none
or_none_again raws bodies kind wanted n alike (inr is) reads fits reads_none fits_none = body_again raws bodies kind wanted n alike is reads fits

pub arg_again : (raws : List RawBody) (bodies : List Body) (kind : ArgumentKind) (argument : Arg) → Alike raws bodies → FitsArg bodies kind argument → AgainArg raws bodies kind argument
unfolding arg_of named_arg FitsPiece FitsArg
arg_again raws bodies kinds.Value (args.Number z) alike fits = record { found = refl; fits = fits }
arg_again raws bodies kinds.Value (args.Register r) alike fits = record { found = refl; fits = fits }
arg_again raws bodies kinds.Attributes (args.List bits) alike fits = record { found = refl; fits = fits }
arg_again raws bodies kinds.FlagMode (args.List bits) alike fits = record { found = refl; fits = fits }
arg_again raws bodies kinds.OpenMode (args.List bits) alike fits = record { found = refl; fits = fits }
arg_again raws bodies kinds.SuspendMode (args.List bits) alike fits = record { found = refl; fits = fits }
arg_again raws bodies kinds.DeviceName (args.Name name) alike fits = record { found = refl; fits = fits }
arg_again raws bodies kinds.TaskBody (args.Body n) alike fits = body_again raws bodies kinds.TaskBody Task n alike fits (λ name. refl) (λ name is. is)
arg_again raws bodies kinds.HandlerBody (args.Body n) alike fits = body_again raws bodies kinds.HandlerBody Hand n alike fits (λ name. refl) (λ name is. is)
arg_again raws bodies kinds.HandlerBodyOrNone (args.Body n) alike fits = or_none_again raws bodies kinds.HandlerBodyOrNone Hand n alike fits (λ name. refl) (λ name is. is) refl tt
arg_again raws bodies kinds.ServiceBodyOrNone (args.Body n) alike fits = or_none_again raws bodies kinds.ServiceBodyOrNone Svc n alike fits (λ name. refl) (λ name is. is) refl tt
arg_again raws bodies _ _ alike fits = absurd fits

pub args_again : (raws : List RawBody) (bodies : List Body) (form : List ArgumentKind) (list front : List Arg) → Alike raws bodies → FitsArgs bodies form list → args_from raws form (arg_pieces bodies list) front ≡ Ok (front ++ list)
unfolding args_from FitsArgs
args_again raws bodies [] [] front alike fits = ap Ok (sym (append-nil front))
args_again raws bodies [] (argument ∷ list) front alike fits = absurd fits
args_again raws bodies (kind ∷ form) [] front alike fits = absurd fits
args_again raws bodies (kind ∷ form) (argument ∷ list) front alike fits =
    ap (λ o. o >>= λ found. args_from raws form (arg_pieces bodies list) (front ++ found ∷ [])) (arg_again raws bodies kind argument alike fits.0).found
    ∙ (args_again raws bodies form list (front ++ argument ∷ []) alike fits.1 ∙ ap Ok (append_assoc front (argument ∷ []) list))

pub args_fit : (raws : List RawBody) (bodies : List Body) (form : List ArgumentKind) (list : List Arg) → Alike raws bodies → FitsArgs bodies form list → FitsPieces form (arg_pieces bodies list)
unfolding FitsArgs FitsPieces
args_fit raws bodies [] [] alike fits = tt
args_fit raws bodies [] (argument ∷ list) alike fits = absurd fits
args_fit raws bodies (kind ∷ form) [] alike fits = absurd fits
args_fit raws bodies (kind ∷ form) (argument ∷ list) alike fits = ((arg_again raws bodies kind argument alike fits.0).fits, args_fit raws bodies form list alike fits.1)
