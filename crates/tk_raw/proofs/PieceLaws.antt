-- Arguments and statements: what is read is spelled so, and each is read as itself. All goes by the kinds of arguments.
use Rattle.std.proofs.Common.{◌≡◌, ◌∙◌, refl, sym, ap, subst, arith, inl, inr, ℕ, suc, ◌<◌, ◌^◌, true, false, eqb, List, [], ◌∷◌, ◌++◌, length, append_assoc, Option, Some, None, Result, Ok, Err}
use Rattle.std.specs.Prelude.{ℤ, bytes_eq, ◌⊎◌}
use Rattle.std.proofs.lemmas.List.{append-nil}
use Rattle.std.proofs.lemmas.Bool.Decides.{nat_tests}
use Rattle.std.proofs.lemmas.Slice.Eq.{bytes_eq-Decides}
use Rattle.tk_types.specs.declared.call_name.ArgumentKind.{ArgumentKind}
use Rattle.tk_types.specs.declared.call_name.ArgumentKind.TheVariants as kinds
use Rattle.tk_types.specs.declared.why.Why.{Why}
use Rattle.tk_types.specs.declared.why.Why.TheVariants as whys
use Rattle.tk_model.specs.Decimals.{number_at}
use Rattle.tk_model.specs.Lists.{list_at}
use Rattle.tk_model.specs.ScriptText.{dash, table_of, IsName}
use Rattle.tk_text.proofs.Decimals.{number_at_some, number_at_again}
use Rattle.tk_text.proofs.ListLaws.{list_takes, list_again, list_below}
use Rattle.tk_text.proofs.ListTables.{attributes_are_table, flag_modes_are_table, open_modes_are_table, suspend_modes_are_table}
use Rattle.tk_raw.specs.declared.raw.Piece.{Piece}
use Rattle.tk_raw.specs.declared.raw.Piece.TheVariants as pieces
use Rattle.tk_raw.specs.RawText.{piece_word, piece_words, FitsPiece, FitsPieces}
use Rattle.tk_raw.specs.Pieces.{register_at, register_piece, value_piece, value_at, list_piece, name_piece, name_at, short_name_at, name_or_dash_at, piece_at, pieces_from, arguments_at}
use Rattle.tk_raw.proofs.Results.{bind_ok, fine, ok_is, passed, went}
use Rattle.tk_raw.proofs.WordLaws.{register_takes, register_again, register_is_no_number, name_takes, name_again, short_name_takes, short_name_again, name_is_no_dash}

-- an argument that a word spells and that may stand in the place
abbrev pub Taken : ArgumentKind → List ℕ → Piece → Type 0
Taken kind word piece = (piece_word kind piece ≡ word) × FitsPiece kind piece

register_piece_takes : (kind : ArgumentKind) (word : List ℕ) (read : Option ℕ) (why : Why) (piece : Piece) → register_at word ≡ read → ((n : ℕ) → n < 16 → FitsPiece kind (pieces.Register n)) → register_piece read why ≡ Ok piece → Taken kind word piece
unfolding piece_word
register_piece_takes kind word (Some n) why piece is fits e =
    let t = register_takes word n is in
    subst (Taken kind word) (ok_is (pieces.Register n) piece e) (sym t.0, fits n t.1)
register_piece_takes kind word None why piece is fits e = absurd (cc)

value_piece_takes : (word : List ℕ) (number : Option ℤ) (register : Option ℕ) (piece : Piece) → number_at word ≡ number → register_at word ≡ register → value_piece number register ≡ Ok piece → Taken kinds.Value word piece
unfolding piece_word FitsPiece
value_piece_takes word (Some z) register piece is is_register e =
    let t = number_at_some word z is in
    subst (Taken kinds.Value word) (ok_is (pieces.Number z) piece e) (sym t.0, t.1)
value_piece_takes word None register piece is is_register e = register_piece_takes kinds.Value word register whys.Number piece is_register (λ n lt. lt) e

list_piece_takes : (kind : ArgumentKind) (size : ℕ) (word : List ℕ) (read : Option ℕ) (piece : Piece) → length (table_of kind) ≡ size → ((bits : ℕ) → bits < 2 ^ size → FitsPiece kind (pieces.List bits)) → list_at (table_of kind) word ≡ read → list_piece read ≡ Ok piece → Taken kind word piece
unfolding piece_word
list_piece_takes kind size word (Some bits) piece long fits is e =
    let below : bits < 2 ^ size = subst (λ (n : ℕ). bits < 2 ^ n) long (list_below (table_of kind) word bits is) in
    subst (Taken kind word) (ok_is (pieces.List bits) piece e) (list_takes (table_of kind) word bits is, fits bits below)
list_piece_takes kind size word None piece long fits is e = absurd (cc)

name_piece_takes : (kind : ArgumentKind) (word : List ℕ) (read : Result (List ℕ) Why) (piece : Piece) → ((name : List ℕ) → read ≡ Ok name → (word ≡ name) × FitsPiece kind (pieces.Name name)) → name_piece read ≡ Ok piece → Taken kind word piece
unfolding piece_word
name_piece_takes kind word (Ok name) piece fits e =
    let t = fits name refl in
    subst (Taken kind word) (ok_is (pieces.Name name) piece e) (sym t.0, t.1)
name_piece_takes kind word (Err why) piece fits e = absurd (cc)

name_or_dash_takes : (kind : ArgumentKind) (word : List ℕ) (piece : Piece) → ((name : List ℕ) → IsName 16 name → FitsPiece kind (pieces.Name name)) → FitsPiece kind pieces.Dash → name_or_dash_at word ≡ Ok piece → Taken kind word piece
unfolding name_or_dash_at piece_word
name_or_dash_takes kind word piece name_fits dash_fits e =
    let by : ((bytes_eq word dash ≡ true) × (fine pieces.Dash ≡ Ok piece)) ⊎ ((bytes_eq word dash ≡ false) × (name_piece (name_at word) ≡ Ok piece)) → Taken kind word piece = λ way. elim way as (λ _. Taken kind word piece) [
      | inl dashed ↦ subst (Taken kind word) (ok_is pieces.Dash piece dashed.1) (sym ((bytes_eq-Decides word dash).0 dashed.0), dash_fits)
      | inr named ↦ name_piece_takes kind word (name_at word) piece (λ name is. let t = name_takes word name is in (t.0, name_fits name t.1)) named.1
    ]
    in by (went (bytes_eq word dash) (fine pieces.Dash) (name_piece (name_at word)) (Ok piece) e)

-- what is read is spelled so
pub piece_takes : (kind : ArgumentKind) (word : List ℕ) (piece : Piece) → piece_at kind word ≡ Ok piece → Taken kind word piece
unfolding piece_at value_at FitsPiece table_of
piece_takes kinds.Value word piece e = value_piece_takes word (number_at word) (register_at word) piece refl refl e
piece_takes kinds.Attributes word piece e = list_piece_takes kinds.Attributes 18 word (list_at (table_of kinds.Attributes) word) piece refl (λ bits lt. lt) refl e
piece_takes kinds.FlagMode word piece e = list_piece_takes kinds.FlagMode 4 word (list_at (table_of kinds.FlagMode) word) piece refl (λ bits lt. lt) refl e
piece_takes kinds.OpenMode word piece e = list_piece_takes kinds.OpenMode 6 word (list_at (table_of kinds.OpenMode) word) piece refl (λ bits lt. lt) refl e
piece_takes kinds.SuspendMode word piece e = list_piece_takes kinds.SuspendMode 5 word (list_at (table_of kinds.SuspendMode) word) piece refl (λ bits lt. lt) refl e
piece_takes kinds.TaskBody word piece e = name_piece_takes kinds.TaskBody word (name_at word) piece (name_takes word) e
piece_takes kinds.HandlerBody word piece e = name_piece_takes kinds.HandlerBody word (name_at word) piece (name_takes word) e
piece_takes kinds.HandlerBodyOrNone word piece e = name_or_dash_takes kinds.HandlerBodyOrNone word piece (λ name is. is) tt e
piece_takes kinds.ServiceBodyOrNone word piece e = name_or_dash_takes kinds.ServiceBodyOrNone word piece (λ name is. is) tt e
piece_takes kinds.DeviceName word piece e = name_piece_takes kinds.DeviceName word (short_name_at word) piece (short_name_takes word) e
piece_takes kinds.Register word piece e = register_piece_takes kinds.Register word (register_at word) whys.Name piece refl (λ n lt. lt) e
piece_takes kinds.Label word piece e = name_piece_takes kinds.Label word (name_at word) piece (name_takes word) e
piece_takes kinds.Text word piece e = name_piece_takes kinds.Text word (name_at word) piece (name_takes word) e

-- each is read as itself
pub piece_again : (kind : ArgumentKind) (piece : Piece) → FitsPiece kind piece → piece_at kind (piece_word kind piece) ≡ Ok piece
unfolding piece_at value_at name_or_dash_at piece_word FitsPiece table_of
piece_again kinds.Value (pieces.Number z) fits = rw (number_at_again z fits) refl
piece_again kinds.Value (pieces.Register n) fits = rw (register_is_no_number n fits, register_again n fits) refl
piece_again kinds.Attributes (pieces.List bits) fits = ap list_piece (list_again (table_of kinds.Attributes) bits attributes_are_table fits)
piece_again kinds.FlagMode (pieces.List bits) fits = ap list_piece (list_again (table_of kinds.FlagMode) bits flag_modes_are_table fits)
piece_again kinds.OpenMode (pieces.List bits) fits = ap list_piece (list_again (table_of kinds.OpenMode) bits open_modes_are_table fits)
piece_again kinds.SuspendMode (pieces.List bits) fits = ap list_piece (list_again (table_of kinds.SuspendMode) bits suspend_modes_are_table fits)
piece_again kinds.TaskBody (pieces.Name name) fits = ap name_piece (name_again name fits)
piece_again kinds.HandlerBody (pieces.Name name) fits = ap name_piece (name_again name fits)
piece_again kinds.HandlerBodyOrNone (pieces.Name name) fits = rw (name_is_no_dash name fits, name_again name fits) refl
piece_again kinds.HandlerBodyOrNone pieces.Dash fits = refl
piece_again kinds.ServiceBodyOrNone (pieces.Name name) fits = rw (name_is_no_dash name fits, name_again name fits) refl
piece_again kinds.ServiceBodyOrNone pieces.Dash fits = refl
piece_again kinds.DeviceName (pieces.Name name) fits = ap name_piece (short_name_again name fits)
piece_again kinds.Register (pieces.Register n) fits = rw (register_again n fits) refl
piece_again kinds.Label (pieces.Name name) fits = ap name_piece (name_again name fits)
piece_again kinds.Text (pieces.Name name) fits = ap name_piece (name_again name fits)
piece_again _ _ fits = absurd fits

-- arguments behind a front: those behind it are spelled so, and fit
pub record TakenPieces (form : List ArgumentKind) (words : List (List ℕ)) (front all : List Piece) : Type 0 where
  pub behind : List Piece
  pub whole : all ≡ front ++ behind
  pub spelled : piece_words form behind ≡ words
  pub fits : FitsPieces form behind

pub pieces_takes : (form : List ArgumentKind) (words : List (List ℕ)) (front all : List Piece) → pieces_from form words front ≡ Ok all → TakenPieces form words front all
unfolding pieces_from piece_words FitsPieces
pieces_takes [] [] front all e = record { behind = []; whole = sym (ok_is front all e) ∙ sym (append-nil front); spelled = refl; fits = tt }
pieces_takes [] (word ∷ words) front all e = absurd (cc)
pieces_takes (kind ∷ form) [] front all e = absurd (cc)
pieces_takes (kind ∷ form) (word ∷ words) front all e =
    let b = bind_ok (piece_at kind word) (λ piece. pieces_from form words (front ++ piece ∷ [])) all e in
    let t = piece_takes kind word b.0 b.1 in
    let rest = pieces_takes form words (front ++ b.0 ∷ []) all b.2 in
    record {
      behind = b.0 ∷ rest.behind;
      whole = rest.whole ∙ append_assoc front (b.0 ∷ []) rest.behind;
      spelled = ap (λ (w : List ℕ). w ∷ piece_words form rest.behind) t.0 ∙ ap (λ (ws : List (List ℕ)). word ∷ ws) rest.spelled;
      fits = (t.1, rest.fits);
    }

pub pieces_again : (form : List ArgumentKind) (front arguments : List Piece) → FitsPieces form arguments → pieces_from form (piece_words form arguments) front ≡ Ok (front ++ arguments)
unfolding pieces_from piece_words FitsPieces
pieces_again [] front [] fits = ap fine (sym (append-nil front))
pieces_again [] front (piece ∷ arguments) fits = absurd fits
pieces_again (kind ∷ form) front [] fits = absurd fits
pieces_again (kind ∷ form) front (piece ∷ arguments) fits =
    rw (piece_again kind piece fits.0, pieces_again form (front ++ piece ∷ []) arguments fits.1) (ap fine (append_assoc front (piece ∷ []) arguments))

-- as many words as places
pub as_many : (form : List ArgumentKind) (arguments : List Piece) → FitsPieces form arguments → length (piece_words form arguments) ≡ length form
unfolding piece_words FitsPieces
as_many [] [] fits = refl
as_many [] (piece ∷ arguments) fits = absurd fits
as_many (kind ∷ form) [] fits = absurd fits
as_many (kind ∷ form) (piece ∷ arguments) fits = ap suc (as_many form arguments fits.1)

pub arguments_takes : (form : List ArgumentKind) (words : List (List ℕ)) (all : List Piece) → arguments_at form words ≡ Ok all → (piece_words form all ≡ words) × FitsPieces form all
unfolding arguments_at
arguments_takes form words all e =
    let p = passed (eqb (length words) (length form)) (pieces_from form words []) whys.Count all e in
    let t = pieces_takes form words [] all p.1 in
    (ap (piece_words form) t.whole ∙ t.spelled, subst (FitsPieces form) (sym t.whole) t.fits)

same_count : (m n : ℕ) → m ≡ n → eqb m n ≡ true
same_count m n e = grind (arith, nat_tests)

pub arguments_again : (form : List ArgumentKind) (arguments : List Piece) → FitsPieces form arguments → arguments_at form (piece_words form arguments) ≡ Ok arguments
unfolding arguments_at
arguments_again form arguments fits =
    rw (same_count (length (piece_words form arguments)) (length form) (as_many form arguments fits), pieces_again form [] arguments fits) refl
