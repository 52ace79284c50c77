-- First words and statements: what is read is spelled so, and each is read as itself.
use Rattle.std.proofs.Common.{◌≡◌, ◌∙◌, refl, ap, subst, inl, inr, ℕ, Bool, true, false, List, [], ◌∷◌, Option, Some, None, Ok}
use Rattle.std.specs.Prelude.{bytes_eq, find, ◌⊎◌}
use Rattle.std.specs.Option.{option_map}
use Rattle.std.proofs.lemmas.Slice.Eq.{bytes_eq-Decides}
use Rattle.tk_types.specs.declared.call_name.CallName.{CallName}
use Rattle.tk_types.specs.CallNames.{named}
use Rattle.tk_raw.specs.declared.head.Head.{Head}
use Rattle.tk_raw.specs.declared.head.Head.TheVariants as heads
use Rattle.tk_raw.specs.declared.head.TheConstants.{OWN_HEADS}
use Rattle.tk_raw.specs.declared.raw.RawItem.TheVariants as items
use Rattle.tk_raw.specs.declared.raw.RawStmt.{RawStmt}
use Rattle.tk_raw.specs.Heads.{head_text, form_of_head, head_named, own_head, head_or_call}
use Rattle.tk_raw.specs.Pieces.{arguments_at, stmt_from, raw_stmt_at}
use Rattle.tk_raw.specs.RawText.{piece_words, raw_stmt_words, FitsItem}
use Rattle.tk_types.proofs.CallNameLaws.{text_of_named}
use Rattle.tk_raw.proofs.HeadLaws.{head_named_text}
use Rattle.tk_raw.proofs.PieceLaws.{arguments_takes, arguments_again}
use Rattle.tk_raw.proofs.Results.{bind_ok, fine, ok_is, some_is, went}

-- what is found passes the test
found : {X : Type 0} (test : X → Bool) (xs : List X) (y : X) → find test xs ≡ Some y → test y ≡ true
found test [] y e = absurd (cc)
found {X} test (x ∷ xs) y e =
    let by : ((test x ≡ true) × (Some x ≡ Some y)) ⊎ ((test x ≡ false) × (find test xs ≡ Some y)) → test y ≡ true = λ way. elim way as (λ _. test y ≡ true)
    [ inl here ↦ subst (λ (z : X). test z ≡ true) (some_is x y here.1) here.0 | inr later ↦ found test xs y later.1 ]
    in by (went (test x) (Some x) (find test xs) (Some y) e)

own_takes : (word : List ℕ) (head : Head) → own_head word ≡ Some head → head_text head ≡ word
unfolding own_head
own_takes word head e = (bytes_eq-Decides (head_text head) word).0 (found (λ h. bytes_eq (head_text h) word) OWN_HEADS head e)

call_takes : (word : List ℕ) (call : Option CallName) (head : Head) → named word ≡ call → option_map heads.Call call ≡ Some head → head_text head ≡ word
unfolding head_text
call_takes word None head is e = absurd (cc)
call_takes word (Some name) head is e = subst (λ (h : Head). head_text h ≡ word) (some_is (heads.Call name) head e) (text_of_named word name is)

either_takes : (word : List ℕ) (own : Option Head) (head : Head) → own_head word ≡ own → head_or_call own word ≡ Some head → head_text head ≡ word
either_takes word None head is e = call_takes word (named word) head refl e
either_takes word (Some own) head is e = own_takes word head (is ∙ e)

pub head_takes : (word : List ℕ) (head : Head) → head_named word ≡ Some head → head_text head ≡ word
unfolding head_named
head_takes word head e = either_takes word (own_head word) head refl e

abbrev pub TakenStmt : List ℕ → List (List ℕ) → RawStmt → Type 0
TakenStmt first words stmt = (raw_stmt_words stmt ≡ first ∷ words) × FitsItem (items.Stmt stmt)

from_head : (first : List ℕ) (words : List (List ℕ)) (head : Option Head) (stmt : RawStmt) → head_named first ≡ head → stmt_from head words ≡ Ok stmt → TakenStmt first words stmt
unfolding raw_stmt_words FitsItem
from_head first words None stmt is e = absurd (cc)
from_head first words (Some head) stmt is e =
    let b = bind_ok (arguments_at (form_of_head head) words) (λ arguments. fine (record { head = head; pieces = arguments })) stmt e in
    let t = arguments_takes (form_of_head head) words b.0 b.1 in
    subst (TakenStmt first words) (ok_is (record { head = head; pieces = b.0 }) stmt b.2)
    (ap (λ (w : List ℕ). w ∷ piece_words (form_of_head head) b.0) (head_takes first head is) ∙ ap (λ (ws : List (List ℕ)). first ∷ ws) t.0, t.1)

-- a statement that is read is spelled so, and its arguments fit
pub statement_takes : (first : List ℕ) (words : List (List ℕ)) (stmt : RawStmt) → raw_stmt_at first words ≡ Ok stmt → TakenStmt first words stmt
unfolding raw_stmt_at
statement_takes first words stmt e = from_head first words (head_named first) stmt refl e

-- a statement is read as itself
pub statement_again : (stmt : RawStmt) → FitsItem (items.Stmt stmt) → raw_stmt_at (head_text stmt.head) (piece_words (form_of_head stmt.head) stmt.pieces) ≡ Ok stmt
unfolding raw_stmt_at FitsItem
statement_again stmt fits = rw (head_named_text stmt.head, arguments_again (form_of_head stmt.head) stmt.pieces fits) refl
