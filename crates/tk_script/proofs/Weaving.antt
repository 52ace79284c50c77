-- Labels among statements: the lines of a body, its labels with their places, and its statements.
use Rattle.std.proofs.Common.{◌≡◌, ◌∙◌, sym, ap, subst, refl, arith, inl, inr, ℕ, zero, suc, ◌+◌, ◌-◌, ◌≤◌, List, [], ◌∷◌, ◌++◌, map, length, drop, Result, Ok, Err, add-one, append_assoc}
use Rattle.std.specs.Prelude.{◌⊎◌}
use Rattle.std.specs.List.{AllByRecursion}
use Rattle.std.proofs.lemmas.List.{append-nil}
use Rattle.tk_types.specs.declared.script.Body.{Body}
use Rattle.tk_types.specs.declared.script.BodyKind.{BodyKind}
use Rattle.tk_types.specs.declared.script.Label.{Label}
use Rattle.tk_types.specs.declared.script.Stmt.{Stmt}
use Rattle.tk_types.specs.declared.why.Why.{Why}
use Rattle.tk_model.specs.ScriptText.{item_lines, label_words, stmt_words, IsName, PlacesRise}
use Rattle.tk_raw.specs.Heads.{form_of_head}
use Rattle.tk_raw.specs.RawReading.{Refusal}
use Rattle.tk_raw.specs.RawText.{label_names, raw_item_words, raw_stmt_words, FitsItem, FitsPieces}
use Rattle.tk_raw.specs.declared.raw.RawBody.{RawBody}
use Rattle.tk_raw.specs.declared.raw.RawItem.{RawItem}
use Rattle.tk_raw.specs.declared.raw.RawItem.TheVariants as items
use Rattle.tk_raw.specs.declared.raw.RawStmt.{RawStmt}
use Rattle.tk_script.specs.Resolving.{◌>>=◌, at_line, first_number, labels_from, stmt_by, stmts_from, stmts_with}
use Rattle.tk_script.proofs.ArgumentLaws.{bind_ok}

abbrev pub sure : {A : Type 0} → A → Result A Refusal
sure x = Ok x

-- the value that is known
pub sure_is : {A : Type 0} (x y : A) → sure x ≡ sure y → x ≡ y
sure_is x y e = cc

-- lines from a place on, the labels among them, and their statements, each written in that way
unfoldable pub Woven : (RawStmt → Stmt → Type 0) → ℕ → List RawItem → List Label → List Stmt → Type 0
Woven R place [] [] [] = Unit {0}
Woven R place (items.Label name ∷ rest) (label ∷ labels) stmts = (label ≡ record { name = name; place = place }) × Woven R place rest labels stmts
Woven R place (items.Stmt raw ∷ rest) labels (stmt ∷ stmts) = R raw stmt × Woven R (place + 1) rest labels stmts
Woven R _ _ _ _ = ⊥

-- the labels of lines
pub woven_labels : (R : RawStmt → Stmt → Type 0) (place : ℕ) (lines : List RawItem) (labels front : List Label) (stmts : List Stmt) → Woven R place lines labels stmts → labels_from place lines front ≡ front ++ labels
unfolding Woven labels_from
woven_labels R place [] [] front [] woven = sym (append-nil front)
woven_labels R place [] [] front (stmt ∷ stmts) woven = absurd woven
woven_labels R place [] (label ∷ labels) front stmts woven = absurd woven
woven_labels R place (items.Label name ∷ rest) [] front stmts woven = absurd woven
woven_labels R place (items.Label name ∷ rest) (label ∷ labels) front stmts woven =
    let made : Label = record { name = name; place = place } in
    woven_labels R place rest labels (front ++ made ∷ []) stmts woven.1
    ∙ (append_assoc front (made ∷ []) labels ∙ ap (λ (l : Label). front ++ l ∷ labels) (sym woven.0))
woven_labels R place (items.Stmt raw ∷ rest) labels front [] woven = absurd woven
woven_labels R place (items.Stmt raw ∷ rest) labels front (stmt ∷ stmts) woven = woven_labels R (place + 1) rest labels front stmts woven.1

-- the statements of lines, where each is found
pub woven_stmts : (R : RawStmt → Stmt → Type 0) (raws : List RawBody) (all : List Label) (kind : BodyKind) (place : ℕ) (numbers : List ℕ) (lines : List RawItem) (labels : List Label) (front stmts : List Stmt) → ((raw : RawStmt) (stmt : Stmt) → R raw stmt → stmt_by raws all kind raw.head raw.pieces ≡ Ok stmt) → Woven R place lines labels stmts → stmts_from raws all kind numbers lines front ≡ Ok (front ++ stmts)
unfolding Woven stmts_from stmts_with
woven_stmts R raws all kind place numbers [] [] front [] found woven = ap Ok (sym (append-nil front))
woven_stmts R raws all kind place numbers [] [] front (stmt ∷ stmts) found woven = absurd woven
woven_stmts R raws all kind place numbers [] (label ∷ labels) front stmts found woven = absurd woven
woven_stmts R raws all kind place numbers (items.Label name ∷ rest) [] front stmts found woven = absurd woven
woven_stmts R raws all kind place numbers (items.Label name ∷ rest) (label ∷ labels) front stmts found woven = woven_stmts R raws all kind place (drop 1 numbers) rest labels front stmts found woven.1
woven_stmts R raws all kind place numbers (items.Stmt raw ∷ rest) labels front [] found woven = absurd woven
woven_stmts R raws all kind place numbers (items.Stmt raw ∷ rest) labels front (stmt ∷ stmts) found woven =
    ap (λ o. (at_line (first_number numbers) o >>= λ f. Ok (front ++ f ∷ [])) >>= λ next. stmts_from raws all kind (drop 1 numbers) rest next) (found raw stmt woven.0)
    ∙ (woven_stmts R raws all kind (place + 1) (drop 1 numbers) rest labels (front ++ stmt ∷ []) stmts found woven.1
    ∙ ap Ok (append_assoc front (stmt ∷ []) stmts))

drop_suc : {X : Type 0} (n : ℕ) (xs : List X) (y : X) (ys : List X) → drop n xs ≡ y ∷ ys → drop (suc n) xs ≡ ys
drop_suc zero [] y ys e = absurd (cc)
drop_suc zero (x ∷ xs) y ys e = cc
drop_suc (suc n) [] y ys e = absurd (cc)
drop_suc (suc n) (x ∷ xs) y ys e = drop_suc n xs y ys e

drop_more : {X : Type 0} (n : ℕ) (xs : List X) (y : X) (ys : List X) → drop n xs ≡ y ∷ ys → drop (n + 1) xs ≡ ys
drop_more n xs y ys e = rw add-one (drop_suc n xs y ys e)

-- the places of the labels among lines don't fall
pub woven_rise : (R : RawStmt → Stmt → Type 0) (low place : ℕ) (lines : List RawItem) (labels : List Label) (stmts : List Stmt) → low ≤ place → Woven R place lines labels stmts → PlacesRise low (place + length stmts) labels
unfolding Woven PlacesRise
woven_rise R low place [] [] [] above woven = omega arith
woven_rise R low place [] [] (stmt ∷ stmts) above woven = absurd woven
woven_rise R low place [] (label ∷ labels) stmts above woven = absurd woven
woven_rise R low place (items.Label name ∷ rest) [] stmts above woven = absurd woven
woven_rise R low place (items.Label name ∷ rest) (label ∷ labels) stmts above woven =
    let P : Label → Type 0 = λ l. (low ≤ l.place) × PlacesRise l.place (place + length stmts) labels in
    let at : place ≤ place = omega arith in
    subst P (sym woven.0) (above, woven_rise R place place rest labels stmts at woven.1)
woven_rise R low place (items.Stmt raw ∷ rest) labels [] above woven = absurd woven
woven_rise R low place (items.Stmt raw ∷ rest) labels (stmt ∷ stmts) above woven =
    let P : ℕ → Type 0 = λ n. PlacesRise low n labels in
    let count : (place + 1) + length stmts ≡ place + length (stmt ∷ stmts) = omega arith in
    subst P count (woven_rise R low (place + 1) rest labels stmts (omega arith) woven.1)

-- the lines from a place on, where a statement stands before the next label
item_step : (bodies : List Body) (all : List Label) (stmts : List Stmt) (from count : ℕ) (labels : List Label) (stmt : Stmt) (rest : List Stmt) → drop from stmts ≡ stmt ∷ rest → PlacesRise (from + 1) count labels → item_lines bodies all stmts from labels ≡ stmt_words bodies all stmt ∷ item_lines bodies all stmts (from + 1) labels
unfolding item_lines PlacesRise
item_step bodies all stmts from count [] stmt rest is rise = rw (is, drop_more from stmts stmt rest is) refl
item_step bodies all stmts from count (label ∷ labels) stmt rest is rise =
    let more : label.place - from ≡ suc (label.place - (from + 1)) = omega (arith, rise.0) in
    rw (is, more, drop_more from stmts stmt rest is) refl

-- the lines of labels and statements
pub woven_lines : (R : RawStmt → Stmt → Type 0) (bodies : List Body) (all : List Label) (stmts : List Stmt) (from : ℕ) (lines : List RawItem) (labels : List Label) (rest : List Stmt) → ((raw : RawStmt) (stmt : Stmt) → R raw stmt → raw_stmt_words raw ≡ stmt_words bodies all stmt) → drop from stmts ≡ rest → Woven R from lines labels rest → item_lines bodies all stmts from labels ≡ map raw_item_words lines
unfolding Woven item_lines raw_item_words
woven_lines R bodies all stmts from [] [] [] same is woven = rw is refl
woven_lines R bodies all stmts from [] [] (stmt ∷ rest) same is woven = absurd woven
woven_lines R bodies all stmts from [] (label ∷ labels) rest same is woven = absurd woven
woven_lines R bodies all stmts from (items.Label name ∷ lines) [] rest same is woven = absurd woven
woven_lines R bodies all stmts from (items.Label name ∷ lines) (label ∷ labels) rest same is woven =
    let made : Label = record { name = name; place = from } in
    let none : from - from ≡ 0 = omega arith in
    ap (λ (l : Label). item_lines bodies all stmts from (l ∷ labels)) woven.0
    ∙ rw none (ap (λ ls. label_words made ∷ ls) (woven_lines R bodies all stmts from lines labels rest same is woven.1))
woven_lines R bodies all stmts from (items.Stmt raw ∷ lines) labels [] same is woven = absurd woven
woven_lines R bodies all stmts from (items.Stmt raw ∷ lines) labels (stmt ∷ rest) same is woven =
    let rise = woven_rise R (from + 1) (from + 1) lines labels rest (omega arith) woven.1 in
    item_step bodies all stmts from ((from + 1) + length rest) labels stmt rest is rise
    ∙ (ap (λ ws. ws ∷ item_lines bodies all stmts (from + 1) labels) (sym (same raw stmt woven.0))
    ∙ ap (λ ls. raw_stmt_words raw ∷ ls) (woven_lines R bodies all stmts (from + 1) lines labels rest same (drop_more from stmts stmt rest is) woven.1))

-- the names of the labels
pub woven_names : (R : RawStmt → Stmt → Type 0) (place : ℕ) (lines : List RawItem) (labels : List Label) (stmts : List Stmt) → Woven R place lines labels stmts → label_names lines ≡ map (λ (label : Label). label.name) labels
unfolding Woven label_names
woven_names R place [] [] [] woven = refl
woven_names R place [] [] (stmt ∷ stmts) woven = absurd woven
woven_names R place [] (label ∷ labels) stmts woven = absurd woven
woven_names R place (items.Label name ∷ rest) [] stmts woven = absurd woven
woven_names R place (items.Label name ∷ rest) (label ∷ labels) stmts woven =
    ap (λ (names : List (List ℕ)). name ∷ names) (woven_names R place rest labels stmts woven.1)
    ∙ ap (λ (l : Label). l.name ∷ map (λ (label : Label). label.name) labels) (sym woven.0)
woven_names R place (items.Stmt raw ∷ rest) labels [] woven = absurd woven
woven_names R place (items.Stmt raw ∷ rest) labels (stmt ∷ stmts) woven = woven_names R (place + 1) rest labels stmts woven.1

-- what holds of each statement, and of each line
pub woven_all : (R : RawStmt → Stmt → Type 0) (P : Stmt → Type 0) (place : ℕ) (lines : List RawItem) (labels : List Label) (stmts : List Stmt) → ((raw : RawStmt) (stmt : Stmt) → R raw stmt → P stmt) → Woven R place lines labels stmts → AllByRecursion P stmts
unfolding Woven
woven_all R P place [] [] [] holds woven = tt
woven_all R P place [] [] (stmt ∷ stmts) holds woven = absurd woven
woven_all R P place [] (label ∷ labels) stmts holds woven = absurd woven
woven_all R P place (items.Label name ∷ rest) [] stmts holds woven = absurd woven
woven_all R P place (items.Label name ∷ rest) (label ∷ labels) stmts holds woven = woven_all R P place rest labels stmts holds woven.1
woven_all R P place (items.Stmt raw ∷ rest) labels [] holds woven = absurd woven
woven_all R P place (items.Stmt raw ∷ rest) labels (stmt ∷ stmts) holds woven = (holds raw stmt woven.0, woven_all R P (place + 1) rest labels stmts holds woven.1)

pub woven_fits : (R : RawStmt → Stmt → Type 0) (place : ℕ) (lines : List RawItem) (labels : List Label) (stmts : List Stmt) → ((raw : RawStmt) (stmt : Stmt) → R raw stmt → FitsPieces (form_of_head raw.head) raw.pieces) → AllByRecursion (λ (label : Label). IsName 16 label.name) labels → Woven R place lines labels stmts → AllByRecursion FitsItem lines
unfolding Woven FitsItem
woven_fits R place [] [] [] holds named woven = tt
woven_fits R place [] [] (stmt ∷ stmts) holds named woven = absurd woven
woven_fits R place [] (label ∷ labels) stmts holds named woven = absurd woven
woven_fits R place (items.Label name ∷ rest) [] stmts holds named woven = absurd woven
woven_fits R place (items.Label name ∷ rest) (label ∷ labels) stmts holds named woven =
    (subst (λ (l : Label). IsName 16 l.name) woven.0 named.0, woven_fits R place rest labels stmts holds named.1 woven.1)
woven_fits R place (items.Stmt raw ∷ rest) labels [] holds named woven = absurd woven
woven_fits R place (items.Stmt raw ∷ rest) labels (stmt ∷ stmts) holds named woven = (holds raw stmt woven.0, woven_fits R (place + 1) rest labels stmts holds named woven.1)

-- the labels have names where the lines fit
pub woven_named : (R : RawStmt → Stmt → Type 0) (place : ℕ) (lines : List RawItem) (labels : List Label) (stmts : List Stmt) → AllByRecursion FitsItem lines → Woven R place lines labels stmts → AllByRecursion (λ (label : Label). IsName 16 label.name) labels
unfolding Woven FitsItem
woven_named R place [] [] [] fits woven = tt
woven_named R place [] [] (stmt ∷ stmts) fits woven = absurd woven
woven_named R place [] (label ∷ labels) stmts fits woven = absurd woven
woven_named R place (items.Label name ∷ rest) [] stmts fits woven = absurd woven
woven_named R place (items.Label name ∷ rest) (label ∷ labels) stmts fits woven =
    (subst (λ (l : Label). IsName 16 l.name) (sym woven.0) fits.0, woven_named R place rest labels stmts fits.1 woven.1)
woven_named R place (items.Stmt raw ∷ rest) labels [] fits woven = absurd woven
woven_named R place (items.Stmt raw ∷ rest) labels (stmt ∷ stmts) fits woven = woven_named R (place + 1) rest labels stmts fits.1 woven.1

-- another way of writing
pub woven_map : (R Q : RawStmt → Stmt → Type 0) (place : ℕ) (lines : List RawItem) (labels : List Label) (stmts : List Stmt) → ((raw : RawStmt) (stmt : Stmt) → R raw stmt → Q raw stmt) → Woven R place lines labels stmts → Woven Q place lines labels stmts
unfolding Woven
woven_map R Q place [] [] [] holds woven = tt
woven_map R Q place [] [] (stmt ∷ stmts) holds woven = absurd woven
woven_map R Q place [] (label ∷ labels) stmts holds woven = absurd woven
woven_map R Q place (items.Label name ∷ rest) [] stmts holds woven = absurd woven
woven_map R Q place (items.Label name ∷ rest) (label ∷ labels) stmts holds woven = (woven.0, woven_map R Q place rest labels stmts holds woven.1)
woven_map R Q place (items.Stmt raw ∷ rest) labels [] holds woven = absurd woven
woven_map R Q place (items.Stmt raw ∷ rest) labels (stmt ∷ stmts) holds woven = (holds raw stmt woven.0, woven_map R Q (place + 1) rest labels stmts holds woven.1)

-- ---- from lines to statements

-- how a statement was read
pub record Read (raws : List RawBody) (all : List Label) (kind : BodyKind) (raw : RawStmt) (stmt : Stmt) : Type 0 where
  pub found : stmt_by raws all kind raw.head raw.pieces ≡ Ok stmt
  pub fits : FitsPieces (form_of_head raw.head) raw.pieces

-- the labels among lines
unfoldable pub labels_at : ℕ → List RawItem → List Label
labels_at place [] = []
labels_at place (items.Label name ∷ rest) = record { name = name; place = place } ∷ labels_at place rest
labels_at place (items.Stmt raw ∷ rest) = labels_at (place + 1) rest

pub line_ok : {A : Type 0} (number : ℕ) (r : Result A Why) (x : A) → at_line number r ≡ Ok x → r ≡ Ok x
line_ok number (Ok y) x e = cc
line_ok number (Err why) x e = absurd (cc)

pub record ReadItems (raws : List RawBody) (all : List Label) (kind : BodyKind) (place : ℕ) (lines : List RawItem) (front whole : List Stmt) : Type 0 where
  pub stmts : List Stmt
  pub is : whole ≡ front ++ stmts
  pub woven : Woven (Read raws all kind) place lines (labels_at place lines) stmts

pub items_take : (raws : List RawBody) (all : List Label) (kind : BodyKind) (place : ℕ) (numbers : List ℕ) (lines : List RawItem) (front whole : List Stmt) → stmts_from raws all kind numbers lines front ≡ Ok whole → AllByRecursion FitsItem lines → ReadItems raws all kind place lines front whole
unfolding stmts_from stmts_with labels_at Woven FitsItem
items_take raws all kind place numbers [] front whole e fits = record { stmts = []; is = sym (append-nil front ∙ sure_is front whole e); woven = tt }
items_take raws all kind place numbers (items.Label name ∷ rest) front whole e fits =
    let more = items_take raws all kind place (drop 1 numbers) rest front whole e fits.1 in
    record { stmts = more.stmts; is = more.is; woven = (refl, more.woven) }
items_take raws all kind place numbers (items.Stmt raw ∷ rest) front whole e fits =
    let b = bind_ok (stmts_with raws all kind (first_number numbers) (items.Stmt raw) front) (λ next. stmts_from raws all kind (drop 1 numbers) rest next) whole e in
    let c = bind_ok (at_line (first_number numbers) (stmt_by raws all kind raw.head raw.pieces)) (λ found. Ok (front ++ found ∷ [])) b.0 b.1 in
    let more = items_take raws all kind (place + 1) (drop 1 numbers) rest b.0 whole b.2 fits.1 in
    let next : front ++ c.0 ∷ [] ≡ b.0 = sure_is (front ++ c.0 ∷ []) b.0 c.2 in
    record {
      stmts = c.0 ∷ more.stmts;
      is = more.is ∙ (ap (λ (f : List Stmt). f ++ more.stmts) (sym next) ∙ append_assoc front (c.0 ∷ []) more.stmts);
      woven = (record { found = line_ok (first_number numbers) (stmt_by raws all kind raw.head raw.pieces) c.0 c.1; fits = fits.0 }, more.woven);
    }

-- ---- from statements to lines

-- how a statement is written
pub record Written (write : Stmt → RawStmt) (P : Stmt → Type 0) (raw : RawStmt) (stmt : Stmt) : Type 0 where
  pub is : raw ≡ write stmt
  pub holds : P stmt

pub record Lines (write : Stmt → RawStmt) (P : Stmt → Type 0) (place : ℕ) (labels : List Label) (stmts : List Stmt) : Type 0 where
  pub lines : List RawItem
  pub woven : Woven (Written write P) place lines labels stmts

weave_plain : (write : Stmt → RawStmt) (P : Stmt → Type 0) (place : ℕ) (stmts : List Stmt) → AllByRecursion P stmts → Lines write P place [] stmts
unfolding Woven
weave_plain write P place [] all = record { lines = []; woven = tt }
weave_plain write P place (stmt ∷ stmts) all =
    let more = weave_plain write P (place + 1) stmts all.1 in
    record { lines = items.Stmt (write stmt) ∷ more.lines; woven = (record { is = refl; holds = all.0 }, more.woven) }

rise_within : (low count : ℕ) (labels : List Label) → PlacesRise low count labels → low ≤ count
unfolding PlacesRise
rise_within low count [] rise = rise
rise_within low count (label ∷ labels) rise = let later = rise_within label.place count labels rise.1 in omega (arith, rise.0, later)

here_or_later : (place at : ℕ) → place ≤ at → (at ≡ place) ⊎ (place + 1 ≤ at)
here_or_later zero zero above = inl refl
here_or_later zero (suc at) above = inr (omega arith)
here_or_later (suc place) zero above = absurd (omega arith)
here_or_later (suc place) (suc at) above = elim (here_or_later place at (omega arith)) [ inl is ↦ inl (ap suc is) | inr later ↦ inr (omega arith) ]

-- lines that begin with a label in a place
label_first : (write : Stmt → RawStmt) (P : Stmt → Type 0) (place : ℕ) (label : Label) (labels : List Label) (stmts : List Stmt) → label.place ≡ place → Lines write P place labels stmts → Lines write P place (label ∷ labels) stmts
unfolding Woven
label_first write P place label labels stmts is more = record {
  lines = items.Label label.name ∷ more.lines;
  woven = (ap (λ (n : ℕ). let made : Label = record { name = label.name; place = n } in made) is, more.woven);
}

weave_to : (write : Stmt → RawStmt) (P : Stmt → Type 0) (label : Label) (labels : List Label) (place : ℕ) (stmts : List Stmt)
    → ((at : ℕ) (left : List Stmt) → PlacesRise at (at + length left) labels → AllByRecursion P left → Lines write P at labels left)
    → PlacesRise place (place + length stmts) (label ∷ labels) → AllByRecursion P stmts → Lines write P place (label ∷ labels) stmts
unfolding Woven PlacesRise
weave_to write P label labels place [] behind rise all =
    let within = rise_within label.place (place + 0) labels rise.1 in
    let here : label.place ≡ place = omega (arith, rise.0, within) in
    let Q : ℕ → Type 0 = λ n. PlacesRise n (place + 0) labels in
    label_first write P place label labels [] here (behind place [] (subst Q here rise.1) tt)
weave_to write P label labels place (stmt ∷ stmts) behind rise all =
    elim (here_or_later place label.place rise.0) [
      | inl here ↦
          (let Q : ℕ → Type 0 = λ n. PlacesRise n (place + length (stmt ∷ stmts)) labels in
          label_first write P place label labels (stmt ∷ stmts) here (behind place (stmt ∷ stmts) (subst Q here rise.1) all))
      | inr later ↦
          (let count : place + length (stmt ∷ stmts) ≡ (place + 1) + length stmts = omega arith in
          let Q : ℕ → Type 0 = λ n. PlacesRise label.place n labels in
          let more = weave_to write P label labels (place + 1) stmts behind (later, subst Q count rise.1) all.1 in
          record { lines = items.Stmt (write stmt) ∷ more.lines; woven = (record { is = refl; holds = all.0 }, more.woven) })
    ]

-- there are lines with these labels and statements
pub weave : (write : Stmt → RawStmt) (P : Stmt → Type 0) (labels : List Label) (place : ℕ) (stmts : List Stmt) → PlacesRise place (place + length stmts) labels → AllByRecursion P stmts → Lines write P place labels stmts
weave write P [] place stmts rise all = weave_plain write P place stmts all
weave write P (label ∷ labels) place stmts rise all = weave_to write P label labels place stmts (λ at left. weave write P labels at left) rise all
