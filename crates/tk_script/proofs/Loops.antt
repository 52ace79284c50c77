-- Loops over lines and bodies: what is there already, and what is left.
use Rattle.std.proofs.Common.{◌≡◌, ◌∙◌, sym, ap, subst, arith, ℕ, suc, ◌+◌, ◌<◌, ◌≤◌, List, [], ◌∷◌, length, drop, get_or, Result, Ok, Err, add-one, length-append}
use Rattle.std.proofs.Math.Seq.{drop-cons}
use Rattle.std.proofs.lemmas.List.{drop_all}
use Rattle.tk_types.specs.declared.script.Body.{Body}
use Rattle.tk_types.specs.declared.script.BodyKind.{BodyKind}
use Rattle.tk_types.specs.declared.script.Label.{Label}
use Rattle.tk_types.specs.declared.script.Stmt.{Stmt}
use Rattle.tk_raw.specs.RawReading.{Refusal}
use Rattle.tk_raw.specs.declared.raw.RawBody.{RawBody}
use Rattle.tk_raw.specs.declared.raw.RawItem.{RawItem}
use Rattle.tk_raw.specs.declared.raw.RawItem.TheVariants as items
use Rattle.tk_script.specs.declared.errors.LineError.{LineError}
use Rattle.tk_script.specs.declared.errors.LineError.TheVariants as errors
use Rattle.tk_script.specs.Gives.{GivesLine}
use Rattle.tk_script.specs.Resolving.{◌>>=◌, labels_with, place_behind, labels_from, first_number, stmts_with, stmts_from, bodies_with, behind_body, bodies_from}

-- the items from a place on are that one and those behind it
pub cut : {X : Type 0} (xs : List X) (i : ℕ) (x : X) → i < length xs → x ≡ get_or xs i x → drop i xs ≡ x ∷ drop (i + 1) xs
cut xs i x lt is = rw (add-one, drop-cons xs i x) (ap (λ y. y ∷ drop (suc i) xs) (sym is))

-- ---- labels

pub labels_go_on : (lines : List RawItem) (i place : ℕ) (item : RawItem) (front next all : List Label) → i < length lines → item ≡ get_or lines i item → labels_from place (drop i lines) front ≡ all → next ≡ labels_with place item front → labels_from (place_behind item place) (drop (i + 1) lines) next ≡ all
unfolding labels_from
labels_go_on lines i place item front next all lt is left grown =
    ap (labels_from (place_behind item place) (drop (i + 1) lines)) grown ∙ (sym (ap (λ rest. labels_from place rest front) (cut lines i item lt is)) ∙ left)

pub labels_end : (lines : List RawItem) (i place : ℕ) (front all : List Label) → length lines ≤ i → labels_from place (drop i lines) front ≡ all → front ≡ all
unfolding labels_from
labels_end lines i place front all past left =
    let P : List RawItem → Type 0 = λ rest. labels_from place rest front ≡ all in subst P (drop_all i lines past) left

-- a line adds at most one label, and the place rises by at most one
pub labels_grow : (place i : ℕ) (item : RawItem) (front next : List Label) → next ≡ labels_with place item front → length front ≤ i → length next ≤ i + 1
labels_grow place i (items.Label name) front next grown low = omega (arith, ap length grown, length-append front (record { name = name; place = place } ∷ []))
labels_grow place i (items.Stmt stmt) front next grown low = omega (arith, ap length grown)

pub places_grow : (place i : ℕ) (item : RawItem) → place ≤ i → place_behind item place ≤ i + 1
places_grow place i (items.Label name) low = omega arith
places_grow place i (items.Stmt stmt) low = omega arith

-- ---- statements

next_stmt : (bodies : List RawBody) (labels : List Label) (kind : BodyKind) (numbers : List ℕ) (lines : List RawItem) (i : ℕ) (item : RawItem) (front : List Stmt) → i < length lines → item ≡ get_or lines i item → stmts_from bodies labels kind numbers (drop i lines) front ≡ (stmts_with bodies labels kind (first_number numbers) item front >>= λ next. stmts_from bodies labels kind (drop 1 numbers) (drop (i + 1) lines) next)
unfolding stmts_from
next_stmt bodies labels kind numbers lines i item front lt is = ap (λ rest. stmts_from bodies labels kind numbers rest front) (cut lines i item lt is)

pub stmts_go_on : (bodies : List RawBody) (labels : List Label) (kind : BodyKind) (numbers rest : List ℕ) (number : ℕ) (lines : List RawItem) (i : ℕ) (item : RawItem) (front next : List Stmt) (all : Result (List Stmt) Refusal) → i < length lines → item ≡ get_or lines i item → number ≡ first_number numbers → rest ≡ drop 1 numbers → stmts_from bodies labels kind numbers (drop i lines) front ≡ all → stmts_with bodies labels kind number item front ≡ Ok next → stmts_from bodies labels kind rest (drop (i + 1) lines) next ≡ all
stmts_go_on bodies labels kind numbers rest number lines i item front next all lt is first behind left found =
    let same : stmts_with bodies labels kind (first_number numbers) item front ≡ Ok next = subst (λ n. stmts_with bodies labels kind n item front ≡ Ok next) first found in
    ap (λ r. stmts_from bodies labels kind r (drop (i + 1) lines) next) behind
    ∙ (sym (next_stmt bodies labels kind numbers lines i item front lt is ∙ ap (λ o. o >>= λ n. stmts_from bodies labels kind (drop 1 numbers) (drop (i + 1) lines) n) same) ∙ left)

pub stmts_stop : (bodies : List RawBody) (labels : List Label) (kind : BodyKind) (numbers : List ℕ) (number : ℕ) (lines : List RawItem) (i : ℕ) (item : RawItem) (front : List Stmt) (error : LineError) (all : Result (List Stmt) Refusal) → i < length lines → item ≡ get_or lines i item → number ≡ first_number numbers → stmts_from bodies labels kind numbers (drop i lines) front ≡ all → GivesLine {X = List Stmt} (Err error) (stmts_with bodies labels kind number item front) → GivesLine {X = List Stmt} (Err error) all
stmts_stop bodies labels kind numbers number lines i item front errors.Memory all lt is first left found = tt
stmts_stop bodies labels kind numbers number lines i item front (errors.Refused line why) all lt is first left found =
    let same : stmts_with bodies labels kind (first_number numbers) item front ≡ Err (line, why) = subst (λ n. stmts_with bodies labels kind n item front ≡ Err (line, why)) first found in
    sym left ∙ (next_stmt bodies labels kind numbers lines i item front lt is ∙ ap (λ o. o >>= λ n. stmts_from bodies labels kind (drop 1 numbers) (drop (i + 1) lines) n) same)

pub stmts_end : (bodies : List RawBody) (labels : List Label) (kind : BodyKind) (numbers : List ℕ) (lines : List RawItem) (i : ℕ) (front : List Stmt) (all : Result (List Stmt) Refusal) → length lines ≤ i → stmts_from bodies labels kind numbers (drop i lines) front ≡ all → all ≡ Ok front
unfolding stmts_from
stmts_end bodies labels kind numbers lines i front all past left =
    let P : List RawItem → Type 0 = λ rest. stmts_from bodies labels kind numbers rest front ≡ all in sym (subst P (drop_all i lines past) left)

-- ---- bodies

next_body : (bodies : List RawBody) (numbers : List ℕ) (list : List RawBody) (i : ℕ) (body : RawBody) (front : List Body) → i < length list → body ≡ get_or list i body → bodies_from bodies numbers (drop i list) front ≡ (bodies_with bodies numbers body front >>= λ next. bodies_from bodies (behind_body body numbers) (drop (i + 1) list) next)
unfolding bodies_from
next_body bodies numbers list i body front lt is = ap (λ rest. bodies_from bodies numbers rest front) (cut list i body lt is)

pub bodies_go_on : (bodies : List RawBody) (numbers rest : List ℕ) (list : List RawBody) (i : ℕ) (body : RawBody) (front next : List Body) (all : Result (List Body) Refusal) → i < length list → body ≡ get_or list i body → rest ≡ behind_body body numbers → bodies_from bodies numbers (drop i list) front ≡ all → bodies_with bodies numbers body front ≡ Ok next → bodies_from bodies rest (drop (i + 1) list) next ≡ all
bodies_go_on bodies numbers rest list i body front next all lt is behind left found =
    ap (λ r. bodies_from bodies r (drop (i + 1) list) next) behind
    ∙ (sym (next_body bodies numbers list i body front lt is ∙ ap (λ o. o >>= λ n. bodies_from bodies (behind_body body numbers) (drop (i + 1) list) n) found) ∙ left)

pub bodies_stop : (bodies : List RawBody) (numbers : List ℕ) (list : List RawBody) (i : ℕ) (body : RawBody) (front : List Body) (error : LineError) (all : Result (List Body) Refusal) → i < length list → body ≡ get_or list i body → bodies_from bodies numbers (drop i list) front ≡ all → GivesLine {X = List Body} (Err error) (bodies_with bodies numbers body front) → GivesLine {X = List Body} (Err error) all
bodies_stop bodies numbers list i body front errors.Memory all lt is left found = tt
bodies_stop bodies numbers list i body front (errors.Refused line why) all lt is left found =
    sym left ∙ (next_body bodies numbers list i body front lt is ∙ ap (λ o. o >>= λ n. bodies_from bodies (behind_body body numbers) (drop (i + 1) list) n) found)

pub bodies_end : (bodies : List RawBody) (numbers : List ℕ) (list : List RawBody) (i : ℕ) (front : List Body) (all : Result (List Body) Refusal) → length list ≤ i → bodies_from bodies numbers (drop i list) front ≡ all → all ≡ Ok front
unfolding bodies_from
bodies_end bodies numbers list i front all past left =
    let P : List RawBody → Type 0 = λ rest. bodies_from bodies numbers rest front ≡ all in sym (subst P (drop_all i list past) left)
