-- The statements and bodies of a generated script, one after another.
use Rattle.std.proofs.Common.{ℕ, suc, ◌+◌, ◌-◌, ◌*◌, ◌<◌, ◌≡◌, List, [], ◌∷◌, ◌++◌, length, drop, refl, ap, sym, ◌∙◌, append_assoc, append-nil, arith}
use Rattle.std.specs.Prelude.{◌%◌, codes, decimal, slice_index}
use Rattle.std.proofs.lemmas.List.{drop_all, drop_more, get_or-drop, drop-drop}
use Rattle.tk_types.specs.declared.script.Body.{Body}
use Rattle.tk_types.specs.declared.script.BodyKind.TheVariants as bodies
use Rattle.tk_types.specs.declared.script.Stmt.{Stmt}
use Rattle.machine_model.specs.Runs.Generator.{drawn_bodies, drawn_call, drawn_statements, making_from}

-- ---- the statements of a task

one_statement : (left : ℕ) (list : List ℕ) →
    drawn_statements (suc left) list ≡ drawn_call (slice_index list 0 % 8) (slice_index list 1 % 16) ∷ drawn_statements left (drop 2 list)
unfolding drawn_statements
one_statement left list = refl

none_stated : (list : List ℕ) → drawn_statements 0 list ≡ []
unfolding drawn_statements
none_stated list = refl

pub next_statement : (before all : List Stmt) (list : List ℕ) (count k : ℕ) → k < count → before ++ drawn_statements (count - k) (drop (2 * k) list) ≡ all →
    (before ++ drawn_call (slice_index list (2 * k) % 8) (slice_index list (2 * k + 1) % 16) ∷ []) ++ drawn_statements (count - (k + 1)) (drop (2 * (k + 1)) list) ≡ all
next_statement before all list count k more is =
    let left : count - k ≡ suc (count - (k + 1)) = omega (arith, more) in
    let none : 2 * k + 0 ≡ 2 * k = omega arith in
    let two : 2 * k + 2 ≡ 2 * (k + 1) = omega arith in
    let first : slice_index (drop (2 * k) list) 0 ≡ slice_index list (2 * k) = get_or-drop (2 * k) list 0 0 ∙ ap (λ (i : ℕ). slice_index list i) none in
    let second : slice_index (drop (2 * k) list) 1 ≡ slice_index list (2 * k + 1) = get_or-drop (2 * k) list 1 0 in
    let later : drop 2 (drop (2 * k) list) ≡ drop (2 * (k + 1)) list = drop-drop 2 (2 * k) list ∙ ap (λ (n : ℕ). drop n list) two in
    let rest : List Stmt = drawn_statements (count - (k + 1)) (drop (2 * (k + 1)) list) in
    append_assoc before (drawn_call (slice_index list (2 * k) % 8) (slice_index list (2 * k + 1) % 16) ∷ []) rest
    ∙ (ap (λ (i : ℕ). before ++ drawn_call (i % 8) (slice_index list (2 * k + 1) % 16) ∷ rest) (sym first)
    ∙ (ap (λ (i : ℕ). before ++ drawn_call (slice_index (drop (2 * k) list) 0 % 8) (i % 16) ∷ rest) (sym second)
    ∙ (ap (λ (l : List ℕ). before ++ drawn_call (slice_index (drop (2 * k) list) 0 % 8) (slice_index (drop (2 * k) list) 1 % 16) ∷ drawn_statements (count - (k + 1)) l) (sym later)
    ∙ (ap (λ (l : List Stmt). before ++ l) (sym (one_statement (count - (k + 1)) (drop (2 * k) list)))
    ∙ (ap (λ (n : ℕ). before ++ drawn_statements n (drop (2 * k) list)) (sym left) ∙ is)))))

pub last_statement : (before all : List Stmt) (list : List ℕ) (count k : ℕ) → k ≡ count → before ++ drawn_statements (count - k) (drop (2 * k) list) ≡ all → before ≡ all
last_statement before all list count k same is =
    let left : count - k ≡ 0 = omega (arith, same) in
    sym (append-nil before)
    ∙ (ap (λ (l : List Stmt). before ++ l) (sym (none_stated (drop (2 * k) list)))
    ∙ (ap (λ (n : ℕ). before ++ drawn_statements n (drop (2 * k) list)) (sym left) ∙ is))

-- ---- the boot body

one_made : (k draw : ℕ) (later : List ℕ) → making_from k (draw ∷ later) ≡ making_from k (draw ∷ []) ++ making_from (k + 1) later
unfolding making_from
one_made k draw later = refl

none_made : (k : ℕ) → making_from k [] ≡ []
unfolding making_from
none_made k = refl

pub next_making : (before all : List Stmt) (list : List ℕ) (i k draw : ℕ) → i < length list → draw ≡ slice_index list i → before ++ making_from k (drop i list) ≡ all →
    (before ++ making_from k (draw ∷ [])) ++ making_from (k + 1) (drop (i + 1) list) ≡ all
next_making before all list i k draw more here is =
    append_assoc before (making_from k (draw ∷ [])) (making_from (k + 1) (drop (i + 1) list))
    ∙ (ap (λ (l : List Stmt). before ++ l) (sym (one_made k draw (drop (i + 1) list)))
    ∙ (ap (λ (d : ℕ). before ++ making_from k (d ∷ drop (i + 1) list)) here
    ∙ (ap (λ (l : List ℕ). before ++ making_from k l) (sym (drop_more list i 0 more)) ∙ is)))

pub last_making : (before all : List Stmt) (list : List ℕ) (i k : ℕ) → i ≡ length list → before ++ making_from k (drop i list) ≡ all → before ≡ all
last_making before all list i k end is =
    sym (append-nil before)
    ∙ (ap (λ (l : List Stmt). before ++ l) (sym (none_made k))
    ∙ (ap (λ (l : List ℕ). before ++ making_from k l) (sym (drop_all i list (omega (arith, end)))) ∙ is))

-- ---- bodies

-- the body of a task
abbrev pub drawn_body : ℕ → List ℕ → Body
drawn_body k list = record { name = codes "w" ++ decimal k; kind = bodies.Task; labels = []; stmts = drawn_statements 40 list }

one_body : (left k : ℕ) (list : List ℕ) → drawn_bodies (suc left) k list ≡ drawn_body k list ∷ drawn_bodies left (k + 1) (drop 80 list)
unfolding drawn_bodies
one_body left k list = refl

none_bodied : (k : ℕ) (list : List ℕ) → drawn_bodies 0 k list ≡ []
unfolding drawn_bodies
none_bodied k list = refl

pub next_body : (before all : List Body) (list : List ℕ) (count k : ℕ) → k < count + 1 → before ++ drawn_bodies ((count + 1) - k) k list ≡ all →
    (before ++ drawn_body k list ∷ []) ++ drawn_bodies ((count + 1) - (k + 1)) (k + 1) (drop 80 list) ≡ all
next_body before all list count k more is =
    let left : (count + 1) - k ≡ suc ((count + 1) - (k + 1)) = omega (arith, more) in
    append_assoc before (drawn_body k list ∷ []) (drawn_bodies ((count + 1) - (k + 1)) (k + 1) (drop 80 list))
    ∙ (ap (λ (l : List Body). before ++ l) (sym (one_body ((count + 1) - (k + 1)) k list))
    ∙ (ap (λ (n : ℕ). before ++ drawn_bodies n k list) (sym left) ∙ is))

pub last_body : (before all : List Body) (list : List ℕ) (count k : ℕ) → k ≡ count + 1 → before ++ drawn_bodies ((count + 1) - k) k list ≡ all → before ≡ all
last_body before all list count k end is =
    let left : (count + 1) - k ≡ 0 = omega (arith, end) in
    sym (append-nil before)
    ∙ (ap (λ (l : List Body). before ++ l) (sym (none_bodied k list))
    ∙ (ap (λ (n : ℕ). before ++ drawn_bodies n k list) (sym left) ∙ is))
