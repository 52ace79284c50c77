-- Labels among statements: what is printed, and what is left.
use Rattle.std.proofs.Common.{◌≡◌, ◌∙◌, sym, ap, subst, ℕ, suc, ◌+◌, ◌-◌, ◌<◌, ◌≤◌, List, ◌∷◌, ◌++◌, map, length, take, drop, get_or, add-one, append_assoc, Result}
use Rattle.std.proofs.Math.Seq.{drop-cons}
use Rattle.std.proofs.lemmas.List.{drop_all}
use Rattle.std.specs.Result.{OnOk}
use Rattle.tk_types.specs.declared.script.Body.{Body}
use Rattle.tk_types.specs.declared.script.Label.{Label}
use Rattle.tk_types.specs.declared.script.Stmt.{Stmt}
use Rattle.tk_model.specs.ScriptText.{stmt_words, label_words, item_lines, line_text}
use Rattle.tk_script.specs.Words.{lines_text}
use Rattle.tk_script.proofs.Appends.{lines_two}

next_item : (bodies : List Body) (labels : List Label) (stmts : List Stmt) (from i : ℕ) (label : Label) → i < length labels → label ≡ get_or labels i label → lines_text (item_lines bodies labels stmts from (drop i labels)) ≡ lines_text (map (stmt_words bodies labels) (take (label.place - from) (drop from stmts))) ++ (line_text (label_words label) ++ lines_text (item_lines bodies labels stmts label.place (drop (i + 1) labels)))
unfolding item_lines
next_item bodies labels stmts from i label lt is =
    let cut : drop i labels ≡ label ∷ drop (i + 1) labels = rw add-one (drop-cons labels i label lt ∙ ap (λ (l : Label). l ∷ drop (suc i) labels) (sym is)) in
    ap (λ (left : List Label). lines_text (item_lines bodies labels stmts from left)) cut
    ∙ lines_two (map (stmt_words bodies labels) (take (label.place - from) (drop from stmts))) (label_words label ∷ item_lines bodies labels stmts label.place (drop (i + 1) labels))

-- the statements before a label are printed, and the label
pub items_go_on : (bodies : List Body) (labels : List Label) (stmts : List Stmt) (from i : ℕ) (label : Label) (out middle new all : List ℕ) → i < length labels → label ≡ get_or labels i label → out ++ lines_text (item_lines bodies labels stmts from (drop i labels)) ≡ all → middle ≡ out ++ lines_text (map (stmt_words bodies labels) (take (label.place - from) (drop from stmts))) → new ≡ middle ++ line_text (label_words label) → new ++ lines_text (item_lines bodies labels stmts label.place (drop (i + 1) labels)) ≡ all
items_go_on bodies labels stmts from i label out middle new all lt is left e f =
    let before = lines_text (map (stmt_words bodies labels) (take (label.place - from) (drop from stmts))) in
    let mark = line_text (label_words label) in
    let rest = lines_text (item_lines bodies labels stmts label.place (drop (i + 1) labels)) in
    ap (λ (front : List ℕ). front ++ rest) (f ∙ ap (λ (front : List ℕ). front ++ mark) e)
    ∙ (append_assoc (out ++ before) mark rest ∙ (append_assoc out before (mark ++ rest)
    ∙ (ap (λ (back : List ℕ). out ++ back) (sym (next_item bodies labels stmts from i label lt is)) ∙ left)))

-- the statements behind the last label are printed
pub items_end : {X E : Type 0} (r : Result X E) (bodies : List Body) (labels : List Label) (stmts : List Stmt) (from i : ℕ) (out new all : List ℕ) → length labels ≤ i → out ++ lines_text (item_lines bodies labels stmts from (drop i labels)) ≡ all → OnOk r (new ≡ out ++ lines_text (map (stmt_words bodies labels) (drop from stmts))) → OnOk r (new ≡ all)
unfolding item_lines
items_end r bodies labels stmts from i out new all past left printed =
    let P : List Label → Type 0 = λ rest. out ++ lines_text (item_lines bodies labels stmts from rest) ≡ all in
    let whole : out ++ lines_text (map (stmt_words bodies labels) (drop from stmts)) ≡ all = subst P (drop_all i labels past) left in
    let Q : List ℕ → Type 0 = λ text. OnOk r (new ≡ text) in
    subst Q whole printed
