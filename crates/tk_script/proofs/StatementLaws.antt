-- Statements, with the names in them looked up: each has the words that were read, and each that may stand is found again.
use Rattle.std.specs.Prelude.{codes, slice_get}
use Rattle.std.proofs.Common.{◌≡◌, sym, subst, refl, arith, ℕ, zero, suc, ◌<◌, ◌≢◌, get_or, true, false, List, [], ◌∷◌, map, length, Option, Some, Ok}
use Rattle.std.specs.List.{list_all, AllByRecursion}
use Rattle.std.proofs.lemmas.Option.{slice_get-get_or}
use Rattle.tk_types.specs.CallNames.{form_of, text_of}
use Rattle.tk_types.specs.declared.call_name.ArgumentKind.TheVariants as kinds
use Rattle.tk_types.specs.declared.call_name.CallName.{CallName}
use Rattle.tk_types.specs.declared.call_name.CallName.TheVariants as calls
use Rattle.tk_types.specs.declared.script.Arg.{Arg}
use Rattle.tk_types.specs.declared.script.Body.{Body}
use Rattle.tk_types.specs.declared.script.BodyKind.{BodyKind}
use Rattle.tk_types.specs.declared.script.BodyKind.TheVariants.{Task, Hand, Svc}
use Rattle.tk_types.specs.declared.script.Condition.{Condition}
use Rattle.tk_types.specs.declared.script.Condition.TheVariants as conditions
use Rattle.tk_types.specs.declared.script.Label.{Label}
use Rattle.tk_types.specs.declared.script.Operand.{Operand}
use Rattle.tk_types.specs.declared.script.Operation.{Operation}
use Rattle.tk_types.specs.declared.script.Operation.TheVariants as operations
use Rattle.tk_types.specs.declared.script.Stmt.{Stmt}
use Rattle.tk_types.specs.declared.script.Stmt.TheVariants as stmts
use Rattle.tk_types.specs.declared.why.Why.TheVariants as whys
use Rattle.tk_model.specs.ScriptText.{all_differ, condition_words, label_name, operand_word, operation_word, register_word, stmt_words, FitsArgs, FitsCondition, FitsOperand, FitsStmt, IsName, MayCall}
use Rattle.tk_raw.specs.Heads.{head_text, form_of_head}
use Rattle.tk_raw.specs.RawText.{piece_word, piece_words, raw_stmt_words, FitsPiece, FitsPieces}
use Rattle.tk_raw.specs.declared.head.Head.{Head}
use Rattle.tk_raw.specs.declared.head.Head.TheVariants as heads
use Rattle.tk_raw.specs.declared.raw.Piece.{Piece}
use Rattle.tk_raw.specs.declared.raw.Piece.TheVariants as pieces
use Rattle.tk_raw.specs.declared.raw.RawBody.{RawBody}
use Rattle.tk_raw.specs.declared.raw.RawStmt.{RawStmt}
use Rattle.tk_raw.proofs.Results.{ok_is, some_is, passed, not_failed}
use Rattle.tk_script.specs.Resolving.{args_from, branch_of, call_from, call_of, compute_of, condition_of, jump_of, label_of, load_of, may_call, name_of, operand_of, plain_of, register_of, return_from, return_of, same_kind, say_of, show_of, stmt_by, store_of}
use Rattle.tk_script.specs.declared.resolving.Comparison.{Comparison}
use Rattle.tk_script.specs.declared.resolving.Comparison.TheVariants as comparisons
use Rattle.tk_script.proofs.NameLaws.{SameBodies, kinds_same, same_kind_again, label_again}
use Rattle.tk_script.proofs.ArgumentLaws.{bind_ok, register_takes, operand_takes, text_takes, mark_takes, is_call_kind, args_takes, operand_piece, arg_pieces, operand_again, operand_same, operand_fits, args_same, args_again, args_fit, Alike}

-- ---- what is read

-- a statement that was read has its words, and may stand in the body
pub record TakenStmt (bodies : List Body) (body : Body) (line : List (List ℕ)) (stmt : Stmt) : Type 0 where
  pub words : stmt_words bodies body.labels stmt ≡ line
  pub fits : FitsStmt bodies body stmt

compute_takes : (bodies : List Body) (body : Body) (operation : Operation) (list : List Piece) (stmt : Stmt) → compute_of operation list ≡ Ok stmt → FitsPieces (kinds.Register ∷ kinds.Value ∷ []) list → TakenStmt bodies body (operation_word operation ∷ piece_words (kinds.Register ∷ kinds.Value ∷ []) list) stmt
unfolding compute_of FitsPieces piece_words stmt_words FitsStmt
compute_takes bodies body operation [] stmt e fits = absurd fits
compute_takes bodies body operation (register ∷ []) stmt e fits = absurd fits.1
compute_takes bodies body operation (register ∷ value ∷ []) stmt e fits =
    let a = bind_ok (register_of register) _ stmt e in
    let b = bind_ok (operand_of value) _ stmt a.2 in
    let r = register_takes register a.0 a.1 fits.0 in
    let v = operand_takes value b.0 b.1 fits.1.0 in
    subst (TakenStmt bodies body _) (ok_is (stmts.Compute operation a.0 b.0) stmt b.2) (record { words = rw (r.0, v.0) refl; fits = (r.1, v.1) })
compute_takes bodies body operation (_ ∷ _ ∷ _ ∷ _) stmt e fits = absurd fits.1.1

load_takes : (bodies : List Body) (body : Body) (list : List Piece) (stmt : Stmt) → load_of list ≡ Ok stmt → FitsPieces (kinds.Register ∷ kinds.Value ∷ []) list → TakenStmt bodies body (codes "ldb" ∷ piece_words (kinds.Register ∷ kinds.Value ∷ []) list) stmt
unfolding load_of FitsPieces piece_words stmt_words FitsStmt
load_takes bodies body [] stmt e fits = absurd fits
load_takes bodies body (register ∷ []) stmt e fits = absurd fits.1
load_takes bodies body (register ∷ value ∷ []) stmt e fits =
    let a = bind_ok (register_of register) _ stmt e in
    let b = bind_ok (operand_of value) _ stmt a.2 in
    let r = register_takes register a.0 a.1 fits.0 in
    let v = operand_takes value b.0 b.1 fits.1.0 in
    subst (TakenStmt bodies body _) (ok_is (stmts.Load a.0 b.0) stmt b.2) (record { words = rw (r.0, v.0) refl; fits = (r.1, v.1) })
load_takes bodies body (_ ∷ _ ∷ _ ∷ _) stmt e fits = absurd fits.1.1

store_takes : (bodies : List Body) (body : Body) (list : List Piece) (stmt : Stmt) → store_of list ≡ Ok stmt → FitsPieces (kinds.Value ∷ kinds.Value ∷ []) list → TakenStmt bodies body (codes "stb" ∷ piece_words (kinds.Value ∷ kinds.Value ∷ []) list) stmt
unfolding store_of FitsPieces piece_words stmt_words FitsStmt
store_takes bodies body [] stmt e fits = absurd fits
store_takes bodies body (address ∷ []) stmt e fits = absurd fits.1
store_takes bodies body (address ∷ value ∷ []) stmt e fits =
    let a = bind_ok (operand_of address) _ stmt e in
    let b = bind_ok (operand_of value) _ stmt a.2 in
    let u = operand_takes address a.0 a.1 fits.0 in
    let v = operand_takes value b.0 b.1 fits.1.0 in
    subst (TakenStmt bodies body _) (ok_is (stmts.Store a.0 b.0) stmt b.2) (record { words = rw (u.0, v.0) refl; fits = (u.1, v.1) })
store_takes bodies body (_ ∷ _ ∷ _ ∷ _) stmt e fits = absurd fits.1.1

jump_takes : (bodies : List Body) (body : Body) (list : List Piece) (stmt : Stmt) → jump_of body.labels list ≡ Ok stmt → FitsPieces (kinds.Label ∷ []) list → TakenStmt bodies body (codes "jump" ∷ piece_words (kinds.Label ∷ []) list) stmt
unfolding jump_of FitsPieces piece_words stmt_words condition_words FitsStmt FitsCondition
jump_takes bodies body [] stmt e fits = absurd fits
jump_takes bodies body (label ∷ []) stmt e fits =
    let a = bind_ok (label_of body.labels label) _ stmt e in
    let l = mark_takes body.labels label a.0 a.1 fits.0 in
    subst (TakenStmt bodies body _) (ok_is (stmts.Jump conditions.Always a.0) stmt a.2) (record { words = rw l.0 refl; fits = (tt, l.1) })
jump_takes bodies body (_ ∷ _ ∷ _) stmt e fits = absurd fits.1

-- the word of a comparison
abbrev comparison_word : Comparison → List ℕ
comparison_word comparisons.Equal = codes "jeq"
comparison_word comparisons.NotEqual = codes "jne"
comparison_word comparisons.Less = codes "jlt"

compared_words : (comparison : Comparison) (register : ℕ) (value : Operand) → condition_words (condition_of comparison register value) ≡ comparison_word comparison ∷ register_word register ∷ operand_word value ∷ []
unfolding condition_of condition_words
compared_words comparisons.Equal register value = refl
compared_words comparisons.NotEqual register value = refl
compared_words comparisons.Less register value = refl

compared_fits : (comparison : Comparison) (register : ℕ) (value : Operand) → register < 16 → FitsOperand value → FitsCondition (condition_of comparison register value)
unfolding condition_of FitsCondition
compared_fits comparisons.Equal register value r v = (r, v)
compared_fits comparisons.NotEqual register value r v = (r, v)
compared_fits comparisons.Less register value r v = (r, v)

branch_takes : (bodies : List Body) (body : Body) (comparison : Comparison) (list : List Piece) (stmt : Stmt) → branch_of body.labels comparison list ≡ Ok stmt → FitsPieces (kinds.Register ∷ kinds.Value ∷ kinds.Label ∷ []) list → TakenStmt bodies body (comparison_word comparison ∷ piece_words (kinds.Register ∷ kinds.Value ∷ kinds.Label ∷ []) list) stmt
unfolding branch_of FitsPieces piece_words stmt_words FitsStmt
branch_takes bodies body comparison [] stmt e fits = absurd fits
branch_takes bodies body comparison (register ∷ []) stmt e fits = absurd fits.1
branch_takes bodies body comparison (register ∷ value ∷ []) stmt e fits = absurd fits.1.1
branch_takes bodies body comparison (register ∷ value ∷ label ∷ []) stmt e fits =
    let a = bind_ok (register_of register) _ stmt e in
    let b = bind_ok (operand_of value) _ stmt a.2 in
    let c = bind_ok (label_of body.labels label) _ stmt b.2 in
    let r = register_takes register a.0 a.1 fits.0 in
    let v = operand_takes value b.0 b.1 fits.1.0 in
    let l = mark_takes body.labels label c.0 c.1 fits.1.1.0 in
    subst (TakenStmt bodies body _) (ok_is (stmts.Jump (condition_of comparison a.0 b.0) c.0) stmt c.2)
    (record { words = rw (compared_words comparison a.0 b.0, r.0, v.0, l.0) refl; fits = (compared_fits comparison a.0 b.0 r.1 v.1, l.1) })
branch_takes bodies body comparison (_ ∷ _ ∷ _ ∷ _ ∷ _) stmt e fits = absurd fits.1.1.1

say_takes : (bodies : List Body) (body : Body) (list : List Piece) (stmt : Stmt) → say_of list ≡ Ok stmt → FitsPieces (kinds.Text ∷ []) list → TakenStmt bodies body (codes "say" ∷ piece_words (kinds.Text ∷ []) list) stmt
unfolding say_of FitsPieces piece_words stmt_words FitsStmt
say_takes bodies body [] stmt e fits = absurd fits
say_takes bodies body (name ∷ []) stmt e fits =
    let a = bind_ok (name_of name) _ stmt e in
    let n = text_takes name a.0 a.1 fits.0 in
    subst (TakenStmt bodies body _) (ok_is (stmts.Say a.0) stmt a.2) (record { words = rw n.0 refl; fits = n.1 })
say_takes bodies body (_ ∷ _ ∷ _) stmt e fits = absurd fits.1

show_takes : (bodies : List Body) (body : Body) (list : List Piece) (stmt : Stmt) → show_of list ≡ Ok stmt → FitsPieces (kinds.Value ∷ []) list → TakenStmt bodies body (codes "show" ∷ piece_words (kinds.Value ∷ []) list) stmt
unfolding show_of FitsPieces piece_words stmt_words FitsStmt
show_takes bodies body [] stmt e fits = absurd fits
show_takes bodies body (value ∷ []) stmt e fits =
    let a = bind_ok (operand_of value) _ stmt e in
    let v = operand_takes value a.0 a.1 fits.0 in
    subst (TakenStmt bodies body _) (ok_is (stmts.Show a.0) stmt a.2) (record { words = rw v.0 refl; fits = v.1 })
show_takes bodies body (_ ∷ _ ∷ _) stmt e fits = absurd fits.1

nop_takes : (bodies : List Body) (body : Body) (list : List Piece) (stmt : Stmt) → plain_of stmts.Nop list ≡ Ok stmt → FitsPieces [] list → TakenStmt bodies body (codes "nop" ∷ piece_words [] list) stmt
unfolding plain_of FitsPieces piece_words stmt_words FitsStmt
nop_takes bodies body [] stmt e fits = subst (TakenStmt bodies body _) (ok_is stmts.Nop stmt e) (record { words = refl; fits = tt })
nop_takes bodies body (_ ∷ _) stmt e fits = absurd fits

halt_takes : (bodies : List Body) (body : Body) (list : List Piece) (stmt : Stmt) → plain_of stmts.Halt list ≡ Ok stmt → FitsPieces [] list → TakenStmt bodies body (codes "halt" ∷ piece_words [] list) stmt
unfolding plain_of FitsPieces piece_words stmt_words FitsStmt
halt_takes bodies body [] stmt e fits = subst (TakenStmt bodies body _) (ok_is stmts.Halt stmt e) (record { words = refl; fits = tt })
halt_takes bodies body (_ ∷ _) stmt e fits = absurd fits

not_task : (kind : BodyKind) → same_kind kind Task ≡ false → kind ≢ Task
not_task Task e = absurd (cc)
not_task Hand e = λ is. cc
not_task Svc e = λ is. cc

value_takes : (bodies : List Body) (body : Body) (list : List Piece) (stmt : Stmt) → body.kind ≢ Task → return_from list ≡ Ok stmt → FitsPieces (kinds.Value ∷ []) list → TakenStmt bodies body (codes "return" ∷ piece_words (kinds.Value ∷ []) list) stmt
unfolding return_from FitsPieces piece_words stmt_words FitsStmt
value_takes bodies body [] stmt other e fits = absurd fits
value_takes bodies body (value ∷ []) stmt other e fits =
    let a = bind_ok (operand_of value) _ stmt e in
    let v = operand_takes value a.0 a.1 fits.0 in
    subst (TakenStmt bodies body _) (ok_is (stmts.Return a.0) stmt a.2) (record { words = rw v.0 refl; fits = (other, v.1) })
value_takes bodies body (_ ∷ _ ∷ _) stmt other e fits = absurd fits.1

return_takes : (bodies : List Body) (body : Body) (list : List Piece) (stmt : Stmt) → return_of body.kind list ≡ Ok stmt → FitsPieces (kinds.Value ∷ []) list → TakenStmt bodies body (codes "return" ∷ piece_words (kinds.Value ∷ []) list) stmt
unfolding return_of
return_takes bodies body list stmt e fits =
    let t = not_failed (same_kind body.kind Task) (return_from list) whys.Kind stmt e in
    value_takes bodies body list stmt (not_task body.kind t.0) t.1 fits

calls_only : (name : CallName) → list_all is_call_kind (form_of name) ≡ true
unfolding form_of
calls_only calls.TkCreTsk = refl
calls_only _ = refl

may_takes : (kind : BodyKind) (name : CallName) → may_call kind name ≡ true → MayCall kind name
unfolding may_call MayCall
may_takes kind calls.TkExtTsk e = kinds_same kind Task e
may_takes kind calls.TkExdTsk e = kinds_same kind Task e
may_takes kind _ e = tt

call_takes : (raws : List RawBody) (bodies : List Body) (body : Body) (name : CallName) (list : List Piece) (stmt : Stmt) → SameBodies raws bodies → call_of raws body.kind name list ≡ Ok stmt → FitsPieces (form_of name) list → TakenStmt bodies body (text_of name ∷ piece_words (form_of name) list) stmt
unfolding call_of call_from stmt_words FitsStmt
call_takes raws bodies body name list stmt same e fits =
    let t = passed (may_call body.kind name) (call_from raws name list) whys.Kind stmt e in
    let a = bind_ok (args_from raws (form_of name) list []) _ stmt t.1 in
    let taken = args_takes raws bodies (form_of name) list [] a.0 same (calls_only name) a.1 fits in
    subst (TakenStmt bodies body _) (ok_is (stmts.Call name a.0) stmt a.2)
    (subst (λ (all : List Arg). TakenStmt bodies body (text_of name ∷ piece_words (form_of name) list) (stmts.Call name all)) (sym taken.is)
    (record { words = rw taken.words refl; fits = (may_takes body.kind name t.0, taken.fits) }))

pub stmt_takes : (raws : List RawBody) (bodies : List Body) (body : Body) (head : Head) (list : List Piece) (stmt : Stmt) → SameBodies raws bodies → stmt_by raws body.labels body.kind head list ≡ Ok stmt → FitsPieces (form_of_head head) list → TakenStmt bodies body (head_text head ∷ piece_words (form_of_head head) list) stmt
unfolding stmt_by head_text form_of_head
stmt_takes raws bodies body heads.Set list stmt same e fits = compute_takes bodies body operations.Set list stmt e fits
stmt_takes raws bodies body heads.Add list stmt same e fits = compute_takes bodies body operations.Add list stmt e fits
stmt_takes raws bodies body heads.Sub list stmt same e fits = compute_takes bodies body operations.Sub list stmt e fits
stmt_takes raws bodies body heads.Mul list stmt same e fits = compute_takes bodies body operations.Mul list stmt e fits
stmt_takes raws bodies body heads.And list stmt same e fits = compute_takes bodies body operations.And list stmt e fits
stmt_takes raws bodies body heads.Or list stmt same e fits = compute_takes bodies body operations.Or list stmt e fits
stmt_takes raws bodies body heads.Xor list stmt same e fits = compute_takes bodies body operations.Xor list stmt e fits
stmt_takes raws bodies body heads.Ldb list stmt same e fits = load_takes bodies body list stmt e fits
stmt_takes raws bodies body heads.Stb list stmt same e fits = store_takes bodies body list stmt e fits
stmt_takes raws bodies body heads.Jump list stmt same e fits = jump_takes bodies body list stmt e fits
stmt_takes raws bodies body heads.Jeq list stmt same e fits = branch_takes bodies body comparisons.Equal list stmt e fits
stmt_takes raws bodies body heads.Jne list stmt same e fits = branch_takes bodies body comparisons.NotEqual list stmt e fits
stmt_takes raws bodies body heads.Jlt list stmt same e fits = branch_takes bodies body comparisons.Less list stmt e fits
stmt_takes raws bodies body heads.Say list stmt same e fits = say_takes bodies body list stmt e fits
stmt_takes raws bodies body heads.Show list stmt same e fits = show_takes bodies body list stmt e fits
stmt_takes raws bodies body heads.Nop list stmt same e fits = nop_takes bodies body list stmt e fits
stmt_takes raws bodies body heads.Halt list stmt same e fits = halt_takes bodies body list stmt e fits
stmt_takes raws bodies body heads.Return list stmt same e fits = return_takes bodies body list stmt e fits
stmt_takes raws bodies body (heads.Call name) list stmt same e fits = call_takes raws bodies body name list stmt same e fits

-- ---- what may stand is found again

abbrev pub operation_head : Operation → Head
operation_head operations.Set = heads.Set
operation_head operations.Add = heads.Add
operation_head operations.Sub = heads.Sub
operation_head operations.Mul = heads.Mul
operation_head operations.And = heads.And
operation_head operations.Or = heads.Or
operation_head operations.Xor = heads.Xor

abbrev pub branch_stmt : Head → ℕ → Operand → List ℕ → RawStmt
branch_stmt head register value label = record { head = head; pieces = pieces.Register register ∷ operand_piece value ∷ pieces.Name label ∷ [] }

-- how a jump is written
abbrev pub jump_stmt : Condition → List ℕ → RawStmt
jump_stmt conditions.Always label = record { head = heads.Jump; pieces = pieces.Name label ∷ [] }
jump_stmt (conditions.Equal register value) label = branch_stmt heads.Jeq register value label
jump_stmt (conditions.NotEqual register value) label = branch_stmt heads.Jne register value label
jump_stmt (conditions.Less register value) label = branch_stmt heads.Jlt register value label

-- how a statement is written
abbrev pub raw_stmt : List Body → List Label → Stmt → RawStmt
raw_stmt bodies labels (stmts.Compute operation register value) = record { head = operation_head operation; pieces = pieces.Register register ∷ operand_piece value ∷ [] }
raw_stmt bodies labels (stmts.Load register address) = record { head = heads.Ldb; pieces = pieces.Register register ∷ operand_piece address ∷ [] }
raw_stmt bodies labels (stmts.Store address value) = record { head = heads.Stb; pieces = operand_piece address ∷ operand_piece value ∷ [] }
raw_stmt bodies labels (stmts.Jump condition label) = jump_stmt condition (label_name (slice_get labels label))
raw_stmt bodies labels (stmts.Say name) = record { head = heads.Say; pieces = pieces.Name name ∷ [] }
raw_stmt bodies labels (stmts.Show value) = record { head = heads.Show; pieces = operand_piece value ∷ [] }
raw_stmt bodies labels stmts.Nop = record { head = heads.Nop; pieces = [] }
raw_stmt bodies labels stmts.Halt = record { head = heads.Halt; pieces = [] }
raw_stmt bodies labels (stmts.Return value) = record { head = heads.Return; pieces = operand_piece value ∷ [] }
raw_stmt bodies labels (stmts.Call name list) = record { head = heads.Call name; pieces = arg_pieces bodies list }

-- a statement that is found again
pub record AgainStmt (raws : List RawBody) (bodies : List Body) (body : Body) (raw : RawStmt) (stmt : Stmt) : Type 0 where
  pub found : stmt_by raws body.labels body.kind raw.head raw.pieces ≡ Ok stmt
  pub words : raw_stmt_words raw ≡ stmt_words bodies body.labels stmt
  pub fits : FitsPieces (form_of_head raw.head) raw.pieces

-- what is known of the labels of a body
pub record Labels (labels : List Label) : Type 0 where
  pub differ : all_differ (map (λ (label : Label). label.name) labels) ≡ true
  pub named : AllByRecursion (λ (label : Label). IsName 16 label.name) labels

label_there : (labels : List Label) (i : ℕ) → i < length labels → (label : Label) × (slice_get labels i ≡ Some label)
label_there [] i within = absurd (omega arith)
label_there (label ∷ labels) i within = (get_or (label ∷ labels) i label, slice_get-get_or (label ∷ labels) i label within)

label_named : (labels : List Label) (i : ℕ) (label : Label) → AllByRecursion (λ (l : Label). IsName 16 l.name) labels → slice_get labels i ≡ Some label → IsName 16 label.name
label_named [] i label all is = absurd (cc)
label_named (first ∷ labels) zero label all is = subst (λ (l : Label). IsName 16 l.name) (some_is first label is) all.0
label_named (first ∷ labels) (suc i) label all is = label_named labels i label all.1 is

-- the word of a label is a name
word_named : (labels : List Label) (i : ℕ) → Labels labels → i < length labels → IsName 16 (label_name (slice_get labels i))
word_named labels i is within =
    let found = label_there labels i within in
    subst (λ (o : Option Label). IsName 16 (label_name o)) (sym found.1) (label_named labels i found.0 is.named found.1)

compute_again : (raws : List RawBody) (bodies : List Body) (body : Body) (operation : Operation) (register : ℕ) (value : Operand) → register < 16 → FitsOperand value → AgainStmt raws bodies body (record { head = operation_head operation; pieces = pieces.Register register ∷ operand_piece value ∷ [] }) (stmts.Compute operation register value)
unfolding stmt_by compute_of register_of raw_stmt_words piece_words piece_word head_text form_of_head stmt_words FitsPieces FitsPiece
compute_again raws bodies body operations.Set register value r v = record { found = rw (operand_again value) refl; words = rw (operand_same value) refl; fits = (r, (operand_fits value v, tt)) }
compute_again raws bodies body _ register value r v = record { found = rw (operand_again value) refl; words = rw (operand_same value) refl; fits = (r, (operand_fits value v, tt)) }

load_again : (raws : List RawBody) (bodies : List Body) (body : Body) (register : ℕ) (address : Operand) → register < 16 → FitsOperand address → AgainStmt raws bodies body (record { head = heads.Ldb; pieces = pieces.Register register ∷ operand_piece address ∷ [] }) (stmts.Load register address)
unfolding stmt_by load_of register_of raw_stmt_words piece_words piece_word head_text form_of_head stmt_words FitsPieces FitsPiece
load_again raws bodies body register address r v = record { found = rw (operand_again address) refl; words = rw (operand_same address) refl; fits = (r, (operand_fits address v, tt)) }

store_again : (raws : List RawBody) (bodies : List Body) (body : Body) (address value : Operand) → FitsOperand address → FitsOperand value → AgainStmt raws bodies body (record { head = heads.Stb; pieces = operand_piece address ∷ operand_piece value ∷ [] }) (stmts.Store address value)
unfolding stmt_by store_of raw_stmt_words piece_words head_text form_of_head stmt_words FitsPieces
store_again raws bodies body address value u v = record { found = rw (operand_again address, operand_again value) refl; words = rw (operand_same address, operand_same value) refl; fits = (operand_fits address u, (operand_fits value v, tt)) }

jump_again : (raws : List RawBody) (bodies : List Body) (body : Body) (condition : Condition) (label : ℕ) → Labels body.labels → FitsCondition condition → label < length body.labels → AgainStmt raws bodies body (jump_stmt condition (label_name (slice_get body.labels label))) (stmts.Jump condition label)
unfolding stmt_by jump_of branch_of condition_of register_of label_of raw_stmt_words piece_words piece_word head_text form_of_head stmt_words condition_words FitsPieces FitsPiece FitsCondition
jump_again raws bodies body conditions.Always label labels fits within = record { found = rw (label_again body.labels label labels.differ within) refl; words = refl; fits = (word_named body.labels label labels within, tt) }
jump_again raws bodies body (conditions.Equal register value) label labels fits within = record { found = rw (operand_again value, label_again body.labels label labels.differ within) refl; words = rw (operand_same value) refl; fits = (fits.0, (operand_fits value fits.1, (word_named body.labels label labels within, tt))) }
jump_again raws bodies body (conditions.NotEqual register value) label labels fits within = record { found = rw (operand_again value, label_again body.labels label labels.differ within) refl; words = rw (operand_same value) refl; fits = (fits.0, (operand_fits value fits.1, (word_named body.labels label labels within, tt))) }
jump_again raws bodies body (conditions.Less register value) label labels fits within = record { found = rw (operand_again value, label_again body.labels label labels.differ within) refl; words = rw (operand_same value) refl; fits = (fits.0, (operand_fits value fits.1, (word_named body.labels label labels within, tt))) }

say_again : (raws : List RawBody) (bodies : List Body) (body : Body) (name : List ℕ) → IsName 16 name → AgainStmt raws bodies body (record { head = heads.Say; pieces = pieces.Name name ∷ [] }) (stmts.Say name)
unfolding stmt_by say_of name_of raw_stmt_words piece_words piece_word head_text form_of_head stmt_words FitsPieces FitsPiece
say_again raws bodies body name is = record { found = refl; words = refl; fits = (is, tt) }

show_again : (raws : List RawBody) (bodies : List Body) (body : Body) (value : Operand) → FitsOperand value → AgainStmt raws bodies body (record { head = heads.Show; pieces = operand_piece value ∷ [] }) (stmts.Show value)
unfolding stmt_by show_of raw_stmt_words piece_words head_text form_of_head stmt_words FitsPieces
show_again raws bodies body value v = record { found = rw (operand_again value) refl; words = rw (operand_same value) refl; fits = (operand_fits value v, tt) }

nop_again : (raws : List RawBody) (bodies : List Body) (body : Body) → AgainStmt raws bodies body (record { head = heads.Nop; pieces = [] }) stmts.Nop
unfolding stmt_by plain_of raw_stmt_words piece_words head_text form_of_head stmt_words FitsPieces
nop_again raws bodies body = record { found = refl; words = refl; fits = tt }

halt_again : (raws : List RawBody) (bodies : List Body) (body : Body) → AgainStmt raws bodies body (record { head = heads.Halt; pieces = [] }) stmts.Halt
unfolding stmt_by plain_of raw_stmt_words piece_words head_text form_of_head stmt_words FitsPieces
halt_again raws bodies body = record { found = refl; words = refl; fits = tt }

no_task : (kind : BodyKind) → kind ≢ Task → same_kind kind Task ≡ false
no_task Task other = absurd (other refl)
no_task Hand other = refl
no_task Svc other = refl

return_again : (raws : List RawBody) (bodies : List Body) (body : Body) (value : Operand) → body.kind ≢ Task → FitsOperand value → AgainStmt raws bodies body (record { head = heads.Return; pieces = operand_piece value ∷ [] }) (stmts.Return value)
unfolding stmt_by return_of return_from raw_stmt_words piece_words head_text form_of_head stmt_words FitsPieces
return_again raws bodies body value other v = record { found = rw (no_task body.kind other, operand_again value) refl; words = rw (operand_same value) refl; fits = (operand_fits value v, tt) }

may_again : (kind : BodyKind) (name : CallName) → MayCall kind name → may_call kind name ≡ true
unfolding may_call MayCall
may_again kind calls.TkExtTsk is = rw is (same_kind_again Task)
may_again kind calls.TkExdTsk is = rw is (same_kind_again Task)
may_again kind _ is = refl

call_again : (raws : List RawBody) (bodies : List Body) (body : Body) (name : CallName) (list : List Arg) → Alike raws bodies → MayCall body.kind name → FitsArgs bodies (form_of name) list → AgainStmt raws bodies body (record { head = heads.Call name; pieces = arg_pieces bodies list }) (stmts.Call name list)
unfolding stmt_by call_of call_from raw_stmt_words head_text form_of_head stmt_words
call_again raws bodies body name list alike may fits = record {
  found = rw (may_again body.kind name may, args_again raws bodies (form_of name) list [] alike fits) refl;
  words = rw (args_same bodies (form_of name) list) refl;
  fits = args_fit raws bodies (form_of name) list alike fits;
}

pub stmt_again : (raws : List RawBody) (bodies : List Body) (body : Body) (stmt : Stmt) → Alike raws bodies → Labels body.labels → FitsStmt bodies body stmt → AgainStmt raws bodies body (raw_stmt bodies body.labels stmt) stmt
unfolding FitsStmt
stmt_again raws bodies body (stmts.Compute operation register value) alike labels fits = compute_again raws bodies body operation register value fits.0 fits.1
stmt_again raws bodies body (stmts.Load register address) alike labels fits = load_again raws bodies body register address fits.0 fits.1
stmt_again raws bodies body (stmts.Store address value) alike labels fits = store_again raws bodies body address value fits.0 fits.1
stmt_again raws bodies body (stmts.Jump condition label) alike labels fits = jump_again raws bodies body condition label labels fits.0 fits.1
stmt_again raws bodies body (stmts.Say name) alike labels fits = say_again raws bodies body name fits
stmt_again raws bodies body (stmts.Show value) alike labels fits = show_again raws bodies body value fits
stmt_again raws bodies body stmts.Nop alike labels fits = nop_again raws bodies body
stmt_again raws bodies body stmts.Halt alike labels fits = halt_again raws bodies body
stmt_again raws bodies body (stmts.Return value) alike labels fits = return_again raws bodies body value fits.0 fits.1
stmt_again raws bodies body (stmts.Call name list) alike labels fits = call_again raws bodies body name list alike fits.0 fits.1
