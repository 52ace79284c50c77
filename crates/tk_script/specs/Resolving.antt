-- The second pass over a script: each name of a body or of a label becomes its number, in the order of the lines.
use Rattle.std.specs.Prelude.{ℕ, ◌+◌, ◌^◌, ◌<◌, Bool, true, false, ◌&&◌, nat_lt, if◌then◌else◌, List, [], ◌∷◌, ◌++◌, length, drop, Option, Some, None, Result, Ok, Err, position, slice_get, slice_index}
use Rattle.std.specs.List.{AllByRecursion}
use Rattle.std.specs.Str.{bytes_eq}
use Rattle.tk_types.specs.CallNames.{form_of}
use Rattle.tk_types.specs.declared.call_name.ArgumentKind.{ArgumentKind}
use Rattle.tk_types.specs.declared.call_name.ArgumentKind.TheVariants as kinds
use Rattle.tk_types.specs.declared.call_name.CallName.{CallName}
use Rattle.tk_types.specs.declared.call_name.CallName.TheVariants as calls
use Rattle.tk_types.specs.declared.script.Arg.{Arg}
use Rattle.tk_types.specs.declared.script.Arg.TheVariants as args
use Rattle.tk_types.specs.declared.script.Body.{Body}
use Rattle.tk_types.specs.declared.script.BodyKind.{BodyKind}
use Rattle.tk_types.specs.declared.script.BodyKind.TheVariants.{Task, Hand, Svc}
use Rattle.tk_types.specs.declared.script.Condition.{Condition}
use Rattle.tk_types.specs.declared.script.Condition.TheVariants as conditions
use Rattle.tk_types.specs.declared.script.Label.{Label}
use Rattle.tk_types.specs.declared.script.Operand.{Operand}
use Rattle.tk_types.specs.declared.script.Operand.TheVariants as operands
use Rattle.tk_types.specs.declared.script.Operation.{Operation}
use Rattle.tk_types.specs.declared.script.Operation.TheVariants as operations
use Rattle.tk_types.specs.declared.script.Script.{Script}
use Rattle.tk_types.specs.declared.script.Stmt.{Stmt}
use Rattle.tk_types.specs.declared.script.Stmt.TheVariants as stmts
use Rattle.tk_types.specs.declared.why.Why.{Why}
use Rattle.tk_types.specs.declared.why.Why.TheVariants as whys
use Rattle.tk_raw.specs.RawReading.{Refusal}
use Rattle.tk_raw.specs.declared.head.Head.{Head}
use Rattle.tk_raw.specs.declared.head.Head.TheVariants as heads
use Rattle.tk_raw.specs.declared.raw.Piece.{Piece}
use Rattle.tk_raw.specs.declared.raw.Piece.TheVariants as pieces
use Rattle.tk_raw.specs.declared.raw.RawBody.{RawBody}
use Rattle.tk_raw.specs.declared.raw.RawItem.{RawItem}
use Rattle.tk_raw.specs.declared.raw.RawItem.TheVariants as items
use Rattle.tk_raw.specs.declared.raw.RawScript.{RawScript}
use Rattle.tk_script.specs.declared.resolving.Comparison.{Comparison}
use Rattle.tk_script.specs.declared.resolving.Comparison.TheVariants as comparisons

-- one step after another, the first that fails deciding
infixl 10 ◌>>=◌
abbrev pub ◌>>=◌ : {A B E : Type 0} → Result A E → (A → Result B E) → Result B E
(Ok found) >>= next = next found
(Err error) >>= next = Err error

-- what is wrong stands in that line
abbrev pub at_line : {A : Type 0} → ℕ → Result A Why → Result A Refusal
at_line line (Ok found) = Ok found
at_line line (Err why) = Err (line, why)

-- ---- bodies

abbrev pub same_kind : BodyKind → BodyKind → Bool
same_kind Task Task = true
same_kind Hand Hand = true
same_kind Svc Svc = true
same_kind _ _ = false

-- the place of the body with a name
unfoldable pub body_place : List RawBody → List ℕ → Option ℕ
body_place bodies name = position (λ (body : RawBody). bytes_eq body.name name) bodies

-- the number of the body in a place, counted from 1, where it has the kind that is wanted
abbrev pub number_if : BodyKind → ℕ → Option RawBody → Result ℕ Why
number_if wanted place None = Err whys.Unknown
number_if wanted place (Some body) = if same_kind body.kind wanted && nat_lt place 255 then Ok (place + 1) else Err whys.Kind

abbrev pub number_at : List RawBody → BodyKind → Option ℕ → Result ℕ Why
number_at bodies wanted None = Err whys.Unknown
number_at bodies wanted (Some place) = number_if wanted place (slice_get bodies place)

-- the number of the body with a name, which has to be of that kind
unfoldable pub body_number : List RawBody → BodyKind → List ℕ → Result ℕ Why
body_number bodies wanted name = number_at bodies wanted (body_place bodies name)

-- ---- labels

-- the labels with that of a line, before which so many statements stand
abbrev pub labels_with : ℕ → RawItem → List Label → List Label
labels_with place (items.Label name) front = front ++ record { name = name; place = place } ∷ []
labels_with place (items.Stmt stmt) front = front

-- how many statements stand before the next line
abbrev pub place_behind : RawItem → ℕ → ℕ
place_behind (items.Label name) place = place
place_behind (items.Stmt stmt) place = place + 1

-- the labels of lines, each with the number of statements before it, behind those that are there already
unfoldable pub labels_from : ℕ → List RawItem → List Label → List Label
labels_from place [] front = front
labels_from place (item ∷ rest) front = labels_from (place_behind item place) rest (labels_with place item front)

-- the labels of the lines of a body
abbrev pub labels_of : List RawItem → List Label
labels_of lines = labels_from 0 lines []

abbrev pub known : Option ℕ → Result ℕ Why
known None = Err whys.Unknown
known (Some place) = Ok place

-- the place of the label with a name in the list of labels
unfoldable pub label_number : List Label → List ℕ → Result ℕ Why
label_number labels name = known (position (λ (label : Label). bytes_eq label.name name) labels)

-- ---- arguments. A piece that can't stand in a place is unknown there

unfoldable pub register_of : Piece → Result ℕ Why
register_of (pieces.Register register) = Ok register
register_of _ = Err whys.Unknown

unfoldable pub operand_of : Piece → Result Operand Why
operand_of (pieces.Number number) = Ok (operands.Number number)
operand_of (pieces.Register register) = Ok (operands.Register register)
operand_of _ = Err whys.Unknown

unfoldable pub name_of : Piece → Result (List ℕ) Why
name_of (pieces.Name name) = Ok name
name_of _ = Err whys.Unknown

unfoldable pub label_of : List Label → Piece → Result ℕ Why
label_of labels (pieces.Name name) = label_number labels name
label_of labels _ = Err whys.Unknown

abbrev pub body_arg : Result ℕ Why → Result Arg Why
body_arg (Ok number) = Ok (args.Body number)
body_arg (Err why) = Err why

-- the argument that a name is in a place of that kind
unfoldable pub named_arg : List RawBody → ArgumentKind → List ℕ → Result Arg Why
named_arg bodies kinds.TaskBody name = body_arg (body_number bodies Task name)
named_arg bodies kinds.HandlerBody name = body_arg (body_number bodies Hand name)
named_arg bodies kinds.HandlerBodyOrNone name = body_arg (body_number bodies Hand name)
named_arg bodies kinds.ServiceBodyOrNone name = body_arg (body_number bodies Svc name)
named_arg bodies kinds.Value name = Ok (args.Name name)
named_arg bodies kinds.Attributes name = Ok (args.Name name)
named_arg bodies kinds.FlagMode name = Ok (args.Name name)
named_arg bodies kinds.OpenMode name = Ok (args.Name name)
named_arg bodies kinds.SuspendMode name = Ok (args.Name name)
named_arg bodies kinds.DeviceName name = Ok (args.Name name)
named_arg bodies kinds.Register name = Ok (args.Name name)
named_arg bodies kinds.Label name = Ok (args.Name name)
named_arg bodies kinds.Text name = Ok (args.Name name)

-- the argument that a piece is in a place of that kind
unfoldable pub arg_of : List RawBody → ArgumentKind → Piece → Result Arg Why
arg_of bodies kind (pieces.Number number) = Ok (args.Number number)
arg_of bodies kind (pieces.Register register) = Ok (args.Register register)
arg_of bodies kind (pieces.List bits) = Ok (args.List bits)
arg_of bodies kind (pieces.Name name) = named_arg bodies kind name
arg_of bodies kind pieces.Dash = Ok (args.Body 0)

-- the arguments of a call, from left to right, behind those that are there already
unfoldable pub args_from : List RawBody → List ArgumentKind → List Piece → List Arg → Result (List Arg) Why
args_from bodies [] list front = Ok front
args_from bodies (kind ∷ form) [] front = Ok front
args_from bodies (kind ∷ form) (piece ∷ list) front = do
  argument ← arg_of bodies kind piece
  args_from bodies form list (front ++ argument ∷ [])

-- ---- statements

unfoldable pub compute_of : Operation → List Piece → Result Stmt Why
compute_of operation (register ∷ value ∷ []) = do
  register ← register_of register
  value ← operand_of value
  Ok (stmts.Compute operation register value)
compute_of operation _ = Err whys.Unknown

unfoldable pub load_of : List Piece → Result Stmt Why
load_of (register ∷ address ∷ []) = do
  register ← register_of register
  address ← operand_of address
  Ok (stmts.Load register address)
load_of _ = Err whys.Unknown

unfoldable pub store_of : List Piece → Result Stmt Why
store_of (address ∷ value ∷ []) = do
  address ← operand_of address
  value ← operand_of value
  Ok (stmts.Store address value)
store_of _ = Err whys.Unknown

unfoldable pub jump_of : List Label → List Piece → Result Stmt Why
jump_of labels (label ∷ []) = do
  label ← label_of labels label
  Ok (stmts.Jump conditions.Always label)
jump_of labels _ = Err whys.Unknown

unfoldable pub condition_of : Comparison → ℕ → Operand → Condition
condition_of comparisons.Equal register value = conditions.Equal register value
condition_of comparisons.NotEqual register value = conditions.NotEqual register value
condition_of comparisons.Less register value = conditions.Less register value

unfoldable pub branch_of : List Label → Comparison → List Piece → Result Stmt Why
branch_of labels comparison (register ∷ value ∷ label ∷ []) = do
  register ← register_of register
  value ← operand_of value
  label ← label_of labels label
  Ok (stmts.Jump (condition_of comparison register value) label)
branch_of labels comparison _ = Err whys.Unknown

unfoldable pub say_of : List Piece → Result Stmt Why
say_of (name ∷ []) = do
  name ← name_of name
  Ok (stmts.Say name)
say_of _ = Err whys.Unknown

unfoldable pub show_of : List Piece → Result Stmt Why
show_of (value ∷ []) = do
  value ← operand_of value
  Ok (stmts.Show value)
show_of _ = Err whys.Unknown

-- the statements of no arguments
unfoldable pub plain_of : Stmt → List Piece → Result Stmt Why
plain_of stmt [] = Ok stmt
plain_of stmt (piece ∷ list) = Err whys.Unknown

unfoldable pub return_from : List Piece → Result Stmt Why
return_from (value ∷ []) = do
  value ← operand_of value
  Ok (stmts.Return value)
return_from _ = Err whys.Unknown

-- `return` stands in no task body
unfoldable pub return_of : BodyKind → List Piece → Result Stmt Why
return_of kind list = if same_kind kind Task then Err whys.Kind else return_from list

-- the calls that end a task stand in task bodies only
unfoldable pub may_call : BodyKind → CallName → Bool
may_call kind calls.TkExtTsk = same_kind kind Task
may_call kind calls.TkExdTsk = same_kind kind Task
may_call kind _ = true

unfoldable pub call_from : List RawBody → CallName → List Piece → Result Stmt Why
call_from bodies name list = do
  arguments ← args_from bodies (form_of name) list []
  Ok (stmts.Call name arguments)

unfoldable pub call_of : List RawBody → BodyKind → CallName → List Piece → Result Stmt Why
call_of bodies kind name list = if may_call kind name then call_from bodies name list else Err whys.Kind

-- the statement with that first word, in a body of that kind with those labels
unfoldable pub stmt_by : List RawBody → List Label → BodyKind → Head → List Piece → Result Stmt Why
stmt_by bodies labels kind heads.Set list = compute_of operations.Set list
stmt_by bodies labels kind heads.Add list = compute_of operations.Add list
stmt_by bodies labels kind heads.Sub list = compute_of operations.Sub list
stmt_by bodies labels kind heads.Mul list = compute_of operations.Mul list
stmt_by bodies labels kind heads.And list = compute_of operations.And list
stmt_by bodies labels kind heads.Or list = compute_of operations.Or list
stmt_by bodies labels kind heads.Xor list = compute_of operations.Xor list
stmt_by bodies labels kind heads.Ldb list = load_of list
stmt_by bodies labels kind heads.Stb list = store_of list
stmt_by bodies labels kind heads.Jump list = jump_of labels list
stmt_by bodies labels kind heads.Jeq list = branch_of labels comparisons.Equal list
stmt_by bodies labels kind heads.Jne list = branch_of labels comparisons.NotEqual list
stmt_by bodies labels kind heads.Jlt list = branch_of labels comparisons.Less list
stmt_by bodies labels kind heads.Say list = say_of list
stmt_by bodies labels kind heads.Show list = show_of list
stmt_by bodies labels kind heads.Nop list = plain_of stmts.Nop list
stmt_by bodies labels kind heads.Halt list = plain_of stmts.Halt list
stmt_by bodies labels kind heads.Return list = return_of kind list
stmt_by bodies labels kind (heads.Call name) list = call_of bodies kind name list

-- ---- lines. The numbers are those of the lines from the one on that is looked at

-- the number of the first line of these
abbrev pub first_number : List ℕ → ℕ
first_number numbers = slice_index numbers 0

-- the statements with that of a line; a label adds none
unfoldable pub stmts_with : List RawBody → List Label → BodyKind → ℕ → RawItem → List Stmt → Result (List Stmt) Refusal
stmts_with bodies labels kind number (items.Label name) front = Ok front
stmts_with bodies labels kind number (items.Stmt stmt) front =
    at_line number (stmt_by bodies labels kind stmt.head stmt.pieces) >>= λ found. Ok (front ++ found ∷ [])

-- the statements of the lines of a body, behind those that are there already
unfoldable pub stmts_from : List RawBody → List Label → BodyKind → List ℕ → List RawItem → List Stmt → Result (List Stmt) Refusal
stmts_from bodies labels kind numbers [] front = Ok front
stmts_from bodies labels kind numbers (item ∷ rest) front =
    stmts_with bodies labels kind (first_number numbers) item front
    >>= λ next. stmts_from bodies labels kind (drop 1 numbers) rest next

-- a body; the numbers begin at its first line
unfoldable pub body_of : List RawBody → List ℕ → RawBody → Result Body Refusal
body_of bodies numbers body = do
  found ← stmts_from bodies (labels_of body.items) body.kind (drop 1 numbers) body.items []
  Ok (record { name = body.name; kind = body.kind; labels = labels_of body.items; stmts = found })

-- the numbers behind a body: it has a first line and a last one
unfoldable pub behind_body : RawBody → List ℕ → List ℕ
behind_body body numbers = drop 1 (drop (length body.items) (drop 1 numbers))

unfoldable pub bodies_with : List RawBody → List ℕ → RawBody → List Body → Result (List Body) Refusal
bodies_with bodies numbers body front = do
  found ← body_of bodies numbers body
  Ok (front ++ found ∷ [])

-- bodies, behind those that are there already
unfoldable pub bodies_from : List RawBody → List ℕ → List RawBody → List Body → Result (List Body) Refusal
bodies_from bodies numbers [] front = Ok front
bodies_from bodies numbers (body ∷ rest) front =
    bodies_with bodies numbers body front >>= λ next. bodies_from bodies (behind_body body numbers) rest next

abbrev pub pace_count : Option ℕ → ℕ
pace_count None = 0
pace_count (Some pace) = 1

-- the numbers from the boot line on
unfoldable pub boot_numbers : RawScript → List ℕ
boot_numbers raw = drop (length raw.irqs) (drop (pace_count raw.pace) (drop (length raw.devices) raw.lines))

-- the body of the task at the start
unfoldable pub boot_of : RawScript → Result ℕ Refusal
boot_of raw = at_line (first_number (boot_numbers raw)) (body_number raw.bodies Task raw.boot.body)

-- a body whose lines are no more than a number of 32 bits counts; each body of a text is
abbrev pub IsShort : RawBody → Type 0
IsShort body = length body.items < 2 ^ 32

abbrev pub AreShort : List RawBody → Type 0
AreShort bodies = AllByRecursion IsShort bodies

-- the script that a script is whose names are looked up, or the first line with a name that stands for nothing
unfoldable pub resolved : RawScript → Result Script Refusal
resolved raw = do
  boot ← boot_of raw
  bodies ← bodies_from raw.bodies (drop 1 (boot_numbers raw)) raw.bodies []
  Ok (record { devices = raw.devices; pace = raw.pace; irqs = raw.irqs; boot = record { body = boot; priority = raw.boot.priority }; bodies = bodies })
