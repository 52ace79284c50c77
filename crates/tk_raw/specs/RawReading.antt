-- How a text is read line by line, as a script whose names aren't resolved yet, or as the first line that is wrong.
use Rattle.std.specs.Prelude.{ℕ, ◌+◌, ◌-◌, Bool, false, not, nat_lt, ◌==◌, ◌&&◌, if◌then◌else◌, List, [], ◌∷◌, ◌++◌, length, Option, Some, None, Result, Ok, Err, codes, slice_get}
use Rattle.std.specs.List.{list_any}
use Rattle.std.specs.Option.{is_some}
use Rattle.std.specs.Str.{bytes_eq}
use Rattle.tk_types.specs.declared.script.BodyKind.{BodyKind}
use Rattle.tk_types.specs.declared.script.BodyKind.TheVariants.{Task, Hand, Svc}
use Rattle.tk_types.specs.declared.script.Device.{Device}
use Rattle.tk_types.specs.declared.script.Interrupt.{Interrupt}
use Rattle.tk_types.specs.declared.script.Kind.{Kind}
use Rattle.tk_types.specs.declared.script.Kind.TheVariants as units
use Rattle.tk_types.specs.declared.why.Why.{Why}
use Rattle.tk_types.specs.declared.why.Why.TheVariants as whys
use Rattle.tk_model.specs.Words.{words_of, line_fault}
use Rattle.tk_raw.specs.Lines.{text_lines, begins_note}
use Rattle.tk_raw.specs.Pieces.{◌>>=◌, name_at, short_name_at, number_between, raw_stmt_at}
use Rattle.tk_raw.specs.declared.builder.Builder.{Builder}
use Rattle.tk_raw.specs.declared.builder.Reached.{Reached}
use Rattle.tk_raw.specs.declared.builder.UnitWord.{UnitWord}
use Rattle.tk_raw.specs.declared.builder.UnitWord.TheVariants as words
use Rattle.tk_raw.specs.declared.raw.RawBody.{RawBody}
use Rattle.tk_raw.specs.declared.raw.RawBoot.{RawBoot}
use Rattle.tk_raw.specs.declared.raw.RawItem.{RawItem}
use Rattle.tk_raw.specs.declared.raw.RawItem.TheVariants as items
use Rattle.tk_raw.specs.declared.raw.RawScript.{RawScript}

-- a line, counted from 1, and what is wrong with it; line 0 is the text as a whole
abbrev pub Refusal : Type 0
Refusal = ℕ × Why

-- a name that none of those before has
abbrev pub new_name : Bool → List ℕ → Result (List ℕ) Why
new_name taken name = if taken then Err whys.Name else Ok name

-- whether a device, a body, a label of a body has that name
unfoldable pub device_taken : List Device → List ℕ → Bool
device_taken devices word = list_any (λ (device : Device). bytes_eq device.name word) devices

unfoldable pub body_taken : List RawBody → List ℕ → Bool
body_taken bodies word = list_any (λ (body : RawBody). bytes_eq body.name word) bodies

unfoldable pub is_label : List ℕ → RawItem → Bool
is_label word (items.Label name) = bytes_eq name word
is_label word (items.Stmt stmt) = false

unfoldable pub label_taken : List RawItem → List ℕ → Bool
label_taken lines word = list_any (is_label word) lines

-- the kind of a device's unit that a word spells
unfoldable pub unit_named : List ℕ → Result UnitWord Why
unit_named word =
    if bytes_eq word (codes "ram") then Ok words.Ram
    else if bytes_eq word (codes "log") then Ok words.Log
    else if bytes_eq word (codes "flaky") then Ok words.Flaky
    else if bytes_eq word (codes "slow") then Ok words.Slow
    else Err whys.Name

-- how many numbers stand behind it
unfoldable pub unit_count : UnitWord → ℕ
unit_count words.Ram = 1
unit_count words.Log = 0
unit_count words.Flaky = 2
unit_count words.Slow = 2

unfoldable pub ram_at : List ℕ → Result Kind Why
ram_at size = do
  size ← number_between 1 65536 size
  Ok (units.Ram size)

unfoldable pub flaky_at : List ℕ → List ℕ → Result Kind Why
flaky_at size fails = do
  size ← number_between 1 65536 size
  fails ← number_between 1 1000 fails
  Ok (units.Flaky size fails)

unfoldable pub slow_at : List ℕ → List ℕ → Result Kind Why
slow_at size turns = do
  size ← number_between 1 65536 size
  turns ← number_between 0 1000 turns
  Ok (units.Slow size turns)

-- the unit of a kind with its numbers
unfoldable pub unit_at : UnitWord → List (List ℕ) → Result Kind Why
unit_at words.Ram (size ∷ []) = ram_at size
unit_at words.Log [] = Ok units.Log
unit_at words.Flaky (size ∷ fails ∷ []) = flaky_at size fails
unit_at words.Slow (size ∷ turns ∷ []) = slow_at size turns
unit_at _ _ = Err whys.Count

unfoldable pub new_device_name : List Device → List ℕ → Result (List ℕ) Why
new_device_name devices word = do
  name ← short_name_at word
  new_name (device_taken devices word) name

-- a device: the kind of its unit, the number of words, its name, the numbers of the unit
unfoldable pub device_from : List Device → List ℕ → UnitWord → List (List ℕ) → Result Device Why
device_from devices word unit numbers =
    if length numbers == unit_count unit then
    (new_device_name devices word >>= λ name. unit_at unit numbers >>= λ kind. Ok (record { name = name; kind = kind }))
    else Err whys.Count

unfoldable pub device_at : List Device → List (List ℕ) → Result Device Why
device_at devices (name ∷ kind ∷ numbers) = do
  unit ← unit_named kind
  device_from devices name unit numbers
device_at devices _ = Err whys.Count

unfoldable pub pace_at : List (List ℕ) → Result ℕ Why
pace_at (word ∷ []) = number_between 1 1000000 word
pace_at _ = Err whys.Count

-- the least step that the next interrupt may have: that of the last one
abbrev pub step_or_one : Option Interrupt → ℕ
step_or_one None = 1
step_or_one (Some irq) = irq.step

unfoldable pub least_step : List Interrupt → ℕ
least_step irqs = step_or_one (slice_get irqs (length irqs - 1))

unfoldable pub irq_from : ℕ → List ℕ → List ℕ → Result Interrupt Why
irq_from least step number = do
  step ← number_between least 1000000 step
  number ← number_between 1 255 number
  Ok (record { step = step; number = number })

unfoldable pub irq_at : List Interrupt → List (List ℕ) → Result Interrupt Why
irq_at irqs (step ∷ number ∷ []) = irq_from (least_step irqs) step number
irq_at irqs _ = Err whys.Count

unfoldable pub boot_from : List ℕ → List ℕ → Result RawBoot Why
boot_from name priority = do
  name ← name_at name
  priority ← number_between 1 140 priority
  Ok (record { body = name; priority = priority })

unfoldable pub boot_at : List (List ℕ) → Result RawBoot Why
boot_at (name ∷ priority ∷ []) = boot_from name priority
boot_at _ = Err whys.Count

unfoldable pub kind_named : List ℕ → Result BodyKind Why
kind_named word =
    if bytes_eq word (codes "task") then Ok Task
    else if bytes_eq word (codes "hand") then Ok Hand
    else if bytes_eq word (codes "svc") then Ok Svc
    else Err whys.Name

unfoldable pub new_body_name : List RawBody → List ℕ → Result (List ℕ) Why
new_body_name bodies word = do
  name ← name_at word
  new_name (body_taken bodies word) name

unfoldable pub body_from : List RawBody → List ℕ → List ℕ → Result RawBody Why
body_from bodies name kind = do
  name ← new_body_name bodies name
  kind ← kind_named kind
  Ok (record { name = name; kind = kind; items = [] })

unfoldable pub body_at : List RawBody → List (List ℕ) → Result RawBody Why
body_at bodies (name ∷ kind ∷ []) = body_from bodies name kind
body_at bodies _ = Err whys.Count

-- whether a line that begins so may stand next
unfoldable pub takes_device : Builder → Bool
takes_device builder = not (is_some builder.boot) && (not (is_some builder.pace) && (length builder.irqs == 0 && nat_lt (length builder.devices) 8))

unfoldable pub takes_pace : Builder → Bool
takes_pace builder = not (is_some builder.boot) && (not (is_some builder.pace) && length builder.irqs == 0)

unfoldable pub takes_irq : Builder → Bool
takes_irq builder = not (is_some builder.boot) && nat_lt (length builder.irqs) 1024

unfoldable pub takes_boot : Builder → Bool
takes_boot builder = not (is_some builder.boot)

unfoldable pub takes_body : Builder → Bool
takes_body builder = is_some builder.boot && nat_lt (length builder.bodies) 255

unfoldable pub device_line : Builder → List (List ℕ) → Result Builder Why
device_line builder words =
    if takes_device builder then
    (device_at builder.devices words >>= λ device. Ok (record builder { devices = builder.devices ++ device ∷ [] }))
    else Err whys.Order

unfoldable pub pace_line : Builder → List (List ℕ) → Result Builder Why
pace_line builder words =
    if takes_pace builder then (pace_at words >>= λ pace. Ok (record builder { pace = Some pace })) else Err whys.Order

unfoldable pub irq_line : Builder → List (List ℕ) → Result Builder Why
irq_line builder words =
    if takes_irq builder then
    (irq_at builder.irqs words >>= λ irq. Ok (record builder { irqs = builder.irqs ++ irq ∷ [] }))
    else Err whys.Order

unfoldable pub boot_line : Builder → List (List ℕ) → Result Builder Why
boot_line builder words =
    if takes_boot builder then (boot_at words >>= λ boot. Ok (record builder { boot = Some boot })) else Err whys.Order

unfoldable pub body_line : Builder → List (List ℕ) → Result Builder Why
body_line builder words =
    if takes_body builder then (body_at builder.bodies words >>= λ body. Ok (record builder { current = Some body })) else Err whys.Order

-- a line outside the bodies
unfoldable pub outside : Builder → List ℕ → List (List ℕ) → Result Builder Why
outside builder first words =
    if bytes_eq first (codes "device") then device_line builder words
    else if bytes_eq first (codes "pace") then pace_line builder words
    else if bytes_eq first (codes "irq") then irq_line builder words
    else if bytes_eq first (codes "boot") then boot_line builder words
    else if bytes_eq first (codes "body") then body_line builder words
    else Err whys.Order

-- a body with one more line
abbrev pub with_item : RawBody → RawItem → RawBody
with_item body item = record body { items = body.items ++ item ∷ [] }

unfoldable pub new_label : List RawItem → List ℕ → Result (List ℕ) Why
new_label lines word = do
  name ← name_at word
  new_name (label_taken lines word) name

unfoldable pub label_at : List RawItem → List (List ℕ) → Result (List ℕ) Why
label_at lines (word ∷ []) = new_label lines word
label_at lines _ = Err whys.Count

unfoldable pub end_line : Builder → RawBody → List (List ℕ) → Result Builder Why
end_line builder body [] = Ok (record builder { bodies = builder.bodies ++ body ∷ []; current = None })
end_line builder body (word ∷ words) = Err whys.Count

unfoldable pub label_line : Builder → RawBody → List (List ℕ) → Result Builder Why
label_line builder body words = do
  name ← label_at body.items words
  Ok (record builder { current = Some (with_item body (items.Label name)) })

unfoldable pub stmt_line : Builder → RawBody → List ℕ → List (List ℕ) → Result Builder Why
stmt_line builder body first words = do
  stmt ← raw_stmt_at first words
  Ok (record builder { current = Some (with_item body (items.Stmt stmt)) })

-- a line inside a body
unfoldable pub inside : Builder → RawBody → List ℕ → List (List ℕ) → Result Builder Why
inside builder body first words =
    if bytes_eq first (codes "end") then end_line builder body words
    else if bytes_eq first (codes "label") then label_line builder body words
    else stmt_line builder body first words

abbrev pub step_in : Option RawBody → Builder → List ℕ → List (List ℕ) → Result Builder Why
step_in None builder first words = outside builder first words
step_in (Some body) builder first words = inside builder body first words

-- what was read without the body that isn't at its end
abbrev pub without_current : Builder → Builder
without_current builder = record builder { current = None }

-- a line with words
unfoldable pub step : Builder → List ℕ → List (List ℕ) → Result Builder Why
step builder first words = step_in builder.current (without_current builder) first words

-- a line that is skipped, or one that counts
unfoldable pub words_line : ℕ → Reached → List (List ℕ) → Result Reached Why
words_line number reached [] = Ok reached
words_line number reached (first ∷ words) =
    if begins_note first then Ok reached
    else (step reached.builder first words >>= λ next. Ok (record { builder = next; lines = reached.lines ++ number ∷ [] }))

abbrev pub clean : {A : Type 0} → Option Why → Result A Why → Result A Why
clean None next = next
clean (Some why) next = Err why

-- one line: its bytes, and then its words
unfoldable pub read_line : ℕ → Reached → List ℕ → Result Reached Why
read_line number reached line = clean (line_fault line) (words_line number reached (words_of line))

unfoldable pub is_head : List (List ℕ) → Bool
is_head (utk ∷ one ∷ []) = bytes_eq utk (codes "utk") && bytes_eq one (codes "1")
is_head _ = false

abbrev pub nothing : Builder
nothing = record { devices = []; pace = None; irqs = []; boot = None; bodies = []; current = None }

abbrev pub no_lines : Reached
no_lines = record { builder = nothing; lines = [] }

-- line 1
unfoldable pub head_line : List ℕ → Result Reached Why
head_line line = clean (line_fault line) (if is_head (words_of line) then Ok no_lines else Err whys.Head)

abbrev pub script_of : Builder → RawBoot → List ℕ → RawScript
script_of builder boot lines = record { devices = builder.devices; pace = builder.pace; irqs = builder.irqs; boot = boot; bodies = builder.bodies; lines = lines }

abbrev pub script_with : Option RawBoot → Builder → List ℕ → Result RawScript Why
script_with None builder lines = Err whys.End
script_with (Some boot) builder lines = if length builder.bodies == 0 then Err whys.End else Ok (script_of builder boot lines)

-- the end of the text: no body is open, and there is a boot line and a body
unfoldable pub ended : Reached → Result RawScript Why
ended reached =
    if is_some reached.builder.current then Err whys.End else script_with reached.builder.boot reached.builder reached.lines

-- what is read behind a line with that number
abbrev pub then_read : {A : Type 0} → ℕ → Result A Why → (A → Result RawScript Refusal) → Result RawScript Refusal
then_read number (Ok read) next = next read
then_read number (Err why) next = Err (number, why)

-- the lines behind line 1, of which the first has that number, and then the end
unfoldable pub read_lines : ℕ → Reached → List (List ℕ) → Result RawScript Refusal
read_lines number reached [] = then_read number (ended reached) Ok
read_lines number reached (line ∷ lines) = then_read number (read_line number reached line) (λ next. read_lines (number + 1) next lines)

unfoldable pub read_all : List (List ℕ) → Result RawScript Refusal
read_all [] = Err (1, whys.Head)
read_all (line ∷ lines) = then_read 1 (head_line line) (λ reached. read_lines 2 reached lines)

-- the script that a text is, or the first line that is wrong
unfoldable pub raw_reading : List ℕ → Result RawScript Refusal
raw_reading text = if nat_lt 1048576 (length text) then Err (0, whys.Long) else read_all (text_lines text)
