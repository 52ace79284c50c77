-- What words spell: the first two say which line it is, and each of the others is read by itself. A text is not compared
-- with these words before its line is printed again.
use Rattle.std.specs.Prelude.{ℕ, ◌^◌, ℤ, nat_lt, if◌then◌else◌, List, [], ◌∷◌, ◌++◌, length, drop, Option, Some, None, option_and_then, option_map, codes}
use Rattle.std.specs.Str.{bytes_eq}
use Rattle.tk_types.specs.declared.answer.Answer.{Answer}
use Rattle.tk_types.specs.declared.error_code.Er.{Er}
use Rattle.tk_types.specs.declared.line.Line.{Line}
use Rattle.tk_types.specs.declared.line.Line.TheVariants as lines
use Rattle.tk_types.specs.declared.line.HandlerKind.{HandlerKind}
use Rattle.tk_types.specs.declared.line.HandlerKind.TheVariants as handlers
use Rattle.tk_types.specs.declared.line.LineEnding.{LineEnding}
use Rattle.tk_types.specs.declared.line.LineEnding.TheVariants as endings
use Rattle.tk_types.specs.declared.line.Hook.{Hook}
use Rattle.tk_types.specs.declared.line.Hook.TheVariants as hooks
use Rattle.tk_types.specs.declared.line.LastLine.{LastLine}
use Rattle.tk_types.specs.declared.line.LastLine.TheVariants as lasts
use Rattle.tk_types.specs.CallNames.{named}
use Rattle.tk_types.specs.Codes.{code_of, error_named}
use Rattle.tk_types.specs.Names.{name_at_most}
use Rattle.tk_model.specs.Decimals.{natural_at, number_at}
use Rattle.tk_model.specs.LineRanges.{no_fields}

-- one word after another, where each may spell nothing
infixl 10 ◌>>=◌
abbrev pub ◌>>=◌ : {A B : Type 0} → Option A → (A → Option B) → Option B
value >>= next = option_and_then next value

abbrev pub below : ℕ → Option ℕ → Option ℕ
below limit None = None
below limit (Some n) = if nat_lt n limit then Some n else None

-- the number of 8 bits, and of 32 bits, that a word spells
unfoldable pub u8_at : List ℕ → Option ℕ
u8_at word = below (2 ^ 8) (natural_at word)

unfoldable pub u32_at : List ℕ → Option ℕ
u32_at word = below (2 ^ 32) (natural_at word)

abbrev pub number_or : Option ℤ → Option Er → Option ℤ
number_or (Some number) error = Some number
number_or None error = option_map code_of error

-- the value that a word spells: a number, or the name of an error code
unfoldable pub value_at : List ℕ → Option ℤ
value_at word = number_or (number_at word) (error_named word)

-- the numbers that words spell
unfoldable pub numbers_at : List (List ℕ) → Option (List ℤ)
numbers_at [] = Some []
numbers_at (word ∷ words) = do
  number ← number_at word
  numbers ← numbers_at words
  Some (number ∷ numbers)

-- numbers behind those that were read before
abbrev pub with_front : List ℤ → Option (List ℤ) → Option (List ℤ)
with_front front numbers = option_map (λ rest. front ++ rest) numbers

-- fields, and 0 in the places behind them
abbrev pub padded : List ℤ → List ℤ
padded fields = fields ++ drop (length fields) no_fields

-- the five places of the fields that words spell
unfoldable pub fields_at : List (List ℕ) → Option (List ℤ)
fields_at words = if nat_lt 5 (length words) then None else option_map padded (numbers_at words)

-- the answer that words spell: a value, and the fields behind it
unfoldable pub answer_at : List (List ℕ) → Option Answer
answer_at [] = None
answer_at (word ∷ words) = do
  value ← value_at word
  fields ← fields_at words
  Some (record { value = value; fields = fields; used = length words })

unfoldable pub handler_at : List ℕ → Option HandlerKind
handler_at word =
    if bytes_eq word (codes "int") then Some handlers.Interrupt
    else if bytes_eq word (codes "cyc") then Some handlers.Cyclic
    else if bytes_eq word (codes "alm") then Some handlers.Alarm
    else None

unfoldable pub done_at : List (List ℕ) → Option LineEnding
done_at (value ∷ size ∷ []) = do
  error ← value_at value
  size ← u32_at size
  Some (endings.Done error size)
done_at _ = None

unfoldable pub cut_at : List (List ℕ) → Option LineEnding
cut_at (size ∷ []) = do
  size ← u32_at size
  Some (endings.Cut size)
cut_at _ = None

unfoldable pub ending_at : List ℕ → List (List ℕ) → Option LineEnding
ending_at word words =
    if bytes_eq word (codes "done") then done_at words
    else if bytes_eq word (codes "cut") then cut_at words
    else None

unfoldable pub service_at : List (List ℕ) → Option Hook
service_at (who ∷ call ∷ []) = do
  who ← u8_at who
  call ← named call
  Some (hooks.Service who call)
service_at _ = None

unfoldable pub switch_at : List (List ℕ) → Option Hook
switch_at (task ∷ []) = do
  task ← u8_at task
  Some (hooks.Dispatch task)
switch_at _ = None

unfoldable pub start_at : List (List ℕ) → Option Hook
start_at (handler ∷ number ∷ []) = do
  handler ← handler_at handler
  number ← u8_at number
  Some (hooks.Handler handler number)
start_at _ = None

unfoldable pub hook_at : List ℕ → List (List ℕ) → Option Hook
hook_at word words =
    if bytes_eq word (codes "svc") then service_at words
    else if bytes_eq word (codes "dsp") then switch_at words
    else if bytes_eq word (codes "int") then start_at words
    else None

unfoldable pub unfit_at : List (List ℕ) → Option LastLine
unfit_at (entry ∷ []) = do
  entry ← u32_at entry
  Some (lasts.Unfit entry)
unfit_at _ = None

-- an ending that is a word alone
unfoldable pub plain_end_at : List ℕ → Option LastLine
plain_end_at word =
    if bytes_eq word (codes "idle") then Some lasts.Idle
    else if bytes_eq word (codes "halt") then Some lasts.Halt
    else if bytes_eq word (codes "budget") then Some lasts.Budget
    else if bytes_eq word (codes "starved") then Some lasts.Starved
    else None

abbrev pub alone : {A : Type 0} → Option A → List (List ℕ) → Option A
alone value [] = value
alone value (word ∷ words) = None

unfoldable pub end_at : List ℕ → List (List ℕ) → Option LastLine
end_at word words =
    if bytes_eq word (codes "unfit") then unfit_at words
    else alone (plain_end_at word) words

-- the lines, by their tags
unfoldable pub dispatch_line_at : ℕ → List (List ℕ) → Option Line
dispatch_line_at step (task ∷ []) = do
  task ← u8_at task
  Some (lines.Dispatch step task)
dispatch_line_at step _ = None

unfoldable pub returned_line_at : ℕ → List (List ℕ) → Option Line
returned_line_at step (who ∷ call ∷ words) = do
  who ← u8_at who
  call ← named call
  result ← answer_at words
  Some (lines.Returned step who call result)
returned_line_at step _ = None

unfoldable pub blocked_line_at : ℕ → List (List ℕ) → Option Line
blocked_line_at step (task ∷ call ∷ []) = do
  task ← u8_at task
  call ← named call
  Some (lines.Blocked step task call)
blocked_line_at step _ = None

unfoldable pub released_line_at : ℕ → List (List ℕ) → Option Line
released_line_at step (task ∷ call ∷ words) = do
  task ← u8_at task
  call ← named call
  result ← answer_at words
  Some (lines.Released step task call result)
released_line_at step _ = None

unfoldable pub tick_line_at : ℕ → List (List ℕ) → Option Line
tick_line_at step (time ∷ []) = do
  time ← natural_at time
  Some (lines.Tick step time)
tick_line_at step _ = None

unfoldable pub started_line_at : ℕ → List (List ℕ) → Option Line
started_line_at step (handler ∷ number ∷ []) = do
  handler ← handler_at handler
  number ← u8_at number
  Some (lines.Started step handler number)
started_line_at step _ = None

unfoldable pub ending_line_at : ℕ → List (List ℕ) → Option Line
ending_line_at step (device ∷ request ∷ word ∷ words) = do
  device ← u8_at device
  request ← u8_at request
  ending ← ending_at word words
  Some (lines.Ending step device request ending)
ending_line_at step _ = None

unfoldable pub hook_line_at : ℕ → List (List ℕ) → Option Line
hook_line_at step (word ∷ words) = do
  hook ← hook_at word words
  Some (lines.Hook step hook)
hook_line_at step _ = None

abbrev pub said_line : ℕ → ℕ → Option (List ℕ) → Option ℤ → Option Line
said_line step who (Some name) number = Some (lines.SaidName step who name)
said_line step who None number = option_map (λ number. lines.SaidNumber step who number) number

-- what was said is a name or a number
unfoldable pub said_at : ℕ → ℕ → List ℕ → Option Line
said_at step who word = said_line step who (if name_at_most 16 word then Some word else None) (number_at word)

unfoldable pub said_line_at : ℕ → List (List ℕ) → Option Line
said_line_at step (who ∷ word ∷ []) = do
  who ← u8_at who
  said_at step who word
said_line_at step _ = None

unfoldable pub end_line_at : ℕ → List (List ℕ) → Option Line
end_line_at step (word ∷ words) = do
  end ← end_at word words
  Some (lines.End step end)
end_line_at step _ = None

unfoldable pub line_of_tag : ℕ → List ℕ → List (List ℕ) → Option Line
line_of_tag step tag words =
    if bytes_eq tag (codes "D") then dispatch_line_at step words
    else if bytes_eq tag (codes "C") then returned_line_at step words
    else if bytes_eq tag (codes "B") then blocked_line_at step words
    else if bytes_eq tag (codes "W") then released_line_at step words
    else if bytes_eq tag (codes "K") then tick_line_at step words
    else if bytes_eq tag (codes "I") then started_line_at step words
    else if bytes_eq tag (codes "J") then ending_line_at step words
    else if bytes_eq tag (codes "O") then hook_line_at step words
    else if bytes_eq tag (codes "S") then said_line_at step words
    else if bytes_eq tag (codes "END") then end_line_at step words
    else None

-- the line that words spell
unfoldable pub line_at : List (List ℕ) → Option Line
line_at (step ∷ tag ∷ words) = do
  step ← u32_at step
  line_of_tag step tag words
line_at _ = None
