-- The texts of trace lines: words with one space between them.
use Rattle.std.specs.Prelude.{ℕ, List, [], ◌∷◌, ◌++◌, ℤ, pos, negsuc, Option, Some, None, codes, decimal, map, take}
use Rattle.std.specs.Fmt.{signed_decimal}
use Rattle.tk_types.specs.declared.answer.Answer.{Answer}
use Rattle.tk_types.specs.declared.error_code.Er.{Er}
use Rattle.tk_types.specs.declared.line.Line.{Line}
use Rattle.tk_types.specs.declared.line.Line.TheVariants as lines
use Rattle.tk_types.specs.declared.line.HandlerKind.{HandlerKind}
use Rattle.tk_types.specs.declared.line.HandlerKind.TheVariants as handlers
use Rattle.tk_types.specs.declared.line.LineEnding.{LineEnding}
use Rattle.tk_types.specs.declared.line.LineEnding.TheVariants as endings
use Rattle.tk_types.specs.declared.line.Hook.{Hook}
use Rattle.tk_types.specs.declared.line.Hook.TheVariants as hooks
use Rattle.tk_types.specs.declared.line.LastLine.{LastLine}
use Rattle.tk_types.specs.declared.line.LastLine.TheVariants as lasts
use Rattle.tk_types.specs.CallNames.{text_of}
use Rattle.tk_types.specs.Codes.{coded, error_text}

-- the error code that a value is: where it is negative and the table has it
abbrev pub error_of : ℤ → Option Er
error_of (pos n) = None
error_of (negsuc n) = coded (negsuc n)

abbrev pub named_value : Option Er → ℤ → List ℕ
named_value (Some error) value = error_text error
named_value None value = signed_decimal value

-- a value: the name of the error code where it is negative and the table has it, else its decimal
unfoldable pub value_text : ℤ → List ℕ
value_text value = named_value (error_of value) value

-- a value and the fields behind it
abbrev pub answer_words : Answer → List (List ℕ)
answer_words result = value_text result.value ∷ map signed_decimal (take result.used result.fields)

abbrev pub handler_text : HandlerKind → List ℕ
handler_text handlers.Interrupt = codes "int"
handler_text handlers.Cyclic = codes "cyc"
handler_text handlers.Alarm = codes "alm"

abbrev pub ending_words : LineEnding → List (List ℕ)
ending_words (endings.Done error size) = codes "done" ∷ value_text error ∷ decimal size ∷ []
ending_words (endings.Cut size) = codes "cut" ∷ decimal size ∷ []

abbrev pub hook_words : Hook → List (List ℕ)
hook_words (hooks.Service who call) = codes "svc" ∷ decimal who ∷ text_of call ∷ []
hook_words (hooks.Dispatch task) = codes "dsp" ∷ decimal task ∷ []
hook_words (hooks.Handler handler number) = codes "int" ∷ handler_text handler ∷ decimal number ∷ []

abbrev pub end_words : LastLine → List (List ℕ)
end_words lasts.Idle = codes "idle" ∷ []
end_words lasts.Halt = codes "halt" ∷ []
end_words lasts.Budget = codes "budget" ∷ []
end_words lasts.Starved = codes "starved" ∷ []
end_words (lasts.Unfit entry) = codes "unfit" ∷ decimal entry ∷ []

-- the words of a line
unfoldable pub words_of : Line → List (List ℕ)
words_of (lines.Dispatch n task) = decimal n ∷ codes "D" ∷ decimal task ∷ []
words_of (lines.Returned n who call result) = decimal n ∷ codes "C" ∷ decimal who ∷ text_of call ∷ answer_words result
words_of (lines.Blocked n task call) = decimal n ∷ codes "B" ∷ decimal task ∷ text_of call ∷ []
words_of (lines.Released n task call result) = decimal n ∷ codes "W" ∷ decimal task ∷ text_of call ∷ answer_words result
words_of (lines.Tick n time) = decimal n ∷ codes "K" ∷ decimal time ∷ []
words_of (lines.Started n handler number) = decimal n ∷ codes "I" ∷ handler_text handler ∷ decimal number ∷ []
words_of (lines.Ending n device request ending) = decimal n ∷ codes "J" ∷ decimal device ∷ decimal request ∷ ending_words ending
words_of (lines.Hook n hook) = decimal n ∷ codes "O" ∷ hook_words hook
words_of (lines.SaidName n who name) = decimal n ∷ codes "S" ∷ decimal who ∷ name ∷ []
words_of (lines.SaidNumber n who number) = decimal n ∷ codes "S" ∷ decimal who ∷ signed_decimal number ∷ []
words_of (lines.End n end) = decimal n ∷ codes "END" ∷ end_words end

-- words behind others, each with its space
abbrev pub spaced : List (List ℕ) → List ℕ
spaced [] = []
spaced (word ∷ words) = 32 ∷ (word ++ spaced words)

-- words with one space between them
abbrev pub joined : List (List ℕ) → List ℕ
joined [] = []
joined (word ∷ words) = word ++ spaced words

-- the text of a line, without a line feed
unfoldable pub text_of_line : Line → List ℕ
text_of_line line = joined (words_of line)

-- the texts of lines, each with its line feed
unfoldable pub text_of_lines : List Line → List ℕ
text_of_lines [] = []
text_of_lines (line ∷ rest) = (text_of_line line ++ 10 ∷ []) ++ text_of_lines rest
