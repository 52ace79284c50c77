-- What is printed is read as what was printed.
use Rattle.std.proofs.Common.{◌≡◌, ℕ, ◌+◌, ◌<◌, ◌≤◌, ◌^◌, Bool, true, false, ◌&&◌, leb, ltb, suc, ◌%◌, lit<, List, [], ◌∷◌, ◌++◌, length, take, drop, map, decimal, refl, arith}
use Rattle.std.specs.Prelude.{ℤ, pos, negsuc, Option, Some, None}
use Rattle.std.specs.Char.{is_ascii_lowercase}
use Rattle.std.specs.Fmt.{signed_decimal, digits}
use Rattle.std.specs.Int.{w32}
use Rattle.std.specs.Int.RustNames.{FitsSigned}
use Rattle.std.specs.List.{All, list_all}
use Rattle.std.proofs.lemmas.Bool.{lt-ltb, le-ltb}
use Rattle.std.proofs.lemmas.Bool.Decides.{nat_tests}
use Rattle.std.proofs.lemmas.Fmt.{decimal_by_steps}
use Rattle.std.proofs.lemmas.List.{length-map, length-take-le, take-append-drop}
use Rattle.std.proofs.lemmas.List.Elements.{All-take}
use Rattle.tk_types.specs.declared.answer.Answer.{Answer}
use Rattle.tk_types.specs.declared.error_code.Er.{Er}
use Rattle.tk_types.specs.declared.error_code.Er.TheVariants.{Par}
use Rattle.tk_types.specs.declared.line.Line.{Line}
use Rattle.tk_types.specs.declared.line.Line.TheVariants as lines
use Rattle.tk_types.specs.declared.line.HandlerKind.{HandlerKind}
use Rattle.tk_types.specs.declared.line.HandlerKind.TheVariants as handlers
use Rattle.tk_types.specs.declared.line.LineEnding.TheVariants as endings
use Rattle.tk_types.specs.declared.line.Hook.TheVariants as hooks
use Rattle.tk_types.specs.declared.line.LastLine.TheVariants as lasts
use Rattle.tk_types.specs.declared.line.Entry.{Entry}
use Rattle.tk_types.specs.declared.line.How.{How}
use Rattle.tk_types.specs.declared.line.How.TheVariants as hows
use Rattle.tk_types.specs.Codes.{coded, error_text}
use Rattle.tk_types.specs.Names.{is_name_byte, name_at_most}
use Rattle.tk_types.proofs.CallNameLaws.{named_text_of}
use Rattle.tk_types.proofs.ErrorLaws.{error_named_text, coded_code}
use Rattle.tk_model.specs.Decimals.{number_at}
use Rattle.tk_text.proofs.Decimals.{natural_at_again, number_at_again}
use Rattle.tk_model.specs.LineText.{value_text, named_value, answer_words, handler_text, words_of}
use Rattle.tk_model.specs.LineRanges.{no_fields, IsAnswer, IsLine}
use Rattle.tk_model.specs.Journal.{how_words, words_of_entry, IsHow, IsEntry}
use Rattle.tk_trace.specs.Reading.{u8_at, u32_at, value_at, numbers_at, fields_at, answer_at, handler_at, done_at, cut_at, ending_at, service_at, switch_at, start_at, hook_at, said_at, unfit_at, plain_end_at, end_at, dispatch_line_at, returned_line_at, blocked_line_at, released_line_at, tick_line_at, started_line_at, ending_line_at, hook_line_at, said_line_at, end_line_at, line_of_tag, line_at}
use Rattle.tk_trace.specs.Entries.{how_at, entry_at}

pub u8_again : (n : ℕ) → n < 2 ^ 8 → u8_at (decimal n) ≡ Some n
unfolding u8_at
u8_again n fits = let wide : n < 2 ^ 64 = omega arith in rw (natural_at_again n wide, lt-ltb n (2 ^ 8) fits) refl

pub u32_again : (n : ℕ) → n < 2 ^ 32 → u32_at (decimal n) ≡ Some n
unfolding u32_at
u32_again n fits = let wide : n < 2 ^ 64 = omega arith in rw (natural_at_again n wide, lt-ltb n (2 ^ 32) fits) refl

-- no name of an error code is a number
error_is_no_number : (error : Er) → number_at (error_text error) ≡ None
unfolding error_text number_at digits
error_is_no_number Par = refl
error_is_no_number _ = refl

coded_again : (found : Option Er) (z : ℤ) → coded z ≡ found → FitsSigned w32 z → value_at (named_value found z) ≡ Some z
unfolding value_at
coded_again None z e fits = rw (number_at_again z fits) refl
coded_again (Some error) z e fits = rw (error_is_no_number error, error_named_text error, coded_code z error e) refl

pub value_again : (z : ℤ) → FitsSigned w32 z → value_at (value_text z) ≡ Some z
unfolding value_text value_at
value_again (pos n) fits = rw (number_at_again (pos n) fits) refl
value_again (negsuc n) fits = coded_again (coded (negsuc n)) (negsuc n) refl fits

numbers_again : (fields : List ℤ) → All (FitsSigned w32) fields → numbers_at (map signed_decimal fields) ≡ Some fields
unfolding numbers_at
numbers_again [] fit = refl
numbers_again (field ∷ fields) fit =
    rw (number_at_again field (fit 0 field (omega arith)), numbers_again fields (λ k d lt. fit (suc k) d (omega arith))) refl

fields_again : (used : ℕ) (fields : List ℤ) → used ≤ 5 → length fields ≡ 5 → All (FitsSigned w32) fields → drop used fields ≡ drop used no_fields → fields_at (map signed_decimal (take used fields)) ≡ Some fields
unfolding fields_at
fields_again used fields most places fit behind =
    let within : used ≤ length fields = omega arith in
    rw (length-map, length-take-le used fields within, le-ltb 5 used most, numbers_again (take used fields) (All-take (FitsSigned w32) used fields fit), length-take-le used fields within, ← behind, take-append-drop) refl

pub answer_again : (result : Answer) → IsAnswer result → answer_at (answer_words result) ≡ Some result
unfolding answer_at
answer_again result is =
    let within : result.used ≤ length result.fields = rw is.places is.used in
    rw (value_again result.value is.value, fields_again result.used result.fields is.used is.places is.fields is.behind, length-map, length-take-le result.used result.fields within) refl

pub handler_again : (handler : HandlerKind) → handler_at (handler_text handler) ≡ Some handler
unfolding handler_at
handler_again handlers.Interrupt = refl
handler_again handlers.Cyclic = refl
handler_again handlers.Alarm = refl

-- a word that begins with a byte before the letters
abbrev StartsLow : List ℕ → Type 0
StartsLow [] = ⊥
StartsLow (byte ∷ rest) = byte < 58

decimal_starts_low : (n : ℕ) → n < 2 ^ 64 → StartsLow (decimal n)
decimal_starts_low n fits = decimal_by_steps (λ (m : ℕ) (ds : List ℕ). StartsLow ds) (λ m h. omega arith) more n fits
  where
    more : (m : ℕ) (ds : List ℕ) → 10 ≤ m → StartsLow ds → StartsLow (ds ++ ((48 + m % 10) ∷ []))
    more m [] h starts = absurd starts
    more m (byte ∷ rest) h starts = starts

starts_low : (z : ℤ) → FitsSigned w32 z → StartsLow (signed_decimal z)
starts_low (pos n) fits = decimal_starts_low n (omega (arith, fits.sfits))
starts_low (negsuc n) fits = lit< tt

before_letters : (byte : ℕ) → byte < 58 → is_ascii_lowercase byte ≡ false
before_letters byte low = let above : byte < 97 = omega arith in grind (arith, nat_tests)

third_false : (a b c d : Bool) → c ≡ false → (a && (b && (c && d))) ≡ false
third_false true true c d e = rw e refl
third_false true false c d e = refl
third_false false b c d e = refl

no_name : (word : List ℕ) → StartsLow word → name_at_most 16 word ≡ false
unfolding name_at_most
no_name [] starts = absurd starts
no_name (byte ∷ rest) starts =
    let low : is_ascii_lowercase byte ≡ false = before_letters byte starts in
    third_false (leb (length (byte ∷ rest)) 16) (ltb 0 (length (byte ∷ rest))) (is_ascii_lowercase byte) (list_all is_name_byte (byte ∷ rest)) low

-- no number is a name
number_is_no_name : (z : ℤ) → FitsSigned w32 z → name_at_most 16 (signed_decimal z) ≡ false
number_is_no_name z fits = no_name (signed_decimal z) (starts_low z fits)

pub line_again : (line : Line) → IsLine line → line_at (words_of line) ≡ Some line
unfolding line_at line_of_tag words_of dispatch_line_at returned_line_at blocked_line_at released_line_at tick_line_at started_line_at ending_line_at ending_at done_at cut_at hook_line_at hook_at service_at switch_at start_at said_line_at said_at end_line_at end_at unfit_at plain_end_at
line_again (lines.Dispatch n task) is = rw (u32_again n is.0, u8_again task is.1) refl
line_again (lines.Returned n who call result) is = rw (u32_again n is.0, u8_again who is.1, named_text_of call, answer_again result is.2) refl
line_again (lines.Blocked n task call) is = rw (u32_again n is.0, u8_again task is.1, named_text_of call) refl
line_again (lines.Released n task call result) is = rw (u32_again n is.0, u8_again task is.1, named_text_of call, answer_again result is.2) refl
line_again (lines.Tick n time) is = rw (u32_again n is.0, natural_at_again time is.1) refl
line_again (lines.Started n handler number) is = rw (u32_again n is.0, handler_again handler, u8_again number is.1) refl
line_again (lines.Ending n device request (endings.Done error size)) is =
    rw (u32_again n is.0, u8_again device is.1, u8_again request is.2, value_again error is.3.0, u32_again size is.3.1) refl
line_again (lines.Ending n device request (endings.Cut size)) is =
    rw (u32_again n is.0, u8_again device is.1, u8_again request is.2, u32_again size is.3) refl
line_again (lines.Hook n (hooks.Service who call)) is = rw (u32_again n is.0, u8_again who is.1, named_text_of call) refl
line_again (lines.Hook n (hooks.Dispatch task)) is = rw (u32_again n is.0, u8_again task is.1) refl
line_again (lines.Hook n (hooks.Handler handler number)) is = rw (u32_again n is.0, handler_again handler, u8_again number is.1) refl
line_again (lines.SaidName n who name) is = rw (u32_again n is.0, u8_again who is.1, is.2) refl
line_again (lines.SaidNumber n who number) is = rw (u32_again n is.0, u8_again who is.1, number_is_no_name number is.2, number_at_again number is.2) refl
line_again (lines.End n lasts.Idle) is = rw (u32_again n is.0) refl
line_again (lines.End n lasts.Halt) is = rw (u32_again n is.0) refl
line_again (lines.End n lasts.Budget) is = rw (u32_again n is.0) refl
line_again (lines.End n lasts.Starved) is = rw (u32_again n is.0) refl
line_again (lines.End n (lasts.Unfit entry)) is = rw (u32_again n is.0, u32_again entry is.1) refl

how_again : (how : How) → IsHow how → how_at (how_words how) ≡ Some how
unfolding how_at
how_again hows.Done is = refl
how_again (hows.Cut size) is = rw (u32_again size is) refl

pub entry_again : (entry : Entry) → IsEntry entry → entry_at (words_of_entry entry) ≡ Some entry
unfolding entry_at words_of_entry
entry_again entry is = rw (u32_again entry.place is.0, u8_again entry.device is.1, u8_again entry.request is.2, how_again entry.how is.3) refl
