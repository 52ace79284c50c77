-- Each byte of each word of a line lies above the space.
use Rattle.std.proofs.Common.{◌≡◌, ℕ, ◌+◌, ◌%◌, ◌<◌, ◌≤◌, ◌^◌, Bool, true, ◌&&◌, leb, ltb, suc, List, [], ◌∷◌, ◌++◌, length, take, map, decimal, refl, arith}
use Rattle.std.specs.Prelude.{ℤ, pos, negsuc, slice_index, Option, Some, None}
use Rattle.std.specs.Char.{is_ascii_lowercase}
use Rattle.std.specs.Fmt.{signed_decimal}
use Rattle.std.specs.Int.{w32}
use Rattle.std.specs.Int.RustNames.{FitsSigned}
use Rattle.std.specs.List.{All, list_all}
use Rattle.std.proofs.lemmas.Bool.{lt-ltb}
use Rattle.std.proofs.lemmas.Bool.Decides.{nat_tests}
use Rattle.std.proofs.lemmas.Fmt.{decimal_by_steps}
use Rattle.std.proofs.lemmas.List.Elements.{All-take}
use Rattle.std.proofs.lemmas.List.Folds.{list_all-append}
use Rattle.tk_types.specs.declared.answer.Answer.{Answer}
use Rattle.tk_types.specs.declared.error_code.Er.{Er}
use Rattle.tk_types.specs.declared.line.Line.{Line}
use Rattle.tk_types.specs.declared.line.Line.TheVariants as lines
use Rattle.tk_types.specs.declared.line.HandlerKind.{HandlerKind}
use Rattle.tk_types.specs.declared.line.HandlerKind.TheVariants as handlers
use Rattle.tk_types.specs.declared.line.LineEnding.{LineEnding}
use Rattle.tk_types.specs.declared.line.LineEnding.TheVariants as endings
use Rattle.tk_types.specs.declared.line.Hook.{Hook}
use Rattle.tk_types.specs.declared.line.Hook.TheVariants as hooks
use Rattle.tk_types.specs.declared.line.LastLine.{LastLine}
use Rattle.tk_types.specs.declared.line.LastLine.TheVariants as lasts
use Rattle.tk_types.specs.declared.line.Entry.{Entry}
use Rattle.tk_types.specs.declared.line.How.{How}
use Rattle.tk_types.specs.declared.line.How.TheVariants as hows
use Rattle.tk_types.specs.Names.{is_name_byte, name_at_most}
use Rattle.tk_types.proofs.CallNameLaws.{text_of_plain}
use Rattle.tk_types.proofs.ErrorLaws.{error_text_plain}
use Rattle.tk_text.proofs.Options.{both_true}
use Rattle.tk_model.specs.LineText.{value_text, named_value, error_of, answer_words, handler_text, ending_words, hook_words, end_words, words_of}
use Rattle.tk_model.specs.LineRanges.{IsAnswer, IsEnding, IsHook, IsEnd, IsLine}
use Rattle.tk_model.specs.Journal.{how_words, words_of_entry, IsHow, IsEntry}

-- a word whose bytes lie above the space, and words of that kind
abbrev pub is_plain : List ℕ → Bool
is_plain word = list_all (ltb 32) word

abbrev pub are_plain : List (List ℕ) → Bool
are_plain words = list_all is_plain words

pub both : (a b : Bool) → a ≡ true → b ≡ true → (a && b) ≡ true
both a b e f = rw (e, f) refl

-- a test that follows from another, for each element
pub weaker : (p q : ℕ → Bool) (xs : List ℕ) → ((x : ℕ) → p x ≡ true → q x ≡ true) → list_all p xs ≡ true → list_all q xs ≡ true
weaker p q [] follows all = refl
weaker p q (x ∷ xs) follows all =
    let parts = both_true (p x) (list_all p xs) all in
    both (q x) (list_all q xs) (follows x parts.0) (weaker p q xs follows parts.1)

pub decimal_plain : (n : ℕ) → n < 2 ^ 64 → is_plain (decimal n) ≡ true
decimal_plain n fits = decimal_by_steps (λ (m : ℕ) (ds : List ℕ). is_plain ds ≡ true) one more n fits
  where
    one : (m : ℕ) → m < 10 → is_plain ((48 + m) ∷ []) ≡ true
    one m h = let above : 32 < 48 + m = omega arith in rw (lt-ltb 32 (48 + m) above) refl

    more : (m : ℕ) (ds : List ℕ) → 10 ≤ m → is_plain ds ≡ true → is_plain (ds ++ ((48 + m % 10) ∷ [])) ≡ true
    more m ds h plain = let above : 32 < 48 + m % 10 = omega arith in rw (list_all-append, plain, lt-ltb 32 (48 + m % 10) above) refl

pub signed_plain : (z : ℤ) → FitsSigned w32 z → is_plain (signed_decimal z) ≡ true
signed_plain (pos n) fits = decimal_plain n (omega (arith, fits.sfits))
signed_plain (negsuc n) fits = decimal_plain (suc n) (omega (arith, fits.sfits))

named_plain : (error : Option Er) (z : ℤ) → FitsSigned w32 z → is_plain (named_value error z) ≡ true
named_plain None z fits = signed_plain z fits
named_plain (Some error) z fits = error_text_plain error

pub value_plain : (z : ℤ) → FitsSigned w32 z → is_plain (value_text z) ≡ true
unfolding value_text
value_plain z fits = named_plain (error_of z) z fits

name_byte_plain : (byte : ℕ) → is_name_byte byte ≡ true → ltb 32 byte ≡ true
unfolding is_name_byte
name_byte_plain byte is = grind (arith, nat_tests)

last_of : (a b c d : Bool) → (a && (b && (c && d))) ≡ true → d ≡ true
last_of a b c d e = (both_true c d (both_true b (c && d) (both_true a (b && (c && d)) e).1).1).1

pub name_plain : (word : List ℕ) → name_at_most 16 word ≡ true → is_plain word ≡ true
unfolding name_at_most
name_plain word is =
    weaker is_name_byte (ltb 32) word name_byte_plain (last_of (leb (length word) 16) (ltb 0 (length word)) (is_ascii_lowercase (slice_index word 0)) (list_all is_name_byte word) is)

pub fields_plain : (fields : List ℤ) → All (FitsSigned w32) fields → are_plain (map signed_decimal fields) ≡ true
fields_plain [] fit = refl
fields_plain (field ∷ fields) fit =
    both (is_plain (signed_decimal field)) (are_plain (map signed_decimal fields)) (signed_plain field (fit 0 field (omega arith)))
    (fields_plain fields (λ k d lt. fit (suc k) d (omega arith)))

pub answer_plain : (result : Answer) → IsAnswer result → are_plain (answer_words result) ≡ true
answer_plain result is =
    both (is_plain (value_text result.value)) (are_plain (map signed_decimal (take result.used result.fields))) (value_plain result.value is.value)
    (fields_plain (take result.used result.fields) (All-take (FitsSigned w32) result.used result.fields is.fields))

handler_plain : (handler : HandlerKind) → is_plain (handler_text handler) ≡ true
handler_plain handlers.Interrupt = refl
handler_plain handlers.Cyclic = refl
handler_plain handlers.Alarm = refl

-- numbers of 8 and of 32 bits
small_plain : (n : ℕ) → n < 2 ^ 8 → is_plain (decimal n) ≡ true
small_plain n fits = decimal_plain n (omega arith)

word_plain : (n : ℕ) → n < 2 ^ 32 → is_plain (decimal n) ≡ true
word_plain n fits = decimal_plain n (omega arith)

ending_plain : (ending : LineEnding) → IsEnding ending → are_plain (ending_words ending) ≡ true
ending_plain (endings.Done error size) is = rw (value_plain error is.0, word_plain size is.1) refl
ending_plain (endings.Cut size) is = rw (word_plain size is) refl

hook_plain : (hook : Hook) → IsHook hook → are_plain (hook_words hook) ≡ true
hook_plain (hooks.Service who call) is = rw (small_plain who is, text_of_plain call) refl
hook_plain (hooks.Dispatch task) is = rw (small_plain task is) refl
hook_plain (hooks.Handler handler number) is = rw (handler_plain handler, small_plain number is) refl

end_plain : (end : LastLine) → IsEnd end → are_plain (end_words end) ≡ true
end_plain lasts.Idle is = refl
end_plain lasts.Halt is = refl
end_plain lasts.Budget is = refl
end_plain lasts.Starved is = refl
end_plain (lasts.Unfit entry) is = rw (word_plain entry is) refl

pub words_plain : (line : Line) → IsLine line → are_plain (words_of line) ≡ true
unfolding words_of
words_plain (lines.Dispatch n task) is = rw (word_plain n is.0, small_plain task is.1) refl
words_plain (lines.Returned n who call result) is = rw (word_plain n is.0, small_plain who is.1, text_of_plain call) (answer_plain result is.2)
words_plain (lines.Blocked n task call) is = rw (word_plain n is.0, small_plain task is.1, text_of_plain call) refl
words_plain (lines.Released n task call result) is = rw (word_plain n is.0, small_plain task is.1, text_of_plain call) (answer_plain result is.2)
words_plain (lines.Tick n time) is = rw (word_plain n is.0, decimal_plain time is.1) refl
words_plain (lines.Started n handler number) is = rw (word_plain n is.0, handler_plain handler, small_plain number is.1) refl
words_plain (lines.Ending n device request ending) is = rw (word_plain n is.0, small_plain device is.1, small_plain request is.2) (ending_plain ending is.3)
words_plain (lines.Hook n hook) is = rw (word_plain n is.0) (hook_plain hook is.1)
words_plain (lines.SaidName n who name) is = rw (word_plain n is.0, small_plain who is.1, name_plain name is.2) refl
words_plain (lines.SaidNumber n who number) is = rw (word_plain n is.0, small_plain who is.1, signed_plain number is.2) refl
words_plain (lines.End n end) is = rw (word_plain n is.0) (end_plain end is.1)

how_plain : (how : How) → IsHow how → are_plain (how_words how) ≡ true
how_plain hows.Done is = refl
how_plain (hows.Cut size) is = rw (word_plain size is) refl

pub entry_plain : (entry : Entry) → IsEntry entry → are_plain (words_of_entry entry) ≡ true
unfolding words_of_entry
entry_plain entry is = rw (word_plain entry.place is.0, small_plain entry.device is.1, small_plain entry.request is.2) (how_plain entry.how is.3)
