-- The line that words spell is one: each number fits its type.
use Rattle.std.proofs.Common.{◌≡◌, ℕ, ◌+◌, ◌<◌, ◌≤◌, ◌^◌, Bool, true, false, cond, ltb, lit<, List, [], ◌∷◌, length, drop, codes, Option, Some, None, option_and_then, option_map, refl, subst, ◌∙◌, arith, length-append, length-drop}
use Rattle.std.specs.Prelude.{ℤ, pos, IfSome}
use Rattle.std.specs.Int.{w32}
use Rattle.std.specs.Int.RustNames.{FitsSigned}
use Rattle.std.specs.List.{All}
use Rattle.std.specs.Str.{bytes_eq}
use Rattle.std.proofs.lemmas.Bool.Decides.{nat_tests}
use Rattle.std.proofs.lemmas.List.Elements.{All-append, All-cons, All-drop, All-nil}
use Rattle.std.proofs.Math.Seq.{drop-append_seam}
use Rattle.tk_types.specs.CallNames.{named}
use Rattle.tk_types.specs.Codes.{code_of, error_named}
use Rattle.tk_types.specs.Names.{name_at_most}
use Rattle.tk_types.specs.declared.error_code.Er.{Er}
use Rattle.tk_types.specs.declared.error_code.Er.TheVariants.{Par}
use Rattle.tk_model.specs.Decimals.{fits_i32, natural_at, number_at}
use Rattle.tk_model.specs.LineRanges.{IsAnswer, IsEnd, IsEnding, IsHook, IsLine, no_fields}
use Rattle.tk_text.proofs.Decimals.{fits_i32_tells, natural_at_some, number_at_some}
use Rattle.tk_text.proofs.Options.{value_chosen}
use Rattle.tk_trace.specs.Reading.{answer_at, blocked_line_at, cut_at, dispatch_line_at, done_at, end_at, end_line_at, ending_at, ending_line_at, fields_at, handler_at, hook_at, hook_line_at, line_at, line_of_tag, number_or, numbers_at, padded, plain_end_at, released_line_at, returned_line_at, said_at, said_line, said_line_at, service_at, start_at, started_line_at, switch_at, tick_line_at, u32_at, u8_at, unfit_at, value_at}
use Rattle.tk_session.proofs.EntryLaws.{u32_fits, u8_fits}

-- ---- one word after another

fits_then : {A B : Type 0} (P : A → Type 0) (Q : B → Type 0) (next : A → Option B) (first : Option A) → IfSome first P → ((value : A) → P value → IfSome (next value) Q) → IfSome (option_and_then next first) Q
fits_then P Q next None is later = tt
fits_then P Q next (Some value) is later = later value is

if_read : {A : Type 0} (P : A → Type 0) (read : Option A) → ((value : A) → read ≡ Some value → P value) → IfSome read P
if_read P None is = tt
if_read P (Some value) is = is value refl

any_fits : {A B : Type 0} (Q : B → Type 0) (next : A → Option B) (first : Option A) → ((value : A) → IfSome (next value) Q) → IfSome (option_and_then next first) Q
any_fits Q next None later = tt
any_fits Q next (Some value) later = later value

either_fits : {A : Type 0} (P : A → Type 0) (b : Bool) (one other : Option A) → IfSome one P → IfSome other P → IfSome (cond b one other) P
either_fits P true one other is_one is_other = is_one
either_fits P false one other is_one is_other = is_other

-- ---- numbers

byte_then : {B : Type 0} (Q : B → Type 0) (next : ℕ → Option B) (word : List ℕ) → ((n : ℕ) → n < 2 ^ 8 → IfSome (next n) Q) → IfSome (option_and_then next (u8_at word)) Q
byte_then Q next word later = fits_then (λ n. n < 2 ^ 8) Q next (u8_at word) (if_read (λ n. n < 2 ^ 8) (u8_at word) (u8_fits word)) later

word_then : {B : Type 0} (Q : B → Type 0) (next : ℕ → Option B) (word : List ℕ) → ((n : ℕ) → n < 2 ^ 32 → IfSome (next n) Q) → IfSome (option_and_then next (u32_at word)) Q
word_then Q next word later = fits_then (λ n. n < 2 ^ 32) Q next (u32_at word) (if_read (λ n. n < 2 ^ 32) (u32_at word) (u32_fits word)) later

time_then : {B : Type 0} (Q : B → Type 0) (next : ℕ → Option B) (word : List ℕ) → ((n : ℕ) → n < 2 ^ 64 → IfSome (next n) Q) → IfSome (option_and_then next (natural_at word)) Q
time_then Q next word later = fits_then (λ n. n < 2 ^ 64) Q next (natural_at word) (if_read (λ n. n < 2 ^ 64) (natural_at word) (λ n e. (natural_at_some word n e).1)) later

code_small : (error : Er) → fits_i32 (code_of error) ≡ true
unfolding code_of fits_i32
code_small Par = refl
code_small _ = refl

code_fits : (error : Er) → FitsSigned w32 (code_of error)
code_fits error = (fits_i32_tells (code_of error)).0 (code_small error)

either_value : (number : Option ℤ) (error : Option Er) → ((z : ℤ) → number ≡ Some z → FitsSigned w32 z) → IfSome (number_or number error) (FitsSigned w32)
either_value (Some z) error fits = fits z refl
either_value None None fits = tt
either_value None (Some error) fits = code_fits error

value_fits : (word : List ℕ) → IfSome (value_at word) (FitsSigned w32)
unfolding value_at
value_fits word = either_value (number_at word) (error_named word) (λ z e. (number_at_some word z e).1)

-- ---- answers

abbrev AreNumbers : ℕ → List ℤ → Type 0
AreNumbers size numbers = (length numbers ≡ size) × All (FitsSigned w32) numbers

numbers_fit : (words : List (List ℕ)) → IfSome (numbers_at words) (AreNumbers (length words))
unfolding numbers_at
numbers_fit [] = (refl, All-nil (FitsSigned w32))
numbers_fit (word ∷ words) =
    fits_then (FitsSigned w32) (AreNumbers (length (word ∷ words))) _ (number_at word) (if_read (FitsSigned w32) (number_at word) (λ z e. (number_at_some word z e).1))
    (λ z fits. fits_then (AreNumbers (length words)) (AreNumbers (length (word ∷ words))) _ (numbers_at words) (numbers_fit words)
    (λ numbers are. (omega (arith, are.0), All-cons (FitsSigned w32) z numbers fits are.1)))

zero_fits : FitsSigned w32 (pos 0)
zero_fits = record { sfits = lit< tt }

zero_more : (zeros : List ℤ) → All (FitsSigned w32) zeros → All (FitsSigned w32) (pos 0 ∷ zeros)
zero_more zeros fit = All-cons (FitsSigned w32) (pos 0) zeros zero_fits fit

no_fields_fit : All (FitsSigned w32) no_fields
no_fields_fit =
    zero_more (pos 0 ∷ pos 0 ∷ pos 0 ∷ pos 0 ∷ []) (zero_more (pos 0 ∷ pos 0 ∷ pos 0 ∷ []) (zero_more (pos 0 ∷ pos 0 ∷ [])
    (zero_more (pos 0 ∷ []) (zero_more [] (All-nil (FitsSigned w32))))))

record AreFields (used : ℕ) (fields : List ℤ) : Type 0 where
  pub few : used ≤ 5
  pub places : length fields ≡ 5
  pub fit : All (FitsSigned w32) fields
  pub behind : drop used fields ≡ drop used no_fields

padded_fit : (used : ℕ) (numbers : List ℤ) → used ≤ 5 → AreNumbers used numbers → AreFields used (padded numbers)
padded_fit used numbers few are =
    let left : length (drop (length numbers) no_fields) + length numbers ≡ 5 = rw length-drop (omega (arith, few, are.0)) in
    record {
      few = few;
      places = length-append numbers (drop (length numbers) no_fields) ∙ omega (arith, left);
      fit = All-append (FitsSigned w32) numbers (drop (length numbers) no_fields) are.1 (All-drop (FitsSigned w32) (length numbers) no_fields no_fields_fit);
      behind = subst (λ (n : ℕ). drop n (padded numbers) ≡ drop n no_fields) are.0 (drop-append_seam numbers (drop (length numbers) no_fields));
    }

few_fields : (b : Bool) (used : ℕ) (read : Option (List ℤ)) → (b ≡ false → used ≤ 5) → IfSome read (AreNumbers used) → IfSome (cond b None (option_map padded read)) (AreFields used)
few_fields true used read few are = tt
few_fields false used None few are = tt
few_fields false used (Some numbers) few are = padded_fit used numbers (few refl) are

not_past : (n limit : ℕ) → ltb limit n ≡ false → n ≤ limit
not_past n limit e = grind (arith, nat_tests)

fields_fit : (words : List (List ℕ)) → IfSome (fields_at words) (AreFields (length words))
unfolding fields_at
fields_fit words = few_fields (ltb 5 (length words)) (length words) (numbers_at words) (not_past (length words) 5) (numbers_fit words)

answer_fits : (words : List (List ℕ)) → IfSome (answer_at words) IsAnswer
unfolding answer_at
answer_fits [] = tt
answer_fits (word ∷ words) =
    fits_then (FitsSigned w32) IsAnswer _ (value_at word) (value_fits word)
    (λ value fits. fits_then (AreFields (length words)) IsAnswer _ (fields_at words) (fields_fit words)
    (λ fields are. record { value = fits; used = are.few; places = are.places; fields = are.fit; behind = are.behind }))

-- ---- endings, hooks and ends

done_fits : (words : List (List ℕ)) → IfSome (done_at words) IsEnding
unfolding done_at
done_fits [] = tt
done_fits (value ∷ []) = tt
done_fits (value ∷ size ∷ []) =
    fits_then (FitsSigned w32) IsEnding _ (value_at value) (value_fits value) (λ error fits. word_then IsEnding _ size (λ n is. (fits, is)))
done_fits (value ∷ size ∷ more ∷ words) = tt

cut_fits : (words : List (List ℕ)) → IfSome (cut_at words) IsEnding
unfolding cut_at
cut_fits [] = tt
cut_fits (size ∷ []) = word_then IsEnding _ size (λ n is. is)
cut_fits (size ∷ more ∷ words) = tt

ending_fits : (word : List ℕ) (words : List (List ℕ)) → IfSome (ending_at word words) IsEnding
unfolding ending_at
ending_fits word words =
    either_fits IsEnding (bytes_eq word (codes "done")) (done_at words) _ (done_fits words)
    (either_fits IsEnding (bytes_eq word (codes "cut")) (cut_at words) None (cut_fits words) tt)

service_fits : (words : List (List ℕ)) → IfSome (service_at words) IsHook
unfolding service_at
service_fits [] = tt
service_fits (who ∷ []) = tt
service_fits (who ∷ call ∷ []) = byte_then IsHook _ who (λ n is. any_fits IsHook _ (named call) (λ name. is))
service_fits (who ∷ call ∷ more ∷ words) = tt

switch_fits : (words : List (List ℕ)) → IfSome (switch_at words) IsHook
unfolding switch_at
switch_fits [] = tt
switch_fits (task ∷ []) = byte_then IsHook _ task (λ n is. is)
switch_fits (task ∷ more ∷ words) = tt

start_fits : (words : List (List ℕ)) → IfSome (start_at words) IsHook
unfolding start_at
start_fits [] = tt
start_fits (handler ∷ []) = tt
start_fits (handler ∷ number ∷ []) = any_fits IsHook _ (handler_at handler) (λ kind. byte_then IsHook _ number (λ n is. is))
start_fits (handler ∷ number ∷ more ∷ words) = tt

hook_fits : (word : List ℕ) (words : List (List ℕ)) → IfSome (hook_at word words) IsHook
unfolding hook_at
hook_fits word words =
    either_fits IsHook (bytes_eq word (codes "svc")) (service_at words) _ (service_fits words)
    (either_fits IsHook (bytes_eq word (codes "dsp")) (switch_at words) _ (switch_fits words)
    (either_fits IsHook (bytes_eq word (codes "int")) (start_at words) None (start_fits words) tt))

unfit_fits : (words : List (List ℕ)) → IfSome (unfit_at words) IsEnd
unfolding unfit_at
unfit_fits [] = tt
unfit_fits (entry ∷ []) = word_then IsEnd _ entry (λ n is. is)
unfit_fits (entry ∷ more ∷ words) = tt

plain_end_fits : (word : List ℕ) → IfSome (plain_end_at word) IsEnd
unfolding plain_end_at
plain_end_fits word =
    either_fits IsEnd (bytes_eq word (codes "idle")) _ _ tt
    (either_fits IsEnd (bytes_eq word (codes "halt")) _ _ tt
    (either_fits IsEnd (bytes_eq word (codes "budget")) _ _ tt
    (either_fits IsEnd (bytes_eq word (codes "starved")) _ None tt tt)))

end_fits : (word : List ℕ) (words : List (List ℕ)) → IfSome (end_at word words) IsEnd
unfolding end_at
end_fits word [] = either_fits IsEnd (bytes_eq word (codes "unfit")) (unfit_at []) (plain_end_at word) (unfit_fits []) (plain_end_fits word)
end_fits word (more ∷ words) = either_fits IsEnd (bytes_eq word (codes "unfit")) (unfit_at (more ∷ words)) None (unfit_fits (more ∷ words)) tt

-- ---- lines by their tags

dispatch_fits : (step : ℕ) (words : List (List ℕ)) → step < 2 ^ 32 → IfSome (dispatch_line_at step words) IsLine
unfolding dispatch_line_at
dispatch_fits step [] in_step = tt
dispatch_fits step (task ∷ []) in_step = byte_then IsLine _ task (λ n is. (in_step, is))
dispatch_fits step (task ∷ more ∷ words) in_step = tt

returned_fits : (step : ℕ) (words : List (List ℕ)) → step < 2 ^ 32 → IfSome (returned_line_at step words) IsLine
unfolding returned_line_at
returned_fits step [] in_step = tt
returned_fits step (who ∷ []) in_step = tt
returned_fits step (who ∷ call ∷ words) in_step =
    byte_then IsLine _ who (λ n is. any_fits IsLine _ (named call)
    (λ name. fits_then IsAnswer IsLine _ (answer_at words) (answer_fits words) (λ result fits. (in_step, is, fits))))

blocked_fits : (step : ℕ) (words : List (List ℕ)) → step < 2 ^ 32 → IfSome (blocked_line_at step words) IsLine
unfolding blocked_line_at
blocked_fits step [] in_step = tt
blocked_fits step (task ∷ []) in_step = tt
blocked_fits step (task ∷ call ∷ []) in_step = byte_then IsLine _ task (λ n is. any_fits IsLine _ (named call) (λ name. (in_step, is)))
blocked_fits step (task ∷ call ∷ more ∷ words) in_step = tt

released_fits : (step : ℕ) (words : List (List ℕ)) → step < 2 ^ 32 → IfSome (released_line_at step words) IsLine
unfolding released_line_at
released_fits step [] in_step = tt
released_fits step (task ∷ []) in_step = tt
released_fits step (task ∷ call ∷ words) in_step =
    byte_then IsLine _ task (λ n is. any_fits IsLine _ (named call)
    (λ name. fits_then IsAnswer IsLine _ (answer_at words) (answer_fits words) (λ result fits. (in_step, is, fits))))

tick_fits : (step : ℕ) (words : List (List ℕ)) → step < 2 ^ 32 → IfSome (tick_line_at step words) IsLine
unfolding tick_line_at
tick_fits step [] in_step = tt
tick_fits step (time ∷ []) in_step = time_then IsLine _ time (λ n is. (in_step, is))
tick_fits step (time ∷ more ∷ words) in_step = tt

started_fits : (step : ℕ) (words : List (List ℕ)) → step < 2 ^ 32 → IfSome (started_line_at step words) IsLine
unfolding started_line_at
started_fits step [] in_step = tt
started_fits step (handler ∷ []) in_step = tt
started_fits step (handler ∷ number ∷ []) in_step = any_fits IsLine _ (handler_at handler) (λ kind. byte_then IsLine _ number (λ n is. (in_step, is)))
started_fits step (handler ∷ number ∷ more ∷ words) in_step = tt

ended_fits : (step : ℕ) (words : List (List ℕ)) → step < 2 ^ 32 → IfSome (ending_line_at step words) IsLine
unfolding ending_line_at
ended_fits step [] in_step = tt
ended_fits step (device ∷ []) in_step = tt
ended_fits step (device ∷ request ∷ []) in_step = tt
ended_fits step (device ∷ request ∷ word ∷ words) in_step =
    byte_then IsLine _ device (λ d in_device. byte_then IsLine _ request
    (λ r in_request. fits_then IsEnding IsLine _ (ending_at word words) (ending_fits word words) (λ ending fits. (in_step, in_device, in_request, fits))))

hook_line_fits : (step : ℕ) (words : List (List ℕ)) → step < 2 ^ 32 → IfSome (hook_line_at step words) IsLine
unfolding hook_line_at
hook_line_fits step [] in_step = tt
hook_line_fits step (word ∷ words) in_step = fits_then IsHook IsLine _ (hook_at word words) (hook_fits word words) (λ hook fits. (in_step, fits))

either_said : (step who : ℕ) (name : Option (List ℕ)) (number : Option ℤ) → step < 2 ^ 32 → who < 2 ^ 8 → ((word : List ℕ) → name ≡ Some word → name_at_most 16 word ≡ true)
    → ((z : ℤ) → number ≡ Some z → FitsSigned w32 z) → IfSome (said_line step who name number) IsLine
either_said step who (Some name) number in_step in_who is_name fits = (in_step, in_who, is_name name refl)
either_said step who None None in_step in_who is_name fits = tt
either_said step who None (Some z) in_step in_who is_name fits = (in_step, in_who, fits z refl)

said_fits : (step who : ℕ) (word : List ℕ) → step < 2 ^ 32 → who < 2 ^ 8 → IfSome (said_at step who word) IsLine
unfolding said_at
said_fits step who word in_step in_who =
    either_said step who (cond (name_at_most 16 word) (Some word) None) (number_at word) in_step in_who
    (λ name e. let chosen = value_chosen (name_at_most 16 word) word name e in subst (λ (w : List ℕ). name_at_most 16 w ≡ true) chosen.1 chosen.0)
    (λ z e. (number_at_some word z e).1)

said_line_fits : (step : ℕ) (words : List (List ℕ)) → step < 2 ^ 32 → IfSome (said_line_at step words) IsLine
unfolding said_line_at
said_line_fits step [] in_step = tt
said_line_fits step (who ∷ []) in_step = tt
said_line_fits step (who ∷ word ∷ []) in_step = byte_then IsLine _ who (λ n is. said_fits step n word in_step is)
said_line_fits step (who ∷ word ∷ more ∷ words) in_step = tt

end_line_fits : (step : ℕ) (words : List (List ℕ)) → step < 2 ^ 32 → IfSome (end_line_at step words) IsLine
unfolding end_line_at
end_line_fits step [] in_step = tt
end_line_fits step (word ∷ words) in_step = fits_then IsEnd IsLine _ (end_at word words) (end_fits word words) (λ end fits. (in_step, fits))

tagged_fits : (step : ℕ) (tag : List ℕ) (words : List (List ℕ)) → step < 2 ^ 32 → IfSome (line_of_tag step tag words) IsLine
unfolding line_of_tag
tagged_fits step tag words in_step =
    either_fits IsLine (bytes_eq tag (codes "D")) (dispatch_line_at step words) _ (dispatch_fits step words in_step)
    (either_fits IsLine (bytes_eq tag (codes "C")) (returned_line_at step words) _ (returned_fits step words in_step)
    (either_fits IsLine (bytes_eq tag (codes "B")) (blocked_line_at step words) _ (blocked_fits step words in_step)
    (either_fits IsLine (bytes_eq tag (codes "W")) (released_line_at step words) _ (released_fits step words in_step)
    (either_fits IsLine (bytes_eq tag (codes "K")) (tick_line_at step words) _ (tick_fits step words in_step)
    (either_fits IsLine (bytes_eq tag (codes "I")) (started_line_at step words) _ (started_fits step words in_step)
    (either_fits IsLine (bytes_eq tag (codes "J")) (ending_line_at step words) _ (ended_fits step words in_step)
    (either_fits IsLine (bytes_eq tag (codes "O")) (hook_line_at step words) _ (hook_line_fits step words in_step)
    (either_fits IsLine (bytes_eq tag (codes "S")) (said_line_at step words) _ (said_line_fits step words in_step)
    (either_fits IsLine (bytes_eq tag (codes "END")) (end_line_at step words) None (end_line_fits step words in_step) tt)))))))))

pub line_fits : (words : List (List ℕ)) → IfSome (line_at words) IsLine
unfolding line_at
line_fits [] = tt
line_fits (step ∷ []) = tt
line_fits (step ∷ tag ∷ words) = word_then IsLine _ step (λ n in_step. tagged_fits n tag words in_step)
