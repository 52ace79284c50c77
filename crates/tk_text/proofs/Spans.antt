-- The tokens of a text have its words, and their spans rise.
use Rattle.std.proofs.Common.{◌≡◌, ℕ, zero, suc, ◌+◌, ◌-◌, ◌<◌, ◌≤◌, true, false, cond, eqb, List, [], ◌∷◌, ◌++◌, length, get_or, take, map, sym, ap, ◌∙◌, append_assoc, append-nil, arith, refl, length-append}
use Rattle.std.specs.Prelude.{slice_range}
use Rattle.std.specs.List.{filter, join_with_byte}
use Rattle.std.proofs.lemmas.List.{take_at, take_all, drop_at, map-append}
use Rattle.std.proofs.lemmas.List.Splits.{join_with_byte-slice_split, length-slice_split}
use Rattle.std.proofs.lemmas.List.Sums.{count_by-le-length}
use Rattle.std.proofs.lemmas.Bool.Decides.{nat_tests}
use Rattle.tk_model.specs.Words.{parts_of, lines_of, is_word, numbered, words_from}
use Rattle.tk_text.specs.Tokens.{part_token, line_tokens, text_tokens, read_token, SpansRise}
use Rattle.tk_text.specs.declared.token.Token.{Token}

-- what lies behind a front and before a rest
between_ends : (text front part back : List ℕ) (at size : ℕ) → text ≡ front ++ (part ++ back) → length front ≡ at → length part ≡ size → slice_range text at (at + size) ≡ part
between_ends text front part back at size whole begins sized =
    let n : (at + size) - at ≡ size = omega arith in
    rw (n, whole, drop_at front (part ++ back) at begins) (take_at part back size sized)

-- the token of a part has the part as its word
part_read : (text front part back : List ℕ) (number at : ℕ) → text ≡ front ++ (part ++ back) → length front ≡ at → map (read_token text) (part_token number at (length part)) ≡ map (numbered number) (filter is_word (part ∷ []))
part_read text front [] back number at whole begins = refl
part_read text front (byte ∷ bytes) back number at whole begins =
    let part = byte ∷ bytes in
    let some : eqb (length part) 0 ≡ false = grind (arith, nat_tests) in
    rw some (ap (λ (word : List ℕ). (number, word) ∷ []) (between_ends text front part back at (length part) whole begins refl))

-- two lists read one after the other
both_read : {A B : Type 0} (f : A → B) (xs ys : List A) (us vs : List B) → map f xs ≡ us → map f ys ≡ vs → map f (xs ++ ys) ≡ us ++ vs
both_read {B = B} f xs ys us vs first second = map-append f xs ys ∙ (ap (λ (zs : List B). zs ++ map f ys) first ∙ ap (λ (zs : List B). us ++ zs) second)

-- the words of a part and of later parts
words_first : (number : ℕ) (part : List ℕ) (later : List (List ℕ)) → map (numbered number) (filter is_word (part ∷ later)) ≡ map (numbered number) (filter is_word (part ∷ [])) ++ map (numbered number) (filter is_word later)
words_first number part later =
    elim (is_word part) as (λ t. map (numbered number) (cond t (part ∷ filter is_word later) (filter is_word later)) ≡ map (numbered number) (cond t (part ∷ []) []) ++ map (numbered number) (filter is_word later))
    [ true ↦ refl | false ↦ refl ]

-- what lies behind a part and its mark
regrouped : (mark : ℕ) (front part rest back : List ℕ) → front ++ ((part ++ (mark ∷ rest)) ++ back) ≡ (front ++ (part ++ mark ∷ [])) ++ (rest ++ back)
regrouped mark front part rest back = simp append_assoc

moved : (mark : ℕ) (front part rest : List ℕ) → front ++ (part ++ (mark ∷ rest)) ≡ (front ++ (part ++ mark ∷ [])) ++ rest
moved mark front part rest = simp append_assoc

-- how many bytes lie before it
front_length : (mark : ℕ) (front part : List ℕ) (at : ℕ) → length front ≡ at → length (front ++ (part ++ mark ∷ [])) ≡ at + (length part + 1)
front_length mark front part at begins = rw (length-append front (part ++ mark ∷ []), length-append part (mark ∷ []), begins) refl

line_read : (text front back : List ℕ) (number at : ℕ) (parts : List (List ℕ)) → text ≡ front ++ (join_with_byte 32 parts ++ back) → length front ≡ at → map (read_token text) (line_tokens number at parts) ≡ map (numbered number) (filter is_word parts)
unfolding line_tokens
line_read text front back number at [] whole begins = refl
line_read text front back number at (part ∷ []) whole begins =
    rw (append-nil (part_token number at (length part))) (part_read text front part back number at whole begins)
line_read text front back number at (part ∷ next ∷ more) whole begins =
    let later = next ∷ more in
    let rest = join_with_byte 32 later in
    let first = part_read text front part (32 ∷ (rest ++ back)) number at (whole ∙ ap (λ (xs : List ℕ). front ++ xs) (append_assoc part (32 ∷ rest) back)) begins in
    let second = line_read text (front ++ (part ++ 32 ∷ [])) back number (at + (length part + 1)) (next ∷ more) (whole ∙ regrouped 32 front part rest back) (front_length 32 front part at begins) in
    both_read (read_token text) (part_token number at (length part)) (line_tokens number (at + (length part + 1)) later) _ _ first second ∙ sym (words_first number part later)

-- a line is its parts with spaces between
line_parts : (text front line back : List ℕ) → text ≡ front ++ (line ++ back) → text ≡ front ++ (join_with_byte 32 (parts_of 32 line) ++ back)
unfolding parts_of
line_parts text front line back whole = whole ∙ ap (λ (xs : List ℕ). front ++ (xs ++ back)) (sym (join_with_byte-slice_split 32 line))

none_read : (text : List ℕ) (number at count : ℕ) → map (read_token text) (text_tokens number at (take count [])) ≡ words_from number (take count [])
unfolding text_tokens words_from
none_read text number at zero = refl
none_read text number at (suc count) = refl

pub text_read : (text front : List ℕ) (number at count : ℕ) (lines : List (List ℕ)) → text ≡ front ++ join_with_byte 10 lines → length front ≡ at → map (read_token text) (text_tokens number at (take count lines)) ≡ words_from number (take count lines)
unfolding text_tokens words_from
text_read text front number at zero lines whole begins = refl
text_read text front number at (suc count) [] whole begins = refl
text_read text front number at (suc count) (line ∷ []) whole begins =
    let first = line_read text front [] number at (parts_of 32 line) (line_parts text front line [] (whole ∙ ap (λ (xs : List ℕ). front ++ xs) (sym (append-nil line)))) begins in
    both_read (read_token text) (line_tokens number at (parts_of 32 line)) (text_tokens (number + 1) (at + (length line + 1)) (take count [])) _ _ first (none_read text (number + 1) (at + (length line + 1)) count)
text_read text front number at (suc count) (line ∷ next ∷ more) whole begins =
    let later = next ∷ more in
    let rest = join_with_byte 10 later in
    let first = line_read text front (10 ∷ rest) number at (parts_of 32 line) (line_parts text front line (10 ∷ rest) whole) begins in
    let second = text_read text (front ++ (line ++ 10 ∷ [])) (number + 1) (at + (length line + 1)) count (next ∷ more) (whole ∙ moved 10 front line rest) (front_length 10 front line at begins) in
    both_read (read_token text) (line_tokens number at (parts_of 32 line)) (text_tokens (number + 1) (at + (length line + 1)) (take count later)) _ _ first second

part_rise : (low end number at : ℕ) (part : List ℕ) (later : List Token) → low ≤ at → at + length part ≤ end → ((mid : ℕ) → mid ≤ at + length part → SpansRise mid end later) → SpansRise low end (part_token number at (length part) ++ later)
unfolding SpansRise
part_rise low end number at [] later from to go = go low (omega arith)
part_rise low end number at (byte ∷ bytes) later from to go =
    let some : eqb (length (byte ∷ bytes)) 0 ≡ false = grind (arith, nat_tests) in
    rw some (from, omega arith, to, go (at + length (byte ∷ bytes)) (omega arith))

-- the length of a part, its mark and a rest
with_mark : (mark : ℕ) (part rest : List ℕ) → length (part ++ (mark ∷ rest)) ≡ length part + 1 + length rest
with_mark mark part rest = omega (arith, length-append part (mark ∷ rest))

parts_rise : (low end number at : ℕ) (parts : List (List ℕ)) (later : List Token) → low ≤ at → at + length (join_with_byte 32 parts) ≤ end → ((mid : ℕ) → mid ≤ at + length (join_with_byte 32 parts) → SpansRise mid end later) → SpansRise low end (line_tokens number at parts ++ later)
unfolding line_tokens
parts_rise low end number at [] later from to go = go low (omega arith)
parts_rise low end number at (part ∷ []) later from to go =
    rw (append-nil (part_token number at (length part))) (part_rise low end number at part later from to go)
parts_rise low end number at (part ∷ next ∷ more) later from to go =
    let size = with_mark 32 part (join_with_byte 32 (next ∷ more)) in
    rw (append_assoc (part_token number at (length part)) (line_tokens number (at + (length part + 1)) (next ∷ more)) later)
    (part_rise low end number at part (line_tokens number (at + (length part + 1)) (next ∷ more) ++ later) from (omega arith)
    (λ mid m. parts_rise mid end number (at + (length part + 1)) (next ∷ more) later (omega arith) (omega arith) (λ last l. go last (omega arith))))

none_rise : (low end number at count : ℕ) → SpansRise low end (text_tokens number at (take count []))
unfolding text_tokens SpansRise
none_rise low end number at zero = tt
none_rise low end number at (suc count) = tt

-- the length of a line is that of its parts with spaces between
line_length : (line : List ℕ) → length (join_with_byte 32 (parts_of 32 line)) ≡ length line
unfolding parts_of
line_length line = ap length (join_with_byte-slice_split 32 line)

pub text_rise : (low end number at count : ℕ) (lines : List (List ℕ)) → low ≤ at → at + length (join_with_byte 10 lines) ≤ end → SpansRise low end (text_tokens number at (take count lines))
unfolding text_tokens
text_rise low end number at zero lines from to = none_rise low end number at 0
text_rise low end number at (suc count) [] from to = none_rise low end number at 0
text_rise low end number at (suc count) (line ∷ []) from to =
    let size = line_length line in
    parts_rise low end number at (parts_of 32 line) (text_tokens (number + 1) (at + (length line + 1)) (take count [])) from (omega arith)
    (λ mid m. none_rise mid end (number + 1) (at + (length line + 1)) count)
text_rise low end number at (suc count) (line ∷ next ∷ more) from to =
    let size = line_length line in
    let whole = with_mark 10 line (join_with_byte 10 (next ∷ more)) in
    parts_rise low end number at (parts_of 32 line) (text_tokens (number + 1) (at + (length line + 1)) (take count (next ∷ more))) from (omega arith)
    (λ mid m. text_rise mid end (number + 1) (at + (length line + 1)) count (next ∷ more) (omega arith) (omega arith))

-- the tokens of the first lines of a text
pub first_words : (text : List ℕ) (most : ℕ) → map (read_token text) (text_tokens 1 0 (take most (lines_of text))) ≡ words_from 1 (take most (lines_of text))
unfolding parts_of
first_words text most = text_read text [] 1 0 most (lines_of text) (sym (join_with_byte-slice_split 10 text)) refl

pub first_rise : (text : List ℕ) (most : ℕ) → SpansRise 0 (length text) (text_tokens 1 0 (take most (lines_of text)))
unfolding parts_of
first_rise text most =
    let size : length (join_with_byte 10 (lines_of text)) ≡ length text = ap length (join_with_byte-slice_split 10 text) in
    text_rise 0 (length text) 1 0 most (lines_of text) (omega arith) (omega arith)

-- a text has at most one line more than bytes
pub all_lines : (text : List ℕ) → take (length text + 1) (lines_of text) ≡ lines_of text
unfolding parts_of
all_lines text = take_all (length text + 1) (lines_of text) (omega (arith, length-slice_split (λ byte. eqb byte 10) text, count_by-le-length (λ byte. eqb byte 10) text))

-- a span that lies among rising ones
pub span_at : (low end : ℕ) (tokens : List Token) (i : ℕ) (d : Token) → SpansRise low end tokens → i < length tokens → ((get_or tokens i d).from < (get_or tokens i d).to) × ((get_or tokens i d).to ≤ end)
unfolding SpansRise
span_at low end [] i d rise lt = absurd (omega arith)
span_at low end (token ∷ tokens) zero d rise lt = (rise.1, rise.2)
span_at low end (token ∷ tokens) (suc i) d rise lt = span_at token.to end tokens i d rise.3 (omega arith)
