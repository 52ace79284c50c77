-- Lines with one space between their words: what they keep of the lines that they come from.
use Rattle.std.proofs.Common.{◌≡◌, ◌∙◌, ap, refl, arith, ℕ, suc, ◌+◌, ◌<◌, ◌≤◌, Bool, true, false, not, cond, List, [], ◌∷◌, ◌++◌, length, Some, None, length-append}
use Rattle.std.specs.Prelude.{nat_lt, nat_le, ◌==◌, if◌then◌else◌}
use Rattle.std.specs.List.{AllByRecursion, filter, list_all, slice_split, onto_first}
use Rattle.std.proofs.lemmas.Bool.{leb-true, eqb-true}
use Rattle.std.proofs.lemmas.Bool.Decides.{nat_tests}
use Rattle.std.proofs.lemmas.List.{append-nil}
use Rattle.tk_types.specs.declared.why.Why.TheVariants.{Byte, Line}
use Rattle.tk_model.specs.ScriptText.{gaps, joined}
use Rattle.tk_model.specs.Words.{is_text_byte, is_word, line_fault, parts_of, words_of}
use Rattle.tk_raw.proofs.Results.{both_true, both, false_of_not}

-- ---- parts between marks

-- no byte of a part is the mark
abbrev pub is_free : ℕ → List ℕ → Bool
is_free mark part = list_all (λ byte. not (byte == mark)) part

-- the length of parts, with one byte behind each
unfoldable pub total : List (List ℕ) → ℕ
total [] = 0
total (part ∷ parts) = suc (length part) + total parts

pub total_append : (front back : List (List ℕ)) → total (front ++ back) ≡ total front + total back
unfolding total
total_append [] back = omega arith
total_append (part ∷ front) back = let more = total_append front back in omega (arith, more)

total_onto : (byte : ℕ) (parts : List (List ℕ)) → 0 < length parts → total (onto_first byte parts) ≡ suc (total parts)
unfolding total
total_onto byte [] some = absurd (omega arith)
total_onto byte (part ∷ parts) some = omega arith

some_onto : (byte : ℕ) (parts : List (List ℕ)) → 0 < length parts → 0 < length (onto_first byte parts)
some_onto byte [] some = absurd (omega arith)
some_onto byte (part ∷ parts) some = omega arith

some_by : (b : Bool) (byte : ℕ) (parts : List (List ℕ)) → 0 < length parts → 0 < length (cond b ([] ∷ parts) (onto_first byte parts))
some_by true byte parts some = omega arith
some_by false byte parts some = some_onto byte parts some

pub split_some : (mark : ℕ) (text : List ℕ) → 0 < length (slice_split (λ byte. byte == mark) text)
split_some mark [] = omega arith
split_some mark (byte ∷ text) = some_by (byte == mark) byte (slice_split (λ b. b == mark) text) (split_some mark text)

total_by : (b : Bool) (byte : ℕ) (parts : List (List ℕ)) → 0 < length parts → total (cond b ([] ∷ parts) (onto_first byte parts)) ≡ suc (total parts)
unfolding total
total_by true byte parts some = omega arith
total_by false byte parts some = total_onto byte parts some

-- the parts of a text and the marks between them are the text
pub split_total : (mark : ℕ) (text : List ℕ) → total (slice_split (λ byte. byte == mark) text) ≡ suc (length text)
unfolding total
split_total mark [] = refl
split_total mark (byte ∷ text) = total_by (byte == mark) byte (slice_split (λ b. b == mark) text) (split_some mark text) ∙ ap suc (split_total mark text)

-- what holds of each part: it is free of the mark, and its bytes pass what those of the text pass
pub record IsPart (mark : ℕ) (test : ℕ → Bool) (part : List ℕ) : Type 0 where
  pub free : is_free mark part ≡ true
  pub passes : list_all test part ≡ true

parts_by : (b : Bool) (mark byte : ℕ) (test : ℕ → Bool) (parts : List (List ℕ)) → (byte == mark) ≡ b → test byte ≡ true → AllByRecursion (IsPart mark test) parts → AllByRecursion (IsPart mark test) (cond b ([] ∷ parts) (onto_first byte parts))
parts_by true mark byte test parts is passes all = (record { free = refl; passes = refl }, all)
parts_by false mark byte test [] is passes all = (record { free = rw is refl; passes = rw passes refl }, tt)
parts_by false mark byte test (part ∷ parts) is passes all = (record { free = rw is all.0.free; passes = rw passes all.0.passes }, all.1)

pub split_parts : (mark : ℕ) (test : ℕ → Bool) (text : List ℕ) → list_all test text ≡ true → AllByRecursion (IsPart mark test) (slice_split (λ byte. byte == mark) text)
split_parts mark test [] passes = (record { free = refl; passes = refl }, tt)
split_parts mark test (byte ∷ text) passes =
    let t = both_true (test byte) (list_all test text) passes in
    parts_by (byte == mark) mark byte test (slice_split (λ b. b == mark) text) refl t.0 (split_parts mark test text t.1)

same_byte : (mark : ℕ) → (mark == mark) ≡ true
same_byte mark = grind (arith, nat_tests)

-- a part in front of a mark is the first part
pub split_mark : (mark : ℕ) (part rest : List ℕ) → is_free mark part ≡ true → slice_split (λ byte. byte == mark) (part ++ mark ∷ rest) ≡ part ∷ slice_split (λ byte. byte == mark) rest
split_mark mark [] rest e = rw (same_byte mark) refl
split_mark mark (byte ∷ part) rest e =
    let t = both_true (not (byte == mark)) (is_free mark part) e in
    rw (false_of_not (byte == mark) t.0, split_mark mark part rest t.1) refl

pub split_none : (mark : ℕ) (part : List ℕ) → is_free mark part ≡ true → slice_split (λ byte. byte == mark) part ≡ part ∷ []
split_none mark [] e = refl
split_none mark (byte ∷ part) e =
    let t = both_true (not (byte == mark)) (is_free mark part) e in
    rw (false_of_not (byte == mark) t.0, split_none mark part t.1) refl

-- ---- the words of a line

pub record IsWord (word : List ℕ) : Type 0 where
  pub some : is_word word ≡ true
  pub free : is_free 32 word ≡ true
  pub passes : list_all is_text_byte word ≡ true

words_by : (b : Bool) (part : List ℕ) (words : List (List ℕ)) → is_word part ≡ b → IsPart 32 is_text_byte part → AllByRecursion IsWord words → AllByRecursion IsWord (cond b (part ∷ words) words)
words_by true part words is one all = (record { some = is; free = one.free; passes = one.passes }, all)
words_by false part words is one all = all

words_are : (parts : List (List ℕ)) → AllByRecursion (IsPart 32 is_text_byte) parts → AllByRecursion IsWord (filter is_word parts)
words_are [] all = tt
words_are (part ∷ parts) all = words_by (is_word part) part (filter is_word parts) refl all.0 (words_are parts all.1)

total_filtered : (b : Bool) (part : List ℕ) (words : List (List ℕ)) (n : ℕ) → total words ≤ n → total (cond b (part ∷ words) words) ≤ suc (length part) + n
unfolding total
total_filtered true part words n low = omega arith
total_filtered false part words n low = omega arith

total_filter : (parts : List (List ℕ)) → total (filter is_word parts) ≤ total parts
unfolding total
total_filter [] = omega arith
total_filter (part ∷ parts) = total_filtered (is_word part) part (filter is_word parts) (total parts) (total_filter parts)

gaps_length : (words : List (List ℕ)) → length (gaps words) ≡ total words
unfolding gaps total
gaps_length [] = refl
gaps_length (word ∷ words) = let more = gaps_length words in omega (arith, more, length-append word (gaps words))

joined_length : (words : List (List ℕ)) → length (joined words) ≤ total words
unfolding joined total
joined_length [] = omega arith
joined_length (word ∷ words) = let more = gaps_length words in omega (arith, more, length-append word (gaps words))

joined_suc : (words : List (List ℕ)) (n : ℕ) → total words ≤ suc n → length (joined words) ≤ n
unfolding joined total
joined_suc [] n low = omega arith
joined_suc (word ∷ words) n low = let more = gaps_length words in omega (arith, more, length-append word (gaps words), low)

-- a line is no shorter than its words with one space between
words_shorter : (line : List ℕ) → length (joined (words_of line)) ≤ length line
unfolding parts_of
words_shorter line =
    let whole = split_total 32 line in
    let part = total_filter (slice_split (λ byte. byte == 32) line) in
    joined_suc (words_of line) (length line) (omega (arith, whole, part))

joined_split : (word : List ℕ) (words : List (List ℕ)) → IsWord word → AllByRecursion IsWord words → slice_split (λ byte. byte == 32) (word ++ gaps words) ≡ word ∷ words
unfolding gaps
joined_split word [] one all = ap (slice_split (λ byte. byte == 32)) (append-nil word) ∙ split_none 32 word one.free
joined_split word (next ∷ words) one all = split_mark 32 word (next ++ gaps words) one.free ∙ ap (λ (ws : List (List ℕ)). word ∷ ws) (joined_split next words all.0 all.1)

filter_words : (words : List (List ℕ)) → AllByRecursion IsWord words → filter is_word words ≡ words
filter_words [] all = refl
filter_words (word ∷ words) all = rw (all.0.some, filter_words words all.1) refl

joined_words : (words : List (List ℕ)) → AllByRecursion IsWord words → words_of (joined words) ≡ words
unfolding parts_of joined
joined_words [] all = refl
joined_words (word ∷ words) all = ap (filter is_word) (joined_split word words all.0 all.1) ∙ filter_words (word ∷ words) all

all_append : (test : ℕ → Bool) (front back : List ℕ) → list_all test front ≡ true → list_all test back ≡ true → list_all test (front ++ back) ≡ true
all_append test [] back e f = f
all_append test (byte ∷ front) back e f =
    let t = both_true (test byte) (list_all test front) e in
    both (test byte) (list_all test (front ++ back)) t.0 (all_append test front back t.1 f)

gaps_pass : (words : List (List ℕ)) → AllByRecursion IsWord words → list_all is_text_byte (gaps words) ≡ true
unfolding gaps is_text_byte
gaps_pass [] all = refl
gaps_pass (word ∷ words) all = all_append is_text_byte word (gaps words) all.0.passes (gaps_pass words all.1)

joined_pass : (words : List (List ℕ)) → AllByRecursion IsWord words → list_all is_text_byte (joined words) ≡ true
unfolding joined
joined_pass [] all = refl
joined_pass (word ∷ words) all = all_append is_text_byte word (gaps words) all.0.passes (gaps_pass words all.1)

not_of : (b : Bool) → (b ≡ true → ⊥) → not b ≡ true
not_of true never = absurd (never refl)
not_of false never = refl

not_ten : (byte : ℕ) → 32 ≤ byte → not (byte == 10) ≡ true
not_ten byte low = not_of (byte == 10) (λ t. let same : byte ≡ 10 = eqb-true byte 10 t in omega arith)

text_byte_free : (byte : ℕ) → is_text_byte byte ≡ true → not (byte == 10) ≡ true
unfolding is_text_byte
text_byte_free byte e =
    let low : 32 ≤ byte = leb-true 32 byte (both_true (nat_le 32 byte) (nat_le byte 126) e).0 in
    not_ten byte low

pub passes_free : (line : List ℕ) → list_all is_text_byte line ≡ true → is_free 10 line ≡ true
passes_free [] e = refl
passes_free (byte ∷ line) e =
    let t = both_true (is_text_byte byte) (list_all is_text_byte line) e in
    both (not (byte == 10)) (is_free 10 line) (text_byte_free byte t.0) (passes_free line t.1)

-- ---- lines without a fault

not_longer : (n : ℕ) → nat_lt 200 n ≡ false → n ≤ 200
not_longer n e = grind (arith, nat_tests)

short_not_long : (n : ℕ) → n ≤ 200 → nat_lt 200 n ≡ false
short_not_long n short = grind (arith, nat_tests)

clean_by : (all long : Bool) → (if all then (if long then Some Line else None) else Some Byte) ≡ None → (all ≡ true) × (long ≡ false)
clean_by true true e = absurd (cc)
clean_by true false e = (refl, refl)
clean_by false long e = absurd (cc)

pub clean_line : (line : List ℕ) → line_fault line ≡ None → (list_all is_text_byte line ≡ true) × (length line ≤ 200)
unfolding line_fault
clean_line line e =
    let t = clean_by (list_all is_text_byte line) (nat_lt 200 (length line)) e in
    (t.0, not_longer (length line) t.1)

pub line_clean : (line : List ℕ) → list_all is_text_byte line ≡ true → length line ≤ 200 → line_fault line ≡ None
unfolding line_fault
line_clean line passes short = rw (passes, short_not_long (length line) short) refl

-- what words have that stand in a line without a fault
pub record IsPlain (words : List (List ℕ)) : Type 0 where
  pub again : words_of (joined words) ≡ words
  pub clean : line_fault (joined words) ≡ None
  pub free : is_free 10 (joined words) ≡ true

pub words_plain : (line : List ℕ) → line_fault line ≡ None → IsPlain (words_of line)
unfolding parts_of
words_plain line clean =
    let c = clean_line line clean in
    let words : AllByRecursion IsWord (words_of line) = words_are (slice_split (λ byte. byte == 32) line) (split_parts 32 is_text_byte line c.0) in
    let passes = joined_pass (words_of line) words in
    let shorter = words_shorter line in
    record { again = joined_words (words_of line) words; clean = line_clean (joined (words_of line)) passes (omega (arith, c.1, shorter)); free = passes_free (joined (words_of line)) passes }

-- and they are no longer than the line
pub plain_shorter : (line : List ℕ) → length (joined (words_of line)) ≤ length line
plain_shorter line = words_shorter line
