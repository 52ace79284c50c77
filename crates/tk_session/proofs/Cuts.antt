-- A text cut at its divider, by its lines and by its bytes.
use Rattle.std.proofs.Common.{◌≡◌, ◌≢◌, ◌⊎◌, inl, inr, ℕ, ◌+◌, ◌≤◌, Bool, true, false, not, cond, eqb, ◌&&◌, List, [], ◌∷◌, ◌++◌, length, take, drop, Option, Some, None, refl, sym, ap, subst, ◌∙◌, append_assoc, append-nil, length-append, arith}
use Rattle.std.specs.Prelude.{IfSome, MatchOption}
use Rattle.std.specs.List.{list_all, slice_split, onto_first}
use Rattle.std.proofs.Math.Seq.{take-append_seam, drop-append-add}
use Rattle.std.proofs.lemmas.Bool.Decides.{nat_tests}
use Rattle.tk_model.specs.TextLines.{text_lines, whole_lines}
use Rattle.tk_model.specs.Words.{lines_of, parts_of}
use Rattle.tk_text.specs.Sessions.{divider_from, is_divider}
use Rattle.tk_session.specs.Spelling.{IsCut, fed}

-- ---- the first line of a text

abbrev is_feed : ℕ → Bool
is_feed byte = eqb byte 10

-- the first line is the whole text, or stands before a line feed
abbrev First : List ℕ → List ℕ → List (List ℕ) → Type 0
First text line rest = ((rest ≡ []) × (text ≡ line)) ⊎ ((behind : List ℕ) × (text ≡ line ++ 10 ∷ behind) × (slice_split is_feed behind ≡ rest))

feed_is : (byte : ℕ) → eqb byte 10 ≡ true → byte ≡ 10
feed_is byte e = grind (arith, nat_tests)

longer_first : (byte : ℕ) (bytes line : List ℕ) (rest : List (List ℕ)) → First bytes line rest → First (byte ∷ bytes) (byte ∷ line) rest
longer_first byte bytes line rest (inl (none, is)) = inl (none, ap (λ (l : List ℕ). byte ∷ l) is)
longer_first byte bytes line rest (inr (behind, is, lines)) = inr (behind, ap (λ (l : List ℕ). byte ∷ l) is, lines)

onto : (byte : ℕ) (bytes line : List ℕ) (rest parts : List (List ℕ)) → parts ≢ [] → onto_first byte parts ≡ line ∷ rest
    → ((l : List ℕ) (r : List (List ℕ)) → parts ≡ l ∷ r → First bytes l r) → First (byte ∷ bytes) line rest
onto byte bytes line rest [] some e later = absurd (some refl)
onto byte bytes line rest (part ∷ parts) some e later =
    let one : byte ∷ part ≡ line = cc in
    let two : parts ≡ rest = cc in
    subst (λ (r : List (List ℕ)). First (byte ∷ bytes) line r) two
    (subst (λ (l : List ℕ). First (byte ∷ bytes) l parts) one (longer_first byte bytes part parts (later part parts refl)))

some_first : (byte : ℕ) (parts : List (List ℕ)) → onto_first byte parts ≢ []
some_first byte [] e = absurd (cc)
some_first byte (part ∷ parts) e = absurd (cc)

some_part : (bytes : List ℕ) → slice_split is_feed bytes ≢ []
some_part [] e = absurd (cc)
some_part (byte ∷ bytes) e =
    elim (is_feed byte) as (λ t. cond t ([] ∷ slice_split is_feed bytes) (onto_first byte (slice_split is_feed bytes)) ≡ [] → ⊥)
    [ true ↦ λ h. absurd (cc) | false ↦ λ h. some_first byte (slice_split is_feed bytes) h ] e

at_byte : (b : Bool) (byte : ℕ) (bytes line : List ℕ) (rest : List (List ℕ)) → is_feed byte ≡ b → cond b ([] ∷ slice_split is_feed bytes) (onto_first byte (slice_split is_feed bytes)) ≡ line ∷ rest
    → ((l : List ℕ) (r : List (List ℕ)) → slice_split is_feed bytes ≡ l ∷ r → First bytes l r) → First (byte ∷ bytes) line rest
at_byte true byte bytes line rest is e later =
    let one : [] ≡ line = cc in
    let two : slice_split is_feed bytes ≡ rest = cc in
    let text : byte ∷ bytes ≡ 10 ∷ bytes = ap (λ (b : ℕ). b ∷ bytes) (feed_is byte is) in
    subst (λ (l : List ℕ). First (byte ∷ bytes) l rest) one (inr (bytes, text, two))
at_byte false byte bytes line rest is e later = onto byte bytes line rest (slice_split is_feed bytes) (some_part bytes) e later

first_part : (text line : List ℕ) (rest : List (List ℕ)) → slice_split is_feed text ≡ line ∷ rest → First text line rest
first_part [] line rest e = let none : [] ≡ rest = cc in let one : [] ≡ line = cc in inl (sym none, one)
first_part (byte ∷ bytes) line rest e = at_byte (is_feed byte) byte bytes line rest refl e (λ l r is. first_part bytes l r is)

-- ---- the bytes of the lines

-- a text whose lines are cut: its bytes up to the divider, the divider, and what is left
pub record TextCut (text : List ℕ) (before : List (List ℕ)) (divider : List ℕ) (behind : List (List ℕ)) : Type 0 where
  pub tail : List ℕ
  pub text_is : text ≡ fed before ++ (divider ++ tail)
  pub left : text_lines (drop 1 tail) ≡ whole_lines behind

last_line : (text divider : List ℕ) (behind : List (List ℕ)) → First text divider behind → TextCut text [] divider behind
unfolding fed text_lines whole_lines parts_of
last_line text divider behind (inl (none, is)) = record { tail = []; text_is = is ∙ sym (append-nil divider); left = rw none refl }
last_line text divider behind (inr (bytes, is, lines)) = record { tail = 10 ∷ bytes; text_is = is; left = ap whole_lines lines }

not_last : {A : Type 0} (front : List A) (item : A) (rest : List A) → front ++ item ∷ rest ≢ []
not_last [] item rest e = absurd (cc)
not_last (first ∷ front) item rest e = absurd (cc)

line_before : (text line : List ℕ) (lines : List (List ℕ)) (divider : List ℕ) (behind : List (List ℕ)) → First text line (lines ++ divider ∷ behind)
    → ((bytes : List ℕ) → slice_split is_feed bytes ≡ lines ++ divider ∷ behind → TextCut bytes lines divider behind) → TextCut text (line ∷ lines) divider behind
unfolding fed
line_before text line lines divider behind (inl (none, is)) later = absurd (not_last lines divider behind none)
line_before text line lines divider behind (inr (bytes, is, cut)) later =
    let l = later bytes cut in
    record {
      tail = l.tail;
      text_is = is ∙ (ap (λ (b : List ℕ). line ++ 10 ∷ b) l.text_is ∙ sym (append_assoc line (10 ∷ fed lines) (divider ++ l.tail)));
      left = l.left;
    }

text_cut : (text : List ℕ) (before : List (List ℕ)) (divider : List ℕ) (behind : List (List ℕ)) → slice_split is_feed text ≡ before ++ divider ∷ behind → TextCut text before divider behind
text_cut text [] divider behind e = last_line text divider behind (first_part text divider behind e)
text_cut text (line ∷ lines) divider behind e =
    line_before text line lines divider behind (first_part text line (lines ++ divider ∷ behind) e) (λ bytes cut. text_cut bytes lines divider behind cut)

text_is_cut : (text : List ℕ) (before : List (List ℕ)) (divider : List ℕ) (behind : List (List ℕ)) → lines_of text ≡ before ++ divider ∷ behind → TextCut text before divider behind
unfolding parts_of
text_is_cut text before divider behind e = text_cut text before divider behind e

-- ---- what may be found

-- what holds of what is found, if it is
pub if_found : {P : Type 0} (found : Option P) (Q : P → Type 0) (R : Option P → Type 0) → IfSome found Q → R None → ((place : P) → Q place → R (Some place)) → R found
if_found None Q R is none some = none
if_found (Some place) Q R is none some = some place is

-- what is surely found
pub surely_found : {P : Type 0} (found : Option P) (Q : P → Type 0) (R : Option P → Type 0) → MatchOption found ⊥ Q → ((place : P) → Q place → R (Some place)) → R found
surely_found None Q R is some = absurd is
surely_found (Some place) Q R is some = some place is

here_or_later : {P : Type 0} (later : Option P) (found : P) (Q : P → Type 0) (b : Bool) → (b ≡ true → Q found) → (b ≡ false → IfSome later Q) → IfSome (cond b (Some found) later) Q
here_or_later later found Q true here there = here refl
here_or_later later found Q false here there = there refl

surely_here : {P : Type 0} (later : Option P) (found : P) (Q : P → Type 0) (b : Bool) → b ≡ true → Q found → MatchOption (cond b (Some found) later) ⊥ Q
surely_here later found Q true is here = here
surely_here later found Q false is here = absurd (cc)

surely_later : {P : Type 0} (later : Option P) (found : P) (Q : P → Type 0) (b : Bool) → b ≡ false → MatchOption later ⊥ Q → MatchOption (cond b (Some found) later) ⊥ Q
surely_later later found Q true is there = absurd (cc)
surely_later later found Q false is there = there

if_then : {P : Type 0} (found : Option P) (Q R : P → Type 0) → ((place : P) → Q place → R place) → IfSome found Q → IfSome found R
if_then None Q R so is = tt
if_then (Some place) Q R so is = so place is

match_then : {P : Type 0} (found : Option P) (Q R : P → Type 0) → ((place : P) → Q place → R place) → MatchOption found ⊥ Q → MatchOption found ⊥ R
match_then None Q R so is = is
match_then (Some place) Q R so is = so place is

-- ---- the place of the divider

-- the divider of a cut: the number of its line, and where it begins and ends
pub record IsPlace (number at : ℕ) (before : List (List ℕ)) (divider : List ℕ) (line from to : ℕ) : Type 0 where
  pub line_is : line ≡ number + length before
  pub from_is : from ≡ at + length (fed before)
  pub to_is : to ≡ from + length divider

pub record CutAt (word : List ℕ) (number at : ℕ) (lines : List (List ℕ)) (line from to : ℕ) : Type 0 where
  pub before : List (List ℕ)
  pub divider : List ℕ
  pub behind : List (List ℕ)
  pub cut : IsCut word lines before divider behind
  pub place_is : IsPlace number at before divider line from to

next_place : (number at : ℕ) (first : List ℕ) (before : List (List ℕ)) (divider : List ℕ) (line from to : ℕ) → IsPlace (number + 1) (at + (length first + 1)) before divider line from to → IsPlace number at (first ∷ before) divider line from to
unfolding fed
next_place number at first before divider line from to is =
    let size : length (first ++ 10 ∷ fed before) ≡ length first + length (10 ∷ fed before) = length-append first (10 ∷ fed before) in
    record { line_is = omega (arith, is.line_is); from_is = omega (arith, is.from_is, size); to_is = is.to_is }

first_place : (number at : ℕ) (divider : List ℕ) → IsPlace number at [] divider number at (at + length divider)
unfolding fed
first_place number at divider = record { line_is = omega arith; from_is = omega arith; to_is = refl }

cut_here : (word : List ℕ) (number at : ℕ) (line : List ℕ) (lines : List (List ℕ)) → is_divider word line ≡ true → CutAt word number at (line ∷ lines) number at (at + length line)
cut_here word number at line lines is =
    record { before = []; divider = line; behind = lines; cut = record { joins = refl; first = refl; is = is }; place_is = first_place number at line }

cut_later : (word : List ℕ) (number at : ℕ) (first : List ℕ) (lines : List (List ℕ)) (line from to : ℕ) → is_divider word first ≡ false → CutAt word (number + 1) (at + (length first + 1)) lines line from to → CutAt word number at (first ∷ lines) line from to
cut_later word number at first lines line from to is later = record {
  before = first ∷ later.before;
  divider = later.divider;
  behind = later.behind;
  cut = record { joins = ap (λ (ls : List (List ℕ)). first ∷ ls) later.cut.joins; first = rw is later.cut.first; is = later.cut.is };
  place_is = next_place number at first later.before later.divider line from to later.place_is;
}

-- the divider that is found cuts the lines
pub cut_found : (word : List ℕ) (number at : ℕ) (lines : List (List ℕ)) → IfSome (divider_from word number at lines) (λ place. CutAt word number at lines place.line place.from place.to)
unfolding divider_from
cut_found word number at [] = tt
cut_found word number at (line ∷ lines) =
    here_or_later (divider_from word (number + 1) (at + (length line + 1)) lines) _ (λ place. CutAt word number at (line ∷ lines) place.line place.from place.to) (is_divider word line)
    (λ is. cut_here word number at line lines is)
    (λ is. if_then (divider_from word (number + 1) (at + (length line + 1)) lines) (λ place. CutAt word (number + 1) (at + (length line + 1)) lines place.line place.from place.to)
    (λ place. CutAt word number at (line ∷ lines) place.line place.from place.to) (λ place later. cut_later word number at line lines place.line place.from place.to is later) (cut_found word (number + 1) (at + (length line + 1)) lines))

passes : (b c : Bool) → (not b && c) ≡ true → (b ≡ false) × (c ≡ true)
passes true c e = absurd (cc)
passes false c e = (refl, e)

-- the divider of lines that are cut is found
found_joined : (word : List ℕ) (number at : ℕ) (before : List (List ℕ)) (divider : List ℕ) (behind : List (List ℕ)) → list_all (λ line. not (is_divider word line)) before ≡ true → is_divider word divider ≡ true
    → MatchOption (divider_from word number at (before ++ divider ∷ behind)) ⊥ (λ place. IsPlace number at before divider place.line place.from place.to)
unfolding divider_from
found_joined word number at [] divider behind first is =
    surely_here (divider_from word (number + 1) (at + (length divider + 1)) behind) _ (λ place. IsPlace number at [] divider place.line place.from place.to) (is_divider word divider) is (first_place number at divider)
found_joined word number at (line ∷ before) divider behind first is =
    let parts = passes (is_divider word line) (list_all (λ l. not (is_divider word l)) before) first in
    surely_later (divider_from word (number + 1) (at + (length line + 1)) (before ++ divider ∷ behind)) _ (λ place. IsPlace number at (line ∷ before) divider place.line place.from place.to) (is_divider word line) parts.0
    (match_then (divider_from word (number + 1) (at + (length line + 1)) (before ++ divider ∷ behind)) (λ place. IsPlace (number + 1) (at + (length line + 1)) before divider place.line place.from place.to)
    (λ place. IsPlace number at (line ∷ before) divider place.line place.from place.to) (λ place later. next_place number at line before divider place.line place.from place.to later)
    (found_joined word (number + 1) (at + (length line + 1)) before divider behind parts.1 is))

pub found_cut : (word : List ℕ) (number at : ℕ) (lines before : List (List ℕ)) (divider : List ℕ) (behind : List (List ℕ)) → IsCut word lines before divider behind
    → MatchOption (divider_from word number at lines) ⊥ (λ place. IsPlace number at before divider place.line place.from place.to)
found_cut word number at lines before divider behind cut =
    subst (λ (ls : List (List ℕ)). MatchOption (divider_from word number at ls) ⊥ (λ place. IsPlace number at before divider place.line place.from place.to)) (sym cut.joins)
    (found_joined word number at before divider behind cut.first cut.is)

-- ---- the parts of a text that is cut

pub record PartsAre (text : List ℕ) (before behind : List (List ℕ)) (line from to : ℕ) : Type 0 where
  pub script : take from text ≡ fed before
  pub bytes : text_lines (drop (to + 1) text) ≡ whole_lines behind
  pub room : line + 1 + length (drop (to + 1) text) ≤ length text + 2

-- each line has its line feed
fed_size : (lines : List (List ℕ)) → length lines ≤ length (fed lines)
unfolding fed
fed_size [] = omega arith
fed_size (line ∷ lines) = omega (arith, fed_size lines, length-append line (10 ∷ fed lines))

drop_past : (tail : List ℕ) → length (drop 1 tail) ≤ length tail
drop_past [] = omega arith
drop_past (byte ∷ tail) = omega arith

parts_of_cut : (text : List ℕ) (before : List (List ℕ)) (divider : List ℕ) (behind : List (List ℕ)) (line from to : ℕ) → IsPlace 1 0 before divider line from to → TextCut text before divider behind → PartsAre text before behind line from to
parts_of_cut text before divider behind line from to is cut =
    let start : from ≡ length (fed before) = omega (arith, is.from_is) in
    let end : to + 1 ≡ length (fed before) + (length divider + 1) = omega (arith, is.from_is, is.to_is) in
    let script : take (length (fed before)) text ≡ fed before = ap (take (length (fed before))) cut.text_is ∙ take-append_seam (fed before) (divider ++ cut.tail) in
    let front : drop (length (fed before) + (length divider + 1)) text ≡ drop (length divider + 1) (divider ++ cut.tail) =
    ap (drop (length (fed before) + (length divider + 1))) cut.text_is ∙ drop-append-add (fed before) (divider ++ cut.tail) (length divider + 1) in
    let rest : drop (to + 1) text ≡ drop 1 cut.tail = ap (λ (n : ℕ). drop n text) end ∙ (front ∙ drop-append-add divider cut.tail 1) in
    let size : length text ≡ length (fed before) + (length divider + length cut.tail) =
    ap length cut.text_is ∙ (length-append (fed before) (divider ++ cut.tail) ∙ ap (λ (n : ℕ). length (fed before) + n) (length-append divider cut.tail)) in
    let left : length (drop (to + 1) text) ≡ length (drop 1 cut.tail) = ap length rest in
    record {
      script = ap (λ (n : ℕ). take n text) start ∙ script;
      bytes = ap text_lines rest ∙ cut.left;
      room = omega (arith, is.line_is, size, left, drop_past cut.tail, fed_size before);
    }

pub parts_are : (word text : List ℕ) (before : List (List ℕ)) (divider : List ℕ) (behind : List (List ℕ)) (line from to : ℕ) → IsCut word (lines_of text) before divider behind → IsPlace 1 0 before divider line from to → PartsAre text before behind line from to
parts_are word text before divider behind line from to cut is =
    parts_of_cut text before divider behind line from to is (text_is_cut text before divider behind cut.joins)
