-- The lines of a text, one by one.
use Rattle.std.proofs.Common.{◌≡◌, ◌≢◌, ◌∙◌, sym, ap, subst, refl, arith, ℕ, ◌+◌, ◌<◌, ◌≤◌, Bool, true, false, cond, eqb, List, [], ◌∷◌, length, Option, Some, None, Result, Ok, Err}
use Rattle.std.specs.List.{slice_split, onto_first}
use Rattle.std.proofs.lemmas.Bool.Decides.{nat_tests}
use Rattle.tk_types.specs.declared.why.Why.{Why}
use Rattle.tk_text.specs.Tokens.{parts_left, room_left}
use Rattle.tk_model.specs.Words.{parts_of, is_word}
use Rattle.tk_raw.specs.Lines.{text_lines, whole_lines}
use Rattle.tk_types.specs.declared.why.Why.TheVariants.{Head}
use Rattle.tk_raw.specs.RawReading.{Refusal, then_read, head_line, read_line, read_lines, read_all, raw_reading}
use Rattle.tk_raw.specs.Gives.{Gives, GivesText}
use Rattle.tk_raw.specs.TextLoops.{text_behind, in_line}
use Rattle.tk_raw.specs.declared.builder.Reached.{Reached}
use Rattle.tk_raw.specs.declared.errors.ReadError.{ReadError}
use Rattle.tk_raw.specs.declared.errors.ReadError.TheVariants as errors
use Rattle.tk_raw.specs.declared.errors.TextError.{TextError}
use Rattle.tk_raw.specs.declared.raw.RawScript.{RawScript}

some_first : (byte : ℕ) (parts : List (List ℕ)) → onto_first byte parts ≢ []
some_first byte [] e = absurd (cc)
some_first byte (part ∷ parts) e = absurd (cc)

some_split : (p : ℕ → Bool) (bytes : List ℕ) → slice_split p bytes ≢ []
some_split p [] e = absurd (cc)
some_split p (byte ∷ bytes) e =
    elim (p byte) as (λ t. cond t ([] ∷ slice_split p bytes) (onto_first byte (slice_split p bytes)) ≡ [] → ⊥)
    [ true ↦ λ h. absurd (cc) | false ↦ λ h. some_first byte (slice_split p bytes) h ] e

some_part : (mark : ℕ) (bytes : List ℕ) → parts_of mark bytes ≢ []
unfolding parts_of
some_part mark bytes e = some_split (λ byte. eqb byte mark) bytes e

word_with_bytes : (part : List ℕ) → 0 < length part → is_word part ≡ true
word_with_bytes part some = grind (arith, nat_tests)

whole_more : (line : List ℕ) (parts : List (List ℕ)) → parts ≢ [] → whole_lines (line ∷ parts) ≡ line ∷ whole_lines parts
unfolding whole_lines
whole_more line [] some = absurd (some refl)
whole_more line (part ∷ parts) some = refl

pub no_text_lines : text_lines [] ≡ []
unfolding text_lines whole_lines parts_of
no_text_lines = refl

alone : (line : List ℕ) → 0 < length line → whole_lines (line ∷ []) ≡ line ∷ []
unfolding whole_lines
alone line some = rw (word_with_bytes line some) refl

-- the first line, and those behind it
pub next_line : (bytes line : List ℕ) (rest : Option (List ℕ)) → 0 < length bytes → parts_of 10 bytes ≡ line ∷ parts_left 10 rest → length line + room_left rest ≡ length bytes → text_lines bytes ≡ line ∷ text_lines (text_behind rest)
unfolding text_lines
next_line bytes line None some parts room =
    ap whole_lines parts ∙ alone line (omega (arith, room, some)) ∙ ap (λ (ls : List (List ℕ)). line ∷ ls) (sym no_text_lines)
next_line bytes line (Some behind) some parts room = ap whole_lines parts ∙ whole_more line (parts_of 10 behind) (some_part 10 behind)

-- the next line is read
pub line_passed : (number : ℕ) (reached next : Reached) (line : List ℕ) (lines rest : List (List ℕ)) (all : Result RawScript Refusal) → lines ≡ line ∷ rest → read_line number reached line ≡ Ok next → read_lines number reached lines ≡ all → read_lines (number + 1) next rest ≡ all
unfolding read_lines
line_passed number reached next line lines rest all cut read same =
    let e = subst (λ (ls : List (List ℕ)). read_lines number reached ls ≡ all) cut same in rw read at e

-- what is wrong with a line is so in the text
pub refused_in_line : {A : Type 0} (number : ℕ) (error : ReadError) (read : Result A Why) (next : A → Result RawScript Refusal) → Gives {X = A} (λ (x : A). x) (Err error) read → GivesText {X = RawScript} (λ (raw : RawScript). raw) (Err (in_line number error)) (then_read number read next)
refused_in_line number errors.Memory read next gives = tt
refused_in_line number (errors.Refused why) read next gives = ap (λ r. then_read number r next) gives

-- the next line is refused
pub line_refused : (number : ℕ) (reached : Reached) (line : List ℕ) (lines rest : List (List ℕ)) (all : Result RawScript Refusal) (error : ReadError) → lines ≡ line ∷ rest → Gives {X = Reached} (λ (b : Reached). b) (Err error) (read_line number reached line) → read_lines number reached lines ≡ all → GivesText {X = RawScript} (λ (raw : RawScript). raw) (Err (in_line number error)) all
unfolding read_lines
line_refused number reached line lines rest all error cut read same =
    subst (λ (r : Result RawScript Refusal). GivesText {X = RawScript} (λ (raw : RawScript). raw) (Err (in_line number error)) r) (sym (ap (read_lines number reached) cut) ∙ same)
    (refused_in_line number error (read_line number reached line) (λ next. read_lines (number + 1) next rest) read)

pub refused_here : (number : ℕ) (reached : Reached) (line : List ℕ) (lines rest : List (List ℕ)) (all : Result RawScript Refusal) (error : ReadError) (read : Result Reached ReadError) (result : TextError) → lines ≡ line ∷ rest → read ≡ Err error → Gives {X = Reached} (λ (b : Reached). b) read (read_line number reached line) → result ≡ in_line number error → read_lines number reached lines ≡ all → GivesText {X = RawScript} (λ (raw : RawScript). raw) (Err result) all
refused_here number reached line lines rest all error read result cut is gives named same =
    subst (λ (e : TextError). GivesText {X = RawScript} (λ (raw : RawScript). raw) (Err e) all) (sym named)
    (line_refused number reached line lines rest all error cut (subst (λ (r : Result Reached ReadError). Gives {X = Reached} (λ (b : Reached). b) r (read_line number reached line)) is gives) same)

-- nothing is left but the end
pub at_end : (number : ℕ) (reached : Reached) (bytes : List ℕ) (all : Result RawScript Refusal) (result : Result RawScript TextError) → length bytes ≡ 0 → GivesText {X = RawScript} (λ (raw : RawScript). raw) result (read_lines number reached []) → read_lines number reached (text_lines bytes) ≡ all → GivesText {X = RawScript} (λ (raw : RawScript). raw) result all
at_end number reached [] all result none gives same = subst (λ (r : Result RawScript Refusal). GivesText {X = RawScript} (λ (raw : RawScript). raw) result r) (sym (ap (read_lines number reached) no_text_lines) ∙ same) gives
at_end number reached (byte ∷ bytes) all result none gives same = absurd (omega (arith, none))

pub room_behind : (number size : ℕ) (line : List ℕ) (rest : Option (List ℕ)) → 0 < size → length line + room_left rest ≡ size → number + size ≤ 1048578 → number + 1 + length (text_behind rest) ≤ 1048578
room_behind number size line None some room fits = omega (arith, some, fits)
room_behind number size line (Some behind) some room fits = omega (arith, room, fits)

pub passed_here : (number : ℕ) (reached next : Reached) (line bytes : List ℕ) (lines rest : List (List ℕ)) (all : Result RawScript Refusal) (read : Result Reached ReadError) → lines ≡ line ∷ rest → read ≡ Ok next → Gives {X = Reached} (λ (b : Reached). b) read (read_line number reached line) → text_lines bytes ≡ rest → read_lines number reached lines ≡ all → read_lines (number + 1) next (text_lines bytes) ≡ all
passed_here number reached next line bytes lines rest all read cut is gives left same =
    ap (read_lines (number + 1) next) left ∙ line_passed number reached next line lines rest all cut (subst (λ (r : Result Reached ReadError). Gives {X = Reached} (λ (b : Reached). b) r (read_line number reached line)) is gives) same

-- line 1 is read
pub first_read : (reached : Reached) (line bytes : List ℕ) (lines rest : List (List ℕ)) (read : Result Reached ReadError) (result : Result RawScript TextError) → lines ≡ line ∷ rest → read ≡ Ok reached → Gives {X = Reached} (λ (b : Reached). b) read (head_line line) → text_lines bytes ≡ rest → GivesText {X = RawScript} (λ (raw : RawScript). raw) result (read_lines 2 reached (text_lines bytes)) → GivesText {X = RawScript} (λ (raw : RawScript). raw) result (read_all lines)
unfolding read_all
first_read reached line bytes lines rest read result cut is gives left read_on =
    let head : head_line line ≡ Ok reached = subst (λ (r : Result Reached ReadError). Gives {X = Reached} (λ (b : Reached). b) r (head_line line)) is gives in
    let all : read_all lines ≡ read_lines 2 reached (text_lines bytes) = ap read_all cut ∙ (ap (λ r. then_read 1 r (λ b. read_lines 2 b rest)) head ∙ ap (read_lines 2 reached) (sym left)) in
    subst (λ (r : Result RawScript Refusal). GivesText {X = RawScript} (λ (raw : RawScript). raw) result r) (sym all) read_on

-- line 1 is refused
pub first_refused : (line : List ℕ) (lines rest : List (List ℕ)) (error : ReadError) (read : Result Reached ReadError) (result : TextError) → lines ≡ line ∷ rest → read ≡ Err error → Gives {X = Reached} (λ (b : Reached). b) read (head_line line) → result ≡ in_line 1 error → GivesText {X = RawScript} (λ (raw : RawScript). raw) (Err result) (read_all lines)
unfolding read_all
first_refused line lines rest error read result cut is gives named =
    subst (λ (e : TextError). GivesText {X = RawScript} (λ (raw : RawScript). raw) (Err e) (read_all lines)) (sym named)
    (subst (λ (r : Result RawScript Refusal). GivesText {X = RawScript} (λ (raw : RawScript). raw) (Err (in_line 1 error)) r) (sym (ap read_all cut))
    (refused_in_line 1 error (head_line line) (λ b. read_lines 2 b rest) (subst (λ (r : Result Reached ReadError). Gives {X = Reached} (λ (b : Reached). b) r (head_line line)) is gives)))

-- a text without bytes has no line 1
pub no_first_line : (text : List ℕ) → length text ≡ 0 → raw_reading text ≡ Err (1, Head)
unfolding raw_reading read_all
no_first_line [] none = rw no_text_lines refl
no_first_line (byte ∷ text) none = absurd (omega (arith, none))
