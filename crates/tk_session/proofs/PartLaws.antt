-- What is read of a script and of what stands behind its divider, and what the text spells, for each word that divides.
use Rattle.std.proofs.Common.{◌≡◌, ℕ, ◌+◌, ◌<◌, ◌≤◌, ◌^◌, Bool, true, false, ltb, cond, ◌||◌, List, length, take, drop, Some, None, Result, Ok, Err, refl, sym, ap, subst, ◌∙◌, arith}
use Rattle.std.proofs.lemmas.Bool.Decides.{nat_tests}
use Rattle.tk_types.specs.declared.script.Script.{Script}
use Rattle.tk_model.specs.ScriptText.{Spells}
use Rattle.tk_model.specs.TextLines.{text_lines, whole_lines}
use Rattle.tk_model.specs.Words.{lines_of}
use Rattle.tk_text.specs.Sessions.{Parts, Rest, divider_at, divider_word, parts_at, script_limit, session, session_limit, within_limits}
use Rattle.tk_text.specs.declared.session.Divider.{Divider}
use Rattle.tk_raw.specs.RawReading.{Refusal}
use Rattle.tk_script.specs.Reading.{reading}
use Rattle.tk_script.specs.Resolving.{◌>>=◌}
use Rattle.tk_script.proofs.ArgumentLaws.{bind_ok}
use Rattle.tk_script.proofs.Readings.{reading_again, reading_takes}
use Rattle.tk_session.specs.Reading.{behind_script, parts_reading}
use Rattle.tk_session.specs.Spelling.{IsCut, fed}
use Rattle.tk_session.proofs.Cuts.{CutAt, IsPlace, PartsAre, cut_found, found_cut, if_found, parts_are, surely_found}

-- ---- the limits

not_past : (n limit : ℕ) → ltb limit n ≡ false → n ≤ limit
not_past n limit e = grind (arith, nat_tests)

is_not_past : (n limit : ℕ) → n ≤ limit → ltb limit n ≡ false
is_not_past n limit e = grind (arith, nat_tests)

chosen : (a b : Bool) (parts found : Parts) → cond (a || b) None (Some parts) ≡ Some found → (a ≡ false) × (b ≡ false) × (parts ≡ found)
chosen true b parts found e = absurd (cc)
chosen false true parts found e = absurd (cc)
chosen false false parts found e = (refl, refl, cc)

-- a text whose parts are found is within its limits
record IsFound (text : List ℕ) (parts found : Parts) : Type 0 where
  pub short : length text ≤ session_limit
  pub small : length parts.script ≤ script_limit
  pub same : parts ≡ found

is_found : (text : List ℕ) (parts found : Parts) → within_limits text parts ≡ Some found → IsFound text parts found
is_found text parts found e =
    let c = chosen (ltb session_limit (length text)) (ltb script_limit (length parts.script)) parts found e in
    record { short = not_past (length text) session_limit c.0; small = not_past (length parts.script) script_limit c.1; same = c.2 }

-- parts within the limits are found
found_is : (text : List ℕ) (parts : Parts) → length text ≤ session_limit → length parts.script ≤ script_limit → within_limits text parts ≡ Some parts
found_is text parts short small = rw (is_not_past (length text) session_limit short, is_not_past (length parts.script) script_limit small) refl

-- ---- the parts at a place

abbrev rest_at : List ℕ → ℕ → ℕ → Rest
rest_at text line to = record { line = line + 1; bytes = drop (to + 1) text }

abbrev cut_parts : List ℕ → ℕ → ℕ → ℕ → Parts
cut_parts text line from to = record { script = take from text; behind = Some (rest_at text line to) }

abbrev whole_parts : List ℕ → Parts
whole_parts text = record { script = text; behind = None }

-- ---- the room of line numbers

pub session_short : (divider : Divider) (text : List ℕ) (parts : Parts) → Some parts ≡ session divider text → length text ≤ session_limit
session_short divider text parts e = (is_found text (parts_at text (divider_at (divider_word divider) text)) parts (sym e)).short

placed_room : (word text : List ℕ) (rest : Rest) (line from to : ℕ) → CutAt word 1 0 (lines_of text) line from to → Some (rest_at text line to) ≡ Some rest → rest.line + length rest.bytes ≤ length text + 2
placed_room word text rest line from to c e =
    let same : rest_at text line to ≡ rest = cc in
    subst (λ (r : Rest). r.line + length r.bytes ≤ length text + 2) same (parts_are word text c.before c.divider c.behind line from to c.cut c.place_is).room

rest_room : (word text : List ℕ) (rest : Rest) → (parts_at text (divider_at word text)).behind ≡ Some rest → rest.line + length rest.bytes ≤ length text + 2
rest_room word text rest =
    if_found (divider_at word text) (λ place. CutAt word 1 0 (lines_of text) place.line place.from place.to)
    (λ found. (parts_at text found).behind ≡ Some rest → rest.line + length rest.bytes ≤ length text + 2) (cut_found word 1 0 (lines_of text))
    (λ e. absurd (cc)) (λ place c e. placed_room word text rest place.line place.from place.to c e)

pub session_room : (divider : Divider) (text : List ℕ) (parts : Parts) (rest : Rest) → Some parts ≡ session divider text → parts.behind ≡ Some rest → rest.line + length rest.bytes < 2 ^ 32
session_room divider text parts rest e behind =
    let found = is_found text (parts_at text (divider_at (divider_word divider) text)) parts (sym e) in
    let room : rest.line + length rest.bytes ≤ length text + 2 = rest_room (divider_word divider) text rest (ap (λ (p : Parts). p.behind) found.same ∙ behind) in
    omega (arith, room, found.short)

-- ---- what is read is spelled

-- a text cut at its divider, whose script is spelled, and what is read of the bytes behind it, which have the lines behind
pub record SpellsParts {A : Type 0} (word text : List ℕ) (read : Script → Rest → Result A Refusal) (found : A) : Type 0 where
  pub short : length text ≤ session_limit
  pub before : List (List ℕ)
  pub divider : List ℕ
  pub behind : List (List ℕ)
  pub cut : IsCut word (lines_of text) before divider behind
  pub script : Script
  pub spells : Spells (fed before) script
  pub rest : Rest
  pub room : rest.line + length rest.bytes ≤ length text + 2
  pub bytes : text_lines rest.bytes ≡ whole_lines behind
  pub read_is : read script rest ≡ Ok found

-- a text whose parts are read
record IsRead {A : Type 0} (text : List ℕ) (parts : Parts) (read : Script → Rest → Result A Refusal) (found : A) : Type 0 where
  pub short : length text ≤ session_limit
  pub read_is : (reading parts.script >>= behind_script read text parts.behind) ≡ Ok found

parts_chosen : {A : Type 0} (a b : Bool) (text : List ℕ) (parts : Parts) (read : Script → Rest → Result A Refusal) (found : A) → parts_reading read text (cond (a || b) None (Some parts)) ≡ Ok found
    → (a ≡ false) × ((reading parts.script >>= behind_script read text parts.behind) ≡ Ok found)
parts_chosen true b text parts read found e = absurd (cc)
parts_chosen false true text parts read found e = absurd (cc)
parts_chosen false false text parts read found e = (refl, e)

parts_read : {A : Type 0} (text : List ℕ) (parts : Parts) (read : Script → Rest → Result A Refusal) (found : A) → parts_reading read text (within_limits text parts) ≡ Ok found → IsRead text parts read found
parts_read text parts read found e =
    let c = parts_chosen (ltb session_limit (length text)) (ltb script_limit (length parts.script)) text parts read found e in
    record { short = not_past (length text) session_limit c.0; read_is = c.1 }

spelled_at : {A : Type 0} (word text : List ℕ) (line from to : ℕ) (read : Script → Rest → Result A Refusal) (found : A) → CutAt word 1 0 (lines_of text) line from to → IsRead text (cut_parts text line from to) read found → SpellsParts word text read found
spelled_at word text line from to read found c is =
    let parts = parts_are word text c.before c.divider c.behind line from to c.cut c.place_is in
    let script = bind_ok (reading (take from text)) (behind_script read text (Some (rest_at text line to))) found is.read_is in
    let spells : Spells (fed c.before) script.0 = subst (λ (t : List ℕ). Spells t script.0) parts.script (reading_takes (take from text) script.0 script.1) in
    record {
      short = is.short;
      before = c.before;
      divider = c.divider;
      behind = c.behind;
      cut = c.cut;
      script = script.0;
      spells = spells;
      rest = rest_at text line to;
      room = parts.room;
      bytes = parts.bytes;
      read_is = script.2;
    }

without_divider : {A B : Type 0} (text : List ℕ) (script : Result Script Refusal) (read : Script → Rest → Result A Refusal) (found : A) → (script >>= behind_script read text None) ≡ Ok found → B
without_divider text (Ok script) read found e = absurd (cc)
without_divider text (Err refusal) read found e = absurd (cc)

-- a text that is read is cut at its divider
pub parts_take : {A : Type 0} (divider : Divider) (text : List ℕ) (read : Script → Rest → Result A Refusal) (found : A) → parts_reading read text (session divider text) ≡ Ok found → SpellsParts (divider_word divider) text read found
parts_take divider text read found =
    let word = divider_word divider in
    if_found (divider_at word text) (λ place. CutAt word 1 0 (lines_of text) place.line place.from place.to)
    (λ place. parts_reading read text (within_limits text (parts_at text place)) ≡ Ok found → SpellsParts word text read found) (cut_found word 1 0 (lines_of text))
    (λ e. without_divider text (reading text) read found (parts_read text (whole_parts text) read found e).read_is)
    (λ place c e. spelled_at word text place.line place.from place.to read found c (parts_read text (cut_parts text place.line place.from place.to) read found e))

-- ---- what is spelled is read

read_at : {A : Type 0} (text : List ℕ) (before behind : List (List ℕ)) (script : Script) (read : Script → Rest → Result A Refusal) (found : A) (line from to : ℕ) → length text ≤ session_limit → Spells (fed before) script
    → ((rest : Rest) → text_lines rest.bytes ≡ whole_lines behind → read script rest ≡ Ok found) → PartsAre text before behind line from to → parts_reading read text (within_limits text (cut_parts text line from to)) ≡ Ok found
read_at text before behind script read found line from to short spells behind_is parts =
    let small : length (take from text) ≤ script_limit = rw (parts.script) spells.short in
    let script_is : reading (take from text) ≡ Ok script = ap reading (parts.script) ∙ reading_again (fed before) script spells in
    ap (parts_reading read text) (found_is text (cut_parts text line from to) short small)
    ∙ (ap (λ (r : Result Script Refusal). r >>= behind_script read text (Some (rest_at text line to))) script_is
    ∙ behind_is (rest_at text line to) parts.bytes)

-- a text that is cut at its divider is read
pub parts_again : {A : Type 0} (divider : Divider) (text : List ℕ) (before : List (List ℕ)) (line : List ℕ) (behind : List (List ℕ)) (script : Script) (read : Script → Rest → Result A Refusal) (found : A) → length text ≤ session_limit
    → IsCut (divider_word divider) (lines_of text) before line behind → Spells (fed before) script → ((rest : Rest) → text_lines rest.bytes ≡ whole_lines behind → read script rest ≡ Ok found) → parts_reading read text (session divider text) ≡ Ok found
parts_again divider text before line behind script read found short cut spells behind_is =
    let word = divider_word divider in
    surely_found (divider_at word text) (λ place. IsPlace 1 0 before line place.line place.from place.to)
    (λ place. parts_reading read text (within_limits text (parts_at text place)) ≡ Ok found) (found_cut word 1 0 (lines_of text) before line behind cut)
    (λ place is. read_at text before behind script read found place.line place.from place.to short spells behind_is
    (parts_are word text before line behind place.line place.from place.to cut is))

-- ---- refusals

pub refusal_of : {A : Type 0} (read : Result A Refusal) → ((found : A) → read ≡ Ok found → ⊥) → (refusal : Refusal) × (read ≡ Err refusal)
refusal_of (Ok found) never = absurd (never found refl)
refusal_of (Err refusal) never = (refusal, refl)

-- what is read is one
pub one_read : {A E : Type 0} (read : Result A E) (one other : A) → read ≡ Ok one → read ≡ Ok other → one ≡ other
one_read (Ok found) one other e f = let first : found ≡ one = cc in let second : found ≡ other = cc in sym first ∙ second
one_read (Err error) one other e f = absurd (cc)
