-- What a text spells is read of it.
use Rattle.std.proofs.Common.{◌≡◌, ◌∙◌, refl, sym, ap, arith, ℕ, ◌+◌, ◌≤◌, Bool, true, false, eqb, ltb, List, [], ◌∷◌, ◌++◌, length, append_assoc, Some, None, Result, Ok, Err}
use Rattle.std.specs.Prelude.{◌↔◌, if◌then◌else◌}
use Rattle.std.specs.List.{AllByRecursion}
use Rattle.std.proofs.lemmas.List.{append-nil}
use Rattle.std.proofs.lemmas.Bool.Decides.{nat_tests}
use Rattle.tk_types.specs.declared.why.Why.{Why}
use Rattle.tk_types.specs.declared.why.Why.TheVariants as whys
use Rattle.tk_model.specs.Words.{words_of}
use Rattle.tk_model.specs.ScriptText.{head_words}
use Rattle.tk_raw.specs.declared.builder.Builder.{Builder}
use Rattle.tk_raw.specs.declared.builder.Reached.{Reached}
use Rattle.tk_raw.specs.declared.raw.RawScript.{RawScript}
use Rattle.tk_raw.specs.Pieces.{◌>>=◌}
use Rattle.tk_raw.specs.Lines.{text_lines, begins_note, is_kept, kept_behind, numbers_behind, kept_from, numbers_from, IsCleanLine}
use Rattle.tk_raw.specs.RawText.{raw_lines, IsRaw}
use Rattle.tk_raw.specs.RawReading.{Refusal, step, words_line, clean, read_line, is_head, nothing, no_lines, head_line, ended, then_read, read_lines, read_all, raw_reading}
use Rattle.tk_raw.specs.Spelling.{SpellsRaw}
use Rattle.tk_raw.proofs.Results.{bind_ok, fine, ok_is}
use Rattle.tk_raw.proofs.Built.{Line, made}
use Rattle.tk_raw.proofs.StepsAgain.{steps, steps_again}
use Rattle.tk_raw.proofs.TextTakes.{at_last, raw_takes}

-- what is reached behind a line, where the lines that are kept are read
pub record NextLine (number : ℕ) (reached : Reached) (words : Line) (rows : List Line) (numbers : List ℕ) (last : Builder) (kept : Bool) : Type 0 where
  pub next : Reached
  pub is : words_line number reached words ≡ Ok next
  pub read : steps next.builder rows ≡ Ok last
  pub lines : next.lines ++ numbers ≡ reached.lines ++ (if kept then number ∷ numbers else numbers)

next_word : (number : ℕ) (reached : Reached) (first : List ℕ) (words : Line) (rows : List Line) (numbers : List ℕ) (last : Builder) (note : Bool) → begins_note first ≡ note → steps reached.builder (if (if note then false else true) then (first ∷ words) ∷ rows else rows) ≡ Ok last → NextLine number reached (first ∷ words) rows numbers last (if note then false else true)
unfolding words_line steps
next_word number reached first words rows numbers last true is e = record { next = reached; is = rw is refl; read = e; lines = refl }
next_word number reached first words rows numbers last false is e =
    let d = bind_ok (step reached.builder first words) (λ b. steps b rows) last e in
    record {
      next = record { builder = d.0; lines = reached.lines ++ number ∷ [] };
      is = ap (λ (note : Bool). if note then fine reached else (step reached.builder first words >>= λ b. fine (record { builder = b; lines = reached.lines ++ number ∷ [] }))) is
          ∙ ap (λ (r : Result Builder Why). r >>= λ b. fine (record { builder = b; lines = reached.lines ++ number ∷ [] })) d.1;
      read = d.2;
      lines = append_assoc reached.lines (number ∷ []) numbers;
    }

next_line : (number : ℕ) (reached : Reached) (words : Line) (rows : List Line) (numbers : List ℕ) (last : Builder) → steps reached.builder (if is_kept words then words ∷ rows else rows) ≡ Ok last → NextLine number reached words rows numbers last (is_kept words)
unfolding is_kept words_line
next_line number reached [] rows numbers last e = record { next = reached; is = refl; read = e; lines = refl }
next_line number reached (first ∷ words) rows numbers last e = next_word number reached first words rows numbers last (begins_note first) refl e

lines_again : (number : ℕ) (reached : Reached) (lines : List (List ℕ)) (last : Builder) (raw : RawScript) → AllByRecursion IsCleanLine lines → steps reached.builder (kept_behind lines) ≡ Ok last → ended (at_last last (reached.lines ++ numbers_behind number lines)) ≡ Ok raw → read_lines number reached lines ≡ Ok raw
unfolding read_lines read_line kept_behind numbers_behind steps
lines_again number reached [] last raw is_clean read end =
    let here : reached.builder ≡ last = ok_is reached.builder last read in
    let ends : ended reached ≡ Ok raw = ap (λ (ns : List ℕ). ended (at_last reached.builder ns)) (sym (append-nil reached.lines)) ∙ (ap (λ (b : Builder). ended (at_last b (reached.lines ++ []))) here ∙ end) in
    ap (λ r. then_read number r Ok) ends
lines_again number reached (line ∷ lines) last raw is_clean read end =
    let n = next_line number reached (words_of line) (kept_behind lines) (numbers_behind (number + 1) lines) last read in
    let rest = lines_again (number + 1) n.next lines last raw is_clean.1 n.read (ap (λ (ns : List ℕ). ended (at_last last ns)) n.lines ∙ end) in
    ap (λ fault. then_read number (clean fault (words_line number reached (words_of line))) (λ next. read_lines (number + 1) next lines)) is_clean.0
    ∙ (ap (λ r. then_read number r (λ next. read_lines (number + 1) next lines)) n.is ∙ rest)

is_some_length : (n : ℕ) → 1 ≤ n → eqb n 0 ≡ false
is_some_length n some = grind (arith, nat_tests)

ended_again : (raw : RawScript) → IsRaw raw → ended (at_last (made raw.devices raw.pace raw.irqs (Some raw.boot) raw.bodies None) raw.lines) ≡ Ok raw
unfolding ended
ended_again raw is = rw (is_some_length (length raw.bodies) is.few_bodies.0) refl

head_is_head : is_head head_words ≡ true
unfolding is_head
head_is_head = refl

-- lines that spell a script are read as it
from_lines : (lines : List (List ℕ)) (raw : RawScript) → AllByRecursion IsCleanLine lines → kept_from lines ≡ head_words ∷ raw_lines raw → raw.lines ≡ numbers_from lines → IsRaw raw → read_all lines ≡ Ok raw
unfolding read_all kept_from numbers_from head_line
from_lines [] raw is_clean kept numbers is = absurd (cc)
from_lines (line ∷ lines) raw is_clean kept numbers is =
    let first : words_of line ≡ head_words = ap first_of kept in
    let behind : kept_behind lines ≡ raw_lines raw = ap rest_of kept in
    let head : is_head (words_of line) ≡ true = ap is_head first ∙ head_is_head in
    let read = ap (steps nothing) behind ∙ steps_again raw is in
    let end = ap (λ (ns : List ℕ). ended (at_last (made raw.devices raw.pace raw.irqs (Some raw.boot) raw.bodies None) ns)) (sym numbers) ∙ ended_again raw is in
    let rest = lines_again 2 no_lines lines (made raw.devices raw.pace raw.irqs (Some raw.boot) raw.bodies None) raw is_clean.1 read end in
    ap (λ fault. then_read 1 (clean fault (if is_head (words_of line) then fine no_lines else Err whys.Head)) (λ reached. read_lines 2 reached lines)) is_clean.0
    ∙ (ap (λ (t : Bool). then_read 1 (if t then fine no_lines else Err whys.Head) (λ reached. read_lines 2 reached lines)) head ∙ rest)
  where
    first_of : List Line → Line
    first_of [] = []
    first_of (first ∷ lines) = first

    rest_of : List Line → List Line
    rest_of [] = []
    rest_of (first ∷ lines) = lines

not_long : (n : ℕ) → n ≤ 1048576 → ltb 1048576 n ≡ false
not_long n short = grind (arith, nat_tests)

-- what a text spells is read of it
pub raw_again : (text : List ℕ) (raw : RawScript) → SpellsRaw text raw → raw_reading text ≡ Ok raw
unfolding raw_reading
raw_again text raw spells = rw (not_long (length text) spells.short) (from_lines (text_lines text) raw spells.clean spells.lines spells.numbers spells.script)

abbrev whole : RawScript → Result RawScript Refusal
whole raw = Ok raw

same_whole : (raw other : RawScript) → whole raw ≡ whole other → raw ≡ other
same_whole raw other e = cc

-- no text spells two scripts
pub one_raw : (text : List ℕ) (raw other : RawScript) → SpellsRaw text raw → SpellsRaw text other → raw ≡ other
one_raw text raw other spells also = same_whole raw other (sym (raw_again text raw spells) ∙ raw_again text other also)

-- a text is read as a script exactly where it spells that script
pub reading_is : (text : List ℕ) (raw : RawScript) → (raw_reading text ≡ Ok raw) ↔ SpellsRaw text raw
reading_is text raw = (raw_takes text raw, raw_again text raw)
