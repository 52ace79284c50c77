-- What is read of a text is what the text spells.
use Rattle.std.proofs.Common.{◌≡◌, ◌∙◌, refl, sym, ap, subst, arith, ℕ, suc, ◌+◌, ◌≤◌, Bool, true, false, cond, eqb, ltb, List, [], ◌∷◌, ◌++◌, length, append_assoc, Option, Some, None, Result, Ok, Err}
use Rattle.std.specs.Prelude.{bytes_eq, codes, nat_lt, IfSome, flat_map, if◌then◌else◌}
use Rattle.std.specs.List.{AllByRecursion}
use Rattle.std.specs.Option.{is_some}
use Rattle.std.proofs.lemmas.List.{append-nil}
use Rattle.std.proofs.lemmas.Bool.Decides.{nat_tests}
use Rattle.std.proofs.lemmas.Slice.Eq.{bytes_eq-Decides}
use Rattle.tk_types.specs.declared.why.Why.{Why}
use Rattle.tk_types.specs.declared.why.Why.TheVariants as whys
use Rattle.tk_model.specs.Words.{words_of, line_fault}
use Rattle.tk_model.specs.ScriptText.{head_words, all_differ, StepsRise}
use Rattle.tk_raw.specs.declared.builder.Builder.{Builder}
use Rattle.tk_raw.specs.declared.builder.Reached.{Reached}
use Rattle.tk_raw.specs.declared.raw.RawBoot.{RawBoot}
use Rattle.tk_raw.specs.declared.raw.RawScript.{RawScript}
use Rattle.tk_raw.specs.Pieces.{◌>>=◌}
use Rattle.tk_raw.specs.Lines.{text_lines, begins_note, is_kept, kept_behind, numbers_behind, kept_from, numbers_from, IsCleanLine}
use Rattle.tk_raw.specs.RawText.{raw_body_lines, raw_lines, IsRaw}
use Rattle.tk_raw.specs.RawReading.{Refusal, step, words_line, clean, read_line, is_head, nothing, no_lines, head_line, script_of, script_with, ended, then_read, read_lines, read_all, raw_reading}
use Rattle.tk_raw.specs.Spelling.{SpellsRaw}
use Rattle.tk_raw.proofs.Results.{bind_ok, fine, ok_is, passed, not_failed, both_true, none_of}
use Rattle.tk_raw.proofs.Built.{Line, IsBuilt, built_lines}
use Rattle.tk_raw.proofs.HeaderLaws.{IsBoot}
use Rattle.tk_raw.proofs.StepTakes.{step_takes, closed_names, names_of}
use Rattle.tk_raw.proofs.StepsAgain.{steps, one_more}

-- the lines that are read are those of what was read, behind those before
steps_take : (b : Builder) (rows : List Line) (last : Builder) → IsBuilt b → steps b rows ≡ Ok last → IsBuilt last × (built_lines last ≡ built_lines b ++ rows)
unfolding steps
steps_take b [] last is e = let same = ok_is b last e in (subst IsBuilt same is, ap (λ (x : Builder). built_lines x) (sym same) ∙ sym (append-nil (built_lines b)))
steps_take b ([] ∷ rows) last is e = absurd (cc)
steps_take b ((first ∷ words) ∷ rows) last is e =
    let d = bind_ok (step b first words) (λ next. steps next rows) last e in
    let g = step_takes b first words d.0 is d.1 in
    let t = steps_take d.0 rows last g.built d.2 in
    (t.0, t.1 ∙ (ap (λ (ls : List Line). ls ++ rows) g.lines ∙ append_assoc (built_lines b) ((first ∷ words) ∷ []) rows))

then_ok : {A : Type 0} (number : ℕ) (read : Result A Why) (next : A → Result RawScript Refusal) (raw : RawScript) → then_read number read next ≡ Ok raw → (x : A) × (read ≡ Ok x) × (next x ≡ Ok raw)
then_ok number (Ok x) next raw e = (x, refl, e)
then_ok number (Err why) next raw e = absurd (cc)

end_ok : (number : ℕ) (read : Result RawScript Why) (raw : RawScript) → then_read number read Ok ≡ Ok raw → read ≡ Ok raw
end_ok number (Ok x) raw e = let same : x ≡ raw = cc in ap fine same
end_ok number (Err why) raw e = absurd (cc)

clean_ok : {A : Type 0} (fault : Option Why) (read : Result A Why) (y : A) → clean fault read ≡ Ok y → (fault ≡ None) × (read ≡ Ok y)
clean_ok None read y e = (refl, e)
clean_ok (Some why) read y e = absurd (cc)

-- what a line that is kept, or skipped, adds
abbrev AddsLine : ℕ → Reached → Reached → Line → List Line → List ℕ → Builder → Bool → Type 0
AddsLine number reached next words rows numbers last kept =
    (steps reached.builder (if kept then words ∷ rows else rows) ≡ Ok last) × (reached.lines ++ (if kept then number ∷ numbers else numbers) ≡ next.lines ++ numbers)

word_adds : (number : ℕ) (reached next : Reached) (first : List ℕ) (words : Line) (rows : List Line) (numbers : List ℕ) (last : Builder) (note : Bool) → cond note (fine reached) (step reached.builder first words >>= λ b. fine (record { builder = b; lines = reached.lines ++ number ∷ [] })) ≡ Ok next → steps next.builder rows ≡ Ok last → AddsLine number reached next (first ∷ words) rows numbers last (if note then false else true)
word_adds number reached next first words rows numbers last true e read =
    let same = ok_is reached next e in
    (ap (λ (r : Reached). steps r.builder rows) same ∙ read, ap (λ (r : Reached). r.lines ++ numbers) same)
word_adds number reached next first words rows numbers last false e read =
    let d = bind_ok (step reached.builder first words) (λ b. fine (record { builder = b; lines = reached.lines ++ number ∷ [] })) next e in
    let same = ok_is (record { builder = d.0; lines = reached.lines ++ number ∷ [] }) next d.2 in (
      one_more reached.builder d.0 first words rows d.1 ∙ (ap (λ (r : Reached). steps r.builder rows) same ∙ read),
      sym (append_assoc reached.lines (number ∷ []) numbers) ∙ ap (λ (r : Reached). r.lines ++ numbers) same,
    )

line_adds : (number : ℕ) (reached next : Reached) (words : Line) (rows : List Line) (numbers : List ℕ) (last : Builder) → words_line number reached words ≡ Ok next → steps next.builder rows ≡ Ok last → AddsLine number reached next words rows numbers last (is_kept words)
unfolding words_line is_kept
line_adds number reached next [] rows numbers last e read =
    let same = ok_is reached next e in
    (ap (λ (r : Reached). steps r.builder rows) same ∙ read, ap (λ (r : Reached). r.lines ++ numbers) same)
line_adds number reached next (first ∷ words) rows numbers last e read = word_adds number reached next first words rows numbers last (begins_note first) e read

-- what was reached behind lines that are all read
abbrev pub at_last : Builder → List ℕ → Reached
at_last builder lines = record { builder = builder; lines = lines }

pub record TakenLines (number : ℕ) (reached : Reached) (lines : List (List ℕ)) (raw : RawScript) : Type 0 where
  pub last : Builder
  pub clean : AllByRecursion IsCleanLine lines
  pub read : steps reached.builder (kept_behind lines) ≡ Ok last
  pub end : ended (at_last last (reached.lines ++ numbers_behind number lines)) ≡ Ok raw

lines_take : (number : ℕ) (reached : Reached) (lines : List (List ℕ)) (raw : RawScript) → read_lines number reached lines ≡ Ok raw → TakenLines number reached lines raw
unfolding read_lines read_line kept_behind numbers_behind steps
lines_take number reached [] raw e = record {
  last = reached.builder;
  clean = tt;
  read = refl;
  end = ap (λ (ns : List ℕ). ended (at_last reached.builder ns)) (append-nil reached.lines) ∙ end_ok number (ended reached) raw e;
}
lines_take number reached (line ∷ lines) raw e =
    let t = then_ok number (read_line number reached line) (λ next. read_lines (number + 1) next lines) raw e in
    let c = clean_ok (line_fault line) (words_line number reached (words_of line)) t.0 t.1 in
    let rest = lines_take (number + 1) t.0 lines raw t.2 in
    let adds = line_adds number reached t.0 (words_of line) (kept_behind lines) (numbers_behind (number + 1) lines) rest.last c.1 rest.read in
    record {
      last = rest.last;
      clean = (c.0, rest.clean);
      read = adds.0;
      end = ap (λ (ns : List ℕ). ended (at_last rest.last ns)) adds.1 ∙ rest.end;
    }

some_is_there : (n : ℕ) → eqb n 0 ≡ false → 1 ≤ n
some_is_there n e = grind (arith, nat_tests)

-- at the end no body is open, and there is a boot line and a body
pub record TakenEnd (reached : Reached) (raw : RawScript) : Type 0 where
  pub closed : reached.builder.current ≡ None
  pub boot : reached.builder.boot ≡ Some raw.boot
  pub some : 1 ≤ length reached.builder.bodies
  pub is : raw ≡ script_of reached.builder raw.boot reached.lines

with_boot : (reached : Reached) (boot : Option RawBoot) (raw : RawScript) → reached.builder.boot ≡ boot → reached.builder.current ≡ None → script_with boot reached.builder reached.lines ≡ Ok raw → TakenEnd reached raw
with_boot reached None raw is closed e = absurd (cc)
with_boot reached (Some boot) raw is closed e =
    let p = not_failed (eqb (length reached.builder.bodies) 0) (fine (script_of reached.builder boot reached.lines)) whys.End raw e in
    let same = ok_is (script_of reached.builder boot reached.lines) raw p.1 in
    subst (TakenEnd reached) same (record { closed = closed; boot = is; some = some_is_there (length reached.builder.bodies) p.0; is = refl })

end_takes : (reached : Reached) (raw : RawScript) → ended reached ≡ Ok raw → TakenEnd reached raw
unfolding ended
end_takes reached raw e =
    let p = not_failed (is_some reached.builder.current) (script_with reached.builder.boot reached.builder reached.lines) whys.End raw e in
    with_boot reached reached.builder.boot raw refl (none_of reached.builder.current p.0) p.1

pub as_many_numbers : (number : ℕ) (lines : List (List ℕ)) → length (numbers_behind number lines) ≡ length (kept_behind lines)
unfolding numbers_behind kept_behind
as_many_numbers number [] = refl
as_many_numbers number (line ∷ lines) =
    elim (is_kept (words_of line)) as (λ t. length (if t then number ∷ numbers_behind (number + 1) lines else numbers_behind (number + 1) lines) ≡ length (if t then words_of line ∷ kept_behind lines else kept_behind lines))
    [ true ↦ ap suc (as_many_numbers (number + 1) lines) | false ↦ as_many_numbers (number + 1) lines ]

built_nothing : IsBuilt nothing
unfolding StepsRise all_differ
built_nothing = record {
  few_devices = omega arith;
  devices = tt;
  devices_differ = refl;
  pace = tt;
  few_irqs = omega arith;
  irqs = omega arith;
  boot = tt;
  few_bodies = omega arith;
  bodies_differ = refl;
  bodies = tt;
  current = tt;
  order = (refl, refl);
}

-- the lines of what was read in the end
whole_lines_of : (b : Builder) (boot : RawBoot) (numbers : List ℕ) → b.boot ≡ Some boot → b.current ≡ None → built_lines b ≡ raw_lines (script_of b boot numbers)
unfolding raw_lines
whole_lines_of b boot numbers with_boot closed = rw (with_boot, closed, append-nil (flat_map raw_body_lines b.bodies)) refl

whole_script : (b : Builder) (boot : RawBoot) (numbers : List ℕ) → IsBuilt b → b.boot ≡ Some boot → b.current ≡ None → 1 ≤ length b.bodies → length numbers ≡ length (raw_lines (script_of b boot numbers)) → IsRaw (script_of b boot numbers)
whole_script b boot numbers is with_boot closed some numbered =
    let boot_is : IsBoot boot = subst (λ (o : Option RawBoot). IfSome o IsBoot) with_boot is.boot in
    let names = closed_names b closed in
    let few : length b.bodies ≤ 255 = subst (λ (n : ℕ). n ≤ 255) (ap (λ (ns : List (List ℕ)). length ns) names ∙ names_of b.bodies) is.few_bodies in
    record {
      few_devices = is.few_devices;
      devices = is.devices;
      devices_differ = is.devices_differ;
      pace = is.pace;
      few_irqs = is.few_irqs;
      irqs = is.irqs;
      boot_body = boot_is.0;
      boot_priority = boot_is.1;
      few_bodies = (some, few);
      bodies_differ = ap all_differ (sym names) ∙ is.bodies_differ;
      bodies = is.bodies;
      numbered = numbered;
    }

head_takes : (words : Line) → is_head words ≡ true → words ≡ head_words
unfolding is_head
head_takes [] e = absurd (cc)
head_takes (utk ∷ []) e = absurd (cc)
head_takes (utk ∷ one ∷ []) e =
    let t = both_true (bytes_eq utk (codes "utk")) (bytes_eq one (codes "1")) e in
    ap (λ (w : List ℕ). w ∷ one ∷ []) ((bytes_eq-Decides utk (codes "utk")).0 t.0) ∙ ap (λ (w : List ℕ). codes "utk" ∷ w ∷ []) ((bytes_eq-Decides one (codes "1")).0 t.1)
head_takes (utk ∷ one ∷ other ∷ words) e = absurd (cc)

-- what lines spell
pub record SpelledLines (lines : List (List ℕ)) (raw : RawScript) : Type 0 where
  pub clean : AllByRecursion IsCleanLine lines
  pub kept : kept_from lines ≡ head_words ∷ raw_lines raw
  pub numbers : raw.lines ≡ numbers_from lines
  pub script : IsRaw raw

behind_head : (line : List ℕ) (lines : List (List ℕ)) (raw : RawScript) → line_fault line ≡ None → is_head (words_of line) ≡ true → read_lines 2 no_lines lines ≡ Ok raw → SpelledLines (line ∷ lines) raw
unfolding kept_from numbers_from
behind_head line lines raw is_clean head e =
    let t = lines_take 2 no_lines lines raw e in
    let s = steps_take nothing (kept_behind lines) t.last built_nothing t.read in
    let d = end_takes (at_last t.last (numbers_behind 2 lines)) raw t.end in
    let script = script_of t.last raw.boot (numbers_behind 2 lines) in
    let all : kept_behind lines ≡ raw_lines script = sym s.1 ∙ whole_lines_of t.last raw.boot (numbers_behind 2 lines) d.boot d.closed in
    let numbered : length (numbers_behind 2 lines) ≡ length (raw_lines script) = as_many_numbers 2 lines ∙ ap (λ (ls : List Line). length ls) all in
    record {
      clean = (is_clean, t.clean);
      kept = ap (λ (w : Line). w ∷ kept_behind lines) (head_takes (words_of line) head) ∙ (ap (λ (ls : List Line). head_words ∷ ls) all ∙ ap (λ (r : RawScript). head_words ∷ raw_lines r) (sym d.is));
      numbers = ap (λ (r : RawScript). r.lines) d.is;
      script = subst IsRaw (sym d.is) (whole_script t.last raw.boot (numbers_behind 2 lines) s.0 d.boot d.closed d.some numbered);
    }

all_take : (lines : List (List ℕ)) (raw : RawScript) → read_all lines ≡ Ok raw → SpelledLines lines raw
unfolding read_all head_line
all_take [] raw e = absurd (cc)
all_take (line ∷ lines) raw e =
    let t = then_ok 1 (head_line line) (λ reached. read_lines 2 reached lines) raw e in
    let c = clean_ok (line_fault line) (if is_head (words_of line) then fine no_lines else Err whys.Head) t.0 t.1 in
    let p = passed (is_head (words_of line)) (fine no_lines) whys.Head t.0 c.1 in
    behind_head line lines raw c.0 p.0 (ap (λ (r : Reached). read_lines 2 r lines) (ok_is no_lines t.0 p.1) ∙ t.2)

short_of : (n : ℕ) → ltb 1048576 n ≡ false → n ≤ 1048576
short_of n e = grind (arith, nat_tests)

text_passed : (b : Bool) (read : Result RawScript Refusal) (refusal : Refusal) (raw : RawScript) → cond b (Err refusal) read ≡ Ok raw → (b ≡ false) × (read ≡ Ok raw)
text_passed true read refusal raw e = absurd (cc)
text_passed false read refusal raw e = (refl, e)

-- what is read of a text is what it spells
pub raw_takes : (text : List ℕ) (raw : RawScript) → raw_reading text ≡ Ok raw → SpellsRaw text raw
unfolding raw_reading
raw_takes text raw e =
    let p = text_passed (nat_lt 1048576 (length text)) (read_all (text_lines text)) (0, whys.Long) raw e in
    let t = all_take (text_lines text) raw p.1 in
    record { short = short_of (length text) p.0; clean = t.clean; lines = t.kept; numbers = t.numbers; script = t.script }
