-- What is read of a text as a script with a trace is what the text spells.
use denote.Ref.{Bor}
use Rattle.std.specs.Prelude.{◌↔◌, IfOk}
use Rattle.std.proofs.Common.{◌≡◌, ℕ, ◌+◌, ◌≤◌, Bool, true, false, cond, eqb, List, [], ◌∷◌, length, Option, Some, None, Result, Ok, Err, refl, sym, ap, subst, ◌∙◌, arith, length-append}
use Rattle.std.specs.List.{cons_option}
use Rattle.std.proofs.lemmas.List.{length-map}
use Rattle.std.proofs.lemmas.List.Splits.{length-slice_split}
use Rattle.std.proofs.lemmas.List.Sums.{count_by-le-length}
use Rattle.tk_types.specs.declared.line.Entry.{Entry}
use Rattle.tk_types.specs.declared.line.Line.{Line}
use Rattle.tk_types.specs.declared.memory.OutOfMemory.{OutOfMemory}
use Rattle.tk_types.specs.declared.script.Script.{Script}
use Rattle.tk_model.specs.Journal.{entry_of, journal_of}
use Rattle.tk_model.specs.LineText.{text_of_line}
use Rattle.tk_model.specs.TextLines.{text_lines, whole_lines}
use Rattle.tk_model.specs.Words.{is_word, lines_of, parts_of}
use Rattle.tk_text.specs.Sessions.{Rest, divider_word, session_limit}
use Rattle.tk_text.specs.declared.session.Divider.TheVariants as dividers
use Rattle.tk_raw.specs.RawReading.{Refusal}
use Rattle.tk_session.specs.TracedAnswers.{AnswersTraced, IfTraced, Shows, ShowsTraced, entries_of}
use Rattle.tk_session.specs.TracedReading.{TracedScript, lines_from, trace_behind, traced_reading, with_lines}
use Rattle.tk_session.specs.TracedSpelling.{SpellsTraced}
use Rattle.tk_session.specs.declared.traced.TracedReading.{TracedReading}
use Rattle.tk_session.specs.declared.traced.TracedReading.TheVariants as readings
use Rattle.tk_session.proofs.PartLaws.{SpellsParts, one_read, parts_again, parts_take, refusal_of}
use Rattle.tk_session.proofs.TraceLaws.{lines_again, lines_texts}

-- ---- what is read is spelled

record HasLines (script : Script) (read : Result (List Line) Refusal) (traced : TracedScript) : Type 0 where
  pub lines : List Line
  pub read_is : read ≡ Ok lines
  pub same : record { script = script; lines = lines } ≡ traced

has_lines : (script : Script) (read : Result (List Line) Refusal) (found : TracedScript) → with_lines script read ≡ Ok found → HasLines script read found
has_lines script (Err refusal) found e = absurd (cc)
has_lines script (Ok lines) found e =
    let made : TracedScript = record { script = script; lines = lines } in
    let same : made ≡ found = cc in record { lines = lines; read_is = refl; same = same }

spelled_parts : (text : List ℕ) (found : TracedScript) → SpellsParts (divider_word dividers.Trace) text trace_behind found → SpellsTraced text found
spelled_parts text found p =
    let read = has_lines p.script (lines_from p.rest.line (text_lines p.rest.bytes)) found p.read_is in
    let texts = lines_texts p.rest.line (text_lines p.rest.bytes) read.lines read.read_is in
    subst (SpellsTraced text) read.same (record {
      short = p.short;
      before = p.before;
      divider = p.divider;
      behind = p.behind;
      cut = p.cut;
      script = p.spells;
      trace = sym p.bytes ∙ texts.0;
      lines = texts.1;
    })

pub traced_takes : (text : List ℕ) (found : TracedScript) → traced_reading text ≡ Ok found → SpellsTraced text found
unfolding traced_reading
traced_takes text found e = spelled_parts text found (parts_take dividers.Trace text trace_behind found e)

-- ---- what is spelled is read

trace_again : (text : List ℕ) (spelled : TracedScript) (s : SpellsTraced text spelled) (rest : Rest) → text_lines rest.bytes ≡ whole_lines s.behind → trace_behind spelled.script rest ≡ Ok spelled
trace_again text spelled s rest bytes =
    ap (with_lines spelled.script) (ap (lines_from rest.line) (bytes ∙ s.trace) ∙ lines_again rest.line spelled.lines s.lines)

pub traced_again : (text : List ℕ) (spelled : TracedScript) → SpellsTraced text spelled → traced_reading text ≡ Ok spelled
unfolding traced_reading
traced_again text spelled s =
    parts_again dividers.Trace text s.before s.divider s.behind spelled.script trace_behind spelled s.short s.cut s.script (trace_again text spelled s)

pub traced_is : (text : List ℕ) (traced : TracedScript) → (traced_reading text ≡ Ok traced) ↔ SpellsTraced text traced
traced_is text traced = (traced_takes text traced, traced_again text traced)

-- no text spells two
pub traced_one : (text : List ℕ) (one other : TracedScript) → SpellsTraced text one → SpellsTraced text other → one ≡ other
traced_one text one other first second = one_read (traced_reading text) one other (traced_again text one first) (traced_again text other second)

-- ---- refusals

pub never_refused : (text : List ℕ) (spelled : TracedScript) (refusal : Refusal) → SpellsTraced text spelled → traced_reading text ≡ Err refusal → ⊥
never_refused text spelled refusal s e = let found = traced_again text spelled s in cc

pub else_refused : (text : List ℕ) → ((spelled : TracedScript) → SpellsTraced text spelled → ⊥) → (refusal : Refusal) × (traced_reading text ≡ Err refusal)
else_refused text never = refusal_of (traced_reading text) (λ found e. never found (traced_takes text found e))

-- ---- how many entries there are

whole_few : (lines : List (List ℕ)) → length (whole_lines lines) ≤ length lines
unfolding whole_lines
whole_few [] = omega arith
whole_few (part ∷ []) = last_few (is_word part)
  where
    last_few : (counts : Bool) → length (cond counts (part ∷ []) []) ≤ 1
    last_few true = omega arith
    last_few false = omega arith
whole_few (part ∷ next ∷ lines) = omega (arith, whole_few (next ∷ lines))

lines_few : (text : List ℕ) → length (lines_of text) ≤ length text + 1
unfolding parts_of
lines_few text = omega (arith, length-slice_split (λ byte. eqb byte 10) text, count_by-le-length (λ byte. eqb byte 10) text)

one_more : (made : Option Entry) (entries : List Entry) (size : ℕ) → length entries ≤ size → length (cons_option made entries) ≤ size + 1
one_more None entries size few = omega (arith, few)
one_more (Some entry) entries size few = omega (arith, few)

entries_few : (lines : List Line) → length (journal_of lines) ≤ length lines
entries_few [] = omega arith
entries_few (line ∷ lines) = omega (arith, one_more (entry_of line) (journal_of lines) (length lines) (entries_few lines))

traced_few : (text : List ℕ) (traced : TracedScript) → SpellsTraced text traced → length (journal_of traced.lines) ≤ session_limit
traced_few text traced s =
    let lines : length (whole_lines s.behind) ≡ length traced.lines = ap length s.trace ∙ length-map traced.lines text_of_line in
    let joins : length (lines_of text) ≡ length s.before + length (s.divider ∷ s.behind) = ap length s.cut.joins ∙ length-append s.before (s.divider ∷ s.behind) in
    omega (arith, lines, joins, whole_few s.behind, lines_few text, s.short, entries_few traced.lines)

-- ---- answers

-- entries that were read of lines, with the script before them
pub entries_answer : (script : Script) (journal : List Entry) (given : Bor (List ℕ)) (number : ℕ) → entries_of (lines_from number (text_lines given.now)) ≡ Ok journal
    → AnswersTraced (readings.Traced (record { script = script; journal = journal; given = given })) (with_lines script (lines_from number (text_lines given.now)))
entries_answer script journal given number e = from (lines_from number (text_lines given.now)) refl e
  where
    from : (read : Result (List Line) Refusal) → lines_from number (text_lines given.now) ≡ read → entries_of read ≡ Ok journal
        → AnswersTraced (readings.Traced (record { script = script; journal = journal; given = given })) (with_lines script read)
    from (Err refusal) is e = absurd (cc)
    from (Ok lines) is e =
        let same : journal_of lines ≡ journal = cc in
        let texts = lines_texts number (text_lines given.now) lines is in
        (record { script = script; lines = lines }, refl, record { script = refl; journal = sym same; given = texts.0 })

pub answer_found : (text : List ℕ) (result : Result TracedReading OutOfMemory) → IfOk result (λ read. AnswersTraced read (traced_reading text))
    → IfOk result (λ read. IfTraced read (λ answered. (traced : TracedScript) × SpellsTraced text traced × Shows answered traced))
answer_found text (Ok (readings.Traced answered)) (traced, is, shows) = (traced, traced_takes text traced is, shows)
answer_found text (Ok (readings.Refused line why)) exact = tt
answer_found text (Err error) exact = tt

pub answer_only : (text : List ℕ) (result : Result TracedReading OutOfMemory) → IfOk result (λ read. AnswersTraced read (traced_reading text)) → (spelled : TracedScript) → SpellsTraced text spelled → IfOk result (λ read. ShowsTraced read spelled)
answer_only text (Ok (readings.Traced answered)) (traced, is, shows) spelled s =
    subst (Shows answered) (one_read (traced_reading text) traced spelled is (traced_again text spelled s)) shows
answer_only text (Ok (readings.Refused line why)) exact spelled s = never_refused text spelled (line, why) s exact
answer_only text (Err error) exact spelled s = tt

pub answer_few : (text : List ℕ) (result : Result TracedReading OutOfMemory) → IfOk result (λ read. AnswersTraced read (traced_reading text)) → IfOk result (λ read. IfTraced read (λ answered. length answered.journal ≤ session_limit))
answer_few text (Ok (readings.Traced answered)) (traced, is, shows) =
    let few = traced_few text traced (traced_takes text traced is) in
    subst (λ (entries : List Entry). length entries ≤ session_limit) (sym shows.journal) few
answer_few text (Ok (readings.Refused line why)) exact = tt
answer_few text (Err error) exact = tt
