-- Bytes that are the texts of a trace's lines, one by one.
use Rattle.std.proofs.Common.{◌≡◌, ◌≢◌, ℕ, ◌+◌, cond, List, [], ◌∷◌, ◌++◌, length, map, Option, Some, None, Result, Ok, Err, refl, sym, ap, subst, ◌∙◌, append_assoc, append-nil}
use Rattle.std.specs.Prelude.{IfNone, IfOk, IfSome}
use Rattle.std.specs.List.{AllByRecursion}
use Rattle.std.specs.Str.{bytes_eq}
use Rattle.std.proofs.lemmas.List.Elements.{filter_map-append}
use Rattle.std.proofs.lemmas.Slice.Eq.{bytes_eq-Decides}
use Rattle.tk_types.specs.declared.line.Entry.{Entry}
use Rattle.tk_types.specs.declared.line.Line.{Line}
use Rattle.tk_types.specs.declared.memory.OutOfMemory.{OutOfMemory}
use Rattle.tk_types.specs.declared.why.Why.TheVariants.{Trace}
use Rattle.tk_model.specs.Journal.{entry_of, journal_of}
use Rattle.tk_model.specs.LineRanges.{IsLine}
use Rattle.tk_model.specs.LineText.{text_of_line}
use Rattle.tk_model.specs.TextLines.{text_lines}
use Rattle.tk_model.specs.Words.{parts_of}
use Rattle.tk_raw.specs.RawReading.{Refusal}
use Rattle.tk_text.proofs.Options.{value_chosen}
use Rattle.tk_trace.specs.Reading.{line_at}
use Rattle.tk_trace.proofs.Texts.{text_read}
use Rattle.tk_session.specs.Reading.{with_front}
use Rattle.tk_session.specs.TracedAnswers.{entries_of}
use Rattle.tk_session.specs.TracedReading.{before_lines, line_of, lines_from, then_lines, with_text}
use Rattle.tk_session.proofs.LineFits.{line_fits}
use Rattle.tk_session.proofs.LineLaws.{no_lines_left}

-- ---- one line

text_is : (bytes : List ℕ) (read : Option Line) (line : Line) → IfSome read IsLine → with_text bytes read ≡ Some line → (bytes ≡ text_of_line line) × IsLine line
text_is bytes None line fits e = absurd (cc)
text_is bytes (Some found) line fits e =
    let chosen = value_chosen (bytes_eq (text_of_line found) bytes) found line e in
    subst (λ (l : Line). (bytes ≡ text_of_line l) × IsLine l) chosen.1 (sym ((bytes_eq-Decides (text_of_line found) bytes).0 chosen.0), fits)

-- bytes that are read as a line are that line's text
pub line_text : (bytes : List ℕ) (line : Line) → line_of bytes ≡ Some line → (bytes ≡ text_of_line line) × IsLine line
unfolding line_of
line_text bytes line e = text_is bytes (line_at (parts_of 32 bytes)) line (line_fits (parts_of 32 bytes)) e

-- the text of a line is read as that line
pub line_again : (line : Line) → IsLine line → line_of (text_of_line line) ≡ Some line
unfolding line_of
line_again line is =
    ap (with_text (text_of_line line)) (text_read line is)
    ∙ ap (λ b. cond b (Some line) None) ((bytes_eq-Decides (text_of_line line) (text_of_line line)).1 refl)

never_read : (bytes : List ℕ) (read : Option Line) → line_of bytes ≡ read → ((line : Line) → IsLine line → bytes ≢ text_of_line line) → None ≡ read
never_read bytes None is never = refl
never_read bytes (Some line) is never = let text = line_text bytes line is in absurd (never line text.1 text.0)

line_is : (bytes : List ℕ) (read : Option Line) → IfSome read (λ line. (bytes ≡ text_of_line line) × IsLine line) → IfNone read ((line : Line) → IsLine line → bytes ≢ text_of_line line) → read ≡ line_of bytes
line_is bytes None some never = never_read bytes (line_of bytes) refl never
line_is bytes (Some line) some never = sym (ap line_of some.0 ∙ line_again line some.1)

-- an exact reading of a line
pub line_read : (bytes : List ℕ) (result : Result (Option Line) OutOfMemory) → IfOk result (λ read. IfSome read (λ line. (bytes ≡ text_of_line line) × IsLine line)) → IfOk result (λ read. IfNone read ((line : Line) → IsLine line → bytes ≢ text_of_line line))
    → IfOk result (λ read. read ≡ line_of bytes)
line_read bytes (Ok read) some never = line_is bytes read some never
line_read bytes (Err error) some never = tt

-- ---- the entries of one line after another

-- no entry was read before
pub no_entries : (read : Result (List Line) Refusal) → with_front [] (entries_of read) ≡ entries_of read
no_entries (Ok lines) = refl
no_entries (Err refusal) = refl

entries_before : (front : List Entry) (line : Line) (later : Result (List Line) Refusal) → with_front front (entries_of (before_lines line later)) ≡ with_front (front ++ journal_of (line ∷ [])) (entries_of later)
entries_before front line (Ok lines) =
    ap (λ (entries : List Entry). Ok entries)
    (ap (λ (entries : List Entry). front ++ entries) (filter_map-append entry_of (line ∷ []) lines) ∙ sym (append_assoc front (journal_of (line ∷ [])) (journal_of lines)))
entries_before front line (Err refusal) = refl

-- the next bytes are a line's text
pub trace_passed : (number : ℕ) (front : List Entry) (line : Line) (bytes : List ℕ) (lines rest : List (List ℕ)) (all : Result (List Entry) Refusal)
    → lines ≡ bytes ∷ rest → line_of bytes ≡ Some line → with_front front (entries_of (lines_from number lines)) ≡ all → with_front (front ++ journal_of (line ∷ [])) (entries_of (lines_from (number + 1) rest)) ≡ all
unfolding lines_from
trace_passed number front line bytes lines rest all cut read same =
    sym (entries_before front line (lines_from (number + 1) rest))
    ∙ (ap (λ (r : Option Line). with_front front (entries_of (then_lines number r (lines_from (number + 1) rest)))) (sym read)
    ∙ (ap (λ (ls : List (List ℕ)). with_front front (entries_of (lines_from number ls))) (sym cut) ∙ same))

-- the next bytes are no line's text
pub trace_refused : (number : ℕ) (front : List Entry) (bytes : List ℕ) (lines rest : List (List ℕ)) (all : Result (List Entry) Refusal)
    → lines ≡ bytes ∷ rest → line_of bytes ≡ None → with_front front (entries_of (lines_from number lines)) ≡ all → all ≡ Err (number, Trace)
unfolding lines_from
trace_refused number front bytes lines rest all cut read same =
    sym same ∙ (ap (λ (ls : List (List ℕ)). with_front front (entries_of (lines_from number ls))) cut
    ∙ ap (λ (r : Option Line). with_front front (entries_of (then_lines number r (lines_from (number + 1) rest)))) read)

-- no line is left
pub trace_end : (number : ℕ) (front : List Entry) (bytes : List ℕ) (all : Result (List Entry) Refusal)
    → length bytes ≡ 0 → with_front front (entries_of (lines_from number (text_lines bytes))) ≡ all → all ≡ Ok front
unfolding lines_from
trace_end number front bytes all none same =
    sym same ∙ (ap (λ (ls : List (List ℕ)). with_front front (entries_of (lines_from number ls))) (no_lines_left bytes none) ∙ ap (λ (es : List Entry). Ok es) (append-nil front))

-- ---- all lines

texts_before : {bytes : List ℕ} {texts : List (List ℕ)} {lines : List Line} (number : ℕ) (read : Option Line) → line_of bytes ≡ read → (later : Result (List Line) Refusal) → lines_from (number + 1) texts ≡ later
    → then_lines number read later ≡ Ok lines → ((more : List Line) → lines_from (number + 1) texts ≡ Ok more → (texts ≡ map text_of_line more) × AllByRecursion IsLine more)
    → (bytes ∷ texts ≡ map text_of_line lines) × AllByRecursion IsLine lines
texts_before number None is later rest e behind = absurd (cc)
texts_before number (Some line) is (Err refusal) rest e behind = absurd (cc)
texts_before {bytes} {texts} {lines} number (Some line) is (Ok more) rest e behind =
    let text = line_text bytes line is in
    let others = behind more rest in
    let same : line ∷ more ≡ lines = cc in
    subst (λ (ls : List Line). (bytes ∷ texts ≡ map text_of_line ls) × AllByRecursion IsLine ls) same (rw (text.0, others.0) refl, (text.1, others.1))

-- texts that are read are those of the lines
pub lines_texts : (number : ℕ) (texts : List (List ℕ)) (lines : List Line) → lines_from number texts ≡ Ok lines → (texts ≡ map text_of_line lines) × AllByRecursion IsLine lines
unfolding lines_from
lines_texts number [] lines e = let none : [] ≡ lines = cc in subst (λ (ls : List Line). ([] ≡ map text_of_line ls) × AllByRecursion IsLine ls) none (refl, tt)
lines_texts number (bytes ∷ texts) lines e = texts_before number (line_of bytes) refl (lines_from (number + 1) texts) refl e (λ more is. lines_texts (number + 1) texts more is)

-- the texts of lines are read as them
pub lines_again : (number : ℕ) (lines : List Line) → AllByRecursion IsLine lines → lines_from number (map text_of_line lines) ≡ Ok lines
unfolding lines_from
lines_again number [] all = refl
lines_again number (line ∷ lines) all = rw (line_again line all.0, lines_again (number + 1) lines all.1) refl
