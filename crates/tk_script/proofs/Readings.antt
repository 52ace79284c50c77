-- What is read of a text is what the text spells.
use Rattle.std.specs.Prelude.{◌↔◌}
use Rattle.std.proofs.Common.{◌≡◌, ◌∙◌, sym, ap, refl, ℕ, List, [], ◌∷◌, length, Option, Some, None, Result, Ok, Err, IfOk}
use Rattle.tk_types.specs.declared.memory.OutOfMemory.{OutOfMemory}
use Rattle.tk_types.specs.declared.script.Script.{Script}
use Rattle.tk_types.specs.declared.script.Reading.{Reading}
use Rattle.tk_types.specs.declared.script.Reading.TheVariants as readings
use Rattle.tk_model.specs.TextLines.{kept_behind, kept_from, kept_lines, kept_numbers, numbers_from, text_lines}
use Rattle.tk_model.specs.ScriptText.{head_words, Spells}
use Rattle.tk_raw.specs.RawReading.{Refusal, raw_reading}
use Rattle.tk_raw.specs.RawText.{raw_lines}
use Rattle.tk_raw.specs.Spelling.{SpellsRaw}
use Rattle.tk_raw.specs.declared.raw.RawScript.{RawScript}
use Rattle.tk_raw.proofs.TextTakes.{as_many_numbers, raw_takes}
use Rattle.tk_raw.proofs.TextAgain.{raw_again}
use Rattle.tk_script.specs.Resolving.{◌>>=◌, resolved}
use Rattle.tk_script.specs.Reading.{answer, reading}
use Rattle.tk_script.proofs.ArgumentLaws.{bind_ok}
use Rattle.tk_script.proofs.Weaving.{sure, sure_is}
use Rattle.tk_script.proofs.ScriptLaws.{script_takes, script_again}

pub reading_takes : (text : List ℕ) (script : Script) → reading text ≡ Ok script → Spells text script
unfolding reading
reading_takes text script e =
    let b = bind_ok (raw_reading text) resolved script e in
    let raw = raw_takes text b.0 b.1 in
    let taken = script_takes b.0 script raw.script b.2 in
    record { short = raw.short; clean = raw.clean; lines = raw.lines ∙ sym taken.lines; script_is = taken.is }

as_many : (lines : List (List ℕ)) (first : List (List ℕ)) (rest : List (List (List ℕ))) → kept_from lines ≡ first ∷ rest → length (numbers_from lines) ≡ length rest
unfolding kept_from numbers_from
as_many [] first rest e = absurd (cc)
as_many (head ∷ lines) first rest e =
    let same : kept_behind lines ≡ rest = cc in
    as_many_numbers 2 lines ∙ ap (λ (ls : List (List (List ℕ))). length ls) same

pub reading_again : (text : List ℕ) (script : Script) → Spells text script → reading text ≡ Ok script
unfolding reading
reading_again text script spells =
    let written = script_again script (kept_numbers text) spells.script_is in
    let lines : kept_lines text ≡ head_words ∷ raw_lines written.raw = spells.lines ∙ written.text.lines in
    let numbered : length (kept_numbers text) ≡ length (raw_lines written.raw) = as_many (text_lines text) head_words (raw_lines written.raw) lines in
    let raw : SpellsRaw text written.raw = record { short = spells.short; clean = spells.clean; lines = lines; numbers = written.text.numbers_are; script = written.text.is numbered } in
    ap (λ o. o >>= resolved) (raw_again text written.raw raw) ∙ written.text.found

pub reading_is : (text : List ℕ) (script : Script) → (reading text ≡ Ok script) ↔ Spells text script
reading_is text script = (reading_takes text script, reading_again text script)

-- no text spells two scripts
pub spells_one : (text : List ℕ) (one other : Script) → Spells text one → Spells text other → one ≡ other
spells_one text one other first second = sure_is one other (sym (reading_again text one first) ∙ reading_again text other second)

pub answer_ok : (read : Result Script Refusal) (script : Script) → answer read ≡ readings.Script script → read ≡ Ok script
answer_ok (Err refusal) script e = absurd (cc)
answer_ok (Ok other) script e = cc

pub reading_found : (text : List ℕ) (result : Result Reading OutOfMemory) → IfOk result (λ read. read ≡ answer (reading text)) → IfOk result (λ read. (script : Script) → read ≡ readings.Script script → Spells text script)
reading_found text (Ok read) exact = λ script e. reading_takes text script (answer_ok (reading text) script (sym exact ∙ e))
reading_found text (Err error) exact = tt

pub reading_only : (text : List ℕ) (result : Result Reading OutOfMemory) → IfOk result (λ read. read ≡ answer (reading text)) → (script : Script) → Spells text script → IfOk result (λ read. read ≡ readings.Script script)
reading_only text (Ok read) exact script spells = exact ∙ ap answer (reading_again text script spells)
reading_only text (Err error) exact script spells = tt

-- ---- refusals

pub never_refused : (text : List ℕ) (script : Script) (refusal : Refusal) → Spells text script → reading text ≡ Err refusal → ⊥
never_refused text script refusal spells e = let found = reading_again text script spells in cc

refusal_of : (read : Result Script Refusal) → ((script : Script) → read ≡ Ok script → ⊥) → (refusal : Refusal) × (read ≡ Err refusal)
refusal_of (Ok script) never = absurd (never script refl)
refusal_of (Err refusal) never = (refusal, refl)

pub else_refused : (text : List ℕ) → ((script : Script) → Spells text script → ⊥) → (refusal : Refusal) × (reading text ≡ Err refusal)
else_refused text never = refusal_of (reading text) (λ script e. never script (reading_takes text script e))
