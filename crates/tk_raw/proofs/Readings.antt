-- What is answered, by what a text spells.
use Rattle.std.proofs.Common.{◌≡◌, ◌∙◌, sym, ap, ℕ, List, Result, Ok, Err}
use Rattle.std.specs.Prelude.{IfOk}
use Rattle.tk_types.specs.declared.memory.OutOfMemory.{OutOfMemory}
use Rattle.tk_raw.specs.Answers.{answer}
use Rattle.tk_raw.specs.RawReading.{Refusal, raw_reading}
use Rattle.tk_raw.specs.Spelling.{SpellsRaw}
use Rattle.tk_raw.specs.declared.raw.RawScript.{RawScript}
use Rattle.tk_raw.specs.declared.read.RawReading.{RawReading}
use Rattle.tk_raw.specs.declared.read.RawReading.TheVariants as readings
use Rattle.tk_raw.proofs.TextTakes.{raw_takes}
use Rattle.tk_raw.proofs.TextAgain.{raw_again}

answer_ok : (read : Result RawScript Refusal) (raw : RawScript) → answer read ≡ readings.Raw raw → read ≡ Ok raw
answer_ok (Ok other) raw e = cc
answer_ok (Err refusal) raw e = absurd (cc)

pub reading_found : (text : List ℕ) (result : Result RawReading OutOfMemory) → IfOk result (λ reading. reading ≡ answer (raw_reading text)) → IfOk result (λ reading. (raw : RawScript) → reading ≡ readings.Raw raw → SpellsRaw text raw)
reading_found text (Ok reading) exact = λ raw e. raw_takes text raw (answer_ok (raw_reading text) raw (sym exact ∙ e))
reading_found text (Err error) exact = tt

pub reading_only : (text : List ℕ) (result : Result RawReading OutOfMemory) → IfOk result (λ reading. reading ≡ answer (raw_reading text)) → (raw : RawScript) → SpellsRaw text raw → IfOk result (λ reading. reading ≡ readings.Raw raw)
reading_only text (Ok reading) exact raw spells = exact ∙ ap answer (raw_again text raw spells)
reading_only text (Err error) exact raw spells = tt
