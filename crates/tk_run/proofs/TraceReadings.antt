-- What is read of an input is a script with a trace, and its front up to the limit decides how it is read.
use Rattle.std.proofs.Common.{◌≡◌, ◌⊎◌, inl, inr, ℕ, ◌+◌, ◌<◌, ◌≤◌, List, length, take, Option, Some, Result, Ok, Err, IfSome, refl, subst, sym, ap, ◌∙◌, arith}
use Rattle.std.proofs.lemmas.List.{take_all, length-take-le}
use Rattle.std.proofs.lemmas.Bool.{lt-ltb}
use Rattle.tk_types.specs.declared.run.Mode.{Mode}
use Rattle.tk_types.specs.declared.script.Script.{Script}
use Rattle.tk_types.specs.declared.why.Why.{Why}
use Rattle.tk_types.specs.declared.why.Why.TheVariants.{Long}
use Rattle.kernel_model.specs.Bodies.Statements.{IsRunnable}
use Rattle.dev_layer.specs.Tables.{AreDevices}
use Rattle.tk_session.specs.TracedAnswers.{AnswersTraced, Shows}
use Rattle.tk_session.specs.TracedReading.{TracedScript, traced_reading}
use Rattle.tk_session.specs.TracedSpelling.{SpellsTraced}
use Rattle.tk_session.specs.declared.traced.Traced.{Traced}
use Rattle.tk_session.specs.declared.traced.TracedReading.TheVariants as readings
use Rattle.tk_run.specs.Outcomes.{Outcome, refusal_outcome}
use Rattle.tk_run.specs.Verdicts.{trace_reading_outcome, traced_outcome, verify_outcome}
use Rattle.tk_run.proofs.Devices.{spelled_devices}
use Rattle.tk_run.proofs.Readings.{spelled_runs}
use Rattle.tk_run.proofs.SessionReadings.{within_or_past}
use Rattle.tk_run.proofs.Told.{told_then}

-- ---- the limit

long_is_refused : (text : List ℕ) → 67108864 < length text → traced_reading text ≡ Err (0, Long)
unfolding traced_reading
long_is_refused text long = rw (lt-ltb 67108864 (length text) long) refl

front_decides : (text input : List ℕ) → text ≡ take (67108864 + 1) input → (length input ≤ 67108864) ⊎ (67108864 < length input) → traced_reading text ≡ traced_reading input
front_decides text input is (inl short) = ap traced_reading (is ∙ take_all (67108864 + 1) input (omega arith))
front_decides text input is (inr long) =
    let size : length text ≡ 67108864 + 1 = ap length is ∙ length-take-le (67108864 + 1) input (omega arith) in
    long_is_refused text (omega arith) ∙ sym (long_is_refused input long)

-- the outcome of the text that was read is that of the whole input
verify_decides : (mode : Mode) (budget : ℕ) (text input : List ℕ) → text ≡ take (67108864 + 1) input → verify_outcome mode budget text ≡ verify_outcome mode budget input
unfolding verify_outcome
verify_decides mode budget text input is = ap (trace_reading_outcome mode budget) (front_decides text input is (within_or_past (length input) 67108864))

pub told_verdict : (left : Option (List ℕ)) (mode : Mode) (budget : ℕ) (text : List ℕ) (P : Outcome → Type 0) → IfSome left (λ input. text ≡ take (67108864 + 1) input) → P (verify_outcome mode budget text) → IfSome left (λ input. P (verify_outcome mode budget input))
told_verdict left mode budget text P read holds =
    told_then left (λ input. text ≡ take (67108864 + 1) input) (λ input. P (verify_outcome mode budget input)) (λ input is. rw (sym (verify_decides mode budget text input is)) holds) read

-- ---- what was read

-- the script can be run
pub traced_runs : (text : List ℕ) (answered : Traced) → (traced : TracedScript) × SpellsTraced text traced × Shows answered traced → IsRunnable answered.script × AreDevices answered.script.devices
traced_runs text answered (traced, spells, shows) = (
  subst IsRunnable (sym shows.script) (spelled_runs _ traced.script spells.script),
  subst (λ (script : Script). AreDevices script.devices) (sym shows.script) (spelled_devices _ traced.script spells.script),
)

-- what holds of the run of what was read, holds of the input
pub traced_answers : (mode : Mode) (budget : ℕ) (text : List ℕ) (answered : Traced) (P : Outcome → Type 0) → AnswersTraced (readings.Traced answered) (traced_reading text) → ((shown : TracedScript) → Shows answered shown → P (traced_outcome mode budget shown)) → P (verify_outcome mode budget text)
unfolding verify_outcome
traced_answers mode budget text answered P (traced, is, shows) holds = rw is (holds traced shows)

pub refused_answers : (mode : Mode) (budget : ℕ) (text : List ℕ) (line : ℕ) (why : Why) (P : Outcome → Type 0) → traced_reading text ≡ Err (line, why) → P (refusal_outcome line why) → P (verify_outcome mode budget text)
unfolding verify_outcome
refused_answers mode budget text line why P is holds = rw is holds
