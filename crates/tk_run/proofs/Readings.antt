-- The input within the limit decides how it is read, and what is read is spelled.
use Rattle.std.specs.Prelude.{IfOk}
use Rattle.std.proofs.Common.{◌≡◌, ◌⊎◌, ℕ, ◌+◌, ◌<◌, ◌≤◌, List, take, length, Result, Ok, Err, inl, inr, refl, sym, ap, ◌∙◌, arith}
use Rattle.std.proofs.lemmas.List.{take_all, length-take-le}
use Rattle.std.proofs.lemmas.Bool.{lt-ltb}
use Rattle.std.proofs.lemmas.Bool.Decides.{leb_tells}
use Rattle.tk_types.specs.declared.script.Script.{Script}
use Rattle.tk_types.specs.declared.memory.OutOfMemory.{OutOfMemory}
use Rattle.tk_types.specs.declared.script.Reading.{Reading}
use Rattle.tk_types.specs.declared.script.Reading.TheVariants as readings
use Rattle.tk_types.specs.declared.why.Why.TheVariants.{Long}
use Rattle.tk_model.specs.ScriptText.{Spells}
use Rattle.kernel_model.specs.Bodies.Statements.{IsRunnable}
use Rattle.tk_raw.specs.RawReading.{Refusal, raw_reading}
use Rattle.tk_raw.specs.declared.raw.RawScript.{RawScript}
use Rattle.tk_script.specs.Reading.{answer, reading}
use Rattle.tk_script.specs.Resolving.{◌>>=◌, resolved}
use Rattle.tk_script.proofs.Readings.{reading_takes}
use Rattle.tk_run.proofs.Devices.{spelled_devices}
use Rattle.tk_run.specs.Readings.{IsRunReading, Runs, reading_of}

-- ---- the limit

long_is_refused : (text : List ℕ) → 1048576 < length text → raw_reading text ≡ Err (0, Long)
unfolding raw_reading
long_is_refused text long = rw (lt-ltb 1048576 (length text) long) refl

within_or_past : (n limit : ℕ) → (n ≤ limit) ⊎ (limit < n)
within_or_past n limit = elim (leb_tells n limit) [ inl test ↦ inl test.1 | inr test ↦ inr test.1 ]

raw_decides : (text input : List ℕ) → text ≡ take (1048576 + 1) input → (length input ≤ 1048576) ⊎ (1048576 < length input) → raw_reading text ≡ raw_reading input
raw_decides text input is (inl short) = ap raw_reading (is ∙ take_all (1048576 + 1) input (omega arith))
raw_decides text input is (inr long) =
    let size : length text ≡ 1048576 + 1 = ap length is ∙ length-take-le (1048576 + 1) input (omega arith) in
    long_is_refused text (omega arith) ∙ sym (long_is_refused input long)

-- a text and its front up to one byte past the limit are read alike
front_decides : (text input : List ℕ) → text ≡ take (1048576 + 1) input → raw_reading text ≡ raw_reading input
front_decides text input is = raw_decides text input is (within_or_past (length input) 1048576)

pub reading_of_front : (text input : List ℕ) → text ≡ take (1048576 + 1) input → reading_of text ≡ reading_of input
unfolding reading_of reading
reading_of_front text input is = ap (λ (raw : Result RawScript Refusal). answer (raw >>= resolved)) (front_decides text input is)

-- ---- what is read is spelled

script_was_read : (read : Result Script Refusal) (script : Script) → answer read ≡ readings.Script script → read ≡ Ok script
script_was_read (Ok other) script is = cc
script_was_read (Err refusal) script is = absurd (cc)

pub spelled : (text : List ℕ) (script : Script) → reading_of text ≡ readings.Script script → Spells text script
unfolding reading_of
spelled text script is = reading_takes text script (script_was_read (reading text) script is)

-- what is spelled can be run
pub spelled_runs : (text : List ℕ) (script : Script) → Spells text script → IsRunnable script
spelled_runs text script is = record { few_devices = is.script_is.few_devices; least_priority = is.script_is.boot_priority.0; most_priority = is.script_is.boot_priority.1 }

-- so what was read can be run, unless it is refused
read_runs : (text : List ℕ) (read : Reading) → ((script : Script) → read ≡ readings.Script script → Spells text script) → IsRunReading read
read_runs text (readings.Script script) found = let s = found script refl in record { runnable = spelled_runs text script s; devices = spelled_devices text script s }
read_runs text (readings.Refused line why) found = tt

pub found_runs : (text : List ℕ) (result : Result Reading OutOfMemory) → IfOk result (λ read. (script : Script) → read ≡ readings.Script script → Spells text script) → IfOk result IsRunReading
found_runs text (Ok read) found = read_runs text read found
found_runs text (Err error) found = tt
