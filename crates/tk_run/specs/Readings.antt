-- How the input is read as a script, by what each command takes.
use Rattle.std.specs.Prelude.{◌≡◌, ℕ, List, []}
use Rattle.tk_types.specs.declared.script.Script.{Script}
use Rattle.tk_types.specs.declared.script.Reading.{Reading}
use Rattle.tk_types.specs.declared.script.Reading.TheVariants as readings
use Rattle.kernel_model.specs.Bodies.Statements.{IsRunnable}
use Rattle.dev_layer.specs.Tables.{AreDevices}
use Rattle.tk_script.specs.Reading.{answer, reading}
use Rattle.tk_session.specs.Reading.{answer as session_answer, session_reading}
use Rattle.tk_session.specs.declared.session.SessionReading.{SessionReading}

-- what a text is read as to be run, or to be printed
unfoldable pub reading_of : List ℕ → Reading
reading_of text = answer (reading text)

-- what a text is read as to be replayed: a script of the whole grammar, and the journal behind it
unfoldable pub session_of : List ℕ → SessionReading
session_of text = session_answer (session_reading text)

-- a script that can be run without drivers: it has no devices
pub record RunsAlone (script : Script) : Type 0 where
  pub runnable : IsRunnable script
  pub devices : script.devices ≡ []

-- what a run needs of a script: the machine can run it, and its devices are in range
pub record Runs (script : Script) : Type 0 where
  pub runnable : IsRunnable script
  pub devices : AreDevices script.devices

-- a script that was read is one
abbrev pub IsRunReading : Reading → Type 0
IsRunReading (readings.Script script) = Runs script
IsRunReading (readings.Refused line why) = Unit {0}
