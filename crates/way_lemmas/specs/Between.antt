-- How a machine of sync mode stands between steps.
use Rattle.std.specs.Prelude.{◌≡◌, ℕ, true, false, List, ◌++◌, Some}
use Rattle.tk_types.specs.declared.line.Entry.{Entry}
use Rattle.tk_types.specs.declared.line.Line.{Line}
use Rattle.device_model.specs.Devices.Handing.{any_given}
use Rattle.device_model.specs.Devices.Tables.{Given, given_in, link_at}
use Rattle.machine_model.specs.States.State.{State}
use Rattle.machine_model.specs.Runs.Step.{is_quiet}
use Rattle.machine_model.specs.Runs.SyncTrace.{SyncRun}

-- one driver at most has a request, which wasn't asked to abort, and where one has it the machine is quiet: it needs the ending
pub record IsBetween (st : State) : Type 0 where
  pub which : ℕ
  pub only : (d : ℕ) (given : Given) → given_in (link_at st.objects.devices d) ≡ Some given → (d ≡ which) × (given.asked ≡ false)
  pub quiet : any_given st.objects.devices ≡ true → is_quiet st ≡ true

-- lines and entries before those of a run
abbrev pub grown : List Line → List Entry → SyncRun → SyncRun
grown lines entries run = record { trace = record run.trace { lines = lines ++ run.trace.lines }; entries = entries ++ run.entries }
