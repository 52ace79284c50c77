-- A run of a script without devices, which is fed with no endings, ends by itself or at its budget.
use Rattle.std.proofs.Common.{◌≡◌, ◌≤◌, ℕ, List, [], Option, length, subst, sym, arith}
use Rattle.std.proofs.lemmas.List.Elements.{All-nil}
use Rattle.std.specs.List.{All}
use Rattle.tk_types.specs.declared.line.Entry.{Entry}
use Rattle.tk_types.specs.declared.line.LastLine.{LastLine}
use Rattle.tk_types.specs.declared.line.LastLine.TheVariants as lasts
use Rattle.tk_types.specs.declared.run.Mode.{Mode}
use Rattle.tk_types.specs.declared.script.Device.{Device}
use Rattle.tk_types.specs.declared.script.Script.{Script}
use Rattle.dev_layer.specs.Links.{IsKind}
use Rattle.dev_layer.specs.Tables.{AreDevices}
use Rattle.machine_model.specs.Runs.Trace.{Trace, trace}
use Rattle.step_lemmas.proofs.Unstarved.{IsEnd}
use Rattle.tk_run.specs.declared.status.Status.{Status}
use Rattle.tk_run.specs.declared.status.Status.TheVariants as statuses
use Rattle.tk_run.specs.Answers.{IsPastSession, OutcomeAnswers, RunAnswers}
use Rattle.tk_run.specs.Outcomes.{status_of_last, trace_outcome}

-- what stands behind the status of such a run
abbrev IsRunStatus : Status → Type 0
IsRunStatus statuses.Done = Unit {0}
IsRunStatus statuses.Budget = Unit {0}
IsRunStatus _ = ⊥

run_status : (last : LastLine) → IsEnd last → IsRunStatus (status_of_last last)
run_status lasts.Idle is = tt
run_status lasts.Halt is = tt
run_status lasts.Budget is = tt
run_status lasts.Starved is = absurd is
run_status (lasts.Unfit entry) is = absurd is

never : (last : LastLine) (status : Status) → IsEnd last → status_of_last last ≡ status → IsRunStatus status
never last status is same = subst IsRunStatus same (run_status last is)

pub alone_answers : (run : Trace) (old new : Option (List ℕ)) (status : Status) → IsEnd run.last → IsPastSession status → OutcomeAnswers (trace_outcome run) old new status → RunAnswers (trace_outcome run) old new status
alone_answers run old new statuses.Done is past answers = answers
alone_answers run old new statuses.Budget is past answers = answers
alone_answers run old new (statuses.Refused line why) is past answers = absurd (never run.last (statuses.Refused line why) is answers.0)
alone_answers run old new statuses.Starved is past answers = absurd (never run.last statuses.Starved is answers.0)
alone_answers run old new (statuses.Unfit entry) is past answers = absurd (never run.last (statuses.Unfit entry) is answers.0)
alone_answers run old new (statuses.Differs line) is past answers = absurd past
alone_answers run old new statuses.Usage is past answers = absurd past
alone_answers run old new statuses.ReadFault is past answers = absurd past
alone_answers run old new statuses.WriteFault is past answers = answers
alone_answers run old new statuses.NoMemory is past answers = answers
alone_answers run old new statuses.NoThread is past answers = absurd answers

-- an empty journal is none
pub fed_nothing : (script : Script) (mode : Mode) (budget : ℕ) (journal : List Entry) (old new : Option (List ℕ)) (status : Status) → journal ≡ [] → OutcomeAnswers (trace_outcome (trace script mode budget journal)) old new status →
    OutcomeAnswers (trace_outcome (trace script mode budget [])) old new status
fed_nothing script mode budget journal old new status is answers = subst (λ (entries : List Entry). OutcomeAnswers (trace_outcome (trace script mode budget entries)) old new status) is answers

-- no device is out of range
pub none_out_of_range : (devices : List Device) → devices ≡ [] → AreDevices devices
none_out_of_range devices is = subst AreDevices (sym is) (record { few = omega arith; kinds = All-nil (λ (device : Device). IsKind device.kind) })
