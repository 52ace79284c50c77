-- The outcome of a command gives the headline: what was read is spelled.
use Rattle.std.proofs.Common.{◌≡◌, ℕ, List, [], Option, Some, inl, inr, refl}
use Rattle.tk_types.specs.declared.script.Reading.{Reading}
use Rattle.tk_types.specs.declared.script.Reading.TheVariants as readings
use Rattle.tk_types.specs.declared.run.Mode.{Mode}
use Rattle.tk_types.specs.declared.line.LastLine.{LastLine}
use Rattle.tk_types.specs.declared.line.LastLine.TheVariants as lasts
use Rattle.machine_model.specs.Runs.Trace.{trace}
use Rattle.tk_run.specs.declared.command.Command.TheVariants.{Check}
use Rattle.tk_run.specs.declared.status.Status.{Status}
use Rattle.tk_run.specs.declared.status.Status.TheVariants as statuses
use Rattle.tk_run.specs.Readings.{reading_of}
use Rattle.tk_run.specs.Outcomes.{check_outcome, printed_outcome, status_of_last}
use Rattle.tk_run.specs.Answers.{OutcomeAnswers, HeadlineAnswers, IsDone}
use Rattle.tk_run.proofs.Readings.{spelled}

-- ---- how a run ended

pub done_last : (last : LastLine) → status_of_last last ≡ statuses.Done → IsDone last
done_last lasts.Idle is = inl refl
done_last lasts.Halt is = inr refl
done_last lasts.Budget is = absurd (cc)
done_last lasts.Starved is = absurd (cc)
done_last (lasts.Unfit entry) is = absurd (cc)

pub budget_last : (last : LastLine) → status_of_last last ≡ statuses.Budget → last ≡ lasts.Budget
budget_last lasts.Idle is = absurd (cc)
budget_last lasts.Halt is = absurd (cc)
budget_last lasts.Budget is = refl
budget_last lasts.Starved is = absurd (cc)
budget_last (lasts.Unfit entry) is = absurd (cc)

-- ---- of `check`

form_headline : (input : List ℕ) (old new : Option (List ℕ)) (reading : Reading) (status : Status) → reading_of input ≡ reading
    → OutcomeAnswers (printed_outcome reading) old new status → HeadlineAnswers (Some Check) input old new status
form_headline input old new (readings.Script script) statuses.Done is answers = (script, spelled input script is, answers.1)
form_headline input old new (readings.Script script) statuses.Budget is answers = absurd (cc (answers.0))
form_headline input old new (readings.Refused line why) statuses.Done is answers = absurd (cc (answers.0))
form_headline input old new (readings.Refused line why) statuses.Budget is answers = absurd (cc (answers.0))
form_headline input old new (readings.Script script) statuses.Starved is answers = absurd (cc (answers.0))
form_headline input old new (readings.Refused line why) statuses.Starved is answers = absurd (cc (answers.0))
form_headline input old new (readings.Script script) (statuses.Unfit entry) is answers = absurd (cc (answers.0))
form_headline input old new (readings.Script script) (statuses.Differs line) is answers = absurd (cc (answers.0))
form_headline input old new (readings.Refused line why) (statuses.Unfit entry) is answers = absurd (cc (answers.0))
form_headline input old new (readings.Refused line why) (statuses.Differs number) is answers = absurd (cc (answers.0))
form_headline input old new _ (statuses.Refused line why) is answers = tt
form_headline input old new _ statuses.ReadFault is answers = tt
form_headline input old new _ statuses.WriteFault is answers = tt
form_headline input old new _ statuses.NoMemory is answers = tt
form_headline input old new (readings.Script script) statuses.NoThread is answers = tt
form_headline input old new (readings.Refused line why) statuses.NoThread is answers = tt
form_headline input old new _ statuses.Usage is answers = tt

pub check_headline : (input : List ℕ) (old new : Option (List ℕ)) (status : Status)
    → OutcomeAnswers (check_outcome input) old new status → HeadlineAnswers (Some Check) input old new status
unfolding check_outcome
check_headline input old new status answers = form_headline input old new (reading_of input) status refl answers
