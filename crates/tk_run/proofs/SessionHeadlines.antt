-- The outcome of a replay gives the headline: what was read is spelled.
use Rattle.std.proofs.Common.{◌≡◌, ℕ, ◌+◌, List, take, Option, Some, IfSome, refl, sym, ap}
use Rattle.tk_types.specs.declared.run.Mode.{Mode}
use Rattle.tk_types.specs.declared.line.LastLine.{LastLine}
use Rattle.tk_types.specs.declared.line.LastLine.TheVariants as lasts
use Rattle.tk_session.specs.declared.session.SessionReading.{SessionReading}
use Rattle.tk_session.specs.declared.session.SessionReading.TheVariants as readings
use Rattle.tk_run.specs.declared.command.Command.TheVariants.{Replay}
use Rattle.tk_run.specs.declared.status.Status.{Status}
use Rattle.tk_run.specs.declared.status.Status.TheVariants as statuses
use Rattle.tk_run.specs.Answers.{HeadlineAnswers, IsPastSession, OutcomeAnswers}
use Rattle.tk_run.specs.Outcomes.{Outcome, replay_outcome, session_outcome, session_trace, status_of_last}
use Rattle.tk_run.specs.Readings.{session_of}
use Rattle.tk_run.proofs.Headlines.{budget_last, done_last}
use Rattle.tk_run.proofs.Told.{told_then}
use Rattle.tk_run.proofs.SessionReadings.{session_of_front, session_spelled}

pub starved_last : (last : LastLine) → status_of_last last ≡ statuses.Starved → last ≡ lasts.Starved
starved_last lasts.Idle is = absurd (cc)
starved_last lasts.Halt is = absurd (cc)
starved_last lasts.Budget is = absurd (cc)
starved_last lasts.Starved is = refl
starved_last (lasts.Unfit entry) is = absurd (cc)

pub unfit_last : (last : LastLine) (entry : ℕ) → status_of_last last ≡ statuses.Unfit entry → last ≡ lasts.Unfit entry
unfit_last lasts.Idle entry is = absurd (cc)
unfit_last lasts.Halt entry is = absurd (cc)
unfit_last lasts.Budget entry is = absurd (cc)
unfit_last lasts.Starved entry is = absurd (cc)
unfit_last (lasts.Unfit other) entry is = let same : other ≡ entry = cc in ap lasts.Unfit same

read_headline : (mode : Mode) (budget : ℕ) (input : List ℕ) (old new : Option (List ℕ)) (reading : SessionReading) (status : Status) → session_of input ≡ reading → IsPastSession status
    → OutcomeAnswers (session_outcome mode budget reading) old new status → HeadlineAnswers (Some (Replay mode budget)) input old new status
read_headline mode budget input old new (readings.Session session) statuses.Done is past answers =
    (session, session_spelled input session is, done_last (session_trace mode budget session).last answers.0, answers.1)
read_headline mode budget input old new (readings.Session session) statuses.Budget is past answers =
    (session, session_spelled input session is, budget_last (session_trace mode budget session).last answers.0, answers.1)
read_headline mode budget input old new (readings.Session session) statuses.Starved is past answers =
    (session, session_spelled input session is, starved_last (session_trace mode budget session).last answers.0, answers.1)
read_headline mode budget input old new (readings.Session session) (statuses.Unfit entry) is past answers =
    (session, session_spelled input session is, unfit_last (session_trace mode budget session).last entry answers.0, answers.1)
read_headline mode budget input old new (readings.Refused line why) statuses.Done is past answers = absurd (cc (answers.0))
read_headline mode budget input old new (readings.Refused line why) statuses.Budget is past answers = absurd (cc (answers.0))
read_headline mode budget input old new (readings.Refused line why) statuses.Starved is past answers = absurd (cc (answers.0))
read_headline mode budget input old new (readings.Refused line why) (statuses.Unfit entry) is past answers = absurd (cc (answers.0))
read_headline mode budget input old new _ (statuses.Refused line why) is past answers = tt
read_headline mode budget input old new _ statuses.ReadFault is past answers = tt
read_headline mode budget input old new _ statuses.WriteFault is past answers = tt
read_headline mode budget input old new _ statuses.NoMemory is past answers = tt
read_headline mode budget input old new _ statuses.NoThread is past answers = tt
read_headline mode budget input old new _ statuses.Usage is past answers = tt
read_headline mode budget input old new _ (statuses.Differs line) is past answers = absurd past

replay_headline : (mode : Mode) (budget : ℕ) (input : List ℕ) (old new : Option (List ℕ)) (status : Status) → IsPastSession status
    → OutcomeAnswers (replay_outcome mode budget input) old new status → HeadlineAnswers (Some (Replay mode budget)) input old new status
unfolding replay_outcome
replay_headline mode budget input old new status past answers = read_headline mode budget input old new (session_of input) status refl past answers

-- ---- where the source tells the input

-- the outcome of the text that was read is that of the whole input
pub replay_decides : (mode : Mode) (budget : ℕ) (text input : List ℕ) → text ≡ take (67108864 + 1) input → replay_outcome mode budget text ≡ replay_outcome mode budget input
unfolding replay_outcome
replay_decides mode budget text input is = ap (session_outcome mode budget) (session_of_front text input is)

pub told_session : (left : Option (List ℕ)) (mode : Mode) (budget : ℕ) (text : List ℕ) (P : Outcome → Type 0) → IfSome left (λ input. text ≡ take (67108864 + 1) input) → P (replay_outcome mode budget text) → IfSome left (λ input. P (replay_outcome mode budget input))
told_session left mode budget text P read holds =
    told_then left (λ input. text ≡ take (67108864 + 1) input) (λ input. P (replay_outcome mode budget input)) (λ input is. rw (sym (replay_decides mode budget text input is)) holds) read

pub told_replay_headline : (left : Option (List ℕ)) (mode : Mode) (budget : ℕ) (old new : Option (List ℕ)) (status : Status) → IsPastSession status
    → IfSome left (λ input. OutcomeAnswers (replay_outcome mode budget input) old new status) → IfSome left (λ input. HeadlineAnswers (Some (Replay mode budget)) input old new status)
told_replay_headline left mode budget old new status past =
    told_then left (λ input. OutcomeAnswers (replay_outcome mode budget input) old new status) (λ input. HeadlineAnswers (Some (Replay mode budget)) input old new status)
    (λ input. replay_headline mode budget input old new status past)
