use Rattle.std.proofs.Common.{◌≤◌, length}
use Rattle.tk_run.specs.Outcomes.{Outcome}
use Rattle.tk_run.specs.Answers.{IsCertain, OutcomeAnswers}
use Rattle.tk_run.proofs.TraceReadings.{told_verdict}
use Rattle.tk_run.proofs.VerifyHeadlines.{told_verifies, told_verify_headline}
use Rattle.tk_run.proofs.verifying.verify_session.Goals as goal

pub returns-clause-outcome : goal.returns-clause-outcome
returns-clause-outcome g c =
    told_verdict _ c.args.mode c.args.budget c.deref.result.now
    (λ (outcome : Outcome). OutcomeAnswers outcome (g.K.Sink.held c.args.sink.now) (g.K.Sink.held c.verify_text.new.sink) c.verify_text.result)
    (rw c.deref.ensures.value c.in-Ok.ensures.whole) c.verify_text.ensures.outcome

pub returns-clause-headline : goal.returns-clause-headline
returns-clause-headline g c = told_verify_headline _ c.args.mode c.args.budget _ _ _ (returns-clause-outcome g c)

pub returns-clause-own : goal.returns-clause-own
returns-clause-own g c = told_verifies _ c.args.mode c.args.budget _ _ _ (returns-clause-outcome g c)

pub returns-clause-complete : goal.returns-clause-complete
returns-clause-complete g c = λ sound.
    told_verdict _ c.args.mode c.args.budget c.deref.result.now
    (λ (outcome : Outcome). length outcome.bytes ≤ g.K.Sink.sure_room c.args.sink.now
    → IsCertain outcome.status (g.K.Sink.faulted c.args.sink.now) (g.K.Sink.faulted c.verify_text.new.sink) c.verify_text.result)
    (rw c.deref.ensures.value c.in-Ok.ensures.whole) c.verify_text.ensures.certain
