use Rattle.std.proofs.Common.{◌≤◌, length}
use Rattle.tk_run.specs.Outcomes.{Outcome, check_outcome}
use Rattle.tk_run.specs.Answers.{IsCertain, OutcomeAnswers}
use Rattle.tk_run.proofs.Told.{check_decides, told_check_headline, told_outcome}
use Rattle.tk_run.proofs.checking.check_script.Goals as goal

pub returns-clause-outcome : goal.returns-clause-outcome
returns-clause-outcome g c =
    told_outcome _ check_outcome c.deref.result.now
    (λ (outcome : Outcome). OutcomeAnswers outcome (g.K.Sink.held c.args.sink.now) (g.K.Sink.held c.check_text.new.sink) c.check_text.result)
    check_decides (rw c.deref.ensures.value c.in-Ok.ensures.whole) c.check_text.ensures.outcome

pub returns-clause-headline : goal.returns-clause-headline
returns-clause-headline g c = told_check_headline _ _ _ _ (returns-clause-outcome g c)

pub returns-clause-complete : goal.returns-clause-complete
returns-clause-complete g c = λ sound.
    told_outcome _ check_outcome c.deref.result.now
    (λ (outcome : Outcome). length outcome.bytes ≤ g.K.Sink.sure_room c.args.sink.now
    → IsCertain outcome.status (g.K.Sink.faulted c.args.sink.now) (g.K.Sink.faulted c.check_text.new.sink) c.check_text.result)
    check_decides (rw c.deref.ensures.value c.in-Ok.ensures.whole) c.check_text.ensures.certain
