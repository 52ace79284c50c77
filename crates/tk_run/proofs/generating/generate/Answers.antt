use Rattle.std.proofs.Common.{◌≤◌, length, subst}
use Rattle.tk_run.specs.Answers.{IsCertain, OutcomeAnswers}
use Rattle.tk_run.specs.Outcomes.{Outcome}
use Rattle.tk_run.proofs.Generated.{summed_generates}
use Rattle.tk_run.proofs.generating.generate.Goals as goal

pub returns-clause-outcome : goal.returns-clause-outcome
returns-clause-outcome g c =
    subst (λ (outcome : Outcome). OutcomeAnswers outcome (g.K.Sink.held c.args.sink.now) (g.K.Sink.held c.tell_summary.new.sink) c.tell_summary.result)
    (summed_generates _ c.args.number c.in-Ok.ensures) c.tell_summary.ensures.outcome

pub returns-clause-certain : goal.returns-clause-certain
returns-clause-certain g c =
    subst (λ (outcome : Outcome). length outcome.bytes ≤ g.K.Sink.sure_room c.args.sink.now
    → IsCertain outcome.status (g.K.Sink.faulted c.args.sink.now) (g.K.Sink.faulted c.tell_summary.new.sink) c.tell_summary.result)
    (summed_generates _ c.args.number c.in-Ok.ensures) c.tell_summary.ensures.certain
