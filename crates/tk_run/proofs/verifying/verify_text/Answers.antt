-- What was read decides.
use Rattle.std.proofs.Common.{◌≤◌, length}
use Rattle.tk_run.specs.Answers.{IsCertain, OutcomeAnswers}
use Rattle.tk_run.specs.Outcomes.{Outcome}
use Rattle.tk_run.proofs.TraceReadings.{refused_answers, traced_answers, traced_runs}
use Rattle.tk_run.proofs.verifying.verify_text.Goals as goal

pub verify_traced-requires-clause-devices : goal.verify_traced-requires-clause-devices
verify_traced-requires-clause-devices g c = (traced_runs c.args.text.now c.in-Ok-Traced.traced (rw c.in-Ok-Traced.field-0-is at c.in-Ok-Traced.ensures.found)).1

pub returns-in-Ok-Traced-clause-outcome : goal.returns-in-Ok-Traced-clause-outcome
returns-in-Ok-Traced-clause-outcome g c =
    traced_answers c.args.mode c.args.budget c.args.text.now c.in-Ok-Traced.traced
    (λ (outcome : Outcome). OutcomeAnswers outcome (g.K.Sink.held c.args.sink.now) (g.K.Sink.held c.verify_traced.new.sink) c.verify_traced.result)
    (rw c.in-Ok-Traced.field-0-is at c.in-Ok-Traced.ensures.exact) c.verify_traced.ensures.outcome

pub returns-in-Ok-Traced-clause-certain : goal.returns-in-Ok-Traced-clause-certain
returns-in-Ok-Traced-clause-certain g c =
    traced_answers c.args.mode c.args.budget c.args.text.now c.in-Ok-Traced.traced
    (λ (outcome : Outcome). length outcome.bytes ≤ g.K.Sink.sure_room c.args.sink.now
    → IsCertain outcome.status (g.K.Sink.faulted c.args.sink.now) (g.K.Sink.faulted c.verify_traced.new.sink) c.verify_traced.result)
    (rw c.in-Ok-Traced.field-0-is at c.in-Ok-Traced.ensures.exact) c.verify_traced.ensures.certain

pub returns-in-Ok-Refused-clause-outcome : goal.returns-in-Ok-Refused-clause-outcome
returns-in-Ok-Refused-clause-outcome g c =
    refused_answers c.args.mode c.args.budget c.args.text.now c.in-Ok-Refused.line c.in-Ok-Refused.why
    (λ (outcome : Outcome). OutcomeAnswers outcome (g.K.Sink.held c.args.sink.now) (g.K.Sink.held c.refuse.new.sink) c.refuse.result)
    (rw c.in-Ok-Refused.field-0-is at c.in-Ok-Refused.ensures.exact) c.refuse.ensures.outcome

pub returns-in-Ok-Refused-clause-certain : goal.returns-in-Ok-Refused-clause-certain
returns-in-Ok-Refused-clause-certain g c =
    refused_answers c.args.mode c.args.budget c.args.text.now c.in-Ok-Refused.line c.in-Ok-Refused.why
    (λ (outcome : Outcome). length outcome.bytes ≤ g.K.Sink.sure_room c.args.sink.now
    → IsCertain outcome.status (g.K.Sink.faulted c.args.sink.now) (g.K.Sink.faulted c.refuse.new.sink) c.refuse.result)
    (rw c.in-Ok-Refused.field-0-is at c.in-Ok-Refused.ensures.exact) c.refuse.ensures.certain
