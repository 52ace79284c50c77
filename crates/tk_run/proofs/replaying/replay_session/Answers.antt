use Rattle.std.proofs.Common.{◌≤◌, length}
use Rattle.tk_run.specs.Outcomes.{Outcome}
use Rattle.tk_run.specs.Answers.{IsCertain, OutcomeAnswers}
use Rattle.tk_run.proofs.SessionHeadlines.{told_replay_headline, told_session}
use Rattle.tk_run.proofs.replaying.replay_session.Goals as goal

pub returns-clause-outcome : goal.returns-clause-outcome
returns-clause-outcome g c =
    told_session _ c.args.mode c.args.budget c.deref.result.now
    (λ (outcome : Outcome). OutcomeAnswers outcome (g.K.Sink.held c.args.sink.now) (g.K.Sink.held c.replay_text.new.sink) c.replay_text.result)
    (rw c.deref.ensures.value c.in-Ok.ensures.whole) c.replay_text.ensures.outcome

pub returns-clause-headline : goal.returns-clause-headline
returns-clause-headline g c = told_replay_headline _ c.args.mode c.args.budget _ _ _ c.replay_text.ensures.past_session (returns-clause-outcome g c)

pub returns-clause-complete : goal.returns-clause-complete
returns-clause-complete g c = λ sound.
    told_session _ c.args.mode c.args.budget c.deref.result.now
    (λ (outcome : Outcome). length outcome.bytes ≤ g.K.Sink.sure_room c.args.sink.now
    → IsCertain outcome.status (g.K.Sink.faulted c.args.sink.now) (g.K.Sink.faulted c.replay_text.new.sink) c.replay_text.result)
    (rw c.deref.ensures.value c.in-Ok.ensures.whole) c.replay_text.ensures.certain
