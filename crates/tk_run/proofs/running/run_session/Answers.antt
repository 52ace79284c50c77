use Rattle.tk_types.specs.declared.script.Reading.{Reading}
use Rattle.tk_run.specs.Runs.{ReadingAnswers, ReadingCertain, ReadingStarts}
use Rattle.tk_run.proofs.RunHeadlines.{told_input, told_nothing, told_run_headline}
use Rattle.tk_run.proofs.Told.{told_reading}
use Rattle.tk_run.proofs.running.run_session.Goals as goal

pub returns-in-Err-OutOfMemory-clause-answers : goal.returns-in-Err-OutOfMemory-clause-answers
returns-in-Err-OutOfMemory-clause-answers g c = told_nothing _ c.args.mode c.args.budget _ c.requires.steps.0

pub returns-clause-answers : goal.returns-clause-answers
returns-clause-answers g c =
    told_input _ c.args.mode c.args.budget _ _ _ _ c.run_text.ensures.past_reading
    (told_reading _ c.deref.result.now
    (λ (read : Reading). ReadingAnswers c.args.mode c.args.budget read (g.K.Sink.held c.args.sink.now) (g.K.Sink.held c.run_text.new.sink) c.run_text.result.0 c.run_text.result.1)
    (rw c.deref.ensures.value c.in-Ok.ensures.whole) c.run_text.ensures.answers)

pub returns-clause-headline : goal.returns-clause-headline
returns-clause-headline g c =
    told_run_headline _ c.args.mode c.args.budget _ _ _ _ c.run_text.ensures.past_reading
    (told_reading _ c.deref.result.now
    (λ (read : Reading). ReadingAnswers c.args.mode c.args.budget read (g.K.Sink.held c.args.sink.now) (g.K.Sink.held c.run_text.new.sink) c.run_text.result.0 c.run_text.result.1)
    (rw c.deref.ensures.value c.in-Ok.ensures.whole) c.run_text.ensures.answers)

pub returns-clause-starts : goal.returns-clause-starts
returns-clause-starts g c =
    told_reading _ c.deref.result.now
    (λ (read : Reading). ReadingStarts read (g.P.Started.start_count c.args.spawner.now) (g.P.Started.start_count c.run_text.new.spawner) c.run_text.result.0)
    (rw c.deref.ensures.value c.in-Ok.ensures.whole) c.run_text.ensures.starts

pub returns-clause-complete : goal.returns-clause-complete
returns-clause-complete g c = λ sound.
    told_reading _ c.deref.result.now
    (λ (read : Reading). ReadingCertain c.args.mode c.args.budget read (g.K.Sink.sure_room c.args.sink.now) (g.K.Sink.faulted c.args.sink.now) (g.K.Sink.faulted c.run_text.new.sink) c.run_text.result.0)
    (rw c.deref.ensures.value c.in-Ok.ensures.whole) c.run_text.ensures.certain
