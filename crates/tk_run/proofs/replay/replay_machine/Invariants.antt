-- What the sink took, and the text of what is to come, make the text of the trace.
use Rattle.std.proofs.Common.{◌+◌, ◌-◌, [], length}
use Rattle.machine_model.specs.Runs.Trace.{trace}
use Rattle.tk_run.specs.Writings.{writing}
use Rattle.tk_run.proofs.Replays.{IsFeeding}
use Rattle.tk_run.proofs.replay.replay_machine.Given as goal

abbrev pub invariant-turns : goal.invariant-turns
invariant-turns g l = IsFeeding (g.K.Sink.held l.fn.sink) (g.K.Sink.held l.sink) (g.K.Sink.faulted l.fn.sink) (g.K.Sink.faulted l.sink)
    (g.K.Sink.sure_room l.fn.sink) (g.K.Sink.sure_room l.sink) (writing (trace l.fn.machine.script l.mode l.budget l.journal)) l.machine l.mode l.budget l.journal l._turn l.taken
    ((l.budget + length l.journal + 1) - l._turn)
