-- What is written is appended, and the faults did not fall.
use Rattle.std.proofs.Common.{length, ◌-◌}
use Rattle.tk_ports.proofs.Loops.{IsWriting}
use Rattle.tk_ports.proofs.whole.write_whole.Given as goal

abbrev pub invariant-pieces : goal.invariant-pieces
invariant-pieces g l = IsWriting (g.K.Sink.held l.fn.sink) (g.K.Sink.held l.sink) (g.K.Sink.faulted l.fn.sink) (g.K.Sink.faulted l.sink)
    (g.K.Sink.sure_room l.fn.sink) (g.K.Sink.sure_room l.sink) l.bytes l.written

abbrev pub decreases-pieces : goal.decreases-pieces
decreases-pieces g l = length l.bytes - l.written
