-- What was read is the front of the input, and each turn took one byte or more.
use Rattle.std.proofs.Common.{◌-◌, ◌≤◌, vec_len}
use Rattle.tk_ports.proofs.Loops.{IsReading}
use Rattle.tk_ports.proofs.whole.read_through.Given as goal

abbrev pub invariant-turns : goal.invariant-turns
invariant-turns g l = (vec_len l.taken ≤ l.most) × IsReading (g.S.Source.left l.fn.source) (g.S.Source.left l.source) (g.S.Source.turns l.fn.source) (g.S.Source.turns l.source)
    (g.S.Source.never_fails l.fn.source) (g.S.Source.never_fails l.source) (g.S.Source.faulted l.fn.source) (g.S.Source.faulted l.source) l.taken.items

abbrev pub decreases-turns : goal.decreases-turns
decreases-turns g l = l.most - vec_len l.taken
