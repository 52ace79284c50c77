use Rattle.std.proofs.Common.{rules}
use Rattle.tk_ports.proofs.Loops.{reading_fails}
use Rattle.tk_ports.proofs.whole.read_through.Goals as goal

pub returns-in-Err-clause-within : goal.returns-in-Err-clause-within
returns-in-Err-clause-within g c =
    let so_far = c.turns.invariant.1 in
    reading_fails _ _ _ _ _ _ c.turns.taken.items _ _ so_far.taken c.in-Err.ensures.lost (search rules) c.turns.invariant.0 so_far.counted c.in-Err.ensures.counted
