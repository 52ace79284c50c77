use Rattle.std.proofs.lemmas.List.{take_rest}
use Rattle.tk_ports.proofs.Loops.{writing_goes_on, writing_fails}
use Rattle.tk_ports.proofs.whole.write_whole.Goals as goal

pub pieces-preserved : goal.pieces-preserved
pieces-preserved g c =
    let done = c.in-Ok.ensures in
    writing_goes_on _ _ c.pieces.invariant c.pieces-test.true (take_rest c.args.bytes.now c.pieces.written) done.bound done.appended done.faults_stay done.certain

pub returns-in-Err-clause-front : goal.returns-in-Err-clause-front
returns-in-Err-clause-front g c = writing_fails _ _ _ _ c.pieces.written c.pieces.invariant.appended c.in-Err.ensures.kept
