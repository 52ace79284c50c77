use Rattle.std.proofs.Common.{arith}
use Rattle.step_lemmas.proofs.Still.{requested_ticks}
use Rattle.tk_kernel.proofs.kernel.Kernel.make_pending.Goals as goal

pub set_pace-requires : goal.set_pace-requires
set_pace-requires c =
    let same = requested_ticks c.args.script.now c.args.step c.args.self.now c.request_all.new.self c.in_ok-request_all.ensures in
    let below = c.requires in
    omega (arith, same, below)
