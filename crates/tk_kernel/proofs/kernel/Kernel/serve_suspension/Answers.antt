use Rattle.tk_kernel.specs.contracts.kernel.Kernel.{the_view}
use Rattle.tk_kernel.proofs.Sound.{devices_fit, devices_wait}
use Rattle.tk_kernel.proofs.kernel.Kernel.serve_suspension.Goals as goal

pub serve_suspension-requires-clause-queued : goal.serve_suspension-requires-clause-queued
serve_suspension-requires-clause-queued c = devices_wait (the_view c.self.inside) c.args.self.now c.self.view_is c.requires.sound

pub serve_suspension-requires-clause-fit : goal.serve_suspension-requires-clause-fit
serve_suspension-requires-clause-fit c = devices_fit (the_view c.self.inside) c.args.self.now c.self.view_is c.requires.sound
