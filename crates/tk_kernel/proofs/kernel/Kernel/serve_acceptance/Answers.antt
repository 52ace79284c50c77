use Rattle.tk_kernel.specs.contracts.kernel.Kernel.{the_view}
use Rattle.tk_kernel.proofs.Sound.{devices_wait}
use Rattle.tk_kernel.proofs.kernel.Kernel.serve_acceptance.Goals as goal

pub serve_first_acceptance-requires : goal.serve_first_acceptance-requires
serve_first_acceptance-requires c = record { queued = devices_wait (the_view c.self.inside) c.args.self.now c.self.view_is c.requires.sound }
