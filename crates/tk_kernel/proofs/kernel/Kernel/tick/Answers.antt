use Rattle.tk_kernel.specs.contracts.kernel.Kernel.{the_view}
use Rattle.tk_kernel.proofs.Sound.{advanced_sound}
use Rattle.tk_kernel.proofs.kernel.Kernel.tick.Goals as goal

pub end_due-requires-clause-sound : goal.end_due-requires-clause-sound
end_due-requires-clause-sound c = advanced_sound (the_view c.self.inside) c.args.self.now c.advance.new.self c.self.view_is c.advance.ensures c.requires.sound
