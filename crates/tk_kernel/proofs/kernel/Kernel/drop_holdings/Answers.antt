use Rattle.tk_kernel.specs.contracts.kernel.Kernel.{the_view}
use Rattle.tk_kernel.proofs.Sound.{contexts_sound}
use Rattle.tk_kernel.proofs.kernel.Kernel.drop_holdings.Goals as goal

pub free_all-requires : goal.free_all-requires
free_all-requires c = record { sound = contexts_sound (the_view c.self.inside) c.args.self.now c.left.new.table c.self.view_is c.requires.sound }
