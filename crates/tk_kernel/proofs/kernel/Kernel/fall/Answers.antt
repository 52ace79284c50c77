use Rattle.tk_kernel.specs.contracts.kernel.Kernel.{the_view}
use Rattle.step_lemmas.proofs.Falling.{released_sound}
use Rattle.tk_kernel.proofs.kernel.Kernel.fall.Goals as goal

pub settle-requires : goal.settle-requires
settle-requires c = record {
  sound = released_sound (the_view c.self.inside) c.args.self.now c.release.new.self _ _ c.self.view_is c.known_of_tasks.ensures.places c.known_of_tasks.ensures.whole c.known_of_tasks.ensures.devices c.requires.sound c.release.ensures;
}
