use Rattle.step_lemmas.proofs.Endings.{settled_sound}
use Rattle.tk_kernel.proofs.kernel.Kernel.settle.Goals as goal

pub returns-clause-sound : goal.returns-clause-sound
returns-clause-sound c = settled_sound c.args.mode c.args.self.now c.settle_parts.new.self c.known_of_tasks.ensures.places c.known_of_tasks.ensures.whole c.known_of_tasks.ensures.devices c.requires.sound c.in_ok-settle_parts.ensures
