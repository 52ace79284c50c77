use Rattle.step_lemmas.proofs.Endings.{freed_sound}
use Rattle.tk_kernel.proofs.kernel.Kernel.free_one.Goals as goal

pub returns-clause-sound : goal.returns-clause-sound
returns-clause-sound c =
    freed_sound c.args.self.now c.free_last.new.self c.args.task c.known_of_tasks.ensures.places c.known_of_tasks.ensures.whole c.known_of_tasks.ensures.devices c.requires.sound c.free_last.ensures.left
