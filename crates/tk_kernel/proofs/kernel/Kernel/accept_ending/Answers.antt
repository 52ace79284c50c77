use Rattle.step_lemmas.proofs.Arriving.{landed_sound}
use Rattle.tk_kernel.proofs.kernel.Kernel.accept_ending.Goals as goal

pub returns-clause-sound : goal.returns-clause-sound
returns-clause-sound c =
    landed_sound c.args.self.now c.take_ending.new.self c.args.ending.now c.known_of_tasks.ensures.places c.known_of_tasks.ensures.whole c.known_of_tasks.ensures.devices c.requires.sound c.take_ending.ensures.left
