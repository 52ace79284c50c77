use Rattle.step_lemmas.proofs.Servings.{refreshed_sound}
use Rattle.tk_kernel.proofs.kernel.Kernel.refresh.Goals as goal

pub returns-clause-sound : goal.returns-clause-sound
returns-clause-sound c = refreshed_sound c.args.self.now c.take_priorities.new.self c.known_of_tasks.ensures.places c.known_of_tasks.ensures.whole c.known_of_tasks.ensures.devices c.requires.sound c.take_priorities.ensures
