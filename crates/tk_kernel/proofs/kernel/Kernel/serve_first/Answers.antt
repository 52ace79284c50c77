use Rattle.step_lemmas.proofs.Servings.{served_sound}
use Rattle.tk_kernel.proofs.kernel.Kernel.serve_first.Goals as goal

pub returns-clause-sound : goal.returns-clause-sound
returns-clause-sound c = served_sound c.args.self.now c.serve_kinds.new.self c.known_of_tasks.ensures.places c.known_of_tasks.ensures.whole c.known_of_tasks.ensures.devices c.requires.sound c.in_ok-served.ensures.left
