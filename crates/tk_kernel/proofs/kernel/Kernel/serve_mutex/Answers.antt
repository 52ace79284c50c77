use Rattle.tk_kernel.specs.contracts.kernel.Kernel.{the_view}
use Rattle.step_lemmas.proofs.Servings.{mutexes_serve}
use Rattle.tk_kernel.proofs.kernel.Kernel.serve_mutex.Goals as goal

pub returns : goal.returns
returns c = mutexes_serve (the_view c.self.inside) c.args.self.now c.serve_first.new.base c.serve_first.new.table _ c.self.view_is c.serve_first.ensures.served c.serve_first.ensures.left
