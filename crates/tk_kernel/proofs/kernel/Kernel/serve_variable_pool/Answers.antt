use Rattle.tk_kernel.specs.contracts.kernel.Kernel.{the_view}
use Rattle.step_lemmas.proofs.Servings.{variable_serve}
use Rattle.tk_kernel.proofs.kernel.Kernel.serve_variable_pool.Goals as goal

pub returns : goal.returns
returns c =
    variable_serve (the_view c.self.inside) c.args.self.now c.serve_first_variable.new.base c.serve_first_variable.new.table _ c.self.view_is c.serve_first_variable.ensures.served c.serve_first_variable.ensures.left
