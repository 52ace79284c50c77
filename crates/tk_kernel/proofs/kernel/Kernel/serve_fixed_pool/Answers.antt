use Rattle.tk_kernel.specs.contracts.kernel.Kernel.{the_view}
use Rattle.step_lemmas.proofs.Servings.{fixed_serve}
use Rattle.tk_kernel.proofs.kernel.Kernel.serve_fixed_pool.Goals as goal

pub returns : goal.returns
returns c =
    fixed_serve (the_view c.self.inside) c.args.self.now c.serve_first_fixed.new.base c.serve_first_fixed.new.table _ c.self.view_is c.serve_first_fixed.ensures.served c.serve_first_fixed.ensures.left
