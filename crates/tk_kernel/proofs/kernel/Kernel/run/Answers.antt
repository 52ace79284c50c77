use Rattle.tk_kernel.specs.contracts.kernel.Kernel.{the_view}
use Rattle.step_lemmas.proofs.Still.{still_at_rest}
use Rattle.tk_kernel.proofs.kernel.Kernel.run.Goals as goal

pub act-requires-clause-rest : goal.act-requires-clause-rest
act-requires-clause-rest c = still_at_rest c.args.mode (the_view c.self.inside) c.args.self.now c.set_frame.new.self _ c.fetch-act.new.memory c.self.view_is c.requires.rest c.set_frame.ensures
