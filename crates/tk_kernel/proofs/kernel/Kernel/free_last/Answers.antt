use Rattle.std.proofs.Common.{◌∙◌, ap}
use Rattle.step_lemmas.specs.Freeing.{freed_by}
use Rattle.tk_kernel.specs.contracts.kernel.Kernel.{the_view}
use Rattle.step_lemmas.proofs.Endings.{freed_is}
use Rattle.tk_kernel.proofs.kernel.Kernel.free_last.Goals as goal

pub returns-clause-left : goal.returns-clause-left
returns-clause-left c = freed_is (the_view c.self.inside) c.free_last.new.table c.args.task c.free_last.ensures.left ∙ ap (freed_by c.args.task) c.self.view_is
