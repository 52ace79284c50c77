use Rattle.tk_kernel.specs.contracts.kernel.Kernel.{the_view}
use Rattle.step_lemmas.proofs.Servings.{buffers_serve}
use Rattle.tk_kernel.proofs.Sound.{mails_asked, mails_queued}
use Rattle.tk_kernel.proofs.kernel.Kernel.serve_buffer.Goals as goal

pub serve_first_buffer-requires-clause-queued : goal.serve_first_buffer-requires-clause-queued
serve_first_buffer-requires-clause-queued c = mails_queued (the_view c.self.inside) c.args.self.now c.self.view_is c.requires.sound

pub serve_first_buffer-requires-clause-asked : goal.serve_first_buffer-requires-clause-asked
serve_first_buffer-requires-clause-asked c = mails_asked (the_view c.self.inside) c.args.self.now c.self.view_is c.requires.sound

pub returns : goal.returns
returns c =
    buffers_serve (the_view c.self.inside) c.args.self.now c.serve_first_buffer.new.base c.serve_first_buffer.new.table c.serve_first_buffer.new.memory _ c.self.view_is c.serve_first_buffer.ensures.served
    c.serve_first_buffer.ensures.left
