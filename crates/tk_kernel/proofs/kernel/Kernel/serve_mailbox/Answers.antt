use Rattle.tk_kernel.specs.contracts.kernel.Kernel.{the_view}
use Rattle.step_lemmas.proofs.Servings.{mailboxes_serve}
use Rattle.tk_kernel.proofs.Sound.{mails_queued}
use Rattle.tk_kernel.proofs.kernel.Kernel.serve_mailbox.Goals as goal

pub serve_first_mailbox-requires : goal.serve_first_mailbox-requires
serve_first_mailbox-requires c = record { queued = mails_queued (the_view c.self.inside) c.args.self.now c.self.view_is c.requires.sound }

pub returns : goal.returns
returns c =
    mailboxes_serve (the_view c.self.inside) c.args.self.now c.serve_first_mailbox.new.base c.serve_first_mailbox.new.table _ c.self.view_is (c.serve_first_mailbox.ensures.served (the_view c.self.inside).memory)
    (c.serve_first_mailbox.ensures.left (the_view c.self.inside).memory)
