use Rattle.dev_layer.proofs.Starting.{fit_at_start, queued_at_start}
use Rattle.dev_layer.proofs.tests.called.Goals as goal

pub call-requires-clause-queued : goal.call-requires-clause-queued
call-requires-clause-queued c = queued_at_start c.in_ok-base.base 10 c.in_ok-base.ensures

pub call-requires-clause-fit : goal.call-requires-clause-fit
call-requires-clause-fit c = fit_at_start c.in_ok-base.base c.in_ok-mails.mails c.in_ok-mails.ensures
