use Rattle.tk_run.proofs.Handing.{IsHanding}
use Rattle.tk_run.proofs.offering.hand_all.Given as goal

abbrev pub invariant-messages : goal.invariant-messages
invariant-messages g l = IsHanding l.fn.fleet l.fn.messages.items l.fleet l.message-iterator.rest.items l.served
