use Rattle.held_laws.proofs.Mails.{reached_turns}
use Rattle.held_laws.proofs.laws.a_mailbox_is_in_order_in_every_state.Goals as goal

pub returns : goal.returns
returns c = reached_turns
