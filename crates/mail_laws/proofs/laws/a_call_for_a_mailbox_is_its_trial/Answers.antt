use Rattle.mail_laws.proofs.Trial.{box_call_is_trial}
use Rattle.mail_laws.proofs.laws.a_call_for_a_mailbox_is_its_trial.Goals as goal

pub returns : goal.returns
returns c = box_call_is_trial
