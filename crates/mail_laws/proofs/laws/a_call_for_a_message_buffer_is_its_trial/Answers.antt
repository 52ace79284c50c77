use Rattle.mail_laws.proofs.BufferTrials.{send_is_trial, receive_is_trial}
use Rattle.mail_laws.proofs.laws.a_call_for_a_message_buffer_is_its_trial.Goals as goal

pub returns-clause-send : goal.returns-clause-send
returns-clause-send c = send_is_trial

pub returns-clause-receive : goal.returns-clause-receive
returns-clause-receive c = receive_is_trial
