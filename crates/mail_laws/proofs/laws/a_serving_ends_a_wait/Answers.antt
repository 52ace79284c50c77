use Rattle.mail_laws.proofs.laws.a_serving_ends_a_wait.Goals as goal
use Rattle.mail_laws.proofs.Waits.{boxes_end, buffers_end}

pub returns-clause-mailbox : goal.returns-clause-mailbox
returns-clause-mailbox c = boxes_end

pub returns-clause-buffer : goal.returns-clause-buffer
returns-clause-buffer c = buffers_end
