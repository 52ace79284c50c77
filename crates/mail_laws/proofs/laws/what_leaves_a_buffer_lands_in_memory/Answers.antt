use Rattle.mail_laws.proofs.laws.what_leaves_a_buffer_lands_in_memory.Goals as goal
use Rattle.mail_laws.proofs.Landing.{read_again, same_length, in_front_same, behind_same, step_lands, receive_tells}

pub returns-clause-lands : goal.returns-clause-lands
returns-clause-lands c = step_lands

pub returns-clause-told : goal.returns-clause-told
returns-clause-told c = receive_tells

pub returns-clause-read : goal.returns-clause-read
returns-clause-read c = read_again

pub returns-clause-as_long : goal.returns-clause-as_long
returns-clause-as_long c = same_length

pub returns-clause-in_front : goal.returns-clause-in_front
returns-clause-in_front c = in_front_same

pub returns-clause-behind : goal.returns-clause-behind
returns-clause-behind c = behind_same
