use Rattle.wait_queue.proofs.Others.{join_keeps_others, leave_keeps_others, reorder_keeps_others}
use Rattle.wait_queue.proofs.laws.others_stay.Goals as goal

pub returns-clause-joining : goal.returns-clause-joining
returns-clause-joining c = join_keeps_others

pub returns-clause-leaving : goal.returns-clause-leaving
returns-clause-leaving c = leave_keeps_others

pub returns-clause-reordering : goal.returns-clause-reordering
returns-clause-reordering c = reorder_keeps_others
