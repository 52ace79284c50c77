use Rattle.ready_queue.proofs.Lasts.{put_is_last, put_keeps_others}
use Rattle.ready_queue.proofs.laws.put_back_is_last.Goals as goal

pub returns-clause-last : goal.returns-clause-last
returns-clause-last c = put_is_last

pub returns-clause-others : goal.returns-clause-others
returns-clause-others c = put_keeps_others
