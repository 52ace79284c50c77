use Rattle.ready_queue.proofs.Lasts.{rotation_moves, rotation_keeps_others}
use Rattle.ready_queue.proofs.laws.rotation_moves_the_first.Goals as goal

pub returns-clause-moved : goal.returns-clause-moved
returns-clause-moved c = rotation_moves

pub returns-clause-others : goal.returns-clause-others
returns-clause-others c = rotation_keeps_others
