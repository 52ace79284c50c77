use Rattle.kernel_base.proofs.queueing.requeue.Given as goal

abbrev pub ghosts-requeue_counted : goal.ghosts-requeue_counted
ghosts-requeue_counted a = record { name = a.blank.name; parts = a.blank.parts }
