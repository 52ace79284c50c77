use Rattle.wait_queue.proofs.tests.tasks_wait_by_priority.Given as goal

abbrev pub ghosts-three_steps : goal.ghosts-three_steps
ghosts-three_steps g a = record { name = a.blank.name; parts = a.blank.parts }
