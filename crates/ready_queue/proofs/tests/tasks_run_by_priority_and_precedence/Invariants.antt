use Rattle.ready_queue.proofs.tests.tasks_run_by_priority_and_precedence.Given as goal

abbrev pub ghosts-three_steps : goal.ghosts-three_steps
ghosts-three_steps g a = record { name = a.blank.name; parts = a.blank.parts }
