use Rattle.priority_map.proofs.tests.the_least_number_is_the_highest.Given as goal

abbrev pub ghosts-highest_of_each : goal.ghosts-highest_of_each
ghosts-highest_of_each g a = record { name = a.blank.name; parts = a.blank.parts }
