use Rattle.kernel_base.proofs.joining.reorder.Given as goal

abbrev pub ghosts-reorder_counted : goal.ghosts-reorder_counted
ghosts-reorder_counted a = record { name = a.blank.name; parts = a.blank.parts }
