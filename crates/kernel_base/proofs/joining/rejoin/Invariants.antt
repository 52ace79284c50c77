use Rattle.kernel_base.proofs.joining.rejoin.Given as goal

abbrev pub ghosts-rejoin_counted : goal.ghosts-rejoin_counted
ghosts-rejoin_counted a = record { name = a.blank.name; parts = a.blank.parts }
