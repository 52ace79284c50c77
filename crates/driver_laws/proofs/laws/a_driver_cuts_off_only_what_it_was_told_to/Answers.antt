use Rattle.driver_laws.proofs.Cuts.{cut_was_taken}
use Rattle.driver_laws.proofs.laws.a_driver_cuts_off_only_what_it_was_told_to.Goals as goal

pub returns : goal.returns
returns c = cut_was_taken
