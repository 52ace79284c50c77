use Rattle.mutex_laws.proofs.Chains.{found_stands, stands_found}
use Rattle.mutex_laws.proofs.laws.what_is_found_is_the_chain.Goals as goal

pub returns-clause-found : goal.returns-clause-found
returns-clause-found c = found_stands

pub returns-clause-missed : goal.returns-clause-missed
returns-clause-missed c = stands_found
