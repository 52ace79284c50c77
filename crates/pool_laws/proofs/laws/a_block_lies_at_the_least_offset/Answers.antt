use Rattle.pool_laws.proofs.Placing.{pool_fits, pool_least, pool_nowhere}
use Rattle.pool_laws.proofs.laws.a_block_lies_at_the_least_offset.Goals as goal

pub returns-clause-fits : goal.returns-clause-fits
returns-clause-fits c = pool_fits

pub returns-clause-least : goal.returns-clause-least
returns-clause-least c = pool_least

pub returns-clause-nowhere : goal.returns-clause-nowhere
returns-clause-nowhere c = pool_nowhere
