use Rattle.pool_laws.proofs.Gaps.{pool_covered, pool_free, largest_fits, fits_largest}
use Rattle.pool_laws.proofs.laws.gaps_and_blocks_make_up_the_pool.Goals as goal

pub returns-clause-whole : goal.returns-clause-whole
returns-clause-whole c = pool_covered

pub returns-clause-free : goal.returns-clause-free
returns-clause-free c = pool_free

pub returns-clause-fits : goal.returns-clause-fits
returns-clause-fits c = largest_fits

pub returns-clause-largest : goal.returns-clause-largest
returns-clause-largest c = fits_largest
