use Rattle.pool_laws.proofs.Freeing.{pool_one_out, back_again}
use Rattle.pool_laws.proofs.laws.a_release_gives_that_block_back.Goals as goal

pub returns-clause-alone : goal.returns-clause-alone
returns-clause-alone c = pool_one_out

pub returns-clause-back : goal.returns-clause-back
returns-clause-back c = λ k n offset lie some is. back_again 0 k.size n offset k.blocks lie some is
