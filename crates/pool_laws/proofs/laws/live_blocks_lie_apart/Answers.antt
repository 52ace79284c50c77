use Rattle.pool_laws.proofs.Apart.{start_apart, call_apart, fixed_apart, variable_apart}
use Rattle.pool_laws.proofs.Placing.{joined}
use Rattle.pool_laws.proofs.laws.live_blocks_lie_apart.Goals as goal
use Rattle.std.specs.Prelude.{not}
use Rattle.std.specs.Bool.{◌==◌}
use Rattle.object_model.specs.declared.pools.Block.{Block}
use Rattle.pool_laws.proofs.Freeing.{left_lie}

pub returns-clause-placed : goal.returns-clause-placed
returns-clause-placed c = λ k n offset lie some is. joined 0 k.size n offset k.blocks lie some is

pub returns-clause-given_back : goal.returns-clause-given_back
returns-clause-given_back c = λ k offset lie. left_lie 0 k.size (λ (block : Block). not (block.offset == offset)) k.blocks lie

pub returns-clause-start : goal.returns-clause-start
returns-clause-start c = start_apart

pub returns-clause-call : goal.returns-clause-call
returns-clause-call c = call_apart

pub returns-clause-fixed : goal.returns-clause-fixed
returns-clause-fixed c = fixed_apart

pub returns-clause-variable : goal.returns-clause-variable
returns-clause-variable c = variable_apart
