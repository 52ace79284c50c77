use Rattle.pool_laws.proofs.Wishes.{start_asks, call_asks, fixed_asks, variable_asks}
use Rattle.pool_laws.proofs.laws.a_waiter_asks_for_some_bytes.Goals as goal

pub returns-clause-start : goal.returns-clause-start
returns-clause-start c = start_asks

pub returns-clause-call : goal.returns-clause-call
returns-clause-call c = call_asks

pub returns-clause-fixed : goal.returns-clause-fixed
returns-clause-fixed c = fixed_asks

pub returns-clause-variable : goal.returns-clause-variable
returns-clause-variable c = variable_asks
