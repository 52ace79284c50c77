use Rattle.std.proofs.Common.{arith, ◌∙◌}
use Rattle.object_model.specs.Mutexes.Priority.{next_in_chain}
use Rattle.mutex_prio.proofs.Walked.{chain_here, chain_ends, chain_goes, chain_last}
use Rattle.mutex_prio.proofs.chains.chain_has.Goals as goal

pub returns-then-at-task : goal.returns-then-at-task
returns-then-at-task c = chain_here (next_in_chain c.args.base.now c.args.table.now) c.args.task _ c.chain.at _ c.if-at-task.true c.chain.invariant

pub returns-then-next-eq0 : goal.returns-then-next-eq0
returns-then-next-eq0 c =
    chain_ends (next_in_chain c.args.base.now c.args.table.now) c.args.task c.chain._passed c.chain.at c.next_in_chain-next.result _
    c.chain-test.true c.if-at-task.false c.next_in_chain-next.ensures c.if-next-eq0.true c.chain.invariant

pub chain-preserved : goal.chain-preserved
chain-preserved c =
    chain_goes (next_in_chain c.args.base.now c.args.table.now) c.args.task c.chain._passed c.chain.at c.next_in_chain-next.result _
    c.chain-test.true c.if-at-task.false c.next_in_chain-next.ensures c.if-next-eq0.false c.chain.invariant

pub returns : goal.returns
returns c = chain_last (next_in_chain c.args.base.now c.args.table.now) c.args.task c.chain._passed c.chain.at _ c.chain-test.false c.chain.invariant
