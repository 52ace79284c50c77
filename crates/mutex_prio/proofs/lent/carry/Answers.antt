use Rattle.std.proofs.Common.{arith}
use Rattle.object_model.specs.Mutexes.Priority.{next_in_chain}
use Rattle.mutex_prio.proofs.Carried.{carried_on, carried_off, carried_last}
use Rattle.mutex_prio.proofs.lent.carry.Goals as goal

pub returns-then-next-eq0 : goal.returns-then-next-eq0
returns-then-next-eq0 c =
    carried_off (next_in_chain c.args.base.now c.args.table.now) c.chain.all c.args.all.now c.args.from c.chain._passed c.chain.at c.next_in_chain-next.result c.args.pri c.min.result
    (omega arith) c.min.ensures c.chain-test.true c.next_in_chain-next.ensures c.if-next-eq0.true c.chain.invariant

pub chain-preserved : goal.chain-preserved
chain-preserved c =
    carried_on (next_in_chain c.args.base.now c.args.table.now) c.chain.all c.args.all.now c.args.from c.chain._passed c.chain.at c.next_in_chain-next.result c.args.pri c.min.result
    (omega arith) c.min.ensures c.chain-test.true c.next_in_chain-next.ensures c.if-next-eq0.false c.chain.invariant

pub returns : goal.returns
returns c =
    carried_last (next_in_chain c.args.base.now c.args.table.now) c.chain.all c.args.all.now c.args.from c.chain._passed c.chain.at c.args.pri c.min-2.result
    (omega arith) c.min-2.ensures c.chain-test.false c.chain.invariant
