use Rattle.std.proofs.Common.{◌≡◌, ◌-◌}
use Rattle.object_model.specs.Mutexes.Priority.{chain_has, next_in_chain}
use Rattle.mutex_prio.proofs.chains.chain_has.Given as goal

-- what is left of the chain has the task where the whole chain has it
abbrev pub invariant-chain : goal.invariant-chain
invariant-chain l = chain_has (next_in_chain l.base l.table) l.task (255 - l._passed) l.at ≡ chain_has (next_in_chain l.base l.table) l.task 255 l.of
