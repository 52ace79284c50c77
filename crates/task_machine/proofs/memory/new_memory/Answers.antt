use Rattle.std.proofs.Common.{refl}
use Rattle.task_machine.proofs.Zeros.{zeros_are_memory}
use Rattle.task_machine.proofs.memory.new_memory.Goals as goal

pub invariant_of-result : goal.invariant_of-result
invariant_of-result c = zeros_are_memory _ _ refl c.in_ok-zeros.ensures
