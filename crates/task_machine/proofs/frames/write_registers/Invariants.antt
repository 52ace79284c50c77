use Rattle.std.proofs.Common.{◌≡◌, ◌∷◌, map, take}
use Rattle.std.specs.Int.{w32, cast_unsigned}
use Rattle.kernel_model.specs.Bodies.Statements.{over}
use Rattle.task_machine.proofs.frames.write_registers.Given as goal

abbrev pub invariant-fields : goal.invariant-fields
invariant-fields l = l.registers ≡ over (l.value ∷ map (cast_unsigned w32) (take l.place l.fields)) l.fn.registers
