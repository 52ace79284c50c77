-- The memory at the start.
use Rattle.std.proofs.Common.{◌≡◌, ◌<◌, ℕ, List, replicate, length, ap, ◌∙◌, arith}
use Rattle.std.proofs.lemmas.List.{length-replicate}
use Rattle.std.proofs.lemmas.List.Elements.{All-replicate, All-same}
use Rattle.kernel_model.specs.Bodies.Statements.{memory_size}
use Rattle.task_machine.specs.Bytes.{IsMemory}

pub zeros_are_memory : (bytes : List ℕ) (count : ℕ) → count ≡ memory_size → bytes ≡ replicate count 0 → IsMemory bytes
zeros_are_memory bytes count size zeros = record {
  whole = ap length zeros ∙ (length-replicate count 0 ∙ size);
  bytes = All-same (λ byte. byte < 256) bytes (replicate count 0) zeros (All-replicate (λ byte. byte < 256) count 0 (omega arith));
}
