-- What holds of the script's memory at every time.
use Rattle.std.specs.Prelude.{ℕ, ◌≡◌, ◌+◌, ◌<◌, List, ◌++◌, length, take, drop}
use Rattle.std.specs.List.{All}
use Rattle.kernel_model.specs.Bodies.Statements.{memory_size}

-- as many bytes as there are addresses
pub record IsMemory (memory : List ℕ) : Type 0 where
  pub whole : length memory ≡ memory_size
  pub bytes : All (λ byte. byte < 256) memory

-- a memory with bytes written from an address on
abbrev pub with_run : List ℕ → ℕ → List ℕ → List ℕ
with_run memory addr bytes = take addr memory ++ bytes ++ drop (addr + length bytes) memory
