-- What a list of IDs leaves in the script's memory, in words that laws speak in.
use Rattle.std.specs.Prelude.{◌≡◌, ℕ, zero, suc, ◌+◌, ◌*◌, ◌<◌, ◌≤◌, ◌⊎◌, pos, List, [], ◌∷◌, length, take, slice_index}
use Rattle.tk_types.specs.declared.answer.Outcome.TheVariants.{Returned}
use Rattle.kernel_model.specs.Words.Checks.{plain}
use Rattle.context_model.specs.Hooks.Tables.{Hooks}
use Rattle.context_model.specs.Hooks.Calls.{HookDone}

-- the number whose four bytes begin at an address, the least byte first
abbrev pub number_at : List ℕ → ℕ → ℕ
number_at memory address =
    slice_index memory address + 256 * slice_index memory (address + 1) + 65536 * slice_index memory (address + 2) + 16777216 * slice_index memory (address + 3)

-- so many numbers from an address on
abbrev pub numbers_at : ℕ → List ℕ → ℕ → List ℕ
numbers_at zero memory address = []
numbers_at (suc n) memory address = number_at memory address ∷ numbers_at n memory (address + 4)

-- a call answers how many IDs there are; the first of them stand in the memory from an address on, as many as have a place
-- there; and all other bytes and the hooks are as they were
pub record AreListed (ids : List ℕ) (hooks : Hooks) (memory : List ℕ) (address most : ℕ) (result : HookDone) : Type 0 where
  pub answer : result.outcome ≡ Returned (plain (pos (length ids)))
  pub written : numbers_at (length (take most ids)) result.memory address ≡ take most ids
  pub others : (place : ℕ) → (place < address) ⊎ (address + 4 * length (take most ids) ≤ place) → slice_index result.memory place ≡ slice_index memory place
  pub size : length result.memory ≡ length memory
  pub same_hooks : result.hooks ≡ hooks
