-- The tables have a slot for each ID, and a place for each task.
use Rattle.std.specs.Prelude.{ℕ, ◌≡◌, ◌≤◌, List, Option, None, length}
use Rattle.kernel_model.specs.declared.objects.Semaphore.{Semaphore}
use Rattle.kernel_model.specs.declared.objects.EventFlag.{EventFlag}
use Rattle.kernel_model.specs.declared.objects.FlagWish.{FlagWish}
use Rattle.kernel_model.specs.Words.Orders.{entry}

-- every slot from a place on is free
pub record AreFreeFrom {A : Type 0} (used : ℕ) (slots : List (Option A)) : Type 0 where
  pub free : (id : ℕ) → used ≤ id → entry slots id ≡ None

-- what was ever written of a table lies before the place up to which it is used
pub record AreTables (sems : List (Option Semaphore)) (flags : List (Option EventFlag)) (counts : List ℕ) (wishes : List FlagWish) (sems_used flags_used : ℕ) : Type 0 where
  pub all_sems : length sems ≡ 65
  pub all_flags : length flags ≡ 65
  pub all_counts : length counts ≡ 256
  pub all_wishes : length wishes ≡ 256
  pub used_sems : sems_used ≤ 65
  pub used_flags : flags_used ≤ 65
  pub free_sems : AreFreeFrom sems_used sems
  pub free_flags : AreFreeFrom flags_used flags
