-- The table has a slot for each number of an interrupt, of a subsystem and of a task, and no task is in more than eight
-- services.
use Rattle.std.specs.Prelude.{ℕ, ◌≡◌, ◌≤◌, List, length, slice_index}

-- each of these depths is eight at most
pub record AreShallow (depths : List ℕ) : Type 0 where
  pub few : (task : ℕ) → slice_index depths task ≤ 8

pub record AreTables (handlers services depths : List ℕ) : Type 0 where
  pub all_handlers : length handlers ≡ 256
  pub all_services : length services ≡ 256
  pub all_depths : length depths ≡ 256
  pub shallow : AreShallow depths
