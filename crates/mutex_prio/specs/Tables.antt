-- The table has a slot for each ID, and each mutex that a task owns stands among those that are locked.
use Rattle.std.specs.Prelude.{ℕ, ◌≡◌, ◌≤◌, Bool, true, ◌&&◌, nat_le, List, Option, Some, None, length}
use Rattle.std.specs.List.{AllPass}
use Rattle.kernel_model.specs.LawWords.Once.{AreBelow, IsOnce, times}
use Rattle.kernel_model.specs.Words.Orders.{entry}
use Rattle.object_model.specs.declared.mutexes.Mutex.{Mutex}
use Rattle.object_model.specs.Mutexes.Tables.{owner_in}

-- every slot from a place on is free
pub record AreFreeFrom (used : ℕ) (slots : List (Option Mutex)) : Type 0 where
  pub free : (id : ℕ) → used ≤ id → entry slots id ≡ None

-- a ceiling is a priority that a task may have
abbrev pub fits_ceiling : Option ℕ → Bool
fits_ceiling None = true
fits_ceiling (Some ceiling) = nat_le 1 ceiling && nat_le ceiling 140

-- the same of a slot, also of a free one
abbrev pub fits_slot : Option Mutex → Bool
fits_slot None = true
fits_slot (Some k) = fits_ceiling k.ceiling

-- each mutex that a task owns stands among the locked ones
pub record AreLocked (slots : List (Option Mutex)) (locks : List ℕ) : Type 0 where
  pub each : (id : ℕ) → (owner_in (entry slots id) ≡ 0 → ⊥) → 1 ≤ times id locks

-- what was ever written of the table lies before the place up to which it is used
pub record AreMutexes (slots : List (Option Mutex)) (locks : List ℕ) (used : ℕ) : Type 0 where
  pub all : length slots ≡ 65
  pub within : used ≤ 65
  pub unused : AreFreeFrom used slots
  pub ceilings : AllPass fits_slot slots
  pub owned : AreLocked slots locks

-- the locked mutexes, each once, with room for all that there can be
pub record IsLocks (ids : List ℕ) (capacity : ℕ) : Type 0 where
  pub once : IsOnce ids
  pub below : AreBelow 65 ids
  pub room : 65 ≤ capacity
