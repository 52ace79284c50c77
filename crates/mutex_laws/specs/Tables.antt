-- What a table of mutexes keeps.
use Rattle.std.specs.Prelude.{ℕ, ◌≡◌, ◌≤◌, ◌<◌, length, None}
use Rattle.tk_types.specs.declared.answer.Who.{Who}
use Rattle.tk_types.specs.declared.answer.Who.TheVariants as whos
use Rattle.kernel_model.specs.LawWords.Once.{times, IsOnce}
use Rattle.object_model.specs.Mutexes.Tables.{Mutexes, mutex_at, owner_of}

-- there are 64 mutexes at most, and no mutex 0; the locked ones are those that are owned, each once; and owners are tasks
pub record AreInOrder (m : Mutexes) : Type 0 where
  pub slots : length m.table ≡ 65
  pub no_zero : mutex_at m 0 ≡ None
  pub once : IsOnce m.locks
  pub owned : (id : ℕ) → (owner_of m id ≡ 0 → ⊥) → 1 ≤ times id m.locks
  pub locked : (id : ℕ) → 1 ≤ times id m.locks → owner_of m id ≡ 0 → ⊥
  pub owners : (id : ℕ) → owner_of m id < 256

-- who calls: a handler, or a task with an ID from 1 to 255
abbrev pub IsCaller : Who → Type 0
IsCaller (whos.Task t) = (1 ≤ t) × (t < 256)
IsCaller whos.Handler = Unit {0}
