-- Chains of tasks as a relation, and the priorities that are taken over along them, in the words of the subject.
use Rattle.std.specs.Prelude.{ℕ, ◌≡◌, ◌≤◌, ◌⊎◌, ◌==◌, Bool, not, true, Some}
use Rattle.kernel_model.specs.LawWords.Once.{times}
use Rattle.kernel_model.specs.Tasks.Base.{Base, base_of, current, task_at, waits_for}
use Rattle.object_model.specs.declared.mutexes.Mutex.{Mutex}
use Rattle.object_model.specs.Mutexes.Tables.{Mutexes, ceiling_of, held, mutex_at, mutex_object}
use Rattle.object_model.specs.Mutexes.Priority.{current_of, is_alive, next_in_chain, own}

-- a task stands in the chain of another one: it is that one, or stands in the chain of the next. The next of a task may be 0,
-- which is none
pub data InChain (next : ℕ → ℕ) (t : ℕ) : ℕ → Type 0 where
  here : InChain next t t
  behind : {u : ℕ} → (next u ≡ 0 → ⊥) → InChain next t (next u) → InChain next t u

-- a task waits for a mutex with inheritance, and another one owns that
pub record WaitsForHeir (b : Base) (m : Mutexes) (u heir : ℕ) : Type 0 where
  pub id : ℕ
  pub row : Mutex
  pub waits : waits_for b (mutex_object id) u ≡ true
  pub in_range : (1 ≤ id) × (id ≤ 64)
  pub there : mutex_at m id ≡ Some row
  pub inherits : row.inherits ≡ true
  pub owns : row.owner ≡ heir

-- a priority is the ceiling of a mutex that a task holds
pub record IsCeiling (m : Mutexes) (u priority : ℕ) : Type 0 where
  pub id : ℕ
  pub holds : 1 ≤ times id (held m u)
  pub gives : ceiling_of m id ≡ Some priority

-- a priority is the least of a task's base and of the ceilings of the mutexes that it holds: none of these is a lower number,
-- and it is one of them
pub record IsOwn (b : Base) (m : Mutexes) (u priority : ℕ) : Type 0 where
  pub under_base : priority ≤ base_of b u
  pub under_ceilings : (id ceiling : ℕ) → 1 ≤ times id (held m u) → ceiling_of m id ≡ Some ceiling → priority ≤ ceiling
  pub one : (priority ≡ base_of b u) ⊎ IsCeiling m u priority

-- a priority is the least that a living task whose chain comes to this one has by itself: none of these has a lower number,
-- and one of them has this one
pub record IsLeast (b : Base) (m : Mutexes) (t priority : ℕ) : Type 0 where
  pub below : (u : ℕ) → 1 ≤ u → is_alive (task_at b u) ≡ true → InChain (next_in_chain b m) t u → priority ≤ own b m u
  pub who : ℕ
  pub lives : is_alive (task_at b who) ≡ true
  pub stands : InChain (next_in_chain b m) t who
  pub gives : priority ≡ own b m who

-- whether a task's current priority isn't that of its definition
abbrev pub is_stale : Base → Mutexes → ℕ → Bool
is_stale b m t = not (current b t == current_of b m t)
