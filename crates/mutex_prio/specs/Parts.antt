-- The base beside the table, as parts of one state.
use Rattle.std.specs.Prelude.{ℕ, ◌≡◌, ◌≤◌, ◌-◌, nat_le, nat_lt, ◌&&◌, if◌then◌else◌, Option, Some, None}
use Rattle.kernel_model.specs.Tasks.Base.{Base}
use Rattle.kernel_model.specs.Tasks.Queues.{AreOfOrder}
use Rattle.object_model.specs.declared.mutexes.Mutex.{Mutex}
use Rattle.object_model.specs.Mutexes.Tables.{MutexParts, Mutexes, mutex_at, mutex_object, serve_mutex}

abbrev pub parts_of : Base → Mutexes → MutexParts
parts_of b m = record { base = b; table = m }

-- the waiters of each mutex queue as its attributes say
pub record AreQueued (b : Base) (m : Mutexes) : Type 0 where
  pub waiters : (id : ℕ) (k : Mutex) → 1 ≤ id → id ≤ 64 → mutex_at m id ≡ Some k → AreOfOrder k.order b (mutex_object id)

-- one waiter of the object with that number is served, where one can be: mutexes have the numbers from 256 on
abbrev pub serve_object : Base → Mutexes → ℕ → Option MutexParts
serve_object b m object = if nat_le 256 object && nat_lt object 320 then serve_mutex b m (object - 255) else None
