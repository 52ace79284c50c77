-- The base beside the tables, as parts of one state.
use Rattle.std.specs.Prelude.{ℕ, ◌≡◌, ◌≤◌, ◌-◌, nat_le, nat_lt, ◌&&◌, if◌then◌else◌, Option, Some, None}
use Rattle.kernel_model.specs.declared.objects.Semaphore.{Semaphore}
use Rattle.kernel_model.specs.declared.objects.EventFlag.{EventFlag}
use Rattle.kernel_model.specs.Tasks.Base.{Base}
use Rattle.kernel_model.specs.Tasks.Queues.{AreOfOrder}
use Rattle.kernel_model.specs.SemFlags.Tables.{SemFlags, SemFlagParts, sem_at, flag_at, sem_object, flag_object, serve_sem, serve_flag}

abbrev pub parts_of : Base → SemFlags → SemFlagParts
parts_of b s = record { base = b; table = s }

-- the waiters of each semaphore and of each flag queue as its attributes say
pub record AreQueued (b : Base) (s : SemFlags) : Type 0 where
  pub sems : (id : ℕ) (k : Semaphore) → 1 ≤ id → id ≤ 64 → sem_at s id ≡ Some k → AreOfOrder k.order b (sem_object id)
  pub flags : (id : ℕ) (k : EventFlag) → 1 ≤ id → id ≤ 64 → flag_at s id ≡ Some k → AreOfOrder k.order b (flag_object id)

-- one waiter of the object with that number is served, where one can be: semaphores have the numbers from 64 on, flags
-- those from 128 on
abbrev pub serve_object : Base → SemFlags → ℕ → Option SemFlagParts
serve_object b s object =
    if nat_le 64 object && nat_lt object 128 then serve_sem b s (object - 63)
    else (if nat_le 128 object && nat_lt object 192 then serve_flag b s (object - 127) else None)
