-- How many endings may still come where no more calls are made: one of each request that hasn't ended, and one of each request
-- that waits for its acceptance.
use Rattle.std.specs.Prelude.{ℕ, ◌+◌, if◌then◌else◌, List, [], ◌∷◌, Option, Some, None}
use Rattle.tk_types.specs.declared.task.Task.{Task}
use Rattle.kernel_model.specs.Tasks.Base.{Base, is_waiting_phase}
use Rattle.device_model.specs.declared.rows.Wish.{Wish}
use Rattle.device_model.specs.declared.rows.Wish.TheVariants as wish
use Rattle.device_model.specs.Devices.Tables.{Devices, Row, has_ended}

-- a request that hasn't ended counts one
abbrev pub row_open : Option Row → ℕ
row_open None = 0
row_open (Some row) = if has_ended row.life then 0 else 1

abbrev pub open_in : List (Option Row) → ℕ
open_in [] = 0
open_in (slot ∷ slots) = row_open slot + open_in slots

-- so does a task that waits, where what it asked for when it last waited for a device is an acceptance
abbrev pub task_asks : Wish → Option Task → ℕ
task_asks (wish.Acceptance transfer stays) (Some k) = if is_waiting_phase k.phase then 1 else 0
task_asks (wish.Acceptance transfer stays) None = 0
task_asks _ slot = 0

abbrev pub asks_in : List Wish → List (Option Task) → ℕ
asks_in [] slots = 0
asks_in (asked ∷ later) [] = 0
asks_in (asked ∷ later) (slot ∷ slots) = task_asks asked slot + asks_in later slots

-- all of them
abbrev pub owed : Base → Devices → ℕ
owed b dv = open_in dv.rows + asks_in dv.wishes b.tasks
