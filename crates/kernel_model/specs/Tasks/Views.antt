-- What a task shows of itself: its state by the numbers of `tk_ref_tsk`, and where its wait stands.
use Rattle.std.specs.Prelude.{ℕ, ◌==◌, if◌then◌else◌, Bool, true, false, Option, Some, None}
use Rattle.tk_types.specs.declared.task.Task.{Task}
use Rattle.tk_types.specs.declared.task.Phase.{Phase}
use Rattle.tk_types.specs.declared.task.Phase.TheVariants.{Dormant, Ready, Waiting}
use Rattle.kernel_model.specs.Tasks.Base.{Base}

-- whether a task is the current one
abbrev pub is_current : ℕ → Option ℕ → Bool
is_current t None = false
is_current t (Some other) = other == t

-- READY or RUNNING, WAITING or DORMANT, and with a suspension SUSPENDED or WAITING-SUSPENDED
abbrev pub state_number : Bool → Phase → Bool → ℕ
state_number runs Dormant suspended = 6
state_number runs Ready suspended = if suspended then 4 else (if runs then 1 else 2)
state_number runs (Waiting object) suspended = if suspended then 5 else 3

abbrev pub is_suspended : Task → Bool
is_suspended k = if k.suspensions == 0 then false else true

-- 1 RUNNING, 2 READY, 3 WAITING, 4 SUSPENDED, 5 WAITING-SUSPENDED, 6 DORMANT
abbrev pub state_in : Base → ℕ → Task → ℕ
state_in b t k = state_number (is_current t b.cur) k.phase (is_suspended k)

-- the object that a task waits for
abbrev pub object_in : Phase → Option ℕ
object_in (Waiting object) = Some object
object_in _ = None
