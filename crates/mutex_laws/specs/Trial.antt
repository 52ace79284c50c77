-- The paragraph on waiting calls, for mutexes, at the object alone: the caller joins the waiters of the mutex, which then
-- serves one, if it can. If that ended the caller's wait, the call returns, and the caller has its old stamp again. If not,
-- with a time-out of 0 everything is as before the call, and the answer is E_TMOUT; else the task waits.
use Rattle.std.specs.Prelude.{ℕ, ◌==◌, if◌then◌else◌, ℤ, Option, Some, None}
use Rattle.std.specs.List.{find}
use Rattle.std.specs.Option.{option_map, option_map_or}
use Rattle.tk_types.specs.declared.answer.Answer.{Answer}
use Rattle.tk_types.specs.declared.answer.Outcome.TheVariants.{Returned}
use Rattle.kernel_model.specs.SemFlags.Trial.{back_in}
use Rattle.kernel_model.specs.Tasks.Base.{Base, is_waiting, make_wait}
use Rattle.object_model.specs.declared.mutexes.Mutex.{Mutex}
use Rattle.object_model.specs.Mutexes.Calls.{MutexDone, waits_or_ends}
use Rattle.object_model.specs.Mutexes.Tables.{MutexParts, Mutexes, mutex_object, serve_mutex}

-- the answer in the record that a serving left of the end of a task's wait; none where the task waits on
abbrev pub ended_in : ℕ → Base → Option Answer
ended_in t b = if is_waiting b t then None else option_map (λ release. release.answer) (find (λ release. release.task == t) b.released)

abbrev pub mutex_trial_of : Base → Mutexes → ℕ → ℕ → ℤ → Mutex → Option MutexParts → MutexDone
mutex_trial_of b m t id timeout k None = waits_or_ends b m t id k.order timeout
mutex_trial_of b m t id timeout k (Some parts) =
    option_map_or (λ answer. record { base = back_in b parts.base t; table = parts.table; outcome = Returned answer }) (ended_in t parts.base)
    (waits_or_ends b m t id k.order timeout)

-- a task joins the waiters of a mutex, which then serves one, if it can
unfoldable pub mutex_trial : Base → Mutexes → ℕ → ℕ → ℤ → Mutex → MutexDone
mutex_trial b m t id timeout k = mutex_trial_of b m t id timeout k (serve_mutex (make_wait b t (mutex_object id) k.order timeout) m id)
