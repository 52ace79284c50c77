-- The system calls on mutexes: the checks of each in their order, and its effect up to the first settling; and the one call on
-- tasks that a ceiling may refuse.
use Rattle.std.specs.Prelude.{ℕ, ◌==◌, Bool, true, false, not, ◌&&◌, ◌||◌, if◌then◌else◌, ℤ, pos, negsuc, int_le, List, [], ◌∷◌, ◌++◌, Option, Some, None, drop}
use Rattle.std.specs.List.{list_any}
use Rattle.std.specs.Ordering.{int_eq}
use Rattle.tk_types.specs.declared.task.Order.{Order}
use Rattle.tk_types.specs.declared.task.Order.TheVariants.{Fifo, Priority}
use Rattle.tk_types.specs.declared.answer.Who.{Who}
use Rattle.tk_types.specs.declared.answer.Outcome.{Outcome}
use Rattle.tk_types.specs.declared.answer.Outcome.TheVariants.{Returned, Blocked}
use Rattle.tk_types.specs.declared.error_code.Er.{Er}
use Rattle.tk_types.specs.declared.error_code.Er.TheVariants as er
use Rattle.tk_types.specs.declared.modes.Attributes.{Attributes}
use Rattle.tk_types.specs.declared.calls.MutexCall.{MutexCall}
use Rattle.tk_types.specs.declared.calls.MutexCall.TheVariants as call
use Rattle.tk_types.specs.declared.calls.TaskCall.{TaskCall}
use Rattle.tk_types.specs.declared.calls.TaskCall.TheVariants as task_calls
use Rattle.kernel_model.specs.declared.marks.Mark.TheVariants.{MayWait, NeedsTask}
use Rattle.kernel_model.specs.Words.Orders.{free_from, head_or_zero, without}
use Rattle.kernel_model.specs.Words.Checks.{Check, ◌otherwise◌, first_error, within, natural, answer, failed, done}
use Rattle.kernel_model.specs.Tasks.Base.{Base, base_of, make_wait}
use Rattle.kernel_model.specs.Tasks.Marks.{allows}
use Rattle.kernel_model.specs.Tasks.Calls.{TaskDone, caller, change_checks, checked, finished, named, new_base, rebased, task_call}
use Rattle.kernel_model.specs.SemFlags.Calls.{end_waits, object_checks}
use Rattle.object_model.specs.declared.mutexes.Mutex.{Mutex}
use Rattle.object_model.specs.Mutexes.Tables.{Mutexes, ceiling_allows, ceiling_of, freed, has_mutex, is_under, locked, mutex_at, mutex_object, mutex_waiters, owner_of, with_mutex}

-- a base and the table, and what became of the call
pub record MutexDone : Type 0 where
  pub base : Base
  pub table : Mutexes
  pub outcome : Outcome

abbrev pub refused_with : Option Er → Base → Mutexes → MutexDone → MutexDone
refused_with (Some error) b m effect = record { base = b; table = m; outcome = failed error }
refused_with None b m effect = effect

-- a call is refused with the first error of its checks, and nothing is changed then; else it has its effect
abbrev pub mutex_checked : List Check → Base → Mutexes → MutexDone → MutexDone
mutex_checked checks b m effect = refused_with (first_error checks) b m effect

-- a call that changes the table alone and answers a value
abbrev pub table_changed : Base → Mutexes → ℤ → MutexDone
table_changed b m value = record { base = b; table = m; outcome = done value }

-- ---- making

-- at most one of these
abbrev pub at_most_one : List Bool → Bool
at_most_one [] = true
at_most_one (true ∷ others) = not (list_any (λ other. other) others)
at_most_one (false ∷ others) = at_most_one others

-- beside those without an effect a mutex has at most one attribute: one of two orders, inheritance, or a ceiling
abbrev pub has_mutex_attributes : Attributes → Bool
has_mutex_attributes a =
    not (a.ta_first || a.ta_cnt || a.ta_wsgl || a.ta_wmul || a.ta_mfifo || a.ta_mpri || a.ta_sta || a.ta_phs)
    && at_most_one (a.ta_tfifo ∷ a.ta_tpri ∷ a.ta_inherit ∷ a.ta_ceiling ∷ [])

-- inheritance and a ceiling queue by priority
abbrev pub mutex_queue : Attributes → Order
mutex_queue a = if a.ta_tpri || a.ta_inherit || a.ta_ceiling then Priority else Fifo

abbrev pub free_mutex : Mutexes → ℕ
free_mutex m = free_from 1 (drop 1 m.table)

abbrev pub create_checks : Mutexes → Attributes → ℤ → List Check
create_checks m attributes ceiling =
    (has_mutex_attributes attributes otherwise er.RsAtr)
    ∷ (not attributes.ta_ceiling || within 1 140 ceiling otherwise er.Par)
    ∷ (not (free_mutex m == 0) otherwise er.Limit)
    ∷ []

-- a new mutex, which nobody owns
abbrev pub new_mutex : Attributes → ℤ → Mutex
new_mutex attributes ceiling = record {
  order = mutex_queue attributes;
  inherits = attributes.ta_inherit;
  ceiling = if attributes.ta_ceiling then Some (natural ceiling) else None;
  owner = 0;
}

-- `tk_cre_mtx`: a mutex with the least free ID
unfoldable pub create_mutex : Base → Mutexes → Attributes → ℤ → MutexDone
create_mutex b m attributes ceiling = mutex_checked (create_checks m attributes ceiling) b m
    (table_changed b (with_mutex m (free_mutex m) (Some (new_mutex attributes ceiling))) (pos (free_mutex m)))

-- ---- locking and unlocking

-- with a time-out of 0 a wait that isn't served is over at once, and nothing has happened; else the task waits
abbrev pub waits_or_ends : Base → Mutexes → ℕ → ℕ → Order → ℤ → MutexDone
waits_or_ends b m t id order timeout =
    if int_eq timeout (pos 0)
    then record { base = b; table = m; outcome = failed er.TmOut }
    else record { base = make_wait b t (mutex_object id) order timeout; table = m; outcome = Blocked }

-- a mutex that nobody owns is the caller's at once: nobody waits for it, since its first waiter would own it
abbrev pub waited_for_mutex : Base → Mutexes → ℕ → ℕ → ℤ → Option Mutex → MutexDone
waited_for_mutex b m t id timeout None = record { base = b; table = m; outcome = failed er.NoExs }
waited_for_mutex b m t id timeout (Some k) =
    if k.owner == 0 then table_changed b (locked m id k t) (pos 0) else waits_or_ends b m t id k.order timeout

abbrev pub lock_checks : Base → Mutexes → Who → ℤ → ℤ → List Check
lock_checks b m who id timeout =
    (within 1 64 id otherwise er.Id)
    ∷ (int_le (negsuc 0) timeout otherwise er.Par)
    ∷ (allows b.flags who MayWait otherwise er.Ctx)
    ∷ (has_mutex m (natural id) otherwise er.NoExs)
    ∷ (not (owner_of m (natural id) == caller who) otherwise er.IlUse)
    ∷ (is_under (ceiling_of m (natural id)) (base_of b (caller who)) otherwise er.IlUse)
    ∷ []

-- `tk_loc_mtx`: the caller becomes the owner, or waits
unfoldable pub lock_mutex : Base → Mutexes → Who → ℤ → ℤ → MutexDone
lock_mutex b m who id timeout = mutex_checked (lock_checks b m who id timeout) b m
    (waited_for_mutex b m (caller who) (natural id) timeout (mutex_at m (natural id)))

abbrev pub unlock_checks : Base → Mutexes → Who → ℤ → List Check
unlock_checks b m who id =
    (within 1 64 id otherwise er.Id)
    ∷ (allows b.flags who NeedsTask otherwise er.Ctx)
    ∷ (has_mutex m (natural id) otherwise er.NoExs)
    ∷ (owner_of m (natural id) == caller who otherwise er.IlUse)
    ∷ []

-- `tk_unl_mtx`: the owner frees it
unfoldable pub unlock_mutex : Base → Mutexes → Who → ℤ → MutexDone
unlock_mutex b m who id = mutex_checked (unlock_checks b m who id) b m (table_changed b (freed m (natural id)) (pos 0))

-- ---- asking and deleting

abbrev pub mutex_shown : Base → ℕ → Option Mutex → Outcome
mutex_shown b id None = failed er.NoExs
mutex_shown b id (Some k) = Returned (answer (pos 0) (pos k.owner ∷ pos (head_or_zero (mutex_waiters b k id)) ∷ []))

-- `tk_ref_mtx`: the owner or 0, and the first waiter or 0
unfoldable pub refer_mutex : Base → Mutexes → ℤ → MutexDone
refer_mutex b m id = mutex_checked (object_checks id (has_mutex m (natural id)) []) b m
    (record { base = b; table = m; outcome = mutex_shown b (natural id) (mutex_at m (natural id)) })

-- a mutex is gone, also for its owner
abbrev pub deleted : Mutexes → ℕ → Mutexes
deleted m id = record (with_mutex m id None) { locks = without id m.locks }

abbrev pub mutex_waits_ended : Base → ℕ → Option Mutex → Base
mutex_waits_ended b id None = b
mutex_waits_ended b id (Some k) = end_waits k.order (mutex_object id) b

-- `tk_del_mtx`: the owner loses the mutex, and then its waiters' waits end in queue order
unfoldable pub delete_mutex : Base → Mutexes → ℤ → MutexDone
delete_mutex b m id = mutex_checked (object_checks id (has_mutex m (natural id)) []) b m
    (record { base = mutex_waits_ended b (natural id) (mutex_at m (natural id)); table = deleted m (natural id); outcome = done (pos 0) })

-- a call on mutexes by its row
unfoldable pub mutex_call : Base → Mutexes → Who → MutexCall → MutexDone
mutex_call b m who (call.CreMtx attributes ceiling) = create_mutex b m attributes ceiling
mutex_call b m who (call.LocMtx id timeout) = lock_mutex b m who id timeout
mutex_call b m who (call.UnlMtx id) = unlock_mutex b m who id
mutex_call b m who (call.RefMtx id) = refer_mutex b m id
mutex_call b m who (call.DelMtx id) = delete_mutex b m id

-- ---- calls on tasks beside mutexes

abbrev pub change_checks_beside : Base → Mutexes → Who → ℤ → ℤ → List Check
change_checks_beside b m who task priority =
    change_checks b who task priority
    ++ (ceiling_allows b m (named who task) (new_base b (named who task) priority) otherwise er.IlUse)
    ∷ []

-- `tk_chg_pri`: a task's base priority changes, but not above a ceiling of a mutex that it holds or waits for
unfoldable pub change_priority_beside : Base → Mutexes → Who → ℤ → ℤ → TaskDone
change_priority_beside b m who task priority = checked (change_checks_beside b m who task priority) b
    (finished (rebased b (named who task) (new_base b (named who task) priority)))

-- a call on tasks by its row
unfoldable pub task_call_beside : Base → Mutexes → Who → TaskCall → TaskDone
task_call_beside b m who (task_calls.ChgPri task priority) = change_priority_beside b m who task priority
task_call_beside b m who other = task_call b who other
