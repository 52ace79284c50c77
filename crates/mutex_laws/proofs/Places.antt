-- A task that makes a call on mutexes, and doesn't wait then, stays the first of its equals.
use Rattle.std.proofs.Common.{◌≡◌, ℕ, suc, zero, Bool, true, false, List, [], ◌∷◌, Option, Some, None, cond, ◌∙◌, ap, sym, ℤ, pos, negsuc}
use Rattle.std.specs.Prelude.{◌==◌}
use Rattle.std.specs.Ordering.{int_eq}
use Rattle.tk_types.specs.declared.task.Order.{Order}
use Rattle.tk_types.specs.declared.task.Phase.TheVariants.{Waiting}
use Rattle.tk_types.specs.declared.answer.Outcome.TheVariants.{Blocked}
use Rattle.tk_types.specs.declared.answer.Who.TheVariants as whos
use Rattle.tk_types.specs.declared.error_code.Er.TheVariants as er
use Rattle.tk_types.specs.declared.calls.MutexCall.{MutexCall}
use Rattle.tk_types.specs.declared.calls.MutexCall.TheVariants as call
use Rattle.kernel_model.specs.Words.Checks.{Check, failed, natural}
use Rattle.kernel_model.specs.Tasks.Base.{Base, is_ready, make_wait, may_run, queue, task_at}
use Rattle.kernel_model.specs.LawWords.Precedence.{KeepsPlace}
use Rattle.kernel_model.specs.SemFlags.Calls.{end_first, first_ended, object_checks}
use Rattle.kernel_lemmas.proofs.Releases.{release_keeps_place, release_ready}
use Rattle.kernel_lemmas.proofs.Tables.{entry_split, entry_there}
use Rattle.object_model.specs.declared.mutexes.Mutex.{Mutex}
use Rattle.object_model.specs.Mutexes.Tables.{Mutexes, has_mutex, locked, mutex_at, mutex_object}
use Rattle.object_model.specs.Mutexes.Calls as Calls
use Rattle.object_model.specs.Mutexes.Calls.{MutexDone, create_mutex, delete_mutex, lock_mutex, mutex_call, mutex_checked, mutex_waits_ended, refer_mutex, table_changed, unlock_mutex, waited_for_mutex, waits_or_ends}
use Rattle.mutex_laws.proofs.Refusals.{mutex_cases}

-- the task is ready, and the first of its equals
abbrev IsInPlace : ℕ → Base → Type 0
IsInPlace t b = (is_ready b t ≡ true) × KeepsPlace b t

-- a task that is ready then keeps its place
abbrev Stays : ℕ → MutexDone → Type 0
Stays t result = is_ready result.base t ≡ true → KeepsPlace result.base t

first_keeps : (ids : List ℕ) (t : ℕ) (b : Base) → IsInPlace t b → IsInPlace t (first_ended ids b)
first_keeps [] t b is = is
first_keeps (u ∷ ids) t b is = (ap may_run (release_ready b t u _ is.0) ∙ is.0, release_keeps_place b t u _ is.1 is.0)

ends_keep : (left : ℕ) (order : Order) (object t : ℕ) (b : Base) → IsInPlace t b → IsInPlace t (end_first left order object b)
unfolding end_first
ends_keep zero order object t b is = is
ends_keep (suc left) order object t b is = ends_keep left order object t (first_ended (queue order b object) b) (first_keeps (queue order b object) t b is)

waits_end : (b : Base) (id t : ℕ) (slot : Option Mutex) → IsInPlace t b → IsInPlace t (mutex_waits_ended b id slot)
waits_end b id t None is = is
waits_end b id t (Some k) is = ends_keep _ k.order (mutex_object id) t b is

-- a task that waits isn't ready
wait_unready : (b : Base) (t object : ℕ) (order : Order) (timeout : ℤ) → is_ready b t ≡ true → is_ready (make_wait b t object order timeout) t ≡ true → ⊥
wait_unready b t object order (pos n) ready = entry_split (λ c. is_ready c t ≡ true → ⊥) (task_at b t) b _ (λ none now. absurd (cc (none, now)))
    (λ k at now. absurd (cc (sym now ∙ ap may_run (entry_there b.tasks t k (Some (record k { phase = Waiting object; queue = order })) at))))
wait_unready b t object order (negsuc n) ready = entry_split (λ c. is_ready c t ≡ true → ⊥) (task_at b t) b _ (λ none now. absurd (cc (none, now)))
    (λ k at now. absurd (cc (sym now ∙ ap may_run (entry_there b.tasks t k (Some (record k { phase = Waiting object; queue = order })) at))))

or_waits : (b : Base) (m : Mutexes) (t object : ℕ) (order : Order) (timeout : ℤ) (over : Bool) → IsInPlace t b →
    Stays t (cond {A = MutexDone} over (record { base = b; table = m; outcome = failed er.TmOut }) (record { base = make_wait b t object order timeout; table = m; outcome = Blocked }))
or_waits b m t object order timeout true is = λ ready. is.1
or_waits b m t object order timeout false is = λ ready. absurd (wait_unready b t object order timeout is.0 ready)

at_once : (b : Base) (m now : Mutexes) (t id : ℕ) (order : Order) (timeout : ℤ) (free : Bool) → IsInPlace t b → Stays t (cond free (table_changed b now (pos 0)) (waits_or_ends b m t id order timeout))
at_once b m now t id order timeout true is = λ ready. is.1
at_once b m now t id order timeout false is = or_waits b m t (mutex_object id) order timeout (int_eq timeout (pos 0)) is

waited : (b : Base) (m : Mutexes) (t id : ℕ) (timeout : ℤ) (slot : Option Mutex) → IsInPlace t b → Stays t (waited_for_mutex b m t id timeout slot)
waited b m t id timeout None is = λ ready. is.1
waited b m t id timeout (Some k) is = at_once b m (locked m id k t) t id k.order timeout (k.owner == 0) is

-- a call is refused, or its effect leaves the task its place
stays_checked : (b : Base) (m : Mutexes) (t : ℕ) (checks : List Check) (effect : MutexDone) → IsInPlace t b → Stays t effect → Stays t (mutex_checked checks b m effect)
stays_checked b m t checks effect is works = mutex_cases (Stays t) checks b m effect (λ code ready. is.1) (λ none. works)

stays : (b : Base) (m : Mutexes) (t : ℕ) (call : MutexCall) → IsInPlace t b → Stays t (mutex_call b m (whos.Task t) call)
unfolding mutex_call create_mutex lock_mutex unlock_mutex refer_mutex delete_mutex
stays b m t (call.CreMtx attributes ceiling) is = stays_checked b m t (Calls.create_checks m attributes ceiling) _ is (λ ready. is.1)
stays b m t (call.LocMtx id timeout) is = stays_checked b m t (Calls.lock_checks b m (whos.Task t) id timeout) _ is (waited b m t (natural id) timeout (mutex_at m (natural id)) is)
stays b m t (call.UnlMtx id) is = stays_checked b m t (Calls.unlock_checks b m (whos.Task t) id) _ is (λ ready. is.1)
stays b m t (call.RefMtx id) is = stays_checked b m t (object_checks id (has_mutex m (natural id)) []) _ is (λ ready. is.1)
stays b m t (call.DelMtx id) is = stays_checked b m t (object_checks id (has_mutex m (natural id)) []) _ is (λ ready. (waits_end b (natural id) t (mutex_at m (natural id)) is).1)

-- a task that calls and stays ready stays the first of its equals
pub mutex_call_keeps_place : (b : Base) (m : Mutexes) (t : ℕ) (call : MutexCall) → KeepsPlace b t → is_ready b t ≡ true → is_ready (mutex_call b m (whos.Task t) call).base t ≡ true → KeepsPlace (mutex_call b m (whos.Task t) call).base t
mutex_call_keeps_place b m t call is ready now = stays b m t call (ready, is) now
