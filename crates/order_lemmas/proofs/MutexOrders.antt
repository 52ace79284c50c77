-- Every call on mutexes leaves the tasks that wait in the order of what they wait for.
use Rattle.std.proofs.Common.{◌≡◌, ℕ, ◌≤◌, Bool, true, false, cond, List, [], Option, Some, None, refl, ◌∙◌, ap, subst, ℤ, pos}
use Rattle.std.specs.Bool.{◌==◌}
use Rattle.std.specs.Option.{option_map}
use Rattle.std.specs.List.{last_or}
use Rattle.std.specs.Ordering.{int_eq}
use Rattle.tk_types.specs.declared.answer.Who.{Who}
use Rattle.tk_types.specs.declared.calls.MutexCall.{MutexCall}
use Rattle.tk_types.specs.declared.calls.MutexCall.TheVariants as call
use Rattle.tk_types.specs.declared.error_code.Er.{Er}
use Rattle.kernel_model.specs.Words.Checks.{Check, first_error, natural}
use Rattle.kernel_model.specs.Words.Orders.{entry}
use Rattle.kernel_model.specs.Tasks.Base.{Base}
use Rattle.kernel_model.specs.Tasks.Calls.{caller}
use Rattle.kernel_model.specs.Tasks.Waits.{HavePlaces}
use Rattle.kernel_model.specs.SemFlags.Calls.{end_waits, object_checks}
use Rattle.object_model.specs.declared.mutexes.Mutex.{Mutex}
use Rattle.object_model.specs.Mutexes.Tables.{Mutexes, free_last, freed, has_mutex, held, locked, mutex_at, mutex_object, with_mutex}
use Rattle.object_model.specs.Mutexes.Calls as calls
use Rattle.object_model.specs.Mutexes.Calls.{MutexDone, mutex_call, mutex_checked, mutex_waits_ended, refused_with, waited_for_mutex}
use Rattle.machine_model.specs.States.Objects.{Objects}
use Rattle.machine_model.specs.States.Waits.{order_for}
use Rattle.call_lemmas.proofs.Checked.{holds_at}
use Rattle.order_lemmas.proofs.Rights.{AreRight, ended_fits, ended_idle, right_same, wait_fits}
use Rattle.order_lemmas.proofs.Ranges.{known_id, mutex_named}
use Rattle.order_lemmas.proofs.Written.{mutex_free, mutex_idle, mutex_made, mutex_same}

-- what holds of the base beside a table of mutexes
abbrev pub MutexRight : Objects → Mutexes → Base → Type 0
MutexRight o m b = AreRight (order_for (record o { mutexes = m })) b

refused_fits : (o : Objects) (error : Option Er) (b : Base) (effect : MutexDone) → MutexRight o o.mutexes b → (error ≡ None → MutexRight o effect.table effect.base) →
    MutexRight o (refused_with error b o.mutexes effect).table (refused_with error b o.mutexes effect).base
refused_fits o (Some error) b effect all works = all
refused_fits o None b effect all works = works refl

checked_fits : (o : Objects) (checks : List Check) (b : Base) (effect : MutexDone) → MutexRight o o.mutexes b →
    (first_error checks ≡ None → MutexRight o effect.table effect.base) →
    MutexRight o (mutex_checked checks b o.mutexes effect).table (mutex_checked checks b o.mutexes effect).base
checked_fits o checks b effect all works = refused_fits o (first_error checks) b effect all works

either_fits : (o : Objects) (test : Bool) (one other : MutexDone) → MutexRight o one.table one.base → MutexRight o other.table other.base →
    MutexRight o (cond {A = MutexDone} test one other).table (cond {A = MutexDone} test one other).base
either_fits o true one other first second = first
either_fits o false one other first second = second

-- a mutex that nobody owns any more, or that another task owns, keeps its order
freed_slot : (o : Objects) (b : Base) (id : ℕ) (slot : Option Mutex) → entry o.mutexes.table id ≡ slot → AreRight (order_for o) b →
    MutexRight o (with_mutex o.mutexes id (option_map {T = Mutex} (λ k. record k { owner = 0 }) slot)) b
freed_slot o b id None at all = mutex_free o b id None (λ least. at) all
freed_slot o b id (Some k) at all = mutex_same o b id k (record k { owner = 0 }) at refl all

-- a mutex is free again
freed_fits : (o : Objects) (b : Base) (id : ℕ) → AreRight (order_for o) b → MutexRight o (freed o.mutexes id) b
freed_fits o b id all =
    right_same (order_for (record o { mutexes = with_mutex o.mutexes id (option_map {T = Mutex} (λ k. record k { owner = 0 }) (mutex_at o.mutexes id)) }))
    (order_for (record o { mutexes = freed o.mutexes id })) b (λ object. refl)
    (freed_slot o b id (mutex_at o.mutexes id) refl all)

last_fits : (o : Objects) (b : Base) (last : Option ℕ) (m : Mutexes) → option_map (freed o.mutexes) last ≡ Some m → AreRight (order_for o) b → MutexRight o m b
last_fits o b None m is all = absurd (cc is)
last_fits o b (Some id) m is all = let e : freed o.mutexes id ≡ m = cc is in subst (λ (it : Mutexes). MutexRight o it b) e (freed_fits o b id all)

-- the mutex that a task that ends locked last is free again
pub free_last_fits : (o : Objects) (b : Base) (t : ℕ) (m : Mutexes) → free_last b o.mutexes t ≡ Some m → AreRight (order_for o) b → MutexRight o m b
unfolding free_last
free_last_fits o b t m is all = last_fits o b (last_or None (held o.mutexes t)) m is all

deleted_fits : (o : Objects) (b : Base) (id : ℕ) (slot : Option Mutex) → mutex_at o.mutexes id ≡ slot → HavePlaces b → AreRight (order_for o) b →
    MutexRight o (with_mutex o.mutexes id None) (mutex_waits_ended b id slot)
deleted_fits o b id None at has all = mutex_free o b id None (λ least. at) all
deleted_fits o b id (Some k) at has all =
    mutex_idle o (end_waits k.order (mutex_object id) b) id None (ended_idle k.order (mutex_object id) b has) (ended_fits (order_for o) k.order (mutex_object id) b all)

locked_fits : (o : Objects) (b : Base) (id t : ℕ) (k : Mutex) → mutex_at o.mutexes id ≡ Some k → AreRight (order_for o) b → MutexRight o (locked o.mutexes id k t) b
locked_fits o b id t k at all =
    right_same (order_for (record o { mutexes = with_mutex o.mutexes id (Some (record k { owner = t })) })) (order_for (record o { mutexes = locked o.mutexes id k t })) b
    (λ object. refl)
    (mutex_same o b id k (record k { owner = t }) at refl all)

waited_fits : (o : Objects) (b : Base) (t id : ℕ) (timeout : ℤ) (slot : Option Mutex) → mutex_at o.mutexes id ≡ slot → 1 ≤ id → id ≤ 64 → AreRight (order_for o) b →
    MutexRight o (waited_for_mutex b o.mutexes t id timeout slot).table (waited_for_mutex b o.mutexes t id timeout slot).base
waited_fits o b t id timeout None at least most all = all
waited_fits o b t id timeout (Some k) at least most all =
    either_fits o (k.owner == 0) _ _ (locked_fits o b id t k at all)
    (either_fits o (int_eq timeout (pos 0)) _ _ all
    (wait_fits (order_for o) b t (mutex_object id) k.order timeout (mutex_named o id least most ∙ ap (option_map (λ k. k.order)) at) all))

-- every call on mutexes leaves the tasks that wait in order
pub mutex_calls_fit : (o : Objects) (b : Base) (who : Who) (c : MutexCall) → HavePlaces b → AreRight (order_for o) b →
    MutexRight o (mutex_call b o.mutexes who c).table (mutex_call b o.mutexes who c).base
unfolding mutex_call calls.create_mutex calls.lock_mutex calls.unlock_mutex calls.refer_mutex calls.delete_mutex
mutex_calls_fit o b who (call.CreMtx attributes ceiling) has all = checked_fits o (calls.create_checks o.mutexes attributes ceiling) b _ all
    (λ none. mutex_made o b (Some (calls.new_mutex attributes ceiling)) all)
mutex_calls_fit o b who (call.LocMtx id timeout) has all =
    checked_fits o (calls.lock_checks b o.mutexes who id timeout) b _ all
    (λ none. let known = known_id 64 id (holds_at 0 (calls.lock_checks b o.mutexes who id timeout) none) in waited_fits o b (caller who) (natural id) timeout
    (mutex_at o.mutexes (natural id)) refl known.0 known.1 all)
mutex_calls_fit o b who (call.UnlMtx id) has all = checked_fits o (calls.unlock_checks b o.mutexes who id) b _ all (λ none. freed_fits o b (natural id) all)
mutex_calls_fit o b who (call.RefMtx id) has all = checked_fits o (object_checks id (has_mutex o.mutexes (natural id)) []) b _ all (λ none. all)
mutex_calls_fit o b who (call.DelMtx id) has all =
    checked_fits o (object_checks id (has_mutex o.mutexes (natural id)) []) b _ all
    (λ none. right_same (order_for (record o { mutexes = with_mutex o.mutexes (natural id) None })) (order_for (record o { mutexes = calls.deleted o.mutexes (natural id) }))
    (mutex_waits_ended b (natural id) (mutex_at o.mutexes (natural id))) (λ object. refl)
    (deleted_fits o b (natural id) (mutex_at o.mutexes (natural id)) refl has all))
