-- Every call on mutexes, the end of a task that holds some, and every serving leaves their table short.
use Rattle.std.proofs.Common.{◌≡◌, ℕ, ◌≤◌, length, Bool, true, false, cond, List, [], ◌∷◌, Option, Some, None, subst, ℤ, pos}
use Rattle.std.specs.Prelude.{drop}
use Rattle.std.specs.Bool.{◌==◌}
use Rattle.std.specs.Option.{option_map}
use Rattle.std.specs.List.{last_or}
use Rattle.std.specs.Ordering.{int_eq}
use Rattle.tk_types.specs.declared.answer.Who.{Who}
use Rattle.tk_types.specs.declared.calls.MutexCall.{MutexCall}
use Rattle.tk_types.specs.declared.calls.MutexCall.TheVariants as call
use Rattle.tk_types.specs.declared.error_code.Er.{Er}
use Rattle.kernel_model.specs.Words.Checks.{Check, first_error, natural}
use Rattle.kernel_model.specs.Words.Orders.{taken_from}
use Rattle.kernel_model.specs.Tasks.Base.{Base}
use Rattle.kernel_model.specs.Tasks.Calls.{caller}
use Rattle.kernel_model.specs.SemFlags.Calls.{object_checks}
use Rattle.object_model.specs.declared.mutexes.Mutex.{Mutex}
use Rattle.object_model.specs.Mutexes.Tables.{MutexParts, Mutexes, free_last, freed, has_mutex, held, mutex_at, mutex_waiters, serve_mutex, serve_mutex_at, serve_mutex_of, serve_mutexes}
use Rattle.object_model.specs.Mutexes.Calls as calls
use Rattle.object_model.specs.Mutexes.Calls.{MutexDone, mutex_call, mutex_checked, refused_with, waited_for_mutex}
use Rattle.table_lemmas.proofs.Slots.{IfServed, first_kept, set_short}

-- the table of mutexes has no more slots than mutexes have numbers
abbrev pub MutexesShort : Mutexes → Type 0
MutexesShort m = length m.table ≤ 65

abbrev DoneShort : MutexDone → Type 0
DoneShort done = MutexesShort done.table

abbrev PartsShort : MutexParts → Type 0
PartsShort q = MutexesShort q.table

refused_short : (m : Mutexes) (error : Option Er) (b : Base) (effect : MutexDone) → MutexesShort m → DoneShort effect → DoneShort (refused_with error b m effect)
refused_short m (Some error) b effect has works = has
refused_short m None b effect has works = works

checked_short : (m : Mutexes) (checks : List Check) (b : Base) (effect : MutexDone) → MutexesShort m → DoneShort effect → DoneShort (mutex_checked checks b m effect)
checked_short m checks b effect has works = refused_short m (first_error checks) b effect has works

either_short : (test : Bool) (one other : MutexDone) → DoneShort one → DoneShort other → DoneShort (cond {A = MutexDone} test one other)
either_short true one other first second = first
either_short false one other first second = second

freed_short : (m : Mutexes) (id : ℕ) → MutexesShort m → MutexesShort (freed m id)
freed_short m id has = set_short m.table id _ has

last_short : (m now : Mutexes) (last : Option ℕ) → option_map (freed m) last ≡ Some now → MutexesShort m → MutexesShort now
last_short m now None is has = absurd (cc is)
last_short m now (Some id) is has = let e : freed m id ≡ now = cc is in subst (λ (it : Mutexes). MutexesShort it) e (freed_short m id has)

-- the mutex that a task that ends locked last is free again, and the table short
pub free_last_short : (b : Base) (m now : Mutexes) (t : ℕ) → free_last b m t ≡ Some now → MutexesShort m → MutexesShort now
unfolding free_last
free_last_short b m now t is has = last_short m now (last_or None (held m t)) is has

waited_short : (m : Mutexes) (b : Base) (t id : ℕ) (timeout : ℤ) (slot : Option Mutex) → MutexesShort m → DoneShort (waited_for_mutex b m t id timeout slot)
waited_short m b t id timeout None has = has
waited_short m b t id timeout (Some k) has = either_short (k.owner == 0) _ _ (set_short m.table id _ has) (either_short (int_eq timeout (pos 0)) _ _ has has)

-- every call on mutexes leaves their table short
pub mutex_calls_short : (m : Mutexes) (b : Base) (who : Who) (c : MutexCall) → MutexesShort m → MutexesShort (mutex_call b m who c).table
unfolding mutex_call calls.create_mutex calls.lock_mutex calls.unlock_mutex calls.refer_mutex calls.delete_mutex
mutex_calls_short m b who (call.CreMtx attributes ceiling) has = checked_short m (calls.create_checks m attributes ceiling) b _ has (set_short m.table _ _ has)
mutex_calls_short m b who (call.LocMtx id timeout) has =
    checked_short m (calls.lock_checks b m who id timeout) b _ has (waited_short m b (caller who) (natural id) timeout (mutex_at m (natural id)) has)
mutex_calls_short m b who (call.UnlMtx id) has = checked_short m (calls.unlock_checks b m who id) b _ has (freed_short m (natural id) has)
mutex_calls_short m b who (call.RefMtx id) has = checked_short m (object_checks id (has_mutex m (natural id)) []) b _ has has
mutex_calls_short m b who (call.DelMtx id) has = checked_short m (object_checks id (has_mutex m (natural id)) []) b _ has (set_short m.table (natural id) None has)

-- ---- servings

mutex_of : (b : Base) (m : Mutexes) (id : ℕ) (k : Mutex) (waiters : List ℕ) → MutexesShort m → IfServed PartsShort (serve_mutex_of b m id k waiters)
mutex_of b m id k [] has = tt
mutex_of b m id k (t ∷ rest) has = set_short m.table id _ has

unless_owned : (test : Bool) (served : Option MutexParts) → IfServed PartsShort served → IfServed PartsShort (cond {A = Option MutexParts} test served None)
unless_owned true served has = has
unless_owned false served has = tt

mutex_in : (b : Base) (m : Mutexes) (id : ℕ) (slot : Option Mutex) → MutexesShort m → IfServed PartsShort (serve_mutex_at b m id slot)
mutex_in b m id None has = tt
mutex_in b m id (Some k) has = unless_owned (k.owner == 0) (serve_mutex_of b m id k (mutex_waiters b k id)) (mutex_of b m id k (mutex_waiters b k id) has)

mutex_serving : (b : Base) (m : Mutexes) (id : ℕ) → MutexesShort m → IfServed PartsShort (serve_mutex b m id)
unfolding serve_mutex
mutex_serving b m id has = mutex_in b m id (mutex_at m id) has

-- a serving of a mutex leaves their table short
pub mutex_served_short : (b : Base) (m : Mutexes) → MutexesShort m → IfServed (λ (q : MutexParts). MutexesShort q.table) (serve_mutexes b m)
unfolding serve_mutexes
mutex_served_short b m has = first_kept PartsShort (serve_mutex b m) (taken_from 1 (drop 1 m.table)) (λ id. mutex_serving b m id has)
