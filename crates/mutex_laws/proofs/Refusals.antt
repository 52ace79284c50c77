-- A call on mutexes that answers an error has changed nothing, and a call on tasks that a ceiling refuses neither.
use Rattle.std.proofs.Common.{◌≡◌, ℕ, ◌⊎◌, inl, inr, Bool, true, false, List, [], ◌∷◌, ◌++◌, Option, Some, None, refl, cond, ◌∙◌, ap, ℤ, pos, arith}
use Rattle.std.specs.Prelude.{nat_lt}
use Rattle.std.specs.Bool.{◌==◌}
use Rattle.std.specs.Int.{is_negative}
use Rattle.std.specs.Ordering.{int_eq}
use Rattle.std.proofs.lemmas.Bool.Decides.{nat_tests}
use Rattle.tk_types.specs.declared.answer.Answer.{Answer}
use Rattle.tk_types.specs.declared.answer.Outcome.{Outcome}
use Rattle.tk_types.specs.declared.answer.Outcome.TheVariants.{Returned, Blocked}
use Rattle.tk_types.specs.declared.answer.Who.{Who}
use Rattle.tk_types.specs.declared.error_code.Er.{Er}
use Rattle.tk_types.specs.declared.error_code.Er.TheVariants as er
use Rattle.tk_types.specs.declared.calls.MutexCall.{MutexCall}
use Rattle.tk_types.specs.declared.calls.MutexCall.TheVariants as call
use Rattle.tk_types.specs.declared.calls.TaskCall.{TaskCall}
use Rattle.tk_types.specs.declared.calls.TaskCall.TheVariants as task_calls
use Rattle.kernel_model.specs.Words.Checks.{Check, done, failed, first_error, natural}
use Rattle.kernel_model.specs.Tasks.Base.{Base, make_wait}
use Rattle.kernel_model.specs.Tasks.Calls.{TaskDone, caller, change_checks, change_priority, checked, finished, named, new_base, rebased, task_call, unless_error}
use Rattle.kernel_model.specs.SemFlags.Calls.{object_checks}
use Rattle.object_model.specs.declared.mutexes.Mutex.{Mutex}
use Rattle.object_model.specs.Mutexes.Tables.{Mutexes, ceiling_allows, has_mutex, locked, mutex_at, mutex_object}
use Rattle.object_model.specs.Mutexes.Calls as Calls
use Rattle.object_model.specs.Mutexes.Calls.{MutexDone, change_priority_beside, create_mutex, delete_mutex, lock_mutex, mutex_call, mutex_checked, refer_mutex, refused_with, table_changed, task_call_beside, unlock_mutex, waited_for_mutex, waits_or_ends}

-- ---- checks

refused_cases : (P : MutexDone → Type 0) (error : Option Er) (b : Base) (m : Mutexes) (effect : MutexDone) → ((code : Er) → P (record { base = b; table = m; outcome = failed code })) → (error ≡ None → P effect) → P (refused_with error b m effect)
refused_cases P (Some error) b m effect refused works = refused error
refused_cases P None b m effect refused works = works refl

-- a call is refused with some error and leaves the base and the table, or passes its checks
pub mutex_cases : (P : MutexDone → Type 0) (checks : List Check) (b : Base) (m : Mutexes) (effect : MutexDone) → ((code : Er) → P (record { base = b; table = m; outcome = failed code })) → (first_error checks ≡ None → P effect) → P (mutex_checked checks b m effect)
mutex_cases P checks b m effect refused works = refused_cases P (first_error checks) b m effect refused works

-- ---- calls on mutexes

-- where a call has answered an error, the base and the table are as they were
abbrev pub AreKept : Base → Mutexes → MutexDone → Type 0
AreKept b m result = (answer : Answer) → result.outcome ≡ Returned answer → is_negative answer.value ≡ true → (result.base ≡ b) × (result.table ≡ m)

abbrev value_in : Outcome → ℤ
value_in (Returned answer) = answer.value
value_in _ = pos 0

-- a number from 0 on is no error
no_error : (n : ℕ) (answer : Answer) → done (pos n) ≡ Returned answer → is_negative answer.value ≡ true → ⊥
no_error n answer is error = let none : nat_lt n 0 ≡ true = ap (λ outcome. is_negative (value_in outcome)) is ∙ error in grind (arith, nat_tests, none)

-- a call that answers no error may change what it likes, and one that changes nothing may answer what it likes
works : (b c : Base) (m now : Mutexes) (n : ℕ) → AreKept b m (record { base = c; table = now; outcome = done (pos n) })
works b c m now n answer is error = absurd (no_error n answer is error)

leaves : (b : Base) (m : Mutexes) (outcome : Outcome) → AreKept b m (record { base = b; table = m; outcome = outcome })
leaves b m outcome answer is error = (refl, refl)

kept_checked : (b : Base) (m : Mutexes) (checks : List Check) (effect : MutexDone) → AreKept b m effect → AreKept b m (mutex_checked checks b m effect)
kept_checked b m checks effect kept = mutex_cases (AreKept b m) checks b m effect (λ code. leaves b m (failed code)) (λ none. kept)

or_waits : (b c : Base) (m : Mutexes) (over : Bool) → AreKept b m (cond {A = MutexDone} over (record { base = b; table = m; outcome = failed er.TmOut }) (record { base = c; table = m; outcome = Blocked }))
or_waits b c m true = leaves b m (failed er.TmOut)
or_waits b c m false = λ answer is error. absurd (cc is)

at_once : (b : Base) (m now : Mutexes) (late : MutexDone) (free : Bool) → AreKept b m late → AreKept b m (cond free (table_changed b now (pos 0)) late)
at_once b m now late true waits = works b b m now 0
at_once b m now late false waits = waits

waited : (b : Base) (m : Mutexes) (t id : ℕ) (timeout : ℤ) (slot : Option Mutex) → AreKept b m (waited_for_mutex b m t id timeout slot)
waited b m t id timeout None = leaves b m (failed er.NoExs)
waited b m t id timeout (Some k) = at_once b m (locked m id k t) (waits_or_ends b m t id k.order timeout) (k.owner == 0) (or_waits b (make_wait b t (mutex_object id) k.order timeout) m (int_eq timeout (pos 0)))

-- a call on mutexes that answers an error has changed nothing
pub refused_mutex_call : (b : Base) (m : Mutexes) (who : Who) (call : MutexCall) → AreKept b m (mutex_call b m who call)
unfolding mutex_call create_mutex lock_mutex unlock_mutex refer_mutex delete_mutex
refused_mutex_call b m who (call.CreMtx attributes ceiling) = kept_checked b m (Calls.create_checks m attributes ceiling) _ (works b b m _ (Calls.free_mutex m))
refused_mutex_call b m who (call.LocMtx id timeout) = kept_checked b m (Calls.lock_checks b m who id timeout) _ (waited b m (caller who) (natural id) timeout (mutex_at m (natural id)))
refused_mutex_call b m who (call.UnlMtx id) = kept_checked b m (Calls.unlock_checks b m who id) _ (works b b m _ 0)
refused_mutex_call b m who (call.RefMtx id) = kept_checked b m (object_checks id (has_mutex m (natural id)) []) _ (leaves b m _)
refused_mutex_call b m who (call.DelMtx id) = kept_checked b m (object_checks id (has_mutex m (natural id)) []) _ (works b _ m _ 0)

-- ---- calls on tasks beside mutexes

-- a call is as it is without mutexes, or it is refused as a ceiling refuses it
abbrev pub AsWithout : Base → TaskDone → TaskDone → Type 0
AsWithout b without beside = (beside ≡ without) ⊎ (beside ≡ record { base = b; outcome = failed er.IlUse })

step_if : (b : Base) (effect : TaskDone) (holds : Bool) (error : Er) (first longer : Option Er) → AsWithout b (unless_error first b effect) (unless_error longer b effect) →
    AsWithout b (unless_error (cond holds first (Some error)) b effect) (unless_error (cond holds longer (Some error)) b effect)
step_if b effect true error first longer rest = rest
step_if b effect false error first longer rest = inl refl

last_if : (b : Base) (effect : TaskDone) (holds : Bool) → AsWithout b effect (unless_error (cond holds None (Some er.IlUse)) b effect)
last_if b effect true = inl refl
last_if b effect false = inr refl

-- one more check behind the others, whose error is E_ILUSE
one_more : (b : Base) (effect : TaskDone) (holds : Bool) (checks : List Check) → AsWithout b (checked checks b effect) (checked (checks ++ record { holds = holds; error = er.IlUse } ∷ []) b effect)
one_more b effect holds [] = last_if b effect holds
one_more b effect holds (check ∷ checks) = step_if b effect check.holds check.error (first_error checks) (first_error (checks ++ record { holds = holds; error = er.IlUse } ∷ [])) (one_more b effect holds checks)

pub beside_or_refused : (b : Base) (m : Mutexes) (who : Who) (call : TaskCall) → AsWithout b (task_call b who call) (task_call_beside b m who call)
unfolding task_call task_call_beside change_priority change_priority_beside
beside_or_refused b m who (task_calls.CreTsk attributes body priority stack) = inl refl
beside_or_refused b m who (task_calls.DelTsk task) = inl refl
beside_or_refused b m who (task_calls.StaTsk task code) = inl refl
beside_or_refused b m who task_calls.ExtTsk = inl refl
beside_or_refused b m who task_calls.ExdTsk = inl refl
beside_or_refused b m who (task_calls.TerTsk task) = inl refl
beside_or_refused b m who (task_calls.ChgPri task priority) =
    one_more b (finished (rebased b (named who task) (new_base b (named who task) priority))) (ceiling_allows b m (named who task) (new_base b (named who task) priority)) (change_checks b who task priority)
beside_or_refused b m who (task_calls.RotRdq priority) = inl refl
beside_or_refused b m who task_calls.GetTid = inl refl
beside_or_refused b m who (task_calls.RefTsk task) = inl refl
beside_or_refused b m who (task_calls.SlpTsk timeout) = inl refl
beside_or_refused b m who (task_calls.WupTsk task) = inl refl
beside_or_refused b m who (task_calls.CanWup task) = inl refl
beside_or_refused b m who (task_calls.RelWai task) = inl refl
beside_or_refused b m who (task_calls.SusTsk task) = inl refl
beside_or_refused b m who (task_calls.RsmTsk task) = inl refl
beside_or_refused b m who (task_calls.FrsmTsk task) = inl refl
beside_or_refused b m who (task_calls.DlyTsk time) = inl refl

passed_last : (holds : Bool) (checks : List Check) → holds ≡ true → first_error (checks ++ record { holds = holds; error = er.IlUse } ∷ []) ≡ first_error checks
passed_last holds [] is = rw is refl
passed_last holds (check ∷ checks) is = ap (λ error. cond check.holds error (Some check.error)) (passed_last holds checks is)

-- what a ceiling allows is as it is without mutexes
pub allowed_as_without : (b : Base) (m : Mutexes) (who : Who) (task priority : ℤ) → ceiling_allows b m (named who task) (new_base b (named who task) priority) ≡ true →
    task_call_beside b m who (task_calls.ChgPri task priority) ≡ task_call b who (task_calls.ChgPri task priority)
unfolding task_call task_call_beside change_priority change_priority_beside
allowed_as_without b m who task priority is =
    ap (λ error. unless_error error b (finished (rebased b (named who task) (new_base b (named who task) priority)))) (passed_last (ceiling_allows b m (named who task) (new_base b (named who task) priority)) (change_checks b who task priority) is)

stopped_by : (b : Base) (effect : TaskDone) (holds : Bool) (checks : List Check) → holds ≡ false → (checked (checks ++ record { holds = holds; error = er.IlUse } ∷ []) b effect).base ≡ b
stopped_by b effect holds [] is = rw is refl
stopped_by b effect holds (check ∷ checks) is = stops (first_error (checks ++ record { holds = holds; error = er.IlUse } ∷ [])) check.error check.holds (stopped_by b effect holds checks is)
  where
    stops : (later : Option Er) (error : Er) (here : Bool) → (unless_error later b effect).base ≡ b → (unless_error (cond here later (Some error)) b effect).base ≡ b
    stops later error true rest = rest
    stops later error false rest = refl

-- and what it doesn't allow changes nothing
pub refused_by_ceiling : (b : Base) (m : Mutexes) (who : Who) (task priority : ℤ) → ceiling_allows b m (named who task) (new_base b (named who task) priority) ≡ false →
    (task_call_beside b m who (task_calls.ChgPri task priority)).base ≡ b
unfolding task_call_beside change_priority_beside
refused_by_ceiling b m who task priority is =
    stopped_by b (finished (rebased b (named who task) (new_base b (named who task) priority))) (ceiling_allows b m (named who task) (new_base b (named who task) priority)) (change_checks b who task priority) is
