-- What calls and the taking over of priorities leave of events and of the time.
use Rattle.std.proofs.Common.{◌≡◌, ℕ, zero, suc, ◌+◌, ◌≤◌, Bool, true, false, cond, List, [], ◌∷◌, Option, Some, None, refl, ap, sym, ◌∙◌, arith, subst, ℤ, pos, negsuc}
use Rattle.std.specs.Bool.{◌==◌}
use Rattle.std.specs.Ordering.{int_eq}
use Rattle.std.specs.Prelude.{drop, fold}
use Rattle.tk_types.specs.declared.answer.Answer.{Answer}
use Rattle.tk_types.specs.declared.answer.Who.{Who}
use Rattle.tk_types.specs.declared.task.Order.{Order}
use Rattle.tk_types.specs.declared.error_code.Er.{Er}
use Rattle.tk_types.specs.declared.error_code.Er.TheVariants as er
use Rattle.tk_types.specs.Codes.{code_of}
use Rattle.tk_types.specs.declared.calls.MutexCall.{MutexCall}
use Rattle.tk_types.specs.declared.calls.MutexCall.TheVariants as call
use Rattle.kernel_model.specs.Words.Checks.{first_error, natural, plain}
use Rattle.kernel_model.specs.Words.Orders.{taken_from}
use Rattle.kernel_model.specs.Tasks.Base.{Base, current, is_waiting_phase, make_wait, queue, release, set_current, task_at}
use Rattle.kernel_model.specs.Tasks.Calls.{caller}
use Rattle.kernel_model.specs.SemFlags.Calls.{end_first, first_ended}
use Rattle.kernel_lemmas.proofs.Tables.{entry_cases}
use Rattle.object_model.specs.declared.mutexes.Mutex.{Mutex}
use Rattle.object_model.specs.Mutexes.Calls.{MutexDone, create_mutex, delete_mutex, lock_checks, lock_mutex, mutex_call, mutex_waits_ended, refer_mutex, refused_with, unlock_mutex, waited_for_mutex, waits_or_ends}
use Rattle.object_model.specs.Mutexes.Priority.{current_of, refresh, resettle}
use Rattle.object_model.specs.Mutexes.Tables.{Mutexes, mutex_at}

-- one event more at most, and the same time
pub record Kept (b c : Base) : Type 0 where
  pub made : c.made ≤ b.made + 1
  pub time : c.time ≡ b.time

-- the same events were made
pub record Same (b c : Base) : Type 0 where
  pub made : c.made ≡ b.made
  pub time : c.time ≡ b.time

same : (b : Base) → Same b b
same b = record { made = refl; time = refl }

of_same : (b c : Base) → Same b c → Kept b c
of_same b c is = let made : c.made ≡ b.made = is.made in record { made = omega arith; time = is.time }

kept : (b : Base) → Kept b b
kept b = of_same b b (same b)

then_same : (b c d : Base) → Same b c → Same c d → Same b d
then_same b c d first second = record { made = second.made ∙ first.made; time = second.time ∙ first.time }

-- a call that is refused changes nothing
refused_or : (b : Base) (m : Mutexes) (effect : MutexDone) (error : Option Er) → Kept b effect.base → Kept b (refused_with error b m effect).base
refused_or b m effect None moved = moved
refused_or b m effect (Some e) moved = kept b

-- ---- ends of waits

same_if : (b c : Base) (test : Bool) → Same b c → Same b (cond test c b)
same_if b c true is = is
same_if b c false is = same b

release_same : (b : Base) (t : ℕ) (result : Answer) → Same b (release b t result)
release_same b t result = entry_cases (Same b) (task_at b t) b _ (same b) (λ k at. same_if b _ (is_waiting_phase k.phase) (record { made = refl; time = refl }))

first_same : (waiters : List ℕ) (b : Base) → Same b (first_ended waiters b)
first_same [] b = same b
first_same (t ∷ rest) b = release_same b t (plain (code_of er.Dlt))

end_same : (left : ℕ) (order : Order) (object : ℕ) (b : Base) → Same b (end_first left order object b)
unfolding end_first
end_same zero order object b = same b
end_same (suc left) order object b =
    let first : Base = first_ended (queue order b object) b in
    then_same b first (end_first left order object first) (first_same (queue order b object) b) (end_same left order object first)

ended : (b : Base) (id : ℕ) (slot : Option Mutex) → Kept b (mutex_waits_ended b id slot)
ended b id None = kept b
ended b id (Some k) = of_same b _ (end_same _ k.order _ b)

-- ---- waits

wait_kept : (b : Base) (t object : ℕ) (order : Order) (timeout : ℤ) → Kept b (make_wait b t object order timeout)
wait_kept b t object order (pos n) = entry_cases (Kept b) (task_at b t) b _ (kept b) (λ k at. record { made = omega arith; time = refl })
wait_kept b t object order (negsuc n) = entry_cases (Kept b) (task_at b t) b _ (kept b) (λ k at. record { made = omega arith; time = refl })

one_if : (b : Base) (done other : MutexDone) (test : Bool) → Kept b done.base → Kept b other.base → Kept b (cond test done other).base
one_if b done other true first second = first
one_if b done other false first second = second

ends_kept : (b : Base) (m : Mutexes) (t id : ℕ) (order : Order) (timeout : ℤ) → Kept b (waits_or_ends b m t id order timeout).base
ends_kept b m t id order timeout = one_if b _ _ (int_eq timeout (pos 0)) (kept b) (wait_kept b t _ order timeout)

waited : (b : Base) (m : Mutexes) (t id : ℕ) (timeout : ℤ) (slot : Option Mutex) → Kept b (waited_for_mutex b m t id timeout slot).base
waited b m t id timeout None = kept b
waited b m t id timeout (Some k) = one_if b _ _ (k.owner == 0) (kept b) (ends_kept b m t id k.order timeout)

-- ---- all calls

call_kept : (b : Base) (m : Mutexes) (who : Who) (c : MutexCall) → Kept b (mutex_call b m who c).base
unfolding mutex_call create_mutex lock_mutex unlock_mutex refer_mutex delete_mutex
call_kept b m who (call.CreMtx attributes ceiling) = refused_or b m _ _ (kept b)
call_kept b m who (call.LocMtx id timeout) =
    refused_or b m (waited_for_mutex b m (caller who) (natural id) timeout (mutex_at m (natural id))) (first_error (lock_checks b m who id timeout)) (waited b m (caller who) (natural id) timeout (mutex_at m (natural id)))
call_kept b m who (call.UnlMtx id) = refused_or b m _ _ (kept b)
call_kept b m who (call.RefMtx id) = refused_or b m _ _ (kept b)
call_kept b m who (call.DelMtx id) = refused_or b m _ _ (ended b _ _)

-- ---- priorities that are taken over

set_same : (b : Base) (t n : ℕ) → Same b (set_current b t n)
set_same b t n = entry_cases (Same b) (task_at b t) b _ (same b) (λ k at. record { made = refl; time = refl })

either_same : (b c : Base) (test : Bool) → Same b c → Same b (cond test b c)
either_same b c true is = same b
either_same b c false is = is

fold_same : (m : Mutexes) (b : Base) (ids : List ℕ) → Same b (fold (refresh m) b ids)
fold_same m b [] = same b
fold_same m b (t ∷ ids) = then_same b (refresh m b t) _ (either_same b _ (current b t == current_of b m t) (set_same b t (current_of b m t))) (fold_same m (refresh m b t) ids)

resettle_same : (b : Base) (m : Mutexes) → Same b (resettle b m)
unfolding resettle
resettle_same b m = fold_same m b (taken_from 1 (drop 1 b.tasks))

-- in the form of a call's contract, with a settling behind it
pub after_call : (b c : Base) (m n : Mutexes) (who : Who) (made : MutexCall) (done : MutexDone) → mutex_call b m who made ≡ done → c ≡ resettle done.base n → Kept b c
after_call b c m n who made done is moved =
    let called : Kept b done.base = subst (λ (d : MutexDone). Kept b d.base) is (call_kept b m who made) in
    let left : Same done.base c = subst (Same done.base) (sym moved) (resettle_same done.base n) in
    let first = called.made in
    let second = left.made in
    record { made = omega (arith, first, second); time = left.time ∙ called.time }
