-- Calls don't change the time, and make one event at most.
use Rattle.std.proofs.Common.{◌≡◌, ℕ, zero, suc, ◌+◌, ◌≤◌, Bool, true, false, cond, List, [], ◌∷◌, Option, Some, None, refl, ◌∙◌, subst, arith, ℤ, pos, negsuc}
use Rattle.std.specs.Ordering.{int_eq}
use Rattle.tk_types.specs.declared.task.Order.{Order}
use Rattle.tk_types.specs.declared.answer.Who.{Who}
use Rattle.tk_types.specs.declared.answer.Answer.{Answer}
use Rattle.tk_types.specs.declared.error_code.Er.{Er}
use Rattle.tk_types.specs.declared.error_code.Er.TheVariants as er
use Rattle.tk_types.specs.Codes.{code_of}
use Rattle.tk_types.specs.declared.calls.SemFlagCall.{SemFlagCall}
use Rattle.tk_types.specs.declared.calls.SemFlagCall.TheVariants as call
use Rattle.kernel_model.specs.declared.objects.Semaphore.{Semaphore}
use Rattle.kernel_model.specs.declared.objects.EventFlag.{EventFlag}
use Rattle.kernel_model.specs.declared.objects.FlagWish.{FlagWish}
use Rattle.kernel_model.specs.Words.Checks.{first_error, natural, plain}
use Rattle.kernel_model.specs.Tasks.Base.{Base, is_waiting_phase, make_wait, queue, release, task_at}
use Rattle.kernel_model.specs.Tasks.Calls.{caller}
use Rattle.kernel_model.specs.SemFlags.Tables.{SemFlags, flag_at, has_bits, sem_at}
use Rattle.kernel_model.specs.SemFlags.Calls.{SemFlagDone, clear_flag, create_flag, create_sem, delete_flag, delete_sem, end_first, first_ended, flag_waits_ended, refer_flag, refer_sem, refused_with, sem_flag_call, sem_waits_ended, serves_at_once, set_flag, signal_sem, wait_flag, wait_flag_checks, wait_sem, wait_sem_checks, waited_for_flag, waited_for_sem, waits_or_ends}
use Rattle.kernel_lemmas.proofs.Tables.{entry_cases}
use Rattle.sem_flag.proofs.Waiting.{wish}

-- one event more at most, and the same time
pub record Kept (b c : Base) : Type 0 where
  pub made : c.made ≤ b.made + 1
  pub time : c.time ≡ b.time

-- the same events were made
pub record Same (b c : Base) : Type 0 where
  pub made : c.made ≡ b.made
  pub time : c.time ≡ b.time

same : (b : Base) → Same b b
same b = record { made = refl; time = refl }

of_same : (b c : Base) → Same b c → Kept b c
of_same b c is = let made : c.made ≡ b.made = is.made in record { made = omega arith; time = is.time }

kept : (b : Base) → Kept b b
kept b = of_same b b (same b)

then_same : (b c d : Base) → Same b c → Same c d → Same b d
then_same b c d first second = record { made = second.made ∙ first.made; time = second.time ∙ first.time }

-- a call that is refused changes nothing
refused_or : (b : Base) (s : SemFlags) (effect : SemFlagDone) (error : Option Er) → Kept b effect.base → Kept b (refused_with error b s effect).base
refused_or b s effect None moved = moved
refused_or b s effect (Some e) moved = kept b

-- ---- ends of waits

released_if : (b c : Base) (waits : Bool) → Same b c → Same b (cond waits c b)
released_if b c true is = is
released_if b c false is = same b

release_same : (b : Base) (t : ℕ) (result : Answer) → Same b (release b t result)
release_same b t result = entry_cases (Same b) (task_at b t) b _ (same b) (λ k at. released_if b _ (is_waiting_phase k.phase) (record { made = refl; time = refl }))

first_same : (waiters : List ℕ) (b : Base) → Same b (first_ended waiters b)
first_same [] b = same b
first_same (t ∷ rest) b = release_same b t (plain (code_of er.Dlt))

end_same : (left : ℕ) (order : Order) (object : ℕ) (b : Base) → Same b (end_first left order object b)
unfolding end_first
end_same zero order object b = same b
end_same (suc left) order object b =
    let first : Base = first_ended (queue order b object) b in
    then_same b first (end_first left order object first) (first_same (queue order b object) b) (end_same left order object first)

sem_ended : (b : Base) (id : ℕ) (slot : Option Semaphore) → Kept b (sem_waits_ended b id slot)
sem_ended b id None = kept b
sem_ended b id (Some k) = of_same b _ (end_same _ k.order _ b)

flag_ended : (b : Base) (id : ℕ) (slot : Option EventFlag) → Kept b (flag_waits_ended b id slot)
flag_ended b id None = kept b
flag_ended b id (Some k) = of_same b _ (end_same _ k.order _ b)

-- ---- waits

wait_kept : (b : Base) (t object : ℕ) (order : Order) (timeout : ℤ) → Kept b (make_wait b t object order timeout)
wait_kept b t object order (pos n) = entry_cases (Kept b) (task_at b t) b _ (kept b) (λ k at. record { made = omega arith; time = refl })
wait_kept b t object order (negsuc n) = entry_cases (Kept b) (task_at b t) b _ (kept b) (λ k at. record { made = omega arith; time = refl })

one_if : (b : Base) (done other : SemFlagDone) (test : Bool) → Kept b done.base → Kept b other.base → Kept b (cond test done other).base
one_if b done other true first second = first
one_if b done other false first second = second

ends_kept : (b : Base) (s : SemFlags) (t object : ℕ) (order : Order) (timeout : ℤ) (asked : SemFlags) → Kept b (waits_or_ends b s t object order timeout asked).base
ends_kept b s t object order timeout asked = one_if b _ _ (int_eq timeout (pos 0)) (kept b) (wait_kept b t object order timeout)

sem_waited : (b : Base) (s : SemFlags) (t id n : ℕ) (timeout : ℤ) (slot : Option Semaphore) → Kept b (waited_for_sem b s t id n timeout slot).base
sem_waited b s t id n timeout None = kept b
sem_waited b s t id n timeout (Some k) = one_if b _ _ (serves_at_once b k id t n) (kept b) (ends_kept b s t _ k.order timeout _)

flag_waited : (b : Base) (s : SemFlags) (t id : ℕ) (wish : FlagWish) (timeout : ℤ) (slot : Option EventFlag) → Kept b (waited_for_flag b s t id wish timeout slot).base
flag_waited b s t id wish timeout None = kept b
flag_waited b s t id wish timeout (Some k) = one_if b _ _ (has_bits k.pattern wish) (kept b) (ends_kept b s t _ k.order timeout _)

-- ---- all calls

pub call_kept : (b : Base) (s : SemFlags) (who : Who) (c : SemFlagCall) → Kept b (sem_flag_call b s who c).base
unfolding sem_flag_call create_sem signal_sem wait_sem refer_sem create_flag set_flag clear_flag wait_flag refer_flag delete_sem delete_flag
call_kept b s who (call.CreSem attributes count most) = refused_or b s _ _ (kept b)
call_kept b s who (call.SigSem id count) = refused_or b s _ _ (kept b)
call_kept b s who (call.WaiSem id count timeout) =
    refused_or b s (waited_for_sem b s (caller who) (natural id) (natural count) timeout (sem_at s (natural id))) (first_error (wait_sem_checks b s who id count timeout))
    (sem_waited b s (caller who) (natural id) (natural count) timeout (sem_at s (natural id)))
call_kept b s who (call.RefSem id) = refused_or b s _ _ (kept b)
call_kept b s who (call.CreFlg attributes pattern) = refused_or b s _ _ (kept b)
call_kept b s who (call.SetFlg id pattern) = refused_or b s _ _ (kept b)
call_kept b s who (call.ClrFlg id pattern) = refused_or b s _ _ (kept b)
call_kept b s who (call.WaiFlg id bits mode timeout) =
    refused_or b s (waited_for_flag b s (caller who) (natural id) (wish bits mode) timeout (flag_at s (natural id))) (first_error (wait_flag_checks b s who id bits mode timeout))
    (flag_waited b s (caller who) (natural id) (wish bits mode) timeout (flag_at s (natural id)))
call_kept b s who (call.RefFlg id) = refused_or b s _ _ (kept b)
call_kept b s who (call.DelSem id) = refused_or b s _ _ (sem_ended b _ _)
call_kept b s who (call.DelFlg id) = refused_or b s _ _ (flag_ended b _ _)

-- in the form of a call's contract
pub after_call : (b : Base) (s : SemFlags) (who : Who) (c : SemFlagCall) (done : SemFlagDone) → sem_flag_call b s who c ≡ done → Kept b done.base
after_call b s who c done is = subst (λ (d : SemFlagDone). Kept b d.base) is (call_kept b s who c)
