-- A task that makes a call on semaphores or event flags, and doesn't wait then, stays the first of its equals.
use Rattle.std.proofs.Common.{◌≡◌, ℕ, suc, zero, Bool, true, false, List, [], ◌∷◌, Option, Some, None, cond, ◌∙◌, ap, sym, ℤ, pos, negsuc}
use Rattle.std.specs.Ordering.{int_eq}
use Rattle.tk_types.specs.declared.task.Order.{Order}
use Rattle.tk_types.specs.declared.task.Phase.TheVariants.{Waiting}
use Rattle.tk_types.specs.declared.answer.Outcome.TheVariants.{Returned, Blocked}
use Rattle.tk_types.specs.declared.answer.Who.TheVariants as whos
use Rattle.tk_types.specs.declared.error_code.Er.TheVariants as er
use Rattle.tk_types.specs.declared.calls.SemFlagCall.{SemFlagCall}
use Rattle.tk_types.specs.declared.calls.SemFlagCall.TheVariants as call
use Rattle.kernel_model.specs.declared.objects.Semaphore.{Semaphore}
use Rattle.kernel_model.specs.declared.objects.EventFlag.{EventFlag}
use Rattle.kernel_model.specs.declared.objects.FlagWish.{FlagWish}
use Rattle.kernel_model.specs.Words.Checks.{Check, failed, natural}
use Rattle.kernel_model.specs.Tasks.Base.{Base, task_at, is_ready, may_run, make_wait, queue}
use Rattle.kernel_model.specs.LawWords.Precedence.{KeepsPlace}
use Rattle.kernel_model.specs.SemFlags.Tables.{SemFlags, sem_at, flag_at, sem_object, flag_object, taken_from_sem, cleared_flag, flag_answer, has_bits}
use Rattle.kernel_model.specs.SemFlags.Calls as SemFlagCalls
use Rattle.kernel_model.specs.SemFlags.Calls.{SemFlagDone, sem_flag_call, sem_flag_checked, tables_changed, first_ended, end_first, sem_waits_ended, flag_waits_ended, waits_or_ends, waited_for_sem, waited_for_flag, serves_at_once, create_sem, create_flag, delete_sem, delete_flag, refer_sem, refer_flag, signal_sem, set_flag, clear_flag, wait_sem, wait_flag}
use Rattle.call_lemmas.proofs.Checked.{sem_flag_cases}
use Rattle.kernel_lemmas.proofs.Releases.{release_ready, release_keeps_place}
use Rattle.kernel_lemmas.proofs.Tables.{entry_split, entry_there}

-- the task is ready, and the first of its equals
abbrev IsInPlace : ℕ → Base → Type 0
IsInPlace t b = (is_ready b t ≡ true) × KeepsPlace b t

-- a task that is ready then keeps its place
abbrev Stays : ℕ → SemFlagDone → Type 0
Stays t result = is_ready result.base t ≡ true → KeepsPlace result.base t

-- ---- waits end

first_keeps : (ids : List ℕ) (t : ℕ) (b : Base) → IsInPlace t b → IsInPlace t (first_ended ids b)
first_keeps [] t b is = is
first_keeps (u ∷ ids) t b is = (ap may_run (release_ready b t u _ is.0) ∙ is.0, release_keeps_place b t u _ is.1 is.0)

ends_keep : (left : ℕ) (order : Order) (object t : ℕ) (b : Base) → IsInPlace t b → IsInPlace t (end_first left order object b)
unfolding end_first
ends_keep zero order object t b is = is
ends_keep (suc left) order object t b is = ends_keep left order object t (first_ended (queue order b object) b) (first_keeps (queue order b object) t b is)

sem_ends_keep : (b : Base) (id t : ℕ) (slot : Option Semaphore) → IsInPlace t b → IsInPlace t (sem_waits_ended b id slot)
sem_ends_keep b id t None is = is
sem_ends_keep b id t (Some k) is = ends_keep _ k.order (sem_object id) t b is

flag_ends_keep : (b : Base) (id t : ℕ) (slot : Option EventFlag) → IsInPlace t b → IsInPlace t (flag_waits_ended b id slot)
flag_ends_keep b id t None is = is
flag_ends_keep b id t (Some k) is = ends_keep _ k.order (flag_object id) t b is

-- ---- the caller waits

-- a task that waits isn't ready
wait_unready : (b : Base) (t object : ℕ) (order : Order) (timeout : ℤ) → is_ready b t ≡ true → is_ready (make_wait b t object order timeout) t ≡ true → ⊥
wait_unready b t object order (pos n) ready = entry_split (λ c. is_ready c t ≡ true → ⊥) (task_at b t) b _ (λ none now. absurd (cc (none, now)))
    (λ k at now. absurd (cc (sym now ∙ ap may_run (entry_there b.tasks t k (Some (record k { phase = Waiting object; queue = order })) at))))
wait_unready b t object order (negsuc n) ready = entry_split (λ c. is_ready c t ≡ true → ⊥) (task_at b t) b _ (λ none now. absurd (cc (none, now)))
    (λ k at now. absurd (cc (sym now ∙ ap may_run (entry_there b.tasks t k (Some (record k { phase = Waiting object; queue = order })) at))))

or_waits : (b : Base) (s asked : SemFlags) (t object : ℕ) (order : Order) (timeout : ℤ) (over : Bool) → IsInPlace t b →
    Stays t (cond {A = SemFlagDone} over (record { base = b; table = s; outcome = failed er.TmOut }) (record { base = make_wait b t object order timeout; table = asked; outcome = Blocked }))
or_waits b s asked t object order timeout true is = λ ready. is.1
or_waits b s asked t object order timeout false is = λ ready. absurd (wait_unready b t object order timeout is.0 ready)

sem_at_once : (b : Base) (s asked : SemFlags) (t id n : ℕ) (timeout : ℤ) (k : Semaphore) (at_once : Bool) → IsInPlace t b →
    Stays t (cond at_once (tables_changed b (taken_from_sem s id k n) (pos 0)) (waits_or_ends b s t (sem_object id) k.order timeout asked))
sem_at_once b s asked t id n timeout k true is = λ ready. is.1
sem_at_once b s asked t id n timeout k false is = or_waits b s asked t (sem_object id) k.order timeout (int_eq timeout (pos 0)) is

sem_waited : (b : Base) (s : SemFlags) (t id n : ℕ) (timeout : ℤ) (slot : Option Semaphore) → IsInPlace t b → Stays t (waited_for_sem b s t id n timeout slot)
sem_waited b s t id n timeout None is = λ ready. is.1
sem_waited b s t id n timeout (Some k) is = sem_at_once b s _ t id n timeout k (serves_at_once b k id t n) is

flag_at_once : (b : Base) (s asked : SemFlags) (t id : ℕ) (wish : FlagWish) (timeout : ℤ) (k : EventFlag) (at_once : Bool) → IsInPlace t b →
    Stays t (cond {A = SemFlagDone} at_once (record { base = b; table = cleared_flag s id k wish; outcome = Returned (flag_answer k) }) (waits_or_ends b s t (flag_object id) k.order timeout asked))
flag_at_once b s asked t id wish timeout k true is = λ ready. is.1
flag_at_once b s asked t id wish timeout k false is = or_waits b s asked t (flag_object id) k.order timeout (int_eq timeout (pos 0)) is

flag_waited : (b : Base) (s : SemFlags) (t id : ℕ) (wish : FlagWish) (timeout : ℤ) (slot : Option EventFlag) → IsInPlace t b → Stays t (waited_for_flag b s t id wish timeout slot)
flag_waited b s t id wish timeout None is = λ ready. is.1
flag_waited b s t id wish timeout (Some k) is = flag_at_once b s _ t id wish timeout k (has_bits k.pattern wish) is

-- ---- the calls

-- a call is refused, or its effect leaves the task its place
stays_checked : (b : Base) (s : SemFlags) (t : ℕ) (checks : List Check) (effect : SemFlagDone) → IsInPlace t b → Stays t effect → Stays t (sem_flag_checked checks b s effect)
stays_checked b s t checks effect is works = sem_flag_cases (Stays t) checks b s effect (λ code ready. is.1) (λ none. works)

family_stays : (b : Base) (s : SemFlags) (t : ℕ) (call : SemFlagCall) → IsInPlace t b → Stays t (sem_flag_call b s (whos.Task t) call)
unfolding sem_flag_call create_sem create_flag delete_sem delete_flag refer_sem refer_flag signal_sem set_flag clear_flag wait_sem wait_flag
family_stays b s t (call.CreSem attributes count most) is = stays_checked b s t (SemFlagCalls.create_sem_checks s attributes count most) _ is (λ ready. is.1)
family_stays b s t (call.SigSem id count) is = stays_checked b s t (SemFlagCalls.signal_checks s id count) _ is (λ ready. is.1)
family_stays b s t (call.WaiSem id count timeout) is =
    stays_checked b s t (SemFlagCalls.wait_sem_checks b s (whos.Task t) id count timeout) _ is (sem_waited b s t (natural id) (natural count) timeout (sem_at s (natural id)) is)
family_stays b s t (call.RefSem id) is = stays_checked b s t (SemFlagCalls.object_checks id (SemFlagCalls.has_sem s id) []) _ is (λ ready. is.1)
family_stays b s t (call.CreFlg attributes pattern) is = stays_checked b s t (SemFlagCalls.create_flag_checks s attributes) _ is (λ ready. is.1)
family_stays b s t (call.SetFlg id pattern) is = stays_checked b s t (SemFlagCalls.object_checks id (SemFlagCalls.has_flag s id) []) _ is (λ ready. is.1)
family_stays b s t (call.ClrFlg id pattern) is = stays_checked b s t (SemFlagCalls.object_checks id (SemFlagCalls.has_flag s id) []) _ is (λ ready. is.1)
family_stays b s t (call.WaiFlg id bits mode timeout) is =
    stays_checked b s t (SemFlagCalls.wait_flag_checks b s (whos.Task t) id bits mode timeout) _ is (flag_waited b s t (natural id) _ timeout (flag_at s (natural id)) is)
family_stays b s t (call.RefFlg id) is = stays_checked b s t (SemFlagCalls.object_checks id (SemFlagCalls.has_flag s id) []) _ is (λ ready. is.1)
family_stays b s t (call.DelSem id) is =
    stays_checked b s t (SemFlagCalls.object_checks id (SemFlagCalls.has_sem s id) []) _ is (λ ready. (sem_ends_keep b (natural id) t (sem_at s (natural id)) is).1)
family_stays b s t (call.DelFlg id) is =
    stays_checked b s t (SemFlagCalls.object_checks id (SemFlagCalls.has_flag s id) []) _ is (λ ready. (flag_ends_keep b (natural id) t (flag_at s (natural id)) is).1)

-- a task that calls and stays ready stays the first of its equals
pub family_keeps_place : (b : Base) (s : SemFlags) (t : ℕ) (call : SemFlagCall) → KeepsPlace b t → is_ready b t ≡ true → is_ready (sem_flag_call b s (whos.Task t) call).base t ≡ true → KeepsPlace (sem_flag_call b s (whos.Task t) call).base t
family_keeps_place b s t call is ready now = family_stays b s t call (ready, is) now
