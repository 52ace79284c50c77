-- Every call on semaphores and event flags leaves the tasks that wait in the order of what they wait for.
use Rattle.std.proofs.Common.{◌≡◌, ℕ, ◌≤◌, Bool, true, false, cond, List, [], Option, Some, None, refl, ◌∙◌, ap, ℤ, pos}
use Rattle.std.specs.Prelude.{bit_and, bit_or, slice_set}
use Rattle.std.specs.Int.{w32, cast_unsigned}
use Rattle.std.specs.Option.{option_map}
use Rattle.std.specs.Ordering.{int_eq}
use Rattle.tk_types.specs.declared.answer.Who.{Who}
use Rattle.tk_types.specs.declared.calls.SemFlagCall.{SemFlagCall}
use Rattle.tk_types.specs.declared.calls.SemFlagCall.TheVariants as call
use Rattle.kernel_model.specs.declared.objects.EventFlag.{EventFlag}
use Rattle.kernel_model.specs.declared.objects.FlagWish.{FlagWish}
use Rattle.kernel_model.specs.declared.objects.Semaphore.{Semaphore}
use Rattle.kernel_model.specs.Words.Checks.{Check, first_error, natural}
use Rattle.kernel_model.specs.Tasks.Base.{Base, make_wait}
use Rattle.kernel_model.specs.Tasks.Calls.{caller}
use Rattle.kernel_model.specs.Tasks.Waits.{HavePlaces}
use Rattle.kernel_model.specs.SemFlags.Tables.{SemFlags, flag_at, flag_object, has_bits, sem_at, sem_object, with_flag, with_sem}
use Rattle.kernel_model.specs.SemFlags.Calls as calls
use Rattle.kernel_model.specs.SemFlags.Calls.{SemFlagDone, end_waits, flag_waits_ended, has_flag, has_sem, object_checks, repatterned, sem_flag_call, sem_flag_checked, sem_waits_ended, serves_at_once, signalled, waited_for_flag, waited_for_sem}
use Rattle.machine_model.specs.States.Objects.{Objects}
use Rattle.machine_model.specs.States.Waits.{order_for}
use Rattle.call_lemmas.proofs.Checked.{holds_at, sem_flag_cases}
use Rattle.order_lemmas.proofs.Rights.{AreRight, ended_fits, ended_idle, right_same, wait_fits}
use Rattle.order_lemmas.proofs.Ranges.{flag_named, known_id, sem_named}
use Rattle.order_lemmas.proofs.Written.{flag_free, flag_idle, flag_made, flag_same, sem_free, sem_idle, sem_made, sem_same}

-- what holds of the base beside the tables of semaphores and flags
abbrev pub SemFlagRight : Objects → SemFlags → Base → Type 0
SemFlagRight o s b = AreRight (order_for (record o { sem_flags = s })) b

abbrev DoneRight : Objects → SemFlagDone → Type 0
DoneRight o done = SemFlagRight o done.table done.base

checked_fits : (o : Objects) (checks : List Check) (b : Base) (effect : SemFlagDone) → SemFlagRight o o.sem_flags b → (first_error checks ≡ None → DoneRight o effect) →
    DoneRight o (sem_flag_checked checks b o.sem_flags effect)
checked_fits o checks b effect all works = sem_flag_cases (DoneRight o) checks b o.sem_flags effect (λ code. all) works

either_fits : (o : Objects) (test : Bool) (one other : SemFlagDone) → DoneRight o one → DoneRight o other → DoneRight o (cond {A = SemFlagDone} test one other)
either_fits o true one other first second = first
either_fits o false one other first second = second

sem_deleted : (o : Objects) (b : Base) (id : ℕ) (slot : Option Semaphore) → sem_at o.sem_flags id ≡ slot → HavePlaces b → AreRight (order_for o) b →
    SemFlagRight o (with_sem o.sem_flags id None) (sem_waits_ended b id slot)
sem_deleted o b id None at has all = sem_free o b id None (λ least. at) all
sem_deleted o b id (Some k) at has all =
    sem_idle o (end_waits k.order (sem_object id) b) id None (ended_idle k.order (sem_object id) b has) (ended_fits (order_for o) k.order (sem_object id) b all)

flag_deleted : (o : Objects) (b : Base) (id : ℕ) (slot : Option EventFlag) → flag_at o.sem_flags id ≡ slot → HavePlaces b → AreRight (order_for o) b →
    SemFlagRight o (with_flag o.sem_flags id None) (flag_waits_ended b id slot)
flag_deleted o b id None at has all = flag_free o b id None (λ least. at) all
flag_deleted o b id (Some k) at has all =
    flag_idle o (end_waits k.order (flag_object id) b) id None (ended_idle k.order (flag_object id) b has) (ended_fits (order_for o) k.order (flag_object id) b all)

-- what a task asked for says nothing of the orders
asked_fits : (o : Objects) (b : Base) (counts : List ℕ) (wishes : List FlagWish) → AreRight (order_for o) b →
    SemFlagRight o (record o.sem_flags { counts = counts; wishes = wishes }) b
asked_fits o b counts wishes all = right_same (order_for o) (order_for (record o { sem_flags = record o.sem_flags { counts = counts; wishes = wishes } })) b (λ object. refl) all

sem_waited : (o : Objects) (b : Base) (t id n : ℕ) (timeout : ℤ) (slot : Option Semaphore) → sem_at o.sem_flags id ≡ slot → 1 ≤ id → id ≤ 64 → AreRight (order_for o) b →
    DoneRight o (waited_for_sem b o.sem_flags t id n timeout slot)
sem_waited o b t id n timeout None at least most all = all
sem_waited o b t id n timeout (Some k) at least most all =
    either_fits o (serves_at_once b k id t n) _ _ (sem_same o b id k _ at refl all)
    (either_fits o (int_eq timeout (pos 0)) _ _ all
    (asked_fits o (make_wait b t (sem_object id) k.order timeout) (slice_set o.sem_flags.counts t n) o.sem_flags.wishes
    (wait_fits (order_for o) b t (sem_object id) k.order timeout (sem_named o id least most ∙ ap (option_map (λ k. k.order)) at) all)))

flag_waited : (o : Objects) (b : Base) (t id : ℕ) (wish : FlagWish) (timeout : ℤ) (slot : Option EventFlag) → flag_at o.sem_flags id ≡ slot → 1 ≤ id → id ≤ 64 →
    AreRight (order_for o) b → DoneRight o (waited_for_flag b o.sem_flags t id wish timeout slot)
flag_waited o b t id wish timeout None at least most all = all
flag_waited o b t id wish timeout (Some k) at least most all =
    either_fits o (has_bits k.pattern wish) _ _ (flag_same o b id k _ at refl all)
    (either_fits o (int_eq timeout (pos 0)) _ _ all
    (asked_fits o (make_wait b t (flag_object id) k.order timeout) o.sem_flags.counts (slice_set o.sem_flags.wishes t wish)
    (wait_fits (order_for o) b t (flag_object id) k.order timeout (flag_named o id least most ∙ ap (option_map (λ k. k.order)) at) all)))

sem_signalled : (o : Objects) (b : Base) (id n : ℕ) (slot : Option Semaphore) → sem_at o.sem_flags id ≡ slot → AreRight (order_for o) b →
    SemFlagRight o (signalled o.sem_flags id n slot) b
sem_signalled o b id n None at all = all
sem_signalled o b id n (Some k) at all = sem_same o b id k _ at refl all

flag_changed : (o : Objects) (b : Base) (id : ℕ) (change : ℕ → ℕ) (slot : Option EventFlag) → flag_at o.sem_flags id ≡ slot → AreRight (order_for o) b →
    SemFlagRight o (repatterned o.sem_flags id change slot) b
flag_changed o b id change None at all = all
flag_changed o b id change (Some k) at all = flag_same o b id k _ at refl all

-- every call on semaphores and event flags leaves the tasks that wait in order
pub sem_flag_calls_fit : (o : Objects) (b : Base) (who : Who) (c : SemFlagCall) → HavePlaces b → AreRight (order_for o) b →
    SemFlagRight o (sem_flag_call b o.sem_flags who c).table (sem_flag_call b o.sem_flags who c).base
unfolding sem_flag_call calls.create_sem calls.create_flag calls.delete_sem calls.delete_flag calls.signal_sem calls.set_flag calls.clear_flag calls.refer_sem calls.refer_flag calls.wait_sem calls.wait_flag
sem_flag_calls_fit o b who (call.CreSem attributes count most) has all =
    checked_fits o (calls.create_sem_checks o.sem_flags attributes count most) b _ all
    (λ none. sem_made o b (Some (record { order = calls.order_of attributes; any_place = attributes.ta_cnt; count = natural count; most = natural most })) all)
sem_flag_calls_fit o b who (call.SigSem id count) has all =
    checked_fits o (calls.signal_checks o.sem_flags id count) b _ all (λ none. sem_signalled o b (natural id) (natural count) (sem_at o.sem_flags (natural id)) refl all)
sem_flag_calls_fit o b who (call.WaiSem id count timeout) has all =
    checked_fits o (calls.wait_sem_checks b o.sem_flags who id count timeout) b _ all
    (λ none. let known = known_id 64 id (holds_at 0 (calls.wait_sem_checks b o.sem_flags who id count timeout) none) in
    sem_waited o b (caller who) (natural id) (natural count) timeout (sem_at o.sem_flags (natural id)) refl known.0 known.1 all)
sem_flag_calls_fit o b who (call.RefSem id) has all = checked_fits o (object_checks id (has_sem o.sem_flags id) []) b _ all (λ none. all)
sem_flag_calls_fit o b who (call.CreFlg attributes pattern) has all =
    checked_fits o (calls.create_flag_checks o.sem_flags attributes) b _ all
    (λ none. flag_made o b (Some (record { order = calls.order_of attributes; many = attributes.ta_wmul; pattern = cast_unsigned w32 pattern })) all)
sem_flag_calls_fit o b who (call.SetFlg id pattern) has all =
    checked_fits o (object_checks id (has_flag o.sem_flags id) []) b _ all (λ none. flag_changed o b (natural id) (λ old. bit_or old (cast_unsigned w32 pattern))
    (flag_at o.sem_flags (natural id)) refl all)
sem_flag_calls_fit o b who (call.ClrFlg id pattern) has all =
    checked_fits o (object_checks id (has_flag o.sem_flags id) []) b _ all (λ none. flag_changed o b (natural id) (λ old. bit_and old (cast_unsigned w32 pattern))
    (flag_at o.sem_flags (natural id)) refl all)
sem_flag_calls_fit o b who (call.WaiFlg id bits mode timeout) has all =
    checked_fits o (calls.wait_flag_checks b o.sem_flags who id bits mode timeout) b _ all
    (λ none. let known = known_id 64 id (holds_at 0 (calls.wait_flag_checks b o.sem_flags who id bits mode timeout) none) in
    flag_waited o b (caller who) (natural id) (record { bits = cast_unsigned w32 bits; mode = mode }) timeout (flag_at o.sem_flags (natural id)) refl known.0 known.1 all)
sem_flag_calls_fit o b who (call.RefFlg id) has all = checked_fits o (object_checks id (has_flag o.sem_flags id) []) b _ all (λ none. all)
sem_flag_calls_fit o b who (call.DelSem id) has all =
    checked_fits o (object_checks id (has_sem o.sem_flags id) []) b _ all (λ none. sem_deleted o b (natural id) (sem_at o.sem_flags (natural id)) refl has all)
sem_flag_calls_fit o b who (call.DelFlg id) has all =
    checked_fits o (object_checks id (has_flag o.sem_flags id) []) b _ all (λ none. flag_deleted o b (natural id) (flag_at o.sem_flags (natural id)) refl has all)
