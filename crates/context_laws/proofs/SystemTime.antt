-- The system time goes on from what it was set to.
use Rattle.std.proofs.Common.{◌≡◌, ℕ, suc, zero, ◌+◌, ◌-◌, ◌*◌, ◌/◌, ◌%◌, ◌^◌, ◌≤◌, Bool, true, false, List, [], ◌∷◌, Option, Some, None, refl, cond, ◌∙◌, ap, sym, ℤ, pos, arith}
use Rattle.std.specs.Prelude.{int_le}
use Rattle.std.specs.Int.{w32, cast_signed, cast_unsigned}
use Rattle.std.proofs.lemmas.Bool.Decides.{nat_tests}
use Rattle.std.proofs.lemmas.Int.{of_z-to_z}
use Rattle.tk_types.specs.declared.answer.Outcome.TheVariants.{Returned}
use Rattle.tk_types.specs.declared.error_code.Er.TheVariants as er
use Rattle.tk_types.specs.declared.task.Event.{Event}
use Rattle.tk_types.specs.declared.task.Event.TheVariants.{Wait, Cyclic, Alarm}
use Rattle.tk_types.specs.declared.calls.TimeCall.{TimeCall}
use Rattle.tk_types.specs.declared.calls.TimeCall.TheVariants as time
use Rattle.kernel_model.specs.Words.Checks.{Check, ◌otherwise◌, answer, first_error, natural}
use Rattle.kernel_model.specs.SemFlags.Calls.{object_checks}
use Rattle.kernel_model.specs.Tasks.Base.{Base, advance}
use Rattle.kernel_model.specs.LawWords.TimeOrder.{after_time}
use Rattle.context_model.specs.declared.cyclic_row.CyclicRow.{CyclicRow}
use Rattle.context_model.specs.Clocks.Tables.{Clocks, again, again_in, cyclic_at, has_cyc, has_alm, halves, is_set, next_due, set_for, system_time}
use Rattle.context_model.specs.Clocks.Calls as Time
use Rattle.context_model.specs.Clocks.Calls.{TimeDone, time_call, time_checked, started_cyclic, set_time, get_time, get_operating_time, create_cyclic, start_cyclic, stop_cyclic, delete_cyclic, refer_cyclic, create_alarm, start_alarm, stop_alarm, delete_alarm, refer_alarm}
use Rattle.context_model.specs.Clocks.Phases.{sets_time}
use Rattle.context_laws.proofs.Checked.{time_cases}

time_after : (n : ℕ) (b : Base) → (after_time n b).time ≡ b.time + n
time_after zero b = omega arith
time_after (suc n) b = let before = time_after n b in omega arith

from_zero : (n : ℕ) → int_le (pos 0) (pos n) ≡ true
from_zero n = grind (arith, nat_tests)

works : (checks : List Check) (b : Base) (c : Clocks) (effect : TimeDone) → first_error checks ≡ None → time_checked checks b c effect ≡ effect
works checks b c effect none = rw none refl

set_works : (b : Base) (c : Clocks) (high : ℕ) (low : ℤ) → time_call b c (time.SetTim (pos high) low) ≡ Time.worked b (record c { set_to = 2 ^ 32 * high + cast_unsigned w32 low; set_at = b.time }) (pos 0)
unfolding time_call set_time
set_works b c high low = works ((int_le (pos 0) (pos high) otherwise er.Par) ∷ []) b c _ (rw (from_zero high) refl)

-- so many milliseconds after it was set, the system time is what it was set to and so many more
pub set_and_passed : (b : Base) (c : Clocks) (high : ℕ) (low : ℤ) (n : ℕ) →
    (time_call (after_time n (time_call b c (time.SetTim (pos high) low)).base) (time_call b c (time.SetTim (pos high) low)).table time.GetTim).outcome
    ≡ Returned (answer (pos 0) (halves (2 ^ 32 * high + cast_unsigned w32 low + n)))
unfolding time_call get_time
set_and_passed b c high low n =
    ap (λ (set : TimeDone). (time_call (after_time n set.base) set.table time.GetTim).outcome) (set_works b c high low)
    ∙ ap (λ now. Returned (answer (pos 0) (halves now))) passed
  where
    to : ℕ
    to = 2 ^ 32 * high + cast_unsigned w32 low

    passed : 2 ^ 32 * high + cast_unsigned w32 low + ((after_time n b).time - b.time) ≡ 2 ^ 32 * high + cast_unsigned w32 low + n
    passed = let later = time_after n b in omega (arith, later)

pub operating : (b : Base) (c : Clocks) (n : ℕ) → (time_call (after_time n b) c time.GetOtm).outcome ≡ Returned (answer (pos 0) (halves (b.time + n)))
unfolding time_call get_operating_time
operating b c n = ap (λ now. Returned (answer (pos 0) (halves now))) (time_after n b)

-- the two halves together are the time modulo 2^64
split : (time : ℕ) → 2 ^ 32 * (time / 2 ^ 32 % 2 ^ 32) + time % 2 ^ 32 ≡ time % 2 ^ 64
split time = omega arith

first_is : (x y u v : ℤ) → ◌≡◌ {A = List ℤ} (x ∷ y ∷ []) (u ∷ v ∷ []) → (x ≡ u) × (y ≡ v)
first_is x y u v same = (cc same, cc same)

low_bits : (n : ℕ) → cast_unsigned w32 (cast_signed w32 (n % 2 ^ 32)) ≡ n % 2 ^ 32
low_bits n = of_z-to_z w32 (n % 2 ^ 32) (omega arith)

pub halves_are : (time : ℕ) (high low : ℤ) → halves time ≡ high ∷ low ∷ [] → 2 ^ 32 * cast_unsigned w32 high + cast_unsigned w32 low ≡ time % 2 ^ 64
halves_are time high low same =
    let parts = first_is (cast_signed w32 (time / 2 ^ 32 % 2 ^ 32)) (cast_signed w32 (time % 2 ^ 32)) high low same in
    let above : cast_unsigned w32 high ≡ time / 2 ^ 32 % 2 ^ 32 = ap (cast_unsigned w32) (sym parts.0) ∙ low_bits (time / 2 ^ 32) in
    let below : cast_unsigned w32 low ≡ time % 2 ^ 32 = ap (cast_unsigned w32) (sym parts.1) ∙ low_bits time in
    let both = split time in
    rw (above, below) both

-- ---- what else leaves the system time

abbrev Leaves : Base → Clocks → TimeDone → Type 0
Leaves b c result = system_time result.base result.table ≡ system_time b c

leaves_checked : (b : Base) (c : Clocks) (checks : List Check) (effect : TimeDone) → Leaves b c effect → Leaves b c (time_checked checks b c effect)
leaves_checked b c checks effect is = time_cases (Leaves b c) checks b c effect (λ code. refl) (λ none. is)

started_time : (b : Base) (id : ℕ) (slot : Option CyclicRow) → (started_cyclic b id slot).time ≡ b.time
started_time b id None = refl
started_time b id (Some k) = either_if k.phased
  where
    inner : (set : Bool) → (cond set b (set_for b (next_due k.first k.period b.time) (Cyclic id))).time ≡ b.time
    inner true = refl
    inner false = refl

    either_if : (phased : Bool) → (cond phased (cond (is_set (Cyclic id) b.events) b (set_for b (next_due k.first k.period b.time) (Cyclic id))) (set_for b (b.time + k.period + 1) (Cyclic id))).time ≡ b.time
    either_if true = inner (is_set (Cyclic id) b.events)
    either_if false = refl

created_time : (b : Base) (id at : ℕ) (started : Bool) → (cond started (set_for b at (Cyclic id)) b).time ≡ b.time
created_time b id at true = refl
created_time b id at false = refl

pub others_leave : (b : Base) (c : Clocks) (call : TimeCall) → sets_time call ≡ false → system_time (time_call b c call).base (time_call b c call).table ≡ system_time b c
unfolding time_call set_time get_time get_operating_time create_cyclic start_cyclic stop_cyclic delete_cyclic refer_cyclic create_alarm start_alarm stop_alarm delete_alarm refer_alarm
others_leave b c (time.SetTim high low) no_set = absurd (cc no_set)
others_leave b c time.GetTim no_set = refl
others_leave b c time.GetOtm no_set = refl
others_leave b c (time.CreCyc attributes body period phase) no_set = leaves_checked b c (Time.create_cyclic_checks c attributes period phase) _
    (ap (λ now. c.set_to + (now - c.set_at)) (created_time b (Time.free_cyclic c) (b.time + natural phase + 1) attributes.ta_sta))
others_leave b c (time.StaCyc id) no_set = leaves_checked b c (object_checks id (has_cyc c (natural id)) []) _ (ap (λ now. c.set_to + (now - c.set_at)) (started_time b (natural id) (cyclic_at c (natural id))))
others_leave b c (time.StpCyc id) no_set = leaves_checked b c (object_checks id (has_cyc c (natural id)) []) _ refl
others_leave b c (time.DelCyc id) no_set = leaves_checked b c (object_checks id (has_cyc c (natural id)) []) _ refl
others_leave b c (time.RefCyc id) no_set = leaves_checked b c (object_checks id (has_cyc c (natural id)) []) _ refl
others_leave b c (time.CreAlm attributes body) no_set = leaves_checked b c (Time.create_alarm_checks c attributes) _ refl
others_leave b c (time.StaAlm id delay) no_set = leaves_checked b c (Time.start_alarm_checks c id delay) _ refl
others_leave b c (time.StpAlm id) no_set = leaves_checked b c (object_checks id (has_alm c (natural id)) []) _ refl
others_leave b c (time.DelAlm id) no_set = leaves_checked b c (object_checks id (has_alm c (natural id)) []) _ refl
others_leave b c (time.RefAlm id) no_set = leaves_checked b c (object_checks id (has_alm c (natural id)) []) _ refl

again_in_time : (b : Base) (what : Event) (slot : Option CyclicRow) → (again_in b what slot).time ≡ b.time
again_in_time b what None = refl
again_in_time b what (Some k) = refl

pub again_leaves : (b : Base) (c : Clocks) (what : Event) → system_time (again b c what) c ≡ system_time b c
unfolding again
again_leaves b c (Wait t) = refl
again_leaves b c (Alarm id) = refl
again_leaves b c (Cyclic id) = ap (λ now. c.set_to + (now - c.set_at)) (again_in_time b (Cyclic id) (cyclic_at c id))

-- each millisecond is one more
pub goes_on : (b : Base) (c : Clocks) → c.set_at ≤ b.time → system_time (advance b) c ≡ system_time b c + 1
goes_on b c past = omega (arith, past)
