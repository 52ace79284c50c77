-- What the calls that start and stop handlers leave, where they do their work.
use Rattle.std.proofs.Common.{◌≡◌, ℕ, zero, suc, ◌+◌, ◌≤◌, Bool, true, false, List, [], Option, Some, None, refl, cond, ◌∙◌, ap, subst, ℤ, pos, arith}
use Rattle.std.specs.Prelude.{int_le, drop, not, slice_get}
use Rattle.std.specs.Bool.{◌==◌}
use Rattle.std.specs.Option.{is_some, option_flatten}
use Rattle.std.proofs.lemmas.Bool.Decides.{nat_tests}
use Rattle.tk_types.specs.declared.answer.Outcome.{Outcome}
use Rattle.tk_types.specs.declared.answer.Outcome.TheVariants.{Returned}
use Rattle.tk_types.specs.declared.error_code.Er.{Er}
use Rattle.tk_types.specs.declared.error_code.Er.TheVariants.{Ok as Fine}
use Rattle.tk_types.specs.declared.modes.Attributes.{Attributes}
use Rattle.tk_types.specs.Codes.{code_of}
use Rattle.kernel_model.specs.Words.Orders.{free_from}
use Rattle.tk_types.specs.declared.task.Event.{Event}
use Rattle.tk_types.specs.declared.task.Event.TheVariants.{Cyclic, Alarm}
use Rattle.tk_types.specs.declared.calls.TimeCall.TheVariants as time
use Rattle.kernel_model.specs.Words.Checks.{Check, first_error, within, plain}
use Rattle.kernel_model.specs.SemFlags.Calls.{object_checks}
use Rattle.kernel_model.specs.Tasks.Base.{Base}
use Rattle.context_model.specs.declared.cyclic_row.CyclicRow.{CyclicRow}
use Rattle.context_model.specs.Clocks.Tables.{Clocks, cyclic_at, has_cyc, has_alm, due_time, is_set, unset, set_for, next_due, again, again_in, with_cyclic, with_alarm}
use Rattle.context_model.specs.Clocks.Calls.{TimeDone, time_checked, time_call, worked, created_cyclic, create_cyclic, create_cyclic_checks, free_cyclic, started_cyclic, start_alarm_checks, start_cyclic, stop_cyclic, delete_cyclic, start_alarm, stop_alarm, delete_alarm}
use Rattle.context_laws.proofs.Checked.{time_cases, holds_at}
use Rattle.context_laws.proofs.InPhase.{free_slot, written_at}
use Rattle.context_laws.proofs.Sets.{due_set, due_gone}

-- an ID in its range passes
pub id_passes : (low high id : ℕ) → low ≤ id → id ≤ high → within low high (pos id) ≡ true
id_passes low high id least most = grind (arith, nat_tests, least, most)

-- a call whose checks hold has its effect
pub works : (checks : List Check) (b : Base) (c : Clocks) (effect : TimeDone) → first_error checks ≡ None → time_checked checks b c effect ≡ effect
works checks b c effect none = rw none refl

object_passes : (id : ℕ) (exists : Bool) → 1 ≤ id → id ≤ 64 → exists ≡ true → first_error (object_checks (pos id) exists []) ≡ None
object_passes id exists least most is = rw (id_passes 1 64 id least most, is) refl

alarm_passes : (c : Clocks) (id delay : ℕ) → 1 ≤ id → id ≤ 64 → has_alm c id ≡ true → first_error (start_alarm_checks c (pos id) (pos delay)) ≡ None
alarm_passes c id delay least most is = rw (id_passes 1 64 id least most, delay_passes, is) refl
  where
    delay_passes : int_le (pos 0) (pos delay) ≡ true
    delay_passes = grind (arith, nat_tests)

-- ---- cyclic handlers

there : (c : Clocks) (id : ℕ) (k : CyclicRow) → cyclic_at c id ≡ Some k → has_cyc c id ≡ true
there c id k at = ap (λ (slot : Option CyclicRow). is_some slot) at

start_works : (b : Base) (c : Clocks) (id : ℕ) (k : CyclicRow) → 1 ≤ id → id ≤ 64 → cyclic_at c id ≡ Some k → time_call b c (time.StaCyc (pos id)) ≡ worked (started_cyclic b id (Some k)) c (pos 0)
unfolding time_call start_cyclic
start_works b c id k least most at =
    works (object_checks (pos id) (has_cyc c id) []) b c (worked (started_cyclic b id (cyclic_at c id)) c (pos 0)) (object_passes id (has_cyc c id) least most (there c id k at))
    ∙ ap (λ slot. worked (started_cyclic b id slot) c (pos 0)) at

-- one that keeps its phase and isn't set is set for the next time of its phase
pub starts_next : (b : Base) (c : Clocks) (id : ℕ) (k : CyclicRow) → 1 ≤ id → id ≤ 64 → cyclic_at c id ≡ Some k → k.phased ≡ true → is_set (Cyclic id) b.events ≡ false →
    due_time (Cyclic id) (time_call b c (time.StaCyc (pos id))).base.events ≡ Some (next_due k.first k.period b.time)
starts_next b c id k least most at keeps free =
    ap (λ (result : TimeDone). due_time (Cyclic id) result.base.events) (start_works b c id k least most at)
    ∙ ap (λ phased. due_time (Cyclic id) (cond phased (cond (is_set (Cyclic id) b.events) b (set_for b (next_due k.first k.period b.time) (Cyclic id))) (set_for b (b.time + k.period + 1) (Cyclic id))).events) keeps
    ∙ ap (λ set. due_time (Cyclic id) (cond set b (set_for b (next_due k.first k.period b.time) (Cyclic id))).events) free
    ∙ due_set b (next_due k.first k.period b.time) (Cyclic id)

-- and one that is set goes on as it is
pub goes_on : (b : Base) (c : Clocks) (id : ℕ) (k : CyclicRow) → 1 ≤ id → id ≤ 64 → cyclic_at c id ≡ Some k → k.phased ≡ true → is_set (Cyclic id) b.events ≡ true →
    (time_call b c (time.StaCyc (pos id))).base ≡ b
goes_on b c id k least most at keeps set =
    ap (λ (result : TimeDone). result.base) (start_works b c id k least most at)
    ∙ ap (λ phased. cond phased (cond (is_set (Cyclic id) b.events) b (set_for b (next_due k.first k.period b.time) (Cyclic id))) (set_for b (b.time + k.period + 1) (Cyclic id))) keeps
    ∙ ap (λ set. cond set b (set_for b (next_due k.first k.period b.time) (Cyclic id))) set

-- one that doesn't keep its phase begins anew
pub begins_anew : (b : Base) (c : Clocks) (id : ℕ) (k : CyclicRow) → 1 ≤ id → id ≤ 64 → cyclic_at c id ≡ Some k → k.phased ≡ false →
    due_time (Cyclic id) (time_call b c (time.StaCyc (pos id))).base.events ≡ Some (b.time + k.period + 1)
begins_anew b c id k least most at keeps =
    ap (λ (result : TimeDone). due_time (Cyclic id) result.base.events) (start_works b c id k least most at)
    ∙ ap (λ phased. due_time (Cyclic id) (cond phased (cond (is_set (Cyclic id) b.events) b (set_for b (next_due k.first k.period b.time) (Cyclic id))) (set_for b (b.time + k.period + 1) (Cyclic id))).events) keeps
    ∙ due_set b (b.time + k.period + 1) (Cyclic id)

-- one that falls due is set for its period later
pub set_again : (b : Base) (c : Clocks) (id : ℕ) (k : CyclicRow) → cyclic_at c id ≡ Some k → due_time (Cyclic id) (again b c (Cyclic id)).events ≡ Some (b.time + k.period)
unfolding again
set_again b c id k at = ap (λ slot. due_time (Cyclic id) (again_in b (Cyclic id) slot).events) at ∙ due_set b (b.time + k.period) (Cyclic id)

not_set : (what : Event) (b : Base) → is_set what (unset b what).events ≡ false
not_set what b = ap (λ (due : Option ℕ). is_some due) (due_gone b what)

pub stop_leaves_none : (b : Base) (c : Clocks) (id : ℕ) → 1 ≤ id → id ≤ 64 → has_cyc c id ≡ true → is_set (Cyclic id) (time_call b c (time.StpCyc (pos id))).base.events ≡ false
unfolding time_call stop_cyclic
stop_leaves_none b c id least most is =
    ap (λ (result : TimeDone). is_set (Cyclic id) result.base.events) (works (object_checks (pos id) (has_cyc c id) []) b c (worked (unset b (Cyclic id)) c (pos 0)) (object_passes id (has_cyc c id) least most is))
    ∙ not_set (Cyclic id) b

pub delete_leaves_none : (b : Base) (c : Clocks) (id : ℕ) → 1 ≤ id → id ≤ 64 → has_cyc c id ≡ true → is_set (Cyclic id) (time_call b c (time.DelCyc (pos id))).base.events ≡ false
unfolding time_call delete_cyclic
delete_leaves_none b c id least most is =
    ap (λ (result : TimeDone). is_set (Cyclic id) result.base.events) (works (object_checks (pos id) (has_cyc c id) []) b c (worked (unset b (Cyclic id)) (with_cyclic c id None) (pos 0)) (object_passes id (has_cyc c id) least most is))
    ∙ not_set (Cyclic id) b

-- ---- alarm handlers

pub alarm_starts : (b : Base) (c : Clocks) (id delay : ℕ) → 1 ≤ id → id ≤ 64 → has_alm c id ≡ true → due_time (Alarm id) (time_call b c (time.StaAlm (pos id) (pos delay))).base.events ≡ Some (b.time + delay + 1)
unfolding time_call start_alarm
alarm_starts b c id delay least most is =
    ap (λ (result : TimeDone). due_time (Alarm id) result.base.events) (works (start_alarm_checks c (pos id) (pos delay)) b c (worked (set_for b (b.time + delay + 1) (Alarm id)) c (pos 0)) (alarm_passes c id delay least most is))
    ∙ due_set b (b.time + delay + 1) (Alarm id)

pub alarm_stop_leaves_none : (b : Base) (c : Clocks) (id : ℕ) → 1 ≤ id → id ≤ 64 → has_alm c id ≡ true → is_set (Alarm id) (time_call b c (time.StpAlm (pos id))).base.events ≡ false
unfolding time_call stop_alarm
alarm_stop_leaves_none b c id least most is =
    ap (λ (result : TimeDone). is_set (Alarm id) result.base.events) (works (object_checks (pos id) (has_alm c id) []) b c (worked (unset b (Alarm id)) c (pos 0)) (object_passes id (has_alm c id) least most is))
    ∙ not_set (Alarm id) b

pub alarm_delete_leaves_none : (b : Base) (c : Clocks) (id : ℕ) → 1 ≤ id → id ≤ 64 → has_alm c id ≡ true → is_set (Alarm id) (time_call b c (time.DelAlm (pos id))).base.events ≡ false
unfolding time_call delete_alarm
alarm_delete_leaves_none b c id least most is =
    ap (λ (result : TimeDone). is_set (Alarm id) result.base.events) (works (object_checks (pos id) (has_alm c id) []) b c (worked (unset b (Alarm id)) (with_alarm c id None) (pos 0)) (object_passes id (has_alm c id) least most is))
    ∙ not_set (Alarm id) b

-- ---- creation

-- no error has the number of an ID
no_id : (code : Er) (id : ℕ) → 1 ≤ id → code_of code ≡ pos id → ⊥
unfolding code_of
no_id Fine zero some is = absurd (omega (arith, some))
no_id Fine (suc id) some is = absurd (cc is)
no_id _ id some is = absurd (cc is)

value_in : Outcome → ℤ
value_in (Returned answer) = answer.value
value_in _ = pos 0

number_in : ℤ → ℕ
number_in (pos n) = n
number_in _ = 0

-- the handler that was made: its row, and when it is set
pub record IsMade (b : Base) (c : Clocks) (k : CyclicRow) (started : Bool) (id : ℕ) (result : TimeDone) : Type 0 where
  pub free : cyclic_at c id ≡ None
  pub row : cyclic_at result.table id ≡ Some k
  pub due : due_time (Cyclic id) result.base.events ≡ cond started (Some k.first) (due_time (Cyclic id) b.events)

set_if : (b : Base) (id time : ℕ) (started : Bool) → due_time (Cyclic id) (cond started (set_for b time (Cyclic id)) b).events ≡ cond started (Some time) (due_time (Cyclic id) b.events)
set_if b id time true = due_set b time (Cyclic id)
set_if b id time false = refl

abbrev Makes : Base → Clocks → CyclicRow → Bool → ℕ → TimeDone → Type 0
Makes b c k started id result = result.outcome ≡ Returned (plain (pos id)) → IsMade b c k started id result

made : (b : Base) (c : Clocks) (k : CyclicRow) (started : Bool) (at id : ℕ) → slice_get c.cyclics at ≡ Some None → at ≡ id → IsMade b c k started id (created_cyclic b c started at k)
made b c k started at id free same = subst (λ (n : ℕ). IsMade b c k started n (created_cyclic b c started at k)) same (record {
  free = ap option_flatten free;
  row = written_at (λ slot. slot ≡ Some k) c.cyclics at (Some k) free refl;
  due = set_if b at k.first started;
})

pub created : (b : Base) (c : Clocks) (attributes : Attributes) (body period phase id : ℕ) → 1 ≤ id →
    (time_call b c (time.CreCyc attributes body (pos period) (pos phase))).outcome ≡ Returned (plain (pos id)) →
    IsMade b c (record { body = body; phased = attributes.ta_phs; period = period; first = b.time + phase + 1 }) attributes.ta_sta id (time_call b c (time.CreCyc attributes body (pos period) (pos phase)))
unfolding time_call create_cyclic value_in number_in
created b c attributes body period phase id some =
    let k : CyclicRow = record { body = body; phased = attributes.ta_phs; period = period; first = b.time + phase + 1 } in
    let checks = create_cyclic_checks c attributes (pos period) (pos phase) in
    time_cases (Makes b c k attributes.ta_sta id) checks b c (created_cyclic b c attributes.ta_sta (free_cyclic c) k)
    (λ code is. absurd (no_id code id some (ap value_in is)))
    (λ none is. made b c k attributes.ta_sta (free_cyclic c) id (free_slot c.cyclics (not_true (free_from 1 (drop 1 c.cyclics) == 0) (holds_at 3 checks none))) (ap (λ outcome. number_in (value_in outcome)) is))
  where
    not_true : (test : Bool) → not test ≡ true → test ≡ false
    not_true true is = absurd (cc is)
    not_true false is = refl
