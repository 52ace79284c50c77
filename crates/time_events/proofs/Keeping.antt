-- Calls and ticks don't change the time, and make one event at most.
use Rattle.std.proofs.Common.{◌≡◌, ℕ, ℤ, pos, ◌+◌, ◌*◌, ◌^◌, ◌≤◌, Bool, true, false, cond, List, [], ◌∷◌, Option, Some, None, refl, sym, subst, arith}
use Rattle.std.specs.Prelude.{int_le}
use Rattle.std.specs.Int.{w32, cast_unsigned}
use Rattle.tk_types.specs.declared.error_code.Er.{Er}
use Rattle.tk_types.specs.declared.error_code.Er.TheVariants as er
use Rattle.tk_types.specs.declared.task.Event.{Event}
use Rattle.tk_types.specs.declared.task.Event.TheVariants.{Wait, Cyclic, Alarm}
use Rattle.tk_types.specs.declared.calls.TimeCall.{TimeCall}
use Rattle.tk_types.specs.declared.calls.TimeCall.TheVariants as call
use Rattle.kernel_model.specs.Words.Checks.{Check, ◌otherwise◌, first_error, natural}
use Rattle.kernel_model.specs.SemFlags.Calls.{object_checks}
use Rattle.kernel_model.specs.Tasks.Base.{Base, take_due}
use Rattle.context_model.specs.declared.cyclic_row.CyclicRow.{CyclicRow}
use Rattle.context_model.specs.Clocks.Tables.{Clocks, again, again_in, cyclic_at, has_alm, has_cyc, is_set, next_due, set_for, unset, with_alarm, with_cyclic}
use Rattle.context_model.specs.Clocks.Calls.{TimeDone, time_call, time_refused, time_checked, worked, told, handler_shown, free_alarm, free_cyclic, create_alarm_checks, create_cyclic_checks, created_cyclic, start_alarm_checks, started_cyclic, set_time, get_time, get_operating_time, create_cyclic, start_cyclic, stop_cyclic, delete_cyclic, refer_cyclic, create_alarm, start_alarm, stop_alarm, delete_alarm, refer_alarm}
use Rattle.time_events.specs.Ticks.{again_if}

-- one event more at most, and the same time
pub record Kept (b c : Base) : Type 0 where
  pub made : c.made ≤ b.made + 1
  pub time : c.time ≡ b.time

kept : (b : Base) → Kept b b
kept b = record { made = omega arith; time = refl }

one_if : (b c d : Base) (test : Bool) → Kept b c → Kept b d → Kept b (cond test c d)
one_if b c d true first second = first
one_if b c d false first second = second

-- a call that is refused changes nothing
refused_or : (b : Base) (c : Clocks) (effect : TimeDone) (error : Option Er) → Kept b effect.base → Kept b (time_refused error b c effect).base
refused_or b c effect None moved = moved
refused_or b c effect (Some e) moved = kept b

checked : (b : Base) (c : Clocks) (checks : List Check) (effect : TimeDone) → Kept b effect.base → Kept b (time_checked checks b c effect).base
checked b c checks effect moved = refused_or b c effect (first_error checks) moved

set_kept : (b : Base) (time : ℕ) (what : Event) → Kept b (set_for b time what)
set_kept b time what = record { made = omega arith; time = refl }

unset_kept : (b : Base) (what : Event) → Kept b (unset b what)
unset_kept b what = record { made = omega arith; time = refl }

started : (b : Base) (id : ℕ) (slot : Option CyclicRow) → Kept b (started_cyclic b id slot)
started b id None = kept b
started b id (Some k) =
    let in_phase : Base = set_for b (next_due k.first k.period b.time) (Cyclic id) in
    let afresh : Base = set_for b (b.time + k.period + 1) (Cyclic id) in
    one_if b _ afresh k.phased (one_if b b in_phase (is_set (Cyclic id) b.events) (kept b) (set_kept b _ (Cyclic id))) (set_kept b _ (Cyclic id))

abbrev cyclic_checks : Clocks → ℤ → List Check
cyclic_checks c id = object_checks id (has_cyc c (natural id)) []

abbrev alarm_checks : Clocks → ℤ → List Check
alarm_checks c id = object_checks id (has_alm c (natural id)) []

call_kept : (b : Base) (c : Clocks) (made : TimeCall) → Kept b (time_call b c made).base
unfolding time_call set_time get_time get_operating_time create_cyclic start_cyclic stop_cyclic delete_cyclic refer_cyclic create_alarm start_alarm stop_alarm delete_alarm refer_alarm
call_kept b c (call.SetTim high low) = checked b c ((int_le (pos 0) high otherwise er.Par) ∷ []) (worked b (record c { set_to = 2 ^ 32 * natural high + cast_unsigned w32 low; set_at = b.time }) (pos 0)) (kept b)
call_kept b c call.GetTim = kept b
call_kept b c call.GetOtm = kept b
call_kept b c (call.CreCyc attributes body period phase) =
    let first : ℕ = b.time + natural phase + 1 in
    let id : ℕ = free_cyclic c in
    checked b c (create_cyclic_checks c attributes period phase) (created_cyclic b c attributes.ta_sta id (record { body = body; phased = attributes.ta_phs; period = natural period; first = first }))
    (one_if b (set_for b first (Cyclic id)) b attributes.ta_sta (set_kept b first (Cyclic id)) (kept b))
call_kept b c (call.StaCyc id) = checked b c (cyclic_checks c id) (worked (started_cyclic b (natural id) (cyclic_at c (natural id))) c (pos 0)) (started b (natural id) (cyclic_at c (natural id)))
call_kept b c (call.StpCyc id) = checked b c (cyclic_checks c id) (worked (unset b (Cyclic (natural id))) c (pos 0)) (unset_kept b (Cyclic (natural id)))
call_kept b c (call.DelCyc id) = checked b c (cyclic_checks c id) (worked (unset b (Cyclic (natural id))) (with_cyclic c (natural id) None) (pos 0)) (unset_kept b (Cyclic (natural id)))
call_kept b c (call.RefCyc id) = checked b c (cyclic_checks c id) (told b c (handler_shown b (Cyclic (natural id)))) (kept b)
call_kept b c (call.CreAlm attributes body) = checked b c (create_alarm_checks c attributes) (worked b (with_alarm c (free_alarm c) (Some body)) (pos (free_alarm c))) (kept b)
call_kept b c (call.StaAlm id delay) =
    let due : ℕ = b.time + natural delay + 1 in
    checked b c (start_alarm_checks c id delay) (worked (set_for b due (Alarm (natural id))) c (pos 0)) (set_kept b due (Alarm (natural id)))
call_kept b c (call.StpAlm id) = checked b c (alarm_checks c id) (worked (unset b (Alarm (natural id))) c (pos 0)) (unset_kept b (Alarm (natural id)))
call_kept b c (call.DelAlm id) = checked b c (alarm_checks c id) (worked (unset b (Alarm (natural id))) (with_alarm c (natural id) None) (pos 0)) (unset_kept b (Alarm (natural id)))
call_kept b c (call.RefAlm id) = checked b c (alarm_checks c id) (told b c (handler_shown b (Alarm (natural id)))) (kept b)

-- in the form of a call's contract
pub after_call : (b : Base) (c : Clocks) (made : TimeCall) (done : TimeDone) → time_call b c made ≡ done → Kept b done.base
after_call b c made done is = subst (λ (d : TimeDone). Kept b d.base) is (call_kept b c made)

again_kept : (b : Base) (what : Event) (slot : Option CyclicRow) → Kept b (again_in b what slot)
again_kept b what None = kept b
again_kept b what (Some k) = set_kept b _ what

tick_kept : (b : Base) (c : Clocks) (what : Option Event) → Kept b (again_if (take_due b) c what)
unfolding again
tick_kept b c None = record { made = omega arith; time = refl }
tick_kept b c (Some (Wait t)) = record { made = omega arith; time = refl }
tick_kept b c (Some (Alarm id)) = record { made = omega arith; time = refl }
tick_kept b c (Some (Cyclic id)) =
    let left = again_kept (take_due b) (Cyclic id) (cyclic_at c id) in
    record { made = left.made; time = left.time }

-- in the form of a tick's contract
pub after_tick : (b new : Base) (c : Clocks) (what : Option Event) → new ≡ again_if (take_due b) c what → Kept b new
after_tick b new c what is = subst (Kept b) (sym is) (tick_kept b c what)
