-- What passes through changes of what is set for a time passes through each call on time, cyclic and alarm handlers.
use Rattle.std.proofs.Common.{ℕ, ◌+◌, not, List, [], ◌∷◌, Option, Some, None, ℤ, pos}
use Rattle.std.specs.Prelude.{int_le}
use Rattle.tk_types.specs.declared.calls.TimeCall.{TimeCall}
use Rattle.tk_types.specs.declared.calls.TimeCall.TheVariants as call
use Rattle.tk_types.specs.declared.error_code.Er.{Er}
use Rattle.tk_types.specs.declared.error_code.Er.TheVariants as er
use Rattle.tk_types.specs.declared.modes.Attributes.{Attributes}
use Rattle.tk_types.specs.declared.task.Event.{Event}
use Rattle.tk_types.specs.declared.task.Event.TheVariants.{Cyclic, Alarm}
use Rattle.kernel_model.specs.Words.Checks.{Check, ◌otherwise◌, first_error, natural}
use Rattle.kernel_model.specs.Tasks.Base.{Base}
use Rattle.kernel_model.specs.SemFlags.Calls.{object_checks}
use Rattle.context_model.specs.declared.cyclic_row.CyclicRow.{CyclicRow}
use Rattle.context_model.specs.Clocks.Tables.{Clocks, cyclic_at, has_alm, has_cyc, is_set, next_due, set_for, starts, unset}
use Rattle.context_model.specs.Clocks.Calls as calls
use Rattle.context_model.specs.Clocks.Calls.{TimeDone, free_cyclic, started_cyclic, time_call, time_checked, time_refused}
use Rattle.call_walk.proofs.BaseMoves.{either_base}
use Rattle.place_lemmas.proofs.Moves.{IsPassed}

refused_keeps : (P : Base → Type 0) (error : Option Er) (b : Base) (c : Clocks) (effect : TimeDone) → P b → P effect.base → P (time_refused error b c effect).base
refused_keeps P (Some error) b c effect has works = has
refused_keeps P None b c effect has works = works

-- a call is refused and leaves the base, or has its effect
checked_keeps : (P : Base → Type 0) (checks : List Check) (b : Base) (c : Clocks) (effect : TimeDone) → P b → P effect.base → P (time_checked checks b c effect).base
checked_keeps P checks b c effect has works = refused_keeps P (first_error checks) b c effect has works

-- ---- events

-- a handler is no longer set
unset_keeps : (P R : Base → Type 0) → IsPassed P R → (b : Base) (what : Event) → P b → P (unset b what)
unset_keeps P R is b what has = is.passed b (λ event. not (starts what event)) has

-- it is set for a time
set_for_keeps : (P R : Base → Type 0) → IsPassed P R → (b : Base) (time : ℕ) (what : Event) → P b → P (set_for b time what)
set_for_keeps P R is b time what has = is.added (unset b what) time what (unset_keeps P R is b what has)

-- ---- cyclic handlers

create_keeps : (P R : Base → Type 0) → IsPassed P R → (b : Base) (c : Clocks) (attributes : Attributes) (body : ℕ) (period phase : ℤ) → P b →
    R (calls.create_cyclic b c attributes body period phase).base
unfolding calls.create_cyclic
create_keeps P R is b c attributes body period phase has =
    let first : ℕ = b.time + natural phase + 1 in
    let what : Event = Cyclic (free_cyclic c) in
    checked_keeps R (calls.create_cyclic_checks c attributes period phase) b c _ (is.ends b has)
    (is.ends _ (either_base P attributes.ta_sta (set_for b first what) b (set_for_keeps P R is b first what has) has))

started_keeps : (P R : Base → Type 0) → IsPassed P R → (b : Base) (id : ℕ) (slot : Option CyclicRow) → P b → P (started_cyclic b id slot)
started_keeps P R is b id None has = has
started_keeps P R is b id (Some k) has =
    either_base P k.phased _ _
    (either_base P (is_set (Cyclic id) b.events) b (set_for b (next_due k.first k.period b.time) (Cyclic id)) has (set_for_keeps P R is b (next_due k.first k.period b.time) (Cyclic id) has))
    (set_for_keeps P R is b (b.time + k.period + 1) (Cyclic id) has)

-- ---- all

-- each of them
pub time_calls_keep : (P R : Base → Type 0) → IsPassed P R → (b : Base) (c : Clocks) (row : TimeCall) → P b → R (time_call b c row).base
unfolding time_call calls.set_time calls.get_time calls.get_operating_time calls.start_cyclic calls.stop_cyclic calls.delete_cyclic calls.refer_cyclic calls.create_alarm calls.start_alarm calls.stop_alarm calls.delete_alarm calls.refer_alarm
time_calls_keep P R is b c (call.SetTim high low) has = checked_keeps R ((int_le (pos 0) high otherwise er.Par) ∷ []) b c _ (is.ends b has) (is.ends b has)
time_calls_keep P R is b c call.GetTim has = is.ends b has
time_calls_keep P R is b c call.GetOtm has = is.ends b has
time_calls_keep P R is b c (call.CreCyc attributes body period phase) has = create_keeps P R is b c attributes body period phase has
time_calls_keep P R is b c (call.StaCyc id) has =
    checked_keeps R (object_checks id (has_cyc c (natural id)) []) b c _ (is.ends b has) (is.ends _ (started_keeps P R is b (natural id) (cyclic_at c (natural id)) has))
time_calls_keep P R is b c (call.StpCyc id) has =
    checked_keeps R (object_checks id (has_cyc c (natural id)) []) b c _ (is.ends b has) (is.ends _ (unset_keeps P R is b (Cyclic (natural id)) has))
time_calls_keep P R is b c (call.DelCyc id) has =
    checked_keeps R (object_checks id (has_cyc c (natural id)) []) b c _ (is.ends b has) (is.ends _ (unset_keeps P R is b (Cyclic (natural id)) has))
time_calls_keep P R is b c (call.RefCyc id) has = checked_keeps R (object_checks id (has_cyc c (natural id)) []) b c _ (is.ends b has) (is.ends b has)
time_calls_keep P R is b c (call.CreAlm attributes body) has = checked_keeps R (calls.create_alarm_checks c attributes) b c _ (is.ends b has) (is.ends b has)
time_calls_keep P R is b c (call.StaAlm id delay) has =
    checked_keeps R (calls.start_alarm_checks c id delay) b c _ (is.ends b has) (is.ends _ (set_for_keeps P R is b (b.time + natural delay + 1) (Alarm (natural id)) has))
time_calls_keep P R is b c (call.StpAlm id) has =
    checked_keeps R (object_checks id (has_alm c (natural id)) []) b c _ (is.ends b has) (is.ends _ (unset_keeps P R is b (Alarm (natural id)) has))
time_calls_keep P R is b c (call.DelAlm id) has =
    checked_keeps R (object_checks id (has_alm c (natural id)) []) b c _ (is.ends b has) (is.ends _ (unset_keeps P R is b (Alarm (natural id)) has))
time_calls_keep P R is b c (call.RefAlm id) has = checked_keeps R (object_checks id (has_alm c (natural id)) []) b c _ (is.ends b has) (is.ends b has)
