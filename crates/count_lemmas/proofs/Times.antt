-- What each call on time, cyclic and alarm handlers makes, and a cyclic handler that falls due: where a handler is set for a
-- time, that is one event.
use Rattle.std.proofs.Common.{ℕ, ◌+◌, not, List, [], ◌∷◌, Option, Some, None, ℤ, pos}
use Rattle.std.specs.Prelude.{int_le}
use Rattle.tk_types.specs.declared.calls.TimeCall.{TimeCall}
use Rattle.tk_types.specs.declared.calls.TimeCall.TheVariants as call
use Rattle.tk_types.specs.declared.error_code.Er.{Er}
use Rattle.tk_types.specs.declared.error_code.Er.TheVariants as er
use Rattle.tk_types.specs.declared.modes.Attributes.{Attributes}
use Rattle.tk_types.specs.declared.task.Event.{Event}
use Rattle.tk_types.specs.declared.task.Event.TheVariants.{Wait, Cyclic, Alarm}
use Rattle.kernel_model.specs.Words.Checks.{Check, ◌otherwise◌, first_error, natural}
use Rattle.kernel_model.specs.Tasks.Base.{Base}
use Rattle.kernel_model.specs.SemFlags.Calls.{object_checks}
use Rattle.context_model.specs.declared.cyclic_row.CyclicRow.{CyclicRow}
use Rattle.context_model.specs.Clocks.Tables.{Clocks, again, again_in, cyclic_at, has_alm, has_cyc, is_set, next_due, set_for, starts, unset}
use Rattle.context_model.specs.Clocks.Calls as calls
use Rattle.context_model.specs.Clocks.Calls.{TimeDone, free_cyclic, started_cyclic, time_call, time_checked, time_refused}
use Rattle.count_lemmas.proofs.Making.{IsMaking, IsQuiet, either_base}

refused_quiet : (P : Base → Type 0) (error : Option Er) (b : Base) (c : Clocks) (effect : TimeDone) → P b → P effect.base → P (time_refused error b c effect).base
refused_quiet P (Some error) b c effect has works = has
refused_quiet P None b c effect has works = works

-- a call is refused and leaves the base, or has its effect
checked_quiet : (P : Base → Type 0) (checks : List Check) (b : Base) (c : Clocks) (effect : TimeDone) → P b → P effect.base → P (time_checked checks b c effect).base
checked_quiet P checks b c effect has works = refused_quiet P (first_error checks) b c effect has works

-- ---- events

-- a handler is no longer set
pub unset_quiet : (P : Base → Type 0) → IsQuiet P → (b : Base) (what : Event) → P b → P (unset b what)
unset_quiet P is b what has = is.passed b (λ event. not (starts what event)) has

-- it is set for a time
pub set_for_makes : (P Q : Base → Type 0) → IsMaking P Q → (b : Base) (time : ℕ) (what : Event) → P b → Q (set_for b time what)
set_for_makes P Q is b time what has = is.added (unset b what) time what (unset_quiet P is.quiet b what has)

again_in_makes : (P Q : Base → Type 0) → IsMaking P Q → (b : Base) (what : Event) (slot : Option CyclicRow) → P b → Q (again_in b what slot)
again_in_makes P Q is b what None has = is.more _ has
again_in_makes P Q is b what (Some k) has = set_for_makes P Q is b (b.time + k.period) what has

-- a handler falls due
pub again_makes : (P Q : Base → Type 0) → IsMaking P Q → (b : Base) (c : Clocks) (what : Event) → P b → Q (again b c what)
unfolding again
again_makes P Q is b c (Cyclic id) has = again_in_makes P Q is b (Cyclic id) (cyclic_at c id) has
again_makes P Q is b c (Wait t) has = is.more _ has
again_makes P Q is b c (Alarm id) has = is.more _ has

-- ---- cyclic handlers

create_makes : (P Q : Base → Type 0) → IsMaking P Q → (b : Base) (c : Clocks) (attributes : Attributes) (body : ℕ) (period phase : ℤ) → P b → Q (calls.create_cyclic b c attributes body period phase).base
unfolding calls.create_cyclic
create_makes P Q is b c attributes body period phase has =
    let first : ℕ = b.time + natural phase + 1 in
    let what : Event = Cyclic (free_cyclic c) in
    checked_quiet Q (calls.create_cyclic_checks c attributes period phase) b c _ (is.more _ has) (either_base Q attributes.ta_sta (set_for b first what) b (set_for_makes P Q is b first what has) (is.more _ has))

started_makes : (P Q : Base → Type 0) → IsMaking P Q → (b : Base) (id : ℕ) (slot : Option CyclicRow) → P b → Q (started_cyclic b id slot)
started_makes P Q is b id None has = is.more _ has
started_makes P Q is b id (Some k) has =
    either_base Q k.phased _ _
    (either_base Q (is_set (Cyclic id) b.events) b (set_for b (next_due k.first k.period b.time) (Cyclic id)) (is.more _ has) (set_for_makes P Q is b (next_due k.first k.period b.time) (Cyclic id) has))
    (set_for_makes P Q is b (b.time + k.period + 1) (Cyclic id) has)

-- ---- all

pub time_calls_make : (P Q : Base → Type 0) → IsMaking P Q → (b : Base) (c : Clocks) (row : TimeCall) → P b → Q (time_call b c row).base
unfolding time_call calls.set_time calls.get_time calls.get_operating_time calls.start_cyclic calls.stop_cyclic calls.delete_cyclic calls.refer_cyclic calls.create_alarm calls.start_alarm calls.stop_alarm calls.delete_alarm calls.refer_alarm
time_calls_make P Q is b c (call.SetTim high low) has = is.more _ (checked_quiet P ((int_le (pos 0) high otherwise er.Par) ∷ []) b c _ has has)
time_calls_make P Q is b c call.GetTim has = is.more _ has
time_calls_make P Q is b c call.GetOtm has = is.more _ has
time_calls_make P Q is b c (call.CreCyc attributes body period phase) has = create_makes P Q is b c attributes body period phase has
time_calls_make P Q is b c (call.StaCyc id) has = checked_quiet Q (object_checks id (has_cyc c (natural id)) []) b c _ (is.more _ has) (started_makes P Q is b (natural id) (cyclic_at c (natural id)) has)
time_calls_make P Q is b c (call.StpCyc id) has = is.more _ (checked_quiet P (object_checks id (has_cyc c (natural id)) []) b c _ has (unset_quiet P is.quiet b (Cyclic (natural id)) has))
time_calls_make P Q is b c (call.DelCyc id) has = is.more _ (checked_quiet P (object_checks id (has_cyc c (natural id)) []) b c _ has (unset_quiet P is.quiet b (Cyclic (natural id)) has))
time_calls_make P Q is b c (call.RefCyc id) has = is.more _ (checked_quiet P (object_checks id (has_cyc c (natural id)) []) b c _ has has)
time_calls_make P Q is b c (call.CreAlm attributes body) has = is.more _ (checked_quiet P (calls.create_alarm_checks c attributes) b c _ has has)
time_calls_make P Q is b c (call.StaAlm id delay) has =
    checked_quiet Q (calls.start_alarm_checks c id delay) b c _ (is.more _ has) (set_for_makes P Q is b (b.time + natural delay + 1) (Alarm (natural id)) has)
time_calls_make P Q is b c (call.StpAlm id) has = is.more _ (checked_quiet P (object_checks id (has_alm c (natural id)) []) b c _ has (unset_quiet P is.quiet b (Alarm (natural id)) has))
time_calls_make P Q is b c (call.DelAlm id) has = is.more _ (checked_quiet P (object_checks id (has_alm c (natural id)) []) b c _ has (unset_quiet P is.quiet b (Alarm (natural id)) has))
time_calls_make P Q is b c (call.RefAlm id) has = is.more _ (checked_quiet P (object_checks id (has_alm c (natural id)) []) b c _ has has)
