-- What a call changes of the base: a call on time what is set for a time, a call on contexts what delays dispatching.
use Rattle.std.proofs.Common.{◌≡◌, ℕ, ◌+◌, ◌≤◌, Bool, true, false, List, [], ◌∷◌, Option, Some, None, refl, cond, pos, arith}
use Rattle.std.specs.Prelude.{int_le}
use Rattle.tk_types.specs.declared.answer.Who.{Who}
use Rattle.tk_types.specs.declared.error_code.Er.TheVariants as er
use Rattle.tk_types.specs.declared.task.Event.{Event}
use Rattle.tk_types.specs.declared.task.Event.TheVariants.{Wait, Cyclic, Alarm}
use Rattle.tk_types.specs.declared.calls.ContextCall.{ContextCall}
use Rattle.tk_types.specs.declared.calls.ContextCall.TheVariants as context
use Rattle.tk_types.specs.declared.calls.TimeCall.{TimeCall}
use Rattle.tk_types.specs.declared.calls.TimeCall.TheVariants as time
use Rattle.kernel_model.specs.declared.marks.Mark.TheVariants.{NeedsTask}
use Rattle.kernel_model.specs.Words.Checks.{Check, ◌otherwise◌, natural, within}
use Rattle.kernel_model.specs.SemFlags.Calls.{object_checks}
use Rattle.kernel_model.specs.Tasks.Base.{Base, set_flags}
use Rattle.kernel_model.specs.Tasks.Marks.{allows}
use Rattle.context_model.specs.declared.cyclic_row.CyclicRow.{CyclicRow}
use Rattle.context_model.specs.Clocks.Tables.{Clocks, again, again_in, cyclic_at, has_alm, has_cyc, is_set, next_due, set_for}
use Rattle.context_model.specs.Clocks.Calls as Time
use Rattle.context_model.specs.Clocks.Calls.{TimeDone, time_call, time_checked, started_cyclic, set_time, get_time, get_operating_time, create_cyclic, start_cyclic, stop_cyclic, delete_cyclic, refer_cyclic, create_alarm, start_alarm, stop_alarm, delete_alarm, refer_alarm}
use Rattle.context_model.specs.Contexts.Tables.{Contexts, has_ssy}
use Rattle.context_model.specs.Contexts.Calls.{ContextDone, context_call, context_checked, define_handler, disable_dispatch, enable_dispatch, disable_interrupts, enable_interrupts, refer_system, define_service, define_service_checks, refer_service, enter_service, service_checks}
use Rattle.context_laws.proofs.Checked.{time_cases, context_cases}

-- ---- time

-- a base with other events, of which one at most was made
pub record HasOtherEvents (b later : Base) : Type 0 where
  pub rest : later ≡ record b { events = later.events; made = later.made }
  pub few : later.made ≤ b.made + 1

same_events : (b : Base) → HasOtherEvents b b
same_events b = record { rest = refl; few = omega arith }

set_events : (b : Base) (time : ℕ) (what : Event) → HasOtherEvents b (set_for b time what)
set_events b time what = record { rest = refl; few = omega arith }

either : (b first second : Base) (test : Bool) → HasOtherEvents b first → HasOtherEvents b second → HasOtherEvents b (cond test first second)
either b first second true one other = one
either b first second false one other = other

started_events : (b : Base) (id : ℕ) (slot : Option CyclicRow) → HasOtherEvents b (started_cyclic b id slot)
started_events b id None = same_events b
started_events b id (Some k) = either b _ _ k.phased
    (either b b _ (is_set (Cyclic id) b.events) (same_events b) (set_events b (next_due k.first k.period b.time) (Cyclic id)))
    (set_events b (b.time + k.period + 1) (Cyclic id))

touched : (b : Base) (c : Clocks) (checks : List Check) (effect : TimeDone) → HasOtherEvents b effect.base → HasOtherEvents b (time_checked checks b c effect).base
touched b c checks effect is = time_cases (λ result. HasOtherEvents b result.base) checks b c effect (λ code. same_events b) (λ none. is)

pub time_touches : (b : Base) (c : Clocks) (call : TimeCall) → HasOtherEvents b (time_call b c call).base
unfolding time_call set_time get_time get_operating_time create_cyclic start_cyclic stop_cyclic delete_cyclic refer_cyclic create_alarm start_alarm stop_alarm delete_alarm refer_alarm
time_touches b c (time.SetTim high low) = touched b c ((int_le (pos 0) high otherwise er.Par) ∷ []) _ (same_events b)
time_touches b c time.GetTim = same_events b
time_touches b c time.GetOtm = same_events b
time_touches b c (time.CreCyc attributes body period phase) = touched b c (Time.create_cyclic_checks c attributes period phase) _
    (either b _ b attributes.ta_sta (set_events b (b.time + natural phase + 1) (Cyclic (Time.free_cyclic c))) (same_events b))
time_touches b c (time.StaCyc id) = touched b c (object_checks id (has_cyc c (natural id)) []) _ (started_events b (natural id) (cyclic_at c (natural id)))
time_touches b c (time.StpCyc id) = touched b c (object_checks id (has_cyc c (natural id)) []) _ (record { rest = refl; few = omega arith })
time_touches b c (time.DelCyc id) = touched b c (object_checks id (has_cyc c (natural id)) []) _ (record { rest = refl; few = omega arith })
time_touches b c (time.RefCyc id) = touched b c (object_checks id (has_cyc c (natural id)) []) _ (same_events b)
time_touches b c (time.CreAlm attributes body) = touched b c (Time.create_alarm_checks c attributes) _ (same_events b)
time_touches b c (time.StaAlm id delay) = touched b c (Time.start_alarm_checks c id delay) _ (set_events b (b.time + natural delay + 1) (Alarm (natural id)))
time_touches b c (time.StpAlm id) = touched b c (object_checks id (has_alm c (natural id)) []) _ (record { rest = refl; few = omega arith })
time_touches b c (time.DelAlm id) = touched b c (object_checks id (has_alm c (natural id)) []) _ (record { rest = refl; few = omega arith })
time_touches b c (time.RefAlm id) = touched b c (object_checks id (has_alm c (natural id)) []) _ (same_events b)

again_in_touches : (b : Base) (what : Event) (slot : Option CyclicRow) → HasOtherEvents b (again_in b what slot)
again_in_touches b what None = same_events b
again_in_touches b what (Some k) = set_events b (b.time + k.period) what

pub again_touches : (b : Base) (c : Clocks) (what : Event) → HasOtherEvents b (again b c what)
unfolding again
again_touches b c (Wait t) = same_events b
again_touches b c (Alarm id) = same_events b
again_touches b c (Cyclic id) = again_in_touches b (Cyclic id) (cyclic_at c id)

-- ---- contexts

-- a base with other flags, but as before a handler runs or doesn't
pub record HasOtherFlags (b later : Base) : Type 0 where
  pub rest : later ≡ set_flags b later.flags
  pub handler : later.flags.handler ≡ b.flags.handler

same_flags : (b : Base) → HasOtherFlags b b
same_flags b = record { rest = refl; handler = refl }

changed : (b : Base) (c : Contexts) (checks : List Check) (effect : ContextDone) → HasOtherFlags b effect.base → HasOtherFlags b (context_checked checks b c effect).base
changed b c checks effect is = context_cases (λ result. HasOtherFlags b result.base) checks b c effect (λ code. same_flags b) (λ none. is)

pub context_touches : (b : Base) (c : Contexts) (who : Who) (call : ContextCall) → HasOtherFlags b (context_call b c who call).base
unfolding context_call define_handler disable_dispatch enable_dispatch disable_interrupts enable_interrupts refer_system define_service refer_service enter_service
context_touches b c who (context.DefInt number body) = changed b c ((within 1 255 number otherwise er.Par) ∷ []) _ (same_flags b)
context_touches b c who context.DisDsp = changed b c ((allows b.flags who NeedsTask otherwise er.Ctx) ∷ []) _ (record { rest = refl; handler = refl })
context_touches b c who context.EnaDsp = changed b c ((allows b.flags who NeedsTask otherwise er.Ctx) ∷ []) _ (record { rest = refl; handler = refl })
context_touches b c who context.Di = changed b c ((allows b.flags who NeedsTask otherwise er.Ctx) ∷ []) _ (record { rest = refl; handler = refl })
context_touches b c who context.Ei = changed b c ((allows b.flags who NeedsTask otherwise er.Ctx) ∷ []) _ (record { rest = refl; handler = refl })
context_touches b c who context.RefSys = same_flags b
context_touches b c who (context.DefSsy number body) = changed b c (define_service_checks c number body) _ (same_flags b)
context_touches b c who (context.RefSsy number) = changed b c ((within 1 255 number otherwise er.Id) ∷ (has_ssy c (natural number) otherwise er.NoExs) ∷ []) _ (same_flags b)
context_touches b c who (context.Svc number value) = changed b c (service_checks b c who number value) _ (same_flags b)
