-- Calls on time, cyclic and alarm handlers, interrupts, what delays dispatching, and subsystems touch no task, and so leave what
-- the tasks that wait have asked for; so does a cyclic handler that falls due.
use Rattle.std.proofs.Common.{ℕ, ◌+◌, Bool, true, false, cond, List, [], ◌∷◌, Option, Some, None, pos}
use Rattle.std.specs.Prelude.{int_le}
use Rattle.tk_types.specs.declared.answer.Who.{Who}
use Rattle.tk_types.specs.declared.calls.ContextCall.{ContextCall}
use Rattle.tk_types.specs.declared.calls.ContextCall.TheVariants as context
use Rattle.tk_types.specs.declared.calls.TimeCall.{TimeCall}
use Rattle.tk_types.specs.declared.calls.TimeCall.TheVariants as call
use Rattle.tk_types.specs.declared.error_code.Er.{Er}
use Rattle.tk_types.specs.declared.error_code.Er.TheVariants as er
use Rattle.tk_types.specs.declared.task.Event.{Event}
use Rattle.tk_types.specs.declared.task.Event.TheVariants.{Wait, Cyclic, Alarm}
use Rattle.kernel_model.specs.declared.marks.Mark.TheVariants.{NeedsTask}
use Rattle.kernel_model.specs.Words.Checks.{Check, ◌otherwise◌, first_error, natural, within}
use Rattle.kernel_model.specs.Tasks.Base.{Base}
use Rattle.kernel_model.specs.Tasks.Marks.{allows}
use Rattle.kernel_model.specs.SemFlags.Calls.{object_checks}
use Rattle.context_model.specs.declared.cyclic_row.CyclicRow.{CyclicRow}
use Rattle.context_model.specs.Clocks.Tables.{Clocks, again, again_in, cyclic_at, has_alm, has_cyc, is_set, next_due, set_for}
use Rattle.context_model.specs.Clocks.Calls as calls
use Rattle.context_model.specs.Clocks.Calls.{TimeDone, free_cyclic, started_cyclic, time_call, time_checked, time_refused}
use Rattle.context_model.specs.Contexts.Tables.{Contexts, has_ssy}
use Rattle.context_model.specs.Contexts.Calls as contexts
use Rattle.context_model.specs.Contexts.Calls.{ContextDone, context_call, context_checked, context_refused, flags_changed}
use Rattle.ask_lemmas.proofs.Asks.{AllAsk, Asks}

-- ---- time

refused_asks : (asks : Asks) (error : Option Er) (b : Base) (c : Clocks) (effect : TimeDone) → AllAsk asks b → AllAsk asks effect.base →
    AllAsk asks (time_refused error b c effect).base
refused_asks asks (Some error) b c effect all works = all
refused_asks asks None b c effect all works = works

checked_asks : (asks : Asks) (checks : List Check) (b : Base) (c : Clocks) (effect : TimeDone) → AllAsk asks b → AllAsk asks effect.base →
    AllAsk asks (time_checked checks b c effect).base
checked_asks asks checks b c effect all works = refused_asks asks (first_error checks) b c effect all works

either_asks : (asks : Asks) (test : Bool) (one other : Base) → AllAsk asks one → AllAsk asks other → AllAsk asks (cond test one other)
either_asks asks true one other first second = first
either_asks asks false one other first second = second

again_in_asks : (asks : Asks) (b : Base) (what : Event) (slot : Option CyclicRow) → AllAsk asks b → AllAsk asks (again_in b what slot)
again_in_asks asks b what None all = all
again_in_asks asks b what (Some k) all = all

-- a handler falls due
pub again_asks : (asks : Asks) (b : Base) (c : Clocks) (what : Event) → AllAsk asks b → AllAsk asks (again b c what)
unfolding again
again_asks asks b c (Cyclic id) all = again_in_asks asks b (Cyclic id) (cyclic_at c id) all
again_asks asks b c (Wait t) all = all
again_asks asks b c (Alarm id) all = all

started_asks : (asks : Asks) (b : Base) (id : ℕ) (slot : Option CyclicRow) → AllAsk asks b → AllAsk asks (started_cyclic b id slot)
started_asks asks b id None all = all
started_asks asks b id (Some k) all =
    either_asks asks k.phased _ _ (either_asks asks (is_set (Cyclic id) b.events) b (set_for b (next_due k.first k.period b.time) (Cyclic id)) all all) all

-- every call on time
pub time_calls_ask : (asks : Asks) (b : Base) (c : Clocks) (row : TimeCall) → AllAsk asks b → AllAsk asks (time_call b c row).base
unfolding time_call calls.create_cyclic calls.set_time calls.get_time calls.get_operating_time calls.start_cyclic calls.stop_cyclic calls.delete_cyclic calls.refer_cyclic calls.create_alarm calls.start_alarm calls.stop_alarm calls.delete_alarm calls.refer_alarm
time_calls_ask asks b c (call.SetTim high low) all = checked_asks asks ((int_le (pos 0) high otherwise er.Par) ∷ []) b c _ all all
time_calls_ask asks b c call.GetTim all = all
time_calls_ask asks b c call.GetOtm all = all
time_calls_ask asks b c (call.CreCyc attributes body period phase) all =
    checked_asks asks (calls.create_cyclic_checks c attributes period phase) b c _ all (either_asks asks attributes.ta_sta
    (set_for b (b.time + natural phase + 1) (Cyclic (free_cyclic c))) b all all)
time_calls_ask asks b c (call.StaCyc id) all = checked_asks asks (object_checks id (has_cyc c (natural id)) []) b c _ all
    (started_asks asks b (natural id) (cyclic_at c (natural id)) all)
time_calls_ask asks b c (call.StpCyc id) all = checked_asks asks (object_checks id (has_cyc c (natural id)) []) b c _ all all
time_calls_ask asks b c (call.DelCyc id) all = checked_asks asks (object_checks id (has_cyc c (natural id)) []) b c _ all all
time_calls_ask asks b c (call.RefCyc id) all = checked_asks asks (object_checks id (has_cyc c (natural id)) []) b c _ all all
time_calls_ask asks b c (call.CreAlm attributes body) all = checked_asks asks (calls.create_alarm_checks c attributes) b c _ all all
time_calls_ask asks b c (call.StaAlm id delay) all = checked_asks asks (calls.start_alarm_checks c id delay) b c _ all all
time_calls_ask asks b c (call.StpAlm id) all = checked_asks asks (object_checks id (has_alm c (natural id)) []) b c _ all all
time_calls_ask asks b c (call.DelAlm id) all = checked_asks asks (object_checks id (has_alm c (natural id)) []) b c _ all all
time_calls_ask asks b c (call.RefAlm id) all = checked_asks asks (object_checks id (has_alm c (natural id)) []) b c _ all all

-- ---- contexts

refused_beside : (asks : Asks) (error : Option Er) (b : Base) (c : Contexts) (effect : ContextDone) → AllAsk asks b → AllAsk asks effect.base →
    AllAsk asks (context_refused error b c effect).base
refused_beside asks (Some error) b c effect all works = all
refused_beside asks None b c effect all works = works

checked_beside : (asks : Asks) (checks : List Check) (b : Base) (c : Contexts) (effect : ContextDone) → AllAsk asks b → AllAsk asks effect.base →
    AllAsk asks (context_checked checks b c effect).base
checked_beside asks checks b c effect all works = refused_beside asks (first_error checks) b c effect all works

-- every call on contexts
pub context_calls_ask : (asks : Asks) (b : Base) (c : Contexts) (who : Who) (row : ContextCall) → AllAsk asks b → AllAsk asks (context_call b c who row).base
unfolding context_call contexts.define_handler contexts.disable_dispatch contexts.enable_dispatch contexts.disable_interrupts contexts.enable_interrupts contexts.refer_system contexts.define_service contexts.refer_service contexts.enter_service
context_calls_ask asks b c who (context.DefInt number body) all = checked_beside asks ((within 1 255 number otherwise er.Par) ∷ []) b c _ all all
context_calls_ask asks b c who context.DisDsp all = checked_beside asks ((allows b.flags who NeedsTask otherwise er.Ctx) ∷ []) b c _ all all
context_calls_ask asks b c who context.EnaDsp all = checked_beside asks ((allows b.flags who NeedsTask otherwise er.Ctx) ∷ []) b c _ all all
context_calls_ask asks b c who context.Di all = checked_beside asks ((allows b.flags who NeedsTask otherwise er.Ctx) ∷ []) b c _ all all
context_calls_ask asks b c who context.Ei all = checked_beside asks ((allows b.flags who NeedsTask otherwise er.Ctx) ∷ []) b c _ all all
context_calls_ask asks b c who context.RefSys all = all
context_calls_ask asks b c who (context.DefSsy number body) all = checked_beside asks (contexts.define_service_checks c number body) b c _ all all
context_calls_ask asks b c who (context.RefSsy number) all =
    checked_beside asks ((within 1 255 number otherwise er.Id) ∷ (has_ssy c (natural number) otherwise er.NoExs) ∷ []) b c _ all all
context_calls_ask asks b c who (context.Svc number value) all = checked_beside asks (contexts.service_checks b c who number value) b c _ all all
