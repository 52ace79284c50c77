-- The system calls on time, cyclic and alarm handlers: the checks of each in their order, and its effect. Anybody may make
-- them.
use Rattle.std.specs.Prelude.{ℕ, ◌+◌, ◌-◌, ◌*◌, ◌%◌, ◌^◌, ◌==◌, Bool, not, ◌||◌, if◌then◌else◌, ℤ, pos, int_le, List, [], ◌∷◌, Option, Some, None, drop}
use Rattle.std.specs.Int.{w32, cast_signed, cast_unsigned}
use Rattle.tk_types.specs.declared.answer.Outcome.{Outcome}
use Rattle.tk_types.specs.declared.answer.Outcome.TheVariants.{Returned}
use Rattle.tk_types.specs.declared.error_code.Er.{Er}
use Rattle.tk_types.specs.declared.error_code.Er.TheVariants as er
use Rattle.tk_types.specs.declared.modes.Attributes.{Attributes}
use Rattle.tk_types.specs.declared.task.Event.{Event}
use Rattle.tk_types.specs.declared.task.Event.TheVariants.{Cyclic, Alarm}
use Rattle.tk_types.specs.declared.calls.TimeCall.{TimeCall}
use Rattle.tk_types.specs.declared.calls.TimeCall.TheVariants as call
use Rattle.kernel_model.specs.Words.Orders.{free_from}
use Rattle.kernel_model.specs.Words.Checks.{Check, ◌otherwise◌, first_error, within, natural, answer, failed, done}
use Rattle.kernel_model.specs.Tasks.Base.{Base}
use Rattle.kernel_model.specs.Tasks.Calls.{has_only_free}
use Rattle.kernel_model.specs.SemFlags.Calls.{object_checks}
use Rattle.context_model.specs.declared.cyclic_row.CyclicRow.{CyclicRow}
use Rattle.context_model.specs.Clocks.Tables.{Clocks, cyclic_at, with_cyclic, with_alarm, has_cyc, has_alm, system_time, halves, due_time, is_set, unset, set_for, next_due}

-- a base and the table, and what became of the call
pub record TimeDone : Type 0 where
  pub base : Base
  pub table : Clocks
  pub outcome : Outcome

abbrev pub time_refused : Option Er → Base → Clocks → TimeDone → TimeDone
time_refused (Some error) b c effect = record { base = b; table = c; outcome = failed error }
time_refused None b c effect = effect

-- a call is refused with the first error of its checks, and nothing is changed then; else it has its effect
abbrev pub time_checked : List Check → Base → Clocks → TimeDone → TimeDone
time_checked checks b c effect = time_refused (first_error checks) b c effect

-- a call that has done its work, and answers a value
abbrev pub worked : Base → Clocks → ℤ → TimeDone
worked b c value = record { base = b; table = c; outcome = done value }

-- a call that changes nothing, and answers 0 with fields
abbrev pub told : Base → Clocks → List ℤ → TimeDone
told b c fields = record { base = b; table = c; outcome = Returned (answer (pos 0) fields) }

-- ---- system time

-- `tk_set_tim`: the system time is set, its low half being a number of 32 bits
unfoldable pub set_time : Base → Clocks → ℤ → ℤ → TimeDone
set_time b c high low = time_checked ((int_le (pos 0) high otherwise er.Par) ∷ []) b c
    (worked b (record c { set_to = 2 ^ 32 * natural high + cast_unsigned w32 low; set_at = b.time }) (pos 0))

-- `tk_get_tim`: the system time, its high half and its low half
unfoldable pub get_time : Base → Clocks → TimeDone
get_time b c = told b c (halves (system_time b c))

-- `tk_get_otm`: the operating time in the same form
unfoldable pub get_operating_time : Base → Clocks → TimeDone
get_operating_time b c = told b c (halves b.time)

-- ---- what a handler shows

-- how long from now on a handler is set for, as 32 bits, or 0
abbrev pub time_left : ℕ → Option ℕ → ℤ
time_left now None = pos 0
time_left now (Some due) = cast_signed w32 ((due - now) % 2 ^ 32)

-- milliseconds to the time for which a handler is set, or 0, and 1 where it is set or 0
abbrev pub handler_shown : Base → Event → List ℤ
handler_shown b what = time_left b.time (due_time what b.events) ∷ (if is_set what b.events then pos 1 else pos 0) ∷ []

-- ---- cyclic handlers

-- beside those without an effect a cyclic handler has whether it starts at once, and whether it keeps its phase
abbrev pub has_cyclic_attributes : Attributes → Bool
has_cyclic_attributes a =
    not (a.ta_tfifo || a.ta_tpri || a.ta_first || a.ta_cnt || a.ta_wsgl || a.ta_wmul || a.ta_mfifo || a.ta_mpri || a.ta_inherit || a.ta_ceiling)

abbrev pub free_cyclic : Clocks → ℕ
free_cyclic c = free_from 1 (drop 1 c.cyclics)

abbrev pub create_cyclic_checks : Clocks → Attributes → ℤ → ℤ → List Check
create_cyclic_checks c attributes period phase =
    (has_cyclic_attributes attributes otherwise er.RsAtr)
    ∷ (int_le (pos 1) period otherwise er.Par)
    ∷ (int_le (pos 0) phase otherwise er.Par)
    ∷ (not (free_cyclic c == 0) otherwise er.Limit)
    ∷ []

-- a new cyclic handler, which is set for its first time at once where its attributes say so
abbrev pub created_cyclic : Base → Clocks → Bool → ℕ → CyclicRow → TimeDone
created_cyclic b c started id k = worked (if started then set_for b k.first (Cyclic id) else b) (with_cyclic c id (Some k)) (pos id)

-- `tk_cre_cyc`: a cyclic handler with the least free ID
unfoldable pub create_cyclic : Base → Clocks → Attributes → ℕ → ℤ → ℤ → TimeDone
create_cyclic b c attributes body period phase = time_checked (create_cyclic_checks c attributes period phase) b c
    (created_cyclic b c attributes.ta_sta (free_cyclic c) (record { body = body; phased = attributes.ta_phs; period = natural period; first = b.time + natural phase + 1 }))

-- a handler that keeps its phase goes on where it is set, and else is set for the next time of its phase; another one
-- is set for its period from now on
abbrev pub started_cyclic : Base → ℕ → Option CyclicRow → Base
started_cyclic b id None = b
started_cyclic b id (Some k) =
    if k.phased
    then (if is_set (Cyclic id) b.events then b else set_for b (next_due k.first k.period b.time) (Cyclic id))
    else set_for b (b.time + k.period + 1) (Cyclic id)

-- `tk_sta_cyc`: a cyclic handler is started
unfoldable pub start_cyclic : Base → Clocks → ℤ → TimeDone
start_cyclic b c id = time_checked (object_checks id (has_cyc c (natural id)) []) b c
    (worked (started_cyclic b (natural id) (cyclic_at c (natural id))) c (pos 0))

-- `tk_stp_cyc`: it is no longer set; where it fell due already, it starts still
unfoldable pub stop_cyclic : Base → Clocks → ℤ → TimeDone
stop_cyclic b c id = time_checked (object_checks id (has_cyc c (natural id)) []) b c
    (worked (unset b (Cyclic (natural id))) c (pos 0))

-- `tk_del_cyc`: it is gone
unfoldable pub delete_cyclic : Base → Clocks → ℤ → TimeDone
delete_cyclic b c id = time_checked (object_checks id (has_cyc c (natural id)) []) b c
    (worked (unset b (Cyclic (natural id))) (with_cyclic c (natural id) None) (pos 0))

-- `tk_ref_cyc`: the time to its next start, and whether it is started
unfoldable pub refer_cyclic : Base → Clocks → ℤ → TimeDone
refer_cyclic b c id = time_checked (object_checks id (has_cyc c (natural id)) []) b c (told b c (handler_shown b (Cyclic (natural id))))

-- ---- alarm handlers

abbrev pub free_alarm : Clocks → ℕ
free_alarm c = free_from 1 (drop 1 c.alarms)

abbrev pub create_alarm_checks : Clocks → Attributes → List Check
create_alarm_checks c attributes = (has_only_free attributes otherwise er.RsAtr) ∷ (not (free_alarm c == 0) otherwise er.Limit) ∷ []

-- `tk_cre_alm`: an alarm handler with the least free ID, which isn't set
unfoldable pub create_alarm : Base → Clocks → Attributes → ℕ → TimeDone
create_alarm b c attributes body = time_checked (create_alarm_checks c attributes) b c
    (worked b (with_alarm c (free_alarm c) (Some body)) (pos (free_alarm c)))

abbrev pub start_alarm_checks : Clocks → ℤ → ℤ → List Check
start_alarm_checks c id delay =
    (within 1 64 id otherwise er.Id)
    ∷ (int_le (pos 0) delay otherwise er.Par)
    ∷ (has_alm c (natural id) otherwise er.NoExs)
    ∷ []

-- `tk_sta_alm`: an alarm handler is set for a time, in place of the one that it was set for
unfoldable pub start_alarm : Base → Clocks → ℤ → ℤ → TimeDone
start_alarm b c id delay = time_checked (start_alarm_checks c id delay) b c
    (worked (set_for b (b.time + natural delay + 1) (Alarm (natural id))) c (pos 0))

-- `tk_stp_alm`: it is no longer set; where it fell due already, it starts still
unfoldable pub stop_alarm : Base → Clocks → ℤ → TimeDone
stop_alarm b c id = time_checked (object_checks id (has_alm c (natural id)) []) b c
    (worked (unset b (Alarm (natural id))) c (pos 0))

-- `tk_del_alm`: it is gone
unfoldable pub delete_alarm : Base → Clocks → ℤ → TimeDone
delete_alarm b c id = time_checked (object_checks id (has_alm c (natural id)) []) b c
    (worked (unset b (Alarm (natural id))) (with_alarm c (natural id) None) (pos 0))

-- `tk_ref_alm`: the time to its start, and whether it is set
unfoldable pub refer_alarm : Base → Clocks → ℤ → TimeDone
refer_alarm b c id = time_checked (object_checks id (has_alm c (natural id)) []) b c (told b c (handler_shown b (Alarm (natural id))))

-- a call on time by its row
unfoldable pub time_call : Base → Clocks → TimeCall → TimeDone
time_call b c (call.SetTim high low) = set_time b c high low
time_call b c call.GetTim = get_time b c
time_call b c call.GetOtm = get_operating_time b c
time_call b c (call.CreCyc attributes body period phase) = create_cyclic b c attributes body period phase
time_call b c (call.StaCyc id) = start_cyclic b c id
time_call b c (call.StpCyc id) = stop_cyclic b c id
time_call b c (call.DelCyc id) = delete_cyclic b c id
time_call b c (call.RefCyc id) = refer_cyclic b c id
time_call b c (call.CreAlm attributes body) = create_alarm b c attributes body
time_call b c (call.StaAlm id delay) = start_alarm b c id delay
time_call b c (call.StpAlm id) = stop_alarm b c id
time_call b c (call.DelAlm id) = delete_alarm b c id
time_call b c (call.RefAlm id) = refer_alarm b c id
