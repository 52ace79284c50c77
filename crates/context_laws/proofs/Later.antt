-- What a call on time sets falls due later than now, and stands in the order of due times.
use Rattle.std.proofs.Common.{◌≡◌, ℕ, suc, zero, ◌+◌, ◌<◌, ◌≤◌, Bool, true, false, not, List, [], ◌∷◌, Option, Some, None, refl, cond, sym, subst, ℤ, pos, negsuc, arith}
use Rattle.std.specs.Prelude.{int_le, nat_le, nat_lt, All, replicate}
use Rattle.std.proofs.lemmas.Bool.Decides.{nat_tests}
use Rattle.std.proofs.lemmas.List.Elements.{All-cons, All-head, All-tail, All-filter, All-weaker}
use Rattle.std.proofs.lemmas.List.Kept.{AllPairs-cons, AllPairs-filter}
use Rattle.tk_types.specs.declared.error_code.Er.TheVariants as er
use Rattle.tk_types.specs.declared.task.Event.{Event}
use Rattle.tk_types.specs.declared.task.Event.TheVariants.{Wait, Cyclic, Alarm}
use Rattle.tk_types.specs.declared.task.DueEvent.{DueEvent}
use Rattle.tk_types.specs.declared.calls.TimeCall.{TimeCall}
use Rattle.tk_types.specs.declared.calls.TimeCall.TheVariants as time
use Rattle.kernel_model.specs.Words.Checks.{Check, ◌otherwise◌, first_error, natural}
use Rattle.kernel_model.specs.Words.Events.{insert_event}
use Rattle.kernel_model.specs.Words.Orders.{entry}
use Rattle.kernel_model.specs.SemFlags.Calls.{object_checks}
use Rattle.kernel_model.specs.Tasks.Base.{Base}
use Rattle.kernel_model.specs.LawWords.TimeOrder.{AreInTimeOrder, AreLater}
use Rattle.kernel_lemmas.proofs.Tables.{entry_each, entry_same}
use Rattle.context_model.specs.declared.cyclic_row.CyclicRow.{CyclicRow}
use Rattle.context_model.specs.Clocks.Tables.{Clocks, clocks_start, again, again_in, cyclic_at, has_alm, has_cyc, is_set, next_due, set_for, starts, with_cyclic, without_event}
use Rattle.context_model.specs.Clocks.Calls as Time
use Rattle.context_model.specs.Clocks.Calls.{TimeDone, time_call, time_checked, started_cyclic, set_time, get_time, get_operating_time, create_cyclic, start_cyclic, stop_cyclic, delete_cyclic, refer_cyclic, create_alarm, start_alarm, stop_alarm, delete_alarm, refer_alarm}
use Rattle.context_model.specs.Clocks.Phases.{IsPeriodic, ArePeriodic}
use Rattle.context_laws.proofs.Checked.{time_cases, holds_at}
use Rattle.context_laws.proofs.Phases.{next_is_later}

-- what holds of what is set, and goes on holding where events are taken back, and where one is set for a time that is later
-- than now
pub record Survives (now : ℕ) (P : List DueEvent → Type 0) : Type 0 where
  pub taken : (what : Event) (events : List DueEvent) → P events → P (without_event what events)
  pub added : (event : DueEvent) (events : List DueEvent) → now < event.time → P events → P (insert_event event events)

-- ---- the periods

periodic_checked : (b : Base) (c : Clocks) (checks : List Check) (effect : TimeDone) → ArePeriodic c → (first_error checks ≡ None → ArePeriodic effect.table) → ArePeriodic (time_checked checks b c effect).table
periodic_checked b c checks effect are works = time_cases (λ result. ArePeriodic result.table) checks b c effect (λ code. are) works

written_periodic : (c : Clocks) (id : ℕ) (slot : Option CyclicRow) → IsPeriodic slot → ArePeriodic c → ArePeriodic (with_cyclic c id slot)
written_periodic c id slot is are = record { each = entry_each (λ n. IsPeriodic) c.cyclics id slot (entry_same IsPeriodic c.cyclics id slot is tt) (λ j apart. are.each j) }

at_least_one : (period : ℤ) → int_le (pos 1) period ≡ true → 1 ≤ natural period
at_least_one (pos n) is = let least : nat_le 1 n ≡ true = is in grind (arith, nat_tests, least)
at_least_one (negsuc n) is = absurd (cc is)

pub call_keeps_periods : (b : Base) (c : Clocks) (call : TimeCall) → ArePeriodic c → ArePeriodic (time_call b c call).table
unfolding time_call set_time get_time get_operating_time create_cyclic start_cyclic stop_cyclic delete_cyclic refer_cyclic create_alarm start_alarm stop_alarm delete_alarm refer_alarm
call_keeps_periods b c (time.SetTim high low) are = periodic_checked b c ((int_le (pos 0) high otherwise er.Par) ∷ []) _ are (λ none. record { each = are.each })
call_keeps_periods b c time.GetTim are = are
call_keeps_periods b c time.GetOtm are = are
call_keeps_periods b c (time.CreCyc attributes body period phase) are = periodic_checked b c (Time.create_cyclic_checks c attributes period phase) _ are
    (λ none. written_periodic c (Time.free_cyclic c) _ (at_least_one period (holds_at 1 (Time.create_cyclic_checks c attributes period phase) none)) are)
call_keeps_periods b c (time.StaCyc id) are = periodic_checked b c (object_checks id (has_cyc c (natural id)) []) _ are (λ none. are)
call_keeps_periods b c (time.StpCyc id) are = periodic_checked b c (object_checks id (has_cyc c (natural id)) []) _ are (λ none. are)
call_keeps_periods b c (time.DelCyc id) are = periodic_checked b c (object_checks id (has_cyc c (natural id)) []) _ are (λ none. written_periodic c (natural id) None tt are)
call_keeps_periods b c (time.RefCyc id) are = periodic_checked b c (object_checks id (has_cyc c (natural id)) []) _ are (λ none. are)
call_keeps_periods b c (time.CreAlm attributes body) are = periodic_checked b c (Time.create_alarm_checks c attributes) _ are (λ none. record { each = are.each })
call_keeps_periods b c (time.StaAlm id delay) are = periodic_checked b c (Time.start_alarm_checks c id delay) _ are (λ none. are)
call_keeps_periods b c (time.StpAlm id) are = periodic_checked b c (object_checks id (has_alm c (natural id)) []) _ are (λ none. are)
call_keeps_periods b c (time.DelAlm id) are = periodic_checked b c (object_checks id (has_alm c (natural id)) []) _ are (λ none. record { each = are.each })
call_keeps_periods b c (time.RefAlm id) are = periodic_checked b c (object_checks id (has_alm c (natural id)) []) _ are (λ none. are)

no_slot : (n id : ℕ) → entry (replicate {A = Option CyclicRow} n None) id ≡ None
no_slot zero id = refl
no_slot (suc n) zero = refl
no_slot (suc n) (suc id) = no_slot n id

pub start_periodic : ArePeriodic clocks_start
start_periodic = record { each = λ id. subst IsPeriodic (sym (no_slot 65 id)) tt }

-- ---- what is set

set_holds : (P : List DueEvent → Type 0) (b : Base) (due : ℕ) (what : Event) → Survives b.time P → b.time < due → P b.events → P (set_for b due what).events
set_holds P b due what s later is = s.added (record { time = due; key = b.made; what = what }) (without_event what b.events) later (s.taken what b.events is)

events_checked : (P : List DueEvent → Type 0) (b : Base) (c : Clocks) (checks : List Check) (effect : TimeDone) → P b.events → P effect.base.events → P (time_checked checks b c effect).base.events
events_checked P b c checks effect are works = time_cases (λ result. P result.base.events) checks b c effect (λ code. are) (λ none. works)

either : (P : List DueEvent → Type 0) (test : Bool) (first second : Base) → P first.events → P second.events → P (cond test first second).events
either P true first second one other = one
either P false first second one other = other

started_holds : (P : List DueEvent → Type 0) (b : Base) (id : ℕ) (slot : Option CyclicRow) → Survives b.time P → IsPeriodic slot → P b.events → P (started_cyclic b id slot).events
started_holds P b id None s some is = is
started_holds P b id (Some k) s some is = either P k.phased _ _
    (either P (is_set (Cyclic id) b.events) b _ is (set_holds P b (next_due k.first k.period b.time) (Cyclic id) s (next_is_later k.first k.period b.time some) is))
    (set_holds P b (b.time + k.period + 1) (Cyclic id) s (omega arith) is)

pub call_holds : (P : List DueEvent → Type 0) (b : Base) (c : Clocks) (call : TimeCall) → Survives b.time P → ArePeriodic c → P b.events → P (time_call b c call).base.events
unfolding time_call set_time get_time get_operating_time create_cyclic start_cyclic stop_cyclic delete_cyclic refer_cyclic create_alarm start_alarm stop_alarm delete_alarm refer_alarm
call_holds P b c (time.SetTim high low) s are is = events_checked P b c ((int_le (pos 0) high otherwise er.Par) ∷ []) _ is is
call_holds P b c time.GetTim s are is = is
call_holds P b c time.GetOtm s are is = is
call_holds P b c (time.CreCyc attributes body period phase) s are is = events_checked P b c (Time.create_cyclic_checks c attributes period phase) _ is
    (either P attributes.ta_sta _ b (set_holds P b (b.time + natural phase + 1) (Cyclic (Time.free_cyclic c)) s (omega arith) is) is)
call_holds P b c (time.StaCyc id) s are is = events_checked P b c (object_checks id (has_cyc c (natural id)) []) _ is (started_holds P b (natural id) (cyclic_at c (natural id)) s (are.each (natural id)) is)
call_holds P b c (time.StpCyc id) s are is = events_checked P b c (object_checks id (has_cyc c (natural id)) []) _ is (s.taken (Cyclic (natural id)) b.events is)
call_holds P b c (time.DelCyc id) s are is = events_checked P b c (object_checks id (has_cyc c (natural id)) []) _ is (s.taken (Cyclic (natural id)) b.events is)
call_holds P b c (time.RefCyc id) s are is = events_checked P b c (object_checks id (has_cyc c (natural id)) []) _ is is
call_holds P b c (time.CreAlm attributes body) s are is = events_checked P b c (Time.create_alarm_checks c attributes) _ is is
call_holds P b c (time.StaAlm id delay) s are is = events_checked P b c (Time.start_alarm_checks c id delay) _ is (set_holds P b (b.time + natural delay + 1) (Alarm (natural id)) s (omega arith) is)
call_holds P b c (time.StpAlm id) s are is = events_checked P b c (object_checks id (has_alm c (natural id)) []) _ is (s.taken (Alarm (natural id)) b.events is)
call_holds P b c (time.DelAlm id) s are is = events_checked P b c (object_checks id (has_alm c (natural id)) []) _ is (s.taken (Alarm (natural id)) b.events is)
call_holds P b c (time.RefAlm id) s are is = events_checked P b c (object_checks id (has_alm c (natural id)) []) _ is is

again_in_holds : (P : List DueEvent → Type 0) (b : Base) (what : Event) (slot : Option CyclicRow) → Survives b.time P → IsPeriodic slot → P b.events → P (again_in b what slot).events
again_in_holds P b what None s some is = is
again_in_holds P b what (Some k) s some is = set_holds P b (b.time + k.period) what s (omega (arith, some)) is

pub again_holds : (P : List DueEvent → Type 0) (b : Base) (c : Clocks) (what : Event) → Survives b.time P → ArePeriodic c → P b.events → P (again b c what).events
unfolding again
again_holds P b c (Wait t) s are is = is
again_holds P b c (Alarm id) s are is = is
again_holds P b c (Cyclic id) s are is = again_in_holds P b (Cyclic id) (cyclic_at c id) s (are.each id) is

-- ---- later than now, and in order

inserted_if : (P : DueEvent → Type 0) (event first : DueEvent) (rest inserted : List DueEvent) (test : Bool) → P event → P first → All P rest → All P inserted → All P (cond test (event ∷ first ∷ rest) (first ∷ inserted))
inserted_if P event first rest inserted true here one all with_it = All-cons P event (first ∷ rest) here (All-cons P first rest one all)
inserted_if P event first rest inserted false here one all with_it = All-cons P first inserted one with_it

all_inserted : (P : DueEvent → Type 0) (event : DueEvent) (events : List DueEvent) → P event → All P events → All P (insert_event event events)
all_inserted P event [] here all = All-cons P event [] here all
all_inserted P event (first ∷ rest) here all = inserted_if P event first rest (insert_event event rest) (nat_lt event.time first.time) here (All-head P first rest all) (All-tail P first rest all)
    (all_inserted P event rest here (All-tail P first rest all))

pub later_survives : (now : ℕ) → Survives now (AreLater now)
later_survives now = record {
  taken = λ what events all. All-filter (λ event. not (starts what event)) (λ (event : DueEvent). now < event.time) events all;
  added = λ event events later all. all_inserted (λ (event : DueEvent). now < event.time) event events later all;
}

abbrev IsBefore : DueEvent → DueEvent → Type 0
IsBefore earlier later = earlier.time ≤ later.time

order_if : (event first : DueEvent) (rest inserted : List DueEvent) (test : Bool) → nat_lt event.time first.time ≡ test → AreInTimeOrder (first ∷ rest) → All (IsBefore first) rest → AreInTimeOrder inserted →
    (first.time ≤ event.time → All (IsBefore first) inserted) → AreInTimeOrder (cond test (event ∷ first ∷ rest) (first ∷ inserted))
order_if event first rest inserted true is order behind placed all =
    let less : event.time < first.time = grind (arith, nat_tests, is) in
    AllPairs-cons IsBefore event (first ∷ rest) (All-cons (IsBefore event) first rest (omega (arith, less)) (All-weaker (IsBefore first) (IsBefore event) (λ x h. omega (arith, h, less)) rest behind)) order
order_if event first rest inserted false is order behind placed all = AllPairs-cons IsBefore first inserted (all (grind (arith, nat_tests, is))) placed

rest_later : (first : DueEvent) (rest : List DueEvent) → AreInTimeOrder (first ∷ rest) → All (IsBefore first) rest
rest_later first rest order k d less = order 0 (suc k) d (omega arith) (omega (arith, less))

rest_in_order : (first : DueEvent) (rest : List DueEvent) → AreInTimeOrder (first ∷ rest) → AreInTimeOrder rest
rest_in_order first rest order i j d less inside = order (suc i) (suc j) d (omega (arith, less)) (omega (arith, inside))

order_inserted : (event : DueEvent) (events : List DueEvent) → AreInTimeOrder events → AreInTimeOrder (insert_event event events)
order_inserted event [] order = AllPairs-cons IsBefore event [] (λ k d less. absurd (omega (arith, less))) order
order_inserted event (first ∷ rest) order = order_if event first rest (insert_event event rest) (nat_lt event.time first.time) refl order (rest_later first rest order)
    (order_inserted event rest (rest_in_order first rest order)) (λ behind. all_inserted (IsBefore first) event rest behind (rest_later first rest order))

pub order_survives : (now : ℕ) → Survives now AreInTimeOrder
order_survives now = record {
  taken = λ what events order. AllPairs-filter IsBefore (λ event. not (starts what event)) events order;
  added = λ event events later order. order_inserted event events order;
}
