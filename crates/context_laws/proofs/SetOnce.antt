-- A handler is set at most once.
use Rattle.std.proofs.Common.{◌≡◌, ℕ, ◌+◌, ◌≤◌, Bool, true, false, not, List, [], ◌∷◌, Option, Some, None, refl, cond, ◌∙◌, ap, sym, subst, pos, arith}
use Rattle.std.specs.Prelude.{nat_lt, count_by, filter, int_le, drop}
use Rattle.std.proofs.lemmas.Bool.Decides.{nat_tests}
use Rattle.std.proofs.lemmas.List.Sums.{sum_by-cons}
use Rattle.tk_types.specs.declared.error_code.Er.TheVariants as er
use Rattle.tk_types.specs.declared.task.Event.{Event}
use Rattle.tk_types.specs.declared.task.Event.TheVariants.{Wait, Cyclic, Alarm}
use Rattle.tk_types.specs.declared.task.DueEvent.{DueEvent}
use Rattle.tk_types.specs.declared.calls.TimeCall.{TimeCall}
use Rattle.tk_types.specs.declared.calls.TimeCall.TheVariants as time
use Rattle.kernel_model.specs.Words.Checks.{Check, ◌otherwise◌, natural}
use Rattle.kernel_model.specs.Words.Events.{insert_event, is_due}
use Rattle.kernel_model.specs.SemFlags.Calls.{object_checks}
use Rattle.kernel_model.specs.Tasks.Base.{Base, take_due}
use Rattle.context_model.specs.declared.cyclic_row.CyclicRow.{CyclicRow}
use Rattle.context_model.specs.Clocks.Tables.{Clocks, cyclic_at, has_cyc, has_alm, is_event, is_set, starts, without_event, unset, set_for, next_due, again, again_in}
use Rattle.context_model.specs.Clocks.Calls as Time
use Rattle.context_model.specs.Clocks.Calls.{TimeDone, time_call, time_checked, created_cyclic, started_cyclic, set_time, get_time, get_operating_time, create_cyclic, start_cyclic, stop_cyclic, delete_cyclic, refer_cyclic, create_alarm, start_alarm, stop_alarm, delete_alarm, refer_alarm}
use Rattle.context_model.specs.Clocks.Phases.{set_count}
use Rattle.context_laws.proofs.Checked.{time_cases}

-- ---- how often an event stands in a list

-- as a number
abbrev one_if : Bool → ℕ
one_if test = cond test 1 0

count_cons : (p : DueEvent → Bool) (first : DueEvent) (rest : List DueEvent) → count_by p (first ∷ rest) ≡ one_if (p first) + count_by p rest
count_cons p first rest = sum_by-cons (λ event. cond (p event) 1 0) first rest

swap_if : (p : DueEvent → Bool) (event first : DueEvent) (rest : List DueEvent) (test : Bool) → count_by p (insert_event event rest) ≡ one_if (p event) + count_by p rest →
    count_by p (cond test (event ∷ first ∷ rest) (first ∷ insert_event event rest)) ≡ one_if (p event) + count_by p (first ∷ rest)
swap_if p event first rest true same = count_cons p event (first ∷ rest)
swap_if p event first rest false same =
    let front = count_cons p first (insert_event event rest) in
    let behind = count_cons p first rest in
    omega (arith, same, front, behind)

count_set : (p : DueEvent → Bool) (event : DueEvent) (events : List DueEvent) → count_by p (insert_event event events) ≡ one_if (p event) + count_by p events
count_set p event [] = count_cons p event []
count_set p event (first ∷ rest) = swap_if p event first rest (nat_lt event.time first.time) (count_set p event rest)

less_if : (p : DueEvent → Bool) (first : DueEvent) (kept rest : List DueEvent) (test : Bool) → count_by p kept ≤ count_by p rest → count_by p (cond (not test) (first ∷ kept) kept) ≤ count_by p (first ∷ rest)
less_if p first kept rest true less = let all = count_cons p first rest in omega (arith, less, all)
less_if p first kept rest false less =
    let all = count_cons p first rest in
    let some : count_by p (first ∷ kept) ≡ one_if (p first) + count_by p kept = count_cons p first kept in
    omega (arith, less, all, some)

-- what is taken back makes no count grow
count_less : (p q : DueEvent → Bool) (events : List DueEvent) → count_by p (filter (λ event. not (q event)) events) ≤ count_by p events
count_less p q [] = omega arith
count_less p q (first ∷ rest) = less_if p first (filter (λ event. not (q event)) rest) rest (q first) (count_less p q rest)

none_if : (p : DueEvent → Bool) (first : DueEvent) (rest : List DueEvent) (test : Bool) → p first ≡ test → count_by p rest ≡ 0 → count_by p (cond (not test) (first ∷ rest) rest) ≡ 0
none_if p first rest true is none = none
none_if p first rest false is none = count_cons p first rest ∙ ap (λ test. one_if test + count_by p rest) is ∙ omega (arith, none)

count_gone : (p : DueEvent → Bool) (events : List DueEvent) → count_by p (filter (λ event. not (p event)) events) ≡ 0
count_gone p [] = refl
count_gone p (first ∷ rest) = none_if p first (filter (λ event. not (p event)) rest) (p first) refl (count_gone p rest)

-- ---- one handler

same_event : (what other : Event) → is_event what other ≡ true → what ≡ other
same_event (Wait t) (Wait u) is = let e : t ≡ u = grind (arith, nat_tests, is) in ap (λ n. Wait n) e
same_event (Cyclic t) (Cyclic u) is = let e : t ≡ u = grind (arith, nat_tests, is) in ap (λ n. Cyclic n) e
same_event (Alarm t) (Alarm u) is = let e : t ≡ u = grind (arith, nat_tests, is) in ap (λ n. Alarm n) e
same_event (Wait t) (Cyclic u) is = absurd (cc is)
same_event (Wait t) (Alarm u) is = absurd (cc is)
same_event (Cyclic t) (Wait u) is = absurd (cc is)
same_event (Cyclic t) (Alarm u) is = absurd (cc is)
same_event (Alarm t) (Wait u) is = absurd (cc is)
same_event (Alarm t) (Cyclic u) is = absurd (cc is)

-- a handler is set at most once, whatever is set or taken back
abbrev IsOnceIn : Event → Base → Type 0
IsOnceIn what b = set_count what b.events ≤ 1

-- what is set in its own place is there once
own_once : (what : Event) (b : Base) (time : ℕ) → set_count what (set_for b time what).events ≤ 1
own_once what b time = subst (λ (n : ℕ). n ≤ 1)
    (sym (count_set (starts what) (record { time = time; key = b.made; what = what }) (without_event what b.events) ∙ ap (λ n. one_if (is_event what what) + n) (count_gone (starts what) b.events)))
    (at_most (is_event what what))
  where
    at_most : (test : Bool) → one_if test + 0 ≤ 1
    at_most true = omega arith
    at_most false = omega arith

once_if : (what set : Event) (b : Base) (time : ℕ) (test : Bool) → is_event what set ≡ test → IsOnceIn what b → IsOnceIn what (set_for b time set)
once_if what set b time true is once = subst (λ (other : Event). set_count what (set_for b time other).events ≤ 1) (same_event what set is) (own_once what b time)
once_if what set b time false is once =
    let less : set_count what (without_event set b.events) ≤ set_count what b.events = count_less (starts what) (starts set) b.events in
    let count : set_count what (set_for b time set).events ≡ set_count what (without_event set b.events) =
    count_set (starts what) (record { time = time; key = b.made; what = set }) (without_event set b.events) ∙ ap (λ test. one_if test + set_count what (without_event set b.events)) is ∙ omega arith in
    omega (arith, less, count, once)

once_set : (what set : Event) (b : Base) (time : ℕ) → IsOnceIn what b → IsOnceIn what (set_for b time set)
once_set what set b time once = once_if what set b time (is_event what set) refl once

once_unset : (what gone : Event) (b : Base) → IsOnceIn what b → IsOnceIn what (unset b gone)
once_unset what gone b once = let less : set_count what (without_event gone b.events) ≤ set_count what b.events = count_less (starts what) (starts gone) b.events in omega (arith, less, once)

-- ---- calls

abbrev Fits : Event → TimeDone → Type 0
Fits what result = IsOnceIn what result.base

fits_checked : (what : Event) (b : Base) (c : Clocks) (checks : List Check) (effect : TimeDone) → IsOnceIn what b → Fits what effect → Fits what (time_checked checks b c effect)
fits_checked what b c checks effect once is = time_cases (Fits what) checks b c effect (λ code. once) (λ none. is)

either : (what : Event) (test : Bool) (b c : Base) → IsOnceIn what b → IsOnceIn what c → IsOnceIn what (cond test b c)
either what true b c first second = first
either what false b c first second = second

started_once : (what : Event) (b : Base) (id : ℕ) (slot : Option CyclicRow) → IsOnceIn what b → IsOnceIn what (started_cyclic b id slot)
started_once what b id None once = once
started_once what b id (Some k) once = either what k.phased _ _
    (either what (is_set (Cyclic id) b.events) b _ once (once_set what (Cyclic id) b (next_due k.first k.period b.time) once))
    (once_set what (Cyclic id) b (b.time + k.period + 1) once)

pub call_sets_once : (b : Base) (c : Clocks) (call : TimeCall) (what : Event) → set_count what b.events ≤ 1 → set_count what (time_call b c call).base.events ≤ 1
unfolding time_call set_time get_time get_operating_time create_cyclic start_cyclic stop_cyclic delete_cyclic refer_cyclic create_alarm start_alarm stop_alarm delete_alarm refer_alarm
call_sets_once b c (time.SetTim high low) what once = fits_checked what b c ((int_le (pos 0) high otherwise er.Par) ∷ []) _ once once
call_sets_once b c time.GetTim what once = once
call_sets_once b c time.GetOtm what once = once
call_sets_once b c (time.CreCyc attributes body period phase) what once = fits_checked what b c (Time.create_cyclic_checks c attributes period phase) _ once
    (either what attributes.ta_sta _ b (once_set what (Cyclic (Time.free_cyclic c)) b (b.time + natural phase + 1) once) once)
call_sets_once b c (time.StaCyc id) what once = fits_checked what b c (object_checks id (has_cyc c (natural id)) []) _ once (started_once what b (natural id) (cyclic_at c (natural id)) once)
call_sets_once b c (time.StpCyc id) what once = fits_checked what b c (object_checks id (has_cyc c (natural id)) []) _ once (once_unset what (Cyclic (natural id)) b once)
call_sets_once b c (time.DelCyc id) what once = fits_checked what b c (object_checks id (has_cyc c (natural id)) []) _ once (once_unset what (Cyclic (natural id)) b once)
call_sets_once b c (time.RefCyc id) what once = fits_checked what b c (object_checks id (has_cyc c (natural id)) []) _ once once
call_sets_once b c (time.CreAlm attributes body) what once = fits_checked what b c (Time.create_alarm_checks c attributes) _ once once
call_sets_once b c (time.StaAlm id delay) what once = fits_checked what b c (Time.start_alarm_checks c id delay) _ once (once_set what (Alarm (natural id)) b (b.time + natural delay + 1) once)
call_sets_once b c (time.StpAlm id) what once = fits_checked what b c (object_checks id (has_alm c (natural id)) []) _ once (once_unset what (Alarm (natural id)) b once)
call_sets_once b c (time.DelAlm id) what once = fits_checked what b c (object_checks id (has_alm c (natural id)) []) _ once (once_unset what (Alarm (natural id)) b once)
call_sets_once b c (time.RefAlm id) what once = fits_checked what b c (object_checks id (has_alm c (natural id)) []) _ once once

again_once : (b : Base) (set what : Event) (slot : Option CyclicRow) → IsOnceIn what b → IsOnceIn what (again_in b set slot)
again_once b set what None once = once
again_once b set what (Some k) once = once_set what set b (b.time + k.period) once

drop_if : (p : DueEvent → Bool) (events : List DueEvent) (due : Bool) → count_by p (cond due (drop 1 events) events) ≤ count_by p events
drop_if p events false = omega arith
drop_if p [] true = omega arith
drop_if p (first ∷ rest) true = let all = count_cons p first rest in omega (arith, all)

-- what is due is taken
taken_once : (b : Base) (what : Event) → set_count what b.events ≤ 1 → set_count what (take_due b).events ≤ 1
taken_once b what once = let less = drop_if (starts what) b.events (is_due b.time b.events) in omega (arith, less, once)

-- a handler that fell due is set again once at most
again_sets_once : (b : Base) (c : Clocks) (due what : Event) → set_count what b.events ≤ 1 → set_count what (again b c due).events ≤ 1
unfolding again
again_sets_once b c (Wait t) what once = once
again_sets_once b c (Alarm id) what once = once
again_sets_once b c (Cyclic id) what once = again_once b (Cyclic id) what (cyclic_at c id) once

pub tick_sets_once : (b : Base) (c : Clocks) (due what : Event) → set_count what b.events ≤ 1 → set_count what (again (take_due b) c due).events ≤ 1
tick_sets_once b c due what once = again_sets_once (take_due b) c due what (taken_once b what once)
