-- A tick takes all that falls due by the time that it makes, also where cyclic handlers are set again in it: those fall due later.
use Rattle.std.proofs.Common.{◌≡◌, ℕ, suc, zero, ◌+◌, ◌<◌, ◌≤◌, Bool, true, false, not, List, [], ◌∷◌, Option, Some, None, length, refl, cond, ◌∙◌, ap, sym, subst, arith}
use Rattle.std.specs.List.{All}
use Rattle.std.specs.Prelude.{drop, filter, nat_le, nat_lt}
use Rattle.std.proofs.lemmas.Bool.Decides.{nat_tests}
use Rattle.std.proofs.lemmas.List.Elements.{All-cons, All-nil, All-weaker}
use Rattle.std.proofs.lemmas.List.Kept.{AllPairs-filter}
use Rattle.tk_types.specs.declared.run.Mode.{Mode}
use Rattle.tk_types.specs.declared.script.Script.{Script}
use Rattle.tk_types.specs.declared.task.DueEvent.{DueEvent}
use Rattle.tk_types.specs.declared.task.Event.{Event as DueKind}
use Rattle.kernel_model.specs.LawWords.TimeOrder.{AreInTimeOrder, AreLater}
use Rattle.kernel_model.specs.Words.Events.{due_event, first_event, insert_event, is_due, left_after}
use Rattle.kernel_model.specs.Bodies.Statements.{IsRunnable}
use Rattle.kernel_model.specs.Tasks.Base.{Base, advance, base_start, take_due}
use Rattle.context_model.specs.Clocks.Phases.{ArePeriodic}
use Rattle.context_model.specs.Clocks.Tables.{Clocks, again, starts}
use Rattle.context_laws.proofs.Later.{Survives, again_holds, order_survives}
use Rattle.machine_model.specs.States.State.{State, parts_of}
use Rattle.machine_model.specs.Events.Ticks.{due_done, fallen, limit_answer, tick_state}
use Rattle.machine_model.specs.Runs.Reached.{Move, state_after}
use Rattle.call_walk.proofs.DueEvents.{time_order_kept}
use Rattle.machine_lemmas.proofs.BaseKept.{BaseHas, base_kept}
use Rattle.machine_lemmas.proofs.ReachedRest.{reached_slots}
use Rattle.machine_lemmas.proofs.Servings.{FewDevices}
use Rattle.machine_lemmas.proofs.TickClocks.{reached_periods}
use Rattle.machine_lemmas.proofs.TickReached.{reached_order}
use Rattle.machine_lemmas.proofs.Walk.{kept_tick}
use Rattle.machine_lemmas.proofs.TickWalk.{HasAt, TickHas, again_time, fallen_keeps, next, release_at, settling_at}

-- ---- how many are due

abbrev one_if : Bool → ℕ
one_if test = cond test 1 0

-- how many events fall due by a time
abbrev late : ℕ → List DueEvent → ℕ
late now [] = 0
late now (first ∷ rest) = one_if (nat_le first.time now) + late now rest

late_cons : (now : ℕ) (first : DueEvent) (kept rest : List DueEvent) (test : Bool) → late now kept ≤ late now rest →
    late now (cond test (first ∷ kept) kept) ≤ late now (first ∷ rest)
late_cons now first kept rest true fewer = omega (arith, fewer)
late_cons now first kept rest false fewer = omega (arith, fewer)

late_filter : (now : ℕ) (passes : DueEvent → Bool) (events : List DueEvent) → late now (filter passes events) ≤ late now events
late_filter now passes [] = omega arith
late_filter now passes (first ∷ rest) = late_cons now first (filter passes rest) rest (passes first) (late_filter now passes rest)

late_if : (test : Bool) → one_if test ≤ 1
late_if true = omega arith
late_if false = omega arith

late_length : (now : ℕ) (events : List DueEvent) → late now events ≤ length events
late_length now [] = omega arith
late_length now (first ∷ rest) = let here = late_if (nat_le first.time now) in let others = late_length now rest in omega (arith, here, others)

later_none : (now : ℕ) (event : DueEvent) → now < event.time → one_if (nat_le event.time now) ≡ 0
later_none now event later = let not_due : nat_le event.time now ≡ false = grind (arith, nat_tests, later) in ap one_if not_due

late_put : (now : ℕ) (event first : DueEvent) (rest inserted : List DueEvent) (test : Bool) → now < event.time → late now inserted ≤ late now rest →
    late now (cond test (event ∷ first ∷ rest) (first ∷ inserted)) ≤ late now (first ∷ rest)
late_put now event first rest inserted true later same = let none = later_none now event later in omega (arith, none)
late_put now event first rest inserted false later same = omega (arith, same)

late_inserted : (now : ℕ) (event : DueEvent) (events : List DueEvent) → now < event.time → late now (insert_event event events) ≤ late now events
late_inserted now event [] later = let none = later_none now event later in omega (arith, none)
late_inserted now event (first ∷ rest) later = late_put now event first rest (insert_event event rest) (nat_lt event.time first.time) later (late_inserted now event rest later)

-- ---- events in order, few of which are due

-- of events in order none falls due before the first
pub pairs_head : (first : DueEvent) (rest : List DueEvent) → AreInTimeOrder (first ∷ rest) → All (λ event. first.time ≤ event.time) rest
pairs_head first rest pairs = λ k d within. pairs 0 (suc k) d (omega arith) (omega arith)

-- and the others are in order
pub pairs_tail : (first : DueEvent) (rest : List DueEvent) → AreInTimeOrder (first ∷ rest) → AreInTimeOrder rest
pairs_tail first rest pairs = λ i j d before within. pairs (suc i) (suc j) d (omega arith) (omega arith)

-- the events are in order, and at most so many are due
record AreFew (now most : ℕ) (events : List DueEvent) : Type 0 where
  order : AreInTimeOrder events
  few : late now events ≤ most

few_filter : (now most : ℕ) (passes : DueEvent → Bool) (events : List DueEvent) → AreFew now most events → AreFew now most (filter passes events)
few_filter now most passes events are = record {
  order = AllPairs-filter (λ (earlier later : DueEvent). earlier.time ≤ later.time) passes events are.order;
  few = let fewer = late_filter now passes events in let bound = are.few in omega (arith, fewer, bound);
}

-- what is set for later than now makes none due
few_survives : (now most : ℕ) → Survives now (AreFew now most)
few_survives now most = record {
  taken = λ what events are. few_filter now most (λ event. not (starts what event)) events are;
  added = λ event events later are. record {
    order = (order_survives now).added event events later are.order;
    few = let same = late_inserted now event events later in let bound = are.few in omega (arith, same, bound);
  };
}

few_again : (now most : ℕ) (b : Base) (c : Clocks) (what : DueKind) → ArePeriodic c → HasAt now (AreFew now most) b → HasAt now (AreFew now most) (again b c what)
few_again now most b c what periods has =
    (again_time b c what ∙ has.0, again_holds (AreFew now most) b c what (subst (λ at. Survives at (AreFew now most)) (sym has.0) (few_survives now most)) periods has.1)

-- where the first isn't due, none is
pub all_later : (now : ℕ) (events : List DueEvent) → AreInTimeOrder events → is_due now events ≡ false → AreLater now events
all_later now [] order idle = All-nil (λ (event : DueEvent). now < event.time)
all_later now (first ∷ rest) order idle =
    let after : now < first.time = grind (arith, nat_tests, idle) in
    All-cons (λ (event : DueEvent). now < event.time) first rest after
    (All-weaker (λ (event : DueEvent). first.time ≤ event.time) (λ (event : DueEvent). now < event.time) (λ event from. omega arith) rest (pairs_head first rest order))

first_later : (now : ℕ) (event : DueEvent) (test : Bool) → nat_le event.time now ≡ test → one_if test ≤ 0 → now < event.time
first_later now event true is none = absurd (omega (arith, none))
first_later now event false is none = grind (arith, nat_tests, is)

-- and where none is due, all are later
none_late : (now : ℕ) (events : List DueEvent) → late now events ≤ 0 → AreLater now events
none_late now [] none = All-nil (λ (event : DueEvent). now < event.time)
none_late now (first ∷ rest) none =
    All-cons (λ (event : DueEvent). now < event.time) first rest (first_later now first (nat_le first.time now) refl (omega (arith, none))) (none_late now rest (omega (arith, none)))

-- ---- what is taken

taken_few : (now most : ℕ) (events : List DueEvent) (due : Bool) → is_due now events ≡ due → due ≡ true → AreFew now (suc most) events →
    AreFew now most (cond due (drop 1 events) events)
taken_few now most [] due is taken are = absurd (cc (is, taken))
taken_few now most (first ∷ rest) false is taken are = absurd (cc taken)
taken_few now most (first ∷ rest) true is taken are = record {
  order = pairs_tail first rest are.order;
  few =
      let one : one_if (nat_le first.time now) ≡ 1 = ap one_if is in
      let bound = are.few in
      omega (arith, one, bound);
}

-- where no event is due the first isn't
pub idle_if : (due : Bool) (now : ℕ) (events : List DueEvent) → is_due now events ≡ due → cond due (first_event events) None ≡ None → is_due now events ≡ false
idle_if due now [] is none = refl
idle_if true now (event ∷ events) is none = absurd (cc none)
idle_if false now (event ∷ events) is none = is

came_if : (due : Bool) (what : DueKind) (now : ℕ) (events : List DueEvent) → cond due (first_event events) None ≡ Some what → due ≡ true
came_if true what now events some = refl
came_if false what now events some = absurd (cc some)

taken_at : (now most : ℕ) (b : Base) (what : DueKind) → due_event b.time b.events ≡ Some what → HasAt now (AreFew now (suc most)) b → HasAt now (AreFew now most) (take_due b)
taken_at now most b what is has = (
  has.0,
  subst (λ (at : ℕ). AreFew now most (left_after at b.events)) (sym has.0)
      (taken_few now most b.events (is_due now b.events) refl (came_if (is_due now b.events) what now b.events (ap (λ at. due_event at b.events) (sym has.0) ∙ is)) has.1),
)

-- an event that falls due leaves one less that is due
fallen_few : (now most : ℕ) (mode : Mode) (st : State) (what : DueKind) → due_event st.base.time st.base.events ≡ Some what →
    TickHas (HasAt now (AreFew now (suc most))) ArePeriodic (parts_of st) →
    TickHas (HasAt now (AreFew now most)) ArePeriodic (parts_of (fallen mode (record st { base = take_due st.base }) what))
fallen_few now most mode st what is has =
    let taken : HasAt now (AreFew now most) (take_due st.base) = taken_at now most st.base what is has.base in
    fallen_keeps (HasAt now (AreFew now most)) ArePeriodic (settling_at now (AreFew now most) (few_filter now most)) mode st what has.few has.clocks
    (λ u named. release_at now (AreFew now most) (few_filter now most) (take_due st.base) u (limit_answer (take_due st.base) u) taken)
    (λ none. few_again now most (take_due st.base) st.objects.clocks what has.clocks taken)

-- ---- a tick

next_done : (left now : ℕ) (mode : Mode) (st : State) (due : Option DueKind) → due_event st.base.time st.base.events ≡ due →
    TickHas (HasAt now (AreFew now (suc left))) ArePeriodic (parts_of st) →
    ((later : State) → TickHas (HasAt now (AreFew now left)) ArePeriodic (parts_of later) → AreLater now (due_done left mode later).base.events) → AreLater now (next left mode st due).base.events
next_done left now mode st None is has rest =
    let idle : due_event now st.base.events ≡ None = ap (λ at. due_event at st.base.events) (sym has.base.0) ∙ is in
    all_later now st.base.events has.base.1.order (idle_if (is_due now st.base.events) now st.base.events refl idle)
next_done left now mode st (Some what) is has rest = rest (fallen mode (record st { base = take_due st.base }) what) (fallen_few now left mode st what is has)

done_by : (left now : ℕ) (mode : Mode) (st : State) → TickHas (HasAt now (AreFew now left)) ArePeriodic (parts_of st) → AreLater now (due_done left mode st).base.events
unfolding due_done
done_by zero now mode st has = none_late now st.base.events has.base.1.few
done_by (suc left) now mode st has = next_done left now mode st (due_event st.base.time st.base.events) refl has (done_by left now mode)

-- nothing is left after a tick that falls due by the time that it makes
pub tick_takes_all : (mode : Mode) (st : State) → FewDevices (parts_of st) → ArePeriodic st.objects.clocks → AreInTimeOrder st.base.events →
    AreLater (st.base.time + 1) (tick_state mode st).base.events
tick_takes_all mode st few periods order =
    done_by (length st.base.events) (st.base.time + 1) mode (record st { base = advance st.base }) (record {
      base = (refl, record { order = order; few = late_length (st.base.time + 1) st.base.events });
      few = few;
      clocks = periods;
    })

-- and the rest stays in order
pub tick_keeps_order : (mode : Mode) (st : State) → FewDevices (parts_of st) → AreInTimeOrder st.base.events → AreInTimeOrder (tick_state mode st).base.events
tick_keeps_order mode st few order =
    (kept_tick (BaseHas (λ b. AreInTimeOrder b.events)) (base_kept (λ b. AreInTimeOrder b.events) time_order_kept) mode st (record { base = order; few = few })).base

-- so it is in every state that a machine comes to
pub reached_takes_all : (script : Script) (mode : Mode) (budget : ℕ) (moves : List Move) → IsRunnable script →
    AreLater ((state_after script mode budget moves).base.time + 1) (tick_state mode (state_after script mode budget moves)).base.events
reached_takes_all script mode budget moves runnable =
    tick_takes_all mode (state_after script mode budget moves) (reached_slots script mode budget moves runnable).few (reached_periods script mode budget moves runnable) (reached_order script mode budget moves runnable)

-- an event that is set takes its place in the order
pub event_in_order : (event : DueEvent) (events : List DueEvent) → AreInTimeOrder events → AreInTimeOrder (insert_event event events)
event_in_order event events order = time_order_kept.added (record (base_start 0) { events = events; made = event.key }) event.time event.what order
