-- Cyclic handlers that keep their phase are set for times of it, through every call on time and through a tick.
use Rattle.std.proofs.Common.{◌≡◌, ℕ, suc, zero, ◌+◌, ◌*◌, Bool, true, false, not, List, [], ◌∷◌, Option, Some, None, refl, cond, ◌∙◌, ap, sym, subst, pos, arith}
use Rattle.std.specs.Prelude.{nat_le, drop, slice_get, slice_set, replicate}
use Rattle.std.specs.Bool.{◌==◌}
use Rattle.std.specs.List.{find}
use Rattle.std.specs.Option.{option_map, option_flatten}
use Rattle.std.specs.Prelude.{int_le}
use Rattle.std.proofs.lemmas.Bool.Decides.{nat_tests}
use Rattle.tk_types.specs.declared.error_code.Er.TheVariants as er
use Rattle.tk_types.specs.declared.task.Event.{Event}
use Rattle.tk_types.specs.declared.task.Event.TheVariants.{Wait, Cyclic, Alarm}
use Rattle.tk_types.specs.declared.task.DueEvent.{DueEvent}
use Rattle.tk_types.specs.declared.calls.TimeCall.{TimeCall}
use Rattle.tk_types.specs.declared.calls.TimeCall.TheVariants as time
use Rattle.kernel_model.specs.Words.Checks.{Check, ◌otherwise◌, natural, first_error}
use Rattle.kernel_model.specs.Words.Events.{is_wait_of, left_after}
use Rattle.kernel_model.specs.Words.Orders.{entry, free_from}
use Rattle.kernel_model.specs.SemFlags.Calls.{object_checks}
use Rattle.kernel_model.specs.Tasks.Base.{Base, add_event, drop_wait, take_due}
use Rattle.kernel_lemmas.proofs.Tables.{itself, entry_each, entry_same}
use Rattle.context_model.specs.declared.cyclic_row.CyclicRow.{CyclicRow}
use Rattle.context_model.specs.Clocks.Tables.{Clocks, clocks_start, cyclic_at, has_cyc, has_alm, with_cyclic, is_event, is_set, starts, due_time, unset, set_for, next_due, again, again_in}
use Rattle.context_model.specs.Clocks.Calls as Time
use Rattle.context_model.specs.Clocks.Calls.{TimeDone, time_call, time_checked, created_cyclic, started_cyclic, set_time, get_time, get_operating_time, create_cyclic, start_cyclic, stop_cyclic, delete_cyclic, refer_cyclic, create_alarm, start_alarm, stop_alarm, delete_alarm, refer_alarm}
use Rattle.context_model.specs.Clocks.Phases.{IsTimeOf, IsInPhase, AreInPhase}
use Rattle.context_laws.proofs.Checked.{time_cases, holds_at}
use Rattle.context_laws.proofs.Phases.{next_in_phase}
use Rattle.context_laws.proofs.Sets.{due_set, due_other, due_gone, due_left, event_kept, event_dropped}

-- ---- the free ID

-- where there is a free ID, its slot is in the table, and free
free_is : {A : Type 0} (id : ℕ) (slots : List (Option A)) → (free_from id slots == 0) ≡ false → (place : ℕ) × (free_from id slots ≡ id + place) × (slice_get slots place ≡ Some None)
unfolding free_from
free_is id [] found = absurd (cc found)
free_is id (None ∷ slots) found = (0, omega arith, refl)
free_is id (Some k ∷ slots) found = let rest = free_is (id + 1) slots found in (suc rest.0, (let same : free_from (id + 1) slots ≡ id + 1 + rest.0 = rest.1 in omega (arith, same)), rest.2)

pub written_at : {A : Type 0} (P : Option A → Type 0) (xs : List (Option A)) (i : ℕ) (y : Option A) → slice_get xs i ≡ Some None → P y → P (entry (slice_set xs i y) i)
written_at P [] i y there is = absurd (cc there)
written_at P (x ∷ xs) zero y there is = is
written_at P (x ∷ xs) (suc i) y there is = written_at P xs i y there is

pub free_slot : {A : Type 0} (table : List (Option A)) → (free_from 1 (drop 1 table) == 0) ≡ false → slice_get table (free_from 1 (drop 1 table)) ≡ Some None
free_slot {A = A} [] found = let none = free_is {A = A} 1 [] found in absurd (cc none.2)
free_slot (x ∷ xs) found =
    let at = free_is 1 xs found in
    let same : free_from 1 xs ≡ 1 + at.0 = at.1 in
    let next : free_from 1 xs ≡ suc at.0 = omega (arith, same) in
    ap (λ (n : ℕ). slice_get (x ∷ xs) n) next ∙ at.2

-- ---- one handler

-- what isn't set is in phase
stopped_is : (slot : Option CyclicRow) → IsInPhase slot None
stopped_is None = refl
stopped_is (Some k) = λ phased. tt

by_id : (P : ℕ → Type 0) (id j : ℕ) (test : Bool) → (j == id) ≡ test → P id → ((j == id) ≡ false → P j) → P j
by_id P id j true is same other = let e : id ≡ j = grind (arith, nat_tests, is) in subst P e same
by_id P id j false is same other = other is

turned : (id j : ℕ) → (j == id) ≡ false → is_event (Cyclic j) (Cyclic id) ≡ false
turned id j apart = grind (arith, nat_tests, apart)

-- one handler is set for a time, and the others stay
pub in_phase_set : (c : Clocks) (b : Base) (id time : ℕ) → IsInPhase (cyclic_at c id) (Some time) → AreInPhase c b.events → AreInPhase c (set_for b time (Cyclic id)).events
in_phase_set c b id time is are = record {
  each = λ j. by_id (λ n. IsInPhase (cyclic_at c n) (due_time (Cyclic n) (set_for b time (Cyclic id)).events)) id j (j == id) refl
      (subst (λ (due : Option ℕ). IsInPhase (cyclic_at c id) due) (sym (due_set b time (Cyclic id))) is)
      (λ apart. subst (λ (due : Option ℕ). IsInPhase (cyclic_at c j) due) (sym (due_other b time (Cyclic id) (Cyclic j) (turned id j apart))) (are.each j));
}

-- an event of another kind is set or taken back
in_phase_same : (c : Clocks) (events later : List DueEvent) → ((id : ℕ) → due_time (Cyclic id) later ≡ due_time (Cyclic id) events) → AreInPhase c events → AreInPhase c later
in_phase_same c events later same are = record { each = λ id. subst (λ (due : Option ℕ). IsInPhase (cyclic_at c id) due) (sym (same id)) (are.each id) }

-- one handler is taken back
in_phase_unset : (c : Clocks) (b : Base) (id : ℕ) → AreInPhase c b.events → AreInPhase c (unset b (Cyclic id)).events
in_phase_unset c b id are = record {
  each = λ j. by_id (λ n. IsInPhase (cyclic_at c n) (due_time (Cyclic n) (unset b (Cyclic id)).events)) id j (j == id) refl
      (subst (λ (due : Option ℕ). IsInPhase (cyclic_at c id) due) (sym (due_gone b (Cyclic id))) (stopped_is (cyclic_at c id)))
      (λ apart. subst (λ (due : Option ℕ). IsInPhase (cyclic_at c j) due) (sym (due_left b (Cyclic id) (Cyclic j) (turned id j apart))) (are.each j));
}

-- ---- a call

abbrev Fits : TimeDone → Type 0
Fits result = AreInPhase result.table result.base.events

fits_checked : (b : Base) (c : Clocks) (checks : List Check) (effect : TimeDone) → AreInPhase c b.events → (first_error checks ≡ None → Fits effect) → Fits (time_checked checks b c effect)
fits_checked b c checks effect are works = time_cases Fits checks b c effect (λ code. are) works

-- the row of an ID that was free
was_free : (slot : Option CyclicRow) (due : Option ℕ) (row : Option (Option CyclicRow)) → row ≡ Some None → slot ≡ option_flatten row → IsInPhase slot due → due ≡ None
was_free slot due row free is fits = let none : slot ≡ None = is ∙ ap option_flatten free in subst (λ (s : Option CyclicRow). IsInPhase s due) none fits

created_fits : (b : Base) (c : Clocks) (started : Bool) (id : ℕ) (k : CyclicRow) → slice_get c.cyclics id ≡ Some None → AreInPhase c b.events → Fits (created_cyclic b c started id k)
created_fits b c true id k free are = record {
  each = entry_each (λ n slot. IsInPhase slot (due_time (Cyclic n) (set_for b k.first (Cyclic id)).events)) c.cyclics id (Some k)
      (written_at (λ slot. IsInPhase slot (due_time (Cyclic id) (set_for b k.first (Cyclic id)).events)) c.cyclics id (Some k) free
      (λ phased. subst (λ (due : Option ℕ). IsTimeOf k due) (sym (due_set b k.first (Cyclic id))) (0, omega arith)))
      (λ j apart. subst (λ (due : Option ℕ). IsInPhase (cyclic_at c j) due) (sym (due_other b k.first (Cyclic id) (Cyclic j) (unequal id j apart))) (are.each j));
}
  where
    unequal : (id j : ℕ) → (j ≡ id → ⊥) → is_event (Cyclic j) (Cyclic id) ≡ false
    unequal id j apart = by_test (id == j) refl
      where
        by_test : (test : Bool) → (id == j) ≡ test → (id == j) ≡ false
        by_test true is = absurd (apart (grind (arith, nat_tests, is)))
        by_test false is = is
created_fits b c false id k free are = record {
  each = entry_each (λ n slot. IsInPhase slot (due_time (Cyclic n) b.events)) c.cyclics id (Some k)
      (written_at (λ slot. IsInPhase slot (due_time (Cyclic id) b.events)) c.cyclics id (Some k) free
      (λ phased. subst (λ (due : Option ℕ). IsTimeOf k due) (sym (was_free (cyclic_at c id) (due_time (Cyclic id) b.events) (slice_get c.cyclics id) free refl (are.each id))) tt))
      (λ j apart. are.each j);
}

deleted_fits : (b : Base) (c : Clocks) (id : ℕ) → AreInPhase c b.events → AreInPhase (with_cyclic c id None) (unset b (Cyclic id)).events
deleted_fits b c id are =
    let unset_are : AreInPhase c (unset b (Cyclic id)).events = in_phase_unset c b id are in
    record {
      each = entry_each (λ n slot. IsInPhase slot (due_time (Cyclic n) (unset b (Cyclic id)).events)) c.cyclics id None
          (entry_same (λ slot. IsInPhase slot (due_time (Cyclic id) (unset b (Cyclic id)).events)) c.cyclics id None (due_gone b (Cyclic id)) (due_gone b (Cyclic id)))
          (λ j apart. unset_are.each j);
    }

unless_set : (c : Clocks) (b : Base) (id time : ℕ) (set : Bool) → IsInPhase (cyclic_at c id) (Some time) → AreInPhase c b.events → AreInPhase c (cond set b (set_for b time (Cyclic id))).events
unless_set c b id time true is are = are
unless_set c b id time false is are = in_phase_set c b id time is are

started_if : (c : Clocks) (b : Base) (id : ℕ) (k : CyclicRow) (phased : Bool) → k.phased ≡ phased → cyclic_at c id ≡ Some k → AreInPhase c b.events →
    AreInPhase c (cond phased (cond (is_set (Cyclic id) b.events) b (set_for b (next_due k.first k.period b.time) (Cyclic id))) (set_for b (b.time + k.period + 1) (Cyclic id))).events
started_if c b id k true keeps at are = unless_set c b id (next_due k.first k.period b.time) (is_set (Cyclic id) b.events)
    (subst (λ (slot : Option CyclicRow). IsInPhase slot (Some (next_due k.first k.period b.time))) (sym at) (λ phased. next_in_phase k.first k.period b.time)) are
started_if c b id k false keeps at are = in_phase_set c b id (b.time + k.period + 1)
    (subst (λ (slot : Option CyclicRow). IsInPhase slot (Some (b.time + k.period + 1))) (sym at) (λ phased. absurd (cc (keeps, phased)))) are

started_fits : (c : Clocks) (b : Base) (id : ℕ) (slot : Option CyclicRow) → cyclic_at c id ≡ slot → AreInPhase c b.events → AreInPhase c (started_cyclic b id slot).events
started_fits c b id None at are = are
started_fits c b id (Some k) at are = started_if c b id k k.phased refl at are

pub call_in_phase : (b : Base) (c : Clocks) (call : TimeCall) → AreInPhase c b.events → Fits (time_call b c call)
unfolding time_call set_time get_time get_operating_time create_cyclic start_cyclic stop_cyclic delete_cyclic refer_cyclic create_alarm start_alarm stop_alarm delete_alarm refer_alarm
call_in_phase b c (time.SetTim high low) are = fits_checked b c ((int_le (pos 0) high otherwise er.Par) ∷ []) _ are (λ none. record { each = are.each })
call_in_phase b c time.GetTim are = are
call_in_phase b c time.GetOtm are = are
call_in_phase b c (time.CreCyc attributes body period phase) are = fits_checked b c (Time.create_cyclic_checks c attributes period phase) _ are
    (λ none. created_fits b c attributes.ta_sta (Time.free_cyclic c) _ (free_slot c.cyclics (not_free (holds_at 3 (Time.create_cyclic_checks c attributes period phase) none))) are)
  where
    not_free : not (free_from 1 (drop 1 c.cyclics) == 0) ≡ true → (free_from 1 (drop 1 c.cyclics) == 0) ≡ false
    not_free is = by_test (free_from 1 (drop 1 c.cyclics) == 0) is
      where
        by_test : (test : Bool) → not test ≡ true → test ≡ false
        by_test true is = absurd (cc is)
        by_test false is = refl
call_in_phase b c (time.StaCyc id) are = fits_checked b c (object_checks id (has_cyc c (natural id)) []) _ are (λ none. started_fits c b (natural id) (cyclic_at c (natural id)) refl are)
call_in_phase b c (time.StpCyc id) are = fits_checked b c (object_checks id (has_cyc c (natural id)) []) _ are (λ none. in_phase_unset c b (natural id) are)
call_in_phase b c (time.DelCyc id) are = fits_checked b c (object_checks id (has_cyc c (natural id)) []) _ are (λ none. deleted_fits b c (natural id) are)
call_in_phase b c (time.RefCyc id) are = fits_checked b c (object_checks id (has_cyc c (natural id)) []) _ are (λ none. are)
call_in_phase b c (time.CreAlm attributes body) are = fits_checked b c (Time.create_alarm_checks c attributes) _ are (λ none. record { each = are.each })
call_in_phase b c (time.StaAlm id delay) are = fits_checked b c (Time.start_alarm_checks c id delay) _ are
    (λ none. in_phase_same c b.events _ (λ n. due_other b (b.time + natural delay + 1) (Alarm (natural id)) (Cyclic n) refl) are)
call_in_phase b c (time.StpAlm id) are = fits_checked b c (object_checks id (has_alm c (natural id)) []) _ are
    (λ none. in_phase_same c b.events _ (λ n. due_left b (Alarm (natural id)) (Cyclic n) refl) are)
call_in_phase b c (time.DelAlm id) are = fits_checked b c (object_checks id (has_alm c (natural id)) []) _ are
    (λ none. let same : AreInPhase c (unset b (Alarm (natural id))).events = in_phase_same c b.events _ (λ n. due_left b (Alarm (natural id)) (Cyclic n) refl) are in record { each = same.each })
call_in_phase b c (time.RefAlm id) are = fits_checked b c (object_checks id (has_alm c (natural id)) []) _ are (λ none. are)

-- ---- the start, waits and a tick

no_slot : (n id : ℕ) → entry (replicate {A = Option CyclicRow} n None) id ≡ None
no_slot zero id = refl
no_slot (suc n) zero = refl
no_slot (suc n) (suc id) = no_slot n id

pub start_in_phase : AreInPhase clocks_start []
start_in_phase = record { each = λ id. subst (λ (slot : Option CyclicRow). IsInPhase slot None) (sym (no_slot 65 id)) refl }

pub waits_in_phase : (c : Clocks) (b : Base) (t due : ℕ) → AreInPhase c b.events → AreInPhase c (add_event b due (Wait t)).events × AreInPhase c (drop_wait b t).events
waits_in_phase c b t due are = (
  in_phase_same c b.events _ (λ id. event_kept (Cyclic id) b due (Wait t) refl) are,
  in_phase_same c b.events _ (λ id. event_dropped (Cyclic id) b t (λ what is. apart id what is)) are,
)
  where
    apart : (id : ℕ) (what : Event) → is_wait_of t what ≡ true → is_event (Cyclic id) what ≡ false
    apart id (Wait u) is = refl
    apart id (Cyclic n) is = absurd (cc is)
    apart id (Alarm n) is = absurd (cc is)

-- the first event, and then the others
first_other : (what : Event) (event : DueEvent) (rest : List DueEvent) → is_event what event.what ≡ false → due_time what (event ∷ rest) ≡ due_time what rest
first_other what event rest apart = ap (λ test. option_map (λ (e : DueEvent). e.time) (cond test (Some event) (find (starts what) rest))) apart

first_same : (what : Event) (event : DueEvent) (rest : List DueEvent) → is_event what event.what ≡ true → due_time what (event ∷ rest) ≡ Some event.time
first_same what event rest is = ap (λ test. option_map (λ (e : DueEvent). e.time) (cond test (Some event) (find (starts what) rest))) is

-- the time one period behind a time of a phase is one of it
one_more : (k : CyclicRow) (now : ℕ) → IsTimeOf k (Some now) → IsTimeOf k (Some (now + k.period))
one_more k now is = (is.0 + 1, (let at : now ≡ k.first + is.0 * k.period = is.1 in omega (arith, at)))

abbrev Passes : Base → Clocks → List DueEvent → Event → Type 0
Passes b c rest what = AreInPhase c (again (record b { events = rest }) c what).events

again_fits : (b : Base) (c : Clocks) (event : DueEvent) (rest : List DueEvent) (id : ℕ) (slot : Option CyclicRow) → event.what ≡ Cyclic id → cyclic_at c id ≡ slot → event.time ≡ b.time → AreInPhase c (event ∷ rest) →
    AreInPhase c (again_in (record b { events = rest }) (Cyclic id) slot).events
again_fits b c event rest id None is at now are =
    let set : due_time (Cyclic id) (event ∷ rest) ≡ Some event.time = first_same (Cyclic id) event rest (ap (λ what. is_event (Cyclic id) what) is ∙ itself id) in
    let none : due_time (Cyclic id) (event ∷ rest) ≡ None = subst (λ (slot : Option CyclicRow). IsInPhase slot (due_time (Cyclic id) (event ∷ rest))) at (are.each id) in
    absurd (cc (sym set ∙ none))
again_fits b c event rest id (Some k) is at now are =
    let set : due_time (Cyclic id) (event ∷ rest) ≡ Some event.time = first_same (Cyclic id) event rest (ap (λ what. is_event (Cyclic id) what) is ∙ itself id) in
    let here : IsInPhase (Some k) (due_time (Cyclic id) (event ∷ rest)) = subst (λ (slot : Option CyclicRow). IsInPhase slot (due_time (Cyclic id) (event ∷ rest))) at (are.each id) in
    let later : IsInPhase (Some k) (Some (b.time + k.period)) = λ phased. one_more k b.time (subst (λ (due : Option ℕ). IsTimeOf k due) (set ∙ ap (λ n. Some n) now) (here phased)) in
    record {
      each = λ j. by_id (λ n. IsInPhase (cyclic_at c n) (due_time (Cyclic n) (set_for (record b { events = rest }) (b.time + k.period) (Cyclic id)).events)) id j (j == id) refl
          (subst (λ (slot : Option CyclicRow). IsInPhase slot (due_time (Cyclic id) (set_for (record b { events = rest }) (b.time + k.period) (Cyclic id)).events)) (sym at)
          (subst (λ (due : Option ℕ). IsInPhase (Some k) due) (sym (due_set (record b { events = rest }) (b.time + k.period) (Cyclic id))) later))
          (λ apart. subst (λ (due : Option ℕ). IsInPhase (cyclic_at c j) due)
          (sym (due_other (record b { events = rest }) (b.time + k.period) (Cyclic id) (Cyclic j) (turned id j apart)
          ∙ sym (first_other (Cyclic j) event rest (ap (λ what. is_event (Cyclic j) what) is ∙ turned id j apart))))
          (are.each j));
    }

taken_fits : (b : Base) (c : Clocks) (event : DueEvent) (rest : List DueEvent) (what : Event) → event.what ≡ what → event.time ≡ b.time → AreInPhase c (event ∷ rest) → Passes b c rest what
unfolding again
taken_fits b c event rest (Wait t) is now are = in_phase_same c (event ∷ rest) rest (λ id. sym (first_other (Cyclic id) event rest (ap (λ what. is_event (Cyclic id) what) is))) are
taken_fits b c event rest (Cyclic id) is now are = again_fits b c event rest id (cyclic_at c id) is refl now are
taken_fits b c event rest (Alarm id) is now are = in_phase_same c (event ∷ rest) rest (λ id. sym (first_other (Cyclic id) event rest (ap (λ what. is_event (Cyclic id) what) is))) are

due_now : (event : DueEvent) (rest : List DueEvent) (now : ℕ) → event.time ≡ now → left_after now (event ∷ rest) ≡ rest
due_now event rest now at =
    let test : nat_le event.time now ≡ true = grind (arith, nat_tests, at) in
    rw test refl

-- an event that falls due now is taken, and where it starts a cyclic handler, that is set again
pub tick_in_phase : (b : Base) (c : Clocks) (event : DueEvent) (rest : List DueEvent) → b.events ≡ event ∷ rest → event.time ≡ b.time → AreInPhase c b.events → AreInPhase c (again (take_due b) c event.what).events
tick_in_phase b c event rest is now are =
    subst (λ (events : List DueEvent). AreInPhase c (again (record b { events = events }) c event.what).events) (sym (ap (left_after b.time) is ∙ due_now event rest b.time now))
    (taken_fits b c event rest event.what refl now (subst (λ (events : List DueEvent). AreInPhase c events) is are))
