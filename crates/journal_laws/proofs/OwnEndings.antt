-- A run of sync mode always finds the ending that it needs, and is the trace that is fed with the endings that arrived in it.
use Rattle.std.proofs.Common.{◌≡◌, ℕ, zero, suc, ◌+◌, ◌*◌, ◌≤◌, Bool, true, false, not, ◌&&◌, cond, length, List, [], ◌∷◌, Option, Some, None, refl, ◌∙◌, ap, subst, sym, arith}
use Rattle.std.specs.Bool.{◌==◌}
use Rattle.std.specs.Prelude.{nat_le}
use Rattle.std.specs.Option.{is_some, option_map}
use Rattle.std.proofs.lemmas.Bool.Decides.{nat_tests}
use Rattle.tk_types.specs.declared.line.Entry.{Entry}
use Rattle.tk_types.specs.declared.line.How.TheVariants as hows
use Rattle.tk_types.specs.declared.line.LastLine.TheVariants as lasts
use Rattle.tk_types.specs.declared.run.End.{End}
use Rattle.tk_types.specs.declared.run.Mode.TheVariants as modes
use Rattle.tk_types.specs.declared.script.Script.{Script}
use Rattle.kernel_model.specs.Bodies.Statements.{IsRunnable}
use Rattle.device_model.specs.declared.messages.Ending.{Ending}
use Rattle.device_model.specs.Devices.Endings.{DevParts, arrive, expected}
use Rattle.device_model.specs.Devices.Handing.{any_given, any_queued}
use Rattle.device_lemmas.proofs.Emptied.{emptied_any}
use Rattle.device_laws.proofs.Fits.{expected_arrives}
use Rattle.machine_model.specs.States.Objects.{dev_parts, with_devices}
use Rattle.machine_model.specs.States.State.{State, parts_of, taken, with_parts}
use Rattle.machine_model.specs.Events.Follow.{Event}
use Rattle.machine_model.specs.Events.Arrivals.{after_arrival, arrived}
use Rattle.machine_model.specs.Runs.Step.{Ends, Needs, Pace, Went, any_unfinished, counted, ended_or_went, handed_if, has_event, is_quiet, needed, needed_or, needed_sync, step, step_if, with_first_handed}
use Rattle.machine_model.specs.Runs.Reached.{after_pace}
use Rattle.machine_model.specs.Runs.Trace.{after, arrived_if, entered, is_next_by, named_ending, of_request, over_with, run_entered, run_went, runs, start, sync_pace, trace}
use Rattle.machine_model.specs.Runs.SyncTrace.{SyncRun, entry_of, first_given, needed_ending, sync_after, sync_arrived, sync_ending, sync_run, sync_runs, sync_turn, with_entry}
use Rattle.machine_lemmas.proofs.Reached.{start_has, step_has}
use Rattle.machine_lemmas.proofs.Walk.{kept_followed, kept_worked, of_kept}
use Rattle.journal_laws.proofs.Drivers.{HasDrivers, drivers_are_kept, start_drivers}
use Rattle.journal_laws.proofs.Feeding.{expected_named}
use Rattle.journal_laws.proofs.FedTurns.{trace_with_more}
use Rattle.journal_laws.proofs.Needed.{given_needed, queued_given}
use Rattle.journal_laws.proofs.Paces.{step_needs, step_went}
use Rattle.journal_laws.proofs.WholeTurns.{sync_with_more}

-- ---- the ending that is needed is there

-- a driver has a request
record IsGiven (st : State) : Type 0 where
  drivers : HasDrivers (parts_of st)
  given : any_given st.objects.devices ≡ true

handed_given : (some : Bool) (st now : State) → any_queued st.objects.devices ≡ some → any_given st.objects.devices ≡ false → HasDrivers (parts_of st) → handed_if some st ≡ Some now → IsGiven now
handed_given true st now some none has at =
    let same : with_first_handed st ≡ now = cc at in
    subst IsGiven same (record { drivers = drivers_are_kept.handed_first (parts_of st) has; given = queued_given st.objects.devices has.fit.linked none some })
handed_given false st now some none has at = absurd (cc at)

sync_given : (given : Bool) (st now : State) → any_given st.objects.devices ≡ given → HasDrivers (parts_of st) → needed_sync given st ≡ Some now → IsGiven now
sync_given true st now is has at = let same : st ≡ now = cc at in subst IsGiven same (record { drivers = has; given = is })
sync_given false st now is has at = handed_given (any_queued st.objects.devices) st now refl is has at

ended_given : (over : Bool) (script : Script) (budget : ℕ) (st now : State) → ended_or_went over script modes.Sync budget st ≡ Needs now → IsGiven now
unfolding counted
ended_given true script budget st now at = absurd (cc at)
ended_given false script budget st now at = absurd (cc at)

or_given : (waiting : Option State) (set : Bool) (script : Script) (budget : ℕ) (st now : State) → ((found : State) → waiting ≡ Some found → IsGiven found) → needed_or waiting set script modes.Sync budget st ≡ Needs now → IsGiven now
or_given (Some found) set script budget st now each at = let same : found ≡ now = cc at in subst IsGiven same (each found refl)
or_given None set script budget st now each at = ended_given (not set && not (any_unfinished st.objects.devices)) script budget st now at

quiet_given : (quiet : Bool) (script : Script) (budget : ℕ) (st now : State) → HasDrivers (parts_of st) → step_if quiet script modes.Sync budget st ≡ Needs now → IsGiven now
quiet_given true script budget st now has at =
    let set : Bool = has_event script (st.steps + 1) st in
    or_given (needed modes.Sync set st) set script budget st now (λ found there. sync_given (any_given st.objects.devices) st found refl has there) at
quiet_given false script budget st now has at = ended_given false script budget st now at

step_given : (script : Script) (budget : ℕ) (st now : State) → HasDrivers (parts_of st) → step script modes.Sync budget st ≡ Needs now → IsGiven now
unfolding step
step_given script budget st now has at = quiet_given (is_quiet st) script budget st now has at

-- it has one yet where messages are taken
taken_given : (st : State) → IsGiven st → IsGiven (taken st)
taken_given st is = record { drivers = drivers_are_kept.messages (parts_of st) is.drivers; given = emptied_any st.objects.devices ∙ is.given }

-- it arrives, and its entry is fit
record Comes (script : Script) (st : State) : Type 0 where
  ending : Ending
  event : Event
  needs : needed_ending st ≡ Some ending
  arrives : arrived script modes.Sync st ending ≡ Some event
  enters : entered script modes.Sync st (entry_of (st.steps + 1) ending) ≡ Some event
  drivers : HasDrivers (parts_of event.state)

some_parts : (found : Option DevParts) → is_some found ≡ true → (q : DevParts) × (found ≡ Some q)
some_parts None is = absurd (cc is)
some_parts (Some q) is = (q, refl)

arrived_is : (script : Script) (st : State) (e : Ending) (q : DevParts) → arrive (dev_parts (parts_of st)) e ≡ Some q → arrived script modes.Sync st e ≡ Some (after_arrival script modes.Sync (st.steps + 1) st e q)
unfolding arrived
arrived_is script st e q is = ap (option_map (after_arrival script modes.Sync (st.steps + 1) st e)) is

named_is : (request : ℕ) (some : Option Ending) (e : Ending) → some ≡ Some e → request ≡ e.request → of_request request some ≡ Some e
named_is request some e is same =
    let test : (e.request == request) ≡ true = grind (arith, nat_tests, same) in
    ap (of_request request) is ∙ ap (λ found. cond found (Some e) None) test

entered_is : (script : Script) (st : State) (e : Ending) (event : Event) → named_ending st (entry_of (st.steps + 1) e) ≡ Some e → arrived script modes.Sync st e ≡ Some event → entered script modes.Sync st (entry_of (st.steps + 1) e) ≡ Some event
unfolding entered
entered_is script st e event named is =
    let here : (st.steps + 1 == st.steps + 1) ≡ true = grind (arith, nat_tests) in
    ap (λ test. cond test (arrived_if script modes.Sync st (named_ending st (entry_of (st.steps + 1) e))) None) here ∙ ap (arrived_if script modes.Sync st) named ∙ is

given_comes : (script : Script) (st : State) → IsGiven st → Comes script st
given_comes script st is =
    let dv = st.objects.devices in
    let needs = given_needed dv is.drivers.fit.linked is.given in
    let e : Ending = needs.0 in
    let there = some_parts (arrive (dev_parts (parts_of st)) e) (expected_arrives (dev_parts (parts_of st)) (first_given dv) hows.Done e e.taken e.bytes.room is.drivers.fit.tied needs.1) in
    let comes = arrived_is script st e there.0 there.1 in
    let device : e.device ≡ first_given dv = (expected_named dv (first_given dv) hows.Done e needs.1).0 in
    let before : State = with_parts st (with_devices (parts_of st) there.0) in
    record {
      ending = e;
      event = after_arrival script modes.Sync (st.steps + 1) st e there.0;
      needs = needs.1;
      arrives = comes;
      enters = entered_is script st e (after_arrival script modes.Sync (st.steps + 1) st e there.0) (named_is e.request (expected dv e.device hows.Done) e (ap (λ d. expected dv d hows.Done) device ∙ needs.1) refl) comes;
      drivers = kept_followed HasDrivers (of_kept HasDrivers drivers_are_kept) script modes.Sync (st.steps + 1) before (drivers_are_kept.arrived (parts_of st) e there.0 there.1 is.drivers);
    }

-- ---- a run

-- no entry has a place before this one
abbrev NotBefore : ℕ → List Entry → Type 0
NotBefore n [] = Unit {0}
NotBefore n (entry ∷ later) = n ≤ entry.place

not_next : (n m : ℕ) (entries : List Entry) → n + 1 ≤ m → NotBefore m entries → is_next_by n entries ≡ false
not_next n m [] less late = refl
not_next n m (entry ∷ later) less late = by_test (nat_le entry.place n) refl
  where
    by_test : (test : Bool) → nat_le entry.place n ≡ test → test ≡ false
    by_test true at = let early : entry.place ≤ n = grind (arith, nat_tests, at) in absurd (omega (arith, early, less, late))
    by_test false at = refl

-- a run is the one that is fed with the endings that arrived in it
record IsOwn (script : Script) (budget turns : ℕ) (st : State) (run : SyncRun) : Type 0 where
  same : (k : ℕ) → run.trace ≡ runs turns script modes.Sync budget st k run.entries
  late : NotBefore (st.steps + 1) run.entries

-- the same of what a turn makes
record IsTurn (script : Script) (budget turns : ℕ) (st : State) (pace : Pace) (run : SyncRun) : Type 0 where
  same : (k : ℕ) → run.trace ≡ sync_pace (λ now j later. runs turns script modes.Sync budget now j later) script st k run.entries pace
  late : NotBefore (st.steps + 1) run.entries

later_places : (n m : ℕ) (entries : List Entry) → n ≤ m → NotBefore m entries → NotBefore n entries
later_places n m [] less late = tt
later_places n m (entry ∷ later) less late = omega (arith, less, late)

went_drivers : (script : Script) (budget : ℕ) (st : State) (event : Event) (over : Option End) → HasDrivers (parts_of st) → step script modes.Sync budget st ≡ Went event over → HasDrivers (parts_of (taken event.state))
went_drivers script budget st event over has is =
    subst (λ (pace : Pace). HasDrivers (parts_of (after_pace st pace))) is
    (step_has HasDrivers (of_kept HasDrivers drivers_are_kept) script modes.Sync budget st has (kept_worked HasDrivers (of_kept HasDrivers drivers_are_kept) script modes.Sync (st.steps + 1) st has))

needs_turn : (script : Script) (budget turns : ℕ) (st waiting : State) → waiting.steps ≡ st.steps → (comes : Comes script (taken waiting)) → IsOwn script budget turns (taken comes.event.state) (sync_runs turns script budget (taken comes.event.state)) →
    IsTurn script budget turns st (Needs waiting) (sync_turn (λ now. sync_runs turns script budget now) script st (Needs waiting))
needs_turn script budget turns st waiting steps comes rest =
    let next : State → SyncRun = λ now. sync_runs turns script budget now in
    let made : sync_turn next script st (Needs waiting) ≡ with_entry (entry_of (waiting.steps + 1) comes.ending) (sync_after comes.event.lines (next (taken comes.event.state))) =
    ap (sync_ending next script (taken waiting)) comes.needs ∙ ap (sync_arrived next (taken waiting) comes.ending) comes.arrives in
    subst (IsTurn script budget turns st (Needs waiting)) (sym made) (record {
      same = λ k.
          ap (after comes.event.lines) (rest.same (k + 1))
          ∙ ap (run_entered (λ now j later. runs turns script modes.Sync budget now j later) waiting k (next (taken comes.event.state)).entries) (sym comes.enters);
      late = omega (arith, steps);
    })

turn_own : (script : Script) (budget turns : ℕ) (st : State) (pace : Pace) → step script modes.Sync budget st ≡ pace → HasDrivers (parts_of st) →
    ((now : State) → HasDrivers (parts_of now) → IsOwn script budget turns now (sync_runs turns script budget now)) → IsTurn script budget turns st pace (sync_turn (λ now. sync_runs turns script budget now) script st pace)
turn_own script budget turns st (Went event None) is has rest =
    let own = rest (taken event.state) (went_drivers script budget st event None has is) in
    let entries : List Entry = (sync_runs turns script budget (taken event.state)).entries in
    let steps = (step_went script modes.Sync budget st event None is).steps in
    let none : is_next_by (st.steps + 1) entries ≡ false = not_next (st.steps + 1) (event.state.steps + 1) entries (omega (arith, steps)) own.late in
    record {
      same = λ k.
          ap (after event.lines) (own.same k)
          ∙ ap (λ test. cond test (over_with st (lasts.Unfit k)) (run_went (λ now j later. runs turns script modes.Sync budget now j later) k entries event None)) (sym none);
      late = later_places (st.steps + 1) (event.state.steps + 1) entries (omega (arith, steps)) own.late;
    }
turn_own script budget turns st (Went event (Some end)) is has rest = record { same = λ k. refl; late = tt }
turn_own script budget turns st (Needs waiting) is has rest =
    let comes = given_comes script (taken waiting) (taken_given waiting (step_given script budget st waiting has is)) in
    needs_turn script budget turns st waiting (step_needs script modes.Sync budget st waiting is).steps comes
    (rest (taken comes.event.state) (drivers_are_kept.messages (parts_of comes.event.state) comes.drivers))
turn_own script budget turns st Ends is has rest = record { same = λ k. refl; late = tt }

runs_own : (script : Script) (budget turns : ℕ) (st : State) → HasDrivers (parts_of st) → IsOwn script budget turns st (sync_runs turns script budget st)
unfolding sync_runs runs
runs_own script budget zero st has = record { same = λ k. refl; late = tt }
runs_own script budget (suc turns) st has =
    let turn = turn_own script budget turns st (step script modes.Sync budget st) refl has (runs_own script budget turns) in record { same = turn.same; late = turn.late }

-- the run of sync mode is the trace that is fed with its own endings
pub sync_is_fed : (script : Script) (budget : ℕ) → IsRunnable script → 1 ≤ budget → (sync_run script budget).trace ≡ trace script modes.Sync budget (sync_run script budget).entries
sync_is_fed script budget runnable least =
    let entries : List Entry = (sync_run script budget).entries in
    let turns : ℕ = 2 * budget + (budget + length entries) in
    let more = sync_with_more script budget turns least (omega arith) in
    let has = start_has HasDrivers drivers_are_kept.turned script (start_drivers script runnable) in
    let own = runs_own script budget turns (start script).state has in
    sym (ap (λ (run : SyncRun). run.trace) more)
    ∙ ap (after (start script).lines) (own.same 1)
    ∙ ap (λ mine. after (start script).lines (runs turns script modes.Sync budget (start script).state 1 mine)) (ap (λ (run : SyncRun). run.entries) more)
    ∙ trace_with_more script modes.Sync budget turns entries least (omega arith)
