-- In sync mode the ending that is taken in is the one that is needed: one request at most is with a driver, its abort was never asked,
-- and it went there only where nothing else was left to do.
use Rattle.std.proofs.Common.{◌≡◌, ℕ, suc, ◌+◌, ◌≤◌, length, Bool, true, false, not, ◌&&◌, ◌||◌, List, [], ◌∷◌, Option, Some, None, refl, ap, sym, subst, ◌∙◌}
use Rattle.std.specs.Bool.{◌==◌}
use Rattle.std.specs.Prelude.{if◌then◌else◌, slice_set}
use Rattle.std.specs.List.{find, list_any}
use Rattle.std.specs.Option.{is_some, option_map}
use Rattle.tk_types.specs.declared.line.How.{How}
use Rattle.tk_types.specs.declared.line.How.TheVariants.{Cut, Done}
use Rattle.tk_types.specs.declared.run.End.{End}
use Rattle.tk_types.specs.declared.run.Mode.TheVariants as modes
use Rattle.tk_types.specs.declared.script.Script.{Script}
use Rattle.kernel_model.specs.Bodies.Statements.{IsRunnable}
use Rattle.kernel_model.specs.Tasks.Base.{Base}
use Rattle.kernel_model.specs.Words.Orders.{entry}
use Rattle.kernel_lemmas.proofs.Tables.{entry_each, entry_same}
use Rattle.device_model.specs.declared.messages.Ending.{Ending}
use Rattle.device_model.specs.declared.rows.Opened.{Opened}
use Rattle.device_model.specs.Units.Function.{Served}
use Rattle.device_model.specs.Devices.Endings.{DevParts, arrive, closed, closed_after, ended_at, expected, expected_given, expected_link, free_unless, is_allowed, served_of}
use Rattle.device_model.specs.Devices.Handing.{any_given, any_queued, hand_first, handed_one, has_given}
use Rattle.device_model.specs.Devices.Tables.{Devices, Given, Link, Row, device_ids, devices_start, dropped, first_queued, given_in, handed, handed_first, handed_given, handed_link, handed_row, link_at, link_handed, opened_at, request_of, row_at}
use Rattle.device_lemmas.proofs.Emptied.{emptied_any, emptied_given}
use Rattle.machine_model.specs.States.Objects.{dev_parts, with_devices}
use Rattle.machine_model.specs.States.State.{State, parts_of, state_start, taken, with_parts}
use Rattle.machine_model.specs.Events.Arrivals.{after_arrival, arrived}
use Rattle.machine_model.specs.Events.Follow.{Event}
use Rattle.machine_model.specs.Runs.Reached.{Arrives, Steps, after_offer, after_pace}
use Rattle.machine_model.specs.Runs.Step.{Ends, Needs, Pace, Went, any_unfinished, counted, ended_or_went, handed_if, has_event, is_quiet, needed, needed_or, needed_sync, step, step_if, with_first_handed, worked}
use Rattle.machine_model.specs.Runs.SyncTrace.{first_given, needed_ending}
use Rattle.machine_model.specs.Runs.Trace.{named_ending, of_request, start}
use Rattle.machine_lemmas.proofs.DeviceServings.{dropped_links}
use Rattle.machine_lemmas.proofs.Reached.{kept_move, start_has}
use Rattle.machine_lemmas.proofs.Walk.{of_kept}
use Rattle.run_model.specs.SoFar.{IsSoFar, SoFar, begins, entry_before, goes_on, needs, takes_in}
use Rattle.journal_laws.proofs.Drivers.{HasDrivers, drivers_are_kept, start_drivers}
use Rattle.journal_laws.proofs.Needed.{given_needed, queued_given}
use Rattle.world_laws.proofs.Arrivals.{has_arrived}
use Rattle.world_laws.proofs.DeviceWalk.{dispatched_keeps}
use Rattle.way_lemmas.specs.Between.{IsBetween}
use Rattle.way_lemmas.proofs.Waiting.{start_given}
use Rattle.way_lemmas.proofs.SyncLinks.{followed_links, none_given, worked_links}

-- ---- whether a driver has a request

all_none : (links : List (Option Link)) → ((d : ℕ) → given_in (entry links d) ≡ None) → list_any has_given links ≡ false
all_none [] none = refl
all_none (slot ∷ links) none =
    ap (λ (given : Option Given). is_some given || list_any has_given links) (none 0) ∙ all_none links (λ d. none (suc d))

some_given : (dv : Devices) (d : ℕ) (given : Given) → given_in (link_at dv d) ≡ Some given → any_given dv ≡ true
some_given dv d given has = by_test (any_given dv) refl
  where
    by_test : (test : Bool) → any_given dv ≡ test → test ≡ true
    by_test true is = refl
    by_test false is = let none = none_given dv d is in absurd (cc (none, has))

-- where none has one, the state stands so
idle_between : (st : State) → any_given st.objects.devices ≡ false → IsBetween st
idle_between st none = record {
  which = 0;
  only = λ d given has. let gone = none_given st.objects.devices d none in absurd (cc (gone, has));
  quiet = λ some. absurd (cc (some, none));
}

taken_idle : (st : State) → any_given st.objects.devices ≡ false → IsBetween (taken st)
taken_idle st none = idle_between (taken st) (emptied_any st.objects.devices ∙ none)

-- ---- a request that goes to its driver

-- what a driver has is this one's alone, and wasn't asked to abort
record AreOnly (which : ℕ) (dv : Devices) : Type 0 where
  of_each : (d : ℕ) (given : Given) → given_in (link_at dv d) ≡ Some given → (d ≡ which) × (given.asked ≡ false)

none_only : (which : ℕ) (dv : Devices) → any_given dv ≡ false → AreOnly which dv
none_only which dv none = record { of_each = λ d given has. let gone = none_given dv d none in absurd (cc (gone, has)) }

unasked_is : (request : Given) (given : Given) → request.asked ≡ false → Some request ≡ Some given → given.asked ≡ false
unasked_is request given not same = let is : request ≡ given = cc same in ap (λ (g : Given). g.asked) (sym is) ∙ not

row_only : (dv : Devices) (d : ℕ) (link : Link) (id : ℕ) (slot : Option Row) → any_given dv ≡ false → AreOnly d (handed_row dv d link id slot)
row_only dv d link id None none = none_only d dv none
row_only dv d link id (Some row) none = record { of_each = entry_each (λ j it. (given : Given) → given_in it ≡ Some given → (j ≡ d) × (given.asked ≡ false)) dv.links d (Some now) here others }
  where
    now : Link
    now = link_handed d link (request_of id (link.number + 1) row)

    here : (given : Given) → given_in (entry (slice_set dv.links d (Some now)) d) ≡ Some given → (d ≡ d) × (given.asked ≡ false)
    here = entry_same (λ it. (given : Given) → given_in it ≡ Some given → (d ≡ d) × (given.asked ≡ false)) dv.links d (Some now)
        (λ given has. (refl, unasked_is (record { request = request_of id (link.number + 1) row; asked = false }) given refl has)) (λ given has. absurd (cc has))

    others : (j : ℕ) → (j ≡ d → ⊥) → (given : Given) → given_in (entry dv.links j) ≡ Some given → (j ≡ d) × (given.asked ≡ false)
    others j apart given has = let gone = none_given dv j none in absurd (cc (gone, has))

first_only : (dv : Devices) (d : ℕ) (link : Link) (first : Option ℕ) → any_given dv ≡ false → AreOnly d (handed_first dv d link first)
first_only dv d link None none = none_only d dv none
first_only dv d link (Some id) none = row_only dv d link id (row_at dv id) none

given_only : (dv : Devices) (d : ℕ) (link : Link) (given : Option Given) → any_given dv ≡ false → AreOnly d (handed_given dv d link given)
given_only dv d link (Some given) none = none_only d dv none
given_only dv d link None none = first_only dv d link (first_queued dv d) none

link_only : (dv : Devices) (d : ℕ) (slot : Option Link) → any_given dv ≡ false → AreOnly d (handed_link dv d slot)
link_only dv d None none = none_only d dv none
link_only dv d (Some link) none = given_only dv d link link.given none

handed_only : (dv : Devices) (d : ℕ) → any_given dv ≡ false → AreOnly d (handed dv d)
unfolding handed
handed_only dv d none = link_only dv d (link_at dv d) none

one_only : (dv : Devices) (found : Option ℕ) → any_given dv ≡ false → (which : ℕ) × AreOnly which (handed_one found dv)
one_only dv None none = (0, none_only 0 dv none)
one_only dv (Some d) none = (d, handed_only dv d none)

hand_only : (dv : Devices) → any_given dv ≡ false → (which : ℕ) × AreOnly which (hand_first dv)
unfolding hand_first
hand_only dv none = one_only dv (find (λ d. is_some (first_queued dv d)) (device_ids dv)) none

-- ---- steps

-- a quiet machine with a request at a driver needs its ending, again and again
pub still_needs : (script : Script) (budget : ℕ) (st : State) → is_quiet st ≡ true → any_given st.objects.devices ≡ true → step script modes.Sync budget st ≡ Needs st
unfolding step
still_needs script budget st quiet given =
    ap (λ (test : Bool). step_if test script modes.Sync budget st) quiet
    ∙ ap (λ (test : Bool). needed_or (needed_sync test st) (has_event script (st.steps + 1) st) script modes.Sync budget st) given

-- what holds of a state that was stepped to
abbrev OfWent : (State → Type 0) → Pace → Type 0
OfWent Q (Went event over) = Q event.state
OfWent Q (Needs waiting) = Unit {0}
OfWent Q Ends = Unit {0}

ended_went : (Q : State → Type 0) (over : Bool) (script : Script) (budget : ℕ) (st : State) → Q (record (worked script modes.Sync (st.steps + 1) st).state { steps = st.steps + 1 }) →
    OfWent Q (ended_or_went over script modes.Sync budget st)
unfolding counted
ended_went Q true script budget st works = tt
ended_went Q false script budget st works = works

needed_went : (Q : State → Type 0) (waiting : Option State) (event : Bool) (script : Script) (budget : ℕ) (st : State) →
    Q (record (worked script modes.Sync (st.steps + 1) st).state { steps = st.steps + 1 }) →
    OfWent Q (needed_or waiting event script modes.Sync budget st)
needed_went Q (Some waiting) event script budget st works = tt
needed_went Q None event script budget st works = ended_went Q (not event && not (any_unfinished st.objects.devices)) script budget st works

quiet_went : (Q : State → Type 0) (quiet : Bool) (script : Script) (budget : ℕ) (st : State) → Q (record (worked script modes.Sync (st.steps + 1) st).state { steps = st.steps + 1 }) →
    OfWent Q (step_if quiet script modes.Sync budget st)
quiet_went Q true script budget st works = let set : Bool = has_event script (st.steps + 1) st in needed_went Q (needed modes.Sync set st) set script budget st works
quiet_went Q false script budget st works = ended_went Q false script budget st works

went_to : (Q : State → Type 0) (script : Script) (budget : ℕ) (st : State) (event : Event) (over : Option End) → step script modes.Sync budget st ≡ Went event over →
    Q (record (worked script modes.Sync (st.steps + 1) st).state { steps = st.steps + 1 }) → Q event.state
unfolding step
went_to Q script budget st event over is works = subst (OfWent Q) is (quiet_went Q (is_quiet st) script budget st works)

-- a step is done only where no driver has a request
pub went_free : (script : Script) (budget : ℕ) (st : State) (event : Event) (over : Option End) → IsBetween st → step script modes.Sync budget st ≡ Went event over →
    any_given st.objects.devices ≡ false
went_free script budget st event over between is = by_test (any_given st.objects.devices) refl
  where
    by_test : (test : Bool) → any_given st.objects.devices ≡ test → test ≡ false
    by_test true given = let stays = still_needs script budget st (between.quiet given) given in absurd (cc (stays, is))
    by_test false given = refl

went_idle : (script : Script) (budget : ℕ) (st : State) (event : Event) (over : Option End) → length st.objects.devices.links ≤ 9 → IsBetween st → step script modes.Sync budget st ≡ Went event over →
    any_given event.state.objects.devices ≡ false
went_idle script budget st event over few between is =
    let none = went_free script budget st event over between is in
    went_to (λ now. any_given now.objects.devices ≡ false) script budget st event over is
    (ap (λ (links : List (Option Link)). list_any has_given links) (worked_links script (st.steps + 1) st few none) ∙ none)

-- a step that needs an ending: of the request that is with a driver, or of one that goes there now
abbrev OfNeeds : (State → Type 0) → Pace → Type 0
OfNeeds Q (Went event over) = Unit {0}
OfNeeds Q (Needs waiting) = Q waiting
OfNeeds Q Ends = Unit {0}

ended_needs : (Q : State → Type 0) (over : Bool) (script : Script) (budget : ℕ) (st : State) → OfNeeds Q (ended_or_went over script modes.Sync budget st)
unfolding counted
ended_needs Q true script budget st = tt
ended_needs Q false script budget st = tt

handed_needs : (Q : State → Type 0) (some event : Bool) (script : Script) (budget : ℕ) (st : State) → any_queued st.objects.devices ≡ some →
    (any_queued st.objects.devices ≡ true → Q (with_first_handed st)) → OfNeeds Q (needed_or (handed_if some st) event script modes.Sync budget st)
handed_needs Q true event script budget st is hands = hands is
handed_needs Q false event script budget st is hands = ended_needs Q (not event && not (any_unfinished st.objects.devices)) script budget st

given_needs : (Q : State → Type 0) (given event : Bool) (script : Script) (budget : ℕ) (st : State) → any_given st.objects.devices ≡ given → (any_given st.objects.devices ≡ true → Q st) →
    (any_given st.objects.devices ≡ false → any_queued st.objects.devices ≡ true → Q (with_first_handed st)) → OfNeeds Q (needed_or (needed_sync given st) event script modes.Sync budget st)
given_needs Q true event script budget st is stays hands = stays is
given_needs Q false event script budget st is stays hands = handed_needs Q (any_queued st.objects.devices) event script budget st refl (hands is)

quiet_needs : (Q : State → Type 0) (quiet : Bool) (script : Script) (budget : ℕ) (st : State) → is_quiet st ≡ quiet → (is_quiet st ≡ true → any_given st.objects.devices ≡ true → Q st) →
    (is_quiet st ≡ true → any_given st.objects.devices ≡ false → any_queued st.objects.devices ≡ true → Q (with_first_handed st)) → OfNeeds Q (step_if quiet script modes.Sync budget st)
quiet_needs Q true script budget st is stays hands = given_needs Q (any_given st.objects.devices) (has_event script (st.steps + 1) st) script budget st refl (stays is) (hands is)
quiet_needs Q false script budget st is stays hands = ended_needs Q false script budget st

pub needs_to : (Q : State → Type 0) (script : Script) (budget : ℕ) (st waiting : State) → step script modes.Sync budget st ≡ Needs waiting →
    (is_quiet st ≡ true → any_given st.objects.devices ≡ true → Q st) →
    (is_quiet st ≡ true → any_given st.objects.devices ≡ false → any_queued st.objects.devices ≡ true → Q (with_first_handed st)) → Q waiting
unfolding step
needs_to Q script budget st waiting is stays hands = subst (OfNeeds Q) is (quiet_needs Q (is_quiet st) script budget st refl stays hands)

taken_only : (st : State) (which : ℕ) → AreOnly which st.objects.devices → is_quiet st ≡ true → IsBetween (taken st)
taken_only st which only quiet = record {
  which = which;
  only = λ d given has. only.of_each d given (sym (emptied_given st.objects.devices d) ∙ has);
  quiet = λ some. quiet;
}

needs_between : (script : Script) (budget : ℕ) (st waiting : State) → IsBetween st → step script modes.Sync budget st ≡ Needs waiting → IsBetween (taken waiting)
needs_between script budget st waiting between is =
    needs_to (λ now. IsBetween (taken now)) script budget st waiting is
    (λ quiet given. taken_only st between.which (record { of_each = between.only }) quiet)
    (λ quiet none some. let only = hand_only st.objects.devices none in taken_only (with_first_handed st) only.0 only.1 quiet)

-- what is needed is there: the machine is quiet, and a driver has a request
pub record IsAtDriver (st : State) : Type 0 where
  pub quiet : is_quiet st ≡ true
  pub given : any_given st.objects.devices ≡ true

pub needs_given : (script : Script) (budget : ℕ) (st waiting : State) → HasDrivers (parts_of st) → step script modes.Sync budget st ≡ Needs waiting → IsAtDriver waiting
needs_given script budget st waiting drivers is =
    needs_to IsAtDriver script budget st waiting is (λ quiet given. record { quiet = quiet; given = given })
    (λ quiet none some. record { quiet = quiet; given = queued_given st.objects.devices drivers.fit.linked none some })

-- ---- an ending

either_links : (dv one : Devices) (test : Bool) → one.links ≡ dv.links → (if test then one else dv).links ≡ dv.links
either_links dv one true same = same
either_links dv one false same = refl

free_links : (waiters : List ℕ) (dv : Devices) (dd : ℕ) → (free_unless waiters dv dd).links ≡ dv.links
free_links [] dv dd = refl
free_links (t ∷ ts) dv dd = refl

closed_by : (b : Base) (dv : Devices) (id dd : ℕ) (slot : Option Opened) → (closed_after b dv id dd slot).links ≡ dv.links
closed_by b dv id dd None = refl
closed_by b dv id dd (Some opened) = either_links dv _ opened.closing (free_links _ (dropped dv id) dd ∙ dropped_links dv id)

closed_links : (b : Base) (dv : Devices) (id dd : ℕ) → (closed b dv id dd).links ≡ dv.links
closed_links b dv id dd = closed_by b dv id dd (opened_at dv dd)

-- its driver was the one that had a request
ended_none : (dv : Devices) (which d : ℕ) (link : Link) (given : Given) (id : ℕ) (row : Row) (served : Served) →
    ((j : ℕ) (it : Given) → given_in (link_at dv j) ≡ Some it → (j ≡ which) × (it.asked ≡ false)) →
    link_at dv d ≡ Some link → link.given ≡ Some given → any_given (ended_at dv d link id row served) ≡ false
ended_none dv which d link given id row served only linked has =
    all_none (slice_set dv.links d (Some now))
    (entry_each (λ j slot. given_in slot ≡ None) dv.links d (Some now) (entry_same (λ slot. given_in slot ≡ None) dv.links d (Some now) refl refl)
    (λ j apart. others j apart (given_in (link_at dv j)) refl))
  where
    now : Link
    now = record link { store = served.store; given = None }

    same : d ≡ which
    same = (only d given (ap given_in linked ∙ has)).0

    others : (j : ℕ) → (j ≡ d → ⊥) → (slot : Option Given) → given_in (link_at dv j) ≡ slot → given_in (link_at dv j) ≡ None
    others j apart None is = is
    others j apart (Some it) is = absurd (apart ((only j it is).0 ∙ sym same))

come_idle : (script : Script) (st : State) (e : Ending) (event : Event) (parts : Option DevParts) → HasDrivers (parts_of st) → IsBetween st → arrive (dev_parts (parts_of st)) e ≡ parts →
    option_map (after_arrival script modes.Sync (st.steps + 1) st e) parts ≡ Some event → any_given event.state.objects.devices ≡ false
come_idle script st e event None drivers between is comes = absurd (cc comes)
come_idle script st e event (Some q) drivers between is comes =
    let a = has_arrived (dev_parts (parts_of st)) q e is in
    let served : Served = served_of a.link.kind a.link.store a.given.request e.how in
    let after : Devices = ended_at st.objects.devices e.device a.link a.given.request.id a.row served in
    let first = ended_none st.objects.devices between.which e.device a.link a.given a.given.request.id a.row served between.only a.linked a.has in
    let none : any_given q.table ≡ false =
    ap any_given (sym a.is)
    ∙ (ap (λ (links : List (Option Link)). list_any has_given links) (closed_links st.base after a.given.request.id a.row.descriptor)
    ∙ first) in
    let few = (drivers_are_kept.arrived (parts_of st) e q is drivers).few in
    let same : after_arrival script modes.Sync (st.steps + 1) st e q ≡ event = cc comes in
    ap (λ (it : Event). any_given it.state.objects.devices) (sym same)
    ∙ (ap (λ (links : List (Option Link)). list_any has_given links) (followed_links script (st.steps + 1) (with_parts st (with_devices (parts_of st) q)) few none) ∙ none)

arrived_idle : (script : Script) (st : State) (e : Ending) (event : Event) → HasDrivers (parts_of st) → IsBetween st → arrived script modes.Sync st e ≡ Some event →
    any_given event.state.objects.devices ≡ false
unfolding arrived
arrived_idle script st e event drivers between comes = come_idle script st e event (arrive (dev_parts (parts_of st)) e) drivers between refl comes

-- ---- all runs

-- what holds in a run of sync mode between steps
pub record SyncSound (st : State) : Type 0 where
  pub drivers : HasDrivers (parts_of st)
  pub between : IsBetween st

start_idle : (script : Script) → any_given (start script).state.objects.devices ≡ false
unfolding start state_start
start_idle script =
    dispatched_keeps (λ dv. any_given dv ≡ false) 0 (state_start script) (all_none (devices_start script).links (start_given script))

pub start_syncs : (script : Script) → IsRunnable script → SyncSound (start script).state
start_syncs script runnable = record {
  drivers = start_has HasDrivers drivers_are_kept.turned script (start_drivers script runnable);
  between = idle_between (start script).state (start_idle script);
}

stepped_drivers : (script : Script) (budget : ℕ) (st : State) (pace : Pace) → step script modes.Sync budget st ≡ pace → HasDrivers (parts_of st) → HasDrivers (parts_of (after_pace st pace))
stepped_drivers script budget st pace is has =
    subst (λ (it : Pace). HasDrivers (parts_of (after_pace st it))) is (kept_move HasDrivers (of_kept HasDrivers drivers_are_kept) script modes.Sync budget st Steps has)

arrived_drivers : (script : Script) (budget : ℕ) (st : State) (e : Ending) (event : Event) → arrived script modes.Sync st e ≡ Some event → HasDrivers (parts_of st) →
    HasDrivers (parts_of (taken event.state))
arrived_drivers script budget st e event is has =
    subst (λ (it : Option Event). HasDrivers (parts_of (after_offer st it))) is (kept_move HasDrivers (of_kept HasDrivers drivers_are_kept) script modes.Sync budget st (Arrives e) has)

pub went_syncs : (script : Script) (budget : ℕ) (st : State) (event : Event) (over : Option End) → SyncSound st → step script modes.Sync budget st ≡ Went event over → SyncSound (taken event.state)
went_syncs script budget st event over sound is = record {
  drivers = stepped_drivers script budget st (Went event over) is sound.drivers;
  between = taken_idle event.state (went_idle script budget st event over sound.drivers.few sound.between is);
}

pub needs_syncs : (script : Script) (budget : ℕ) (st waiting : State) → SyncSound st → step script modes.Sync budget st ≡ Needs waiting → SyncSound (taken waiting)
needs_syncs script budget st waiting sound is = record {
  drivers = stepped_drivers script budget st (Needs waiting) is sound.drivers;
  between = needs_between script budget st waiting sound.between is;
}

pub arrived_syncs : (script : Script) (budget : ℕ) (st : State) (e : Ending) (event : Event) → SyncSound st → arrived script modes.Sync st e ≡ Some event → SyncSound (taken event.state)
arrived_syncs script budget st e event sound is = record {
  drivers = arrived_drivers script budget st e event is sound.drivers;
  between = taken_idle event.state (arrived_idle script st e event sound.drivers sound.between is);
}

pub syncs_so_far : (script : Script) (budget : ℕ) (so : SoFar) → IsRunnable script → IsSoFar script modes.Sync budget so → SyncSound so.state
syncs_so_far script budget so runnable begins = start_syncs script runnable
syncs_so_far script budget so runnable (goes_on {so = before} {event = event} is went) = went_syncs script budget before.state event None (syncs_so_far script budget before runnable is) went
syncs_so_far script budget so runnable (needs {so = before} {waiting = waiting} is needed) = needs_syncs script budget before.state waiting (syncs_so_far script budget before runnable is) needed
syncs_so_far script budget so runnable (takes_in {so = before} {named = named} {event = event} is may names comes) =
    arrived_syncs script budget before.state named event (syncs_so_far script budget before runnable is) comes

-- ---- the ending that is taken in

-- an ending that is fit is of a request that is with its driver, and it is done whole, where its abort wasn't asked
pub record IsExpected (dv : Devices) (d : ℕ) (how : How) : Type 0 where
  pub given : Given
  pub has : given_in (link_at dv d) ≡ Some given
  pub whole : given.asked ≡ false → how ≡ Done

allowed_whole : (link : Link) (given : Given) (how : How) → is_allowed link.kind link.store given how ≡ true → given.asked ≡ false → how ≡ Done
allowed_whole link given Done allowed not = refl
allowed_whole link given (Cut count) allowed not = absurd (first_not given.asked _ allowed not)
  where
    first_not : (one other : Bool) → (one && other) ≡ true → one ≡ false → ⊥
    first_not true other both unasked = cc unasked
    first_not false other both unasked = cc both

expected_if : (dv : Devices) (d : ℕ) (how : How) (link : Link) (given : Given) (e made : Ending) → link_at dv d ≡ Some link → link.given ≡ Some given → (allowed : Bool) →
    is_allowed link.kind link.store given how ≡ allowed →
    (if allowed then Some made else None) ≡ Some e → IsExpected dv d how
expected_if dv d how link given e made linked has true allowed is = record { given = given; has = ap given_in linked ∙ has; whole = allowed_whole link given how allowed }
expected_if dv d how link given e made linked has false allowed is = absurd (cc is)

expected_by : (dv : Devices) (d : ℕ) (how : How) (link : Link) (e : Ending) → link_at dv d ≡ Some link → (given : Option Given) → link.given ≡ given →
    expected_given d how link given ≡ Some e → IsExpected dv d how
expected_by dv d how link e linked None has is = absurd (cc is)
expected_by dv d how link e linked (Some given) has is = expected_if dv d how link given e _ linked has (is_allowed link.kind link.store given how) refl is

expected_at : (dv : Devices) (d : ℕ) (how : How) (e : Ending) (slot : Option Link) → link_at dv d ≡ slot → expected_link d how slot ≡ Some e → IsExpected dv d how
expected_at dv d how e None linked is = absurd (cc is)
expected_at dv d how e (Some link) linked is = expected_by dv d how link e linked link.given refl is

pub expected_is : (dv : Devices) (d : ℕ) (how : How) (e : Ending) → expected dv d how ≡ Some e → IsExpected dv d how
unfolding expected
expected_is dv d how e is = expected_at dv d how e (link_at dv d) refl is

named_expected : (request : ℕ) (found : Option Ending) (e : Ending) → of_request request found ≡ Some e → found ≡ Some e
named_expected request None e is = absurd (cc is)
named_expected request (Some other) e is = by_test (other.request == request) is
  where
    by_test : (test : Bool) → (if test then Some other else None) ≡ Some e → Some other ≡ Some e
    by_test true same = same
    by_test false same = absurd (cc same)

-- the ending that an entry names is that of a request done whole, which is needed, and it is needed now
pub record IsNeeded (script : Script) (budget : ℕ) (st : State) (named : Ending) : Type 0 where
  pub how : named.how ≡ Done
  pub device : named.device ≡ first_given st.objects.devices
  pub needed : needed_ending st ≡ Some named
  pub now : step script modes.Sync budget st ≡ Needs st

pub named_needed : (script : Script) (budget : ℕ) (st : State) (n : ℕ) (named : Ending) → SyncSound st → named_ending st (entry_before n named) ≡ Some named → IsNeeded script budget st named
named_needed script budget st n named sound is =
    let dv : Devices = st.objects.devices in
    let found : expected dv named.device named.how ≡ Some named = named_expected named.request (expected dv named.device named.how) named is in
    let it = expected_is dv named.device named.how named found in
    let some = some_given dv named.device it.given it.has in
    let only = sound.between.only named.device it.given it.has in
    let first = given_needed dv sound.drivers.fit.linked some in
    let other = expected_is dv (first_given dv) Done first.0 first.1 in
    let same : named.device ≡ first_given dv = only.0 ∙ sym (sound.between.only (first_given dv) other.given other.has).0 in
    let how : named.how ≡ Done = it.whole only.1 in
    record {
      how = how;
      device = same;
      needed = ap (λ (d : ℕ). expected dv d Done) (sym same) ∙ (ap (λ (h : How). expected dv named.device h) (sym how) ∙ found);
      now = still_needs script budget st (sound.between.quiet some) some;
    }

-- so it is in every run of sync mode
pub sync_named : (script : Script) (budget : ℕ) (so : SoFar) (named : Ending) → IsRunnable script → IsSoFar script modes.Sync budget so →
    named_ending so.state (entry_before (so.state.steps + 1) named) ≡ Some named → IsNeeded script budget so.state named
sync_named script budget so named runnable is names = named_needed script budget so.state (so.state.steps + 1) named (syncs_so_far script budget so runnable is) names
