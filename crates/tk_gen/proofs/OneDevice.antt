-- The one device of a generated script: what the kernel has to do with its driver, from one turn to the next.
use Rattle.std.proofs.Common.{◌≡◌, ℕ, ◌+◌, ◌≤◌, Bool, true, false, not, ◌&&◌, length, List, [], ◌∷◌, ◌++◌, Option, Some, None, refl, ap, sym, subst, ◌∙◌, arith}
use Rattle.std.specs.Prelude.{cond, drop, if◌then◌else◌, map, slice_set, unwrap_or}
use Rattle.std.specs.List.{find, list_any}
use Rattle.std.specs.Option.{is_some, option_map}
use Rattle.tk_types.specs.declared.line.How.TheVariants.{Done}
use Rattle.tk_types.specs.declared.run.End.{End}
use Rattle.tk_types.specs.declared.run.Mode.TheVariants as modes
use Rattle.tk_types.specs.declared.script.Device.{Device}
use Rattle.tk_types.specs.declared.script.Script.{Script}
use Rattle.kernel_model.specs.Tasks.Base.{Base}
use Rattle.kernel_model.specs.Words.Orders.{entry, taken_from}
use Rattle.device_model.specs.declared.messages.Ending.{Ending}
use Rattle.device_model.specs.declared.messages.Message.{Message}
use Rattle.device_model.specs.declared.messages.Message.TheVariants as message
use Rattle.device_model.specs.declared.messages.Request.{Request}
use Rattle.device_model.specs.declared.rows.Opened.{Opened}
use Rattle.device_model.specs.Units.Function.{IsWhole, unit}
use Rattle.device_model.specs.Devices.Endings.{DevParts, arrive, arrive_fit, arrive_given, arrive_link, closed, closed_after, ending_of, expected, expected_link, free_unless, is_fit}
use Rattle.device_model.specs.Devices.Handing.{any_given, emptied, hand_first, handed_one, has_given, link_emptied, messages}
use Rattle.device_model.specs.Devices.Tables.{Devices, Given, Link, Row, at_driver, devices_start, dropped, first_queued, given_in, handed, handed_first, handed_link, handed_row, link_at, link_handed, link_start, opened_at, request_in, request_of, row_at}
use Rattle.device_laws.proofs.Fits.{expected_arrives}
use Rattle.driver_model.specs.Cores.{Core, core_start}
use Rattle.machine_model.specs.States.Objects.{dev_parts, with_devices}
use Rattle.machine_model.specs.States.State.{State, parts_of, state_start, taken, with_parts}
use Rattle.machine_model.specs.Events.Arrivals.{after_arrival, arrived}
use Rattle.machine_model.specs.Events.Follow.{Event}
use Rattle.machine_model.specs.Runs.Generator.{generated}
use Rattle.machine_model.specs.Runs.Step.{Ends, Needs, Pace, Went, any_unfinished, counted, ended_or_went, has_event, is_quiet, needed, needed_or, step, step_if, worked}
use Rattle.machine_model.specs.Runs.SyncTrace.{first_given, needed_ending}
use Rattle.machine_model.specs.Runs.Trace.{start}
use Rattle.machine_lemmas.proofs.DeviceServings.{dropped_links}
use Rattle.journal_laws.proofs.Needed.{queued_given}
use Rattle.way_lemmas.specs.Ways.{IsGoodMessage}
use Rattle.way_lemmas.proofs.Sounds.{arrived_sound, good_messages, good_waiting, needs_sound, start_sound, went_sound}
use Rattle.way_lemmas.proofs.Sync.{arrived_syncs, needs_syncs, needs_to, start_syncs, went_syncs}
use Rattle.way_lemmas.proofs.SyncLinks.{followed_links, worked_links}
use Rattle.world_laws.specs.Sound.{Each}
use Rattle.world_laws.proofs.Arrivals.{has_arrived}
use Rattle.world_laws.proofs.DeviceWalk.{dispatched_keeps}
use Rattle.tk_gen.specs.Objects.{the_device}
use Rattle.tk_gen.specs.Serving.{IsServedBy, link_of, links_of}
use Rattle.tk_gen.proofs.Scripts.{devices_are, runnable}

-- ---- what a step comes to

abbrev OfWent : (Event → Type 0) → Pace → Type 0
OfWent Q (Went event over) = Q event
OfWent Q (Needs waiting) = Unit {0}
OfWent Q Ends = Unit {0}

-- what is done at a step, which counts
abbrev pub done_at : Script → State → Event
done_at script st = let work : Event = worked script modes.Sync (st.steps + 1) st in record work { state = record work.state { steps = st.steps + 1 } }

ended_went : (Q : Event → Type 0) (over : Bool) (script : Script) (budget : ℕ) (st : State) → Q (done_at script st) → OfWent Q (ended_or_went over script modes.Sync budget st)
unfolding counted
ended_went Q true script budget st works = tt
ended_went Q false script budget st works = works

needed_went : (Q : Event → Type 0) (waiting : Option State) (event : Bool) (script : Script) (budget : ℕ) (st : State) → Q (done_at script st) →
    OfWent Q (needed_or waiting event script modes.Sync budget st)
needed_went Q (Some waiting) event script budget st works = tt
needed_went Q None event script budget st works = ended_went Q (not event && not (any_unfinished st.objects.devices)) script budget st works

quiet_went : (Q : Event → Type 0) (quiet : Bool) (script : Script) (budget : ℕ) (st : State) → Q (done_at script st) → OfWent Q (step_if quiet script modes.Sync budget st)
quiet_went Q true script budget st works = let set : Bool = has_event script (st.steps + 1) st in needed_went Q (needed modes.Sync set st) set script budget st works
quiet_went Q false script budget st works = ended_went Q false script budget st works

pub went_to : (Q : Event → Type 0) (script : Script) (budget : ℕ) (st : State) (event : Event) (over : Option End) → step script modes.Sync budget st ≡ Went event over →
    Q (done_at script st) → Q event
unfolding step
went_to Q script budget st event over is works = subst (OfWent Q) is (quiet_went Q (is_quiet st) script budget st works)

-- ---- one device

none_with : (dv : Devices) (core : Core) (number : ℕ) → dv.links ≡ links_of (link_of core number None) → any_given dv ≡ false
none_with dv core number is = ap (λ (links : List (Option Link)). list_any has_given links) is

few_with : (dv : Devices) (link : Link) → dv.links ≡ links_of link → length dv.links ≤ 9
few_with dv link is = subst (λ (links : List (Option Link)). length links ≤ 9) (sym is) (omega arith)

-- its link without the messages that were taken
taken_links : (dv : Devices) (link : Link) → dv.links ≡ links_of link → (emptied dv).links ≡ links_of (record link { out = [] })
unfolding emptied
taken_links dv link is = ap (λ (links : List (Option Link)). map link_emptied links) is

out_with : (dv : Devices) (link : Link) (out : List Message) → dv.links ≡ links_of link → link.out ≡ out → out ++ [] ≡ out → messages dv ≡ out
unfolding messages
out_with dv link out is same none = ap (λ (links : List (Option Link)). messages (record dv { links = links })) is ∙ (ap (λ (xs : List Message). xs ++ []) same ∙ none)

-- ---- a step that is done

went_links : (script : Script) (budget : ℕ) (st : State) (event : Event) (over : Option End) (core : Core) → IsServedBy script st core None → step script modes.Sync budget st ≡ Went event over →
    event.state.objects.devices.links ≡ st.objects.devices.links
went_links script budget st event over core served is =
    went_to (λ done. done.state.objects.devices.links ≡ st.objects.devices.links) script budget st event over is
    (worked_links script (st.steps + 1) st (few_with st.objects.devices _ served.links) (none_with st.objects.devices core served.number served.links))

-- the driver is free, still, and no message is for it
pub went_served : (script : Script) (budget : ℕ) (st : State) (event : Event) (over : Option End) (core : Core) → IsServedBy script st core None → step script modes.Sync budget st ≡ Went event over →
    IsServedBy script (taken event.state) core None
went_served script budget st event over core served is = record {
  syncs = went_syncs script budget st event over served.syncs is;
  sound = went_sound script modes.Sync budget st event over is served.sound;
  number = served.number;
  links = taken_links event.state.objects.devices (link_of core served.number None) (went_links script budget st event over core served is ∙ served.links);
  device = served.device;
  free = served.free;
}

pub went_silent : (script : Script) (budget : ℕ) (st : State) (event : Event) (over : Option End) (core : Core) → IsServedBy script st core None → step script modes.Sync budget st ≡ Went event over →
    messages event.state.objects.devices ≡ []
went_silent script budget st event over core served is =
    out_with event.state.objects.devices (link_of core served.number None) [] (went_links script budget st event over core served is ∙ served.links) refl refl

-- ---- a request goes to the driver

-- these devices have handed a request to the driver
pub record HasHanded (core : Core) (number : ℕ) (dv : Devices) : Type 0 where
  pub request : Request
  pub links : dv.links ≡ links_of (link_handed 1 (link_of core number None) request)

none_handed : (dv : Devices) (core : Core) (number : ℕ) → dv.links ≡ links_of (link_of core number None) → any_given dv ≡ true → HasHanded core number dv
none_handed dv core number is some = let none = none_with dv core number is in absurd (cc (none, some))

row_hands : (dv : Devices) (core : Core) (number id : ℕ) (slot : Option Row) → dv.links ≡ links_of (link_of core number None) →
    any_given (handed_row dv 1 (link_of core number None) id slot) ≡ true → HasHanded core number (handed_row dv 1 (link_of core number None) id slot)
row_hands dv core number id None is some = none_handed dv core number is some
row_hands dv core number id (Some row) is some =
    let request : Request = request_of id (number + 1) row in
    record { request = request; links = ap (λ (links : List (Option Link)). slice_set links 1 (Some (link_handed 1 (link_of core number None) request))) is }

first_hands : (dv : Devices) (core : Core) (number : ℕ) (first : Option ℕ) → dv.links ≡ links_of (link_of core number None) →
    any_given (handed_first dv 1 (link_of core number None) first) ≡ true → HasHanded core number (handed_first dv 1 (link_of core number None) first)
first_hands dv core number None is some = none_handed dv core number is some
first_hands dv core number (Some id) is some = row_hands dv core number id (row_at dv id) is some

handed_is : (dv : Devices) (core : Core) (number : ℕ) → dv.links ≡ links_of (link_of core number None) → handed dv 1 ≡ handed_first dv 1 (link_of core number None) (first_queued dv 1)
unfolding handed
handed_is dv core number is = ap (λ (links : List (Option Link)). handed_link dv 1 (entry links 1)) is

handed_hands : (dv : Devices) (core : Core) (number : ℕ) → dv.links ≡ links_of (link_of core number None) → any_given (handed dv 1) ≡ true → HasHanded core number (handed dv 1)
handed_hands dv core number is some =
    let goes = handed_is dv core number is in
    subst (HasHanded core number) (sym goes) (first_hands dv core number (first_queued dv 1) is (ap any_given (sym goes) ∙ some))

one_hands : (dv : Devices) (core : Core) (number : ℕ) (waits : Bool) → dv.links ≡ links_of (link_of core number None) → any_given (handed_one (cond waits (Some 1) None) dv) ≡ true →
    HasHanded core number (handed_one (cond waits (Some 1) None) dv)
one_hands dv core number false is some = none_handed dv core number is some
one_hands dv core number true is some = handed_hands dv core number is some

hand_is : (dv : Devices) (core : Core) (number : ℕ) → dv.links ≡ links_of (link_of core number None) → hand_first dv ≡ handed_one (cond (is_some (first_queued dv 1)) (Some 1) None) dv
unfolding hand_first
hand_is dv core number is = ap (λ (links : List (Option Link)). handed_one (find (λ d. is_some (first_queued dv d)) (taken_from 1 (drop 1 links))) dv) is

hand_hands : (dv : Devices) (core : Core) (number : ℕ) → dv.links ≡ links_of (link_of core number None) → any_given (hand_first dv) ≡ true → HasHanded core number (hand_first dv)
hand_hands dv core number is some =
    let goes = hand_is dv core number is in
    subst (HasHanded core number) (sym goes) (one_hands dv core number (is_some (first_queued dv 1)) is (ap any_given (sym goes) ∙ some))

-- where an ending is needed, a request was handed over
needs_hands : (script : Script) (budget : ℕ) (st waiting : State) (core : Core) (served : IsServedBy script st core None) → step script modes.Sync budget st ≡ Needs waiting →
    HasHanded core served.number waiting.objects.devices
needs_hands script budget st waiting core served is =
    needs_to (λ (now : State). HasHanded core served.number now.objects.devices) script budget st waiting is
    (λ quiet given. none_handed st.objects.devices core served.number served.links given)
    (λ quiet none some. hand_hands st.objects.devices core served.number served.links (queued_given st.objects.devices served.syncs.drivers.fit.linked none some))

-- the request of the driver, for which an ending is needed, and the message that brings it
pub record IsAsked (script : Script) (waiting : State) (core : Core) : Type 0 where
  pub request : Request
  pub whole : IsWhole request
  pub messages_are : messages waiting.objects.devices ≡ message.Serve 1 request ∷ []
  pub served : IsServedBy script (taken waiting) core (Some (record { request = request; asked = false }))

pub needs_asked : (script : Script) (budget : ℕ) (st waiting : State) (core : Core) → IsServedBy script st core None → step script modes.Sync budget st ≡ Needs waiting → IsAsked script waiting core
needs_asked script budget st waiting core served is =
    let handed = needs_hands script budget st waiting core served is in
    let link : Link = link_handed 1 (link_of core served.number None) handed.request in
    let out : messages waiting.objects.devices ≡ message.Serve 1 handed.request ∷ [] = out_with waiting.objects.devices link (message.Serve 1 handed.request ∷ []) handed.links refl refl in
    let good = good_messages (length script.devices) waiting.objects.devices (good_waiting script modes.Sync budget st waiting is served.sound) in
    let one : IsGoodMessage (length script.devices) (message.Serve 1 handed.request) = (subst (λ (ms : List Message). Each (IsGoodMessage (length script.devices)) ms) out good).0 in
    record {
      request = handed.request;
      whole = one.rest;
      messages_are = out;
      served = record {
        syncs = needs_syncs script budget st waiting served.syncs is;
        sound = needs_sound script modes.Sync budget st waiting is served.sound;
        number = served.number + 1;
        links = taken_links waiting.objects.devices link handed.links;
        device = served.device;
        free = served.free;
      };
    }

-- ---- the ending that is needed

-- what the unit makes of the request
abbrev pub ending_by : Core → Request → Ending
ending_by core request = ending_of core.device request Done (unit core.kind core.store request)

-- the driver once it served the request
abbrev pub core_after : Core → Request → Core
core_after core request = record core { store = (unit core.kind core.store request).store; taken = core.taken + 1 }

-- the ending of the device that has the first request, by the links
needed_by : (dv : Devices) (link : Link) (given : Given) → dv.links ≡ links_of link → link.given ≡ Some given →
    expected dv (first_given dv) Done ≡ Some (ending_of 1 given.request Done (unit link.kind link.store given.request))
unfolding expected at_driver
needed_by dv link given is has =
    let seen : List (Option Link) → Option Ending = λ links.
    let d : ℕ = unwrap_or (find (λ (i : ℕ). is_some (request_in (given_in (entry links i)))) (taken_from 1 (drop 1 links))) 0 in
    expected_link d Done (entry links d)
    in
    let seen_with : Option Given → Option Ending = λ had. seen (links_of (record link { given = had })) in
    ap seen is ∙ ap seen_with has

-- it is that of the request done whole
pub needed_whole : (script : Script) (st : State) (core : Core) (request : Request) → IsServedBy script st core (Some (record { request = request; asked = false })) →
    needed_ending st ≡ Some (ending_by core request)
needed_whole script st core request served =
    needed_by st.objects.devices (link_of core served.number (Some (record { request = request; asked = false }))) (record { request = request; asked = false }) served.links refl
    ∙ ap (λ (d : ℕ). Some (ending_of d request Done (unit core.kind core.store request))) (sym served.device)

-- ---- the ending arrives

-- how many messages were taken plays no part
fit_taken : (fit : Bool) (p : DevParts) (e : Ending) (n : ℕ) (link : Link) (given : Given) → arrive_fit fit p (record e { taken = n }) link given ≡ arrive_fit fit p e link given
fit_taken false p e n link given = refl
fit_taken true p e n link given = refl

given_taken : (p : DevParts) (e : Ending) (n : ℕ) (link : Link) (given : Option Given) → arrive_given p (record e { taken = n }) link given ≡ arrive_given p e link given
given_taken p e n link None = refl
given_taken p e n link (Some given) = fit_taken (is_fit e link given) p e n link given

link_taken : (p : DevParts) (e : Ending) (n : ℕ) (slot : Option Link) → arrive_link p (record e { taken = n }) slot ≡ arrive_link p e slot
link_taken p e n None = refl
link_taken p e n (Some link) = given_taken p e n link link.given

arrive_taken : (p : DevParts) (e : Ending) (n : ℕ) → arrive p (record e { taken = n }) ≡ arrive p e
unfolding arrive
arrive_taken p e n = link_taken p e n (link_at p.table e.device)

arrived_taken : (script : Script) (st : State) (core : Core) (request : Request) (n : ℕ) →
    arrived script modes.Sync st (record (ending_by core request) { taken = n }) ≡ arrived script modes.Sync st (ending_by core request)
unfolding arrived
arrived_taken script st core request n =
    ap (λ (parts : Option DevParts). option_map (after_arrival script modes.Sync (st.steps + 1) st (ending_by core request)) parts)
    (arrive_taken (dev_parts (parts_of st)) (ending_by core request) n)

either_links : (dv one : Devices) (test : Bool) → one.links ≡ dv.links → (if test then one else dv).links ≡ dv.links
either_links dv one true same = same
either_links dv one false same = refl

free_links : (waiters : List ℕ) (dv : Devices) (dd : ℕ) → (free_unless waiters dv dd).links ≡ dv.links
free_links [] dv dd = refl
free_links (t ∷ ts) dv dd = refl

closed_by : (b : Base) (dv : Devices) (id dd : ℕ) (slot : Option Opened) → (closed_after b dv id dd slot).links ≡ dv.links
closed_by b dv id dd None = refl
closed_by b dv id dd (Some opened) = either_links dv _ opened.closing (free_links _ (dropped dv id) dd ∙ dropped_links dv id)

closed_links : (b : Base) (dv : Devices) (id dd : ℕ) → (closed b dv id dd).links ≡ dv.links
closed_links b dv id dd = closed_by b dv id dd (opened_at dv dd)

link_is : (slot : Option Link) (one other : Link) → slot ≡ Some one → slot ≡ Some other → one ≡ other
link_is slot one other is also = cc (is, also)

given_is : (slot : Option Given) (one other : Given) → slot ≡ Some one → slot ≡ Some other → one ≡ other
given_is slot one other is also = cc (is, also)

-- the driver has no request any more, and its unit holds what the request left
ended_links : (p q : DevParts) (core : Core) (request : Request) (number : ℕ) → core.device ≡ 1 →
    p.table.links ≡ links_of (link_of core number (Some (record { request = request; asked = false }))) → arrive p (ending_by core request) ≡ Some q →
    q.table.links ≡ links_of (link_of (core_after core request) number None)
ended_links p q core request number device is comes =
    let given : Given = record { request = request; asked = false } in
    let link : Link = link_of core number (Some given) in
    let a = has_arrived p q (ending_by core request) comes in
    let at : link_at p.table core.device ≡ Some link = ap (λ (d : ℕ). link_at p.table d) device ∙ ap (λ (links : List (Option Link)). entry links 1) is in
    let same : a.link ≡ link = link_is (link_at p.table core.device) a.link link a.linked at in
    let has : a.given ≡ given = given_is a.link.given a.given given a.has (ap (λ (l : Link). l.given) same) in
    let put : List (Option Link) → ℕ → Link → Given → List (Option Link) = λ links d l g.
    slice_set links d (Some (record l { store = (unit l.kind l.store g.request).store; given = None }))
    in
    ap (λ (dv : Devices). dv.links) (sym a.is)
    ∙ (closed_links p.base _ a.given.request.id a.row.descriptor
    ∙ (ap (λ (links : List (Option Link)). put links core.device a.link a.given) is
    ∙ (ap (λ (d : ℕ). put (links_of link) d a.link a.given) device
    ∙ (ap (λ (l : Link). put (links_of link) 1 l a.given) same
    ∙ ap (λ (g : Given). put (links_of link) 1 link g) has))))

-- the ending arrives, and the driver is free again
pub record IsServing (script : Script) (st : State) (core : Core) (request : Request) : Type 0 where
  pub event : Event
  pub arrives : arrived script modes.Sync st (ending_by core request) ≡ Some event
  pub silent : messages event.state.objects.devices ≡ []
  pub served : IsServedBy script (taken event.state) (core_after core request) None

comes_serving : (script : Script) (st : State) (core : Core) (request : Request) (served : IsServedBy script st core (Some (record { request = request; asked = false }))) (q : DevParts) →
    arrive (dev_parts (parts_of st)) (ending_by core request) ≡ Some q → arrived script modes.Sync st (ending_by core request) ≡ Some (after_arrival script modes.Sync (st.steps + 1) st (ending_by core request) q) →
    IsServing script st core request
comes_serving script st core request served q comes is =
    let event : Event = after_arrival script modes.Sync (st.steps + 1) st (ending_by core request) q in
    let now : State = with_parts st (with_devices (parts_of st) q) in
    let link : Link = link_of (core_after core request) served.number None in
    let ended : q.table.links ≡ links_of link = ended_links (dev_parts (parts_of st)) q core request served.number served.device served.links comes in
    let follows : event.state.objects.devices.links ≡ links_of link =
    followed_links script (st.steps + 1) now (few_with now.objects.devices link ended) (none_with now.objects.devices (core_after core request) served.number ended) ∙ ended in
    record {
      event = event;
      arrives = is;
      silent = out_with event.state.objects.devices link [] follows refl refl;
      served = record {
        syncs = arrived_syncs script 0 st (ending_by core request) event served.syncs is;
        sound = arrived_sound script modes.Sync st (ending_by core request) event is served.sound;
        number = served.number;
        links = taken_links event.state.objects.devices link follows;
        device = served.device;
        free = record {
          given = served.free.given;
          blocks = served.free.blocks;
          turns = served.free.turns;
          content = served.free.content;
          ready = served.free.ready;
          going = served.free.going;
          quick = served.free.quick;
        };
      };
    }

some_serving : (script : Script) (st : State) (core : Core) (request : Request) → IsServedBy script st core (Some (record { request = request; asked = false })) → (parts : Option DevParts) →
    arrive (dev_parts (parts_of st)) (ending_by core request) ≡ parts → is_some parts ≡ true → IsServing script st core request
unfolding arrived
some_serving script st core request served None comes some = absurd (cc some)
some_serving script st core request served (Some q) comes some =
    comes_serving script st core request served q comes
    (ap (λ (parts : Option DevParts). option_map (after_arrival script modes.Sync (st.steps + 1) st (ending_by core request)) parts) comes)

pub serves : (script : Script) (st : State) (core : Core) (request : Request) → IsServedBy script st core (Some (record { request = request; asked = false })) → IsServing script st core request
serves script st core request served =
    some_serving script st core request served (arrive (dev_parts (parts_of st)) (ending_by core request)) refl
    (expected_arrives (dev_parts (parts_of st)) (first_given st.objects.devices) Done (ending_by core request) 0 (ending_by core request).bytes.room served.syncs.drivers.fit.tied
    (needed_whole script st core request served))

-- the same however many messages the driver has taken
pub serves_taken : (script : Script) (st : State) (core : Core) (request : Request) (n : ℕ) (it : IsServing script st core request) →
    arrived script modes.Sync st (record (ending_by core request) { taken = n }) ≡ Some it.event
serves_taken script st core request n it = arrived_taken script st core request n ∙ it.arrives

-- ---- the start

start_links : (script : Script) → (start script).state.objects.devices.links ≡ None ∷ map link_start script.devices
unfolding start state_start devices_start
start_links script = dispatched_keeps (λ (dv : Devices). dv.links ≡ None ∷ map link_start script.devices) 0 (state_start script) refl

-- the driver that begins with nothing
pub start_served : (number : ℕ) (core : Core) → core ≡ core_start 1 the_device.kind → IsServedBy (generated number) (start (generated number)).state core None
start_served number core is =
    let script : Script = generated number in
    let begun : Core = core_start 1 the_device.kind in
    subst (λ (one : Core). IsServedBy script (start script).state one None) (sym is)
    (record {
      syncs = start_syncs script (runnable number);
      sound = start_sound script;
      number = 0;
      links = start_links script ∙ ap (λ (devices : List Device). None ∷ map link_start devices) (devices_are number);
      device = refl;
      free = record { given = refl; blocks = refl; turns = refl; content = refl; ready = refl; going = refl; quick = refl };
    })
