-- What each event makes of a machine and the fleet that follows it.
use Rattle.std.proofs.Common.{◌≡◌, ℕ, suc, ◌+◌, ◌≤◌, ◌<◌, ◌⊎◌, inl, inr, Bool, true, false, cond, List, [], ◌∷◌, ◌++◌, length, Option, Some, None, refl, ap, sym, subst, ◌∙◌, arith}
use Rattle.std.specs.Prelude.{leb, slice_get}
use Rattle.std.specs.Option.{option_map}
use Rattle.std.proofs.lemmas.List.{append-nil, length-append, length-map}
use Rattle.tk_types.specs.declared.line.Line.{Line}
use Rattle.tk_types.specs.declared.run.Mode.{Mode}
use Rattle.tk_types.specs.declared.run.Mode.TheVariants as modes
use Rattle.tk_types.specs.declared.script.Script.{Script}
use Rattle.kernel_model.specs.Bodies.Statements.{IsRunnable}
use Rattle.device_model.specs.declared.messages.Ending.{Ending}
use Rattle.device_model.specs.declared.messages.Message.{Message}
use Rattle.device_model.specs.Devices.Handing.{messages}
use Rattle.device_model.specs.Devices.Tables.{Devices}
use Rattle.tk_types.specs.declared.script.Kind.{Kind}
use Rattle.fleet_model.specs.Channels.{Channel, flushed, marked, with_ending, with_message}
use Rattle.fleet_model.specs.Fleets.{EachHasPlace, Fleet, Handed, HasPlace, IsOfFleet, Polled, Waited, after_drop, all_flushed, channel_in, counted, device_of, fleet_start, may_accept, most_counted}
use Rattle.machine_model.specs.States.State.{State}
use Rattle.machine_model.specs.Events.Follow.{Event}
use Rattle.machine_model.specs.Events.Arrivals.{arrived}
use Rattle.machine_model.specs.Runs.Machine.{Machine, after_arrive, after_pace, new_machine, with_event}
use Rattle.machine_model.specs.Runs.Step.{Needs, Went, step}
use Rattle.machine_model.specs.Runs.Trace.{named_ending, start}
use Rattle.run_model.specs.Passings.{Takes, gives}
use Rattle.run_model.specs.SoFar.{IsSoFar, NeedsOne, SoFar, after_ending, after_event, after_need, begins, entry_before, first_so_far, goes_on, messages_for, needs, takes_in}
use Rattle.count_lemmas.proofs.Steps.{start_unstepped, step_steps}
use Rattle.fleet_lemmas.specs.Follows.{Follows, kinds_of}
use Rattle.fleet_lemmas.proofs.Channels.{kinds_changed, kinds_flushed, kinds_start}
use Rattle.fleet_lemmas.proofs.Follows.{follows_dropped, follows_given, follows_handed, follows_polled, follows_start, follows_taken, follows_waited}
use Rattle.run_lemmas.proofs.Naming.{fit_is_named}
use Rattle.run_lemmas.proofs.Needing.{needs_steps}
use Rattle.run_lemmas.proofs.Onward.{arrived_steps, steps_left}
use Rattle.way_lemmas.specs.Ways.{EachWay, EachWayWith, IsGoodMessage, Way}
use Rattle.way_lemmas.proofs.Channels.{drop_way, handed_way, polled_way, waited_way, way_places, with_none}
use Rattle.way_lemmas.proofs.Ways.{way_few}
use Rattle.way_lemmas.proofs.Fleets.{accepted_none, drop_many, each_goes_on, each_needs, each_start, each_takes_in, fleet_many, handed_many, next_placed, polled_many, waited_many}
use Rattle.way_lemmas.proofs.Sounds.{Sound, sound_so_far}
use Rattle.way_lemmas.proofs.Sync.{sync_named}
use Rattle.way_lemmas.proofs.Waiting.{messages_fit}
use Rattle.world_laws.specs.Sound.{Each}
use Rattle.turn_lemmas.specs.Going.{Coming, Going, Hands, MayHand, going}

-- ---- what waits

behind_none : (d : ℕ) (waiting : List Message) → waiting ++ messages_for d [] ≡ waiting
unfolding messages_for
behind_none d waiting = append-nil waiting

-- without messages that are left, what waits at each channel alone
pub ways_alone : (st : State) (channels : List Channel) → EachWay st.objects.devices channels → EachWayWith st.objects.devices channels []
ways_alone st channels ways d channel is = subst (Way st.objects.devices d) (sym (behind_none d channel.waiting)) (ways d channel is)

pub ways_of : (st : State) (channels : List Channel) → EachWayWith st.objects.devices channels [] → EachWay st.objects.devices channels
ways_of st channels ways = with_none st.objects.devices channels ways

pub kinds_many : (one other : List Channel) → kinds_of one ≡ kinds_of other → length one ≡ length other
kinds_many one other same =
    sym (length-map one (λ (c : Channel). c.kind)) ∙ (ap (λ (ks : List Kind). length ks) same ∙ length-map other (λ (c : Channel). c.kind))

-- ---- the start

pub coming_start : (script : Script) (mode : Mode) (budget : ℕ) → Coming script mode budget (first_so_far script) (start script).lines [] None 0 (new_machine script mode budget) (fleet_start script.devices)
coming_start script mode budget = record {
  so_far = begins;
  machine_is = refl;
  follows = follows_start script.devices;
  ways = ways_alone (start script).state (fleet_start script.devices).channels (each_start script);
  good = tt;
  kinds = kinds_start script.devices;
  many = fleet_many script.devices;
  polls = omega (arith, start_unstepped script);
}

-- ---- a step

sound_of : (script : Script) (mode : Mode) (budget : ℕ) (so : SoFar) → IsSoFar script mode budget so → Sound script so.state.objects.devices
sound_of script mode budget so is = sound_so_far script mode budget so is

pub good_of : (n m : ℕ) (ms : List Message) → n ≡ m → Each (IsGoodMessage m) ms → Each (IsGoodMessage n) ms
good_of n m ms same good = subst (λ (k : ℕ). Each (IsGoodMessage k) ms) (sym same) good

pub went_comes : (script : Script) (mode : Mode) (budget : ℕ) (so : SoFar) (pending : Option Ending) (machine new : Machine) (fleet : Fleet) (event : Event) →
    Going script mode budget so pending 1 machine fleet → step script mode budget so.state ≡ Went event None → new ≡ after_pace machine (Went event None) →
    Coming script mode budget (after_event so event) event.lines (messages event.state.objects.devices) pending 0 new fleet
went_comes script mode budget so pending machine new fleet event g is made =
    let steps : event.state.steps ≡ so.state.steps + 1 = step_steps script mode budget so.state event None is in
    record {
      so_far = goes_on g.so_far is;
      machine_is = made ∙ ap (λ (m : Machine). with_event m event) g.machine_is;
      follows = follows_given so.passings (length so.entries) (messages event.state.objects.devices) pending fleet g.follows;
      ways = each_goes_on script mode budget so.state event None fleet.channels is (sound_of script mode budget so g.so_far) (ways_of so.state fleet.channels g.ways);
      good = good_of (length fleet.channels) (length script.devices) (messages event.state.objects.devices) g.many ((messages_fit script mode budget so g.so_far).went event None is);
      kinds = g.kinds;
      many = g.many;
      polls = omega (arith, steps, g.polls);
    }

pub needs_comes : (script : Script) (mode : Mode) (budget : ℕ) (so : SoFar) (pending : Option Ending) (more : ℕ) (machine new : Machine) (fleet : Fleet) (waiting : State) →
    Going script mode budget so pending more machine fleet → step script mode budget so.state ≡ Needs waiting → new ≡ after_pace machine (Needs waiting) →
    Coming script mode budget (after_need so waiting) [] (messages waiting.objects.devices) pending more new fleet
needs_comes script mode budget so pending more machine new fleet waiting g is made =
    let steps : waiting.steps ≡ so.state.steps = needs_steps script mode budget so.state waiting is in
    record {
      so_far = needs g.so_far is;
      machine_is = made ∙ ap (λ (m : Machine). after_pace m (Needs waiting)) g.machine_is;
      follows = follows_given so.passings (length so.entries) (messages waiting.objects.devices) pending fleet g.follows;
      ways = each_needs script mode budget so.state waiting fleet.channels is (sound_of script mode budget so g.so_far) (ways_of so.state fleet.channels g.ways);
      good = good_of (length fleet.channels) (length script.devices) (messages waiting.objects.devices) g.many ((messages_fit script mode budget so g.so_far).needs waiting is);
      kinds = g.kinds;
      many = g.many;
      polls = omega (arith, steps, g.polls);
    }

-- ---- an ending is taken in

-- an ending that a machine takes arrives by an event
pub record Arrives (script : Script) (mode : Mode) (st : State) (machine new : Machine) (e : Ending) : Type 0 where
  pub event : Event
  pub comes : arrived script mode st e ≡ Some event
  pub made : new ≡ with_event machine event

mapped : (machine new : Machine) (script : Script) (mode : Mode) (st : State) (e : Ending) (comes : Option Event) → arrived script mode st e ≡ comes → option_map (with_event machine) comes ≡ Some new →
    Arrives script mode st machine new e
mapped machine new script mode st e None is made = absurd (cc made)
mapped machine new script mode st e (Some event) is made = let same : with_event machine event ≡ new = cc made in record { event = event; comes = is; made = sym same }

pub arrives : (script : Script) (mode : Mode) (budget : ℕ) (st : State) (machine new : Machine) (e : Ending) → machine ≡ going script mode budget st → after_arrive machine e ≡ Some new → Arrives script mode st machine new e
arrives script mode budget st machine new e is made =
    let there : after_arrive (going script mode budget st) e ≡ Some new = subst (λ (m : Machine). after_arrive m e ≡ Some new) is made in
    let a = mapped (going script mode budget st) new script mode st e (arrived script mode st e) refl there in
    record { event = a.event; comes = a.comes; made = a.made ∙ ap (λ (m : Machine). with_event m a.event) (sym is) }

-- what was taken in, and what follows
pub record TakenIn (script : Script) (mode : Mode) (budget : ℕ) (so : SoFar) (more : ℕ) (new : Machine) (fleet : Fleet) : Type 0 where
  pub named : Ending
  pub event : Event
  pub coming : Coming script mode budget (after_ending so named event) event.lines (messages event.state.objects.devices) None more new fleet

-- in sync mode an ending is fit only where one is needed
may_arrive : (script : Script) (mode : Mode) (budget : ℕ) (so : SoFar) (named : Ending) → IsRunnable script → IsSoFar script mode budget so → named_ending so.state (entry_before (so.state.steps + 1) named) ≡ Some named →
    (mode ≡ modes.Free) ⊎ NeedsOne script mode budget so.state
may_arrive script modes.Free budget so named runnable is names = inl refl
may_arrive script modes.Sync budget so named runnable is names = inr (record { waiting = so.state; is = (sync_named script budget so named runnable is names).now })

pub takes_coming : (script : Script) (mode : Mode) (budget : ℕ) (so : SoFar) (more : ℕ) (machine new : Machine) (fleet : Fleet) (e : Ending) → IsRunnable script → Going script mode budget so (Some e) more machine fleet →
    may_accept fleet e ≡ true → after_arrive machine e ≡ Some new → TakenIn script mode budget so more new fleet
takes_coming script mode budget so more machine new fleet e runnable g accepts made =
    let a = arrives script mode budget so.state machine new e g.machine_is made in
    let n = fit_is_named script mode so.state e a.event a.comes in
    let steps : a.event.state.steps ≡ so.state.steps = arrived_steps script mode so.state e a.event a.comes in
    record {
      named = n.named;
      event = a.event;
      coming = record {
        so_far = takes_in g.so_far (may_arrive script mode budget so n.named runnable g.so_far n.itself) n.itself n.arrives;
        machine_is = a.made ∙ ap (λ (m : Machine). with_event m a.event) g.machine_is;
        follows = subst (λ (count : ℕ). Follows (so.passings ++ Takes n.named ∷ gives a.event.state) count (messages a.event.state.objects.devices) None fleet)
            (sym (length-append so.entries (entry_before (so.state.steps + 1) n.named ∷ [])))
            (follows_taken so.passings (length so.entries) e n.named (messages a.event.state.objects.devices) fleet accepts n.same g.follows);
        ways = each_takes_in script mode so.state e a.event fleet.channels a.comes (accepted_none fleet e accepts) (sound_of script mode budget so g.so_far) (ways_of so.state fleet.channels g.ways);
        good = good_of (length fleet.channels) (length script.devices) (messages a.event.state.objects.devices) g.many ((messages_fit script mode budget so g.so_far).comes e a.event a.comes);
        kinds = g.kinds;
        many = g.many;
        polls = omega (arith, steps, g.polls);
      };
    }

-- ---- an ending is dropped

pub drops_going : (script : Script) (mode : Mode) (budget : ℕ) (so : SoFar) (more : ℕ) (machine : Machine) (fleet : Fleet) (e : Ending) → Going script mode budget so (Some e) more machine fleet →
    Going script mode budget so None more machine (after_drop fleet e.device)
drops_going script mode budget so more machine fleet e g = record {
  so_far = g.so_far;
  machine_is = g.machine_is;
  follows = follows_dropped so.passings (length so.entries) e fleet g.follows;
  ways = ways_alone so.state (after_drop fleet e.device).channels (drop_way so.state.objects.devices fleet e.device (ways_of so.state fleet.channels g.ways));
  good = tt;
  kinds = kinds_changed marked fleet.channels e.device (λ c. refl) ∙ g.kinds;
  many = drop_many fleet e.device ∙ g.many;
  polls = g.polls;
}

-- ---- the fleet is asked for an ending

waited_kinds : (old new : Fleet) (ending : Option Ending) → Waited old new ending → kinds_of new.channels ≡ kinds_of old.channels
waited_kinds old new None w = ap (λ (f : Fleet). kinds_of f.channels) w.is ∙ kinds_flushed w.counts old.channels
waited_kinds old new (Some e) w = ap (λ (f : Fleet). kinds_of f.channels) w.is ∙ (kinds_changed (with_ending e) (all_flushed w.counts old.channels) e.device (λ c. refl) ∙ kinds_flushed w.counts old.channels)

polled_kinds : (old new : Fleet) (ending : Option Ending) → Polled old new ending → kinds_of new.channels ≡ kinds_of old.channels
polled_kinds old new None p = ap (λ (f : Fleet). kinds_of f.channels) p.is ∙ kinds_flushed p.counts old.channels
polled_kinds old new (Some e) p = ap (λ (f : Fleet). kinds_of f.channels) p.is ∙ (kinds_changed (with_ending e) (all_flushed p.counts old.channels) e.device (λ c. refl) ∙ kinds_flushed p.counts old.channels)

pub waits_going : (script : Script) (mode : Mode) (budget : ℕ) (so : SoFar) (more : ℕ) (machine : Machine) (old new : Fleet) (ending : Option Ending) → Waited old new ending → IsOfFleet old ending →
    Going script mode budget so None more machine old → Going script mode budget so ending more machine new
waits_going script mode budget so more machine old new ending w is g =
    let polls : new.polls ≡ old.polls = ap (λ (f : Fleet). f.polls) w.is in
    record {
      so_far = g.so_far;
      machine_is = g.machine_is;
      follows = follows_waited so.passings (length so.entries) old new ending w is g.follows;
      ways = ways_alone so.state new.channels (waited_way so.state.objects.devices old new ending w (ways_of so.state old.channels g.ways));
      good = tt;
      kinds = waited_kinds old new ending w ∙ g.kinds;
      many = waited_many old new ending w ∙ g.many;
      polls = omega (arith, polls, g.polls);
    }

more_polls : (steps polls : ℕ) → steps ≤ polls → steps < 1000000 → steps + 1 ≤ counted (polls + 1)
more_polls steps polls is few = by (leb (polls + 1) most_counted)
  where
    by : (b : Bool) → steps + 1 ≤ cond b (polls + 1) most_counted
    by true = omega (arith, is)
    by false = omega (arith, few)

pub polls_going : (script : Script) (mode : Mode) (budget : ℕ) (so : SoFar) (machine : Machine) (old new : Fleet) (ending : Option Ending) → Polled old new ending → IsOfFleet old ending → 1 ≤ budget → budget ≤ 1000000 →
    Going script mode budget so None 0 machine old → Going script mode budget so ending 1 machine new
polls_going script mode budget so machine old new ending p is low high g =
    let polls : new.polls ≡ counted (old.polls + 1) = ap (λ (f : Fleet). f.polls) p.is in
    let below : so.state.steps < budget = steps_left script mode budget so low g.so_far in
    let more : so.state.steps + 1 ≤ counted (old.polls + 1) = more_polls so.state.steps old.polls (omega (arith, g.polls)) (omega (arith, below, high)) in
    record {
      so_far = g.so_far;
      machine_is = g.machine_is;
      follows = follows_polled so.passings (length so.entries) old new ending p is g.follows;
      ways = ways_alone so.state new.channels (polled_way so.state.objects.devices old new ending p (ways_of so.state old.channels g.ways));
      good = tt;
      kinds = polled_kinds old new ending p ∙ g.kinds;
      many = polled_many old new ending p ∙ g.many;
      polls = omega (arith, polls, more);
    }

-- a poll that isn't used by a step is one too many
pub fewer_going : (script : Script) (mode : Mode) (budget : ℕ) (so : SoFar) (pending : Option Ending) (machine : Machine) (fleet : Fleet) → Going script mode budget so pending 1 machine fleet → Going script mode budget so pending 0 machine fleet
fewer_going script mode budget so pending machine fleet g = record {
  so_far = g.so_far;
  machine_is = g.machine_is;
  follows = g.follows;
  ways = g.ways;
  good = g.good;
  kinds = g.kinds;
  many = g.many;
  polls = omega (arith, g.polls);
}

-- ---- messages are handed

pub hands_none : (fleet : Fleet) (ms : List Message) → Hands fleet ms fleet ms
hands_none fleet ms = record { follows = λ run count pending f. f; ways = λ dv ways. ways; kinds = refl; polls = refl }

handed_kinds : (old new : Fleet) (m : Message) → Handed old new m → kinds_of new.channels ≡ kinds_of old.channels
handed_kinds old new m h = ap (λ (f : Fleet). kinds_of f.channels) h.is ∙ kinds_changed (λ channel. flushed h.count (with_message m channel)) old.channels (device_of m) (λ c. refl)

pub hands_one : (first mid new : Fleet) (ms : List Message) (m : Message) (left : List Message) → HasPlace mid (device_of m) → Hands first ms mid (m ∷ left) → Handed mid new m → Hands first ms new left
hands_one first mid new ms m left place h handed = record {
  follows = λ run count pending f. follows_handed run count m left pending mid new handed (h.follows run count pending f);
  ways = λ dv ways. handed_way dv mid new m left place handed (h.ways dv ways);
  kinds = handed_kinds mid new m handed ∙ h.kinds;
  polls = ap (λ (f : Fleet). f.polls) handed.is ∙ h.polls;
}

-- the first of the messages that are left has a place, and those behind it have one once it was handed
pub first_placed : (fleet : Fleet) (m : Message) (ms : List Message) → MayHand fleet (m ∷ ms) → HasPlace fleet (device_of m)
first_placed fleet m ms may = next_placed may.devices fleet m ms may.ways (may.good.0.first, may.good.0.last)

pub later_placed : (old new : Fleet) (m : Message) (ms : List Message) → MayHand old (m ∷ ms) → Handed old new m → MayHand new ms
later_placed old new m ms may handed = record {
  devices = may.devices;
  ways = handed_way may.devices old new m ms (first_placed old m ms may) handed may.ways;
  good = good_of (length new.channels) (length old.channels) ms (handed_many old new m handed) may.good.1;
}

pub coming_may : (script : Script) (mode : Mode) (budget : ℕ) (so : SoFar) (lines : List Line) (ms : List Message) (pending : Option Ending) (more : ℕ) (machine : Machine) (fleet : Fleet) →
    Coming script mode budget so lines ms pending more machine fleet → MayHand fleet machine.messages
coming_may script mode budget so lines ms pending more machine fleet c =
    subst (MayHand fleet) (sym (ap (λ (m : Machine). m.messages) c.machine_is)) (record { devices = so.state.objects.devices; ways = c.ways; good = c.good })

-- once everything was taken and handed the run goes on
pub handed_going : (script : Script) (mode : Mode) (budget : ℕ) (so : SoFar) (lines : List Line) (ms : List Message) (pending : Option Ending) (more : ℕ) (machine new : Machine) (old fleet : Fleet) →
    Coming script mode budget so lines ms pending more machine old → Hands old ms fleet [] → new ≡ record machine { lines = []; messages = [] } → Going script mode budget so pending more new fleet
handed_going script mode budget so lines ms pending more machine new old fleet c h made =
    let polls : fleet.polls ≡ old.polls = h.polls in
    record {
      so_far = c.so_far;
      machine_is = made ∙ ap (λ (m : Machine). record m { lines = []; messages = [] }) c.machine_is;
      follows = h.follows so.passings (length so.entries) pending c.follows;
      ways = h.ways so.state.objects.devices c.ways;
      good = tt;
      kinds = h.kinds ∙ c.kinds;
      many = kinds_many fleet.channels old.channels h.kinds ∙ c.many;
      polls = omega (arith, polls, c.polls);
    }

-- also while messages are left to be handed
few_before : (dv : Devices) (d : ℕ) (waiting later : List Message) → Way dv d (waiting ++ later) → length waiting ≤ 3
few_before dv d waiting later way = let few = way_few dv d (waiting ++ later) way in omega (arith, few, length-append waiting later)

places_of : (channels : List Channel) → ((i : ℕ) (channel : Channel) → slice_get channels i ≡ Some channel → length channel.waiting ≤ 3) → EachHasPlace channels
places_of [] few = tt
places_of (channel ∷ channels) few = (let less = few 0 channel refl in omega (arith, less), places_of channels (λ i. few (suc i)))

pub with_places : (dv : Devices) (channels : List Channel) (ms : List Message) → EachWayWith dv channels ms → EachHasPlace channels
unfolding channel_in
with_places dv channels ms ways = places_of channels (λ i channel is. few_before dv (suc i) channel.waiting (messages_for (suc i) ms) (ways (suc i) channel is))

pub coming_waits : (script : Script) (mode : Mode) (budget : ℕ) (so : SoFar) (lines : List Line) (ms : List Message) (pending : Option Ending) (more : ℕ) (machine : Machine) (fleet : Fleet) →
    Coming script mode budget so lines ms pending more machine fleet → EachHasPlace fleet.channels
coming_waits script mode budget so lines ms pending more machine fleet c = with_places so.state.objects.devices fleet.channels ms c.ways

-- while the run goes on each channel has a place for a Stop
pub going_places : (script : Script) (mode : Mode) (budget : ℕ) (so : SoFar) (pending : Option Ending) (more : ℕ) (machine : Machine) (fleet : Fleet) → Going script mode budget so pending more machine fleet → EachHasPlace fleet.channels
going_places script mode budget so pending more machine fleet g = way_places so.state.objects.devices fleet.channels (ways_of so.state fleet.channels g.ways)
