-- An ending that a run takes in arrives in the world, once the driver of its device has done what leads there.
use Rattle.std.proofs.Common.{◌≡◌, ℕ, ◌+◌, Bool, true, false, List, [], ◌∷◌, ◌++◌, map, Option, Some, None, refl, ap, sym, subst, ◌∙◌, arith}
use Rattle.std.specs.Prelude.{◌==◌, if◌then◌else◌, slice_set}
use Rattle.std.specs.Option.{is_some, option_map}
use Rattle.std.proofs.lemmas.Bool.Decides.{nat_tests}
use Rattle.std.proofs.lemmas.List.{append-nil, append_assoc, map-append}
use Rattle.tk_types.specs.declared.line.How.{How}
use Rattle.tk_types.specs.declared.line.How.TheVariants as hows
use Rattle.tk_types.specs.declared.line.Line.{Line}
use Rattle.tk_types.specs.declared.line.Line.TheVariants as line
use Rattle.tk_types.specs.declared.line.LineEnding.{LineEnding}
use Rattle.tk_types.specs.declared.run.Mode.{Mode}
use Rattle.tk_types.specs.declared.script.Script.{Script}
use Rattle.kernel_model.specs.Words.Orders.{entry}
use Rattle.kernel_lemmas.proofs.Tables.{entry_other, entry_there}
use Rattle.device_model.specs.declared.messages.Ending.{Ending}
use Rattle.device_model.specs.declared.messages.Message.{Message}
use Rattle.device_model.specs.Devices.Endings.{DevParts, arrive, arrive_fit, arrive_given, arrive_link, is_fit}
use Rattle.device_model.specs.Devices.Tables.{Given, Link, link_at}
use Rattle.driver_model.specs.Cores.{Core}
use Rattle.fleet_model.specs.Records.{Joined, joined_in}
use Rattle.machine_model.specs.States.Objects.{dev_parts, with_devices}
use Rattle.machine_model.specs.States.State.{State, parts_of, taken, with_parts}
use Rattle.machine_model.specs.Events.Arrivals.{after_arrival as event_of, arrived, shown_ending}
use Rattle.machine_model.specs.Events.Follow.{Event, behind, followed}
use Rattle.run_model.specs.Passings.{Passing, Takes, endings_of, gives}
use Rattle.run_model.specs.Told.{untold}
use Rattle.world_model.specs.Roads.{Road, joined}
use Rattle.world_model.specs.Worlds.{Arrive, Step, World, after_arrival, after_arrive, all_stepped, arrive_from, came_to, road_at, stepped}
use Rattle.world_laws.proofs.Arrivals.{has_arrived}
use Rattle.world_laws.proofs.Sounds.{AreSound}
use Rattle.world_laws.proofs.There.{always_there}
use Rattle.fleet_laws.specs.Doings.{event_lines, gathered, of_event, of_road, passes_at, road_lines, sends_at, takes_at, writes_at}
use Rattle.fleet_laws.specs.Embeds.{plain}
use Rattle.fleet_laws.proofs.Devices.{Ends, Stays, it_ends, other_stays}
use Rattle.fleet_laws.proofs.Gathers.{set_twice}
use Rattle.fleet_laws.proofs.OneRoad.{Goes, at_rest, changed}
use Rattle.fleet_laws.proofs.Points.{OfChannels, Point, Run, came_point, endings_on, going, gives_none, links_of, more_of, none_of, passed_of, sent_of, sound_at, stays_so, taken_of, world_of, world_then, written_of}
use Rattle.fleet_laws.proofs.Sorted.{test_apart, test_same}

-- ---- what no journal holds of an ending plays no part where it arrives

fit_same : (p : DevParts) (e : Ending) (link : Link) (given : Given) (test : Bool) → arrive_fit test p e link given ≡ arrive_fit test p (untold e) link given
fit_same p e link given true = refl
fit_same p e link given false = refl

given_same : (p : DevParts) (e : Ending) (link : Link) (slot : Option Given) → arrive_given p e link slot ≡ arrive_given p (untold e) link slot
given_same p e link None = refl
given_same p e link (Some given) = fit_same p e link given (is_fit e link given)

link_same : (p : DevParts) (e : Ending) (slot : Option Link) → arrive_link p e slot ≡ arrive_link p (untold e) slot
link_same p e None = refl
link_same p e (Some link) = given_same p e link link.given

parts_same : (p : DevParts) (e : Ending) → arrive p e ≡ arrive p (untold e)
unfolding arrive
parts_same p e = link_same p e (link_at p.table e.device)

shown_same : (e : Ending) (how : How) → shown_ending e how ≡ shown_ending (untold e) how
shown_same e hows.Done = refl
shown_same e (hows.Cut moved) = refl

event_same : (script : Script) (mode : Mode) (n : ℕ) (st : State) (e : Ending) (slot : Option DevParts) → option_map (event_of script mode n st e) slot ≡ option_map (event_of script mode n st (untold e)) slot
event_same script mode n st e None = refl
event_same script mode n st e (Some parts) =
    ap (λ (shown : LineEnding). Some (behind (line.Ending n e.device e.request shown ∷ []) (followed script mode n (with_parts st (with_devices (parts_of st) parts))))) (shown_same e e.how)

pub arrived_same : (script : Script) (mode : Mode) (st : State) (one other : Ending) → untold one ≡ untold other → arrived script mode st one ≡ arrived script mode st other
unfolding arrived
arrived_same script mode st one other same = to_untold one ∙ ap (λ (e : Ending). arrived script mode st e) same ∙ sym (to_untold other)
  where
    to_untold : (e : Ending) → arrived script mode st e ≡ arrived script mode st (untold e)
    to_untold e =
        event_same script mode (st.steps + 1) st e (arrive (dev_parts (parts_of st)) e)
        ∙ ap (λ (slot : Option DevParts). option_map (event_of script mode (st.steps + 1) st (untold e)) slot) (parts_same (dev_parts (parts_of st)) e)

-- ---- the step

arrive_leads : (k : Run) (st : State) (roads : List (Option Road)) (d : ℕ) (waiting : List Message) (core : Core) (e : Ending) (event : Event) → entry roads d ≡ Some (at_rest waiting core (e ∷ [])) →
    arrived k.script k.mode st e ≡ Some event →
    all_stepped (going k st None roads) (Arrive d ∷ []) ≡ came_to (changed (going k st None roads) d (at_rest waiting core [])) event.state
unfolding all_stepped stepped after_arrive
arrive_leads k st roads d waiting core e event there comes =
    let w : World = going k st None roads in
    ap (λ (slot : Option Road). arrive_from w d slot) there ∙ ap (λ (slot : Option Event). after_arrival w d (at_rest waiting core (e ∷ [])) [] slot) comes

arrive_passes : (k : Run) (st : State) (roads : List (Option Road)) (d : ℕ) (waiting : List Message) (core : Core) (e : Ending) (event : Event) → entry roads d ≡ Some (at_rest waiting core (e ∷ [])) →
    arrived k.script k.mode st e ≡ Some event → gathered passes_at (going k st None roads) (Arrive d ∷ []) ≡ Takes e ∷ gives event.state
unfolding gathered passes_at
arrive_passes k st roads d waiting core e event there comes =
    let w : World = going k st None roads in
    append-nil (of_road w (entry roads d)) ∙ ap (λ (slot : Option Road). of_road w slot) there ∙ ap (λ (slot : Option Event). of_event e slot) comes

arrive_writes : (k : Run) (st : State) (roads : List (Option Road)) (d : ℕ) (waiting : List Message) (core : Core) (e : Ending) (event : Event) → entry roads d ≡ Some (at_rest waiting core (e ∷ [])) →
    arrived k.script k.mode st e ≡ Some event → gathered writes_at (going k st None roads) (Arrive d ∷ []) ≡ event.lines
unfolding gathered writes_at
arrive_writes k st roads d waiting core e event there comes =
    let w : World = going k st None roads in
    append-nil (road_lines w (entry roads d)) ∙ ap (λ (slot : Option Road). road_lines w slot) there ∙ ap (λ (slot : Option Event). event_lines slot) comes

arrive_takes : (w : World) (d j : ℕ) → gathered (takes_at j) w (Arrive d ∷ []) ≡ []
unfolding gathered takes_at
arrive_takes w d j = refl

arrive_sends : (w : World) (d j : ℕ) → gathered (sends_at j) w (Arrive d ∷ []) ≡ []
unfolding gathered sends_at
arrive_sends w d j = refl

-- ---- all that leads to the arrival, and the arrival

pub either_device : (P : Type 0) (j d : ℕ) → (j ≡ d → P) → ((j ≡ d → ⊥) → P) → P
either_device P j d same other = by_test (j == d) refl
  where
    by_test : (test : Bool) → (j == d) ≡ test → P
    by_test true is = same (grind (arith, nat_tests, is))
    by_test false is = other (λ (e : j ≡ d). grind (arith, nat_tests, is, e))

pub same_channel : (slot : Option Joined) (one other : Joined) → slot ≡ Some one → slot ≡ Some other → one ≡ other
same_channel slot one other is also = cc (is, also)

-- what is done up to the arrival, and by it
record Comes (k : Run) (steps next : List Step) (d : ℕ) (e : Ending) (now : Event) (took : List Message) : Type 0 where
  pub passes : passed_of k next ≡ passed_of k steps ++ (Takes e ∷ gives now.state)
  pub writes : written_of k next ≡ written_of k steps ++ now.lines
  pub takes : taken_of k next d ≡ taken_of k steps d ++ took
  pub sends : sent_of k next d ≡ sent_of k steps d ++ e ∷ []
  pub others_take : (j : ℕ) → (j ≡ d → ⊥) → taken_of k next j ≡ taken_of k steps j
  pub others_send : (j : ℕ) → (j ≡ d → ⊥) → sent_of k next j ≡ sent_of k steps j

it_comes : (k : Run) (steps : List Step) (st : State) (roads : List (Option Road)) (d : ℕ) (e : Ending) (event : Event) (road : Road) (waiting : List Message) (core : Core) (took : List Message) →
    world_of k steps ≡ going k st None roads → entry roads d ≡ Some road → (goes : Goes d road (at_rest waiting core (e ∷ [])) took (e ∷ [])) → arrived k.script k.mode st e ≡ Some event →
    Comes k steps ((steps ++ goes.steps) ++ Arrive d ∷ []) d e event took
it_comes k steps st roads d e event road waiting core took is there goes comes = record {
  passes =
      more_of passes_at k (steps ++ goes.steps) (Arrive d ∷ []) full (Takes e ∷ gives event.state) full_is (arrive_passes k st (slice_set roads d (Some (at_rest waiting core (e ∷ [])))) d waiting core e event sent_there comes)
      ∙ ap (λ (xs : List Passing). xs ++ (Takes e ∷ gives event.state)) (none_of passes_at k steps goes.steps before is (goes.passes before));
  writes =
      more_of writes_at k (steps ++ goes.steps) (Arrive d ∷ []) full event.lines full_is (arrive_writes k st (slice_set roads d (Some (at_rest waiting core (e ∷ [])))) d waiting core e event sent_there comes)
      ∙ ap (λ (xs : List Line). xs ++ event.lines) (none_of writes_at k steps goes.steps before is (goes.writes before));
  takes = none_of (takes_at d) k (steps ++ goes.steps) (Arrive d ∷ []) full full_is (arrive_takes full d d) ∙ more_of (takes_at d) k steps goes.steps before took is (goes.takes before there);
  sends = none_of (sends_at d) k (steps ++ goes.steps) (Arrive d ∷ []) full full_is (arrive_sends full d d) ∙ more_of (sends_at d) k steps goes.steps before (e ∷ []) is (goes.sends before there);
  others_take = λ j apart. none_of (takes_at j) k (steps ++ goes.steps) (Arrive d ∷ []) full full_is (arrive_takes full d j) ∙ none_of (takes_at j) k steps goes.steps before is (goes.others_take before j apart);
  others_send = λ j apart. none_of (sends_at j) k (steps ++ goes.steps) (Arrive d ∷ []) full full_is (arrive_sends full d j) ∙ none_of (sends_at j) k steps goes.steps before is (goes.others_send before j apart);
}
  where
    before : World
    before = going k st None roads

    full : World
    full = changed before d (at_rest waiting core (e ∷ []))

    full_is : world_of k (steps ++ goes.steps) ≡ full
    full_is = world_then k steps goes.steps before full is (goes.leads before there)

    sent_there : entry (slice_set roads d (Some (at_rest waiting core (e ∷ [])))) d ≡ Some (at_rest waiting core (e ∷ []))
    sent_there = entry_there roads d road (Some (at_rest waiting core (e ∷ []))) there

-- where the world stands then
comes_to : (k : Run) (steps : List Step) (st : State) (roads : List (Option Road)) (d : ℕ) (e : Ending) (event : Event) (road : Road) (waiting : List Message) (core : Core) (took : List Message) →
    world_of k steps ≡ going k st None roads → entry roads d ≡ Some road → (goes : Goes d road (at_rest waiting core (e ∷ [])) took (e ∷ [])) → arrived k.script k.mode st e ≡ Some event →
    world_of k ((steps ++ goes.steps) ++ Arrive d ∷ []) ≡ going k (taken event.state) None (joined (links_of event.state) (slice_set roads d (Some (at_rest waiting core []))))
comes_to k steps st roads d e event road waiting core took is there goes comes =
    world_then k (steps ++ goes.steps) (Arrive d ∷ []) (changed (going k st None roads) d sent) (came_to (changed (going k st None (slice_set roads d (Some sent))) d (at_rest waiting core [])) event.state)
    (world_then k steps goes.steps (going k st None roads) (changed (going k st None roads) d sent) is (goes.leads (going k st None roads) there))
    (arrive_leads k st (slice_set roads d (Some sent)) d waiting core e event (entry_there roads d road (Some sent) there) comes)
    ∙ ap (λ (all : List (Option Road)). came_to (going k st None all) event.state) (set_twice roads d (Some sent) (Some (at_rest waiting core [])))
  where
    sent : Road
    sent = at_rest waiting core (e ∷ [])

one_ending : (d : ℕ) (e : Ending) (now : State) → e.device ≡ d → endings_of d (Takes e ∷ gives now) ≡ e ∷ []
unfolding endings_of
one_ending d e now is =
    ap (λ (test : Bool). if test then e ∷ endings_of d (gives now) else endings_of d (gives now)) (test_same e.device d is) ∙ ap (λ (xs : List Ending). e ∷ xs) (gives_none d now)

no_ending : (d : ℕ) (e : Ending) (now : State) → (e.device ≡ d → ⊥) → endings_of d (Takes e ∷ gives now) ≡ []
unfolding endings_of
no_ending d e now apart =
    ap (λ (test : Bool). if test then e ∷ endings_of d (gives now) else endings_of d (gives now)) (test_apart e.device d apart) ∙ gives_none d now

next_came : (k : Run) (steps next : List Step) (d : ℕ) (e : Ending) (now : Event) (took : List Message) → e.device ≡ d → Comes k steps next d e now took → (j : ℕ) → endings_of j (passed_of k steps) ≡ sent_of k steps j →
    endings_of j (passed_of k next) ≡ sent_of k next j
next_came k steps next d e now took is comes j came =
    ap (λ (all : List Passing). endings_of j all) comes.passes ∙ endings_on j (passed_of k steps) (Takes e ∷ gives now.state)
    ∙ ap (λ (xs : List Ending). xs ++ endings_of j (Takes e ∷ gives now.state)) came
    ∙ either_device (sent_of k steps j ++ endings_of j (Takes e ∷ gives now.state) ≡ sent_of k next j) j d
    (λ same. ap (λ (xs : List Ending). sent_of k steps j ++ xs) (one_ending j e now.state (is ∙ sym same))
    ∙ subst (λ (n : ℕ). sent_of k steps n ++ e ∷ [] ≡ sent_of k next n) (sym same) (sym comes.sends))
    (λ apart. ap (λ (xs : List Ending). sent_of k steps j ++ xs) (no_ending j e now.state (λ same. apart (sym same ∙ is))) ∙ append-nil (sent_of k steps j) ∙ sym (comes.others_send j apart))

next_stays : (k : Run) (steps next : List Step) (roads : List (Option Road)) (c : Joined) (e : Ending) (now : Event) (later : List Passing) (it : Ends e.device c e later (entry roads e.device) (taken_of k steps e.device) (sent_of k steps e.device)) →
    Comes k steps next e.device it.ending now it.took → joined_in k.channels e.device ≡ Some c → OfChannels k (λ d c. Stays d c (Takes e ∷ later) (entry roads d) (taken_of k steps d) (sent_of k steps d)) →
    OfChannels k (λ d c. Stays d c later (entry (slice_set roads e.device (Some (at_rest it.waiting it.core []))) d) (taken_of k next d) (sent_of k next d))
next_stays k steps next roads c e now later it comes its each j other has =
    either_device (Stays j other later (entry changed_roads j) (taken_of k next j) (sent_of k next j)) j e.device
    (λ same. subst (λ (n : ℕ). joined_in k.channels n ≡ Some other → Stays n other later (entry changed_roads n) (taken_of k next n) (sent_of k next n)) (sym same) of_same has)
    (λ apart. stays_so j other later (entry changed_roads j) (taken_of k steps j) (taken_of k next j) (sent_of k steps j) (sent_of k next j) (comes.others_take j apart) (comes.others_send j apart)
    (subst (λ (slot : Option Road). Stays j other later slot (taken_of k steps j) (sent_of k steps j)) (sym (entry_other roads e.device j (Some (at_rest it.waiting it.core [])) apart))
    (other_stays j other e later (entry roads j) (taken_of k steps j) (sent_of k steps j) (λ same. apart (sym same)) (each j other has))))
  where
    changed_roads : List (Option Road)
    changed_roads = slice_set roads e.device (Some (at_rest it.waiting it.core []))

    of_same : joined_in k.channels e.device ≡ Some other → Stays e.device other later (entry changed_roads e.device) (taken_of k next e.device) (sent_of k next e.device)
    of_same also =
        subst (λ (it : Joined). Stays e.device it later (entry changed_roads e.device) (taken_of k next e.device) (sent_of k next e.device)) (same_channel (joined_in k.channels e.device) c other its also)
        (stays_so e.device c later (entry changed_roads e.device) (taken_of k steps e.device ++ it.took) (taken_of k next e.device) (sent_of k steps e.device ++ it.ending ∷ []) (sent_of k next e.device) comes.takes comes.sends
        (subst (λ (slot : Option Road). Stays e.device c later slot (taken_of k steps e.device ++ it.took) (sent_of k steps e.device ++ it.ending ∷ [])) (sym (entry_there roads e.device it.road (Some (at_rest it.waiting it.core [])) it.there)) it.stays))

-- ---- the device of an ending that arrives has a channel

some_joined : (k : Run) (d : ℕ) → is_some (joined_in k.channels d) ≡ true → (c : Joined) × (joined_in k.channels d ≡ Some c)
some_joined k d some = by_slot (joined_in k.channels d) refl some
  where
    by_slot : (slot : Option Joined) → joined_in k.channels d ≡ slot → is_some slot ≡ true → (c : Joined) × (joined_in k.channels d ≡ Some c)
    by_slot None is some = absurd (cc some)
    by_slot (Some c) is some = (c, is)

road_some : (d : ℕ) (link : Link) (slot : Option Road) → AreSound false d (Some link) slot → is_some slot ≡ true
road_some d link None are = absurd are
road_some d link (Some road) are = refl

link_there : (k : Run) (st : State) (e : Ending) (event : Event) (found : Option DevParts) → arrive (dev_parts (parts_of st)) e ≡ found → option_map (event_of k.script k.mode (st.steps + 1) st e) found ≡ Some event →
    (link : Link) × (link_at st.objects.devices e.device ≡ Some link)
link_there k st e event None is comes = absurd (cc comes)
link_there k st e event (Some q) is comes = let it = has_arrived (dev_parts (parts_of st)) q e is in (it.link, it.linked)

its_channel : (k : Run) (steps : List Step) (st : State) (lines : List Line) (later : List Passing) (e : Ending) (event : Event) → Point k steps st lines later → arrived k.script k.mode st e ≡ Some event → (c : Joined) × (joined_in k.channels e.device ≡ Some c)
unfolding arrived
its_channel k steps st lines later e event p comes =
    let it = link_there k st e event (arrive (dev_parts (parts_of st)) e) refl comes in
    let road = road_some e.device it.0 (entry p.roads e.device)
    (subst (λ (slot : Option Link). AreSound false e.device slot (entry p.roads e.device)) it.1 (sound_at k steps st None p.roads p.is e.device)) in
    some_joined k e.device
    (k.complete e.device ∙ sym (always_there k.script k.mode k.budget steps e.device) ∙ ap (λ (w : World). is_some (road_at w e.device)) p.is ∙ road)

-- an ending is taken in
pub arrive_point : (k : Run) (steps : List Step) (st : State) (e : Ending) (event : Event) (lines : List Line) (later : List Passing) → arrived k.script k.mode st e ≡ Some event →
    Point k steps st (event.lines ++ lines) (Takes e ∷ (gives event.state ++ later)) → (next : List Step) × Point k next (taken event.state) lines later
arrive_point k steps st e event lines later comes p = (
  next,
  came_point k next event.state lines later (slice_set p.roads e.device (Some (at_rest it.waiting it.core [])))
      (comes_to k steps st p.roads e.device it.ending event it.road it.waiting it.core it.took p.is it.there it.goes its_comes)
      (ap (λ (all : List Line). all ++ lines) done.writes ∙ append_assoc (written_of k steps) event.lines lines ∙ p.written)
      passes
      (next_stays k steps next p.roads channel.0 e event (gives event.state ++ later) it done channel.1 p.each)
      (λ d c has. next_came k steps next e.device it.ending event it.took (ap (λ (x : Ending). x.device) it.same) done d (p.came d c has)),
)
  where
    channel : (c : Joined) × (joined_in k.channels e.device ≡ Some c)
    channel = its_channel k steps st (event.lines ++ lines) (Takes e ∷ (gives event.state ++ later)) e event p comes

    it : Ends e.device channel.0 e (gives event.state ++ later) (entry p.roads e.device) (taken_of k steps e.device) (sent_of k steps e.device)
    it = it_ends e.device channel.0 e (gives event.state ++ later) (entry p.roads e.device) (taken_of k steps e.device) (sent_of k steps e.device) refl (p.each e.device channel.0 channel.1)

    its_comes : arrived k.script k.mode st it.ending ≡ Some event
    its_comes = arrived_same k.script k.mode st it.ending e it.same ∙ comes

    next : List Step
    next = (steps ++ it.goes.steps) ++ Arrive e.device ∷ []

    done : Comes k steps next e.device it.ending event it.took
    done = it_comes k steps st p.roads e.device it.ending event it.road it.waiting it.core it.took p.is it.there it.goes its_comes

    passes : map plain (passed_of k next ++ later) ≡ map plain k.all
    passes =
        ap (λ (all : List Passing). map plain (all ++ later)) done.passes
        ∙ ap (λ (all : List Passing). map plain all) (append_assoc (passed_of k steps) (Takes it.ending ∷ gives event.state) later)
        ∙ map-append plain (passed_of k steps) (Takes it.ending ∷ (gives event.state ++ later))
        ∙ ap (λ (x : Ending). map plain (passed_of k steps) ++ (Takes x ∷ map plain (gives event.state ++ later))) it.same
        ∙ sym (map-append plain (passed_of k steps) (Takes e ∷ (gives event.state ++ later)))
        ∙ p.passed
