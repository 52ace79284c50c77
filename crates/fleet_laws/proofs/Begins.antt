-- Where a run begins each device stays as its record says; so all follows.
use Rattle.std.proofs.Common.{◌≡◌, ℕ, zero, suc, ◌+◌, ◌≤◌, true, List, [], ◌∷◌, ◌++◌, length, map, Option, Some, None, refl, ap, subst, ◌∙◌, arith}
use Rattle.std.specs.Prelude.{slice_get}
use Rattle.std.specs.Option.{is_some}
use Rattle.std.proofs.lemmas.List.{append_assoc}
use Rattle.tk_types.specs.declared.line.Entry.{Entry}
use Rattle.tk_types.specs.declared.line.Line.{Line}
use Rattle.tk_types.specs.declared.run.Mode.{Mode}
use Rattle.tk_types.specs.declared.script.Device.{Device}
use Rattle.tk_types.specs.declared.script.Kind.{Kind}
use Rattle.tk_types.specs.declared.script.Script.{Script}
use Rattle.kernel_model.specs.Words.Orders.{entry}
use Rattle.device_model.specs.declared.messages.Ending.{Ending}
use Rattle.driver_model.specs.Cores.{core_start}
use Rattle.fleet_model.specs.Records.{AreJoined, IsJoined, Joined, joined_in}
use Rattle.machine_model.specs.States.State.{State}
use Rattle.machine_model.specs.Runs.Trace.{Trace, runs, start, trace}
use Rattle.run_model.specs.Passings.{Passing, endings_of, passings}
use Rattle.run_model.specs.Told.{TellOf, TellsOf}
use Rattle.world_model.specs.Roads.{Road, roads_from}
use Rattle.world_model.specs.Worlds.{all_stepped, world_start}
use Rattle.count_lemmas.proofs.Steps.{start_unstepped}
use Rattle.journal_laws.specs.Fed.{is_whole}
use Rattle.fleet_laws.specs.Doings.{gathered}
use Rattle.fleet_laws.specs.Embeds.{IsOfWorld, IsRecord}
use Rattle.fleet_laws.proofs.Closing.{closes}
use Rattle.fleet_laws.proofs.Devices.{Stays}
use Rattle.fleet_laws.proofs.OneRoad.{at_rest}
use Rattle.fleet_laws.proofs.Points.{Point, Run}
use Rattle.fleet_laws.proofs.Walk.{Outcome, walk}

-- ---- of all devices, of each

abbrev HaveKinds : List Joined → List Device → Type 0
HaveKinds channels devices = map (λ (c : Joined). c.kind) channels ≡ map (λ (device : Device). device.kind) devices

some_road : (channels : List Joined) (devices : List Device) (from i : ℕ) → HaveKinds channels devices → is_some (slice_get channels i) ≡ is_some (entry (roads_from from devices) i)
some_road [] [] from i same = refl
some_road [] (device ∷ devices) from i same = absurd (cc same)
some_road (c ∷ channels) [] from i same = absurd (cc same)
some_road (c ∷ channels) (device ∷ devices) from zero same = refl
some_road (c ∷ channels) (device ∷ devices) from (suc i) same = some_road channels devices (suc from) i (cc same)

all_have_roads : (channels : List Joined) (devices : List Device) → HaveKinds channels devices → (d : ℕ) → is_some (joined_in channels d) ≡ is_some (entry (None ∷ roads_from 1 devices) d)
unfolding joined_in
all_have_roads channels devices same zero = refl
all_have_roads channels devices same (suc d) = some_road channels devices 1 d same

its_road : (channels : List Joined) (devices : List Device) (from i : ℕ) (c : Joined) → HaveKinds channels devices → slice_get channels i ≡ Some c →
    entry (roads_from from devices) i ≡ Some (at_rest [] (core_start (from + i) c.kind) [])
its_road [] devices from i c same has = absurd (cc has)
its_road (first ∷ channels) [] from i c same has = absurd (cc same)
its_road (first ∷ channels) (device ∷ devices) from zero c same has =
    let one : device.kind ≡ first.kind = cc same in
    let this : first ≡ c = cc has in
    ap (λ (kind : Kind). Some (at_rest [] (core_start from kind) [])) (one ∙ ap (λ (it : Joined). it.kind) this) ∙ ap (λ (d : ℕ). Some (at_rest [] (core_start d c.kind) [])) (omega arith)
its_road (first ∷ channels) (device ∷ devices) from (suc i) c same has =
    its_road channels devices (suc from) i c (cc same) has ∙ ap (λ (d : ℕ). Some (at_rest [] (core_start d c.kind) [])) (omega arith)

is_joined : (channels : List Joined) (from i : ℕ) (c : Joined) → AreJoined from channels → slice_get channels i ≡ Some c → IsJoined (from + i) c
is_joined [] from i c are has = absurd (cc has)
is_joined (first ∷ channels) from zero c are has =
    let this : first ≡ c = cc has in
    subst (λ (d : ℕ). IsJoined d c) (omega arith) (subst (λ (it : Joined). IsJoined from it) this are.0)
is_joined (first ∷ channels) from (suc i) c are has = subst (λ (d : ℕ). IsJoined d c) (omega arith) (is_joined channels (suc from) i c are.1 has)

is_told : (run : List Passing) (channels : List Joined) (from i : ℕ) (c : Joined) → TellOf from run channels → slice_get channels i ≡ Some c → TellsOf (from + i) run c
is_told run [] from i c tell has = absurd (cc has)
is_told run (first ∷ channels) from zero c tell has =
    let this : first ≡ c = cc has in
    subst (λ (d : ℕ). TellsOf d run c) (omega arith) (subst (λ (it : Joined). TellsOf from run it) this tell.0)
is_told run (first ∷ channels) from (suc i) c tell has = subst (λ (d : ℕ). TellsOf d run c) (omega arith) (is_told run channels (from + 1) i c tell.1 has)

-- ---- a device at the start

-- a device of which these things are known
record Known (run : List Passing) (slot : Option Road) (d : ℕ) (c : Joined) : Type 0 where
  pub there : slot ≡ Some (at_rest [] (core_start d c.kind) [])
  pub joined : IsJoined d c
  pub told : TellsOf d run c

all_known : (channels : List Joined) (devices : List Device) (run : List Passing) → HaveKinds channels devices → AreJoined 1 channels → TellOf 1 run channels → (d : ℕ) (c : Joined) → joined_in channels d ≡ Some c →
    Known run (entry (None ∷ roads_from 1 devices) d) d c
unfolding joined_in
all_known channels devices run same joined told zero c has = absurd (cc has)
all_known channels devices run same joined told (suc d) c has =
    let number : 1 + d ≡ suc d = omega arith in
    record {
      there = its_road channels devices 1 d c same has ∙ ap (λ (n : ℕ). Some (at_rest [] (core_start n c.kind) [])) number;
      joined = subst (λ (n : ℕ). IsJoined n c) number (is_joined channels 1 d c joined has);
      told = subst (λ (n : ℕ). TellsOf n run c) number (is_told run channels 1 d c told has);
    }

stays_first : (run : List Passing) (slot : Option Road) (d : ℕ) (c : Joined) → Known run slot d c → Stays d c run slot [] []
stays_first run slot d c known = record {
  waiting = [];
  core = core_start d c.kind;
  there = known.there;
  events = known.joined.run.events;
  last = known.joined.core;
  run = known.joined.run.gives;
  counted = refl;
  front = known.joined.taken;
  handed = known.told.handed;
  sends = c.sent;
  sends_all = refl;
  hears = record {
    front = known.told.taken_in.front;
    rest = known.told.taken_in.rest ++ known.joined.received.rest;
    all = known.joined.received.is ∙ ap (λ (xs : List Ending). xs ++ known.joined.received.rest) known.told.taken_in.all
        ∙ append_assoc known.told.taken_in.front known.told.taken_in.rest known.joined.received.rest;
    same = known.told.taken_in.same;
    given = known.told.taken_in.given;
  };
}

-- ---- a run

-- its trace behind the start
rest_of : Script → Mode → ℕ → List Entry → Trace
rest_of script mode budget entries = runs (budget + (length entries + 1)) script mode budget (start script).state 1 entries

run_of : (script : Script) (mode : Mode) (budget : ℕ) (entries : List Entry) (channels : List Joined) → IsRecord script mode budget entries channels → Run
run_of script mode budget entries channels it = record {
  script = script;
  mode = mode;
  budget = budget;
  all = passings script mode budget entries;
  lines = (rest_of script mode budget entries).lines;
  channels = channels;
  complete = all_have_roads channels script.devices it.kinds;
}

first_point : (script : Script) (mode : Mode) (budget : ℕ) (entries : List Entry) (channels : List Joined) (it : IsRecord script mode budget entries channels) →
    Point (run_of script mode budget entries channels it) [] (start script).state (rest_of script mode budget entries).lines (passings script mode budget entries)
unfolding run_of all_stepped world_start gathered endings_of
first_point script mode budget entries channels it = record {
  roads = None ∷ roads_from 1 script.devices;
  is = refl;
  written = refl;
  passed = refl;
  each = λ d c has. stays_first (passings script mode budget entries) (entry (None ∷ roads_from 1 script.devices) d) d c
      (all_known channels script.devices (passings script mode budget entries) it.kinds it.joined it.told d c has);
  came = λ d c has. refl;
}

first_outcome : (script : Script) (mode : Mode) (budget : ℕ) (entries : List Entry) (channels : List Joined) (it : IsRecord script mode budget entries channels) → 1 ≤ budget →
    is_whole (trace script mode budget entries).last ≡ true → Outcome (run_of script mode budget entries channels it) (rest_of script mode budget entries)
unfolding run_of rest_of passings trace
first_outcome script mode budget entries channels it least whole =
    let none = start_unstepped script in
    walk (run_of script mode budget entries channels it) (budget + (length entries + 1)) [] (start script).state 1 entries (omega (arith, none, least)) (omega arith) whole
    (first_point script mode budget entries channels it)

-- the record of a fleet is what becomes of a world
pub embeds : (script : Script) (mode : Mode) (budget : ℕ) (entries : List Entry) (channels : List Joined) → 1 ≤ budget → is_whole (trace script mode budget entries).last ≡ true →
    IsRecord script mode budget entries channels → IsOfWorld script mode budget entries channels
unfolding run_of rest_of trace
embeds script mode budget entries channels least whole it =
    let outcome = first_outcome script mode budget entries channels it least whole in
    let closed = closes (run_of script mode budget entries channels it) outcome.steps outcome.state outcome.end outcome.past in
    record {
      steps = closed.0;
      over = record { end = outcome.end; over = closed.1.over; last = outcome.same; counted = ap (λ (st : State). st.steps) closed.1.state ∙ outcome.counted };
      written = ap (λ (more : List Line). (start script).lines ++ more) closed.1.written;
      passed = closed.1.passed;
      driven = closed.1.driven;
    }
