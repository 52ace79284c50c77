-- Once the run is over each driver does what it has yet to do, the last device first.
use Rattle.std.proofs.Common.{◌≡◌, ℕ, zero, suc, ◌≤◌, ◌<◌, true, List, [], ◌∷◌, ◌++◌, length, map, Option, Some, None, refl, ap, sym, subst, ◌∙◌, arith}
use Rattle.std.specs.Prelude.{slice_get, slice_set}
use Rattle.std.proofs.lemmas.List.{append-nil, append_assoc}
use Rattle.tk_types.specs.declared.run.End.{End as RunEnd}
use Rattle.kernel_model.specs.Words.Orders.{entry}
use Rattle.kernel_lemmas.proofs.Tables.{entry_other, entry_there}
use Rattle.device_model.specs.declared.messages.Ending.{Ending}
use Rattle.device_model.specs.declared.messages.Message.{Message}
use Rattle.device_model.specs.Devices.Tables.{Link, link_at}
use Rattle.driver_model.specs.Cores.{Core}
use Rattle.fleet_model.specs.Records.{Joined, joined_in}
use Rattle.machine_model.specs.States.State.{State}
use Rattle.run_model.specs.Passings.{Passing, endings_of}
use Rattle.world_model.specs.Roads.{Road}
use Rattle.world_model.specs.Worlds.{Step, World, road_at, world_start}
use Rattle.world_laws.proofs.Meets.{Meets}
use Rattle.world_laws.proofs.Places.{Side, Stands}
use Rattle.world_laws.proofs.Roads.{side_of}
use Rattle.world_laws.proofs.Worlds.{IsMet, start_met, steps_met}
use Rattle.fleet_laws.specs.Doings.{passes_at, sends_at, takes_at, writes_at}
use Rattle.fleet_laws.specs.Embeds.{IsDriven, plain}
use Rattle.fleet_laws.proofs.Arriving.{either_device, same_channel}
use Rattle.fleet_laws.proofs.DriverRuns.{Finishes, driving, will_finish}
use Rattle.fleet_laws.proofs.OneRoad.{at_rest, changed}
use Rattle.fleet_laws.proofs.Kernel.{Past, Rests}
use Rattle.fleet_laws.proofs.Points.{OfChannels, Run, going, more_of, none_of, passed_of, sent_of, taken_of, world_of, world_then, written_of}

-- a device whose driver has done all
record Closed (k : Run) (steps : List Step) (d : ℕ) (c : Joined) (slot : Option Road) : Type 0 where
  pub road : Road
  pub there : slot ≡ Some road
  pub taken : taken_of k steps d ≡ c.taken
  pub sent : sent_of k steps d ≡ c.sent
  pub waiting : c.handed ≡ c.taken ++ (road.inbox ++ road.waiting)
  pub outbox : c.sent ≡ endings_of d (passed_of k steps) ++ road.outbox

-- one whose driver has yet to do all that is left
record Open (k : Run) (steps : List Step) (d : ℕ) (c : Joined) (slot : Option Road) : Type 0 where
  pub rests : Rests d c slot (taken_of k steps d) (sent_of k steps d)
  pub came : endings_of d (passed_of k steps) ≡ sent_of k steps d

-- the run is over, and the drivers from a number on have done all
record Closing (k : Run) (st : State) (end : RunEnd) (n : ℕ) (steps : List Step) : Type 0 where
  pub roads : List (Option Road)
  pub is : world_of k steps ≡ going k st (Some end) roads
  pub written : written_of k steps ≡ k.lines
  pub passed : map plain (passed_of k steps) ≡ map plain k.all
  pub left : OfChannels k (λ d c. d < n → Open k steps d c (entry roads d))
  pub done : OfChannels k (λ d c. n ≤ d → Closed k steps d c (entry roads d))

-- ---- a device whose messages were given is in order

in_order : (d : ℕ) (link : Option Link) (waiting : List Message) (core : Core) → ((it : Link) → link ≡ Some it → it.out ≡ []) → Meets true d link (Some (at_rest waiting core [])) → (s : Side) × Stands s core [] waiting
in_order d None waiting core empty meets = absurd meets
in_order d (Some link) waiting core empty meets =
    (side_of true d link, subst (λ (way : List Message). Stands (side_of true d link) core [] way) (ap (λ (out : List Message). waiting ++ out) (empty link refl) ∙ append-nil waiting) meets)

stands_there : (k : Run) (steps : List Step) (st : State) (end : RunEnd) (roads : List (Option Road)) (d : ℕ) (waiting : List Message) (core : Core) → world_of k steps ≡ going k st (Some end) roads →
    entry roads d ≡ Some (at_rest waiting core []) → (s : Side) × Stands s core [] waiting
stands_there k steps st end roads d waiting core is there =
    let met : IsMet (going k st (Some end) roads) = subst IsMet is (steps_met steps (world_start k.script k.mode k.budget) (start_met k.script k.mode k.budget)) in
    in_order d (link_at st.objects.devices d) waiting core (met.empty d) (subst (λ (slot : Option Road). Meets true d (link_at st.objects.devices d) slot) there (met.met.roads d))

-- ---- one device

-- another one stays as it is
closed_still : (k : Run) (steps next : List Step) (d : ℕ) (c : Joined) (slot now : Option Road) → now ≡ slot → taken_of k next d ≡ taken_of k steps d → sent_of k next d ≡ sent_of k steps d → passed_of k next ≡ passed_of k steps →
    Closed k steps d c slot → Closed k next d c now
closed_still k steps next d c slot now same takes sends passes closed = record {
  road = closed.road;
  there = same ∙ closed.there;
  taken = takes ∙ closed.taken;
  sent = sends ∙ closed.sent;
  waiting = closed.waiting;
  outbox = closed.outbox ∙ ap (λ (all : List Passing). endings_of d all ++ closed.road.outbox) (sym passes);
}

open_still : (k : Run) (steps next : List Step) (d : ℕ) (c : Joined) (slot now : Option Road) → now ≡ slot → taken_of k next d ≡ taken_of k steps d → sent_of k next d ≡ sent_of k steps d → passed_of k next ≡ passed_of k steps →
    Open k steps d c slot → Open k next d c now
open_still k steps next d c slot now same takes sends passes it = record {
  rests =
      subst (λ (place : Option Road). Rests d c place (taken_of k next d) (sent_of k next d)) (sym same)
      (subst (λ (messages : List Message). Rests d c slot messages (sent_of k next d)) (sym takes)
      (subst (λ (endings : List Ending). Rests d c slot (taken_of k steps d) endings) (sym sends) it.rests));
  came = ap (λ (all : List Passing). endings_of d all) passes ∙ it.came ∙ sym sends;
}

-- the steps of a device by which its driver does all
record Does (k : Run) (st : State) (end : RunEnd) (n : ℕ) (c : Joined) (steps : List Step) (closing : Closing k st end (suc n) steps) : Type 0 where
  pub next : List Step
  pub road : Road
  pub old : Road
  pub there : entry closing.roads n ≡ Some old
  pub is : world_of k next ≡ going k st (Some end) (slice_set closing.roads n (Some road))
  pub passes : passed_of k next ≡ passed_of k steps
  pub writes : written_of k next ≡ written_of k steps
  pub closed : Closed k next n c (Some road)
  pub others_take : (j : ℕ) → (j ≡ n → ⊥) → taken_of k next j ≡ taken_of k steps j
  pub others_send : (j : ℕ) → (j ≡ n → ⊥) → sent_of k next j ≡ sent_of k steps j

it_does : (k : Run) (st : State) (end : RunEnd) (n : ℕ) (c : Joined) (steps : List Step) (closing : Closing k st end (suc n) steps) → joined_in k.channels n ≡ Some c → Does k st end n c steps closing
it_does k st end n c steps closing has = record {
  next = steps ++ fin.goes.steps;
  road = at_rest fin.left fin.now fin.sends;
  old = at_rest rests.waiting rests.core [];
  there = rests.there;
  is = world_then k steps fin.goes.steps before (changed before n (at_rest fin.left fin.now fin.sends)) closing.is (fin.goes.leads before rests.there);
  passes = passes;
  writes = none_of writes_at k steps fin.goes.steps before closing.is (fin.goes.writes before);
  closed = record {
    road = at_rest fin.left fin.now fin.sends;
    there = refl;
    taken = more_of (takes_at n) k steps fin.goes.steps before fin.took closing.is (fin.goes.takes before rests.there) ∙ sym fin.takes;
    sent = more_of (sends_at n) k steps fin.goes.steps before fin.sends closing.is (fin.goes.sends before rests.there) ∙ sym fin.sent_all;
    waiting = rests.handed ∙ ap (λ (way : List Message). taken_of k steps n ++ way) fin.parts ∙ sym (append_assoc (taken_of k steps n) fin.took fin.left) ∙ ap (λ (front : List Message). front ++ fin.left) (sym fin.takes);
    outbox = fin.sent_all ∙ ap (λ (front : List Ending). front ++ fin.sends) (sym it.came ∙ ap (λ (all : List Passing). endings_of n all) (sym passes));
  };
  others_take = λ j apart. none_of (takes_at j) k steps fin.goes.steps before closing.is (fin.goes.others_take before j apart);
  others_send = λ j apart. none_of (sends_at j) k steps fin.goes.steps before closing.is (fin.goes.others_send before j apart);
}
  where
    before : World
    before = going k st (Some end) closing.roads

    it : Open k steps n c (entry closing.roads n)
    it = closing.left n c has (omega arith)

    rests : Rests n c (entry closing.roads n) (taken_of k steps n) (sent_of k steps n)
    rests = it.rests

    stands : (s : Side) × Stands s rests.core [] rests.waiting
    stands = stands_there k steps st end closing.roads n rests.waiting rests.core closing.is rests.there

    fin : Finishes n rests.waiting rests.core [] (taken_of k steps n) (sent_of k steps n) (driving rests.last c.taken c.sent)
    fin = will_finish n stands.0 c.handed (driving rests.last c.taken c.sent) rests.events rests.waiting rests.core [] (taken_of k steps n) (sent_of k steps n) rests.run rests.front rests.handed stands.1

    passes : passed_of k (steps ++ fin.goes.steps) ≡ passed_of k steps
    passes = none_of passes_at k steps fin.goes.steps before closing.is (fin.goes.passes before)

-- the same of a number without a channel
skip_one : (k : Run) (st : State) (end : RunEnd) (n : ℕ) (steps : List Step) → joined_in k.channels n ≡ None → Closing k st end (suc n) steps → Closing k st end n steps
skip_one k st end n steps none closing = record {
  roads = closing.roads;
  is = closing.is;
  written = closing.written;
  passed = closing.passed;
  left = λ d c has below. closing.left d c has (omega (arith, below));
  done = λ d c has most. either_device (Closed k steps d c (entry closing.roads d)) d n
      (λ same. absurd (no_channel d c same has))
      (λ apart. closing.done d c has (beyond d apart most));
}
  where
    no_channel : (d : ℕ) (c : Joined) → d ≡ n → joined_in k.channels d ≡ Some c → ⊥
    no_channel d c same has = let at : joined_in k.channels n ≡ Some c = subst (λ (j : ℕ). joined_in k.channels j ≡ Some c) same has in cc (none, at)

    beyond : (d : ℕ) → (d ≡ n → ⊥) → n ≤ d → suc n ≤ d
    beyond d apart most = omega (arith, apart, most)

close_one : (k : Run) (st : State) (end : RunEnd) (n : ℕ) (c : Joined) (steps : List Step) (closing : Closing k st end (suc n) steps) → joined_in k.channels n ≡ Some c → (does : Does k st end n c steps closing) → Closing k st end n does.next
close_one k st end n c steps closing has does = record {
  roads = slice_set closing.roads n (Some does.road);
  is = does.is;
  written = does.writes ∙ closing.written;
  passed = ap (λ (all : List Passing). map plain all) does.passes ∙ closing.passed;
  left = λ d other its below. open_still k steps does.next d other (entry closing.roads d) (entry (slice_set closing.roads n (Some does.road)) d) (entry_other closing.roads n d (Some does.road) (λ same. absurd (omega (arith, same, below))))
      (does.others_take d (λ same. absurd (omega (arith, same, below)))) (does.others_send d (λ same. absurd (omega (arith, same, below)))) does.passes (closing.left d other its (omega (arith, below)));
  done = λ d other its most. either_device (Closed k does.next d other (entry (slice_set closing.roads n (Some does.road)) d)) d n
      (λ same. of_same d other same its)
      (λ apart. closed_still k steps does.next d other (entry closing.roads d) (entry (slice_set closing.roads n (Some does.road)) d) (entry_other closing.roads n d (Some does.road) apart) (does.others_take d apart) (does.others_send d apart) does.passes
      (closing.done d other its (beyond d apart most)));
}
  where
    beyond : (d : ℕ) → (d ≡ n → ⊥) → n ≤ d → suc n ≤ d
    beyond d apart most = omega (arith, apart, most)

    now : Closed k does.next n c (entry (slice_set closing.roads n (Some does.road)) n)
    now = subst (λ (slot : Option Road). Closed k does.next n c slot) (sym (entry_there closing.roads n does.old (Some does.road) does.there)) does.closed

    of_same : (d : ℕ) (other : Joined) → d ≡ n → joined_in k.channels d ≡ Some other → Closed k does.next d other (entry (slice_set closing.roads n (Some does.road)) d)
    of_same d other same its =
        subst (λ (j : ℕ). joined_in k.channels j ≡ Some other → Closed k does.next j other (entry (slice_set closing.roads n (Some does.road)) j)) (sym same)
        (λ at. subst (λ (it : Joined). Closed k does.next n it (entry (slice_set closing.roads n (Some does.road)) n)) (same_channel (joined_in k.channels n) c other has at) now) its

close_by : (k : Run) (st : State) (end : RunEnd) (n : ℕ) (steps : List Step) → Closing k st end (suc n) steps → (slot : Option Joined) → joined_in k.channels n ≡ slot → (next : List Step) × Closing k st end n next
close_by k st end n steps closing None has = (steps, skip_one k st end n steps has closing)
close_by k st end n steps closing (Some c) has = let does = it_does k st end n c steps closing has in (does.next, close_one k st end n c steps closing has does)

-- ---- all devices

close_all : (k : Run) (st : State) (end : RunEnd) (n : ℕ) (steps : List Step) → Closing k st end n steps → (next : List Step) × Closing k st end 0 next
close_all k st end zero steps closing = (steps, closing)
close_all k st end (suc n) steps closing = let one = close_by k st end n steps closing (joined_in k.channels n) refl in close_all k st end n one.0 one.1

get_within : {A : Type 0} → (xs : List A) (i : ℕ) (x : A) → slice_get xs i ≡ Some x → i < length xs
get_within [] i x has = absurd (cc has)
get_within (y ∷ xs) zero x has = omega arith
get_within (y ∷ xs) (suc i) x has = let within = get_within xs i x has in omega (arith, within)

joined_within : (channels : List Joined) (d : ℕ) (c : Joined) → joined_in channels d ≡ Some c → d < suc (length channels)
unfolding joined_in
joined_within channels zero c has = omega arith
joined_within channels (suc d) c has = let within = get_within channels d c has in omega (arith, within)

first_closing : (k : Run) (steps : List Step) (st : State) (end : RunEnd) → Past k steps st end → Closing k st end (suc (length k.channels)) steps
first_closing k steps st end past = record {
  roads = past.roads;
  is = past.is;
  written = past.written;
  passed = past.passed;
  left = λ d c has below. record { rests = past.each d c has; came = past.came d c has };
  done = λ d c has most. absurd (none_beyond d c has most);
}
  where
    none_beyond : (d : ℕ) (c : Joined) → joined_in k.channels d ≡ Some c → suc (length k.channels) ≤ d → ⊥
    none_beyond d c has most = let within = joined_within k.channels d c has in absurd (omega (arith, within, most))

-- the world is over, and each driver has done what its record says
pub record IsClosed (k : Run) (st : State) (end : RunEnd) (steps : List Step) : Type 0 where
  pub over : (world_of k steps).over ≡ Some end
  pub state : (world_of k steps).state ≡ st
  pub written : written_of k steps ≡ k.lines
  pub passed : map plain (passed_of k steps) ≡ map plain k.all
  pub driven : OfChannels k (λ d c. IsDriven k.script k.mode k.budget steps d c)

pub closes : (k : Run) (steps : List Step) (st : State) (end : RunEnd) → Past k steps st end → (next : List Step) × IsClosed k st end next
closes k steps st end past =
    let all = close_all k st end (suc (length k.channels)) steps (first_closing k steps st end past) in (
      all.0,
      record {
        over = ap (λ (w : World). w.over) all.1.is;
        state = ap (λ (w : World). w.state) all.1.is;
        written = all.1.written;
        passed = all.1.passed;
        driven = λ d c has. let closed = all.1.done d c has (omega arith) in record {
          road = closed.road;
          there = ap (λ (w : World). road_at w d) all.1.is ∙ closed.there;
          taken = closed.taken;
          sent = closed.sent;
          waiting = closed.waiting;
          outbox = closed.outbox;
        };
      },
    )
