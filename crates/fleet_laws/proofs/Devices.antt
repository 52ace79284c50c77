-- How a device stands in the midst of a run: its road in the world, its driver, and what its record says of the rest.
use Rattle.std.proofs.Common.{◌≡◌, ℕ, ◌+◌, ◌≤◌, Bool, List, [], ◌∷◌, ◌++◌, length, map, Option, Some, None, refl, ap, sym, subst, ◌∙◌, arith}
use Rattle.std.specs.Prelude.{if◌then◌else◌}
use Rattle.std.proofs.lemmas.List.{append-nil, append_assoc, length-append}
use Rattle.device_model.specs.declared.messages.Ending.{Ending}
use Rattle.device_model.specs.declared.messages.Message.{Message}
use Rattle.device_model.specs.declared.messages.Message.TheVariants as message
use Rattle.device_model.specs.Devices.Tables.{Link}
use Rattle.driver_model.specs.Cores.{Core}
use Rattle.driver_model.specs.Drives.{Event, ran}
use Rattle.fleet_model.specs.Records.{IsFront, Joined}
use Rattle.run_model.specs.Passings.{Gives, Passing, Takes, endings_of, given_from, messages_to}
use Rattle.run_model.specs.Told.{EachAtMost, untold}
use Rattle.world_model.specs.Roads.{Road, joined_to}
use Rattle.fleet_laws.proofs.DriverRuns.{Sends, driving, will_send}
use Rattle.fleet_laws.proofs.OneRoad.{Goes, at_rest}
use Rattle.fleet_laws.proofs.Sorted.{endings_behind, given_behind, messages_behind, out_or, test_apart, test_same}

-- the endings that the run takes in from now on are the next of those that the driver sends, and tell no more messages than the device
-- will have been given by then
pub record Hears (d n : ℕ) (passings : List Passing) (sends : List Ending) : Type 0 where
  pub front : List Ending
  pub rest : List Ending
  pub all : sends ≡ front ++ rest
  pub same : map untold front ≡ map untold (endings_of d passings)
  pub given : EachAtMost (map (λ (e : Ending). e.taken) front) (given_from n d passings)

-- a device with its road, where so much is yet to pass in the run, and its driver has taken and sent so much
pub record Stays (d : ℕ) (c : Joined) (passings : List Passing) (slot : Option Road) (taken : List Message) (sent : List Ending) : Type 0 where
  pub waiting : List Message
  pub core : Core
  pub there : slot ≡ Some (at_rest waiting core [])
  -- its driver comes to where it ends
  pub events : List Event
  pub last : Core
  pub run : ran (driving core taken sent) events ≡ driving last c.taken c.sent
  pub counted : core.taken ≡ length taken
  -- what was handed in the end is what it has taken, what waits, what it will be given, and a Stop
  pub front : IsFront c.taken c.handed
  pub handed : c.handed ≡ taken ++ (waiting ++ (messages_to d passings ++ message.Stop d ∷ []))
  pub sends : List Ending
  pub sends_all : c.sent ≡ sent ++ sends
  pub hears : Hears d (length taken + length waiting) passings sends

-- ---- messages are given

hears_behind : (d n : ℕ) (ms : List Message) (later : List Passing) (sends : List Ending) → Hears d n (map Gives ms ++ later) sends → Hears d (n + length (messages_to d (map Gives ms))) later sends
hears_behind d n ms later sends hears = record {
  front = hears.front;
  rest = hears.rest;
  all = hears.all;
  same = hears.same ∙ ap (λ (xs : List Ending). map untold xs) (endings_behind d ms later);
  given = subst (λ (ns : List ℕ). EachAtMost (map (λ (e : Ending). e.taken) hears.front) ns) (given_behind d ms later n) hears.given;
}

more_waiting : (link : Option Link) (waiting : List Message) (core : Core) (slot : Option Road) → slot ≡ Some (at_rest waiting core []) → joined_to link slot ≡ Some (at_rest (waiting ++ out_or link) core [])
more_waiting None waiting core None there = absurd (cc there)
more_waiting None waiting core (Some road) there = there ∙ ap (λ (xs : List Message). Some (at_rest xs core [])) (sym (append-nil waiting))
more_waiting (Some link) waiting core slot there = ap (λ (it : Option Road). joined_to (Some link) it) there

-- the messages of a state that are given to a device join those that wait on its road
pub given_stays : (d : ℕ) (c : Joined) (ms : List Message) (later : List Passing) (link : Option Link) (slot : Option Road) (taken : List Message) (sent : List Ending) → messages_to d (map Gives ms) ≡ out_or link →
    Stays d c (map Gives ms ++ later) slot taken sent → Stays d c later (joined_to link slot) taken sent
given_stays d c ms later link slot taken sent its stays = record {
  waiting = stays.waiting ++ out_or link;
  core = stays.core;
  there = more_waiting link stays.waiting stays.core slot stays.there;
  events = stays.events;
  last = stays.last;
  run = stays.run;
  counted = stays.counted;
  front = stays.front;
  handed = stays.handed ∙ ap (λ (xs : List Message). taken ++ xs) way;
  sends = stays.sends;
  sends_all = stays.sends_all;
  hears = subst (λ (n : ℕ). Hears d n later stays.sends) many (hears_behind d (length taken + length stays.waiting) ms later stays.sends stays.hears);
}
  where
    stop : List Message
    stop = message.Stop d ∷ []

    way : stays.waiting ++ (messages_to d (map Gives ms ++ later) ++ stop) ≡ (stays.waiting ++ out_or link) ++ (messages_to d later ++ stop)
    way =
        ap (λ (xs : List Message). stays.waiting ++ (xs ++ stop)) (messages_behind d ms later ∙ ap (λ (xs : List Message). xs ++ messages_to d later) its)
        ∙ ap (λ (xs : List Message). stays.waiting ++ xs) (append_assoc (out_or link) (messages_to d later) stop)
        ∙ sym (append_assoc stays.waiting (out_or link) (messages_to d later ++ stop))

    many : (length taken + length stays.waiting) + length (messages_to d (map Gives ms)) ≡ length taken + length (stays.waiting ++ out_or link)
    many = let its_many = ap (λ (xs : List Message). length xs) its in let both = length-append stays.waiting (out_or link) in omega (arith, its_many, both)

-- ---- an ending is taken in

-- from another device
pub other_stays : (d : ℕ) (c : Joined) (e : Ending) (later : List Passing) (slot : Option Road) (taken : List Message) (sent : List Ending) → (e.device ≡ d → ⊥) →
    Stays d c (Takes e ∷ later) slot taken sent → Stays d c later slot taken sent
unfolding messages_to endings_of given_from
other_stays d c e later slot taken sent apart stays = record {
  waiting = stays.waiting;
  core = stays.core;
  there = stays.there;
  events = stays.events;
  last = stays.last;
  run = stays.run;
  counted = stays.counted;
  front = stays.front;
  handed = stays.handed;
  sends = stays.sends;
  sends_all = stays.sends_all;
  hears = record {
    front = stays.hears.front;
    rest = stays.hears.rest;
    all = stays.hears.all;
    same = stays.hears.same ∙ ap (λ (test : Bool). map untold (if test then e ∷ endings_of d later else endings_of d later)) (test_apart e.device d apart);
    given = subst (λ (test : Bool). EachAtMost (map (λ (e : Ending). e.taken) stays.hears.front) (if test then (length taken + length stays.waiting) ∷ given_from (length taken + length stays.waiting) d later else given_from (length taken + length stays.waiting) d later))
        (test_apart e.device d apart) stays.hears.given;
  };
}

-- the next that is heard, and the others
record HearsOne (d n : ℕ) (e : Ending) (later : List Passing) (sends : List Ending) : Type 0 where
  pub first : Ending
  pub others : List Ending
  pub all : sends ≡ first ∷ others
  pub same : untold first ≡ untold e
  pub given : first.taken ≤ n
  pub hears : Hears d n later others

first_heard : (d n : ℕ) (e : Ending) (later : List Passing) (sends front rest : List Ending) → sends ≡ front ++ rest → map untold front ≡ map untold (e ∷ endings_of d later) →
    EachAtMost (map (λ (e : Ending). e.taken) front) (n ∷ given_from n d later) → HearsOne d n e later sends
unfolding EachAtMost
first_heard d n e later sends [] rest all same given = absurd (cc same)
first_heard d n e later sends (first ∷ front) rest all same given = record {
  first = first;
  others = front ++ rest;
  all = all;
  same = cc same;
  given = given.0;
  hears = record { front = front; rest = rest; all = refl; same = cc same; given = given.1 };
}

hears_one : (d n : ℕ) (e : Ending) (later : List Passing) (sends : List Ending) → e.device ≡ d → Hears d n (Takes e ∷ later) sends → HearsOne d n e later sends
unfolding endings_of given_from
hears_one d n e later sends is hears =
    first_heard d n e later sends hears.front hears.rest hears.all
    (hears.same ∙ ap (λ (test : Bool). map untold (if test then e ∷ endings_of d later else endings_of d later)) (test_same e.device d is))
    (subst (λ (test : Bool). EachAtMost (map (λ (e : Ending). e.taken) hears.front) (if test then n ∷ given_from n d later else given_from n d later)) (test_same e.device d is) hears.given)

-- the steps of a device up to an ending that is taken in next, and how it stands once that has come out of its outbox
pub record Ends (d : ℕ) (c : Joined) (e : Ending) (later : List Passing) (slot : Option Road) (taken : List Message) (sent : List Ending) : Type 0 where
  pub ending : Ending
  pub same : untold ending ≡ untold e
  pub road : Road
  pub there : slot ≡ Some road
  pub core : Core
  pub waiting : List Message
  pub took : List Message
  pub goes : Goes d road (at_rest waiting core (ending ∷ [])) took (ending ∷ [])
  pub stays : Stays d c later (Some (at_rest waiting core [])) (taken ++ took) (sent ++ ending ∷ [])

pub it_ends : (d : ℕ) (c : Joined) (e : Ending) (later : List Passing) (slot : Option Road) (taken : List Message) (sent : List Ending) → e.device ≡ d →
    Stays d c (Takes e ∷ later) slot taken sent → Ends d c e later slot taken sent
unfolding messages_to
it_ends d c e later slot taken sent is stays = record {
  ending = one.first;
  same = one.same;
  road = at_rest stays.waiting stays.core [];
  there = stays.there;
  core = sends.now;
  waiting = sends.left;
  took = sends.took;
  goes = sends.goes;
  stays = record {
    waiting = sends.left;
    core = sends.now;
    there = refl;
    events = sends.events;
    last = stays.last;
    run = sends.run;
    counted = sends.counted;
    front = stays.front;
    handed = stays.handed
        ∙ ap (λ (xs : List Message). taken ++ (xs ++ to_come)) sends.parts
        ∙ ap (λ (xs : List Message). taken ++ xs) (append_assoc sends.took sends.left to_come)
        ∙ sym (append_assoc taken sends.took (sends.left ++ to_come));
    sends = one.others;
    sends_all = sent_all ∙ sym (append_assoc sent (one.first ∷ []) one.others);
    hears = subst (λ (n : ℕ). Hears d n later one.others) many one.hears;
  };
}
  where
    to_come : List Message
    to_come = messages_to d later ++ message.Stop d ∷ []

    one : HearsOne d (length taken + length stays.waiting) e later stays.sends
    one = hears_one d (length taken + length stays.waiting) e later stays.sends is stays.hears

    sent_all : c.sent ≡ sent ++ (one.first ∷ one.others)
    sent_all = stays.sends_all ∙ ap (λ (xs : List Ending). sent ++ xs) one.all

    sends : Sends d stays.waiting stays.core taken sent one.first (driving stays.last c.taken c.sent)
    sends = will_send d one.first (driving stays.last c.taken c.sent) stays.events stays.waiting stays.core taken sent (record {
      leads = stays.run;
      more = one.others;
      sends = sent_all;
      handed = c.handed;
      later = to_come;
      front = stays.front;
      all = stays.handed;
      counted = stays.counted;
      told = one.given;
    })

    many : length taken + length stays.waiting ≡ length (taken ++ sends.took) + length sends.left
    many =
        let parts = ap (λ (xs : List Message). length xs) sends.parts in
        let both = length-append sends.took sends.left in
        let all = length-append taken sends.took in
        omega (arith, parts, both, all)
