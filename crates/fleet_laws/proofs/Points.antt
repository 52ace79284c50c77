-- Worlds in the midst of a run, and what the kernel's steps make of them.
use Rattle.std.proofs.Common.{◌≡◌, ℕ, Bool, true, false, List, [], ◌∷◌, ◌++◌, map, Option, Some, None, refl, ap, sym, subst, ◌∙◌, arith}
use Rattle.std.specs.Prelude.{◌==◌, if◌then◌else◌}
use Rattle.std.specs.Option.{is_some}
use Rattle.std.proofs.lemmas.List.{append-nil}
use Rattle.tk_types.specs.declared.line.Line.{Line}
use Rattle.tk_types.specs.declared.run.End.{End as RunEnd}
use Rattle.tk_types.specs.declared.run.Mode.{Mode}
use Rattle.tk_types.specs.declared.script.Script.{Script}
use Rattle.kernel_model.specs.Words.Orders.{entry}
use Rattle.device_model.specs.declared.messages.Ending.{Ending}
use Rattle.device_model.specs.declared.messages.Message.{Message}
use Rattle.device_model.specs.declared.messages.Message.TheVariants as message
use Rattle.device_model.specs.Devices.Handing.{link_emptied, messages}
use Rattle.device_model.specs.Devices.Tables.{Link, link_at}
use Rattle.device_lemmas.proofs.Emptied.{emptied_at}
use Rattle.fleet_model.specs.Fleets.{device_of}
use Rattle.fleet_model.specs.Records.{Joined, joined_in}
use Rattle.machine_model.specs.States.State.{State, taken}
use Rattle.run_model.specs.Passings.{Gives, Passing, Takes, endings_of, gives}
use Rattle.world_model.specs.Roads.{Road, joined, joined_to, roads_from, stop_to, stops_joined}
use Rattle.world_model.specs.Worlds.{Step, World, all_stepped, devices_of, road_at, world_after, world_start}
use Rattle.world_laws.specs.Sound.{Each, IsRight}
use Rattle.world_laws.proofs.Everywhere.{always_sound}
use Rattle.world_laws.proofs.Sounds.{AreSound}
use Rattle.world_laws.proofs.Worlds.{joined_at, stops_at}
use Rattle.fleet_laws.specs.Doings.{gathered, writes_at}
use Rattle.fleet_laws.specs.Embeds.{plain, world_passings, world_sent, world_taken}
use Rattle.fleet_laws.proofs.Devices.{Stays, given_stays}
use Rattle.fleet_laws.proofs.Gathers.{gathered_on, stepped_on}
use Rattle.fleet_laws.proofs.Sorted.{OfDevice, its_messages, out_or}

-- a run: its script, mode and budget, all that passes in it, its lines behind the start, and a record, which has a channel for each
-- device
pub record Run : Type 0 where
  pub script : Script
  pub mode : Mode
  pub budget : ℕ
  pub all : List Passing
  pub lines : List Line
  pub channels : List Joined
  pub complete : (d : ℕ) → is_some (joined_in channels d) ≡ is_some (entry (None ∷ roads_from 1 script.devices) d)

-- the world of a run after steps, what passed in it and was written, and what the driver of a device did
abbrev pub world_of : Run → List Step → World
world_of k steps = world_after k.script k.mode k.budget steps

abbrev pub passed_of : Run → List Step → List Passing
passed_of k steps = world_passings k.script k.mode k.budget steps

abbrev pub written_of : Run → List Step → List Line
written_of k steps = gathered writes_at (world_start k.script k.mode k.budget) steps

abbrev pub taken_of : Run → List Step → ℕ → List Message
taken_of k steps d = world_taken k.script k.mode k.budget steps d

abbrev pub sent_of : Run → List Step → ℕ → List Ending
sent_of k steps d = world_sent k.script k.mode k.budget steps d

-- a world of the run
abbrev pub going : Run → State → Option RunEnd → List (Option Road) → World
going k st over roads = record { script = k.script; mode = k.mode; budget = k.budget; state = st; over = over; roads = roads }

-- each device with its channel
abbrev pub OfChannels : Run → (ℕ → Joined → Type 0) → Type 0
OfChannels k P = (d : ℕ) (c : Joined) → joined_in k.channels d ≡ Some c → P d c

-- after these steps the world is in a state, so much is yet to be written and to pass, and each device stays so
pub record Point (k : Run) (steps : List Step) (st : State) (lines : List Line) (later : List Passing) : Type 0 where
  pub roads : List (Option Road)
  pub is : world_of k steps ≡ going k st None roads
  pub written : written_of k steps ++ lines ≡ k.lines
  pub passed : map plain (passed_of k steps ++ later) ≡ map plain k.all
  pub each : OfChannels k (λ d c. Stays d c later (entry roads d) (taken_of k steps d) (sent_of k steps d))
  pub came : OfChannels k (λ d c. endings_of d (passed_of k steps) ≡ sent_of k steps d)

-- ---- what is done at more steps

-- the same, where more was done that is as nothing
pub stays_so : (d : ℕ) (c : Joined) (later : List Passing) (slot : Option Road) (messages now : List Message) (endings other : List Ending) → now ≡ messages → other ≡ endings →
    Stays d c later slot messages endings → Stays d c later slot now other
stays_so d c later slot messages now endings other is also stays =
    subst (λ (ms : List Message). Stays d c later slot ms other) (sym is) (subst (λ (es : List Ending). Stays d c later slot messages es) (sym also) stays)

-- what was done at more steps
pub more_of : {A : Type 0} → (at : World → Step → List A) (k : Run) (steps more : List Step) (w : World) (xs : List A) → world_of k steps ≡ w → gathered at w more ≡ xs →
    gathered at (world_start k.script k.mode k.budget) (steps ++ more) ≡ gathered at (world_start k.script k.mode k.budget) steps ++ xs
more_of {A = A} at k steps more w xs is gives =
    gathered_on at (world_start k.script k.mode k.budget) steps more
    ∙ ap (λ (it : World). gathered at (world_start k.script k.mode k.budget) steps ++ gathered at it more) is
    ∙ ap (λ (ys : List A). gathered at (world_start k.script k.mode k.budget) steps ++ ys) gives

pub none_of : {A : Type 0} → (at : World → Step → List A) (k : Run) (steps more : List Step) (w : World) → world_of k steps ≡ w → gathered at w more ≡ [] →
    gathered at (world_start k.script k.mode k.budget) (steps ++ more) ≡ gathered at (world_start k.script k.mode k.budget) steps
none_of {A = A} at k steps more w is gives = more_of at k steps more w [] is gives ∙ append-nil (gathered at (world_start k.script k.mode k.budget) steps)

pub world_then : (k : Run) (steps more : List Step) (w now : World) → world_of k steps ≡ w → all_stepped w more ≡ now → world_of k (steps ++ more) ≡ now
world_then k steps more w now is leads = stepped_on (world_start k.script k.mode k.budget) steps more ∙ ap (λ (it : World). all_stepped it more) is ∙ leads

-- the endings of what passed, and of what passed then
pub endings_on : (d : ℕ) (first later : List Passing) → endings_of d (first ++ later) ≡ endings_of d first ++ endings_of d later
unfolding endings_of
endings_on d [] later = refl
endings_on d (Gives m ∷ first) later = endings_on d first later
endings_on d (Takes e ∷ first) later = by_test (e.device == d) (endings_on d first later)
  where
    by_test : (test : Bool) → endings_of d (first ++ later) ≡ endings_of d first ++ endings_of d later →
        (if test then e ∷ endings_of d (first ++ later) else endings_of d (first ++ later)) ≡ (if test then e ∷ endings_of d first else endings_of d first) ++ endings_of d later
    by_test true is = ap (λ (xs : List Ending). e ∷ xs) is
    by_test false is = is

given_endings : (d : ℕ) (ms : List Message) → endings_of d (map Gives ms) ≡ []
unfolding endings_of
given_endings d [] = refl
given_endings d (m ∷ ms) = given_endings d ms

pub gives_none : (d : ℕ) (now : State) → endings_of d (gives now) ≡ []
gives_none d now = given_endings d (messages now.objects.devices)

-- ---- messages are of their devices

both_parts : {A : Type 0} → (P : A → Type 0) (first later : List A) → Each P (first ++ later) → Each P first × Each P later
both_parts P [] later each = (tt, each)
both_parts P (x ∷ first) later each = let parts = both_parts P first later each.1 in ((each.0, parts.0), parts.1)

right_device : (over : Bool) (d : ℕ) (link : Link) (m : Message) → IsRight over d link m → device_of m ≡ d
right_device over d link (message.Serve device request) is = is.0
right_device over d link (message.Abort device number) is = is
right_device over d link (message.Stop device) is = is.0

right_devices : (over : Bool) (d : ℕ) (link : Link) (ms : List Message) → Each (IsRight over d link) ms → OfDevice d ms
right_devices over d link [] each = tt
right_devices over d link (m ∷ ms) each = (right_device over d link m each.0, right_devices over d link ms each.1)

-- those of a link that have joined the road are
joined_right : (over : Bool) (d : ℕ) (link : Option Link) (slot : Option Road) → AreSound over d (link_emptied link) (joined_to link slot) → OfDevice d (out_or link)
joined_right over d None slot are = tt
joined_right over d (Some link) None are = absurd are
joined_right over d (Some link) (Some road) are =
    let way = both_parts (IsRight over d (record link { out = [] })) road.inbox (road.waiting ++ link.out) are.right in
    right_devices over d (record link { out = [] }) link.out (both_parts (IsRight over d (record link { out = [] })) road.waiting link.out way.1).1

-- so they are where a Stop joined them
stopped_right : (d : ℕ) (link : Option Link) (slot : Option Road) → AreSound true d (link_emptied link) (stop_to d (joined_to link slot)) → OfDevice d (out_or link)
stopped_right d None slot are = tt
stopped_right d (Some link) None are = absurd are
stopped_right d (Some link) (Some road) are =
    let way = both_parts (IsRight true d (record link { out = [] })) road.inbox ((road.waiting ++ link.out) ++ message.Stop d ∷ []) are.right in
    let given = both_parts (IsRight true d (record link { out = [] })) (road.waiting ++ link.out) (message.Stop d ∷ []) way.1 in
    right_devices true d (record link { out = [] }) link.out (both_parts (IsRight true d (record link { out = [] })) road.waiting link.out given.0).1

-- a world that there is is sound
pub sound_at : (k : Run) (steps : List Step) (st : State) (over : Option RunEnd) (roads : List (Option Road)) → world_of k steps ≡ going k st over roads → (d : ℕ) →
    AreSound (is_some over) d (link_at st.objects.devices d) (entry roads d)
sound_at k steps st over roads is d =
    subst (λ (w : World). AreSound (is_some w.over) d (link_at (devices_of w) d) (road_at w d)) is (always_sound k.script k.mode k.budget steps d)

abbrev pub links_of : State → List (Option Link)
links_of st = st.objects.devices.links

came_right : (k : Run) (steps : List Step) (now : State) (roads : List (Option Road)) → world_of k steps ≡ going k (taken now) None (joined (links_of now) roads) → (d : ℕ) → OfDevice d (out_or (entry (links_of now) d))
came_right k steps now roads is d =
    joined_right false d (entry (links_of now) d) (entry roads d)
    (subst (λ (slot : Option Road). AreSound false d (link_emptied (entry (links_of now) d)) slot) (joined_at (links_of now) roads d)
    (subst (λ (slot : Option Link). AreSound false d slot (entry (joined (links_of now) roads) d)) (emptied_at now.objects.devices d)
    (sound_at k steps (taken now) None (joined (links_of now) roads) is d)))

pub over_right : (k : Run) (steps : List Step) (now : State) (end : RunEnd) (roads : List (Option Road)) → world_of k steps ≡ going k (taken now) (Some end) (stops_joined 0 (joined (links_of now) roads)) → (d : ℕ) →
    OfDevice d (out_or (entry (links_of now) d))
over_right k steps now end roads is d =
    stopped_right d (entry (links_of now) d) (entry roads d)
    (subst (λ (slot : Option Road). AreSound true d (link_emptied (entry (links_of now) d)) slot)
    (stops_at 0 (joined (links_of now) roads) d ∙ ap (λ (n : ℕ). stop_to n (entry (joined (links_of now) roads) d)) (omega arith) ∙ ap (λ (slot : Option Road). stop_to d slot) (joined_at (links_of now) roads d))
    (subst (λ (slot : Option Link). AreSound true d slot (entry (stops_joined 0 (joined (links_of now) roads)) d)) (emptied_at now.objects.devices d)
    (sound_at k steps (taken now) (Some end) (stops_joined 0 (joined (links_of now) roads)) is d)))

-- ---- the kernel came to a state

-- its messages join those that wait
pub came_stays : (d : ℕ) (c : Joined) (now : State) (later : List Passing) (roads : List (Option Road)) (messages : List Message) (endings : List Ending) → ((i : ℕ) → OfDevice i (out_or (entry (links_of now) i))) →
    Stays d c (gives now ++ later) (entry roads d) messages endings → Stays d c later (joined_to (entry (links_of now) d) (entry roads d)) messages endings
unfolding messages
came_stays d c now later roads taken sent right stays =
    given_stays d c (messages now.objects.devices) later (entry (links_of now) d) (entry roads d) taken sent (its_messages (links_of now) d right) stays

pub came_point : (k : Run) (steps : List Step) (now : State) (lines : List Line) (later : List Passing) (roads : List (Option Road)) → world_of k steps ≡ going k (taken now) None (joined (links_of now) roads) →
    written_of k steps ++ lines ≡ k.lines → map plain (passed_of k steps ++ later) ≡ map plain k.all →
    OfChannels k (λ d c. Stays d c (gives now ++ later) (entry roads d) (taken_of k steps d) (sent_of k steps d)) →
    OfChannels k (λ d c. endings_of d (passed_of k steps) ≡ sent_of k steps d) → Point k steps (taken now) lines later
came_point k steps now lines later roads is written passed each came = record {
  roads = joined (links_of now) roads;
  is = is;
  written = written;
  passed = passed;
  each = λ d c has. subst (λ (slot : Option Road). Stays d c later slot (taken_of k steps d) (sent_of k steps d)) (sym (joined_at (links_of now) roads d))
      (came_stays d c now later roads (taken_of k steps d) (sent_of k steps d) (came_right k steps now roads is) (each d c has));
  came = came;
}
