-- What holds of the devices in every state of a run between steps: each message that waits to be taken is a good one, and none waits.
use Rattle.std.proofs.Common.{◌≡◌, ℕ, zero, suc, ◌+◌, ◌≤◌, length, List, [], ◌∷◌, Option, Some, None, refl, ap, sym, subst, ◌∙◌, arith}
use Rattle.std.specs.Prelude.{map, replicate}
use Rattle.std.specs.Option.{option_map}
use Rattle.tk_types.specs.declared.run.End.{End}
use Rattle.tk_types.specs.declared.run.Mode.{Mode}
use Rattle.tk_types.specs.declared.script.Device.{Device}
use Rattle.tk_types.specs.declared.script.Script.{Script}
use Rattle.kernel_model.specs.Words.Orders.{entry}
use Rattle.device_model.specs.declared.messages.Ending.{Ending}
use Rattle.device_model.specs.declared.messages.Message.{Message}
use Rattle.device_model.specs.declared.messages.Message.TheVariants as message
use Rattle.device_model.specs.Units.Function.{Served}
use Rattle.device_model.specs.Devices.Endings.{DevParts, arrive, served_of}
use Rattle.device_model.specs.Devices.Handing.{emptied, link_emptied, messages}
use Rattle.device_model.specs.Devices.Tables.{Devices, Given, Link, Row, devices_start, link_at, link_start}
use Rattle.device_lemmas.proofs.Emptied.{emptied_at}
use Rattle.machine_model.specs.States.Objects.{dev_parts, with_devices}
use Rattle.machine_model.specs.States.State.{State, parts_of, state_start, taken, with_parts}
use Rattle.machine_model.specs.Events.Arrivals.{after_arrival, arrived}
use Rattle.machine_model.specs.Events.Follow.{Event}
use Rattle.machine_model.specs.Runs.Step.{Needs, Pace, Went, step}
use Rattle.machine_model.specs.Runs.Trace.{start}
use Rattle.fleet_model.specs.Fleets.{device_of}
use Rattle.run_model.specs.SoFar.{IsSoFar, SoFar, begins, goes_on, needs, takes_in}
use Rattle.world_laws.specs.Sound.{Each}
use Rattle.world_laws.proofs.Arrivals.{HasArrived, closed_keeps, has_arrived}
use Rattle.world_laws.proofs.DeviceWalk.{OfPace, dispatched_keeps, followed_keeps, step_keeps}
use Rattle.way_lemmas.specs.Ways.{IsGoodMessage}
use Rattle.way_lemmas.proofs.Outs.{AreFor, all_messages, each_both, each_more, out_in}
use Rattle.way_lemmas.proofs.Slots.{IsSlotProof, OnEach, ended_each, slot_moves}

-- ---- good messages

-- a message is for this device, which is one of so many
pub record IsGoodFor (n d : ℕ) (m : Message) : Type 0 where
  pub for : device_of m ≡ d
  pub good : IsGoodMessage n m

-- a device that there is has a number of so many, and its messages are good
pub record IsGoodLink (n d : ℕ) (link : Link) : Type 0 where
  pub first : 1 ≤ d
  pub last : d ≤ n
  pub out : Each (IsGoodFor n d) link.out

abbrev pub IsGoodSlot : ℕ → ℕ → Option Link → Type 0
IsGoodSlot n d None = Unit {0}
IsGoodSlot n d (Some link) = IsGoodLink n d link

-- so it stays
pub good_slots : (n : ℕ) → IsSlotProof (IsGoodSlot n)
good_slots n = record {
  hands = λ d link request none whole good. record {
    first = good.first;
    last = good.last;
    out = each_both (IsGoodFor n d) link.out (message.Serve d request ∷ []) good.out (record { for = refl; good = record { first = good.first; last = good.last; rest = whole } }, tt);
  };
  asks = λ d link given has not good. record {
    first = good.first;
    last = good.last;
    out = each_both (IsGoodFor n d) link.out (message.Abort d given.request.number ∷ []) good.out (record { for = refl; good = record { first = good.first; last = good.last; rest = tt } }, tt);
  };
}

-- ---- between steps

-- so it is of all devices, and no message waits to be taken
pub record Sound (script : Script) (dv : Devices) : Type 0 where
  pub good : OnEach (IsGoodSlot (length script.devices)) dv
  pub empty : (d : ℕ) → out_in (link_at dv d) ≡ []

none_left : (slot : Option Link) → out_in (link_emptied slot) ≡ []
none_left None = refl
none_left (Some link) = refl

good_left : (n d : ℕ) (slot : Option Link) → IsGoodSlot n d slot → IsGoodSlot n d (link_emptied slot)
good_left n d None good = tt
good_left n d (Some link) good = record { first = good.first; last = good.last; out = tt }

-- the messages are taken
pub taken_on : (Q : ℕ → Option Link → Type 0) → ((d : ℕ) (slot : Option Link) → Q d slot → Q d (link_emptied slot)) → (dv : Devices) → OnEach Q dv → OnEach Q (emptied dv)
unfolding emptied
taken_on Q takes dv each = record { slots = λ d. subst (Q d) (sym (emptied_at dv d)) (takes d (link_at dv d) (each.slots d)); rows = each.rows }

pub taken_sound : (script : Script) (dv : Devices) → OnEach (IsGoodSlot (length script.devices)) dv → Sound script (emptied dv)
taken_sound script dv each = record {
  good = taken_on (IsGoodSlot (length script.devices)) (good_left (length script.devices)) dv each;
  empty = λ d. ap out_in (emptied_at dv d) ∙ none_left (link_at dv d);
}

-- ---- the start

none_there : (n id : ℕ) (row : Row) → entry (replicate n None) id ≡ Some row → ⊥
none_there zero id row there = cc there
none_there (suc n) zero row there = cc there
none_there (suc n) (suc id) row there = none_there n id row there

start_slots : (n : ℕ) (devices : List Device) (from d : ℕ) → 1 ≤ from → from + length devices ≤ n + 1 → IsGoodSlot n (from + d) (entry (map link_start devices) d)
start_slots n [] from d some few = tt
start_slots n (device ∷ devices) from zero some few = record { first = omega (arith, some); last = omega (arith, few); out = tt }
start_slots n (device ∷ devices) from (suc d) some few =
    subst (λ (j : ℕ). IsGoodSlot n j (entry (map link_start devices) d)) (omega arith) (start_slots n devices (suc from) d (omega (arith, some)) (omega (arith, few)))

start_good : (devices : List Device) (d : ℕ) → IsGoodSlot (length devices) d (entry (None ∷ map link_start devices) d)
start_good devices zero = tt
start_good devices (suc d) = subst (λ (j : ℕ). IsGoodSlot (length devices) j (entry (map link_start devices) d)) (omega arith) (start_slots (length devices) devices 1 d (omega arith) (omega arith))

start_out : (devices : List Device) (d : ℕ) → out_in (entry (map link_start devices) d) ≡ []
start_out [] d = refl
start_out (device ∷ devices) zero = refl
start_out (device ∷ devices) (suc d) = start_out devices d

start_empty : (devices : List Device) (d : ℕ) → out_in (entry (None ∷ map link_start devices) d) ≡ []
start_empty devices zero = refl
start_empty devices (suc d) = start_out devices d

devices_sound : (script : Script) → Sound script (devices_start script)
unfolding devices_start
devices_sound script = record {
  good = record { slots = start_good script.devices; rows = λ id row there. absurd (none_there 65 id row there) };
  empty = start_empty script.devices;
}

pub start_sound : (script : Script) → Sound script (start script).state.objects.devices
unfolding start state_start
start_sound script = dispatched_keeps (Sound script) 0 (state_start script) (devices_sound script)

-- ---- what a step, a need, and an ending come to

-- a word that every move keeps holds after a step
pub went_on : (P : Devices → Type 0) (pace : Pace) (event : Event) (over : Option End) → pace ≡ Went event over → OfPace P pace → P event.state.objects.devices
went_on P pace event over is has = subst (OfPace P) is has

pub needs_on : (P : Devices → Type 0) (pace : Pace) (waiting : State) → pace ≡ Needs waiting → OfPace P pace → P waiting.objects.devices
needs_on P pace waiting is has = subst (OfPace P) is has

-- a word that held of the devices holds after a step, and where an ending is needed
pub step_on : (Q : ℕ → Option Link → Type 0) → IsSlotProof Q → (script : Script) (mode : Mode) (budget : ℕ) (st : State) (event : Event) (over : Option End) →
    step script mode budget st ≡ Went event over →
    OnEach Q st.objects.devices → OnEach Q event.state.objects.devices
step_on Q is script mode budget st event over went has =
    went_on (OnEach Q) (step script mode budget st) event over went (step_keeps (OnEach Q) (slot_moves Q is) script mode budget st has)

pub need_on : (Q : ℕ → Option Link → Type 0) → IsSlotProof Q → (script : Script) (mode : Mode) (budget : ℕ) (st waiting : State) → step script mode budget st ≡ Needs waiting →
    OnEach Q st.objects.devices → OnEach Q waiting.objects.devices
need_on Q is script mode budget st waiting needed has =
    needs_on (OnEach Q) (step script mode budget st) waiting needed (step_keeps (OnEach Q) (slot_moves Q is) script mode budget st has)

some_event : (P : Devices → Type 0) (script : Script) (mode : Mode) (st : State) (e : Ending) (event : Event) (parts : Option DevParts) → arrive (dev_parts (parts_of st)) e ≡ parts →
    option_map (after_arrival script mode (st.steps + 1) st e) parts ≡ Some event →
    ((q : DevParts) → HasArrived (dev_parts (parts_of st)) e q → P (after_arrival script mode (st.steps + 1) st e q).state.objects.devices) → P event.state.objects.devices
some_event P script mode st e event None is comes each = absurd (cc comes)
some_event P script mode st e event (Some q) is comes each =
    let same : after_arrival script mode (st.steps + 1) st e q ≡ event = cc comes in
    subst (λ (it : Event). P it.state.objects.devices) same (each q (has_arrived (dev_parts (parts_of st)) q e is))

-- once an ending has arrived, another word may hold of its device, where it holds of the other devices already
pub arrived_on : (Q R : ℕ → Option Link → Type 0) → IsSlotProof R → (script : Script) (mode : Mode) (st : State) (e : Ending) (event : Event) → arrived script mode st e ≡ Some event →
    ((link : Link) (given : Given) (served : Served) → link_at st.objects.devices e.device ≡ Some link → link.given ≡ Some given →
    Q e.device (Some link) → R e.device (Some (record link { store = served.store; given = None }))) →
    ((j : ℕ) (slot : Option Link) → (j ≡ e.device → ⊥) → Q j slot → R j slot) → OnEach Q st.objects.devices → OnEach R event.state.objects.devices
unfolding arrived
arrived_on Q R is script mode st e event comes ends others has =
    some_event (OnEach R) script mode st e event (arrive (dev_parts (parts_of st)) e) refl comes
    (λ q a. followed_keeps (OnEach R) (slot_moves R is) script mode (st.steps + 1) (with_parts st (with_devices (parts_of st) q))
    (subst (OnEach R) a.is (closed_keeps (OnEach R) (slot_moves R is) st.base _ a.given.request.id a.row.descriptor
    (ended_each Q R st.objects.devices e.device a.link a.given.request.id a.row (served_of a.link.kind a.link.store a.given.request e.how) a.linked
    (ends a.link a.given (served_of a.link.kind a.link.store a.given.request e.how) a.linked a.has) others has))))

-- ---- all runs

pub good_went : (script : Script) (mode : Mode) (budget : ℕ) (st : State) (event : Event) (over : Option End) → step script mode budget st ≡ Went event over → Sound script st.objects.devices →
    OnEach (IsGoodSlot (length script.devices)) event.state.objects.devices
good_went script mode budget st event over is sound = step_on (IsGoodSlot (length script.devices)) (good_slots (length script.devices)) script mode budget st event over is sound.good

pub good_waiting : (script : Script) (mode : Mode) (budget : ℕ) (st waiting : State) → step script mode budget st ≡ Needs waiting → Sound script st.objects.devices →
    OnEach (IsGoodSlot (length script.devices)) waiting.objects.devices
good_waiting script mode budget st waiting is sound = need_on (IsGoodSlot (length script.devices)) (good_slots (length script.devices)) script mode budget st waiting is sound.good

pub good_arrived : (script : Script) (mode : Mode) (st : State) (e : Ending) (event : Event) → arrived script mode st e ≡ Some event → Sound script st.objects.devices →
    OnEach (IsGoodSlot (length script.devices)) event.state.objects.devices
good_arrived script mode st e event is sound =
    arrived_on (IsGoodSlot (length script.devices)) (IsGoodSlot (length script.devices)) (good_slots (length script.devices)) script mode st e event is
    (λ link given served linked has good. record { first = good.first; last = good.last; out = good.out }) (λ j slot apart good. good) sound.good

pub went_sound : (script : Script) (mode : Mode) (budget : ℕ) (st : State) (event : Event) (over : Option End) → step script mode budget st ≡ Went event over → Sound script st.objects.devices →
    Sound script (taken event.state).objects.devices
went_sound script mode budget st event over is sound = taken_sound script event.state.objects.devices (good_went script mode budget st event over is sound)

pub needs_sound : (script : Script) (mode : Mode) (budget : ℕ) (st waiting : State) → step script mode budget st ≡ Needs waiting → Sound script st.objects.devices →
    Sound script (taken waiting).objects.devices
needs_sound script mode budget st waiting is sound = taken_sound script waiting.objects.devices (good_waiting script mode budget st waiting is sound)

pub arrived_sound : (script : Script) (mode : Mode) (st : State) (e : Ending) (event : Event) → arrived script mode st e ≡ Some event → Sound script st.objects.devices →
    Sound script (taken event.state).objects.devices
arrived_sound script mode st e event is sound = taken_sound script event.state.objects.devices (good_arrived script mode st e event is sound)

-- so it is in every run
pub sound_so_far : (script : Script) (mode : Mode) (budget : ℕ) (so : SoFar) → IsSoFar script mode budget so → Sound script so.state.objects.devices
sound_so_far script mode budget so begins = start_sound script
sound_so_far script mode budget so (goes_on {so = before} {event = event} is went) = went_sound script mode budget before.state event None went (sound_so_far script mode budget before is)
sound_so_far script mode budget so (needs {so = before} {waiting = waiting} is needed) = needs_sound script mode budget before.state waiting needed (sound_so_far script mode budget before is)
sound_so_far script mode budget so (takes_in {so = before} {named = named} {event = event} is may names comes) =
    arrived_sound script mode before.state named event comes (sound_so_far script mode budget before is)

-- ---- the messages that come of it

only_good : (n d : ℕ) (slot : Option Link) → IsGoodSlot n d slot → Each (IsGoodMessage n) (out_in slot)
only_good n d None good = tt
only_good n d (Some link) good = each_more (IsGoodFor n d) (IsGoodMessage n) (λ m is. is.good) link.out good.out

-- each is for the device that it stands with
pub each_for : (n d : ℕ) (slot : Option Link) → IsGoodSlot n d slot → AreFor d (out_in slot)
each_for n d None good = tt
each_for n d (Some link) good = each_more (IsGoodFor n d) (λ m. device_of m ≡ d) (λ m is. is.for) link.out good.out

pub good_messages : (n : ℕ) (dv : Devices) → OnEach (IsGoodSlot n) dv → Each (IsGoodMessage n) (messages dv)
good_messages n dv each = all_messages (IsGoodMessage n) dv (λ d. only_good n d (link_at dv d) (each.slots d))
