-- What waits on the way to each driver, through all steps, needs and endings: few messages.
use Rattle.std.proofs.Common.{◌≡◌, ℕ, zero, suc, length, true, false, List, [], ◌∷◌, ◌++◌, Option, Some, None, refl, ap, sym, subst, ◌∙◌}
use Rattle.std.specs.Prelude.{map}
use Rattle.std.specs.List.{list_any}
use Rattle.std.proofs.lemmas.List.{append-nil}
use Rattle.tk_types.specs.declared.run.End.{End}
use Rattle.tk_types.specs.declared.run.Mode.{Mode}
use Rattle.tk_types.specs.declared.script.Device.{Device}
use Rattle.tk_types.specs.declared.script.Script.{Script}
use Rattle.kernel_model.specs.Words.Orders.{entry}
use Rattle.device_model.specs.declared.messages.Ending.{Ending}
use Rattle.device_model.specs.declared.messages.Message.{Message}
use Rattle.device_model.specs.Devices.Handing.{emptied, messages}
use Rattle.device_model.specs.Devices.Tables.{Devices, Given, Link, devices_start, given_in, link_asked, link_at, link_handed, link_start}
use Rattle.device_lemmas.proofs.Emptied.{emptied_given}
use Rattle.fleet_model.specs.Channels.{is_serve}
use Rattle.machine_model.specs.States.State.{State, state_start, taken}
use Rattle.machine_model.specs.Events.Arrivals.{arrived}
use Rattle.machine_model.specs.Events.Follow.{Event}
use Rattle.machine_model.specs.Runs.Step.{Needs, Went, step}
use Rattle.machine_model.specs.Runs.Trace.{start}
use Rattle.run_model.specs.SoFar.{IsSoFar, SoFar, messages_for}
use Rattle.world_laws.specs.Sound.{Each}
use Rattle.world_laws.proofs.DeviceWalk.{dispatched_keeps}
use Rattle.way_lemmas.specs.Ways.{IsGoodMessage, IsWay, Way}
use Rattle.way_lemmas.proofs.Outs.{messages_of, out_in}
use Rattle.way_lemmas.proofs.Slots.{IsSlotProof, OnEach}
use Rattle.way_lemmas.proofs.Sounds.{IsGoodSlot, Sound, arrived_on, each_for, good_arrived, good_messages, good_waiting, good_went, need_on, step_on, sound_so_far}
use Rattle.way_lemmas.proofs.Ways.{abort_told, ending_taken, none_waits, serve_told}

-- ---- the way to one driver, with what waits to be taken

-- of one device; of the others the word says nothing
abbrev pub OnWay : ℕ → List Message → ℕ → Option Link → Type 0
OnWay d way j slot = j ≡ d → IsWay d (given_in slot) (way ++ out_in slot)

way_slots : (d : ℕ) (way : List Message) → IsSlotProof (OnWay d way)
way_slots d way = record {
  hands = λ j link request none whole is same.
      subst (λ (n : ℕ). IsWay n (Some (record { request = request; asked = false })) (way ++ out_in (Some (link_handed j link request)))) same
      (serve_told j link.given request way link.out none (subst (λ (n : ℕ). IsWay n link.given (way ++ link.out)) (sym same) (is same)));
  asks = λ j link given has not is same.
      subst (λ (n : ℕ). IsWay n (Some (record given { asked = true })) (way ++ out_in (Some (link_asked j link given)))) same
      (abort_told j link.given given way link.out has not (subst (λ (n : ℕ). IsWay n link.given (way ++ link.out)) (sym same) (is same)));
}

-- where no message waits to be taken, the word is that of the way
way_first : (dv : Devices) (d : ℕ) (way : List Message) → out_in (link_at dv d) ≡ [] → Way dv d way → IsWay d (given_in (link_at dv d)) (way ++ out_in (link_at dv d))
way_first dv d way empty is =
    subst (λ (ms : List Message). IsWay d (given_in (link_at dv d)) ms) (sym (ap (λ (ms : List Message). way ++ ms) empty ∙ append-nil way)) is

way_begins : (script : Script) (dv : Devices) (d : ℕ) (way : List Message) → Sound script dv → Way dv d way → OnEach (OnWay d way) dv
way_begins script dv d way sound is = record {
  slots = λ j same. subst (λ (n : ℕ). IsWay d (given_in (link_at dv n)) (way ++ out_in (link_at dv n))) (sym same) (way_first dv d way (sound.empty d) is);
  rows = sound.good.rows;
}

-- the messages that wait to be taken are taken
way_taken : (n : ℕ) (dv : Devices) (d : ℕ) (way : List Message) → OnEach (IsGoodSlot n) dv → OnEach (OnWay d way) dv → Way (emptied dv) d (way ++ messages_for d (messages dv))
way_taken n dv d way good is =
    subst (λ (ms : List Message). IsWay d (given_in (link_at (emptied dv) d)) (way ++ ms)) (sym (messages_of dv d (λ j. each_for n j (link_at dv j) (good.slots j))))
    (subst (λ (given : Option Given). IsWay d given (way ++ out_in (link_at dv d))) (sym (emptied_given dv d)) (is.slots d refl))

-- ---- the start

-- no driver has a request
pub start_given : (script : Script) (d : ℕ) → given_in (link_at (devices_start script) d) ≡ None
unfolding devices_start
start_given script d = by_devices script.devices d
  where
    later : (devices : List Device) (d : ℕ) → given_in (entry (map link_start devices) d) ≡ None
    later [] d = refl
    later (device ∷ devices) zero = refl
    later (device ∷ devices) (suc d) = later devices d

    by_devices : (devices : List Device) (d : ℕ) → given_in (entry (None ∷ map link_start devices) d) ≡ None
    by_devices devices zero = refl
    by_devices devices (suc d) = later devices d

-- at the start nothing waits
pub way_start : (script : Script) (d : ℕ) → Way (start script).state.objects.devices d []
unfolding start state_start
way_start script d =
    dispatched_keeps (λ dv. Way dv d []) 0 (state_start script) (subst (λ (given : Option Given). IsWay d given []) (sym (start_given script d)) (none_waits d))

-- ---- steps, needs and endings

-- a step is done, and its messages come behind those that wait
pub way_goes_on : (script : Script) (mode : Mode) (budget : ℕ) (st : State) (event : Event) (over : Option End) (d : ℕ) (way : List Message) → step script mode budget st ≡ Went event over →
    Sound script st.objects.devices → Way st.objects.devices d way → Way (taken event.state).objects.devices d (way ++ messages_for d (messages event.state.objects.devices))
way_goes_on script mode budget st event over d way went sound is =
    way_taken (length script.devices) event.state.objects.devices d way (good_went script mode budget st event over went sound)
    (step_on (OnWay d way) (way_slots d way) script mode budget st event over went (way_begins script st.objects.devices d way sound is))

-- an ending is needed
pub way_needs : (script : Script) (mode : Mode) (budget : ℕ) (st waiting : State) (d : ℕ) (way : List Message) → step script mode budget st ≡ Needs waiting →
    Sound script st.objects.devices → Way st.objects.devices d way → Way (taken waiting).objects.devices d (way ++ messages_for d (messages waiting.objects.devices))
way_needs script mode budget st waiting d way needed sound is =
    way_taken (length script.devices) waiting.objects.devices d way (good_waiting script mode budget st waiting needed sound)
    (need_on (OnWay d way) (way_slots d way) script mode budget st waiting needed (way_begins script st.objects.devices d way sound is))

-- an ending is taken in: of its device only where no Serve waits
pub way_takes_in : (script : Script) (mode : Mode) (st : State) (e : Ending) (event : Event) (d : ℕ) (way : List Message) → arrived script mode st e ≡ Some event →
    (d ≡ e.device → list_any is_serve way ≡ false) → Sound script st.objects.devices → Way st.objects.devices d way →
    Way (taken event.state).objects.devices d (way ++ messages_for d (messages event.state.objects.devices))
way_takes_in script mode st e event d way comes none sound is =
    way_taken (length script.devices) event.state.objects.devices d way (good_arrived script mode st e event comes sound)
    (arrived_on (OnWay d way) (OnWay d way) (way_slots d way) script mode st e event comes
    (λ link given served linked has was same. ended link given linked has same)
    (λ j slot apart was. was) (way_begins script st.objects.devices d way sound is))
  where
    ended : (link : Link) (given : Given) → link_at st.objects.devices e.device ≡ Some link → link.given ≡ Some given → e.device ≡ d → IsWay d None (way ++ link.out)
    ended link given linked has same =
        let at : link_at st.objects.devices d ≡ Some link = subst (λ (n : ℕ). link_at st.objects.devices n ≡ Some link) same linked in
        let empty : link.out ≡ [] = ap out_in (sym at) ∙ sound.empty d in
        subst (λ (ms : List Message). IsWay d None ms) (sym (ap (λ (ms : List Message). way ++ ms) empty ∙ append-nil way))
        (ending_taken d (given_in (link_at st.objects.devices d)) given way (ap given_in at ∙ has) (none (sym same)) is)

-- ---- the messages that come of it

pub went_fit : (script : Script) (mode : Mode) (budget : ℕ) (st : State) (event : Event) (over : Option End) → step script mode budget st ≡ Went event over → Sound script st.objects.devices →
    Each (IsGoodMessage (length script.devices)) (messages event.state.objects.devices)
went_fit script mode budget st event over is sound = good_messages (length script.devices) event.state.objects.devices (good_went script mode budget st event over is sound)

pub needs_fit : (script : Script) (mode : Mode) (budget : ℕ) (st waiting : State) → step script mode budget st ≡ Needs waiting → Sound script st.objects.devices →
    Each (IsGoodMessage (length script.devices)) (messages waiting.objects.devices)
needs_fit script mode budget st waiting is sound = good_messages (length script.devices) waiting.objects.devices (good_waiting script mode budget st waiting is sound)

pub arrived_fit : (script : Script) (mode : Mode) (st : State) (e : Ending) (event : Event) → arrived script mode st e ≡ Some event → Sound script st.objects.devices →
    Each (IsGoodMessage (length script.devices)) (messages event.state.objects.devices)
arrived_fit script mode st e event is sound = good_messages (length script.devices) event.state.objects.devices (good_arrived script mode st e event is sound)

-- so the messages are in every run
pub record MessagesFit (script : Script) (mode : Mode) (budget : ℕ) (st : State) : Type 0 where
  pub went : (event : Event) (over : Option End) → step script mode budget st ≡ Went event over → Each (IsGoodMessage (length script.devices)) (messages event.state.objects.devices)
  pub needs : (waiting : State) → step script mode budget st ≡ Needs waiting → Each (IsGoodMessage (length script.devices)) (messages waiting.objects.devices)
  pub comes : (e : Ending) (event : Event) → arrived script mode st e ≡ Some event → Each (IsGoodMessage (length script.devices)) (messages event.state.objects.devices)

pub messages_fit : (script : Script) (mode : Mode) (budget : ℕ) (so : SoFar) → IsSoFar script mode budget so → MessagesFit script mode budget so.state
messages_fit script mode budget so is =
    let sound = sound_so_far script mode budget so is in
    record {
      went = λ event over went. went_fit script mode budget so.state event over went sound;
      needs = λ waiting needed. needs_fit script mode budget so.state waiting needed sound;
      comes = λ e event comes. arrived_fit script mode so.state e event comes sound;
    }
