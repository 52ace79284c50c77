-- The ways to all drivers of a fleet: how they begin, and what a step, a need or an ending that is taken in leaves to be handed. So
-- there is always a place for the next message.
use Rattle.std.proofs.Common.{◌≡◌, ℕ, zero, suc, ◌<◌, length, Bool, true, false, not, ◌&&◌, List, [], ◌∷◌, Option, Some, None, refl, ap, sym, subst, ◌∙◌, arith}
use Rattle.std.specs.Prelude.{map, nat_le, slice_get, slice_set}
use Rattle.std.specs.List.{list_any}
use Rattle.tk_types.specs.declared.run.End.{End}
use Rattle.tk_types.specs.declared.run.Mode.{Mode}
use Rattle.tk_types.specs.declared.script.Device.{Device}
use Rattle.tk_types.specs.declared.script.Script.{Script}
use Rattle.device_model.specs.declared.messages.Ending.{Ending}
use Rattle.device_model.specs.declared.messages.Message.{Message}
use Rattle.device_model.specs.Devices.Handing.{messages}
use Rattle.device_model.specs.Devices.Tables.{Devices}
use Rattle.fleet_model.specs.Channels.{Channel, accepts, channel_start, gone, is_serve}
use Rattle.fleet_model.specs.Fleets.{Fleet, Handed, HasChannel, HasPlace, Polled, Waited, after_drop, all_flushed, changed_at, changed_in, channel_at, channel_in, device_of, fleet_start, may_accept, taken_out}
use Rattle.machine_model.specs.States.State.{State, taken}
use Rattle.machine_model.specs.Events.Arrivals.{arrived}
use Rattle.machine_model.specs.Events.Follow.{Event}
use Rattle.machine_model.specs.Runs.Step.{Needs, Went, step}
use Rattle.machine_model.specs.Runs.Trace.{start}
use Rattle.way_lemmas.specs.Ways.{EachWay, EachWayWith, Way}
use Rattle.way_lemmas.proofs.Channels.{next_has_place}
use Rattle.way_lemmas.proofs.Sounds.{Sound}
use Rattle.way_lemmas.proofs.Waiting.{way_goes_on, way_needs, way_start, way_takes_in}

-- ---- the start

started_get : (devices : List Device) (i : ℕ) (channel : Channel) → slice_get (map channel_start devices) i ≡ Some channel → channel.waiting ≡ []
started_get [] i channel is = absurd (cc is)
started_get (device ∷ devices) zero channel is = let same : channel_start device ≡ channel = cc is in ap (λ (it : Channel). it.waiting) (sym same)
started_get (device ∷ devices) (suc i) channel is = started_get devices i channel is

started : (devices : List Device) (d : ℕ) (channel : Channel) → channel_in (map channel_start devices) d ≡ Some channel → channel.waiting ≡ []
unfolding channel_in
started devices zero channel is = absurd (cc is)
started devices (suc d) channel is = started_get devices d channel is

-- a fleet begins with nothing on the ways
pub each_start : (script : Script) → EachWay (start script).state.objects.devices (fleet_start script.devices).channels
each_start script d channel is = subst (λ (ms : List Message). Way (start script).state.objects.devices d ms) (sym (started script.devices d channel is)) (way_start script d)

-- ---- what is to be handed

-- a step was done
pub each_goes_on : (script : Script) (mode : Mode) (budget : ℕ) (st : State) (event : Event) (over : Option End) (channels : List Channel) → step script mode budget st ≡ Went event over →
    Sound script st.objects.devices → EachWay st.objects.devices channels → EachWayWith (taken event.state).objects.devices channels (messages event.state.objects.devices)
each_goes_on script mode budget st event over channels went sound each d channel is = way_goes_on script mode budget st event over d channel.waiting went sound (each d channel is)

-- an ending is needed
pub each_needs : (script : Script) (mode : Mode) (budget : ℕ) (st waiting : State) (channels : List Channel) → step script mode budget st ≡ Needs waiting →
    Sound script st.objects.devices → EachWay st.objects.devices channels → EachWayWith (taken waiting).objects.devices channels (messages waiting.objects.devices)
each_needs script mode budget st waiting channels needed sound each d channel is = way_needs script mode budget st waiting d channel.waiting needed sound (each d channel is)

-- an ending is taken in: no Serve waits for its device
pub each_takes_in : (script : Script) (mode : Mode) (st : State) (e : Ending) (event : Event) (channels : List Channel) → arrived script mode st e ≡ Some event →
    ((channel : Channel) → channel_in channels e.device ≡ Some channel → list_any is_serve channel.waiting ≡ false) →
    Sound script st.objects.devices → EachWay st.objects.devices channels → EachWayWith (taken event.state).objects.devices channels (messages event.state.objects.devices)
each_takes_in script mode st e event channels comes none sound each d channel is =
    way_takes_in script mode st e event d channel.waiting comes (λ same. none channel (ap (channel_in channels) (sym same) ∙ is)) sound (each d channel is)

-- so it is of an ending that the fleet lets through
both_true : (one other : Bool) → (one && other) ≡ true → other ≡ true
both_true true other is = is
both_true false other is = absurd (cc is)

first_true : (one other : Bool) → (one && other) ≡ true → one ≡ true
first_true true other is = refl
first_true false other is = absurd (cc is)

not_true : (test : Bool) → not test ≡ true → test ≡ false
not_true true is = absurd (cc is)
not_true false is = refl

accepts_none : (channel : Channel) (e : Ending) → accepts channel e ≡ true → list_any is_serve channel.waiting ≡ false
accepts_none channel e is = not_true _ (first_true _ _ (both_true (nat_le e.taken (gone channel)) _ is))

pub accepted_none : (fleet : Fleet) (e : Ending) → may_accept fleet e ≡ true → (channel : Channel) → channel_in fleet.channels e.device ≡ Some channel → list_any is_serve channel.waiting ≡ false
unfolding may_accept
accepted_none fleet e is channel there =
    accepts_none channel e (ap (λ (slot : Option Channel). elim slot as (λ _. Bool) [ Some channel ↦ accepts channel e | None ↦ false ]) (sym there) ∙ is)

-- ---- a channel that is there

channel_got : (channels : List Channel) (i : ℕ) → i < length channels → (channel : Channel) × (slice_get channels i ≡ Some channel)
channel_got [] i less = absurd (omega (arith, less))
channel_got (channel ∷ channels) zero less = (channel, refl)
channel_got (channel ∷ channels) (suc i) less = channel_got channels i (omega (arith, less))

pub channel_there : (fleet : Fleet) (d : ℕ) → HasChannel fleet d → (channel : Channel) × (channel_at fleet d ≡ Some channel)
unfolding channel_in
channel_there fleet zero has = let first = has.0 in absurd (omega (arith, first))
channel_there fleet (suc d) has = let last = has.1 in channel_got fleet.channels d (omega (arith, last))

-- the next message that is to be handed has a place, where its device has a channel
pub next_placed : (dv : Devices) (fleet : Fleet) (m : Message) (ms : List Message) → EachWayWith dv fleet.channels (m ∷ ms) → HasChannel fleet (device_of m) → HasPlace fleet (device_of m)
next_placed dv fleet m ms each has = let there = channel_there fleet (device_of m) has in next_has_place dv fleet m ms there.0 each there.1

-- ---- how many channels there are

set_many : {A : Type 0} → (xs : List A) (i : ℕ) (x : A) → length (slice_set xs i x) ≡ length xs
set_many [] i x = refl
set_many (y ∷ xs) zero x = refl
set_many (y ∷ xs) (suc i) x = ap (λ (n : ℕ). suc n) (set_many xs i x)

changed_by : (change : Channel → Channel) (channels : List Channel) (d : ℕ) (slot : Option Channel) → length (changed_in change channels d slot) ≡ length channels
changed_by change channels d None = refl
changed_by change channels zero (Some channel) = refl
changed_by change channels (suc d) (Some channel) = set_many channels d (change channel)

pub changed_many : (change : Channel → Channel) (channels : List Channel) (d : ℕ) → length (changed_at change channels d) ≡ length channels
unfolding changed_at
changed_many change channels d = changed_by change channels d (channel_in channels d)

flushed_many : (counts : List ℕ) (channels : List Channel) → length (all_flushed counts channels) ≡ length channels
unfolding all_flushed
flushed_many [] channels = refl
flushed_many (n ∷ counts) [] = refl
flushed_many (n ∷ counts) (channel ∷ channels) = ap (λ (n : ℕ). suc n) (flushed_many counts channels)

out_many : (ending : Option Ending) (channels : List Channel) → length (taken_out ending channels) ≡ length channels
out_many None channels = refl
out_many (Some ending) channels = changed_many _ channels ending.device

started_many : (devices : List Device) → length (map channel_start devices) ≡ length devices
started_many [] = refl
started_many (device ∷ devices) = ap (λ (n : ℕ). suc n) (started_many devices)

pub fleet_many : (devices : List Device) → length (fleet_start devices).channels ≡ length devices
fleet_many devices = started_many devices

pub handed_many : (old new : Fleet) (m : Message) → Handed old new m → length new.channels ≡ length old.channels
handed_many old new m is = ap (λ (fleet : Fleet). length fleet.channels) is.is ∙ changed_many _ old.channels (device_of m)

pub waited_many : (old new : Fleet) (ending : Option Ending) → Waited old new ending → length new.channels ≡ length old.channels
waited_many old new ending is = ap (λ (fleet : Fleet). length fleet.channels) is.is ∙ (out_many ending (all_flushed is.counts old.channels) ∙ flushed_many is.counts old.channels)

pub polled_many : (old new : Fleet) (ending : Option Ending) → Polled old new ending → length new.channels ≡ length old.channels
polled_many old new ending is = ap (λ (fleet : Fleet). length fleet.channels) is.is ∙ (out_many ending (all_flushed is.counts old.channels) ∙ flushed_many is.counts old.channels)

pub drop_many : (fleet : Fleet) (d : ℕ) → length (after_drop fleet d).channels ≡ length fleet.channels
drop_many fleet d = changed_many _ fleet.channels d
