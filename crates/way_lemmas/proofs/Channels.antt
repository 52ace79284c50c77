-- The channels of a fleet, and what each of its calls makes of what waits in them: it takes some from the front, or puts a message
-- behind the last.
use Rattle.std.proofs.Common.{◌≡◌, ℕ, zero, suc, ◌≤◌, length, List, [], ◌∷◌, ◌++◌, Option, Some, None, refl, ap, sym, subst, ◌∙◌, ◌⊎◌, inl, inr, arith, take, drop}
use Rattle.std.specs.Prelude.{slice_get, slice_set}
use Rattle.std.proofs.lemmas.List.{append_assoc, append-nil}
use Rattle.device_model.specs.declared.messages.Ending.{Ending}
use Rattle.device_model.specs.declared.messages.Message.{Message}
use Rattle.device_model.specs.Devices.Tables.{Devices}
use Rattle.fleet_model.specs.Channels.{Channel, flushed, marked, with_ending, with_message}
use Rattle.fleet_model.specs.Fleets.{EachHasPlace, Fleet, Handed, HasPlace, Polled, Waited, after_drop, after_wait, all_flushed, changed_at, changed_in, channel_at, channel_in, device_of, taken_out}
use Rattle.run_model.specs.SoFar.{messages_for}
use Rattle.way_lemmas.specs.Ways.{EachWay, EachWayWith, Way}
use Rattle.way_lemmas.proofs.Outs.{for_none, for_other, for_same}
use Rattle.way_lemmas.proofs.Ways.{way_few, way_rear}

-- ---- a list of which one element is changed

get_set : {A : Type 0} → (xs : List A) (i j : ℕ) (old new now : A) → slice_get xs i ≡ Some old → slice_get (slice_set xs i new) j ≡ Some now →
    ((j ≡ i) × (now ≡ new)) ⊎ ((j ≡ i → ⊥) × (slice_get xs j ≡ Some now))
get_set [] i j old new now there is = absurd (cc there)
get_set (x ∷ xs) zero zero old new now there is = inl (refl, cc is)
get_set (x ∷ xs) zero (suc j) old new now there is = inr ((λ same. absurd (omega (arith, same))), is)
get_set (x ∷ xs) (suc i) zero old new now there is = inr ((λ same. absurd (omega (arith, same))), is)
get_set (x ∷ xs) (suc i) (suc j) old new now there is = by_rest (get_set xs i j old new now there is)
  where
    by_rest : ((j ≡ i) × (now ≡ new)) ⊎ ((j ≡ i → ⊥) × (slice_get xs j ≡ Some now)) → ((suc j ≡ suc i) × (now ≡ new)) ⊎ ((suc j ≡ suc i → ⊥) × (slice_get xs j ≡ Some now))
    by_rest (inl both) = inl (ap (λ (n : ℕ). suc n) both.0, both.1)
    by_rest (inr both) = inr ((λ same. both.0 (omega (arith, same))), both.1)

-- the channel of a device once that of one is changed: it is that one, or it is as it was
record IsChanged (change : Channel → Channel) (channels : List Channel) (d e : ℕ) (now : Channel) : Type 0 where
  same : e ≡ d
  old : Channel
  was : channel_in channels d ≡ Some old
  is : now ≡ change old

changed_cases : (change : Channel → Channel) (channels : List Channel) (d e : ℕ) (slot : Option Channel) (now : Channel) → channel_in channels d ≡ slot →
    channel_in (changed_in change channels d slot) e ≡ Some now →
    IsChanged change channels d e now ⊎ ((e ≡ d → ⊥) × (channel_in channels e ≡ Some now)) ⊎ ((channel_in channels d ≡ None) × (channel_in channels e ≡ Some now))
unfolding channel_in
changed_cases change channels d e None now at is = inr (inr (at, is))
changed_cases change channels zero e (Some old) now at is = absurd (cc at)
changed_cases change channels (suc d) zero (Some old) now at is = absurd (cc is)
changed_cases change channels (suc d) (suc e) (Some old) now at is = by_get (get_set channels d e old (change old) now at is)
  where
    by_get : ((e ≡ d) × (now ≡ change old)) ⊎ ((e ≡ d → ⊥) × (slice_get channels e ≡ Some now)) →
        IsChanged change channels (suc d) (suc e) now ⊎ ((suc e ≡ suc d → ⊥) × (slice_get channels e ≡ Some now)) ⊎ ((slice_get channels d ≡ None) × (slice_get channels e ≡ Some now))
    by_get (inl both) = inl (record { same = ap (λ (n : ℕ). suc n) both.0; old = old; was = at; is = both.1 })
    by_get (inr both) = inr (inl ((λ same. both.0 (omega (arith, same))), both.1))

-- ---- what waits is what waited, without some at the front

-- what waits in each channel is a rear of what waited there
pub record AreRears (old new : List Channel) : Type 0 where
  pub of_each : (d : ℕ) (now : Channel) → channel_in new d ≡ Some now → (was : Channel) × (front : List Message) × (channel_in old d ≡ Some was) × (was.waiting ≡ front ++ now.waiting)

same_rears : (channels : List Channel) → AreRears channels channels
same_rears channels = record { of_each = λ d now is. (now, [], is, refl) }

then_rears : (first second third : List Channel) → AreRears first second → AreRears second third → AreRears first third
then_rears first second third one other = record {
  of_each = λ d now is.
      let middle = other.of_each d now is in
      let last = one.of_each d middle.0 middle.2 in
      (last.0, last.1 ++ middle.1, last.2, last.3 ∙ (ap (λ (ms : List Message). last.1 ++ ms) middle.3 ∙ sym (append_assoc last.1 middle.1 now.waiting)));
}

-- the channel of one device is changed, and what waits there isn't
changed_rears : (change : Channel → Channel) → ((channel : Channel) → (change channel).waiting ≡ channel.waiting) → (channels : List Channel) (d : ℕ) → AreRears channels (changed_at change channels d)
unfolding changed_at
changed_rears change same channels d = record { of_each = λ e now is. by_cases e now (changed_cases change channels d e (channel_in channels d) now refl is) }
  where
    by_cases : (e : ℕ) (now : Channel) →
        IsChanged change channels d e now ⊎ ((e ≡ d → ⊥) × (channel_in channels e ≡ Some now)) ⊎ ((channel_in channels d ≡ None) × (channel_in channels e ≡ Some now)) →
        (was : Channel) × (front : List Message) × (channel_in channels e ≡ Some was) × (was.waiting ≡ front ++ now.waiting)
    by_cases e now (inl it) = (it.old, [], ap (channel_in channels) it.same ∙ it.was, sym (same it.old) ∙ ap (λ (channel : Channel). channel.waiting) (sym it.is))
    by_cases e now (inr (inl it)) = (now, [], it.1, refl)
    by_cases e now (inr (inr it)) = (now, [], it.1, refl)

take_drop : (n : ℕ) (ms : List Message) → ms ≡ take n ms ++ drop n ms
take_drop zero ms = refl
take_drop (suc n) [] = refl
take_drop (suc n) (m ∷ ms) = ap (λ (rest : List Message). m ∷ rest) (take_drop n ms)

flushed_get : (counts : List ℕ) (channels : List Channel) (i : ℕ) (now : Channel) → slice_get (all_flushed counts channels) i ≡ Some now →
    (was : Channel) × (front : List Message) × (slice_get channels i ≡ Some was) × (was.waiting ≡ front ++ now.waiting)
unfolding all_flushed
flushed_get [] channels i now is = (now, [], is, refl)
flushed_get (n ∷ counts) [] i now is = absurd (cc is)
flushed_get (n ∷ counts) (channel ∷ channels) zero now is =
    let same : flushed n channel ≡ now = cc is in
    (channel, take n channel.waiting, refl, take_drop n channel.waiting ∙ ap (λ (it : Channel). take n channel.waiting ++ it.waiting) same)
flushed_get (n ∷ counts) (channel ∷ channels) (suc i) now is = flushed_get counts channels i now is

flushed_rears : (counts : List ℕ) (channels : List Channel) → AreRears channels (all_flushed counts channels)
unfolding channel_in
flushed_rears counts channels = record { of_each = at }
  where
    at : (d : ℕ) (now : Channel) → channel_in (all_flushed counts channels) d ≡ Some now →
        (was : Channel) × (front : List Message) × (channel_in channels d ≡ Some was) × (was.waiting ≡ front ++ now.waiting)
    at zero now is = absurd (cc is)
    at (suc d) now is = flushed_get counts channels d now is

out_rears : (ending : Option Ending) (channels : List Channel) → AreRears channels (taken_out ending channels)
out_rears None channels = same_rears channels
out_rears (Some ending) channels = changed_rears (with_ending ending) (λ channel. refl) channels ending.device

wait_rears : (fleet : Fleet) (counts : List ℕ) (ending : Option Ending) → AreRears fleet.channels (after_wait fleet counts ending).channels
wait_rears fleet counts ending = then_rears fleet.channels (all_flushed counts fleet.channels) _ (flushed_rears counts fleet.channels) (out_rears ending (all_flushed counts fleet.channels))

pub waited_rears : (old new : Fleet) (ending : Option Ending) → Waited old new ending → AreRears old.channels new.channels
waited_rears old new ending is = subst (λ (fleet : Fleet). AreRears old.channels fleet.channels) (sym is.is) (wait_rears old is.counts ending)

pub polled_rears : (old new : Fleet) (ending : Option Ending) → Polled old new ending → AreRears old.channels new.channels
polled_rears old new ending is = subst (λ (fleet : Fleet). AreRears old.channels fleet.channels) (sym is.is) (wait_rears old is.counts ending)

pub drop_rears : (fleet : Fleet) (d : ℕ) → AreRears fleet.channels (after_drop fleet d).channels
drop_rears fleet d = changed_rears marked (λ channel. refl) fleet.channels d

-- ---- the ways stay

pub rears_way : (dv : Devices) (old new : List Channel) → AreRears old new → EachWay dv old → EachWay dv new
rears_way dv old new rears each d now is =
    let was = rears.of_each d now is in
    way_rear dv d was.1 now.waiting (subst (λ (ms : List Message). Way dv d ms) was.3 (each d was.0 was.2))

-- a fleet waited for an ending, or asked for one
pub waited_way : (dv : Devices) (old new : Fleet) (ending : Option Ending) → Waited old new ending → EachWay dv old.channels → EachWay dv new.channels
waited_way dv old new ending is each = rears_way dv old.channels new.channels (waited_rears old new ending is) each

pub polled_way : (dv : Devices) (old new : Fleet) (ending : Option Ending) → Polled old new ending → EachWay dv old.channels → EachWay dv new.channels
polled_way dv old new ending is each = rears_way dv old.channels new.channels (polled_rears old new ending is) each

-- an ending was dropped
pub drop_way : (dv : Devices) (fleet : Fleet) (d : ℕ) → EachWay dv fleet.channels → EachWay dv (after_drop fleet d).channels
drop_way dv fleet d each = rears_way dv fleet.channels (after_drop fleet d).channels (drop_rears fleet d) each

-- fewer than four messages wait in each channel
places_of : (channels : List Channel) → ((i : ℕ) (channel : Channel) → slice_get channels i ≡ Some channel → length channel.waiting ≤ 3) → EachHasPlace channels
places_of [] few = tt
places_of (channel ∷ channels) few = (let less = few 0 channel refl in omega (arith, less), places_of channels (λ i. few (suc i)))

pub way_places : (dv : Devices) (channels : List Channel) → EachWay dv channels → EachHasPlace channels
unfolding channel_in
way_places dv channels each = places_of channels (λ i channel is. way_few dv (suc i) channel.waiting (each (suc i) channel is))

-- ---- messages are handed

none_behind : (d : ℕ) (ms : List Message) → ms ++ messages_for d [] ≡ ms
none_behind d ms = ap (λ (rest : List Message). ms ++ rest) (for_none d) ∙ append-nil ms

-- where none is left to be handed, the ways are those of the channels
pub with_none : (dv : Devices) (channels : List Channel) → EachWayWith dv channels [] → EachWay dv channels
with_none dv channels each d channel is = subst (λ (ms : List Message). Way dv d ms) (none_behind d channel.waiting) (each d channel is)

rear_shorter : (front rear : List Message) → length front ≤ length (front ++ rear)
rear_shorter [] rear = omega arith
rear_shorter (m ∷ front) rear = let less = rear_shorter front rear in omega (arith, less)

-- the next message has a place
pub next_has_place : (dv : Devices) (fleet : Fleet) (m : Message) (ms : List Message) (channel : Channel) → EachWayWith dv fleet.channels (m ∷ ms) →
    channel_at fleet (device_of m) ≡ Some channel → HasPlace fleet (device_of m)
next_has_place dv fleet m ms channel each is =
    let few = way_few dv (device_of m) _ (each (device_of m) channel is) in
    let less = rear_shorter channel.waiting (messages_for (device_of m) (m ∷ ms)) in
    record { channel = channel; is = is; few = omega (arith, few, less) }

-- it goes to the channel, and of those that wait there some go into the inbox
handed_one : (dv : Devices) (d : ℕ) (m : Message) (n : ℕ) (waiting rest : List Message) → Way dv d (waiting ++ (m ∷ rest)) → Way dv d (drop n (waiting ++ m ∷ []) ++ rest)
handed_one dv d m n waiting rest is =
    way_rear dv d (take n (waiting ++ m ∷ [])) (drop n (waiting ++ m ∷ []) ++ rest)
    (subst (λ (ms : List Message). Way dv d ms)
    (sym (append_assoc waiting (m ∷ []) rest)
    ∙ (ap (λ (ms : List Message). ms ++ rest) (take_drop n (waiting ++ m ∷ [])) ∙ append_assoc (take n (waiting ++ m ∷ [])) (drop n (waiting ++ m ∷ [])) rest)) is)

handed_at : (dv : Devices) (channels : List Channel) (m : Message) (ms : List Message) (n : ℕ) (channel : Channel) → channel_in channels (device_of m) ≡ Some channel →
    EachWayWith dv channels (m ∷ ms) →
    EachWayWith dv (changed_at (λ channel. flushed n (with_message m channel)) channels (device_of m)) ms
unfolding changed_at
handed_at dv channels m ms n channel there each e now is =
    by_cases (changed_cases (λ channel. flushed n (with_message m channel)) channels (device_of m) e (channel_in channels (device_of m)) now refl is)
  where
    by_cases : IsChanged (λ channel. flushed n (with_message m channel)) channels (device_of m) e now ⊎ ((e ≡ device_of m → ⊥) × (channel_in channels e ≡ Some now))
        ⊎ ((channel_in channels (device_of m) ≡ None) × (channel_in channels e ≡ Some now)) → Way dv e (now.waiting ++ messages_for e ms)
    by_cases (inl it) =
        subst (λ (channel : Channel). Way dv e (channel.waiting ++ messages_for e ms)) (sym it.is)
        (handed_one dv e m n it.old.waiting (messages_for e ms)
        (subst (λ (rest : List Message). Way dv e (it.old.waiting ++ rest)) (for_same e m ms (sym it.same)) (each e it.old (ap (channel_in channels) it.same ∙ it.was))))
    by_cases (inr (inl it)) = subst (λ (rest : List Message). Way dv e (now.waiting ++ rest)) (for_other e m ms (λ same. it.0 (sym same))) (each e now it.1)
    by_cases (inr (inr it)) = absurd (cc (it.0, there))

pub handed_way : (dv : Devices) (old new : Fleet) (m : Message) (ms : List Message) → HasPlace old (device_of m) → Handed old new m → EachWayWith dv old.channels (m ∷ ms) →
    EachWayWith dv new.channels ms
handed_way dv old new m ms place is each =
    subst (λ (fleet : Fleet). EachWayWith dv fleet.channels ms) (sym is.is) (handed_at dv old.channels m ms is.count place.channel place.is each)
