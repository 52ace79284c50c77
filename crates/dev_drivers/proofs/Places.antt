-- How many messages wait for each device, as the calls of a fleet follow one another.
use Rattle.std.proofs.Common.{◌≡◌, ℕ, ◌+◌, ◌-◌, ◌≤◌, zero, suc, drop, List, [], ◌∷◌, ◌++◌, length, map, Option, Some, None, refl, ap, subst, sym, ◌∙◌, arith}
use Rattle.std.specs.Prelude.{slice_get, slice_set}
use Rattle.std.proofs.lemmas.List.{length-append, length-drop}
use Rattle.tk_types.specs.declared.script.Device.{Device}
use Rattle.tk_types.specs.declared.script.Kind.{Kind}
use Rattle.device_model.specs.declared.messages.Ending.{Ending}
use Rattle.device_model.specs.declared.messages.Message.{Message}
use Rattle.fleet_model.specs.Channels.{Channel, channel_start, flushed, with_ending, with_message}
use Rattle.fleet_model.specs.Fleets.{EachHasPlace, Fleet, Handed, HasPlace, Polled, all_flushed, changed_at, changed_in, channel_in, fleet_start, taken_out}
use Rattle.fleet_model.specs.Records.{Closes, Joined, Record}

-- at most so many wait for each device
abbrev AtMost : ℕ → List Channel → Type 0
AtMost most [] = Unit {0}
AtMost most (channel ∷ channels) = (length channel.waiting ≤ most) × AtMost most channels

at_start : (devices : List Device) → AtMost 0 (map channel_start devices)
at_start [] = tt
at_start (d ∷ devices) = (omega arith, at_start devices)

more : (j k : ℕ) (channels : List Channel) → j ≤ k → AtMost j channels → AtMost k channels
more j k [] few all = tt
more j k (c ∷ channels) few all = (omega (arith, few, all.0), more j k channels few all.1)

each_of : (k : ℕ) (channels : List Channel) → k ≤ 3 → AtMost k channels → EachHasPlace channels
each_of k [] few all = tt
each_of k (c ∷ channels) few all = (omega (arith, few, all.0), each_of k channels few all.1)

of_each : (channels : List Channel) → EachHasPlace channels → AtMost 3 channels
of_each [] all = tt
of_each (c ∷ channels) all = (omega (arith, all.0), of_each channels all.1)

-- ---- a change of one channel

got : (k i : ℕ) (channels : List Channel) (c : Channel) → AtMost k channels → slice_get channels i ≡ Some c → length c.waiting ≤ k
got k i [] c all is = absurd (cc is)
got k zero (o ∷ channels) c all is = let same : o ≡ c = cc is in subst (λ (p : Channel). length p.waiting ≤ k) same all.0
got k (suc i) (o ∷ channels) c all is = got k i channels c all.1 is

put : (k i : ℕ) (channels : List Channel) (c : Channel) → AtMost k channels → length c.waiting ≤ k → AtMost k (slice_set channels i c)
put k i [] c all few = tt
put k zero (o ∷ channels) c all few = (few, all.1)
put k (suc i) (o ∷ channels) c all few = (all.0, put k i channels c all.1 few)

put_length : (i : ℕ) (channels : List Channel) (c : Channel) → length (slice_set channels i c) ≡ length channels
put_length i [] c = refl
put_length zero (o ∷ channels) c = refl
put_length (suc i) (o ∷ channels) c = ap suc (put_length i channels c)

-- a change that lets at most so many wait where at most that many did
abbrev Lets : (Channel → Channel) → ℕ → ℕ → Type 0
Lets change j k = (c : Channel) → length c.waiting ≤ j → length (change c).waiting ≤ k

changed : (change : Channel → Channel) (j k : ℕ) (channels : List Channel) (d : ℕ) → j ≤ k → Lets change j k → AtMost j channels → AtMost k (changed_at change channels d)
unfolding changed_at channel_in
changed change j k channels zero few lets all = more j k channels few all
changed change j k channels (suc i) few lets all = by_slot (slice_get channels i) refl
  where
    by_slot : (o : Option Channel) → slice_get channels i ≡ o → AtMost k (changed_in change channels (suc i) o)
    by_slot None is = more j k channels few all
    by_slot (Some c) is = put k i channels (change c) (more j k channels few all) (lets c (got j i channels c all is))

changed_length : (change : Channel → Channel) (channels : List Channel) (d : ℕ) → length (changed_at change channels d) ≡ length channels
unfolding changed_at channel_in
changed_length change channels zero = refl
changed_length change channels (suc i) = by_slot (slice_get channels i)
  where
    by_slot : (o : Option Channel) → length (changed_in change channels (suc i) o) ≡ length channels
    by_slot None = refl
    by_slot (Some c) = put_length i channels (change c)

-- ---- the calls

hands : (k n : ℕ) (m : Message) → Lets (λ (c : Channel). flushed n (with_message m c)) k (suc k)
hands k n m c few =
    let left : length (drop n (c.waiting ++ m ∷ [])) ≡ length (c.waiting ++ m ∷ []) - n = length-drop n (c.waiting ++ m ∷ []) in
    let all : length (c.waiting ++ m ∷ []) ≡ length c.waiting + 1 = length-append c.waiting (m ∷ []) in
    omega (arith, left, all, few)

ends : (k : ℕ) (e : Ending) → Lets (λ (c : Channel). with_ending e c) k k
ends k e c few = few

flush : (k : ℕ) (counts : List ℕ) (channels : List Channel) → AtMost k channels → AtMost k (all_flushed counts channels)
unfolding all_flushed
flush k [] channels all = all
flush k (n ∷ counts) [] all = tt
flush k (n ∷ counts) (c ∷ channels) all = (let left : length (drop n c.waiting) ≡ length c.waiting - n = length-drop n c.waiting in omega (arith, left, all.0), flush k counts channels all.1)

out : (k : ℕ) (channels : List Channel) (ending : Option Ending) → AtMost k channels → AtMost k (taken_out ending channels)
out k channels None all = all
out k channels (Some e) all = changed (λ (c : Channel). with_ending e c) k k channels e.device (omega arith) (ends k e) all

pub places_polled : (old new : Fleet) (ending : Option Ending) → EachHasPlace old.channels → Polled old new ending → EachHasPlace new.channels
places_polled old new ending each polled =
    subst (λ (f : Fleet). EachHasPlace f.channels) (sym polled.is)
    (each_of 3 (taken_out ending (all_flushed polled.counts old.channels)) (omega arith) (out 3 (all_flushed polled.counts old.channels) ending (flush 3 polled.counts old.channels (of_each old.channels each))))

first_place : (k : ℕ) (fleet : Fleet) (channels : List Channel) (d : ℕ) → fleet.channels ≡ channels → d ≡ 1 → 1 ≤ length channels → k ≤ 3 → AtMost k channels → HasPlace fleet d
unfolding channel_in
first_place k fleet [] d is first some few all = absurd (omega (arith, some))
first_place k fleet (c ∷ channels) d is first some few all = record {
  channel = c;
  is = ap (λ (l : List Channel). channel_in l d) is ∙ ap (λ (n : ℕ). channel_in (c ∷ channels) n) first;
  few = omega (arith, few, all.0);
}

length_start : (devices : List Device) → length (map channel_start devices) ≡ length devices
length_start [] = refl
length_start (d ∷ devices) = ap suc (length_start devices)

-- at the start the first device has a place
pub place_at_start : (devices : List Device) (fleet : Fleet) (d : ℕ) → fleet ≡ fleet_start devices → 1 ≤ length devices → d ≡ 1 → HasPlace fleet d
place_at_start devices fleet d is some first =
    let size : length (map channel_start devices) ≡ length devices = length_start devices in
    first_place 0 fleet (map channel_start devices) d (ap (λ (f : Fleet). f.channels) is) first (omega (arith, some, size)) (omega arith) (at_start devices)

handed_most : (k : ℕ) (old new : Fleet) (m : Message) → AtMost k old.channels → Handed old new m → AtMost (suc k) new.channels
handed_most k old new m all handed =
    subst (λ (f : Fleet). AtMost (suc k) f.channels) (sym handed.is) (changed (λ (c : Channel). flushed handed.count (with_message m c)) k (suc k) old.channels _ (omega arith) (hands k handed.count m) all)

handed_length : (old new : Fleet) (m : Message) → Handed old new m → length new.channels ≡ length old.channels
handed_length old new m handed = ap (λ (f : Fleet). length f.channels) handed.is ∙ changed_length (λ (c : Channel). flushed handed.count (with_message m c)) old.channels _

started_most : (devices : List Device) (fleet : Fleet) → fleet ≡ fleet_start devices → AtMost 0 fleet.channels
started_most devices fleet is = subst (λ (f : Fleet). AtMost 0 f.channels) (sym is) (at_start devices)

pub places_at_start : (devices : List Device) (fleet : Fleet) → fleet ≡ fleet_start devices → EachHasPlace fleet.channels
places_at_start devices fleet is = each_of 0 fleet.channels (omega arith) (started_most devices fleet is)

-- so it has once a message was handed
pub place_after_one : (devices : List Device) (fleet one : Fleet) (m : Message) (d : ℕ) → fleet ≡ fleet_start devices → 1 ≤ length devices → d ≡ 1 → Handed fleet one m → HasPlace one d
place_after_one devices fleet one m d is some first handed =
    let size : length (map channel_start devices) ≡ length devices = length_start devices in
    let started : length fleet.channels ≡ length (map channel_start devices) = ap (λ (f : Fleet). length f.channels) is in
    let now : length one.channels ≡ length fleet.channels = handed_length fleet one m handed in
    first_place 1 one one.channels d refl first (omega (arith, some, size, started, now)) (omega arith) (handed_most 0 fleet one m (started_most devices fleet is) handed)

pub places_after_one : (devices : List Device) (fleet one : Fleet) (m : Message) → fleet ≡ fleet_start devices → Handed fleet one m → EachHasPlace one.channels
places_after_one devices fleet one m is handed = each_of 1 one.channels (omega arith) (handed_most 0 fleet one m (started_most devices fleet is) handed)

pub places_after_two : (devices : List Device) (fleet one two : Fleet) (m n : Message) → fleet ≡ fleet_start devices → Handed fleet one m → Handed one two n → EachHasPlace two.channels
places_after_two devices fleet one two m n is handed next = each_of 2 two.channels (omega arith) (handed_most 1 one two n (handed_most 0 fleet one m (started_most devices fleet is) handed) next)

-- ---- the lengths

flush_length : (counts : List ℕ) (channels : List Channel) → length (all_flushed counts channels) ≡ length channels
unfolding all_flushed
flush_length [] channels = refl
flush_length (n ∷ counts) [] = refl
flush_length (n ∷ counts) (c ∷ channels) = ap suc (flush_length counts channels)

pub as_many_polled : (old new : Fleet) (ending : Option Ending) → Polled old new ending → length new.channels ≡ length old.channels
as_many_polled old new ending polled = ap (λ (f : Fleet). length f.channels) polled.is ∙ (by_ending ending ∙ flush_length polled.counts old.channels)
  where
    by_ending : (o : Option Ending) → length (taken_out o (all_flushed polled.counts old.channels)) ≡ length (all_flushed polled.counts old.channels)
    by_ending None = refl
    by_ending (Some e) = changed_length (λ (c : Channel). with_ending e c) (all_flushed polled.counts old.channels) e.device

pub as_many_started : (devices : List Device) (fleet : Fleet) → fleet ≡ fleet_start devices → length fleet.channels ≡ length devices
as_many_started devices fleet is = ap (λ (f : Fleet). length f.channels) is ∙ length_start devices

pub as_many_handed : (old new : Fleet) (m : Message) → Handed old new m → length new.channels ≡ length old.channels
as_many_handed old new m handed = handed_length old new m handed

length_kinds : (joined : List Joined) → length (map (λ (j : Joined). j.kind) joined) ≡ length joined
length_kinds [] = refl
length_kinds (j ∷ joined) = ap suc (length_kinds joined)

length_channels : (channels : List Channel) → length (map (λ (c : Channel). c.kind) channels) ≡ length channels
length_channels [] = refl
length_channels (c ∷ channels) = ap suc (length_channels channels)

pub as_many_closed : (fleet : Fleet) (kept : Record) → Closes fleet kept → length kept.channels ≡ length fleet.channels
as_many_closed fleet kept closes = sym (length_kinds kept.channels) ∙ (ap (λ (l : List Kind). length l) closes.kinds ∙ length_channels fleet.channels)
