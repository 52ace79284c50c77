-- What is read of the channels of a fleet after one of them was changed, or messages of all went into their inboxes.
use Rattle.std.proofs.Common.{◌≡◌, ℕ, zero, suc, ◌+◌, ◌≤◌, ◌⊎◌, inl, inr, Bool, true, false, List, [], ◌∷◌, length, map, Option, Some, None, refl, ap, sym, subst, ◌∙◌, arith}
use Rattle.std.specs.Prelude.{slice_get, slice_set}
use Rattle.std.specs.Bool.{◌==◌}
use Rattle.std.proofs.lemmas.Bool.Decides.{nat_tests}
use Rattle.tk_types.specs.declared.script.Device.{Device}
use Rattle.tk_types.specs.declared.script.Kind.{Kind}
use Rattle.fleet_model.specs.Channels.{Channel, channel_start, flushed}
use Rattle.fleet_model.specs.Fleets.{all_flushed, changed_at, changed_in, channel_in}
use Rattle.fleet_lemmas.specs.Follows.{kinds_of, received_in}

-- ---- one channel is changed

get_here : {A : Type 0} → (xs : List A) (i : ℕ) (x y : A) → slice_get xs i ≡ Some x → slice_get (slice_set xs i y) i ≡ Some y
get_here [] i x y there = absurd (cc there)
get_here (z ∷ xs) zero x y there = refl
get_here (z ∷ xs) (suc i) x y there = get_here xs i x y there

get_apart : {A : Type 0} → (xs : List A) (i j : ℕ) (y : A) → (j ≡ i → ⊥) → slice_get (slice_set xs i y) j ≡ slice_get xs j
get_apart [] i j y apart = refl
get_apart (x ∷ xs) zero zero y apart = absurd (apart refl)
get_apart (x ∷ xs) zero (suc j) y apart = refl
get_apart (x ∷ xs) (suc i) zero y apart = refl
get_apart (x ∷ xs) (suc i) (suc j) y apart = get_apart xs i j y (λ e. apart (ap (λ n. suc n) e))

-- a channel that is read where one was changed: that one, as it was made, or another
pub data Read (change : Channel → Channel) (channels : List Channel) (at d : ℕ) (channel : Channel) : Type 0 where
  here : (old : Channel) → d ≡ at → channel_in channels at ≡ Some old → channel ≡ change old → Read change channels at d channel
  apart : (d ≡ at → ⊥) → channel_in channels d ≡ Some channel → Read change channels at d channel

one_of : {A : Type 0} (x y : A) (o : Option A) → o ≡ Some x → o ≡ Some y → x ≡ y
one_of x y o is too = cc (is, too)

-- two numbers are one or apart
pub same_or_apart : (n m : ℕ) → (n ≡ m) ⊎ (n ≡ m → ⊥)
same_or_apart n m = by (n == m) refl
  where
    by : (b : Bool) → (n == m) ≡ b → (n ≡ m) ⊎ (n ≡ m → ⊥)
    by true is = let same : n ≡ m = grind (arith, nat_tests, is) in inl same
    by false is = inr (λ e. grind (arith, nat_tests, is, e))

read_set : (change : Channel → Channel) (channels : List Channel) (at d : ℕ) (old channel : Channel) → slice_get channels at ≡ Some old →
    channel_in (slice_set channels at (change old)) d ≡ Some channel → (d ≡ suc at) ⊎ (d ≡ suc at → ⊥) → Read change channels (suc at) d channel
unfolding channel_in
read_set change channels at d old channel there is (inl same) =
    let now : channel_in (slice_set channels at (change old)) (suc at) ≡ Some channel = subst (λ (n : ℕ). channel_in (slice_set channels at (change old)) n ≡ Some channel) same is in
    here old same there (one_of channel (change old) _ now (get_here channels at old (change old) there))
read_set change channels at zero old channel there is (inr other) = absurd (cc is)
read_set change channels at (suc d) old channel there is (inr other) = apart other (sym (get_apart channels at d (change old) (λ e. other (ap (λ n. suc n) e))) ∙ is)

read_changed_by : (change : Channel → Channel) (channels : List Channel) (at d : ℕ) (channel : Channel) (found : Option Channel) → channel_in channels at ≡ found →
    channel_in (changed_in change channels at found) d ≡ Some channel → Read change channels at d channel
unfolding channel_in
read_changed_by change channels at d channel None none is = apart (λ e. nothing (subst (λ (n : ℕ). channel_in channels n ≡ Some channel) e is)) is
  where
    nothing : channel_in channels at ≡ Some channel → ⊥
    nothing some = cc (none, some)
read_changed_by change channels zero d channel (Some old) there is = absurd (cc there)
read_changed_by change channels (suc at) d channel (Some old) there is = read_set change channels at d old channel there is (same_or_apart d (suc at))

pub read_changed : (change : Channel → Channel) (channels : List Channel) (at d : ℕ) (channel : Channel) → channel_in (changed_at change channels at) d ≡ Some channel → Read change channels at d channel
unfolding changed_at
read_changed change channels at d channel is = read_changed_by change channels at d channel (channel_in channels at) refl is

-- ---- messages of all go into their inboxes

pub record Flushed (channels : List Channel) (d : ℕ) (channel : Channel) : Type 0 where
  pub old : Channel
  pub count : ℕ
  pub there : channel_in channels d ≡ Some old
  pub is : channel ≡ flushed count old

flushed_none : (channel : Channel) → channel ≡ flushed 0 channel
flushed_none channel = refl

pub read_flushed : (counts : List ℕ) (channels : List Channel) (d : ℕ) (channel : Channel) → channel_in (all_flushed counts channels) d ≡ Some channel → Flushed channels d channel
unfolding channel_in all_flushed
read_flushed [] channels d channel is = record { old = channel; count = 0; there = is; is = flushed_none channel }
read_flushed (n ∷ counts) [] zero channel is = absurd (cc is)
read_flushed (n ∷ counts) [] (suc d) channel is = absurd (cc is)
read_flushed (n ∷ counts) (first ∷ channels) zero channel is = absurd (cc is)
read_flushed (n ∷ counts) (first ∷ channels) (suc zero) channel is = let same : channel ≡ flushed n first = cc is in record { old = first; count = n; there = refl; is = same }
read_flushed (n ∷ counts) (first ∷ channels) (suc (suc d)) channel is =
    let r = read_flushed counts channels (suc d) channel is in record { old = r.old; count = r.count; there = r.there; is = r.is }

-- ---- what a change leaves of all

-- how many endings all have received
received_set : (change : Channel → Channel) (channels : List Channel) (at : ℕ) (old : Channel) (more : ℕ) → slice_get channels at ≡ Some old → length (change old).received ≡ length old.received + more →
    received_in (slice_set channels at (change old)) ≡ received_in channels + more
unfolding received_in
received_set change [] at old more there size = absurd (cc there)
received_set change (first ∷ channels) zero old more there size =
    let same : old ≡ first = cc there in
    let was : length old.received ≡ length first.received = ap (λ (c : Channel). length c.received) same in omega (arith, size, was)
received_set change (first ∷ channels) (suc at) old more there size = omega (arith, received_set change channels at old more there size)

pub received_changed : (change : Channel → Channel) (channels : List Channel) (at : ℕ) (old : Channel) (more : ℕ) → channel_in channels at ≡ Some old → length (change old).received ≡ length old.received + more →
    received_in (changed_at change channels at) ≡ received_in channels + more
unfolding channel_in changed_at
received_changed change channels zero old more there size = absurd (cc there)
received_changed change channels (suc at) old more there size =
    ap (λ (found : Option Channel). received_in (changed_in change channels (suc at) found)) there ∙ received_set change channels at old more there size

-- where nothing is received, also where there is no such channel
same_by : (change : Channel → Channel) (channels : List Channel) (at : ℕ) (found : Option Channel) → channel_in channels at ≡ found → ((c : Channel) → length (change c).received ≡ length c.received) →
    received_in (changed_in change channels at found) ≡ received_in channels
unfolding channel_in
same_by change channels at None is keeps = refl
same_by change channels zero (Some old) is keeps = refl
same_by change channels (suc at) (Some old) is keeps = omega (arith, received_set change channels at old 0 is (omega (arith, keeps old)))

pub received_same : (change : Channel → Channel) (channels : List Channel) (at : ℕ) → ((c : Channel) → length (change c).received ≡ length c.received) →
    received_in (changed_at change channels at) ≡ received_in channels
unfolding changed_at
received_same change channels at keeps = same_by change channels at (channel_in channels at) refl keeps

pub received_flushed : (counts : List ℕ) (channels : List Channel) → received_in (all_flushed counts channels) ≡ received_in channels
unfolding received_in all_flushed
received_flushed [] channels = refl
received_flushed (n ∷ counts) [] = refl
received_flushed (n ∷ counts) (channel ∷ channels) = ap (λ (m : ℕ). length channel.received + m) (received_flushed counts channels)

kinds_set : (change : Channel → Channel) (channels : List Channel) (at : ℕ) (old : Channel) → slice_get channels at ≡ Some old → ((c : Channel) → (change c).kind ≡ c.kind) →
    kinds_of (slice_set channels at (change old)) ≡ kinds_of channels
kinds_set change [] at old there keeps = refl
kinds_set change (first ∷ channels) zero old there keeps =
    let same : old ≡ first = cc there in
    ap (λ (k : Kind). k ∷ kinds_of channels) (keeps old ∙ ap (λ (c : Channel). c.kind) same)
kinds_set change (first ∷ channels) (suc at) old there keeps = ap (λ (ks : List Kind). first.kind ∷ ks) (kinds_set change channels at old there keeps)

kinds_by : (change : Channel → Channel) (channels : List Channel) (at : ℕ) (found : Option Channel) → channel_in channels at ≡ found → ((c : Channel) → (change c).kind ≡ c.kind) →
    kinds_of (changed_in change channels at found) ≡ kinds_of channels
unfolding channel_in
kinds_by change channels at None is keeps = refl
kinds_by change channels zero (Some old) is keeps = refl
kinds_by change channels (suc at) (Some old) is keeps = kinds_set change channels at old is keeps

pub kinds_changed : (change : Channel → Channel) (channels : List Channel) (at : ℕ) → ((c : Channel) → (change c).kind ≡ c.kind) → kinds_of (changed_at change channels at) ≡ kinds_of channels
unfolding changed_at
kinds_changed change channels at keeps = kinds_by change channels at (channel_in channels at) refl keeps

pub kinds_flushed : (counts : List ℕ) (channels : List Channel) → kinds_of (all_flushed counts channels) ≡ kinds_of channels
unfolding all_flushed
kinds_flushed [] channels = refl
kinds_flushed (n ∷ counts) [] = refl
kinds_flushed (n ∷ counts) (channel ∷ channels) = ap (λ (ks : List Kind). channel.kind ∷ ks) (kinds_flushed counts channels)

pub kinds_start : (devices : List Device) → kinds_of (map channel_start devices) ≡ map (λ (device : Device). device.kind) devices
kinds_start [] = refl
kinds_start (device ∷ devices) = ap (λ (ks : List Kind). device.kind ∷ ks) (kinds_start devices)

-- a channel at the start of a fleet is one that nothing went over
pub record Fresh (channel : Channel) : Type 0 where
  pub handed : channel.handed ≡ []
  pub waiting : channel.waiting ≡ []
  pub received : channel.received ≡ []

pub read_start : (devices : List Device) (d : ℕ) (channel : Channel) → channel_in (map channel_start devices) d ≡ Some channel → Fresh channel
unfolding channel_in
read_start devices zero channel is = absurd (cc is)
read_start [] (suc d) channel is = absurd (cc is)
read_start (device ∷ devices) (suc zero) channel is =
    let same : channel_start device ≡ channel = cc is in
    subst Fresh same (record { handed = refl; waiting = refl; received = refl })
read_start (device ∷ devices) (suc (suc d)) channel is = read_start devices (suc d) channel is

pub received_start : (devices : List Device) → received_in (map channel_start devices) ≡ 0
unfolding received_in
received_start [] = refl
received_start (device ∷ devices) = omega (arith, received_start devices)

-- a device up to the number of channels has one
pub there_within : (channels : List Channel) (d : ℕ) → 1 ≤ d → d ≤ length channels → (channel : Channel) × (channel_in channels d ≡ Some channel)
unfolding channel_in
there_within channels zero low high = absurd (omega (arith, low))
there_within [] (suc d) low high = absurd (omega (arith, high))
there_within (first ∷ channels) (suc zero) low high = (first, refl)
there_within (first ∷ channels) (suc (suc d)) low high = there_within channels (suc d) (omega arith) (omega (arith, high))
