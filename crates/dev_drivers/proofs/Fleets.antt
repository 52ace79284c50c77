-- What the calls of a fleet come to.
use Rattle.std.proofs.Common.{◌≡◌, ℕ, ◌+◌, ◌-◌, ◌<◌, ◌≤◌, zero, suc, List, [], ◌∷◌, ◌++◌, length, map, Option, None, Some, refl, ap, subst, sym, ◌∙◌, arith, get_or, set}
use Rattle.std.specs.List.{slice_get}
use Rattle.std.specs.Prelude.{IfSome}
use Rattle.std.proofs.lemmas.List.{get_or-map}
use Rattle.device_model.specs.declared.messages.Ending.{Ending}
use Rattle.device_model.specs.declared.messages.Message.{Message}
use Rattle.device_model.specs.declared.messages.Message.TheVariants as message
use Rattle.fleet_model.specs.Channels.{Channel, flushed, marked, with_message}
use Rattle.fleet_model.specs.Fleets.{EachHasPlace, Fleet, Handed, HasPlace, IsOfFleet, Polled, Waited, all_flushed, changed_at, changed_in, channel_in, counted, device_of, taken_out}
use Rattle.fleet_model.specs.Records.{AreJoined, Closes, Joined, Record, all_stopped, joined_in}
use Rattle.dev_drivers.specs.declared.driven.Driven.{Driven}
use Rattle.dev_drivers.specs.declared.closed.Closed.{Closed}
use Rattle.dev_drivers.specs.declared.job.DriverJob.{DriverJob}
use Rattle.dev_drivers.specs.Closings.{AllStop, joined_of}
use Rattle.dev_drivers.specs.FleetFacts.{CameOut, IsFleet, MarkedIn}
use Rattle.dev_drivers.specs.Lines.{AllFlushed, Kept, channels_of, devices_of, numbers}
use Rattle.dev_drivers.specs.Links.{channel_of}
use Rattle.dev_drivers.proofs.Closes.{length_devices}
use Rattle.dev_drivers.proofs.Lines.{flushed_all_on, kept_none, kept_on, many}

module _ {H : Type 0} where
  -- an ending was asked for, and none came
  pub nothing_came : (a b c : List (Driven H)) → AllFlushed a b → Kept b c → channels_of c ≡ taken_out None (channels_of b) → AllFlushed a c
  nothing_came a b c one kept same = record { kept = kept_on a b c one.kept kept; counts = one.counts; channels = same ∙ one.channels }

  -- one came
  pub one_came : (a b c : List (Driven H)) (e : Ending) → AllFlushed a b → Kept b c → channels_of c ≡ taken_out (Some e) (channels_of b) → (1 ≤ e.device) × (e.device ≤ length a) → CameOut a c e
  one_came a b c e one kept out of = record {
    kept = kept_on a b c one.kept kept;
    counts = one.counts;
    channels = out ∙ ap (λ (l : List Channel). taken_out (Some e) l) one.channels;
    first = of.0;
    last = of.1;
  }

  pub waited_of : (a c : List (Driven H)) (e : Ending) (dropped polls : ℕ) → CameOut a c e →
      Waited (record { channels = channels_of a; dropped = dropped; polls = polls }) (record { channels = channels_of c; dropped = dropped; polls = polls }) (Some e)
      × IsOfFleet (record { channels = channels_of a; dropped = dropped; polls = polls }) (Some e)
  waited_of a c e dropped polls came = (
    record { counts = came.counts; is = ap (λ (l : List Channel). let f : Fleet = record { channels = l; dropped = dropped; polls = polls } in f) came.channels },
    (came.first, subst (λ (n : ℕ). e.device ≤ n) (sym (many a)) came.last),
  )

  pub polled_of : (a b c : List (Driven H)) (e : Option Ending) (dropped polls now : ℕ) → AllFlushed a b → channels_of c ≡ taken_out e (channels_of b) → now ≡ counted (polls + 1) →
      Polled (record { channels = channels_of a; dropped = dropped; polls = polls }) (record { channels = channels_of c; dropped = dropped; polls = now }) e
  polled_of a b c e dropped polls now one out one_more = record {
    counts = one.counts;
    is = ap (λ (l : List Channel). let f : Fleet = record { channels = l; dropped = dropped; polls = now } in f) (out ∙ ap (λ (l : List Channel). taken_out e l) one.channels)
        ∙ ap (λ (n : ℕ). let f : Fleet = record { channels = taken_out e (all_flushed one.counts (channels_of a)); dropped = dropped; polls = n } in f) one_more;
  }

-- ---- all that was closed

kinds_of : (d : ℕ) (channels : List Channel) (joined : List Joined) → AllStop d channels joined → map (λ (c : Joined). c.kind) joined ≡ map (λ (c : Channel). c.kind) channels
kinds_of d [] [] all = refl
kinds_of d [] (j ∷ joined) all = absurd all
kinds_of d (c ∷ channels) [] all = absurd all
kinds_of d (c ∷ channels) (j ∷ joined) all = ap (λ k. k ∷ map (λ (c : Joined). c.kind) joined) all.0.kind ∙ ap (λ l. c.kind ∷ l) (kinds_of (suc d) channels joined all.1)

handed_of : (d : ℕ) (channels : List Channel) (joined : List Joined) → AllStop d channels joined → map (λ (c : Joined). c.handed) joined ≡ all_stopped d channels
unfolding all_stopped
handed_of d [] [] all = refl
handed_of d [] (j ∷ joined) all = absurd all
handed_of d (c ∷ channels) [] all = absurd all
handed_of d (c ∷ channels) (j ∷ joined) all =
    ap (λ (l : List Message). l ∷ map (λ (c : Joined). c.handed) joined) all.0.handed ∙ ap (λ (l : List (List Message)). (c.handed ++ message.Stop d ∷ []) ∷ l) (handed_of (suc d) channels joined all.1)

received_of : (d : ℕ) (channels : List Channel) (joined : List Joined) → AllStop d channels joined → map (λ (c : Joined). c.received) joined ≡ map (λ (c : Channel). c.received) channels
received_of d [] [] all = refl
received_of d [] (j ∷ joined) all = absurd all
received_of d (c ∷ channels) [] all = absurd all
received_of d (c ∷ channels) (j ∷ joined) all = ap (λ (l : List Ending). l ∷ map (λ (c : Joined). c.received) joined) all.0.received ∙ ap (λ (l : List (List Ending)). c.received ∷ l) (received_of (suc d) channels joined all.1)

joined_all : (d : ℕ) (channels : List Channel) (joined : List Joined) → AllStop d channels joined → AreJoined d joined
joined_all d [] [] all = tt
joined_all d [] (j ∷ joined) all = absurd all
joined_all d (c ∷ channels) [] all = absurd all
joined_all d (c ∷ channels) (j ∷ joined) all = (all.0.ended, joined_all (suc d) channels joined all.1)

pub closes_of : (channels : List Channel) (joined : List Joined) (dropped polls : ℕ) → AllStop 1 channels joined →
    Closes (record { channels = channels; dropped = dropped; polls = polls }) (record { channels = joined; dropped = dropped; polls = polls })
closes_of channels joined dropped polls all = record {
  kinds = kinds_of 1 channels joined all;
  handed = handed_of 1 channels joined all;
  received = received_of 1 channels joined all;
  joined = joined_all 1 channels joined all;
  dropped = refl;
  polls = refl;
}

-- ---- a device that has a channel

pub at_place_of : (channels : List Channel) (i : ℕ) (channel : Channel) → slice_get channels i ≡ Some channel → (i < length channels) × ((d : Channel) → get_or channels i d ≡ channel)
at_place_of [] i channel is = absurd (cc is)
at_place_of (c ∷ channels) zero channel is = (omega arith, λ d. cc is)
at_place_of (c ∷ channels) (suc i) channel is = let more = at_place_of channels i channel is in let few : i < length channels = more.0 in (omega (arith, few), λ d. more.1 d)

pub has_place_of : (channels : List Channel) (k : ℕ) (channel : Channel) → channel_in channels k ≡ Some channel → (1 ≤ k) × (k ≤ length channels) × ((d : Channel) → get_or channels (k - 1) d ≡ channel)
unfolding channel_in
has_place_of channels zero channel is = absurd (cc is)
has_place_of channels (suc i) channel is =
    let more = at_place_of channels i channel is in
    let few : i < length channels = more.0 in
    (omega arith, omega (arith, few), λ d. (let same : suc i - 1 ≡ i = omega arith in ap (λ (n : ℕ). get_or channels n d) same) ∙ more.1 d)

-- ---- what holds of a fleet at every time

pub same_length : {H : Type 0} (a b : List (Driven H)) → devices_of b ≡ devices_of a → length b ≡ length a
same_length a b is = sym (length_devices b) ∙ (ap (λ (l : List ℕ). length l) is ∙ length_devices a)

pub fleet_on : {H : Type 0} (job_of : H → DriverJob) (a b : List (Driven H)) (kept : List Closed) (room : ℕ) → IsFleet job_of a kept room → Kept a b → IsFleet job_of b kept room
fleet_on job_of a b kept room is same =
    let size : length b ≡ length a = same_length a b same.devices in
    let fits : length a ≤ room = is.fits in
    record {
      linked = same.links job_of is.linked;
      numbered = same.devices ∙ (is.numbered ∙ ap (λ (n : ℕ). numbers 1 n) (sym size));
      none = is.none;
      fits = omega (arith, size, fits);
    }

pub few_at : {H : Type 0} (lines : List (Driven H)) (i : ℕ) (d : Driven H) (channel : Channel) → i < length lines → d ≡ get_or lines i d → ((o : Channel) → get_or (channels_of lines) i o ≡ channel) → length channel.waiting < 4 →
    length d.link.waiting.items < 4
few_at {H} lines i d channel few is at place =
    subst (λ (c : Channel). length c.waiting < 4) (sym (at (channel_of d.link)) ∙ (get_or-map (λ (o : Driven H). channel_of o.link) lines i d (channel_of d.link) few ∙ ap (λ (o : Driven H). channel_of o.link) (sym is))) place

pub of_number : (o : Option Ending) (a b : ℕ) → a ≡ b → IfSome o (λ e. e.device ≡ a) → IfSome o (λ e. e.device ≡ b)
of_number None a b same is = tt
of_number (Some e) a b same is = is ∙ same

-- ---- a device that has no channel

none_past : (channels : List Channel) (i : ℕ) → length channels ≤ i → slice_get channels i ≡ None
none_past [] i few = refl
none_past (c ∷ channels) zero few = absurd (omega (arith, few))
none_past (c ∷ channels) (suc i) few = none_past channels i (omega (arith, few))

no_change : (change : Channel → Channel) (channels : List Channel) (k : ℕ) → (1 ≤ k → length channels < k) → changed_at change channels k ≡ channels
unfolding changed_at channel_in
no_change change channels zero few = refl
no_change change channels (suc i) few = let past : length channels < suc i = few (omega arith) in ap (λ (o : Option Channel). changed_in change channels (suc i) o) (none_past channels i (omega (arith, past)))

pub unmarked : {H : Type 0} (lines : List (Driven H)) (k : ℕ) → (1 ≤ k → length lines < k) → MarkedIn lines lines k
unmarked {H} lines k few = record {
  kept = kept_none lines;
  channels = sym (no_change marked (channels_of lines) k (λ some. subst (λ (n : ℕ). n < k) (sym (many lines)) (few some)));
}

-- ---- the record of a device

joined_there : (kept : List Closed) (i : ℕ) (closed : Closed) (joined : Joined) → i < length kept → closed ≡ get_or kept i closed → slice_get (map joined_of kept) i ≡ Some joined → joined ≡ joined_of closed
joined_there [] i closed joined few at is = absurd (omega (arith, few))
joined_there (c ∷ kept) zero closed joined few at is = let same : joined_of c ≡ joined = cc is in sym same ∙ ap joined_of (sym at)
joined_there (c ∷ kept) (suc i) closed joined few at is = joined_there kept i closed joined (omega (arith, few)) at is

pub joined_at : (kept : List Closed) (k : ℕ) (closed : Closed) (joined : Joined) → 1 ≤ k → k ≤ length kept → closed ≡ get_or kept (k - 1) closed → joined_in (map joined_of kept) k ≡ Some joined → joined ≡ joined_of closed
unfolding joined_in
joined_at kept zero closed joined some few at is = absurd (cc is)
joined_at kept (suc i) closed joined some few at is =
    let same : suc i - 1 ≡ i = omega arith in
    joined_there kept i closed joined (omega (arith, few)) (at ∙ ap (λ (n : ℕ). get_or kept n closed) same) is

pub many_joined : (kept : List Closed) → length (map joined_of kept) ≡ length kept
many_joined [] = refl
many_joined (c ∷ kept) = ap suc (many_joined kept)
