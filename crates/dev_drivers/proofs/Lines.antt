-- What is done with one device of a fleet, as it shows in the row of all.
use Rattle.std.proofs.Common.{◌≡◌, ℕ, ◌+◌, ◌<◌, ◌≤◌, zero, suc, List, [], ◌∷◌, ◌++◌, length, map, Option, None, Some, refl, ap, subst, sym, ◌∙◌, arith, rules, get_or, set}
use Rattle.std.specs.List.{All, slice_get, slice_index_or}
use Rattle.std.specs.Prelude.{slice_set, IfSome, IfNone, Bool, false}
use Rattle.std.specs.Option.{is_some}
use Rattle.std.proofs.lemmas.List.{get_or-map, map-set, set-get_or}
use Rattle.std.proofs.Math.Seq.{map-set_same}
use Rattle.std.proofs.lemmas.List.Elements.{All-get_or, All-set}
use Rattle.device_model.specs.declared.messages.Ending.{Ending}
use Rattle.device_model.specs.declared.messages.Message.{Message}
use Rattle.fleet_model.specs.Channels.{Channel, flushed, marked, with_ending, with_message}
use Rattle.fleet_model.specs.Fleets.{all_flushed, changed_at, changed_in, channel_in, taken_out}
use Rattle.dev_drivers.specs.declared.job.DriverJob.{DriverJob}
use Rattle.dev_drivers.specs.declared.driven.Driven.{Driven}
use Rattle.dev_drivers.specs.declared.link.Link.{Link}
use Rattle.dev_drivers.specs.Lines.{AllFlushed, EachLinked, Kept, channels_of, devices_of, numbers}
use Rattle.dev_drivers.specs.Links.{Flushed, HandedTo, IsLinkOf, SameLink, channel_of}
use Rattle.dev_drivers.proofs.Links.{flushed_on_channel}

-- ---- the channels of a fleet

-- as many messages as in both
merged : List ℕ → List ℕ → List ℕ
merged [] more = more
merged (n ∷ counts) [] = n ∷ counts
merged (n ∷ counts) (m ∷ more) = (n + m) ∷ merged counts more

all_on : (counts more : List ℕ) (channels : List Channel) → all_flushed more (all_flushed counts channels) ≡ all_flushed (merged counts more) channels
unfolding all_flushed merged
all_on [] more channels = refl
all_on (n ∷ counts) [] [] = refl
all_on (n ∷ counts) [] (c ∷ channels) = refl
all_on (n ∷ counts) (m ∷ more) [] = refl
all_on (n ∷ counts) (m ∷ more) (c ∷ channels) =
    ap (λ (o : Channel). o ∷ all_flushed more (all_flushed counts channels)) (flushed_on_channel n m c)
    ∙ ap (λ (l : List Channel). flushed (n + m) c ∷ l) (all_on counts more channels)

-- only the channel at one place
at_place : ℕ → ℕ → List ℕ
at_place zero n = n ∷ []
at_place (suc i) n = 0 ∷ at_place i n

one_place : (i n : ℕ) (channels : List Channel) (d : Channel) → i < length channels → all_flushed (at_place i n) channels ≡ set channels i (flushed n (get_or channels i d))
unfolding all_flushed at_place
one_place i n [] d few = absurd (omega (arith, few))
one_place zero n (c ∷ channels) d few = refl
one_place (suc i) n (c ∷ channels) d few = ap (λ (l : List Channel). c ∷ l) (one_place i n channels d (omega (arith, few)))

-- a change of the channel of a device
in_place : (change : Channel → Channel) (channels : List Channel) (i : ℕ) (d : Channel) → i < length channels → slice_get channels i ≡ Some (get_or channels i d)
in_place change [] i d few = absurd (omega (arith, few))
in_place change (c ∷ channels) zero d few = refl
in_place change (c ∷ channels) (suc i) d few = in_place change channels i d (omega (arith, few))

change_is : (change : Channel → Channel) (channels : List Channel) (i : ℕ) (d : Channel) → i < length channels → changed_at change channels (suc i) ≡ set channels i (change (get_or channels i d))
unfolding changed_at channel_in
change_is change channels i d few = ap (λ (o : Option Channel). changed_in change channels (suc i) o) (in_place change channels i d few)

-- ---- one line is another

linked_set : (job : DriverJob) (a b : Link) → SameLink a b → IsLinkOf job a → b.kind ≡ a.kind → IsLinkOf job b
linked_set job a b same linked kind = (search rules, search rules, linked.2 ∙ sym same.device, linked.3 ∙ sym kind)

module _ {H : Type 0} where
  pub kept_none : (lines : List (Driven H)) → Kept lines lines
  kept_none lines = record { links = λ job_of is. is; devices = refl }

  pub kept_on : (a b c : List (Driven H)) → Kept a b → Kept b c → Kept a c
  kept_on a b c one two = record { links = λ job_of is. two.links job_of (one.links job_of is); devices = two.devices ∙ one.devices }

  pub kept_set : (lines : List (Driven H)) (i : ℕ) (d now : Driven H) → i < length lines → SameLink (get_or lines i d).link now.link → now.link.kind ≡ (get_or lines i d).link.kind →
      now.driver ≡ (get_or lines i d).driver → Kept lines (set lines i now)
  kept_set lines i d now few same kind driver = record {
    links = λ job_of is. All-set (λ (o : Driven H). IsLinkOf (job_of o.driver) o.link) lines i now
        (subst (λ (h : H). IsLinkOf (job_of h) now.link) (sym driver)
        (linked_set (job_of (get_or lines i d).driver) (get_or lines i d).link now.link same (All-get_or (λ (o : Driven H). IsLinkOf (job_of o.driver) o.link) lines i d few is) kind)) is;
    devices = map-set_same (λ (o : Driven H). o.link.device) lines i now d same.device;
  }

  pub flushed_all_none : (lines : List (Driven H)) → AllFlushed lines lines
  unfolding all_flushed
  flushed_all_none lines = record { kept = kept_none lines; counts = []; channels = refl }

  pub flushed_all_on : (a b c : List (Driven H)) → AllFlushed a b → AllFlushed b c → AllFlushed a c
  flushed_all_on a b c one two = record {
    kept = kept_on a b c one.kept two.kept;
    counts = merged one.counts two.counts;
    channels = two.channels ∙ (ap (λ (l : List Channel). all_flushed two.counts l) one.channels ∙ all_on one.counts two.counts (channels_of a));
  }

  channels_set : (lines : List (Driven H)) (i : ℕ) (d now : Driven H) → channels_of (set lines i now) ≡ set (channels_of lines) i (channel_of now.link)
  channels_set lines i d now = map-set (λ (o : Driven H). channel_of o.link) lines i now

  channel_at_is : (lines : List (Driven H)) (i : ℕ) (d : Driven H) → i < length lines → get_or (channels_of lines) i (channel_of d.link) ≡ channel_of (get_or lines i d).link
  channel_at_is lines i d few = get_or-map (λ (o : Driven H). channel_of o.link) lines i d (channel_of d.link) few

  pub many : (lines : List (Driven H)) → length (channels_of lines) ≡ length lines
  many [] = refl
  many (d ∷ lines) = ap suc (many lines)

  -- the messages of one device went
  pub flushed_set : (lines : List (Driven H)) (i : ℕ) (d now : Driven H) → i < length lines → Flushed (get_or lines i d).link now.link →
      now.driver ≡ (get_or lines i d).driver → AllFlushed lines (set lines i now)
  flushed_set lines i d now few one driver = record {
    kept = kept_set lines i d now few one.same (ap (λ (c : Channel). c.kind) one.channel) driver;
    counts = at_place i one.count;
    channels = channels_set lines i d now
        ∙ (ap (λ (c : Channel). set (channels_of lines) i c) (one.channel ∙ ap (λ (c : Channel). flushed one.count c) (sym (channel_at_is lines i d few)))
        ∙ sym (one_place i one.count (channels_of lines) (channel_of d.link) (subst (λ (n : ℕ). i < n) (sym (many lines)) few)));
  }

  -- the channel of one device was changed
  pub changed_set : (change : Channel → Channel) (lines : List (Driven H)) (i k : ℕ) (d now : Driven H) → i < length lines → k ≡ suc i → channel_of now.link ≡ change (channel_of (get_or lines i d).link) →
      channels_of (set lines i now) ≡ changed_at change (channels_of lines) k
  changed_set change lines i k d now few number is =
      channels_set lines i d now
      ∙ (ap (λ (c : Channel). set (channels_of lines) i c) (is ∙ ap change (sym (channel_at_is lines i d few)))
      ∙ (sym (change_is change (channels_of lines) i (channel_of d.link) (subst (λ (n : ℕ). i < n) (sym (many lines)) few))
      ∙ ap (λ (n : ℕ). changed_at change (channels_of lines) n) (sym number)))

  -- the channel of one device stays
  pub channel_set : (lines : List (Driven H)) (i : ℕ) (d now : Driven H) → channel_of now.link ≡ channel_of (get_or lines i d).link → channels_of (set lines i now) ≡ channels_of lines
  channel_set lines i d now same = map-set_same (λ (o : Driven H). channel_of o.link) lines i now d same

-- ---- numbers

pub number_at : (first n i : ℕ) (d : ℕ) → i < n → get_or (numbers first n) i d ≡ first + i
number_at first zero i d few = absurd (omega (arith, few))
number_at first (suc n) zero d few = omega arith
number_at first (suc n) (suc i) d few = number_at (suc first) n i d (omega (arith, few)) ∙ (omega arith)

module _ {H : Type 0} where
  pub device_is : (lines : List (Driven H)) (n i : ℕ) (d : Driven H) → devices_of lines ≡ numbers 1 n → n ≡ length lines → i < length lines → (get_or lines i d).link.device ≡ suc i
  device_is lines n i d numbered all few =
      sym (get_or-map (λ (o : Driven H). o.link.device) lines i d d.link.device few)
      ∙ (ap (λ (l : List ℕ). get_or l i d.link.device) numbered
      ∙ (number_at 1 n i d.link.device (subst (λ (m : ℕ). i < m) (sym all) few) ∙ (omega arith)))

  pub flushed_at : (lines : List (Driven H)) (i : ℕ) (d now : Driven H) → i < length lines → d ≡ get_or lines i d → Flushed d.link now.link → now.driver ≡ d.driver → AllFlushed lines (set lines i now)
  flushed_at lines i d now few is one driver =
      flushed_set lines i d now few (subst (λ (o : Driven H). Flushed o.link now.link) is one) (driver ∙ ap (λ (o : Driven H). o.driver) is)

  -- an ending was asked for at one device
  pub popped_set : (lines : List (Driven H)) (i : ℕ) (d now : Driven H) (result : Option Ending) (K : Type 0) → i < length lines → d ≡ get_or lines i d → SameLink d.link now.link → now.driver ≡ d.driver → d.link.device ≡ suc i →
      IfSome result (λ e. e.device ≡ d.link.device) → IfSome result (λ e. channel_of now.link ≡ with_ending e (channel_of d.link)) → IfNone result ((channel_of now.link ≡ channel_of d.link) × K) →
      Kept lines (set lines i now) × (channels_of (set lines i now) ≡ taken_out result (channels_of lines))
  popped_set lines i d now None K few is same driver number device some none = (
    kept_set lines i d now few (subst (λ (o : Driven H). SameLink o.link now.link) is same) (ap (λ (c : Channel). c.kind) none.0 ∙ ap (λ (o : Driven H). o.link.kind) is) (driver ∙ ap (λ (o : Driven H). o.driver) is),
    channel_set lines i d now (none.0 ∙ ap (λ (o : Driven H). channel_of o.link) is),
  )
  popped_set lines i d now (Some e) K few is same driver number device some none = (
    kept_set lines i d now few (subst (λ (o : Driven H). SameLink o.link now.link) is same) (ap (λ (c : Channel). c.kind) some ∙ ap (λ (o : Driven H). o.link.kind) is) (driver ∙ ap (λ (o : Driven H). o.driver) is),
    changed_set (λ (c : Channel). with_ending e c) lines i e.device d now few (device ∙ number) (some ∙ ap (λ (o : Driven H). with_ending e (channel_of o.link)) is),
  )

  -- a message was handed to one device
  pub handed_set : (lines : List (Driven H)) (i k : ℕ) (d now : Driven H) (m : Message) (to : HandedTo d.link now.link m) → i < length lines → k ≡ suc i → d ≡ get_or lines i d → now.driver ≡ d.driver →
      Kept lines (set lines i now) × (channels_of (set lines i now) ≡ changed_at (λ (c : Channel). flushed to.count (with_message m c)) (channels_of lines) k)
  handed_set lines i k d now m to few number is driver = (
    kept_set lines i d now few (subst (λ (o : Driven H). SameLink o.link now.link) is to.same) (ap (λ (c : Channel). c.kind) to.channel ∙ ap (λ (o : Driven H). o.link.kind) is) (driver ∙ ap (λ (o : Driven H). o.driver) is),
    changed_set (λ (c : Channel). flushed to.count (with_message m c)) lines i k d now few number (to.channel ∙ ap (λ (o : Driven H). flushed to.count (with_message m (channel_of o.link))) is),
  )

  -- a device was marked
  pub marked_set : (lines : List (Driven H)) (i k : ℕ) (d now : Driven H) → i < length lines → k ≡ suc i → d ≡ get_or lines i d → SameLink d.link now.link → channel_of now.link ≡ marked (channel_of d.link) → now.driver ≡ d.driver →
      Kept lines (set lines i now) × (channels_of (set lines i now) ≡ changed_at marked (channels_of lines) k)
  marked_set lines i k d now few number is same channel driver = (
    kept_set lines i d now few (subst (λ (o : Driven H). SameLink o.link now.link) is same) (ap (λ (c : Channel). c.kind) channel ∙ ap (λ (o : Driven H). o.link.kind) is) (driver ∙ ap (λ (o : Driven H). o.driver) is),
    changed_set marked lines i k d now few number (channel ∙ ap (λ (o : Driven H). marked (channel_of o.link)) is),
  )

pub none_is : (o : Option Ending) → is_some o ≡ false → o ≡ None
none_is None is = refl
none_is (Some e) is = absurd (cc is)

pub within : (o : Option Ending) (device i n : ℕ) → device ≡ suc i → i < n → IfSome o (λ e. e.device ≡ device) → IfSome o (λ e. (1 ≤ e.device) × (e.device ≤ n))
within None device i n number few is = tt
within (Some e) device i n number few is = (omega (arith, number, few, is), omega (arith, number, few, is))
