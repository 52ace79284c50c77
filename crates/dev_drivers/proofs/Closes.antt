-- What the closing of a device, and of all, comes to.
use Rattle.std.proofs.Common.{◌≡◌, ℕ, ◌+◌, ◌<◌, ◌≤◌, ◌⊎◌, ◌^◌, min, zero, suc, drop, List, [], ◌∷◌, ◌++◌, length, map, refl, ap, subst, sym, ◌∙◌, arith, append_assoc, rules}
use Rattle.std.specs.List.{slice_index_or}
use Rattle.std.proofs.lemmas.List.Elements.{All-head, All-tail}
use Rattle.std.proofs.lemmas.List.{append-nil, length-append, map-append}
use Rattle.rtrb.specs.Ring.{received, sent}
use Rattle.device_model.specs.declared.messages.Ending.{Ending}
use Rattle.device_model.specs.declared.messages.Message.{Message}
use Rattle.device_model.specs.declared.messages.Message.TheVariants as message
use Rattle.tk_types.specs.declared.script.Kind.{Kind}
use Rattle.fleet_model.specs.Channels.{Channel, flushed, with_message}
use Rattle.fleet_model.specs.Records.{EndsWithStop, IsJoined, Joined}
use Rattle.fleet_model.specs.Fleets.{EachHasPlace, counted, most_counted}
use Rattle.driver_laws.proofs.Folds.{counts}
use Rattle.std.proofs.lemmas.Bool.Decides.{nat_tests}
use Rattle.driver_model.specs.Drives.{Driving, Reaches, driving_start, ran}
use Rattle.dev_drivers.specs.declared.closed.Closed.{Closed}
use Rattle.dev_drivers.specs.declared.driven.Driven.{Driven}
use Rattle.dev_drivers.specs.declared.job.DriverJob.{DriverJob}
use Rattle.dev_drivers.specs.declared.link.Link.{Link}
use Rattle.dev_drivers.specs.declared.log.DriverLog.{DriverLog}
use Rattle.dev_drivers.specs.Closings.{AllStop, ClosesTo, Closing, IsEnded, StopsTo, joined_of}
use Rattle.dev_drivers.specs.FleetFacts.{IsFleet}
use Rattle.dev_drivers.specs.Lines.{EachLinked, channels_of, devices_of, numbers}
use Rattle.dev_drivers.specs.Links.{Flushed, HandedTo, IsLinkOf, channel_of, of_device}
use Rattle.dev_drivers.specs.Logs.{driving}
use Rattle.dev_drivers.proofs.Devices.{front_of, sent_of}

-- the record of a device, by what the rings show
pub ended_by : (device : ℕ) (kind : Kind) (link : Link) (log : DriverLog) (handed taken known : List Message) (out got unseen : List Ending) → IsEnded link log → device ≡ link.device → kind ≡ link.kind →
    taken ≡ received log.inbox → taken ++ known ≡ handed → out ≡ sent log.outbox → got ++ unseen ≡ out →
    IsJoined device (record { kind = kind; handed = handed; taken = taken; sent = out; received = map (of_device device) got })
ended_by device kind link log handed taken known out got unseen ended is of_kind took fifo gave order =
    let run : Reaches (driving_start device kind) (record { core = log.core; taken = taken; sent = out }) = record {
      events = ended.ends.run.events;
      gives = ap (λ (n : ℕ). ran (driving_start n kind) ended.ends.run.events) (is ∙ sym ended.linked.2)
          ∙ (ap (λ (k : Kind). ran (driving_start ended.job.device k) ended.ends.run.events) (of_kind ∙ sym ended.linked.3)
          ∙ (ended.ends.run.gives
          ∙ (ap (λ (l : List Message). let d : Driving = record { core = log.core; taken = l; sent = sent log.outbox } in d) (sym took)
          ∙ ap (λ (l : List Ending). let d : Driving = record { core = log.core; taken = taken; sent = l } in d) (sym gave))));
    } in
    let all : map (of_device device) (got ++ unseen) ≡ got ++ unseen = subst (λ (l : List Ending). map (of_device device) l ≡ l) (sym order) (sent_of device kind (record { core = log.core; taken = taken; sent = out }) run) in
    record {
      taken = record { rest = known; is = sym fifo };
      received = record { rest = unseen; is = sym order ∙ ap (λ (l : List Ending). l ++ unseen) (sym (front_of device got unseen all)) };
      core = log.core;
      run = run;
      over = subst (λ (l : List Message). EndsWithStop l ⊎ (length l ≡ most_counted)) (sym took) ended.ends.over;
    }

-- a Stop, and what waited has gone
pub stops_by : (old link now : Link) (joined : Joined) (device : ℕ) → device ≡ old.device → HandedTo old link (message.Stop device) → Flushed link now → ClosesTo (channel_of now) now.device joined → StopsTo (channel_of old) old.device joined
stops_by old link now joined device is one two closes = record {
  kind = closes.kind ∙ (ap (λ (c : Channel). c.kind) two.channel ∙ ap (λ (c : Channel). c.kind) one.channel);
  handed = closes.handed ∙ (ap (λ (c : Channel). c.handed) two.channel ∙ (ap (λ (c : Channel). c.handed) one.channel ∙ ap (λ (n : ℕ). (channel_of old).handed ++ message.Stop n ∷ []) is));
  received = closes.received ∙ (ap (λ (c : Channel). c.received) two.channel ∙ ap (λ (c : Channel). c.received) one.channel);
  ended = subst (λ (n : ℕ). IsJoined n joined) (two.same.device ∙ one.same.device) closes.ended;
}

-- ---- one after another

all_stop_on : (d : ℕ) (channels : List Channel) (joined : List Joined) (c : Channel) (j : Joined) (n : ℕ) → AllStop d channels joined → n ≡ d + length joined → StopsTo c n j → AllStop d (channels ++ c ∷ []) (joined ++ j ∷ [])
all_stop_on d [] [] c j n all is one = (subst (λ (k : ℕ). StopsTo c k j) (is ∙ (omega arith)) one, tt)
all_stop_on d [] (o ∷ joined) c j n all is one = absurd all
all_stop_on d (p ∷ channels) [] c j n all is one = absurd all
all_stop_on d (p ∷ channels) (o ∷ joined) c j n all is one = (all.0, all_stop_on (suc d) channels joined c j n all.1 (omega (arith, is)) one)

length_map : (kept : List Closed) → length (map joined_of kept) ≡ length kept
length_map [] = refl
length_map (c ∷ kept) = ap suc (length_map kept)

first_is : (first n device : ℕ) (rest : List ℕ) → (device ∷ rest) ≡ numbers first n → (device ≡ first) × (rest ≡ numbers (suc first) (length rest))
first_is first zero device rest is = absurd (cc is)
first_is first (suc n) device rest is =
    let tail : rest ≡ numbers (suc first) n = cc is in
    (cc is, tail ∙ ap (λ (k : ℕ). numbers (suc first) k) (sym (ap length tail ∙ length_numbers (suc first) n)))
  where
    length_numbers : (first n : ℕ) → length (numbers first n) ≡ n
    length_numbers first zero = refl
    length_numbers first (suc n) = ap suc (length_numbers (suc first) n)

module _ {H : Type 0} where
  pub length_devices : (lines : List (Driven H)) → length (devices_of lines) ≡ length lines
  length_devices [] = refl
  length_devices (d ∷ lines) = ap suc (length_devices lines)

  pub closing_starts : (job_of : H → DriverJob) (lines : List (Driven H)) (kept : List Closed) (room : ℕ) → IsFleet job_of lines kept room → EachHasPlace (channels_of lines) → Closing job_of (channels_of lines) kept lines
  closing_starts job_of lines kept room is places = record {
    front = [];
    is = refl;
    closed = subst (λ (l : List Closed). AllStop 1 [] (map joined_of l)) (sym is.none) tt;
    linked = is.linked;
    numbered = is.numbered ∙ ap (λ (k : ℕ). numbers k (length lines)) (sym (ap (λ (l : List Closed). length l + 1) is.none));
    places = places;
  }

  -- the first of those left
  abbrev pub First : (H → DriverJob) → List Closed → List (Driven H) → Driven H → Type 0
  First job_of kept left d = IsLinkOf (job_of d.driver) d.link × (length d.link.waiting.items < 4) × (d.link.device ≡ length kept + 1)

  pub first_of_left : (job_of : H → DriverJob) (start : List Channel) (kept : List Closed) (left rest : List (Driven H)) (d : Driven H) → Closing job_of start kept left → left ≡ d ∷ rest → First job_of kept left d
  first_of_left job_of start kept left rest d is first =
      let at = subst (λ (l : List (Driven H)). Closing job_of start kept l) first is in
      (All-head (λ (o : Driven H). IsLinkOf (job_of o.driver) o.link) d rest at.linked, at.places.0, (first_is (length kept + 1) (suc (length rest)) d.link.device (devices_of rest) at.numbered).0)

  pub closing_on : (job_of : H → DriverJob) (start : List Channel) (kept now : List Closed) (left rest : List (Driven H)) (d : Driven H) (c : Closed) → Closing job_of start kept left → left ≡ d ∷ rest → now ≡ kept ++ c ∷ [] →
      StopsTo (channel_of d.link) d.link.device (joined_of c) → Closing job_of start now rest
  closing_on job_of start kept now left rest d c is first put stops =
      let at = subst (λ (l : List (Driven H)). Closing job_of start kept l) first is in
      let number = first_is (length kept + 1) (suc (length rest)) d.link.device (devices_of rest) at.numbered in
      let more : length now ≡ length kept + 1 = ap length put ∙ length-append kept (c ∷ []) in
      record {
        front = at.front ++ channel_of d.link ∷ [];
        is = at.is ∙ sym (append_assoc at.front (channel_of d.link ∷ []) (channels_of rest));
        closed = subst (λ (l : List Joined). AllStop 1 (at.front ++ channel_of d.link ∷ []) l) (sym (ap (λ (l : List Closed). map joined_of l) put ∙ map-append joined_of kept (c ∷ [])))
            (all_stop_on 1 at.front (map joined_of kept) (channel_of d.link) (joined_of c) d.link.device at.closed (number.0 ∙ (ap (λ (k : ℕ). k + 1) (sym (length_map kept)) ∙ (omega arith))) stops);
        linked = All-tail (λ (o : Driven H). IsLinkOf (job_of o.driver) o.link) d rest at.linked;
        numbered = number.1 ∙ (ap (λ (k : ℕ). numbers k (length (devices_of rest))) (omega (arith, more)) ∙ ap (λ (k : ℕ). numbers (length now + 1) k) (length_devices rest));
        places = at.places.1;
      }

  pub closing_ends : (job_of : H → DriverJob) (start : List Channel) (kept : List Closed) (left : List (Driven H)) → Closing job_of start kept left → left ≡ [] → AllStop 1 start (map joined_of kept)
  closing_ends job_of start kept left is none =
      let at = subst (λ (l : List (Driven H)). Closing job_of start kept l) none is in
      subst (λ (l : List Channel). AllStop 1 l (map joined_of kept)) (sym (at.is ∙ append-nil at.front)) at.closed

  pub head_of : (left : List (Driven H)) (d : Driven H) (rest : List (Driven H)) → 0 < length left → d ≡ slice_index_or left 0 d → rest ≡ drop 1 left → left ≡ d ∷ rest
  head_of [] d rest some is more = absurd (omega (arith, some))
  head_of (o ∷ left) d rest some is more = ap (λ (p : Driven H). p ∷ left) (sym is) ∙ ap (λ (l : List (Driven H)). d ∷ l) (sym more)

-- ---- counts

pub taken_count : (link : Link) (log : DriverLog) → IsEnded link log → log.core.taken ≡ length (received log.inbox)
taken_count link log ended =
    sym (ap (λ (d : Driving). d.core.taken) ended.ends.run.gives)
    ∙ (counts ended.job.device ended.job.kind ended.ends.run.events ∙ ap (λ (d : Driving). length d.taken) ended.ends.run.gives)

pub counted_few : (n : ℕ) → n < 2 ^ 64 → n ≡ counted n
counted_few n few = let small : n ≤ most_counted = omega (arith, few) in grind (arith, nat_tests, small)

pub counted_sum : (a b n : ℕ) → a ≡ counted n → min (a + b) most_counted ≡ counted (n + b)
counted_sum a b n is = grind (arith, nat_tests, is)

pub counted_all : {A : Type 0} (a b r : ℕ) (xs ys zs : List A) → r ≡ min (a + b) most_counted → b ≡ length ys → a ≡ counted (length xs) → xs ++ ys ≡ zs → r ≡ counted (length zs)
counted_all {A} a b r xs ys zs sum many is all =
    sum ∙ (counted_sum a b (length xs) is
    ∙ ap (λ (n : ℕ). counted n) ((ap (λ (k : ℕ). length xs + k) many ∙ sym (length-append xs ys)) ∙ ap (λ (l : List A). length l) all))

pub linked_on : (job : DriverJob) (old link now : Link) (m : Message) → IsLinkOf job old → HandedTo old link m → Flushed link now → IsLinkOf job now
linked_on job old link now m linked one two =
    (search rules, search rules, linked.2 ∙ (sym one.same.device ∙ sym two.same.device), linked.3 ∙ (sym (ap (λ (c : Channel). c.kind) one.channel) ∙ sym (ap (λ (c : Channel). c.kind) two.channel)))
