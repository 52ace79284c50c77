-- What the starts of drivers come to, one after another.
use Rattle.std.proofs.Common.{◌≡◌, ℕ, ◌+◌, ◌<◌, inl, inr, zero, suc, List, [], ◌∷◌, ◌++◌, length, map, take, get_or, ap, subst, sym, ◌∙◌, arith}
use Rattle.std.proofs.lemmas.List.Elements.{All-push}
use Rattle.std.proofs.lemmas.List.{length-append, map-append}
use Rattle.std.proofs.Math.Seq.{take-suc}
use Rattle.tk_types.specs.declared.script.Device.{Device}
use Rattle.tk_ports.specs.Streams.{Rose}
use Rattle.fleet_model.specs.Channels.{Channel, channel_start}
use Rattle.fleet_model.specs.Fleets.{EachHasPlace}
use Rattle.dev_drivers.specs.declared.driven.Driven.{Driven}
use Rattle.dev_drivers.specs.declared.job.DriverJob.{DriverJob}
use Rattle.dev_drivers.specs.Lines.{EachLinked, channels_of, devices_of, numbers}
use Rattle.dev_drivers.specs.Links.{IsLinkOf, channel_of}
use Rattle.dev_drivers.specs.Starts.{AreStarted, HasGrown, OneMore}

-- ---- counts

pub grown_on : (a b c n k : ℕ) → HasGrown a b n → Rose b c → k ≡ n + 1 → HasGrown a c k
grown_on a b c n k (inl few) (inl more) is = inl (omega (arith, few, more, is))
grown_on a b c n k (inr most) (inl more) is = inr (omega (arith, most, more))
grown_on a b c n k grown (inr most) is = inr (omega (arith, most))

-- ---- lines

numbers_on : (first n : ℕ) → numbers first (suc n) ≡ numbers first n ++ (first + n) ∷ []
numbers_on first zero = ap (λ (k : ℕ). k ∷ []) (let e : first ≡ first + 0 = omega arith in e)
numbers_on first (suc n) =
    ap (λ (l : List ℕ). first ∷ l) (numbers_on (suc first) n ∙ ap (λ (k : ℕ). numbers (suc first) n ++ k ∷ []) (let e : suc first + n ≡ first + suc n = omega arith in e))

-- no message waits for a device at the start
places_at_start : (devices : List Device) → EachHasPlace (map channel_start devices)
places_at_start [] = tt
places_at_start (d ∷ devices) = (omega arith, places_at_start devices)

module _ {H : Type 0} where
  pub one_longer : (job_of : H → DriverJob) (device : Device) (before after : List (Driven H)) → OneMore job_of device before after → length after ≡ length before + 1
  one_longer job_of device before after one = ap (λ (l : List (Driven H)). length l) one.is ∙ length-append before (one.next ∷ [])

  pub started_on : (job_of : H → DriverJob) (devices : List Device) (before after : List (Driven H)) (device : Device) (i : ℕ) → AreStarted job_of devices before → length before ≡ i → i < length devices →
      device ≡ get_or devices i device → OneMore job_of device before after → AreStarted job_of devices after
  started_on job_of devices before after device i is many few at one =
      let more : length after ≡ length before + 1 = one_longer job_of device before after one in
      let next : take (length before + 1) devices ≡ take (length before) devices ++ device ∷ [] =
      ap (λ (n : ℕ). take n devices) (let e : length before + 1 ≡ suc (length before) = omega arith in e)
      ∙ (take-suc devices (length before) device (omega (arith, many, few))
      ∙ ap (λ (d : Device). take (length before) devices ++ d ∷ []) (ap (λ (n : ℕ). get_or devices n device) many ∙ sym at)) in
      record {
        few = omega (arith, more, many, few);
        channels = ap (λ (l : List (Driven H)). channels_of l) one.is
            ∙ (map-append (λ (d : Driven H). channel_of d.link) before (one.next ∷ [])
            ∙ (ap (λ (l : List Channel). l ++ channel_of one.next.link ∷ []) is.channels
            ∙ (ap (λ (c : Channel). map channel_start (take (length before) devices) ++ c ∷ []) one.channel
            ∙ (sym (map-append channel_start (take (length before) devices) (device ∷ []))
            ∙ ap (λ (l : List Device). map channel_start l) (sym next ∙ ap (λ (n : ℕ). take n devices) (sym more))))));
        linked = subst (λ (l : List (Driven H)). EachLinked job_of l) (sym one.is) (All-push (λ (d : Driven H). IsLinkOf (job_of d.driver) d.link) before one.next is.linked one.linked);
        numbered = ap (λ (l : List (Driven H)). devices_of l) one.is
            ∙ (map-append (λ (d : Driven H). d.link.device) before (one.next ∷ [])
            ∙ (ap (λ (l : List ℕ). l ++ one.next.link.device ∷ []) is.numbered
            ∙ (ap (λ (n : ℕ). numbers 1 (length before) ++ n ∷ []) (one.number ∙ (let e : length before + 1 ≡ 1 + length before = omega arith in e))
            ∙ (sym (numbers_on 1 (length before)) ∙ ap (λ (n : ℕ). numbers 1 n) (let e : suc (length before) ≡ length after = omega (arith, more) in e)))));
      }

  -- so each of those that were started has a place
  pub places_of : (job_of : H → DriverJob) (devices : List Device) (lines : List (Driven H)) → AreStarted job_of devices lines → EachHasPlace (channels_of lines)
  places_of job_of devices lines is = subst (λ (l : List Channel). EachHasPlace l) (sym is.channels) (places_at_start (take (length lines) devices))
