-- The devices of a fleet in a row, and what is done with all of them.
use Rattle.std.specs.Prelude.{ℕ, zero, suc, ◌≡◌, List, [], ◌∷◌, length, map}
use Rattle.std.specs.List.{All}
use Rattle.fleet_model.specs.Channels.{Channel}
use Rattle.fleet_model.specs.Fleets.{all_flushed}
use Rattle.dev_drivers.specs.declared.job.DriverJob.{DriverJob}
use Rattle.dev_drivers.specs.declared.driven.Driven.{Driven}
use Rattle.dev_drivers.specs.Links.{IsFlushed, IsLinkOf, channel_of}

-- so many numbers, from this one on
abbrev pub numbers : ℕ → ℕ → List ℕ
numbers first zero = []
numbers first (suc n) = first ∷ numbers (suc first) n

module _ {H : Type 0} where
  abbrev pub channels_of : List (Driven H) → List Channel
  channels_of lines = map (λ (d : Driven H). channel_of d.link) lines

  abbrev pub devices_of : List (Driven H) → List ℕ
  devices_of lines = map (λ (d : Driven H). d.link.device) lines

  -- each link is the other side of the job that its driver was started with
  abbrev pub EachLinked : (H → DriverJob) → List (Driven H) → Type 0
  EachLinked job_of lines = All (λ (d : Driven H). IsLinkOf (job_of d.driver) d.link) lines

  abbrev pub EachFlushed : List (Driven H) → Type 0
  EachFlushed lines = All (λ (d : Driven H). IsFlushed d.link) lines

  -- the same devices, with their drivers
  pub record Kept (before after : List (Driven H)) : Type 0 where
    pub links : (job_of : H → DriverJob) → EachLinked job_of before → EachLinked job_of after
    pub devices : devices_of after ≡ devices_of before

  -- of the messages that wait for each device, so many have gone into its inbox
  pub record AllFlushed (before after : List (Driven H)) : Type 0 where
    pub kept : Kept before after
    pub counts : List ℕ
    pub channels : channels_of after ≡ all_flushed counts (channels_of before)
