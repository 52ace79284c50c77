-- How the drivers of a fleet are started.
use Rattle.std.specs.Prelude.{ℕ, ◌≡◌, ◌+◌, ◌≤◌, ◌⊎◌, List, [], ◌∷◌, ◌++◌, length, map, take}
use Rattle.tk_types.specs.declared.script.Device.{Device}
use Rattle.fleet_model.specs.Channels.{channel_start}
use Rattle.fleet_model.specs.Fleets.{most_counted}
use Rattle.dev_drivers.specs.declared.driven.Driven.{Driven}
use Rattle.dev_drivers.specs.declared.job.DriverJob.{DriverJob}
use Rattle.dev_drivers.specs.Lines.{EachLinked, channels_of, devices_of, numbers}
use Rattle.dev_drivers.specs.Links.{IsLinkOf, channel_of}

-- a count has risen by as many at least, or stands at the greatest number of 64 bits
abbrev pub HasGrown : ℕ → ℕ → ℕ → Type 0
HasGrown before now n = (before + n ≤ now) ⊎ (most_counted ≤ now)

module _ {H : Type 0} where
  -- the driver of one more device was started, and nothing has passed between it and the kernel
  pub record OneMore (job_of : H → DriverJob) (device : Device) (before after : List (Driven H)) : Type 0 where
    pub next : Driven H
    pub is : after ≡ before ++ next ∷ []
    pub linked : IsLinkOf (job_of next.driver) next.link
    pub number : next.link.device ≡ length before + 1
    pub channel : channel_of next.link ≡ channel_start device

  -- the drivers of the first of these devices, so many as there are lines, were started, and nothing has passed yet
  pub record AreStarted (job_of : H → DriverJob) (devices : List Device) (lines : List (Driven H)) : Type 0 where
    pub few : length lines ≤ length devices
    pub channels : channels_of lines ≡ map channel_start (take (length lines) devices)
    pub linked : EachLinked job_of lines
    pub numbered : devices_of lines ≡ numbers 1 (length lines)
