-- What a driver does on its thread.
use Rattle.std.specs.Prelude.{ℕ, ◌≡◌, ◌⊎◌, Bool, true, List, [], length}
use Rattle.rtrb.specs.Ring.{SameConsumer, SameProducer, received, sent}
use Rattle.tk_types.specs.declared.script.Kind.{Kind}
use Rattle.driver_model.specs.Cores.{Core, core_start}
use Rattle.driver_model.specs.Drives.{Driving, Reaches, driving_start}
use Rattle.fleet_model.specs.Fleets.{most_counted}
use Rattle.fleet_model.specs.Records.{EndsWithStop}
use Rattle.dev_drivers.specs.declared.log.DriverLog.{DriverLog}

-- a driver with the messages that it has taken, and the endings that it has given out
abbrev pub driving : DriverLog → Driving
driving log = record { core = log.core; taken = received log.inbox; sent = sent log.outbox }

-- what a driver comes to from another state of it, with the same rings
pub record Drove (before after : DriverLog) : Type 0 where
  pub inbox : SameConsumer before.inbox after.inbox
  pub outbox : SameProducer before.outbox after.outbox
  pub run : Reaches (driving before) (driving after)

-- a driver takes no more messages: it was stopped, or can't count another one
abbrev pub IsOver : DriverLog → Type 0
IsOver log = (log.core.stopped ≡ true) ⊎ (log.core.taken ≡ most_counted)

-- what it has taken shows that
abbrev pub ShowsOver : DriverLog → Type 0
ShowsOver log = EndsWithStop (received log.inbox) ⊎ (length (received log.inbox) ≡ most_counted)

-- a driver that has done nothing yet
abbrev pub IsFresh : ℕ → Kind → DriverLog → Type 0
IsFresh device kind log = (log.core ≡ core_start device kind) × (received log.inbox ≡ []) × (sent log.outbox ≡ [])
