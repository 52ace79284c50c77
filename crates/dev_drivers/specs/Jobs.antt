-- What a driver does with its job.
use Rattle.std.specs.Prelude.{ℕ, ◌≡◌, ◌⊎◌, List, [], length}
use Rattle.rtrb.specs.Ring.{SameConsumer, SameProducer}
use Rattle.driver_model.specs.Drives.{Reaches, driving_start}
use Rattle.dev_drivers.specs.declared.job.DriverJob.{DriverJob}
use Rattle.dev_drivers.specs.declared.log.DriverLog.{DriverLog}
use Rattle.dev_drivers.specs.Logs.{ShowsOver, driving}

-- what a driver has done once its job is over: it has the rings of its job, what it took and sent is what a driver of its unit does
-- from its start on, and the last message was a Stop, or it took as many messages as can be counted
pub record IsLogOf (job : DriverJob) (log : DriverLog) : Type 0 where
  pub inbox : SameConsumer job.start.inbox log.inbox
  pub outbox : SameProducer job.start.outbox log.outbox
  pub run : Reaches (driving_start job.device job.kind) (driving log)
  pub over : ShowsOver log
