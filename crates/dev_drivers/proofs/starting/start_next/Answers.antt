use Rattle.std.proofs.Common.{arith, subst, sym}
use Rattle.dev_drivers.specs.declared.job.DriverJob.{DriverJob}
use Rattle.dev_drivers.specs.Links.{IsLinkOf}
use Rattle.dev_drivers.proofs.starting.start_next.Goals as goal

pub returns-clause-one : goal.returns-clause-one
returns-clause-one g c = record {
  next = record { link = c.in-Ok-prepare.link; driver = c.in-Ok-start.driver };
  is = c.push_reserved.ensures.items;
  linked = subst (λ (job : DriverJob). IsLinkOf job c.in-Ok-prepare.link) (sym c.in-Ok-start.ensures.job) c.in-Ok-prepare.ensures.linked;
  number = omega (arith, c.in-Ok-prepare.ensures.number, c.len.ensures);
  channel = c.in-Ok-prepare.ensures.channel;
}
