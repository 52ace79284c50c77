use Rattle.std.proofs.Common.{◌∙◌, arith}
use Rattle.dev_drivers.proofs.Starts.{grown_on, one_longer, started_on}
use Rattle.dev_drivers.proofs.starting.start_all.Goals as goal

pub devices-preserved : goal.devices-preserved
devices-preserved g c = record {
  started = started_on g.P.Started.job_of c.args.devices.now c.devices.lines.items c.start_next.new.lines.items c.index-devices-i.result c.devices.i
      c.devices.invariant.started (omega (arith, c.devices.invariant.many)) (omega arith) c.index-devices-i.is c.in_ok-start_next.ensures.one;
  many = omega (arith, c.devices.invariant.many, one_longer g.P.Started.job_of c.index-devices-i.result c.devices.lines.items c.start_next.new.lines.items c.in_ok-start_next.ensures.one);
  capacity = c.start_next.ensures.capacity ∙ c.devices.invariant.capacity;
  running = omega (arith, c.in_ok-start_next.ensures.running, c.devices.invariant.running);
  grown = grown_on _ _ _ c.devices.i _ c.devices.invariant.grown c.in_ok-start_next.ensures.starts (omega arith);
  starts = omega (arith, c.start_next.ensures.starts_stay, c.devices.invariant.starts);
  refusals = omega (arith, c.start_next.ensures.refusals_stay, c.devices.invariant.refusals);
}
