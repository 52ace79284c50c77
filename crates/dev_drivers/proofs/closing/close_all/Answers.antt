use Rattle.std.proofs.Common.{◌∙◌, arith}
use Rattle.dev_drivers.specs.Lines.{channels_of}
use Rattle.dev_drivers.proofs.Closes.{closing_on, head_of}
use Rattle.dev_drivers.proofs.closing.close_all.Goals as goal

pub devices-preserved : goal.devices-preserved
devices-preserved g c = record {
  closing = closing_on g.P.Started.job_of (channels_of c.args.lines.items) c.devices.kept.items c.push_reserved.new.self.items c.devices.left.items c.remove-driven.new.self.items c.remove-driven.result c.close_one-closed.result
      c.devices.invariant.closing (head_of c.devices.left.items c.remove-driven.result c.remove-driven.new.self.items (omega arith) c.remove-driven.ensures.value c.remove-driven.ensures.items)
      c.push_reserved.ensures.items c.close_one-closed.ensures.stops;
  running = omega (arith, c.close_one-closed.ensures.running, c.devices.invariant.running, c.remove-driven.ensures.len);
  starts = omega (arith, c.close_one-closed.ensures.starts_stay, c.devices.invariant.starts);
  refusals = omega (arith, c.close_one-closed.ensures.refusals_stay, c.devices.invariant.refusals);
  room = omega (arith, c.push_reserved.ensures.len, c.push_reserved.ensures.capacity, c.remove-driven.ensures.len, c.devices.invariant.room);
}
