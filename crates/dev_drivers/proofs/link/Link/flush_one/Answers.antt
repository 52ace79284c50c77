use Rattle.std.proofs.Common.{refl, map, arith, rules}
use Rattle.rtrb.specs.Ring.{received, sent}
use Rattle.dev_drivers.specs.Links.{of_device}
use Rattle.dev_drivers.proofs.Links.{went}
use Rattle.dev_drivers.proofs.link.Link.flush_one.Goals as goal

pub returns-clause-flushed : goal.returns-clause-flushed
returns-clause-flushed c = record {
  same = record { to = search rules; from = search rules; device = refl };
  count = 1;
  channel = went c.args.self.now.kind (map (of_device c.args.self.now.device) (received c.args.self.now.from)) c.args.self.now.dropped
      (sent c.args.self.now.to) (sent c.is_full.new.self) (sent c.push_reserved.new.self) c.args.self.now.waiting.items c.remove-m.new.self.items c.remove-m.result
      (omega arith) c.remove-m.ensures.value c.remove-m.ensures.items (search rules) (search rules);
}
