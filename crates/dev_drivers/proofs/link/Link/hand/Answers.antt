use Rattle.std.proofs.Common.{ap, map, ◌∙◌, arith, rules}
use Rattle.rtrb.specs.Ring.{received, sent}
use Rattle.fleet_model.specs.Channels.{Channel, flushed}
use Rattle.dev_drivers.specs.Links.{of_device}
use Rattle.dev_drivers.proofs.Links.{put_behind, whole_snoc}
use Rattle.dev_drivers.proofs.link.Link.hand.Goals as goal

pub invariant_of-self : goal.invariant_of-self
invariant_of-self c = record {
  whole = rw c.push_reserved.ensures.items (whole_snoc c.args.self.now.waiting.items c.args.m c.args.self.now.whole c.requires.whole);
  room = omega arith;
  went = c.args.self.now.went;
  counted = c.args.self.now.counted;
}

pub returns-clause-handed : goal.returns-clause-handed
returns-clause-handed c = record {
  same = record { to = c.flush.ensures.flushed.same.to; from = c.flush.ensures.flushed.same.from; device = c.flush.ensures.flushed.same.device };
  count = c.flush.ensures.flushed.count;
  channel = c.flush.ensures.flushed.channel
      ∙ ap (λ (o : Channel). flushed c.flush.ensures.flushed.count o)
      (put_behind c.args.self.now.kind (map (of_device c.args.self.now.device) (received c.args.self.now.from)) c.args.self.now.dropped
      (sent c.args.self.now.to) c.args.self.now.waiting.items c.push_reserved.new.self.items c.args.m c.push_reserved.ensures.items);
}
