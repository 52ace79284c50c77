use Rattle.std.proofs.Common.{arith}
use Rattle.rtrb.specs.Ring.{sent}
use Rattle.dev_drivers.proofs.Accepts.{within_gone}
use Rattle.dev_drivers.proofs.link.Link.has_received.Goals as goal

pub returns : goal.returns
returns c = within_gone c.args.taken c.args.self.now.gone (sent c.args.self.now.to) c.args.self.now.waiting.items (omega (arith, c.ranges.taken)) c.args.self.now.went
