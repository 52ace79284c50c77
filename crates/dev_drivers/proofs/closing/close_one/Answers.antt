use Rattle.std.proofs.Common.{refl, rules}
use Rattle.dev_drivers.proofs.Closes.{linked_on, stops_by}
use Rattle.dev_drivers.proofs.closing.close_one.Goals as goal

pub close_link-requires-clause-ended : goal.close_link-requires-clause-ended
close_link-requires-clause-ended g c = record {
  job = g.P.Started.job_of c.args.driven.driver;
  linked = linked_on (g.P.Started.job_of c.args.driven.driver) c.args.driven.link c.hand.new.self c.drain.new.link _ c.requires.linked c.hand.ensures.handed c.drain.ensures.flushed;
  ends = c.join-log.ensures.log;
}
