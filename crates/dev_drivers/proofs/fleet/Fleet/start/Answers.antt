use Rattle.dev_drivers.proofs.Starts.{places_of}
use Rattle.dev_drivers.proofs.fleet.Fleet.start.Goals as goal

pub close_all-requires-clause-places : goal.close_all-requires-clause-places
close_all-requires-clause-places g c κs within = places_of g.P.Started.job_of c.as_slice.result.now c.start_all.new.lines.items c.in-Err.ensures.started
