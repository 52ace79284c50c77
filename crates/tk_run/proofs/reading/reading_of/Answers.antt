use Rattle.tk_run.proofs.Readings.{found_runs}
use Rattle.tk_run.proofs.reading.reading_of.Goals as goal

pub returns-clause-runs : goal.returns-clause-runs
returns-clause-runs c = found_runs _ _ c.read_script.ensures.found
