use Rattle.unit_laws.proofs.Cuts.{written_is_read}
use Rattle.unit_laws.proofs.laws.what_was_written_is_read.Goals as goal

pub returns : goal.returns
returns c = written_is_read
