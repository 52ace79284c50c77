-- The text and the bytes are told.
use Rattle.trace_compare.proofs.ToldLaws.{told_took}
use Rattle.trace_compare.proofs.laws.telling.Goals as goal

pub returns : goal.returns
returns c = told_took
