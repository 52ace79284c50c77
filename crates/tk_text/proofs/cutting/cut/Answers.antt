-- The parts, by the place of the first mark.
use Rattle.std.proofs.Common.{sym}
use Rattle.tk_text.proofs.Cuts.{parts_at, parts_alone}
use Rattle.tk_text.proofs.cutting.cut.Goals as goal

pub returns-in-Some-clause-parts : goal.returns-in-Some-clause-parts
returns-in-Some-clause-parts c = parts_at c.args.mark c.args.bytes.now c.in-Some.at (sym c.in-Some.ensures.place)

pub returns-in-None-clause-parts : goal.returns-in-None-clause-parts
returns-in-None-clause-parts c = parts_alone c.args.mark c.args.bytes.now (sym c.in-None.ensures.place)
