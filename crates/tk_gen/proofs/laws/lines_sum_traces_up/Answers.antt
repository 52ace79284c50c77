use Rattle.tk_gen.proofs.SumTexts.{text_sums}
use Rattle.tk_gen.proofs.laws.lines_sum_traces_up.Goals as goal

pub returns : goal.returns
returns c = text_sums
