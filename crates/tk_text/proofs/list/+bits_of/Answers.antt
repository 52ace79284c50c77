-- A part that is left is no word of an empty table.
use Rattle.tk_text.proofs.Lists.{table_ended}
use Rattle.tk_text.proofs.list.+bits_of.Goals as goal

pub returns-in-Some-clause-value : goal.returns-in-Some-clause-value
returns-in-Some-clause-value t c = table_ended c.args.table.now c.args.left _ c.in-empty.len_below c.in-Some.is
