use Rattle.tk_gen.proofs.LineCounts.{arrived_few, start_none, worked_few}
use Rattle.tk_gen.proofs.laws.counted_lines_are_few.Goals as goal

pub returns-clause-worked : goal.returns-clause-worked
returns-clause-worked c = worked_few

pub returns-clause-arrived : goal.returns-clause-arrived
returns-clause-arrived c = arrived_few

pub returns-clause-start : goal.returns-clause-start
returns-clause-start c = start_none
