-- What the first fault says of the lines.
use Rattle.tk_text.proofs.Faults.{is_first_fault}
use Rattle.tk_text.proofs.fault.fault_of.Goals as goal

pub returns-clause-first : goal.returns-clause-first
returns-clause-first c = is_first_fault c.args.text.now c.first_fault.result c.first_fault.ensures
