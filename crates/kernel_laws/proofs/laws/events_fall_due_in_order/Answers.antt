use Rattle.call_lemmas.proofs.TimeOuts.{none_is_due, first_is_due, set_behind}
use Rattle.kernel_laws.proofs.laws.events_fall_due_in_order.Goals as goal

pub returns-clause-none : goal.returns-clause-none
returns-clause-none c = none_is_due

pub returns-clause-first : goal.returns-clause-first
returns-clause-first c = first_is_due

pub returns-clause-set_behind : goal.returns-clause-set_behind
returns-clause-set_behind c = set_behind
