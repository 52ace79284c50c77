use Rattle.context_laws.proofs.Starts.{begins_anew, created, goes_on, set_again, starts_next}
use Rattle.context_laws.proofs.laws.a_cyclic_handler_falls_due_by_its_row.Goals as goal

pub returns-clause-created : goal.returns-clause-created
returns-clause-created c = λ b clocks a body period phase id some is.
    let made = created b clocks a body period phase id some is in
    (made.free, made.row, made.due)

pub returns-clause-starts_next : goal.returns-clause-starts_next
returns-clause-starts_next c = starts_next

pub returns-clause-goes_on : goal.returns-clause-goes_on
returns-clause-goes_on c = goes_on

pub returns-clause-begins_anew : goal.returns-clause-begins_anew
returns-clause-begins_anew c = begins_anew

pub returns-clause-set_again : goal.returns-clause-set_again
returns-clause-set_again c = set_again
