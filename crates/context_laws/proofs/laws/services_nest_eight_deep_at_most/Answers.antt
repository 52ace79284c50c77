use Rattle.context_laws.proofs.Nesting.{call_keeps_shallow, enters, leaves_all, leaves_one, leaves_others, left_keeps_shallow, ninth}
use Rattle.context_laws.proofs.laws.services_nest_eight_deep_at_most.Goals as goal

pub returns-clause-enters : goal.returns-clause-enters
returns-clause-enters c = λ b contexts t number value body is.
    let has = enters b contexts t number value body is in
    (has.room, has.entered, has.same_base, has.deeper_by_one, has.others, has.undone)

pub returns-clause-ninth : goal.returns-clause-ninth
returns-clause-ninth c = ninth

pub returns-clause-leaves_one : goal.returns-clause-leaves_one
returns-clause-leaves_one c = leaves_one

pub returns-clause-leaves_all : goal.returns-clause-leaves_all
returns-clause-leaves_all c = leaves_all

pub returns-clause-others : goal.returns-clause-others
returns-clause-others c = leaves_others

pub returns-clause-calls : goal.returns-clause-calls
returns-clause-calls c = call_keeps_shallow

pub returns-clause-leaving : goal.returns-clause-leaving
returns-clause-leaving c = left_keeps_shallow
