use Rattle.kernel_laws.proofs.FamilyPlaces.{family_keeps_place}
use Rattle.kernel_laws.proofs.Preemption.{call_keeps_place}
use Rattle.kernel_lemmas.proofs.Releases.{release_keeps_place}
use Rattle.kernel_laws.proofs.laws.preempted_task_keeps_its_place.Goals as goal

pub returns-clause-call : goal.returns-clause-call
returns-clause-call c = call_keeps_place

pub returns-clause-family : goal.returns-clause-family
returns-clause-family c = family_keeps_place

pub returns-clause-dispatch : goal.returns-clause-dispatch
returns-clause-dispatch c = λ b t is. record { before = is.before; behind = is.behind; stands = is.stands; ahead = is.ahead }

pub returns-clause-wait_ends : goal.returns-clause-wait_ends
returns-clause-wait_ends c = release_keeps_place
