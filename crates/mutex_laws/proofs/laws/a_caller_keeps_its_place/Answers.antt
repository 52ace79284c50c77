use Rattle.tk_types.specs.declared.answer.Who.TheVariants as whos
use Rattle.object_model.specs.Mutexes.Calls.{mutex_call}
use Rattle.mutex_laws.proofs.Places.{mutex_call_keeps_place}
use Rattle.mutex_laws.proofs.Resettled.{resettled_place}
use Rattle.mutex_laws.proofs.laws.a_caller_keeps_its_place.Goals as goal

pub returns-clause-call : goal.returns-clause-call
returns-clause-call c = mutex_call_keeps_place

pub returns-clause-taken_over : goal.returns-clause-taken_over
returns-clause-taken_over c = λ b m t call is ready now fresh. resettled_place (mutex_call b m (whos.Task t) call).base (mutex_call b m (whos.Task t) call).table t (mutex_call_keeps_place b m t call is ready now) fresh
