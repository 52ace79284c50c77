use Rattle.machine_lemmas.proofs.ReachedRest.{reached_rest, reached_slots}
use Rattle.machine_lemmas.proofs.Servings.{serving}
use Rattle.machine_lemmas.proofs.Settling.{settle_current}
use Rattle.machine_lemmas.proofs.Rest.{settle_given, settle_settles}
use Rattle.machine_laws.proofs.laws.settling_serves_until_none_can_be.Goals as goal

pub returns-clause-lighter : goal.returns-clause-lighter
returns-clause-lighter c = λ p q few is. (serving p q few is).ends.lighter

pub returns-clause-none_left : goal.returns-clause-none_left
returns-clause-none_left c = λ mode p few slots. (settle_settles mode p few slots).unserved

pub returns-clause-priorities : goal.returns-clause-priorities
returns-clause-priorities c = settle_current

pub returns-clause-given : goal.returns-clause-given
returns-clause-given c = settle_given

pub returns-clause-slots : goal.returns-clause-slots
returns-clause-slots c = λ script mode budget moves runnable. (reached_slots script mode budget moves runnable).base

pub returns-clause-devices : goal.returns-clause-devices
returns-clause-devices c = λ script mode budget moves runnable. (reached_slots script mode budget moves runnable).few

pub returns-clause-reached : goal.returns-clause-reached
returns-clause-reached c = λ script mode budget moves runnable. (reached_rest script mode budget moves runnable).unserved

pub returns-clause-reached_priorities : goal.returns-clause-reached_priorities
returns-clause-reached_priorities c = λ script mode budget moves runnable. (reached_rest script mode budget moves runnable).up_to_date
