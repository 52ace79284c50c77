use Rattle.machine_lemmas.proofs.ReachedRest.{reached_rest}
use Rattle.machine_lemmas.proofs.Rest.{followed_none, followed_rest}
use Rattle.machine_laws.proofs.laws.nothing_follows_from_a_state_at_rest.Goals as goal

pub returns-clause-nothing : goal.returns-clause-nothing
returns-clause-nothing c = followed_none

pub returns-clause-comes : goal.returns-clause-comes
returns-clause-comes c = followed_rest

pub returns-clause-reached : goal.returns-clause-reached
returns-clause-reached c = reached_rest
