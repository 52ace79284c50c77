use Rattle.mutex_laws.proofs.Serving.{first_mutex, free_serves, no_mutex, owned_none, serving_is}
use Rattle.mutex_laws.proofs.laws.a_free_mutex_goes_to_the_first_of_its_queue.Goals as goal

pub returns-clause-served : goal.returns-clause-served
returns-clause-served c = serving_is

pub returns-clause-owned : goal.returns-clause-owned
returns-clause-owned c = owned_none

pub returns-clause-free : goal.returns-clause-free
returns-clause-free c = free_serves

pub returns-clause-first : goal.returns-clause-first
returns-clause-first c = first_mutex

pub returns-clause-none : goal.returns-clause-none
returns-clause-none c = no_mutex
