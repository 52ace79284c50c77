use Rattle.kernel_lemmas.proofs.Releases.{release_others, release_over, release_ends_one}
use Rattle.kernel_lemmas.proofs.Queues.{queue_release}
use Rattle.kernel_laws.proofs.laws.a_release_ends_one_wait.Goals as goal

pub returns-clause-others : goal.returns-clause-others
returns-clause-others c = release_others

pub returns-clause-over : goal.returns-clause-over
returns-clause-over c = release_over

pub returns-clause-one : goal.returns-clause-one
returns-clause-one c = release_ends_one

pub returns-clause-queues : goal.returns-clause-queues
returns-clause-queues c = queue_release
