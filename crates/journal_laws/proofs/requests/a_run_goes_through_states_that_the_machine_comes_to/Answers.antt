use Rattle.journal_laws.proofs.FedTurns.{trace_goes_through}
use Rattle.journal_laws.proofs.requests.a_run_goes_through_states_that_the_machine_comes_to.Goals as goal

pub returns : goal.returns
returns c = trace_goes_through
