use Rattle.context_laws.proofs.Refusals.{refused_time_call, refused_context_call, refused_hook_call}
use Rattle.context_laws.proofs.laws.a_call_that_is_refused_changes_nothing.Goals as goal

pub returns-clause-time : goal.returns-clause-time
returns-clause-time c = refused_time_call

pub returns-clause-contexts : goal.returns-clause-contexts
returns-clause-contexts c = refused_context_call

pub returns-clause-hooks : goal.returns-clause-hooks
returns-clause-hooks c = refused_hook_call
