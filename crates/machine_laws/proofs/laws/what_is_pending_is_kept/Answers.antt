use Rattle.machine_lemmas.proofs.KeptOnce.{reached_once}
use Rattle.machine_lemmas.proofs.Pending.{ticks_after, ticks_made}
use Rattle.machine_laws.proofs.laws.what_is_pending_is_kept.Goals as goal

pub returns-clause-made : goal.returns-clause-made
returns-clause-made c = ticks_made

pub returns-clause-taken : goal.returns-clause-taken
returns-clause-taken c = ticks_after

pub returns-clause-once : goal.returns-clause-once
returns-clause-once c = reached_once
