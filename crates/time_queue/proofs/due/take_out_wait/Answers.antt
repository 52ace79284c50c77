use Rattle.std.proofs.Common.{rules, not}
use Rattle.std.proofs.lemmas.Fn.{filter_same}
use Rattle.tk_types.specs.declared.task.DueEvent.{DueEvent}
use Rattle.kernel_model.specs.Words.Events.{ends_wait_of}
use Rattle.time_queue.proofs.due.take_out_wait.Goals as goal

pub returns-clause-left : goal.returns-clause-left
returns-clause-left c =
    filter_same _ (λ (event : DueEvent). not (ends_wait_of c.args.task event)) _ (λ event b after call. search rules) _ _ c.retain.ensures.filtered
