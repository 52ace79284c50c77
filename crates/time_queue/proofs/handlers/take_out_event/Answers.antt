use Rattle.std.proofs.Common.{rules, not, ◌<◌}
use Rattle.std.proofs.lemmas.Fn.{filter_same, All-from_retain}
use Rattle.tk_types.specs.declared.task.DueEvent.{DueEvent}
use Rattle.context_model.specs.Clocks.Tables.{starts}
use Rattle.time_queue.specs.Handlers.{id_of}
use Rattle.time_queue.proofs.handlers.take_out_event.Goals as goal

pub returns-clause-left : goal.returns-clause-left
returns-clause-left c =
    filter_same _ (λ (event : DueEvent). not (starts c.args.what event)) _ (λ event b after call. search rules) _ _ c.retain.ensures.filtered

-- each event was looked at
pub returns-clause-bytes : goal.returns-clause-bytes
returns-clause-bytes c =
    All-from_retain _ (λ (event : DueEvent). id_of event.what < 256) _ (λ event b after call. ((λ kept. search rules), search rules)) _ _ c.retain.ensures.filtered
