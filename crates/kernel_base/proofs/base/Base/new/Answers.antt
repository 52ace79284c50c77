use Rattle.std.proofs.Common.{Some, rules}
use Rattle.kernel_base.proofs.Queued.{queued_start}
use Rattle.kernel_base.proofs.Waited.{waits_start}
use Rattle.kernel_base.proofs.base.Base.new.Goals as goal

pub invariant_of-result-2 : goal.invariant_of-result-2
invariant_of-result-2 c = record {
  room = search rules;
  queue = queued_start (Some c.booted.result) c.in_ok-tasks.tasks.items c.in_ok-one.field-0 c.in_ok-ready.ready _ (search rules) (search rules) (search rules) (search rules) (search rules);
  waits = waits_start (Some c.booted.result) c.in_ok-tasks.tasks.items c.in_ok-one.field-0 c.in_ok-one-2.field-0 c.in_ok-new.field-0 (search rules) (search rules) (search rules) (search rules) (search rules);
}
