use Rattle.std.proofs.Common.{◌≡◌, ◌-◌, ◌≤◌, length, take, drop}
use Rattle.context_model.specs.Hooks.Lists.{with_ids}
use Rattle.td_hooks.specs.Tasks.{in_list, left_from}
use Rattle.td_hooks.proofs.listing.write_tasks.Given as goal

-- those that were passed are counted and written, and the others stand from the next one on
abbrev pub invariant-tasks : goal.invariant-tasks
invariant-tasks l = record {
  left : drop l.count (in_list l.base l.list) ≡ left_from l.next (in_list l.base l.list);
  count : l.count ≤ length (in_list l.base l.list);
  written : l.memory ≡ with_ids l.fn.memory l.place.address l.place.most (take l.count (in_list l.base l.list));
}

abbrev pub decreases-tasks : goal.decreases-tasks
decreases-tasks l = length (in_list l.base l.list) - l.count
