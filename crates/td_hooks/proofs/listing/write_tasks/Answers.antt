use Rattle.std.proofs.Common.{◌≡◌, ◌≤◌, ℕ, List, None, arith, ap, sym, ◌∙◌, length, drop}
use Rattle.kernel_model.specs.LawWords.Once.{IsOnce}
use Rattle.kernel_model.specs.Tasks.Base.{Base}
use Rattle.context_model.specs.Hooks.Lists.{with_ids}
use Rattle.td_hooks.specs.Tasks.{in_list, left_from}
use Rattle.td_hooks.proofs.Members.{StandOnce, few_in, once_in}
use Rattle.td_hooks.proofs.Walks.{IsPassed, passed, spent, walk_begins, walk_ends}
use Rattle.td_hooks.proofs.Written.{none_written, task_written}
use Rattle.td_hooks.proofs.listing.write_tasks.Goals as goal
use Rattle.td_hooks.proofs.listing.write_tasks.Goals.{After-write_id}

once : (b : Base) → IsOnce b.order → IsOnce b.since → StandOnce b
once b ranks begins = record { ranks = ranks; begins = begins }

-- the task is the next of the list
passes : (c : goal.After-write_id) → IsPassed (in_list c.args.base.now c.args.list) c.tasks.count c.in-Some.task
passes c =
    let tasks : List ℕ = in_list c.args.base.now c.args.list in
    passed tasks c.tasks.count c.in-Some.task (once_in c.args.base.now c.args.list (once c.args.base.now c.known_of_orders.ensures.ranks c.known_of_orders.ensures.begins)) (c.tasks.invariant.left ∙ ap (λ next. left_from next tasks) c.in-Some.is)

pub tasks-init : goal.tasks-init
tasks-init c = record {
  left = walk_begins (in_list c.args.base.now c.args.list) ∙ ap (λ next. left_from next (in_list c.args.base.now c.args.list)) (sym c.first-next.ensures);
  count = omega arith;
  written = sym (none_written c.args.memory.now c.args.place.address c.args.place.most);
}

pub overflow_add-count : goal.overflow_add-count
overflow_add-count c = let short = (passes c).short in let few = few_in c.args.base.now c.args.list (once c.args.base.now c.known_of_orders.ensures.ranks c.known_of_orders.ensures.begins) in let slots = c.known_of_tasks.ensures.slots in omega (arith, short, few, slots)

pub next-next-requires : goal.next-next-requires
next-next-requires c = (passes c).stands

pub tasks-smaller : goal.tasks-smaller
tasks-smaller c = let short = (passes (goal.at.tasks-smaller c).After-write_id).short in omega (arith, short)

pub tasks-preserved : goal.tasks-preserved
tasks-preserved c =
    let tasks : List ℕ = in_list c.args.base.now c.args.list in
    let pass = passes (goal.at.tasks-preserved c).After-write_id in
    let short = pass.short in
    let inside : c.args.place.address ≤ length c.args.memory.now = let ends = c.requires.inside.ends in let whole = c.requires.inside.whole in omega (arith, ends, whole) in
    record {
      left = pass.further ∙ ap (λ next. left_from next tasks) (sym c.next-next.ensures);
      count = omega (arith, short);
      written = task_written c.args.memory.now c.tasks.memory c.write_id.new.memory tasks c.args.place.address c.args.place.most c.tasks.count c.in-Some.task inside short pass.taken c.write_id.ensures c.tasks.invariant.written;
    }

none_left : (c : goal.In_default) → drop c.tasks.count (in_list c.args.base.now c.args.list) ≡ left_from None (in_list c.args.base.now c.args.list)
none_left c = c.tasks.invariant.left ∙ ap (λ next. left_from next (in_list c.args.base.now c.args.list)) c.in_default.is

pub returns-clause-count : goal.returns-clause-count
returns-clause-count c = let most = c.tasks.invariant.count in let least = spent (in_list c.args.base.now c.args.list) c.tasks.count (none_left c) in omega (arith, most, least)

pub returns-clause-few : goal.returns-clause-few
returns-clause-few c = let most = c.tasks.invariant.count in let few = few_in c.args.base.now c.args.list (once c.args.base.now c.known_of_orders.ensures.ranks c.known_of_orders.ensures.begins) in let slots = c.known_of_tasks.ensures.slots in omega (arith, most, few, slots)

pub returns-clause-written : goal.returns-clause-written
returns-clause-written c = c.tasks.invariant.written ∙ ap (with_ids c.args.memory.now c.args.place.address c.args.place.most) (walk_ends (in_list c.args.base.now c.args.list) c.tasks.count (none_left c))
