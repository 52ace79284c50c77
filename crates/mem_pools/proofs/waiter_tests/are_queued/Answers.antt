use Rattle.std.proofs.Common.{rules, ◌≡◌, ◌<◌, ℕ, Some, true, arith}
use Rattle.kernel_model.specs.Tasks.Base.{waits_for}
use Rattle.kernel_model.specs.Tasks.Queues.{AreOfOrder}
use Rattle.object_model.specs.Pools.Tables.{FixedPool, VariablePool, fixed_at, fixed_object, size_of, variable_at, variable_object}
use Rattle.mem_pools.proofs.Looking.{next_each}
use Rattle.mem_pools.proofs.waiter_tests.are_queued.Goals as goal

pub ids-preserved : goal.ids-preserved
ids-preserved c =
    let fixed_yes : c.is_fixed_queued.result ≡ true = search rules in
    let variable_yes : c.is_variable_queued.result ≡ true = search rules in
    let asked_yes : c.have_asked.result ≡ true = search rules in
    record {
      fixed = next_each (λ (id : ℕ). (k : FixedPool) → fixed_at c.args.table.now id ≡ Some k → AreOfOrder k.order c.args.base.now (fixed_object id)) c.ids.id c.ids.invariant.fixed (c.is_fixed_queued.ensures fixed_yes);
      variable = next_each (λ (id : ℕ). (k : VariablePool) → variable_at c.args.table.now id ≡ Some k → AreOfOrder k.order c.args.base.now (variable_object id)) c.ids.id c.ids.invariant.variable (c.is_variable_queued.ensures variable_yes);
      asked = next_each (λ (id : ℕ). (t : ℕ) → waits_for c.args.base.now (variable_object id) t ≡ true → 0 < size_of c.args.table.now t) c.ids.id c.ids.invariant.asked (c.have_asked.ensures asked_yes);
    }

pub returns : goal.returns
returns c = λ yes.
    let all = c.slots-slots.ensures.all in
    let over = c.ids-test.false in
    record {
      fixed = λ id k low high there. c.ids.invariant.fixed id (omega (arith, all, over, high)) k there;
      variable = λ id k low high there. c.ids.invariant.variable id (omega (arith, all, over, high)) k there;
      asked = λ id t low high there. c.ids.invariant.asked id (omega (arith, all, over, high)) t there;
    }
