use Rattle.std.proofs.Common.{arith, refl, rules}
use Rattle.object_model.specs.Mutexes.Priority.{resettle}
use Rattle.mutex_prio.proofs.Alike.{fit_on, like_itself, like_on, takes}
use Rattle.mutex_prio.proofs.Folded.{refresh_further, refresh_long, refresh_over}
use Rattle.mutex_prio.proofs.priorities.set_each.Goals as goal

pub tasks-init : goal.tasks-init
unfolding resettle
tasks-init c = record { all = refl; long = omega arith; like = like_itself c.args.base.now }

pub settled-pri-requires : goal.settled-pri-requires
settled-pri-requires c = fit_on c.args.base.now c.tasks.base c.lent-least.result c.tasks.invariant.like c.lent-least.ensures.fit

pub tasks-preserved : goal.tasks-preserved
tasks-preserved c =
    let taken = takes c.args.base.now c.tasks.base c.set_to.new.base c.args.table.now c.lent-least.result c.tasks.task c.settled-pri.result c.tasks.invariant.like (c.lent-least.ensures.lent c.tasks.task (omega arith)) c.settled-pri.ensures.settled c.set_to.ensures in
    let long = refresh_long c.tasks.base c.set_to.new.base c.args.table.now c.tasks.task taken in
    let before = c.tasks.invariant.long in
    record {
      all = refresh_further c.tasks.base c.set_to.new.base c.args.table.now c.tasks.task _ taken c.tasks.invariant.all;
      long = omega (arith, long, before);
      like = like_on c.args.base.now c.tasks.base c.set_to.new.base c.tasks.task c.settled-pri.result c.tasks.invariant.like c.set_to.ensures;
    }

pub returns : goal.returns
returns c =
    let long = c.tasks.invariant.long in
    refresh_over c.tasks.base c.args.table.now c.tasks.task _ (omega (arith, long)) c.tasks.invariant.all
