use Rattle.std.proofs.Common.{◌∙◌, ap, sym, arith, ◌-◌}
use Rattle.kernel_model.specs.Tasks.Base.{take_due}
use Rattle.tk_kernel.specs.contracts.kernel.Kernel.{the_view}
use Rattle.time_events.specs.Ticks.{again_if}
use Rattle.step_lemmas.proofs.Falling.{due_more, due_over, due_spent, taken_sound}
use Rattle.tk_kernel.proofs.kernel.Kernel.end_due.Goals as goal

pub returns-in_default : goal.returns-in_default
returns-in_default c =
    due_over (c.args.most - c.due._done) c.args.mode (the_view c.self.inside) c.due.self c.tick.new.base _ c.self.view_is (sym c.in_default.is ∙ c.tick.ensures.event)
    (c.tick.ensures.left ∙ ap (again_if (take_due (the_view c.self.inside).base) (the_view c.self.inside).objects.clocks) c.in_default.is) c.due.invariant.all

pub fall-requires : goal.fall-requires
fall-requires c = record {
  sound = taken_sound (the_view c.self.inside) c.due.self c.tick.new.base c.in-Some.what c.self.view_is c.known_of_tasks.ensures.places c.known_of_tasks.ensures.whole c.known_of_tasks.ensures.devices c.due.invariant.sound
      (c.tick.ensures.left ∙ ap (again_if (take_due (the_view c.self.inside).base) (the_view c.self.inside).objects.clocks) c.in-Some.is);
}

pub due-preserved : goal.due-preserved
due-preserved c =
    due_more c.args.most c.due._done c.args.mode c.args.self.now (the_view c.self.inside) c.due.self c.fall.new.self c.tick.new.base c.in-Some.what _ c.self.view_is c.due-test.true c.known_of_tasks.ensures.places c.known_of_tasks.ensures.whole c.known_of_tasks.ensures.devices
    (sym c.in-Some.is ∙ c.tick.ensures.event)
    (c.tick.ensures.left ∙ ap (again_if (take_due (the_view c.self.inside).base) (the_view c.self.inside).objects.clocks) c.in-Some.is)
    c.in_ok-fall.ensures c.due.invariant.all c.due.invariant.sound c.due.invariant.makes

pub returns : goal.returns
returns c = due_spent c.args.most c.due._done c.args.mode c.due.self _ (omega arith) c.due.invariant.all
