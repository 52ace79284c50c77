use Rattle.std.proofs.Common.{◌∙◌, ap, sym, arith}
use Rattle.machine_model.specs.Events.Settle.{settle}
use Rattle.machine_model.specs.States.State.{parts_of, with_parts}
use Rattle.step_lemmas.specs.Freeing.{freed_by}
use Rattle.step_lemmas.proofs.Endings.{freed_more, freed_over, freed_spent}
use Rattle.step_lemmas.proofs.Servings.{same_parts, with_same}
use Rattle.tk_kernel.proofs.kernel.Kernel.free_all.Goals as goal

pub returns-then-not-free_one : goal.returns-then-not-free_one
returns-then-not-free_one c =
    with_same c.args.self.now c.mutexes.self c.free_one.new.self _ c.mutexes.invariant.same
    (freed_over _ c.args.mode c.args.task c.mutexes.self c.free_one.new.self _ (sym c.free_one.ensures.freed ∙ c.if-not-free_one.true) c.free_one.ensures.left c.mutexes.invariant.all)

pub mutexes-preserved : goal.mutexes-preserved
mutexes-preserved c = record {
  all =
      freed_more c.mutexes._freed c.args.mode c.args.task c.mutexes.self c.free_one.new.self c.settle.new.self _ (omega arith) (sym c.free_one.ensures.freed ∙ c.if-not-free_one.false) c.free_one.ensures.left
      c.in_ok-settle.ensures.settled c.mutexes.invariant.all;
  same = same_parts c.args.self.now c.free_one.new.self c.settle.new.self (settle c.args.mode (parts_of c.free_one.new.self))
      (same_parts c.args.self.now c.mutexes.self c.free_one.new.self (parts_of (freed_by c.args.task c.mutexes.self)) c.mutexes.invariant.same c.free_one.ensures.left) c.in_ok-settle.ensures.settled;
  sound = c.in_ok-settle.ensures.sound;
}

pub returns : goal.returns
returns c = c.mutexes.invariant.same ∙ ap (with_parts c.args.self.now) (freed_spent c.mutexes._freed c.args.mode c.args.task (parts_of c.mutexes.self) _ (omega arith) c.mutexes.invariant.all)
