use Rattle.std.proofs.Common.{◌∙◌, ap, sym, refl, arith}
use Rattle.std.specs.Prelude.{unwrap_or}
use Rattle.machine_model.specs.Events.Settle.{refreshed, served_within}
use Rattle.machine_model.specs.States.Objects.{serve_object}
use Rattle.machine_model.specs.States.State.{State, parts_of, with_parts}
use Rattle.step_lemmas.proofs.Servings.{same_parts, served_more, served_over, served_spent, with_same}
use Rattle.tk_kernel.proofs.kernel.Kernel.serve_all.Goals as goal

pub servings-init : goal.servings-init
servings-init c = record {
  all = ap {A = State} (λ s. served_within 512 (parts_of s)) c.refresh.ensures.taken;
  same = same_parts c.args.self.now c.args.self.now c.refresh.new.self (refreshed (parts_of c.args.self.now)) refl c.refresh.ensures.taken;
  sound = c.refresh.ensures.sound;
}

pub returns-then-not-served-clause-served : goal.returns-then-not-served-clause-served
returns-then-not-served-clause-served c =
    with_same c.args.self.now c.servings.self c.serve_first.new.self _ c.servings.invariant.same
    (served_over _ c.servings.self c.serve_first.new.self _ (sym c.in_ok-served.ensures.serves.served ∙ c.if-not-served.true) c.in_ok-served.ensures.serves.left c.servings.invariant.all)

pub servings-preserved : goal.servings-preserved
servings-preserved c = record {
  all =
      served_more c.servings._served c.servings.self c.serve_first.new.self c.refresh-in-servings.new.self _ (omega arith) (sym c.in_ok-served.ensures.serves.served ∙ c.if-not-served.false) c.in_ok-served.ensures.serves.left
      c.refresh-in-servings.ensures.taken c.servings.invariant.all;
  same = same_parts c.args.self.now c.serve_first.new.self c.refresh-in-servings.new.self (refreshed (parts_of c.serve_first.new.self))
      (same_parts c.args.self.now c.servings.self c.serve_first.new.self (unwrap_or (serve_object (parts_of c.servings.self)) (parts_of c.servings.self)) c.servings.invariant.same c.in_ok-served.ensures.serves.left) c.refresh-in-servings.ensures.taken;
  sound = c.refresh-in-servings.ensures.sound;
}

pub returns-clause-served : goal.returns-clause-served
returns-clause-served c = c.servings.invariant.same ∙ ap (with_parts c.args.self.now) (served_spent c.servings._served (parts_of c.servings.self) _ (omega arith) c.servings.invariant.all)
