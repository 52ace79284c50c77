use Rattle.std.proofs.Common.{◌≡◌, ◌-◌}
use Rattle.machine_model.specs.Events.Settle.{refreshed, served_within}
use Rattle.machine_model.specs.States.State.{parts_of, with_parts}
use Rattle.step_lemmas.specs.Sound.{IsSound}
use Rattle.tk_kernel.proofs.kernel.Kernel.serve_all.Given as goal

-- what is left to serve comes to what all comes to; nothing but the parts has changed; and what waits stands in its order and
-- has asked for something that fits
abbrev pub invariant-servings : goal.invariant-servings
invariant-servings l = record {
  all : served_within (512 - l._served) (parts_of l.self) ≡ served_within 512 (refreshed (parts_of l.fn.self));
  same : l.self ≡ with_parts l.fn.self (parts_of l.self);
  sound : IsSound l.self.base l.self.objects;
}
