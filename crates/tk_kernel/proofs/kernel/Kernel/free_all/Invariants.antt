use Rattle.std.proofs.Common.{◌≡◌, ◌-◌}
use Rattle.machine_model.specs.Events.Settle.{freed, freed_within}
use Rattle.machine_model.specs.States.State.{parts_of, with_parts}
use Rattle.step_lemmas.specs.Sound.{IsSound}
use Rattle.tk_kernel.proofs.kernel.Kernel.free_all.Given as goal

-- what is left to free comes to what all comes to; nothing but the parts has changed; and what waits stands in its order and
-- has asked for something that fits
abbrev pub invariant-mutexes : goal.invariant-mutexes
invariant-mutexes l = record {
  all : freed_within (64 - l._freed) l.fn.mode l.fn.task (parts_of l.self) ≡ freed l.fn.mode l.fn.task (parts_of l.fn.self);
  same : l.self ≡ with_parts l.fn.self (parts_of l.self);
  sound : IsSound l.self.base l.self.objects;
}
