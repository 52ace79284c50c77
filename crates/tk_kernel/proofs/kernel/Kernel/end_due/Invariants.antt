use Rattle.std.proofs.Common.{◌≡◌, ◌-◌}
use Rattle.count_lemmas.specs.Counts.{Makes}
use Rattle.machine_model.specs.Events.Ticks.{due_done}
use Rattle.step_lemmas.specs.Sound.{IsSound}
use Rattle.tk_kernel.proofs.kernel.Kernel.end_due.Given as goal

-- what is left to do comes to what all comes to; each task that waits stands in its order; and no more events were made than
-- turns are done
abbrev pub invariant-due : goal.invariant-due
invariant-due l = record {
  all : due_done (l.fn.most - l._done) l.fn.mode l.self ≡ due_done l.fn.most l.fn.mode l.fn.self;
  sound : IsSound l.self.base l.self.objects;
  makes : Makes l._done 0 0 l.fn.self.base l.self.base;
}
