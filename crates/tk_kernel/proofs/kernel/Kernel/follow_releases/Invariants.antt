use Rattle.std.proofs.Common.{◌≡◌, ◌++◌, length}
use Rattle.machine_model.specs.Events.Follow.{with_releases}
use Rattle.step_lemmas.proofs.Following.{left_to_follow}
use Rattle.tk_kernel.proofs.kernel.Kernel.follow_releases.Given as goal

-- what is left to follow comes to what all comes to, behind the lines so far
abbrev pub invariant-releases : goal.invariant-releases
invariant-releases l = record {
  state : (left_to_follow l.script l.step l.self).state ≡ (with_releases l.script l.step l.fn.self).state;
  lines : l.lines.items ++ (left_to_follow l.script l.step l.self).lines ≡ l.fn.lines.items ++ (with_releases l.script l.step l.fn.self).lines;
}

abbrev pub decreases-releases : goal.decreases-releases
decreases-releases l = length l.self.base.released
