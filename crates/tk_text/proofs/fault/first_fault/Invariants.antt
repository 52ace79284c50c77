-- The first fault is the first one of what is left.
use Rattle.std.proofs.Common.{◌≡◌, ◌+◌, ◌≤◌, length}
use Rattle.std.specs.Option.{option_copied}
use Rattle.tk_model.specs.Words.{faults_from, lines_of}
use Rattle.tk_text.specs.Tokens.{parts_left, room_left}
use Rattle.tk_text.proofs.fault.first_fault.Given as goal

abbrev pub invariant-lines : goal.invariant-lines
invariant-lines l = record {
  same : faults_from (l.number + 1) (parts_left 10 (option_copied l.left)) ≡ faults_from 1 (lines_of l.text);
  room : l.number + room_left (option_copied l.left) ≤ length l.text + 1;
}

abbrev pub decreases-lines : goal.decreases-lines
decreases-lines l = room_left (option_copied l.left)
