-- The lines that were counted, and those that are left, are all.
use Rattle.std.proofs.Common.{◌≡◌, ◌+◌, ◌≤◌, length}
use Rattle.tk_model.specs.TextLines.{text_lines}
use Rattle.tk_session.proofs.lines.line_count.Given as goal

abbrev pub invariant-lines : goal.invariant-lines
invariant-lines l = record {
  same : l.count + length (text_lines l.left) ≡ length (text_lines l.text);
  room : l.count + length l.left ≤ length l.text;
}

abbrev pub decreases-lines : goal.decreases-lines
decreases-lines l = length l.left
