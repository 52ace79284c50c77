-- What is read of the lines that are left is what is read of all.
use Rattle.std.proofs.Common.{◌≡◌, ◌+◌, ◌≤◌, length}
use Rattle.tk_raw.specs.Lines.{text_lines}
use Rattle.tk_raw.specs.RawReading.{read_lines}
use Rattle.tk_raw.proofs.reading.read_lines.Given as goal

abbrev pub invariant-lines : goal.invariant-lines
invariant-lines l = record {
  same : read_lines l.number l.reached (text_lines l.left) ≡ read_lines 2 l.fn.reached (text_lines l.text);
  room : l.number + length l.left ≤ 1048578;
}

abbrev pub decreases-lines : goal.decreases-lines
decreases-lines l = length l.left
