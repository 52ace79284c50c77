-- The entries so far, and those that the lines left spell, are those of all lines.
use Rattle.std.proofs.Common.{◌≡◌, ◌+◌, ◌≤◌, length}
use Rattle.tk_model.specs.TextLines.{text_lines}
use Rattle.tk_session.specs.Reading.{entries_from, with_front}
use Rattle.tk_session.proofs.journal.read_journal.Given as goal

abbrev pub invariant-lines : goal.invariant-lines
invariant-lines l = record {
  same : with_front l.entries.items (entries_from l.number (text_lines l.left)) ≡ entries_from l.first (text_lines l.lines);
  room : l.number + length l.left ≤ l.first + length l.lines;
}

abbrev pub decreases-lines : goal.decreases-lines
decreases-lines l = length l.left
