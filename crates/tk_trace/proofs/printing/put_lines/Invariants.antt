-- The lines so far stand behind the text.
use Rattle.std.proofs.Common.{◌≡◌, ◌++◌, take}
use Rattle.tk_model.specs.LineText.{text_of_lines}
use Rattle.tk_trace.proofs.printing.put_lines.Given as goal

abbrev pub invariant-lines : goal.invariant-lines
invariant-lines l = l.out.items ≡ l.fn.out.items ++ text_of_lines (take l.line-index l.lines)
