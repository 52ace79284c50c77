-- What is printed, and the lines that are left, are all lines.
use Rattle.std.proofs.Common.{◌≡◌, ◌++◌, drop}
use Rattle.tk_model.specs.ScriptText.{item_lines}
use Rattle.tk_script.specs.Words.{lines_text}
use Rattle.tk_script.proofs.print_lines.print_items.Given as goal

abbrev pub invariant-labels : goal.invariant-labels
invariant-labels l = l.out.items ++ lines_text (item_lines l.bodies l.labels l.stmts l.from (drop l.label-index l.labels)) ≡ l.fn.out.items ++ lines_text (item_lines l.bodies l.labels l.stmts 0 l.labels)
