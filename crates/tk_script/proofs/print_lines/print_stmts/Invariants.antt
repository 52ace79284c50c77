-- What is printed, and the lines that are left, are all lines.
use Rattle.std.proofs.Common.{◌≡◌, ◌++◌, map, drop}
use Rattle.tk_model.specs.ScriptText.{stmt_words}
use Rattle.tk_script.specs.Words.{lines_text}
use Rattle.tk_script.proofs.print_lines.print_stmts.Given as goal

abbrev pub invariant-stmts : goal.invariant-stmts
invariant-stmts l = l.out.items ++ lines_text (map (stmt_words l.bodies l.labels) (drop l.stmt-index l.stmts)) ≡ l.fn.out.items ++ lines_text (map (stmt_words l.bodies l.labels) l.stmts)
