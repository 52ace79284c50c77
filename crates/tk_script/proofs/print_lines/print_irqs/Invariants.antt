-- What is printed, and the lines that are left, are all lines.
use Rattle.std.proofs.Common.{◌≡◌, ◌++◌, map, drop}
use Rattle.tk_model.specs.ScriptText.{irq_words}
use Rattle.tk_script.specs.Words.{lines_text}
use Rattle.tk_script.proofs.print_lines.print_irqs.Given as goal

abbrev pub invariant-irqs : goal.invariant-irqs
invariant-irqs l = l.out.items ++ lines_text (map irq_words (drop l.irq-index l.irqs)) ≡ l.fn.out.items ++ lines_text (map irq_words l.irqs)
