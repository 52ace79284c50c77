-- What `cut` gives, as the first line and those behind it.
use Rattle.std.proofs.Common.{ap, rules}
use Rattle.std.specs.Option.{option_copied}
use Rattle.trace_compare.proofs.LineLaws.{last_line, next_line, no_lines}
use Rattle.trace_compare.proofs.walk.first_line.Goals as goal

pub returns-then-is_empty-clause-lines : goal.returns-then-is_empty-clause-lines
returns-then-is_empty-clause-lines c = no_lines _ (search rules)

pub returns-in-None-clause-lines : goal.returns-in-None-clause-lines
returns-in-None-clause-lines c =
    last_line _ _ (option_copied c.cut.result.1) (search rules) c.cut.ensures.parts (ap option_copied c.in-None.is) c.cut.ensures.room

pub returns-in-Some-clause-lines : goal.returns-in-Some-clause-lines
returns-in-Some-clause-lines c = next_line _ _ (option_copied c.cut.result.1) _ c.cut.ensures.parts (ap option_copied c.in-Some.is)
