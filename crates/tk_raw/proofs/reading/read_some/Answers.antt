-- Line 1, and what stands behind it.
use Rattle.std.proofs.Common.{ap}
use Rattle.std.specs.Option.{option_copied}
use Rattle.tk_raw.specs.Lines.{text_lines}
use Rattle.tk_raw.proofs.TextLoops.{next_line, first_read, first_refused}
use Rattle.tk_raw.proofs.reading.read_some.Goals as goal

pub returns-in-Ok : goal.returns-in-Ok
returns-in-Ok c = first_read _ _ _ _ _ _ _ (next_line _ _ (option_copied c.cut.result.1) c.requires.some c.cut.ensures.parts c.cut.ensures.room) c.in-Ok.is c.head_line.ensures (ap text_lines c.behind.ensures) c.read_lines.ensures

pub returns-in-Err : goal.returns-in-Err
returns-in-Err c = first_refused _ _ _ c.in-Err.error _ _ (next_line _ _ (option_copied c.cut.result.1) c.requires.some c.cut.ensures.parts c.cut.ensures.room) c.in-Err.is c.head_line.ensures c.in_line.ensures
