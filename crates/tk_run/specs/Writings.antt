-- What of a run is still to be written.
use Rattle.std.specs.Prelude.{ℕ, List, ◌++◌}
use Rattle.tk_types.specs.declared.line.LastLine.{LastLine}
use Rattle.tk_types.specs.declared.line.Line.{Line}
use Rattle.machine_model.specs.Runs.Trace.{Trace, lines_of}

-- all lines that are to be written, what the last of them says, and the steps that are done then
pub record Writing : Type 0 where
  pub lines : List Line
  pub last : LastLine
  pub steps : ℕ

-- what a trace has to be written
abbrev pub writing : Trace → Writing
writing run = record { lines = lines_of run; last = run.last; steps = run.steps }

-- lines before others
abbrev pub behind_lines : List Line → Writing → Writing
behind_lines kept later = record later { lines = kept ++ later.lines }
