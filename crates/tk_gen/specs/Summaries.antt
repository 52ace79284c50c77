-- What is told of the run of a generated script.
use Rattle.std.specs.Prelude.{ℕ, ◌≡◌, List, ◌++◌, codes, count_by, decimal}
use Rattle.machine_model.specs.Runs.Trace.{Trace, last_of}
use Rattle.tk_gen.specs.Counts.{is_call, is_ending, is_tick, is_wait}
use Rattle.tk_gen.specs.declared.summary.Summary.{Summary}

-- the most steps of a run
abbrev pub most_steps : ℕ
most_steps = 100000

-- a summary tells of a number and a trace: its steps, how many of its lines are of each kind, and how it ends
pub record SumsUp (summed : Summary) (number : ℕ) (trace : Trace) : Type 0 where
  pub number_is : summed.number ≡ number
  pub steps : summed.steps ≡ trace.steps
  pub calls : summed.calls ≡ count_by is_call trace.lines
  pub waits : summed.waits ≡ count_by is_wait trace.lines
  pub ticks : summed.ticks ≡ count_by is_tick trace.lines
  pub endings : summed.endings ≡ count_by is_ending trace.lines
  pub last : last_of summed.last ≡ trace.last

-- the line of a summary
unfoldable pub summed_text : Summary → List ℕ
summed_text summed =
    codes "gen " ++ decimal summed.number
    ++ codes " steps " ++ decimal summed.steps
    ++ codes " calls " ++ decimal summed.calls
    ++ codes " waits " ++ decimal summed.waits
    ++ codes " ticks " ++ decimal summed.ticks
    ++ codes " endings " ++ decimal summed.endings
    ++ codes "\n"
