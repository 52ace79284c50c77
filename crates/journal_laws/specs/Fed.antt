-- Journals and the traces that they feed.
use Rattle.std.specs.Prelude.{◌≡◌, ◌++◌, Bool, true, false, List, []}
use Rattle.tk_types.specs.declared.line.Entry.{Entry}
use Rattle.tk_types.specs.declared.line.LastLine.{LastLine}
use Rattle.tk_types.specs.declared.line.LastLine.TheVariants as lasts
use Rattle.tk_model.specs.Journal.{journal_of}
use Rattle.machine_model.specs.Runs.Trace.{Trace}

-- whether a run ended by itself: neither for want of an ending, nor at an entry that isn't fit
abbrev pub is_whole : LastLine → Bool
is_whole lasts.Idle = true
is_whole lasts.Halt = true
is_whole lasts.Budget = true
is_whole lasts.Starved = false
is_whole (lasts.Unfit k) = false

-- the endings in the lines of a trace are those of the entries, in their order, up to some that are left; and where the run
-- ended by itself none is left
pub record IsFed (entries : List Entry) (trace : Trace) : Type 0 where
  pub left : List Entry
  pub all : entries ≡ journal_of trace.lines ++ left
  pub none_left : is_whole trace.last ≡ true → left ≡ []
