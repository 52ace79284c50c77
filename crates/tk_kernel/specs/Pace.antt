-- What a call of `step` answers.
use Rattle.std.specs.Prelude.{Option, Some, None}
use Rattle.tk_types.specs.declared.run.End.{End}
use Rattle.tk_types.specs.declared.run.End.TheVariants as ends
use Rattle.machine_model.specs.Runs.Machine.{Machine}
use Rattle.machine_model.specs.Runs.Step.{Pace as Outcome, Ends, Needs, Went as Done, step}
use Rattle.tk_kernel.specs.declared.pacing.Pace.{Pace}
use Rattle.tk_kernel.specs.declared.pacing.Pace.TheVariants.{Went, NeedsEnding, Over}

-- over where the run is over, and else it goes on
abbrev pub pace_of : Option End → Pace
pace_of None = Went
pace_of (Some end) = Over end

-- what a step came to
abbrev pub pace_with : Outcome → Pace
pace_with (Done event over) = pace_of over
pace_with (Needs waiting) = NeedsEnding
pace_with Ends = Over ends.Idle

-- a machine that is over says so again
abbrev pub pace_after : Machine → Pace
pace_after m = elim m.over as (λ _. Pace) [ Some end ↦ Over end | None ↦ pace_with (step m.script m.mode m.budget m.state) ]

-- how the run ended, where it did
abbrev pub over_of : Pace → Option End
over_of (Over end) = Some end
over_of _ = None
