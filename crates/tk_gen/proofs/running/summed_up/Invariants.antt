use Rattle.std.proofs.Common.{◌-◌}
use Rattle.tk_gen.proofs.Summed.{IsUnderway}
use Rattle.tk_gen.proofs.running.summed_up.Given as goal

-- so many turns are done
abbrev pub invariant-turns : goal.invariant-turns
invariant-turns l = IsUnderway l.fn.number (200001 - l._turn) l._turn l.run
