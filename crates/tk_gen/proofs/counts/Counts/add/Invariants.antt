use Rattle.std.proofs.Common.{◌≡◌, drop}
use Rattle.tk_gen.specs.Counts.{counted_on}
use Rattle.tk_gen.proofs.counts.Counts.add.Given as goal

-- the counts so far, with the lines that are left, are those of all lines
abbrev pub invariant-counting : goal.invariant-counting
invariant-counting l = counted_on l.self (drop l.line-index l.lines) ≡ counted_on l.fn.self l.lines
