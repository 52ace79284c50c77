use Rattle.tk_gen.proofs.Drivings.{IsAtWork, left_to_do}
use Rattle.tk_gen.proofs.driving.served.Given as goal

-- the driver works on the request, or its ending is ready
abbrev pub invariant-turns : goal.invariant-turns
invariant-turns l = IsAtWork l.fn.driver l.fn.request l.driver

-- each turn but the last does a block of it
abbrev pub decreases-turns : goal.decreases-turns
decreases-turns l = left_to_do l.driver.given l.driver.blocks
