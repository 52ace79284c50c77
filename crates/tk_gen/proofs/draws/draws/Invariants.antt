use Rattle.std.proofs.Common.{◌≡◌, ◌-◌, ◌++◌, length}
use Rattle.machine_model.specs.Runs.Generator.{draws}
use Rattle.tk_gen.proofs.draws.draws.Given as goal

-- the draws so far, and those that are left, are all
abbrev pub invariant-drawing : goal.invariant-drawing
invariant-drawing l = record {
  all : l.list.items ++ draws (l.count - l._done) l.last ≡ draws l.count l.fn.number;
  many : length l.list.items ≡ l._done;
}
