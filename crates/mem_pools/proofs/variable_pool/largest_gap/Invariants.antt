use Rattle.std.proofs.Common.{◌≡◌, ◌≤◌, drop, fold}
use Rattle.std.specs.Prelude.{max}
use Rattle.object_model.specs.Pools.Variable.{gaps_from}
use Rattle.mem_pools.specs.Blocks.{LieBetween}
use Rattle.mem_pools.proofs.variable_pool.largest_gap.Given as goal

-- what is found from here on is found of all
abbrev pub invariant-live : goal.invariant-live
invariant-live l = record {
  all : fold max l.largest (gaps_from l.start l.end (drop l.index l.blocks)) ≡ fold max 0 (gaps_from 0 l.end l.blocks);
  apart : LieBetween l.start l.end (drop l.index l.blocks);
  within : l.largest ≤ l.end;
}
