use Rattle.std.proofs.Common.{◌≡◌, drop}
use Rattle.object_model.specs.Pools.Variable.{place_from}
use Rattle.mem_pools.specs.Blocks.{LieBetween}
use Rattle.mem_pools.proofs.variable_pool.place_in.Given as goal

-- what is found from here on is found of all
abbrev pub invariant-live : goal.invariant-live
invariant-live l = record {
  all : place_from l.start l.end l.size (drop l.index l.blocks) ≡ place_from 0 l.end l.size l.blocks;
  apart : LieBetween l.start l.end (drop l.index l.blocks);
}
