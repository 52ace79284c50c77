use Rattle.std.proofs.Common.{◌≡◌, ◌-◌, ◌≤◌, drop}
use Rattle.object_model.specs.Pools.Variable.{live_bytes}
use Rattle.mem_pools.proofs.variable_pool.free_bytes.Given as goal

-- what the blocks from here on leave is what all leave
abbrev pub invariant-live : goal.invariant-live
invariant-live l = record {
  all : l.free - live_bytes (drop l.index l.blocks) ≡ l.size - live_bytes l.blocks;
  within : l.free ≤ l.size;
}
