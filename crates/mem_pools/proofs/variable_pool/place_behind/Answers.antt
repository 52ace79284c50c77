use Rattle.std.proofs.Common.{sym}
use Rattle.mem_pools.proofs.Placing.{place_behind_all}
use Rattle.mem_pools.proofs.variable_pool.place_behind.Goals as goal

pub returns-in-None-clause-place : goal.returns-in-None-clause-place
returns-in-None-clause-place c = place_behind_all _ c.args.blocks.now (sym c.in-None.ensures)
