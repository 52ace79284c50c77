use Rattle.held_laws.proofs.Pools.{reached_apart}
use Rattle.held_laws.proofs.laws.live_blocks_lie_apart_in_every_state.Goals as goal

pub returns : goal.returns
returns c = reached_apart
