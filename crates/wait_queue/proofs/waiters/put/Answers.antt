use Rattle.wait_queue.proofs.Put.{put_by_index}
use Rattle.wait_queue.proofs.waiters.put.Goals as goal

pub returns-clause-waiters : goal.returns-clause-waiters
returns-clause-waiters g c =
    put_by_index c.args.waiter c.args.waiters.now.items _ _ _ _ c.as_slice.ensures.value c.place_for-index.ensures.index (c.insert.ensures.succeeds c.requires) c.insert.ensures.items
