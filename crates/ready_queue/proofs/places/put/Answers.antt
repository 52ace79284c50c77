use Rattle.std.proofs.Common.{arith}
use Rattle.ready_queue.proofs.Put.{put_by_index}
use Rattle.ready_queue.proofs.places.put.Goals as goal

pub insert-requires : goal.insert-requires
insert-requires g c = omega (arith, c.first_place-index.ensures.within, c.as_slice.ensures.len)

pub returns-clause-places : goal.returns-clause-places
returns-clause-places g c =
    put_by_index c.args.place c.args.places.now.items _ _ _ _ c.as_slice.ensures.value c.first_place-index.ensures.index (c.insert.ensures.succeeds c.requires) c.insert.ensures.items
