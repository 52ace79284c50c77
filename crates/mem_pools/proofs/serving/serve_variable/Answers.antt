use Rattle.std.proofs.Common.{◌<◌, arith, sym}
use Rattle.object_model.specs.Pools.Tables.{size_of, variable_object}
use Rattle.mem_pools.proofs.Waiting.{first_waits}
use Rattle.mem_pools.proofs.serving.serve_variable.Goals as goal

pub take_bytes-requires-clause-some : goal.take_bytes-requires-clause-some
take_bytes-requires-clause-some c =
    let waits = first_waits c.order.result c.args.base.now (variable_object c.args.id) c.in-Some-waiter.task (sym c.in-Some-waiter.ensures) in
    let some : 0 < size_of c.args.table.now c.in-Some-waiter.task = c.requires.queued.asked c.args.id c.in-Some-waiter.task c.requires.low c.requires.high waits in
    let size = c.size_of-size.ensures.size in
    c.size_of-size.ensures.least (omega (arith, some, size))
