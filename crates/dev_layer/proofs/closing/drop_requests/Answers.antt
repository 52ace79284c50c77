use Rattle.std.proofs.Common.{◌<◌, ◌∙◌, arith, length}
use Rattle.dev_layer.proofs.Dropping.{one_dropped, rows_kept}
use Rattle.dev_layer.proofs.closing.drop_requests.Goals as goal

pub requests-preserved : goal.requests-preserved
requests-preserved c =
    let slots = c.request_slots-slots.ensures.slots in
    let inside : c.requests.id < length c.args.table.now.rows = omega (arith, slots) in
    record {
      all = one_dropped c.args.descriptor c.args.table.now.rows c.requests.id c.requests.table c.drop_if.new.table _ inside (c.requests.invariant.same c.requests.id (omega arith)) c.drop_if.ensures c.requests.invariant.all;
      same = λ n above. rows_kept c.args.descriptor c.requests.table c.drop_if.new.table c.requests.id n c.drop_if.ensures (λ is. omega (arith, above, is)) ∙ c.requests.invariant.same n (omega (arith, above));
    }
