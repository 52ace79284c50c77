use Rattle.std.proofs.Common.{ap, ◌∙◌}
use Rattle.device_model.specs.Devices.Tables.{Devices, dropped}
use Rattle.dev_layer.specs.Requests.{Requests}
use Rattle.dev_layer.specs.Tables.{with_requests}
use Rattle.dev_layer.proofs.TableMoves.{dropped_is}
use Rattle.dev_layer.proofs.table.Devices.drop_request.Goals as goal

pub returns : goal.returns
returns c =
    let old : Devices = record { links = c.self.inside.links.links; buffers = c.self.inside.buffers.items; off = c.self.inside.off; opened = c.self.inside.opened.items; rows = c.self.inside.requests.rows; queued = c.self.inside.requests.queued; ended = c.self.inside.requests.ended; serial = c.self.inside.requests.serial; wishes = c.self.inside.wishes.items } in
    ap (λ (rq : Requests). with_requests old rq) c.drop_request.ensures ∙ dropped_is old c.args.id ∙ ap (λ (dv : Devices). dropped dv c.args.id) c.self.view_is
