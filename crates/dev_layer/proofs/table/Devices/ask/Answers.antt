use Rattle.std.proofs.Common.{◌≡◌, List, Option, ap, ◌∙◌, rules}
use Rattle.device_model.specs.Devices.Tables.{Devices, Link, asked}
use Rattle.dev_layer.specs.Messages.{links_asked}
use Rattle.dev_layer.proofs.TableMoves.{asked_is}
use Rattle.dev_layer.proofs.table.Devices.ask.Goals as goal

pub returns-clause-ok : goal.returns-clause-ok
returns-clause-ok c =
    let old : Devices = record { links = c.self.inside.links.links; buffers = c.self.inside.buffers.items; off = c.self.inside.off; opened = c.self.inside.opened.items; rows = c.self.inside.requests.rows; queued = c.self.inside.requests.queued; ended = c.self.inside.requests.ended; serial = c.self.inside.requests.serial; wishes = c.self.inside.wishes.items } in
    let moved : c.ask.new.self.links ≡ links_asked c.self.inside.links.links c.args.device = search rules in
    ap (λ (links : List (Option Link)). record old { links = links }) moved ∙ asked_is old c.args.device ∙ ap (λ (dv : Devices). asked dv c.args.device) c.self.view_is
