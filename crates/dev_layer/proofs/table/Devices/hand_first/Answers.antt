use Rattle.std.proofs.Common.{◌≡◌, ap, sym, ◌∙◌, refl}
use Rattle.device_model.specs.Devices.Tables.{Devices, handed}
use Rattle.device_model.specs.Devices.Handing.{hand_first}
use Rattle.dev_layer.specs.Handing.{with_parts}
use Rattle.dev_layer.proofs.Handed.{first_goes, none_goes}
use Rattle.dev_layer.proofs.table.Devices.hand_first.Goals as goal

pub returns-in_default-clause-ok : goal.returns-in_default-clause-ok
returns-in_default-clause-ok c =
    let old : Devices = record { links = c.self.inside.links.links; buffers = c.self.inside.buffers.items; off = c.self.inside.off; opened = c.self.inside.opened.items; rows = c.self.inside.requests.rows; queued = c.self.inside.requests.queued; ended = c.self.inside.requests.ended; serial = c.self.inside.requests.serial; wishes = c.self.inside.wishes.items } in
    sym c.self.view_is ∙ sym (none_goes old c.self.inside.links.links c.self.inside.requests refl refl (sym c.first_device.ensures ∙ c.in_default.is)) ∙ ap hand_first c.self.view_is

pub returns-clause-ok : goal.returns-clause-ok
returns-clause-ok c =
    let old : Devices = record { links = c.self.inside.links.links; buffers = c.self.inside.buffers.items; off = c.self.inside.off; opened = c.self.inside.opened.items; rows = c.self.inside.requests.rows; queued = c.self.inside.requests.queued; ended = c.self.inside.requests.ended; serial = c.self.inside.requests.serial; wishes = c.self.inside.wishes.items } in
    let goes : hand_first old ≡ handed old c.in-Some.device = first_goes old c.self.inside.links.links c.self.inside.requests c.in-Some.device refl refl (sym c.first_device.ensures ∙ c.in-Some.is) in
    let moved : handed old c.in-Some.device ≡ with_parts old c.hand_one.new.links.links c.hand_one.new.requests = c.hand_one.ensures.handed old (sym c.reserve.ensures.links) refl in
    sym moved ∙ sym goes ∙ ap hand_first c.self.view_is
