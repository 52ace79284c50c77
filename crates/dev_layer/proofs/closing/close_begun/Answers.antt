use Rattle.std.proofs.Common.{◌≡◌, ℕ, Some, true, ap, ◌∙◌, rules}
use Rattle.std.specs.Prelude.{negsuc}
use Rattle.tk_types.specs.declared.task.Order.TheVariants.{Fifo}
use Rattle.kernel_model.specs.Tasks.Base.{Base, make_wait}
use Rattle.device_model.specs.Devices.Calls.{requests_dropped, waits_aborted}
use Rattle.device_model.specs.Devices.Endings.{DevParts, close_object}
use Rattle.device_model.specs.Devices.Tables.{Devices, asked, with_open}
use Rattle.dev_layer.specs.Parts.{parts_of}
use Rattle.dev_layer.proofs.Dropping.{begun_base, begun_is, begun_table}
use Rattle.dev_layer.proofs.closing.close_begun.Goals as goal

pub returns-clause-ok : goal.returns-clause-ok
returns-clause-ok c = λ mails memory.
    let p : DevParts = parts_of c.args.base.now c.args.table.now mails memory in
    let asking : c.ask.new.self ≡ asked c.args.table.now c.args.opened.device = search rules in
    let aborted : c.abort_waits.new.base ≡ waits_aborted p c.args.descriptor =
    begun_base c.args.base.now c.abort_waits.new.base c.args.table.now c.ask.new.self c.args.descriptor c.args.opened asking c.requires.opened c.abort_waits.ensures.aborted mails memory in
    let base : c.make_wait.new.self ≡ make_wait (waits_aborted p c.args.descriptor) c.args.task (close_object c.args.descriptor) Fifo (negsuc 0) =
    c.make_wait.ensures ∙ ap (λ (b : Base). make_wait b c.args.task c.close_object.result Fifo (negsuc 0)) aborted
    ∙ ap (λ (o : ℕ). make_wait (waits_aborted p c.args.descriptor) c.args.task o Fifo (negsuc 0)) c.close_object.ensures in
    let dropped : c.drop_requests.new.table ≡ requests_dropped (asked c.args.table.now c.args.opened.device) c.args.descriptor = c.drop_requests.ensures ∙ ap (λ (dv : Devices). requests_dropped dv c.args.descriptor) asking in
    let table = c.set_opened.ensures ∙ ap (λ (dv : Devices). with_open dv c.args.descriptor (Some (record c.args.opened { closing = true }))) dropped ∙ begun_table c.args.table.now c.args.descriptor c.args.opened c.requires.opened in
    begun_is p c.args.task c.args.descriptor c.make_wait.new.self c.set_opened.new.self base table
