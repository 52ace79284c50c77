use Rattle.std.proofs.Common.{ap, sym, ◌∙◌}
use Rattle.device_model.specs.Devices.Calls.{suspended}
use Rattle.device_model.specs.Devices.Endings.{DevParts}
use Rattle.device_model.specs.Devices.Handing.{any_given}
use Rattle.dev_layer.specs.Parts.{left_with, parts_of}
use Rattle.dev_layer.proofs.SuspendChecks.{busy_suspend, is_so, suspend_goes}
use Rattle.dev_layer.proofs.suspending.suspend_devices.Goals as goal

pub count-requires-clause-more : goal.count-requires-clause-more
count-requires-clause-more c = c.is_most.ensures.less c.if-is_most.false

pub returns-then-not-may_suspend : goal.returns-then-not-may_suspend
returns-then-not-may_suspend c =
    let p : DevParts = parts_of c.args.base.now c.args.table.now c.args.mails.now c.args.memory.now in
    busy_suspend p c.args.who c.args.mode (sym c.is_suspend_mode.ensures ∙ c.if-not-is_suspend_mode.false) (sym c.allows.ensures ∙ c.if-not-allows.false) (sym c.is_most.ensures.most ∙ c.if-is_most.false) (is_so c.args.mode.td_suspend c.if-not-mode.false)
    (sym (c.may_suspend.ensures c.args.mails.now c.args.memory.now) ∙ c.if-not-may_suspend.true)
    ∙ ap (left_with p) (sym c.failed-then-not-may_suspend.ensures)

pub returns : goal.returns
returns c =
    let p : DevParts = parts_of c.args.base.now c.args.table.now c.args.mails.now c.args.memory.now in
    suspend_goes p c.args.who c.args.mode (sym c.is_suspend_mode.ensures ∙ c.if-not-is_suspend_mode.false) (sym c.allows.ensures ∙ c.if-not-allows.false) (sym c.is_most.ensures.most ∙ c.if-is_most.false) (is_so c.args.mode.td_suspend c.if-not-mode.false)
    (sym (c.may_suspend.ensures c.args.mails.now c.args.memory.now) ∙ c.if-not-may_suspend.false)
    ∙ ap (suspended (any_given p.table) p) (sym c.caller.ensures)
    ∙ c.suspend.ensures
