use Rattle.std.proofs.Common.{sym, subst, ◌∙◌}
use Rattle.tk_types.specs.declared.script.Script.{Script}
use Rattle.kernel_model.specs.Bodies.Statements.{IsRunnable}
use Rattle.dev_layer.specs.Tables.{AreDevices}
use Rattle.tk_gen.proofs.Scripts.{runnable, valid_devices}
use Rattle.tk_gen.proofs.Turns.{begun_core, start_between, start_fits}
use Rattle.tk_gen.proofs.running.ServedRun.new.Goals as goal

pub new-requires-2-clause-runnable : goal.new-requires-2-clause-runnable
new-requires-2-clause-runnable c = subst IsRunnable (sym c.in_ok-script.ensures) (runnable c.args.number)

pub new-requires-2-clause-devices : goal.new-requires-2-clause-devices
new-requires-2-clause-devices c = subst (λ (s : Script). AreDevices s.devices) (sym c.in_ok-script.ensures) (valid_devices c.args.number)

pub count_lines-requires : goal.count_lines-requires
count_lines-requires c = start_fits c.in_ok-script.script c.new-4.result c.in_ok-new.field-0 c.new-4.ensures c.in_ok-new.ensures

pub returns-clause-between : goal.returns-clause-between
returns-clause-between c =
    start_between c.args.number c.in_ok-script.script c.in_ok-new.field-0 c.count_lines.new.self c.in_ok-script.ensures c.in_ok-new.ensures c.count_lines.ensures.machine
    (c.count_lines.ensures.driver ∙ (c.in_ok-new-2.ensures ∙ begun_core c.in_ok-unit.unit.kind c.in_ok-unit.unit.store c.in_ok-unit.ensures.kind c.in_ok-unit.ensures.store))
