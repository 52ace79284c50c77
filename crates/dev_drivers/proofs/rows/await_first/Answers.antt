use Rattle.std.proofs.Common.{◌∙◌, Option, ap, arith}
use Rattle.device_model.specs.declared.messages.Ending.{Ending}
use Rattle.fleet_model.specs.Fleets.{taken_out}
use Rattle.dev_drivers.specs.Lines.{channels_of}
use Rattle.dev_drivers.proofs.Fleets.{nothing_came, one_came, same_length}
use Rattle.dev_drivers.proofs.Lines.{flushed_all_none, flushed_all_on}
use Rattle.dev_drivers.proofs.rows.await_first.Goals as goal

pub turns-init : goal.turns-init
turns-init g c = flushed_all_none c.args.lines.now.items

pub returns-in-Some-pop_first : goal.returns-in-Some-pop_first
returns-in-Some-pop_first g c =
    let all = flushed_all_on c.args.lines.now.items c.turns.lines.items c.flush_all.new.lines.items c.turns.invariant c.flush_all.ensures.flushed in
    let size = same_length c.args.lines.now.items c.flush_all.new.lines.items all.kept.devices in
    one_came c.args.lines.now.items c.flush_all.new.lines.items c.pop_first.new.lines.items c.in-Some-pop_first.ending all c.pop_first.ensures.kept
    (c.pop_first.ensures.taken ∙ ap (λ (o : Option Ending). taken_out o (channels_of c.flush_all.new.lines.items)) c.in-Some-pop_first.is)
    (c.in-Some-pop_first.ensures.device.0, omega (arith, c.in-Some-pop_first.ensures.device.1, size))

pub turns-preserved : goal.turns-preserved
turns-preserved g c =
    nothing_came c.args.lines.now.items c.flush_all.new.lines.items c.pop_first.new.lines.items
    (flushed_all_on c.args.lines.now.items c.turns.lines.items c.flush_all.new.lines.items c.turns.invariant c.flush_all.ensures.flushed) c.pop_first.ensures.kept
    (c.pop_first.ensures.taken ∙ ap (λ (o : Option Ending). taken_out o (channels_of c.flush_all.new.lines.items)) c.in_default.is)
