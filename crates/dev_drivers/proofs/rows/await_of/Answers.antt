use Rattle.std.proofs.Common.{◌∙◌, Option, ap, arith}
use Rattle.device_model.specs.declared.messages.Ending.{Ending}
use Rattle.fleet_model.specs.Fleets.{taken_out}
use Rattle.dev_drivers.specs.Lines.{channels_of}
use Rattle.dev_drivers.proofs.Fleets.{nothing_came, one_came}
use Rattle.dev_drivers.proofs.Lines.{flushed_all_none, flushed_all_on}
use Rattle.dev_drivers.proofs.rows.await_of.Goals as goal

pub turns-init : goal.turns-init
turns-init g c = flushed_all_none c.args.lines.now.items

pub returns-in-Some-pop_at-clause-came : goal.returns-in-Some-pop_at-clause-came
returns-in-Some-pop_at-clause-came g c =
    let all = flushed_all_on c.args.lines.now.items c.turns.lines.items c.flush_all.new.lines.items c.turns.invariant c.flush_all.ensures.flushed in
    one_came c.args.lines.now.items c.flush_all.new.lines.items c.pop_at.new.lines.items c.in-Some-pop_at.ending all c.pop_at.ensures.kept
    (c.pop_at.ensures.taken ∙ ap (λ (o : Option Ending). taken_out o (channels_of c.flush_all.new.lines.items)) c.in-Some-pop_at.is)
    (omega (arith, c.in-Some-pop_at.ensures.device, c.requires.first), omega (arith, c.in-Some-pop_at.ensures.device, c.requires.last))

pub turns-preserved : goal.turns-preserved
turns-preserved g c =
    nothing_came c.args.lines.now.items c.flush_all.new.lines.items c.pop_at.new.lines.items
    (flushed_all_on c.args.lines.now.items c.turns.lines.items c.flush_all.new.lines.items c.turns.invariant c.flush_all.ensures.flushed) c.pop_at.ensures.kept
    (c.pop_at.ensures.taken ∙ ap (λ (o : Option Ending). taken_out o (channels_of c.flush_all.new.lines.items)) c.in_default.is)
