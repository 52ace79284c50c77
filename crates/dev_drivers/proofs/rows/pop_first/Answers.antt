use Rattle.std.proofs.Common.{◌∙◌, ap, arith, refl, sym}
use Rattle.std.specs.Prelude.{List, Option, vec_len}
use Rattle.device_model.specs.declared.messages.Ending.{Ending}
use Rattle.fleet_model.specs.Channels.{Channel}
use Rattle.fleet_model.specs.Fleets.{taken_out}
use Rattle.dev_drivers.specs.Lines.{channels_of}
use Rattle.dev_drivers.proofs.Lines.{device_is, kept_on, none_is, popped_set, within}
use Rattle.dev_drivers.proofs.rows.pop_first.Goals as goal

pub returns-then-is_some-clause-kept : goal.returns-then-is_some-clause-kept
returns-then-is_some-clause-kept g c =
    let number = device_is c.devices.lines.items (vec_len c.args.lines.now) c.devices.i c.index_mut.result.now (c.devices.invariant.0.devices ∙ c.requires.numbered) (omega arith) (omega arith) in
    let popped = popped_set c.devices.lines.items c.devices.i c.index_mut.result.now (record { link = c.pop-popped.new.self; driver = c.index_mut.result.now.driver }) c.pop-popped.result _ (omega arith) c.index_mut.ensures.value
    c.pop-popped.ensures.same refl (ap (λ d. d.link.device) c.index_mut.ensures.value ∙ number) c.pop-popped.ensures.device c.pop-popped.ensures.some c.pop-popped.ensures.none in
    kept_on _ _ _ c.devices.invariant.0 popped.0

pub returns-then-is_some-clause-taken : goal.returns-then-is_some-clause-taken
returns-then-is_some-clause-taken g c =
    let number = device_is c.devices.lines.items (vec_len c.args.lines.now) c.devices.i c.index_mut.result.now (c.devices.invariant.0.devices ∙ c.requires.numbered) (omega arith) (omega arith) in
    let popped = popped_set c.devices.lines.items c.devices.i c.index_mut.result.now (record { link = c.pop-popped.new.self; driver = c.index_mut.result.now.driver }) c.pop-popped.result _ (omega arith) c.index_mut.ensures.value
    c.pop-popped.ensures.same refl (ap (λ d. d.link.device) c.index_mut.ensures.value ∙ number) c.pop-popped.ensures.device c.pop-popped.ensures.some c.pop-popped.ensures.none in
    popped.1 ∙ ap (λ (l : List Channel). taken_out c.pop-popped.result l) c.devices.invariant.1

pub returns-then-is_some-clause-device : goal.returns-then-is_some-clause-device
returns-then-is_some-clause-device g c =
    let number = device_is c.devices.lines.items (vec_len c.args.lines.now) c.devices.i c.index_mut.result.now (c.devices.invariant.0.devices ∙ c.requires.numbered) (omega arith) (omega arith) in
    within c.pop-popped.result _ _ _ (ap (λ d. d.link.device) c.index_mut.ensures.value ∙ number) (omega arith) c.pop-popped.ensures.device

pub devices-preserved : goal.devices-preserved
devices-preserved g c =
    let number = device_is c.devices.lines.items (vec_len c.args.lines.now) c.devices.i c.index_mut.result.now (c.devices.invariant.0.devices ∙ c.requires.numbered) (omega arith) (omega arith) in
    let popped = popped_set c.devices.lines.items c.devices.i c.index_mut.result.now (record { link = c.pop-popped.new.self; driver = c.index_mut.result.now.driver }) c.pop-popped.result _ (omega arith) c.index_mut.ensures.value
    c.pop-popped.ensures.same refl (ap (λ d. d.link.device) c.index_mut.ensures.value ∙ number) c.pop-popped.ensures.device c.pop-popped.ensures.some c.pop-popped.ensures.none in (
      kept_on _ _ _ c.devices.invariant.0 popped.0,
      popped.1 ∙ (ap (λ (o : Option Ending). taken_out o (channels_of c.devices.lines.items)) (none_is c.pop-popped.result (sym c.is_some.ensures ∙ c.if-is_some.false)) ∙ c.devices.invariant.1),
      c.devices.invariant.2,
    )
