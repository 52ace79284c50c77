use Rattle.std.proofs.Common.{◌∙◌, ap, arith, refl}
use Rattle.std.specs.Prelude.{◌-◌, vec_len}
use Rattle.dev_drivers.proofs.Fleets.{of_number}
use Rattle.dev_drivers.proofs.Lines.{device_is, popped_set}
use Rattle.dev_drivers.proofs.rows.pop_at.Goals as goal

pub returns-clause-kept : goal.returns-clause-kept
returns-clause-kept g c =
    let number = device_is c.args.lines.now.items (vec_len c.args.lines.now) (c.from.result - 1) c.index_mut.result.now c.requires.numbered (omega arith) (omega arith) in
    let popped = popped_set c.args.lines.now.items (c.from.result - 1) c.index_mut.result.now (record { link = c.pop.new.self; driver = c.index_mut.result.now.driver }) c.pop.result _ (omega arith) c.index_mut.ensures.value
    c.pop.ensures.same refl (ap (λ d. d.link.device) c.index_mut.ensures.value ∙ number) c.pop.ensures.device c.pop.ensures.some c.pop.ensures.none in
    popped.0

pub returns-clause-taken : goal.returns-clause-taken
returns-clause-taken g c =
    let number = device_is c.args.lines.now.items (vec_len c.args.lines.now) (c.from.result - 1) c.index_mut.result.now c.requires.numbered (omega arith) (omega arith) in
    let popped = popped_set c.args.lines.now.items (c.from.result - 1) c.index_mut.result.now (record { link = c.pop.new.self; driver = c.index_mut.result.now.driver }) c.pop.result _ (omega arith) c.index_mut.ensures.value
    c.pop.ensures.same refl (ap (λ d. d.link.device) c.index_mut.ensures.value ∙ number) c.pop.ensures.device c.pop.ensures.some c.pop.ensures.none in
    popped.1

pub returns-clause-device : goal.returns-clause-device
returns-clause-device g c =
    let number = device_is c.args.lines.now.items (vec_len c.args.lines.now) (c.from.result - 1) c.index_mut.result.now c.requires.numbered (omega arith) (omega arith) in
    of_number c.pop.result _ _ (ap (λ d. d.link.device) c.index_mut.ensures.value ∙ (number ∙ (omega arith))) c.pop.ensures.device
