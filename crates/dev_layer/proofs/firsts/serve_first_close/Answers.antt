use Rattle.std.proofs.Common.{◌≡◌, ◌<◌, [], true, ap, sym, ◌∙◌, arith, length, rules, subst}
use Rattle.std.specs.Option.{is_some}
use Rattle.std.specs.Prelude.{unwrap_or}
use Rattle.object_model.specs.Mails.Tables.{mails_start}
use Rattle.device_model.specs.Devices.Endings.{DevParts}
use Rattle.dev_layer.specs.Parts.{AreQueued, parts_of}
use Rattle.dev_layer.specs.Serving.{at_close}
use Rattle.mail_buffer.proofs.Firsts.{first_further, first_here, first_nowhere}
use Rattle.dev_layer.proofs.FirstServed.{close_there, closes_same, free_behind}
use Rattle.dev_layer.proofs.firsts.serve_first_close.Goals as goal

pub serve_taken_close-requires-clause-queued : goal.serve_taken_close-requires-clause-queued
serve_taken_close-requires-clause-queued c = subst AreQueued (sym (ap (λ (p : DevParts). p.base) (c.descriptors.invariant.same mails_start []))) c.requires.queued

pub returns-then-serve_taken_close-clause-served : goal.returns-then-serve_taken_close-clause-served
returns-then-serve_taken_close-clause-served c = λ mails memory.
    let old : DevParts = parts_of c.args.base.now c.args.table.now mails memory in
    let turn : DevParts = parts_of c.descriptors.base c.descriptors.table mails memory in
    let some : true ≡ is_some (at_close turn c.descriptors.descriptor) = sym c.if-serve_taken_close.true ∙ c.serve_taken_close.ensures.served mails memory in
    (first_here at_close c.args.table.now.opened c.descriptors.descriptor old turn _ _ (close_there old c.descriptors.descriptor) (c.descriptors.invariant.same mails memory) some (c.serve_taken_close.ensures.left mails memory) (c.descriptors.invariant.all mails memory)).served
    ∙ ap is_some (closes_same old)

pub returns-then-serve_taken_close-clause-left : goal.returns-then-serve_taken_close-clause-left
returns-then-serve_taken_close-clause-left c = λ mails memory.
    let old : DevParts = parts_of c.args.base.now c.args.table.now mails memory in
    let turn : DevParts = parts_of c.descriptors.base c.descriptors.table mails memory in
    let some : true ≡ is_some (at_close turn c.descriptors.descriptor) = sym c.if-serve_taken_close.true ∙ c.serve_taken_close.ensures.served mails memory in
    (first_here at_close c.args.table.now.opened c.descriptors.descriptor old turn _ _ (close_there old c.descriptors.descriptor) (c.descriptors.invariant.same mails memory) some (c.serve_taken_close.ensures.left mails memory) (c.descriptors.invariant.all mails memory)).left
    ∙ ap (λ o. unwrap_or o old) (closes_same old)

pub descriptors-preserved : goal.descriptors-preserved
descriptors-preserved c =
    let slots : length c.args.table.now.opened ≡ 33 = search rules in
    let inside : c.descriptors.descriptor < length c.args.table.now.opened = omega (arith, slots) in
    record {
      all = λ mails memory.
          (first_further at_close c.args.table.now.opened c.descriptors.descriptor (parts_of c.args.base.now c.args.table.now mails memory) (parts_of c.descriptors.base c.descriptors.table mails memory) _ _ inside (c.descriptors.invariant.same mails memory)
          (sym c.if-serve_taken_close.false ∙ c.serve_taken_close.ensures.served mails memory) (c.serve_taken_close.ensures.left mails memory) (c.descriptors.invariant.all mails memory)).all;
      same = λ mails memory.
          (first_further at_close c.args.table.now.opened c.descriptors.descriptor (parts_of c.args.base.now c.args.table.now mails memory) (parts_of c.descriptors.base c.descriptors.table mails memory) _ _ inside (c.descriptors.invariant.same mails memory)
          (sym c.if-serve_taken_close.false ∙ c.serve_taken_close.ensures.served mails memory) (c.serve_taken_close.ensures.left mails memory) (c.descriptors.invariant.all mails memory)).same;
    }

pub returns-clause-served : goal.returns-clause-served
returns-clause-served c = λ mails memory.
    let old : DevParts = parts_of c.args.base.now c.args.table.now mails memory in
    let turn : DevParts = parts_of c.descriptors.base c.descriptors.table mails memory in
    let slots : length c.args.table.now.opened ≡ 33 = search rules in
    (first_nowhere (at_close old) c.args.table.now.opened 33 c.descriptors.descriptor old turn _ (free_behind c.args.table.now.opened 33 (omega (arith, slots))) (omega arith) (c.descriptors.invariant.same mails memory) (c.descriptors.invariant.all mails memory)).served
    ∙ ap is_some (closes_same old)

pub returns-clause-left : goal.returns-clause-left
returns-clause-left c = λ mails memory.
    let old : DevParts = parts_of c.args.base.now c.args.table.now mails memory in
    let turn : DevParts = parts_of c.descriptors.base c.descriptors.table mails memory in
    let slots : length c.args.table.now.opened ≡ 33 = search rules in
    (first_nowhere (at_close old) c.args.table.now.opened 33 c.descriptors.descriptor old turn _ (free_behind c.args.table.now.opened 33 (omega (arith, slots))) (omega arith) (c.descriptors.invariant.same mails memory) (c.descriptors.invariant.all mails memory)).left
    ∙ ap (λ o. unwrap_or o old) (closes_same old)
