use Rattle.std.proofs.Common.{arith, ℕ, List, [], ap, sym, ◌∙◌}
use Rattle.object_model.specs.Mails.Tables.{MailParts}
use Rattle.object_model.specs.Mails.Boxes.{serve_box, serve_mailboxes}
use Rattle.mail_buffer.specs.Parts.{parts_of}
use Rattle.mail_buffer.proofs.Firsts.{first_here, first_further, first_nowhere, box_there, parts_same}
use Rattle.mail_buffer.proofs.box_serving.serve_first_mailbox.Goals as goal

pub returns-then-serve_box-clause-served : goal.returns-then-serve_box-clause-served
returns-then-serve_box-clause-served c = λ memory.
    let old : MailParts = parts_of c.args.base.now c.args.table.now memory in
    (first_here serve_box c.args.table.now.boxes c.boxes.id old (parts_of c.boxes.base c.boxes.table memory) (parts_of c.serve_box.new.base c.serve_box.new.table memory) (serve_mailboxes old)
    (box_there old c.boxes.id) (parts_same _ _ _ _ memory c.boxes.invariant.base c.boxes.invariant.table) (sym c.if-serve_box.true ∙ c.serve_box.ensures.served memory) (c.serve_box.ensures.left memory)
    (c.boxes.invariant.all memory)).served

pub returns-then-serve_box-clause-left : goal.returns-then-serve_box-clause-left
returns-then-serve_box-clause-left c = λ memory.
    let old : MailParts = parts_of c.args.base.now c.args.table.now memory in
    (first_here serve_box c.args.table.now.boxes c.boxes.id old (parts_of c.boxes.base c.boxes.table memory) (parts_of c.serve_box.new.base c.serve_box.new.table memory) (serve_mailboxes old)
    (box_there old c.boxes.id) (parts_same _ _ _ _ memory c.boxes.invariant.base c.boxes.invariant.table) (sym c.if-serve_box.true ∙ c.serve_box.ensures.served memory) (c.serve_box.ensures.left memory)
    (c.boxes.invariant.all memory)).left

pub boxes-preserved : goal.boxes-preserved
boxes-preserved c =
    let further = λ (memory : List ℕ). first_further serve_box c.args.table.now.boxes c.boxes.id (parts_of c.args.base.now c.args.table.now memory) (parts_of c.boxes.base c.boxes.table memory)
    (parts_of c.serve_box.new.base c.serve_box.new.table memory) (serve_mailboxes (parts_of c.args.base.now c.args.table.now memory))
    (omega arith) (parts_same _ _ _ _ memory c.boxes.invariant.base c.boxes.invariant.table) (sym c.if-serve_box.false ∙ c.serve_box.ensures.served memory) (c.serve_box.ensures.left memory)
    (c.boxes.invariant.all memory) in
    record {
      all = λ memory. (further memory).all;
      base = ap (λ (p : MailParts). p.base) (further []).same;
      table = ap (λ (p : MailParts). p.table) (further []).same;
    }

pub returns-clause-served : goal.returns-clause-served
returns-clause-served c = λ memory.
    let old : MailParts = parts_of c.args.base.now c.args.table.now memory in
    (first_nowhere (serve_box old) c.args.table.now.boxes c.boxes_used-used.result c.boxes.id old (parts_of c.boxes.base c.boxes.table memory) (serve_mailboxes old)
    c.boxes_used-used.ensures.free c.boxes-test.false (parts_same _ _ _ _ memory c.boxes.invariant.base c.boxes.invariant.table) (c.boxes.invariant.all memory)).served

pub returns-clause-left : goal.returns-clause-left
returns-clause-left c = λ memory.
    let old : MailParts = parts_of c.args.base.now c.args.table.now memory in
    (first_nowhere (serve_box old) c.args.table.now.boxes c.boxes_used-used.result c.boxes.id old (parts_of c.boxes.base c.boxes.table memory) (serve_mailboxes old)
    c.boxes_used-used.ensures.free c.boxes-test.false (parts_same _ _ _ _ memory c.boxes.invariant.base c.boxes.invariant.table) (c.boxes.invariant.all memory)).left
