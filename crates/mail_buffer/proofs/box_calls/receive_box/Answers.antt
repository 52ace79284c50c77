use Rattle.std.proofs.Common.{rules, ◌≡◌, Some, None, sym, ◌∙◌}
use Rattle.std.specs.Prelude.{slice_get}
use Rattle.object_model.specs.Mails.Tables.{Mailbox, box_at}
use Rattle.mail_buffer.specs.Parts.{parts_of}
use Rattle.mail_buffer.proofs.BoxMails.{received_first, received_none}
use Rattle.mail_buffer.proofs.box_calls.receive_box.Goals as goal

pub returns-in-Some-take_from_box : goal.returns-in-Some-take_from_box
returns-in-Some-take_from_box c = λ memory.
    let k : Mailbox = c.in-Some-mailbox.row.now in
    let there : box_at c.args.table.now c.in-Some.id ≡ Some k = search rules in
    let first : slice_get k.messages 0 ≡ Some c.in-Some-take_from_box.message = sym (c.take_from_box.ensures.first k there) ∙ c.in-Some-take_from_box.is in
    let left = c.take_from_box.ensures.left k there in
    received_first (parts_of c.args.base.now c.args.table.now memory) c.args.who c.args.id c.args.timeout c.in-Some.id k c.in-Some-take_from_box.message
    (search rules) (search rules) (search rules) there first ∙ search rules

pub returns-then-timeout-eq0 : goal.returns-then-timeout-eq0
returns-then-timeout-eq0 c = λ memory.
    let k : Mailbox = c.in-Some-mailbox.row.now in
    let there : box_at c.args.table.now c.in-Some.id ≡ Some k = search rules in
    let none : slice_get k.messages 0 ≡ None = sym (c.take_from_box.ensures.first k there) ∙ c.in_default-take_from_box.is in
    received_none (parts_of c.args.base.now c.args.table.now memory) c.args.who c.args.id c.args.timeout c.in-Some.id k
    (search rules) (search rules) (search rules) there none ∙ search rules

pub returns : goal.returns
returns c = λ memory.
    let k : Mailbox = c.in-Some-mailbox.row.now in
    let there : box_at c.args.table.now c.in-Some.id ≡ Some k = search rules in
    let none : slice_get k.messages 0 ≡ None = sym (c.take_from_box.ensures.first k there) ∙ c.in_default-take_from_box.is in
    received_none (parts_of c.args.base.now c.args.table.now memory) c.args.who c.args.id c.args.timeout c.in-Some.id k
    (search rules) (search rules) (search rules) there none ∙ search rules
