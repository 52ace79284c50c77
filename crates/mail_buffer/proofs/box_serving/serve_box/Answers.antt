use Rattle.std.proofs.Common.{rules, ◌≡◌, Some, None, ap, sym, ◌∙◌}
use Rattle.std.specs.Option.{is_some}
use Rattle.std.specs.Prelude.{slice_get}
use Rattle.object_model.specs.Mails.Tables.{Mailbox, box_at}
use Rattle.object_model.specs.Mails.Boxes.{box_waiters}
use Rattle.mail_buffer.specs.Parts.{parts_of}
use Rattle.mail_buffer.proofs.BoxMails.{served_box, unserved_box}
use Rattle.mail_buffer.proofs.box_serving.serve_box.Goals as goal

pub returns-in_default-take_from_box-clause-served : goal.returns-in_default-take_from_box-clause-served
returns-in_default-take_from_box-clause-served c = λ memory.
    let k : Mailbox = c.in-Some.row.now in
    let there : box_at c.args.table.now c.args.id ≡ Some k = search rules in
    let none : slice_get k.messages 0 ≡ None = sym (c.take_from_box.ensures.first k there) ∙ c.in_default-take_from_box.is in
    ap is_some (sym (unserved_box (parts_of c.args.base.now c.args.table.now memory) c.args.id k there none))

pub returns-in_default-take_from_box-clause-left : goal.returns-in_default-take_from_box-clause-left
returns-in_default-take_from_box-clause-left c = λ memory.
    let k : Mailbox = c.in-Some.row.now in
    let there : box_at c.args.table.now c.args.id ≡ Some k = search rules in
    let none : slice_get k.messages 0 ≡ None = sym (c.take_from_box.ensures.first k there) ∙ c.in_default-take_from_box.is in
    rw (unserved_box (parts_of c.args.base.now c.args.table.now memory) c.args.id k there none) (search rules)

pub returns-clause-served : goal.returns-clause-served
returns-clause-served c = λ memory.
    let k : Mailbox = c.in-Some.row.now in
    let there : box_at c.args.table.now c.args.id ≡ Some k = search rules in
    let first : slice_get (box_waiters c.args.base.now k c.args.id) 0 ≡ Some c.in-Some-waiter.task = search rules in
    let message : slice_get k.messages 0 ≡ Some c.in-Some-take_from_box.message = sym (c.take_from_box.ensures.first k there) ∙ c.in-Some-take_from_box.is in
    ap is_some (sym (served_box (parts_of c.args.base.now c.args.table.now memory) c.args.id k c.in-Some-waiter.task c.in-Some-take_from_box.message there first message))

pub returns-clause-left : goal.returns-clause-left
returns-clause-left c = λ memory.
    let k : Mailbox = c.in-Some.row.now in
    let there : box_at c.args.table.now c.args.id ≡ Some k = search rules in
    let first : slice_get (box_waiters c.args.base.now k c.args.id) 0 ≡ Some c.in-Some-waiter.task = search rules in
    let message : slice_get k.messages 0 ≡ Some c.in-Some-take_from_box.message = sym (c.take_from_box.ensures.first k there) ∙ c.in-Some-take_from_box.is in
    let left = c.take_from_box.ensures.left k there in
    rw (served_box (parts_of c.args.base.now c.args.table.now memory) c.args.id k c.in-Some-waiter.task c.in-Some-take_from_box.message there first message) (search rules)
