use Rattle.std.proofs.Common.{rules, ◌≡◌, Some, None, true, false, negsuc, cond, ◌∙◌}
use Rattle.std.specs.Prelude.{int_le}
use Rattle.kernel_model.specs.declared.marks.Mark.TheVariants.{MayWait}
use Rattle.kernel_model.specs.Words.Checks.{natural, within}
use Rattle.kernel_model.specs.Tasks.Marks.{allows}
use Rattle.object_model.specs.Mails.Tables.{MessageBuffer, MailParts, buffer_at}
use Rattle.object_model.specs.Mails.Buffers.{takes_length}
use Rattle.object_model.specs.Mails.Calls.{is_inside}
use Rattle.mail_buffer.specs.Parts.{parts_of}
use Rattle.mail_buffer.proofs.BufferMails.{send_no_buffer, send_not_allowed, send_wrong_length, sent_when}
use Rattle.mail_buffer.proofs.sending.send_buffer.Goals as goal

pub returns-then-not-allows-clause-ok : goal.returns-then-not-allows-clause-ok
returns-then-not-allows-clause-ok c =
    let p : MailParts = parts_of c.args.base.now c.args.table.now c.args.memory.now in
    let known : cond (within 1 64 c.args.id) (Some (natural c.args.id)) None ≡ Some c.in-Some.id = search rules in
    let lies : is_inside c.args.address c.args.length ≡ true = search rules in
    let limit : int_le (negsuc 0) c.args.timeout ≡ true = search rules in
    let allowed : allows c.args.base.now.flags c.args.who MayWait ≡ false = search rules in
    send_not_allowed p c.args.who c.args.id c.args.address c.args.length c.args.timeout c.in-Some.id known lies limit allowed ∙ search rules

pub returns-in_default-buffer-clause-ok : goal.returns-in_default-buffer-clause-ok
returns-in_default-buffer-clause-ok c =
    let p : MailParts = parts_of c.args.base.now c.args.table.now c.args.memory.now in
    let known : cond (within 1 64 c.args.id) (Some (natural c.args.id)) None ≡ Some c.in-Some.id = search rules in
    let lies : is_inside c.args.address c.args.length ≡ true = search rules in
    let limit : int_le (negsuc 0) c.args.timeout ≡ true = search rules in
    let allowed : allows c.args.base.now.flags c.args.who MayWait ≡ true = search rules in
    let none : buffer_at c.args.table.now c.in-Some.id ≡ None = search rules in
    send_no_buffer p c.args.who c.args.id c.args.address c.args.length c.args.timeout c.in-Some.id known lies limit allowed none ∙ search rules

pub returns-then-not-takes_length-clause-ok : goal.returns-then-not-takes_length-clause-ok
returns-then-not-takes_length-clause-ok c =
    let p : MailParts = parts_of c.args.base.now c.args.table.now c.args.memory.now in
    let known : cond (within 1 64 c.args.id) (Some (natural c.args.id)) None ≡ Some c.in-Some.id = search rules in
    let lies : is_inside c.args.address c.args.length ≡ true = search rules in
    let limit : int_le (negsuc 0) c.args.timeout ≡ true = search rules in
    let allowed : allows c.args.base.now.flags c.args.who MayWait ≡ true = search rules in
    let k : MessageBuffer = c.in-Some-buffer.row.now in
    let there : buffer_at c.args.table.now c.in-Some.id ≡ Some k = search rules in
    let takes : takes_length (natural c.args.length) k ≡ false = search rules in
    send_wrong_length p c.args.who c.args.id c.args.address c.args.length c.args.timeout c.in-Some.id k known lies limit allowed there takes ∙ search rules

pub returns-clause-ok : goal.returns-clause-ok
returns-clause-ok c =
    let p : MailParts = parts_of c.args.base.now c.args.table.now c.args.memory.now in
    let known : cond (within 1 64 c.args.id) (Some (natural c.args.id)) None ≡ Some c.in-Some.id = search rules in
    let lies : is_inside c.args.address c.args.length ≡ true = search rules in
    let limit : int_le (negsuc 0) c.args.timeout ≡ true = search rules in
    let allowed : allows c.args.base.now.flags c.args.who MayWait ≡ true = search rules in
    let k : MessageBuffer = c.in-Some-buffer.row.now in
    let there : buffer_at c.args.table.now c.in-Some.id ≡ Some k = search rules in
    let takes : takes_length (natural c.args.length) k ≡ true = search rules in
    let is = sent_when p c.args.who c.args.id c.args.address c.args.length c.args.timeout c.in-Some.id k known lies limit allowed there takes in
    rw is (search rules)
