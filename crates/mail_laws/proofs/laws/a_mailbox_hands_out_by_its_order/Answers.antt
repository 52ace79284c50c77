use Rattle.mail_laws.proofs.laws.a_mailbox_hands_out_by_its_order.Goals as goal
use Rattle.std.proofs.Common.{Bool, cond, [], ◌∷◌, ◌++◌, ap}
use Rattle.object_model.specs.Mails.Boxes.{by_priority}
use Rattle.mail_laws.specs.Turns.{AreInTurn}
use Rattle.mail_laws.proofs.Keeps.{call_keeps, boxes_keep, buffers_keep, post_keeps}
use Rattle.mail_laws.proofs.Turns.{turns_kept, start_turns, placed_stand, equals_behind}

pub returns-clause-placed : goal.returns-clause-placed
returns-clause-placed c = placed_stand

pub returns-clause-equals : goal.returns-clause-equals
returns-clause-equals c = equals_behind

pub returns-clause-behind : goal.returns-clause-behind
returns-clause-behind c = λ k message plain. ap (λ (ordered : Bool). cond ordered (by_priority message k.messages) (k.messages ++ message ∷ [])) plain

pub returns-clause-start : goal.returns-clause-start
returns-clause-start c = start_turns

pub returns-clause-call : goal.returns-clause-call
returns-clause-call c = call_keeps AreInTurn turns_kept

pub returns-clause-boxes : goal.returns-clause-boxes
returns-clause-boxes c = boxes_keep AreInTurn turns_kept

pub returns-clause-buffers : goal.returns-clause-buffers
returns-clause-buffers c = buffers_keep AreInTurn turns_kept

pub returns-clause-post : goal.returns-clause-post
returns-clause-post c = post_keeps AreInTurn turns_kept
