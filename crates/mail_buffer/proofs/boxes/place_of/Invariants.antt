use Rattle.std.proofs.Common.{◌≡◌, ◌++◌, take, drop}
use Rattle.object_model.specs.Mails.Boxes.{by_priority}
use Rattle.mail_buffer.proofs.boxes.place_of.Given as goal

-- what comes of the messages from here on, behind those that were passed, is what comes of all
abbrev pub invariant-messages : goal.invariant-messages
invariant-messages l = take l.place l.messages.items ++ by_priority l.message (drop l.place l.messages.items) ≡ by_priority l.message l.messages.items
