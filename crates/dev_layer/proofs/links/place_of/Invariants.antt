use Rattle.std.proofs.Common.{◌≡◌, ◌++◌, take, drop}
use Rattle.device_model.specs.declared.messages.Message.{Message}
use Rattle.dev_layer.specs.Messages.{put_out, receiver}
use Rattle.dev_layer.proofs.links.place_of.Given as goal

-- what comes of the messages from here on, behind those that were passed, is what comes of all
abbrev pub invariant-messages : goal.invariant-messages
invariant-messages l = (m : Message) → receiver m ≡ l.device → take l.place l.out ++ put_out m (drop l.place l.out) ≡ put_out m l.out
