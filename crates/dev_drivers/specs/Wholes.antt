-- Messages whose requests are whole, said by tests.
use Rattle.std.specs.Prelude.{ℕ, ◌≡◌, ◌==◌, ◌&&◌, Bool, true, nat_le, if◌then◌else◌, List, [], ◌∷◌, length}
use Rattle.device_model.specs.declared.messages.Message.{Message}
use Rattle.device_model.specs.declared.messages.Message.TheVariants as message
use Rattle.device_model.specs.declared.messages.Request.{Request}
use Rattle.device_model.specs.Units.Function.{IsWhole}

-- a write has as many bytes as its size, and a read has none, with room for so many
abbrev pub has_all : Request → Bool
has_all request =
    if request.write
    then length request.bytes.items == request.size
    else length request.bytes.items == 0 && nat_le request.size request.bytes.room

abbrev pub is_whole : Message → Bool
is_whole (message.Serve device request) = has_all request
is_whole (message.Abort device number) = true
is_whole (message.Stop device) = true

-- the request of a Serve is whole
abbrev pub HasWhole : Message → Type 0
HasWhole (message.Serve device request) = IsWhole request
HasWhole (message.Abort device number) = Unit {0}
HasWhole (message.Stop device) = Unit {0}

abbrev pub all_whole : List Message → Bool
all_whole [] = true
all_whole (m ∷ messages) = is_whole m && all_whole messages
