-- That what lies in a message buffer takes no more than its size.
use Rattle.std.specs.Prelude.{ℕ, ◌≤◌, Option, Some, None}
use Rattle.object_model.specs.Mails.Tables.{MessageBuffer, Mails, buffer_at}
use Rattle.object_model.specs.Mails.Buffers.{space_taken}

abbrev pub HasRoom : Option MessageBuffer → Type 0
HasRoom None = Unit {0}
HasRoom (Some k) = space_taken k.messages ≤ k.size

-- so it is in each message buffer that there is
abbrev pub HaveRoom : Mails → Type 0
HaveRoom m = (id : ℕ) → HasRoom (buffer_at m id)
