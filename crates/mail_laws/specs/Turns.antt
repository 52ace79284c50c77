-- In which order the messages of a mailbox go.
use Rattle.std.specs.Prelude.{ℕ, ◌≡◌, Bool, true, false, int_lt, ℤ, List, [], ◌∷◌, Option, Some, None}
use Rattle.object_model.specs.declared.mails.Message.{Message}
use Rattle.object_model.specs.Mails.Tables.{Mailbox, Mails, box_at}

-- no message of a list goes before one of that priority
abbrev pub NoneBefore : ℤ → List Message → Type 0
NoneBefore priority [] = Unit {0}
NoneBefore priority (message ∷ messages) = (int_lt message.priority priority ≡ false) × NoneBefore priority messages

-- no message of a list stands behind one of a lower priority
abbrev pub StandByPriority : List Message → Type 0
StandByPriority [] = Unit {0}
StandByPriority (message ∷ messages) = NoneBefore message.priority messages × StandByPriority messages

abbrev pub StandIf : Bool → List Message → Type 0
StandIf true messages = StandByPriority messages
StandIf false messages = Unit {0}

abbrev pub IsInTurn : Option Mailbox → Type 0
IsInTurn None = Unit {0}
IsInTurn (Some k) = StandIf k.by_priority k.messages

-- in each mailbox that orders its messages by priority they stand so
abbrev pub AreInTurn : Mails → Type 0
AreInTurn m = (id : ℕ) → IsInTurn (box_at m id)
