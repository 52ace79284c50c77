-- Words that the laws of drivers speak in.
use Rattle.std.specs.Prelude.{◌≡◌, ℕ, Bool, true, false, List, [], ◌∷◌, ◌++◌}
use Rattle.tk_types.specs.declared.line.How.{How}
use Rattle.tk_types.specs.declared.line.How.TheVariants.{Cut, Done}
use Rattle.device_model.specs.declared.messages.Message.{Message}
use Rattle.device_model.specs.declared.messages.Message.TheVariants as message

-- the last of these messages is a Stop
pub record EndsWithStop (messages : List Message) : Type 0 where
  pub front : List Message
  pub device : ℕ
  pub is : messages ≡ front ++ message.Stop device ∷ []

-- the Abort of the request with a number is one of these messages
pub record HasTaken (number : ℕ) (messages : List Message) : Type 0 where
  pub front : List Message
  pub device : ℕ
  pub later : List Message
  pub is : messages ≡ front ++ (message.Abort device number ∷ later)

abbrev pub is_cut : How → Bool
is_cut (Cut count) = true
is_cut Done = false
