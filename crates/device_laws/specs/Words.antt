-- Words that the laws of devices speak in.
use Rattle.std.specs.Prelude.{◌≡◌, ℕ, Bool, false, Option, Some, None}
use Rattle.std.specs.Int.{is_negative}
use Rattle.tk_types.specs.declared.calls.DeviceCall.{DeviceCall}
use Rattle.tk_types.specs.declared.calls.DeviceCall.TheVariants as call
use Rattle.device_model.specs.declared.messages.Ending.{Ending}
use Rattle.device_model.specs.Devices.Endings.{DevParts}
use Rattle.device_model.specs.Devices.Servings.{serve_acceptances, serve_closes, serve_endings, serve_suspension}

-- a call that stays for its own request, made of an event buffer: it may answer an error of that request, which was accepted
abbrev pub may_answer_for_buffer : DeviceCall → Bool
may_answer_for_buffer (call.SreaDev descriptor start address size) = is_negative start
may_answer_for_buffer (call.SwriDev descriptor start address size) = is_negative start
may_answer_for_buffer _ = false

-- nobody can be served at any device or descriptor, nor at the suspension
pub record NobodyIsServed (p : DevParts) : Type 0 where
  pub acceptances : serve_acceptances p ≡ None
  pub endings : serve_endings p ≡ None
  pub closes : serve_closes p ≡ None
  pub suspension : serve_suspension p ≡ None

-- an ending with another number of messages that were taken, and other room behind its bytes
abbrev pub but_for : Ending → ℕ → ℕ → Ending
but_for ending taken room = record ending { taken = taken; bytes = record ending.bytes { room = room } }

-- it was expected, with no message taken, and with some room behind its bytes
abbrev pub WasExpected : Ending → Option Ending → Type 0
WasExpected ending is_expected = (room : ℕ) × (is_expected ≡ Some (but_for ending 0 room))
