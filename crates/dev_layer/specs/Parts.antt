-- Base, mailboxes and message buffers, and the script's memory beside the table, as parts of one state, and what the crate asks of
-- the base.
use Rattle.std.specs.Prelude.{ℕ, ◌≤◌, List}
use Rattle.tk_types.specs.declared.answer.Outcome.{Outcome}
use Rattle.tk_types.specs.declared.calls.DeviceCall.{DeviceCall}
use Rattle.tk_types.specs.declared.calls.DeviceCall.TheVariants as call
use Rattle.tk_types.specs.declared.task.Order.TheVariants.{Fifo}
use Rattle.kernel_model.specs.Tasks.Base.{Base}
use Rattle.kernel_model.specs.Tasks.Queues.{AreOfOrder}
use Rattle.object_model.specs.Mails.Tables.{Mails}
use Rattle.mail_buffer.specs.Parts.{AreQueued as MailsQueued, HaveAsked}
use Rattle.device_model.specs.Devices.Tables.{Devices}
use Rattle.device_model.specs.Devices.Endings.{DevParts}
use Rattle.device_model.specs.Devices.Calls.{DevDone}

abbrev pub parts_of : Base → Devices → Mails → List ℕ → DevParts
parts_of b dv mails memory = record { base = b; table = dv; mails = mails; memory = memory }

-- what a call leaves of a state, and its outcome
abbrev pub left_with : DevParts → Outcome → DevDone
left_with p outcome = record { parts = p; outcome = outcome }

-- those that wait for a device, for a descriptor or for a suspension queue in the order in which they began to wait
pub record AreQueued (b : Base) : Type 0 where
  pub waiters : (object : ℕ) → 576 ≤ object → object ≤ 648 → AreOfOrder Fifo b object

-- what sending to message buffers asks of base and buffers
pub record AreFit (b : Base) (m : Mails) : Type 0 where
  pub queued : MailsQueued b m
  pub asked : HaveAsked b m

-- the calls that take memory of the host
abbrev pub TakesMemory : DeviceCall → Type 0
TakesMemory (call.ReaDev descriptor start address size timeout) = Unit {0}
TakesMemory (call.WriDev descriptor start address size timeout) = Unit {0}
TakesMemory (call.SreaDev descriptor start address size) = Unit {0}
TakesMemory (call.SwriDev descriptor start address size) = Unit {0}
TakesMemory (call.ClsDev descriptor) = Unit {0}
TakesMemory _ = ⊥
