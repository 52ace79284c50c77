-- How those queue that wait for devices.
use Rattle.std.specs.Prelude.{ℕ, nat_le, ◌&&◌, if◌then◌else◌, Option, Some, None}
use Rattle.tk_types.specs.declared.task.Order.{Order}
use Rattle.tk_types.specs.declared.task.Order.TheVariants.{Fifo}

-- in the order in which they began to wait, for an acceptance, an ending, a close or the suspension, whether the descriptor
-- is taken or not
abbrev pub device_order : ℕ → Option Order
device_order object = if nat_le 576 object && nat_le object 648 then Some Fifo else None
