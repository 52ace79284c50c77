-- How the waiters of a mailbox, and the senders and receivers of a message buffer, queue.
use Rattle.std.specs.Prelude.{ℕ, ◌-◌, nat_le, nat_lt, ◌&&◌, if◌then◌else◌, Option, None}
use Rattle.std.specs.Option.{option_map}
use Rattle.tk_types.specs.declared.task.Order.{Order}
use Rattle.tk_types.specs.declared.task.Order.TheVariants.{Fifo}
use Rattle.object_model.specs.Mails.Tables.{Mails, box_at, buffer_at}

-- how the waiters of a mailbox or a message buffer queue, where there is that object: as its attributes say, but
-- receivers of a buffer in the order in which they began to wait
abbrev pub mail_order : Mails → ℕ → Option Order
mail_order m object =
    if nat_le 192 object && nat_lt object 256 then option_map (λ k. k.order) (box_at m (object - 191))
    else (if nat_le 320 object && nat_lt object 384 then option_map (λ k. k.order) (buffer_at m (object - 319))
    else (if nat_le 384 object && nat_lt object 448 then option_map (λ k. Fifo) (buffer_at m (object - 383)) else None))
