-- Whoever waits has asked for something that fits.
use Rattle.std.specs.Prelude.{ℕ, ◌≡◌, ◌≤◌, ◌<◌, length, true, Some}
use Rattle.kernel_model.specs.Tasks.Base.{Base, waits_for}
use Rattle.object_model.specs.Mails.Tables.{MessageBuffer, buffer_at, bytes_of, place_of, receivers_object, senders_object}
use Rattle.object_model.specs.Mails.Buffers.{takes_length}
use Rattle.object_model.specs.Mails.Calls.{has_place}
use Rattle.object_model.specs.Pools.Tables.{size_of, variable_object}
use Rattle.machine_model.specs.States.Objects.{Objects}

-- whoever waits as a sender of a message buffer sends as many bytes as it takes, whoever waits as a receiver has a place for its
-- longest message, and whoever waits for a variable pool asked for some bytes
pub record HaveAsked (b : Base) (o : Objects) : Type 0 where
  pub senders : (id t : ℕ) (k : MessageBuffer) → 1 ≤ id → id ≤ 64 → buffer_at o.mails id ≡ Some k → waits_for b (senders_object id) t ≡ true →
      takes_length (length (bytes_of o.mails t)) k ≡ true
  pub receivers : (id t : ℕ) (k : MessageBuffer) → 1 ≤ id → id ≤ 64 → buffer_at o.mails id ≡ Some k → waits_for b (receivers_object id) t ≡ true →
      has_place (place_of o.mails t) k ≡ true
  pub sizes : (id t : ℕ) → 1 ≤ id → id ≤ 64 → waits_for b (variable_object id) t ≡ true → 0 < size_of o.pools t
