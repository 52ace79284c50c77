-- What a start and a join do to the counts of a spawner.
use Rattle.std.specs.Prelude.{ℕ, ◌≡◌, ◌+◌, ◌-◌}
use Rattle.tk_ports.specs.Streams.{Rose}

-- a start that was answered with a driver
pub record HasStarted (starts starts_now running running_now : ℕ) : Type 0 where
  pub counted : Rose starts starts_now
  pub one_more : running_now ≡ running + 1

-- a start that was refused
pub record HasRefused (refusals refusals_now running running_now : ℕ) : Type 0 where
  pub counted : Rose refusals refusals_now
  pub same : running_now ≡ running
