-- What holds of the table at every time.
use Rattle.std.specs.Prelude.{ℕ, ◌≡◌, ◌<◌, ◌^◌, List, Option, None, length}
use Rattle.kernel_model.specs.Words.Orders.{entry}
use Rattle.context_model.specs.declared.cyclic_row.CyclicRow.{CyclicRow}
use Rattle.context_model.specs.Clocks.Phases.{IsPeriodic}

-- a slot for each ID, of which no handler has 0; each cyclic handler has a period; and the system time was set to what a
-- call can say, a high half of 31 bits and a low one of 32
pub record AreClocks (cyclics : List (Option CyclicRow)) (alarms : List (Option ℕ)) (set_to : ℕ) : Type 0 where
  pub all_cyclics : length cyclics ≡ 65
  pub all_alarms : length alarms ≡ 65
  pub nameless : entry cyclics 0 ≡ None
  pub periodic : (id : ℕ) → IsPeriodic (entry cyclics id)
  pub early : set_to < 2 ^ 63
