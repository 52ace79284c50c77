-- Words on ticks: a state some ticks later, and the wait for the acceptance of a request that became one for its ending.
use Rattle.std.specs.Prelude.{◌≡◌, ℕ, zero, suc, ◌≤◌, true, None}
use Rattle.tk_types.specs.declared.run.Mode.{Mode}
use Rattle.kernel_model.specs.Words.Events.{limit_of}
use Rattle.kernel_model.specs.Tasks.Base.{Base, waits_for}
use Rattle.device_model.specs.Devices.Requests.{acceptance_object, ending_object}
use Rattle.machine_model.specs.States.State.{State}
use Rattle.machine_model.specs.Events.Ticks.{tick_state}

-- the state so many ticks later, where nothing else is done meanwhile
abbrev pub after_ticks : Mode → ℕ → State → State
after_ticks mode zero st = st
after_ticks mode (suc n) st = tick_state mode (after_ticks mode n st)

-- a task waited for the acceptance of a request by one of the eight devices, and waits for its ending now, without a limit
pub record HasMoved (before now : Base) (t : ℕ) : Type 0 where
  pub accepting : (d : ℕ) × ((1 ≤ d) × ((d ≤ 8) × (waits_for before (acceptance_object d) t ≡ true)))
  pub ending : (dd : ℕ) × (waits_for now (ending_object dd) t ≡ true)
  pub unlimited : limit_of t now.events ≡ None
