-- What a turn takes of what is pending.
use Rattle.std.specs.Prelude.{ℕ}
use Rattle.machine_model.specs.declared.turns.Turn.{Turn}
use Rattle.machine_model.specs.declared.turns.Turn.TheVariants as turns

-- how many ticks a turn takes: its own, where it is a tick's
abbrev pub ticks_taken : Turn → ℕ
ticks_taken turns.Tick = 1
ticks_taken _ = 0
