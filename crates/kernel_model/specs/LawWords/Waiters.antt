-- How many tasks wait.
use Rattle.std.specs.Prelude.{ℕ, count_by}
use Rattle.kernel_model.specs.Tasks.Base.{Base, waits_somewhere}

abbrev pub waiting_count : Base → ℕ
waiting_count b = count_by waits_somewhere b.tasks
