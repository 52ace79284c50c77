-- A task that ended frees the mutex that it locked last.
use Rattle.std.specs.Prelude.{ℕ, unwrap_or}
use Rattle.std.specs.Option.{option_map}
use Rattle.object_model.specs.Mutexes.Tables.{free_last}
use Rattle.machine_model.specs.States.State.{State, parts_of, with_parts}
use Rattle.machine_model.specs.Events.Settle.{with_freed}

-- the state after one freeing, or as it was where the task holds no mutex
abbrev pub freed_by : ℕ → State → State
freed_by t st = with_parts st (unwrap_or (option_map (with_freed (parts_of st)) (free_last st.base st.objects.mutexes t)) (parts_of st))
