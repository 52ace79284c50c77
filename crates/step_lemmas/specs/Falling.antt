-- An event that fell due, once a cyclic handler is due again.
use Rattle.std.specs.Prelude.{[], ◌∷◌, ◌++◌}
use Rattle.tk_types.specs.declared.run.Mode.{Mode}
use Rattle.tk_types.specs.declared.task.Event.{Event as DueKind}
use Rattle.tk_types.specs.declared.task.Event.TheVariants as dues
use Rattle.kernel_model.specs.Tasks.Base.{release}
use Rattle.machine_model.specs.States.State.{State}
use Rattle.machine_model.specs.Events.Follow.{settled}
use Rattle.machine_model.specs.Events.Ticks.{limit_answer}

-- a handler joins those that wait to start, and settling follows the end of a wait
abbrev pub fell_due : Mode → State → DueKind → State
fell_due mode st (dues.Wait t) = settled mode (record st { base = release st.base t (limit_answer st.base t) })
fell_due mode st (dues.Cyclic id) = record st { due = st.due ++ dues.Cyclic id ∷ [] }
fell_due mode st (dues.Alarm id) = record st { due = st.due ++ dues.Alarm id ∷ [] }
