-- What it means that nothing follows from a state: it has settled, no end of a wait is left to take, and the chosen task is
-- the current one, or dispatching is delayed.
use Rattle.std.specs.Prelude.{ℕ, ◌≡◌, ◌≤◌, ◌||◌, true, [], None}
use Rattle.tk_types.specs.declared.run.Mode.{Mode}
use Rattle.kernel_model.specs.Tasks.Base.{Base, chosen, current}
use Rattle.kernel_model.specs.Tasks.Views.{is_current}
use Rattle.object_model.specs.Mutexes.Tables.{Mutexes}
use Rattle.object_model.specs.Mutexes.Priority.{current_of}
use Rattle.machine_model.specs.States.Objects.{serve_object}
use Rattle.machine_model.specs.States.State.{State, parts_of}
use Rattle.machine_model.specs.Events.Settle.{handed}
use Rattle.machine_model.specs.Events.Follow.{delays}

-- each task's current priority is that of its definition
pub record AreUpToDate (b : Base) (m : Mutexes) : Type 0 where
  pub each : (t : ℕ) → 1 ≤ t → current b t ≡ current_of b m t

pub record IsAtRest (mode : Mode) (st : State) : Type 0 where
  pub unserved : serve_object (parts_of st) ≡ None
  pub up_to_date : AreUpToDate st.base st.objects.mutexes
  pub given : handed mode (parts_of st) ≡ parts_of st
  pub followed : st.base.released ≡ []
  pub dispatched : (delays st || is_current (chosen st.base) st.base.cur) ≡ true
