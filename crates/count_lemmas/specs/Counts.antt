-- How much is made by a step, and by all steps of a run.
use Rattle.std.specs.Prelude.{ℕ, ◌+◌, ◌*◌, ◌≡◌, ◌≤◌, length}
use Rattle.kernel_model.specs.Tasks.Base.{Base}
use Rattle.machine_model.specs.States.State.{State}

-- from one base to a later one at most so many events are made, the list of what is set grows by at most so many, and so
-- many ticks pass
pub record Makes (most longer ticks : ℕ) (before after : Base) : Type 0 where
  pub made : after.made ≤ before.made + most
  pub events : length after.events ≤ length before.events + longer
  pub time : after.time ≡ before.time + ticks

-- in a run no more ticks passed and no more are pending than steps are done, no more events are set, and a step makes no more
-- than a million of them, which is the most steps of a run
pub record IsCounted (st : State) : Type 0 where
  pub time : st.base.time ≤ st.steps
  pub ticks : st.ticks ≤ st.steps
  pub events : length st.base.events ≤ st.steps
  pub made : st.base.made ≤ 1000000 * st.steps
