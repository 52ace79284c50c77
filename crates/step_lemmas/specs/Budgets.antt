-- What holds of a machine between its calls.
use Rattle.std.specs.Prelude.{ℕ, ◌≡◌, ◌<◌, ◌≤◌, Bool, false, Option, None}
use Rattle.tk_types.specs.declared.run.End.{End}
use Rattle.tk_types.specs.declared.run.Mode.{Mode}
use Rattle.tk_types.specs.declared.script.Script.{Script}
use Rattle.kernel_model.specs.Bodies.Statements.{IsRunnable}
use Rattle.count_lemmas.specs.Counts.{IsCounted}
use Rattle.machine_model.specs.States.State.{State}
use Rattle.machine_model.specs.Events.Rest.{IsAtRest}
use Rattle.step_lemmas.specs.Sound.{IsSound}

-- a script that can be run; while the run goes on, a step of the budget is left, no count passes what so many steps can make, each task that waits
-- stands in its queue and has asked for something that fits, and nothing follows any more from what was done
pub record IsGoing (script : Script) (mode : Mode) (budget : ℕ) (state : State) (over : Option End) (failed : Bool) : Type 0 where
  pub runnable : IsRunnable script
  pub limit : budget ≤ 1000000
  pub left : failed ≡ false → over ≡ None → state.steps < budget
  pub counts : failed ≡ false → over ≡ None → IsCounted state
  pub sound : failed ≡ false → over ≡ None → IsSound state.base state.objects
  pub rest : failed ≡ false → over ≡ None → IsAtRest mode state
