-- What holds of each state that a run has come to: its messages were taken, and a step of the budget is left.
use Rattle.std.proofs.Common.{◌≡◌, ℕ, ◌≤◌, ◌<◌, Bool, true, false, List, [], ◌∷◌, Some, refl, ◌∙◌, ap, sym, arith}
use Rattle.std.specs.Prelude.{map, ◌||◌}
use Rattle.tk_types.specs.declared.run.Mode.{Mode}
use Rattle.tk_types.specs.declared.script.Device.{Device}
use Rattle.tk_types.specs.declared.script.Script.{Script}
use Rattle.kernel_model.specs.Tasks.Base.{chosen}
use Rattle.kernel_model.specs.Tasks.Views.{is_current}
use Rattle.device_model.specs.declared.messages.Ending.{Ending}
use Rattle.device_model.specs.declared.messages.Message.{Message}
use Rattle.device_model.specs.Devices.Handing.{messages, out_of}
use Rattle.device_model.specs.Devices.Tables.{devices_start, link_start}
use Rattle.machine_model.specs.States.State.{State, state_start, taken}
use Rattle.machine_model.specs.Events.Arrivals.{arrived}
use Rattle.machine_model.specs.Events.Follow.{Event, delays, dispatched, turned}
use Rattle.machine_model.specs.Runs.Trace.{start}
use Rattle.count_lemmas.proofs.Steps.{start_unstepped, step_left}
use Rattle.device_lemmas.proofs.Emptied.{emptied_out}
use Rattle.journal_laws.proofs.Paces.{arrived_fed}
use Rattle.machine_lemmas.proofs.Taken.{taken_none, taken_twice}
use Rattle.run_model.specs.Passings.{Gives, gives}
use Rattle.run_model.specs.SoFar.{IsSoFar, SoFar, begins, goes_on, needs, takes_in}
use Rattle.run_lemmas.proofs.Needing.{needs_steps}

-- ---- messages

devices_out : (devices : List Device) → out_of (map link_start devices) ≡ []
devices_out [] = refl
devices_out (device ∷ devices) = devices_out devices

turned_out : (script : Script) (same : Bool) → messages (turned same 0 (state_start script)).state.objects.devices ≡ []
unfolding state_start devices_start messages
turned_out script true = devices_out script.devices
turned_out script false = devices_out script.devices

-- at the start there is no message
pub start_out : (script : Script) → messages (start script).state.objects.devices ≡ []
unfolding start dispatched
start_out script = let first : State = state_start script in turned_out script (delays first || is_current (chosen first.base) first.base.cur)

-- a run that goes on has no message to give
pub none_waits : (script : Script) (mode : Mode) (budget : ℕ) (so : SoFar) → IsSoFar script mode budget so → taken so.state ≡ so.state
none_waits script mode budget _ begins = taken_none (start script).state (start_out script)
none_waits script mode budget _ (goes_on {event = event} is went) = taken_twice event.state
none_waits script mode budget _ (needs {waiting = waiting} is needed) = taken_twice waiting
none_waits script mode budget _ (takes_in {event = event} is may named comes) = taken_twice event.state

-- so nothing passes
pub none_given : (st : State) → taken st ≡ st → gives st ≡ []
none_given st none = ap (λ (now : State). gives now) (sym none) ∙ ap (λ (out : List Message). map Gives out) (emptied_out st.objects.devices)

-- ---- steps

-- an ending that arrives is no step
pub arrived_steps : (script : Script) (mode : Mode) (st : State) (e : Ending) (event : Event) → arrived script mode st e ≡ Some event → event.state.steps ≡ st.steps
arrived_steps script mode st e event comes = (arrived_fed script mode st e event comes).steps

-- a run that goes on has a step of its budget left
pub steps_left : (script : Script) (mode : Mode) (budget : ℕ) (so : SoFar) → 1 ≤ budget → IsSoFar script mode budget so → so.state.steps < budget
steps_left script mode budget _ least begins = let none = start_unstepped script in omega (arith, none, least)
steps_left script mode budget _ least (goes_on {so = so} {event = event} is went) = step_left script mode budget so.state (steps_left script mode budget so least is) event went
steps_left script mode budget _ least (needs {so = so} {waiting = waiting} is needed) =
    let before = steps_left script mode budget so least is in let same = needs_steps script mode budget so.state waiting needed in omega (arith, before, same)
steps_left script mode budget _ least (takes_in {so = so} {named = named} {event = event} is may at comes) =
    let before = steps_left script mode budget so least is in let same = arrived_steps script mode so.state named event comes in omega (arith, before, same)
