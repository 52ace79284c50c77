-- What every event keeps holds in every state that a machine comes to, where it holds at the start.
use Rattle.std.proofs.Common.{◌≡◌, ℕ, ◌+◌, Bool, true, false, not, ◌&&◌, ◌||◌, List, [], ◌∷◌, Option, Some, None, refl, subst}
use Rattle.std.specs.Option.{option_map}
use Rattle.tk_types.specs.declared.run.Mode.{Mode}
use Rattle.tk_types.specs.declared.run.Mode.TheVariants as modes
use Rattle.tk_types.specs.declared.script.Script.{Script}
use Rattle.kernel_model.specs.Tasks.Base.{chosen}
use Rattle.kernel_model.specs.Tasks.Views.{is_current}
use Rattle.device_model.specs.declared.messages.Ending.{Ending}
use Rattle.device_model.specs.Devices.Endings.{DevParts, arrive}
use Rattle.device_model.specs.Devices.Handing.{any_given, any_queued}
use Rattle.machine_model.specs.States.Objects.{Parts, dev_parts, with_devices}
use Rattle.machine_model.specs.States.State.{State, parts_of, state_start, taken, with_parts}
use Rattle.machine_model.specs.Events.Follow.{delays, dispatched, turned}
use Rattle.machine_model.specs.Events.Arrivals.{after_arrival, arrived}
use Rattle.machine_model.specs.Runs.Step.{any_unfinished, counted, ended_or_went, handed_if, has_event, is_quiet, needed, needed_or, needed_sync, needs_if, step, step_if, with_first_handed, worked}
use Rattle.machine_model.specs.Runs.Trace.{start}
use Rattle.machine_model.specs.Runs.Reached.{Move, Steps, Arrives, after_move, after_offer, after_pace, state_after}
use Rattle.machine_lemmas.proofs.Walk.{Has, IsKept, IsSteady, kept_followed, kept_worked, of_kept}

-- ---- what holds of a state, of it after what is done at a step, and of it once a request was handed out in sync mode, holds
-- after a step, where it survives that messages to drivers are taken

-- what holds of a state holds of it once the messages to drivers are taken
abbrev pub SurvivesTaking : (State → Type 0) → Type 0
SurvivesTaking Q = (now : State) → Q now → Q (taken now)

abbrev Stepped : (State → Type 0) → Script → Mode → State → Type 0
Stepped Q script mode st = Q (record (worked script mode (st.steps + 1) st).state { steps = st.steps + 1 })

went_is : (Q : State → Type 0) → SurvivesTaking Q → (ends : Bool) (script : Script) (mode : Mode) (budget : ℕ) (st : State) → Q st → Stepped Q script mode st → Q (after_pace st (ended_or_went ends script mode budget st))
unfolding counted
went_is Q takes true script mode budget st has works = has
went_is Q takes false script mode budget st has works = takes _ works

needed_is : (Q : State → Type 0) → SurvivesTaking Q → (waiting : Option State) (event : Bool) (script : Script) (mode : Mode) (budget : ℕ) (st : State) → ((now : State) → waiting ≡ Some now → Q now) →
    Q st → Stepped Q script mode st → Q (after_pace st (needed_or waiting event script mode budget st))
needed_is Q takes (Some now) event script mode budget st waits has works = takes now (waits now refl)
needed_is Q takes None event script mode budget st waits has works = went_is Q takes (not event && not (any_unfinished st.objects.devices)) script mode budget st has works

needs_is : (Q : State → Type 0) (test : Bool) (st now : State) → Q st → needs_if test st ≡ Some now → Q now
needs_is Q true st now has is = let e : st ≡ now = cc is in subst Q e has
needs_is Q false st now has is = absurd (cc is)

handed_is : (Q : State → Type 0) (test : Bool) (st now : State) → Q (with_first_handed st) → handed_if test st ≡ Some now → Q now
handed_is Q true st now has is = let e : with_first_handed st ≡ now = cc is in subst Q e has
handed_is Q false st now has is = absurd (cc is)

sync_is : (Q : State → Type 0) (given : Bool) (st now : State) → Q st → Q (with_first_handed st) → needed_sync given st ≡ Some now → Q now
sync_is Q true st now has hands is = let e : st ≡ now = cc is in subst Q e has
sync_is Q false st now has hands is = handed_is Q (any_queued st.objects.devices) st now hands is

waiting_is : (Q : State → Type 0) (mode : Mode) (event : Bool) (st now : State) → Q st → (mode ≡ modes.Sync → Q (with_first_handed st)) → needed mode event st ≡ Some now → Q now
waiting_is Q modes.Sync event st now has hands is = sync_is Q (any_given st.objects.devices) st now has (hands refl) is
waiting_is Q modes.Free event st now has hands is = needs_is Q (not event && any_given st.objects.devices) st now has is

quiet_is : (Q : State → Type 0) → SurvivesTaking Q → (quiet : Bool) (script : Script) (mode : Mode) (budget : ℕ) (st : State) → Q st → (mode ≡ modes.Sync → Q (with_first_handed st)) → Stepped Q script mode st →
    Q (after_pace st (step_if quiet script mode budget st))
quiet_is Q takes true script mode budget st has hands works =
    let event : Bool = has_event script (st.steps + 1) st in
    needed_is Q takes (needed mode event st) event script mode budget st (λ now is. waiting_is Q mode event st now has hands is) has works
quiet_is Q takes false script mode budget st has hands works = went_is Q takes false script mode budget st has works

-- what holds in each of these cases holds after a step
pub step_is : (Q : State → Type 0) → SurvivesTaking Q → (script : Script) (mode : Mode) (budget : ℕ) (st : State) → Q st → (mode ≡ modes.Sync → Q (with_first_handed st)) →
    Q (record (worked script mode (st.steps + 1) st).state { steps = st.steps + 1 }) → Q (after_pace st (step script mode budget st))
unfolding step
step_is Q takes script mode budget st has hands works = quiet_is Q takes (is_quiet st) script mode budget st has hands works

-- what holds of a state, and after a step is done on it, holds after a step, also where nothing is done
pub step_has : (P : Parts → Type 0) → IsSteady P → (script : Script) (mode : Mode) (budget : ℕ) (st : State) → Has P st → Has P (worked script mode (st.steps + 1) st).state → Has P (after_pace st (step script mode budget st))
step_has P kept script mode budget st has works = step_is (Has P) (λ now. kept.messages (parts_of now)) script mode budget st has (λ sync. kept.handed_first (parts_of st) has) works

-- ---- one ending

offered : (P : Parts → Type 0) → SurvivesTaking (Has P) → (script : Script) (mode : Mode) (st : State) (e : Ending) (parts : Option DevParts) → arrive (dev_parts (parts_of st)) e ≡ parts → Has P st →
    ((q : DevParts) → arrive (dev_parts (parts_of st)) e ≡ Some q → Has P (after_arrival script mode (st.steps + 1) st e q).state) → Has P (after_offer st (option_map (after_arrival script mode (st.steps + 1) st e) parts))
offered P takes script mode st e None is has comes = has
offered P takes script mode st e (Some q) is has comes = takes (after_arrival script mode (st.steps + 1) st e q).state (comes q is)

-- what holds of a state, and after an ending has arrived in it, holds after an ending is offered, where it survives that
-- messages to drivers are taken
pub offer_has : (P : Parts → Type 0) → SurvivesTaking (Has P) → (script : Script) (mode : Mode) (st : State) (e : Ending) → Has P st →
    ((q : DevParts) → arrive (dev_parts (parts_of st)) e ≡ Some q → Has P (after_arrival script mode (st.steps + 1) st e q).state) → Has P (after_offer st (arrived script mode st e))
unfolding arrived
offer_has P takes script mode st e has comes = offered P takes script mode st e (arrive (dev_parts (parts_of st)) e) refl has comes

-- ---- all moves

pub kept_move : (P : Parts → Type 0) → IsSteady P → (script : Script) (mode : Mode) (budget : ℕ) (st : State) (move : Move) → Has P st → Has P (after_move script mode budget st move)
kept_move P kept script mode budget st Steps has = step_has P kept script mode budget st has (kept_worked P kept script mode (st.steps + 1) st has)
kept_move P kept script mode budget st (Arrives e) has =
    offer_has P (λ now. kept.messages (parts_of now)) script mode st e has
    (λ q is. kept_followed P kept script mode (st.steps + 1) (with_parts st (with_devices (parts_of st) q)) (kept.arrived (parts_of st) e q is has))

-- the start is that of the state, and the dispatch of its first task
turned_start : (P : Parts → Type 0) → ((p : Parts) (cur : Option ℕ) → P p → P (record p { base = record p.base { cur = cur } })) → (same : Bool) (n : ℕ) (st : State) → Has P st → Has P (turned same n st).state
turned_start P turns true n st has = has
turned_start P turns false n st has = turns (parts_of st) (Some (chosen st.base)) has

pub start_has : (P : Parts → Type 0) → ((p : Parts) (cur : Option ℕ) → P p → P (record p { base = record p.base { cur = cur } })) → (script : Script) → Has P (state_start script) → Has P (start script).state
unfolding start dispatched
start_has P turns script has = turned_start P turns (delays (state_start script) || is_current (chosen (state_start script).base) (state_start script).base.cur) 0 (state_start script) has

-- what every event keeps holds in every state that a machine comes to
pub reached_steady : (P : Parts → Type 0) → IsSteady P → (script : Script) (mode : Mode) (budget : ℕ) (moves : List Move) → Has P (state_start script) → Has P (state_after script mode budget moves)
unfolding state_after
reached_steady P kept script mode budget [] has = start_has P kept.turned script has
reached_steady P kept script mode budget (move ∷ before) has = kept_move P kept script mode budget (state_after script mode budget before) move (reached_steady P kept script mode budget before has)

-- so does what survives each change
pub reached_has : (P : Parts → Type 0) → IsKept P → (script : Script) (mode : Mode) (budget : ℕ) (moves : List Move) → Has P (state_start script) → Has P (state_after script mode budget moves)
reached_has P kept script mode budget moves has = reached_steady P (of_kept P kept) script mode budget moves has
