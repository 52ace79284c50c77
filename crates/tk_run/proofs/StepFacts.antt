-- How many steps a state has that needs an ending, and one at which an ending arrived.
use Rattle.std.proofs.Common.{◌≡◌, ℕ, ◌+◌, ◌<◌, Bool, true, false, Option, Some, None, refl, sym, ap, subst}
use Rattle.std.specs.Option.{option_map}
use Rattle.tk_types.specs.declared.run.End.{End}
use Rattle.tk_types.specs.declared.run.Mode.{Mode}
use Rattle.tk_types.specs.declared.run.Mode.TheVariants as modes
use Rattle.tk_types.specs.declared.script.Script.{Script}
use Rattle.device_model.specs.declared.messages.Ending.{Ending}
use Rattle.device_model.specs.Devices.Endings.{DevParts, arrive}
use Rattle.device_model.specs.Devices.Handing.{any_given, any_queued}
use Rattle.machine_model.specs.States.Objects.{dev_parts, with_devices}
use Rattle.machine_model.specs.States.State.{State, parts_of, with_parts}
use Rattle.machine_model.specs.Events.Follow.{Event}
use Rattle.machine_model.specs.Events.Arrivals.{after_arrival, arrived}
use Rattle.machine_model.specs.Runs.Step.{Needs, counted, ended_or_went, handed_if, has_event, is_quiet, needed, needed_or, needed_sync, needs_if, step, step_if}
use Rattle.count_lemmas.proofs.Runs.{followed_steps}

-- ---- a state that needs an ending has as many steps

handed_steps : (queued : Bool) (st now : State) → handed_if queued st ≡ Some now → now.steps ≡ st.steps
handed_steps true st now is = ap (λ (o : Option State). elim o as (λ _. ℕ) [ Some s ↦ s.steps | None ↦ 0 ]) (sym is)
handed_steps false st now is = absurd (cc)

sync_steps : (given : Bool) (st now : State) → needed_sync given st ≡ Some now → now.steps ≡ st.steps
sync_steps true st now is = ap (λ (o : Option State). elim o as (λ _. ℕ) [ Some s ↦ s.steps | None ↦ 0 ]) (sym is)
sync_steps false st now is = handed_steps (any_queued st.objects.devices) st now is

free_steps : (needs : Bool) (st now : State) → needs_if needs st ≡ Some now → now.steps ≡ st.steps
free_steps true st now is = ap (λ (o : Option State). elim o as (λ _. ℕ) [ Some s ↦ s.steps | None ↦ 0 ]) (sym is)
free_steps false st now is = absurd (cc)

needed_steps : (mode : Mode) (event : Bool) (st now : State) → needed mode event st ≡ Some now → now.steps ≡ st.steps
needed_steps modes.Free event st now is = free_steps _ st now is
needed_steps modes.Sync event st now is = sync_steps (any_given st.objects.devices) st now is

never_needs : {A : Type 0} (over : Bool) (script : Script) (mode : Mode) (budget : ℕ) (st now : State) → ended_or_went over script mode budget st ≡ Needs now → A
unfolding counted
never_needs true script mode budget st now is = absurd (cc)
never_needs false script mode budget st now is = absurd (cc)

needed_by : (found : Option State) (event : Bool) (script : Script) (mode : Mode) (budget : ℕ) (st now : State) → needed mode event st ≡ found → needed_or found event script mode budget st ≡ Needs now → now.steps ≡ st.steps
needed_by (Some waiting) event script mode budget st now found is =
    let same : waiting ≡ now = cc in subst (λ (s : State). s.steps ≡ st.steps) same (needed_steps mode event st waiting found)
needed_by None event script mode budget st now found is = never_needs _ script mode budget st now is

quiet_steps : (quiet : Bool) (script : Script) (mode : Mode) (budget : ℕ) (st now : State) → step_if quiet script mode budget st ≡ Needs now → now.steps ≡ st.steps
unfolding counted
quiet_steps true script mode budget st now is =
    let event : Bool = has_event script (st.steps + 1) st in needed_by (needed mode event st) event script mode budget st now refl is
quiet_steps false script mode budget st now is = absurd (cc)

pub needs_steps : (script : Script) (mode : Mode) (budget : ℕ) (st waiting : State) → step script mode budget st ≡ Needs waiting → waiting.steps ≡ st.steps
unfolding step
needs_steps script mode budget st waiting is = quiet_steps (is_quiet st) script mode budget st waiting is

-- ---- so has one at which an ending arrives

arrival_steps : (script : Script) (mode : Mode) (st : State) (e : Ending) (event : Event) (left : Option DevParts) → option_map (after_arrival script mode (st.steps + 1) st e) left ≡ Some event → event.state.steps ≡ st.steps
arrival_steps script mode st e event None comes = absurd (cc comes)
arrival_steps script mode st e event (Some q) comes =
    let one : after_arrival script mode (st.steps + 1) st e q ≡ event = cc comes in
    subst (λ (it : Event). it.state.steps ≡ st.steps) one (followed_steps script mode (st.steps + 1) (with_parts st (with_devices (parts_of st) q)))

pub arrived_steps : (script : Script) (mode : Mode) (st : State) (e : Ending) (event : Event) → arrived script mode st e ≡ Some event → event.state.steps ≡ st.steps
unfolding arrived
arrived_steps script mode st e event comes = arrival_steps script mode st e event (arrive (dev_parts (parts_of st)) e) comes
