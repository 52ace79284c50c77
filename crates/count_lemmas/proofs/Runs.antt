-- What comes between the steps of a run keeps its counts: a machine that needs an ending, and an ending that arrives.
use Rattle.std.proofs.Common.{◌≡◌, ℕ, ◌+◌, ◌*◌, ◌^◌, ◌≤◌, ◌<◌, Bool, true, false, List, [], ◌∷◌, length, Option, Some, None, refl, ◌∙◌, subst, sym, arith}
use Rattle.std.specs.Prelude.{not, ◌&&◌}
use Rattle.std.specs.Option.{option_map}
use Rattle.tk_types.specs.declared.run.Mode.{Mode}
use Rattle.tk_types.specs.declared.run.Mode.TheVariants as modes
use Rattle.tk_types.specs.declared.script.Script.{Script}
use Rattle.tk_types.specs.declared.task.Release.{Release}
use Rattle.device_model.specs.declared.messages.Ending.{Ending}
use Rattle.device_model.specs.Devices.Endings.{DevParts, arrive}
use Rattle.device_model.specs.Devices.Handing.{any_given, any_queued}
use Rattle.machine_model.specs.States.Objects.{dev_parts, with_devices}
use Rattle.machine_model.specs.States.State.{State, parts_of, taken, with_parts}
use Rattle.machine_model.specs.Events.Follow.{Event, dispatched, follow_each, follow_release, followed, settled, turned, with_releases}
use Rattle.machine_model.specs.Events.Arrivals.{after_arrival, arrived}
use Rattle.machine_model.specs.Runs.Step.{Needs, any_unfinished, counted, ended_or_went, handed_if, has_event, is_quiet, needed, needed_or, needed_sync, needs_if, step, step_if, with_first_handed}
use Rattle.call_walk.proofs.DeviceCalls.{arrive_base}
use Rattle.count_lemmas.specs.Counts.{IsCounted}
use Rattle.count_lemmas.proofs.Few.{Few, few_quiet}
use Rattle.count_lemmas.proofs.Events.{followed_on}

-- ---- what follows an event is no step

each_steps : (script : Script) (n : ℕ) (st : State) (released : List Release) → (follow_each script n st released).state.steps ≡ st.steps
unfolding follow_each follow_release
each_steps script n st [] = refl
each_steps script n st (ended ∷ rest) = each_steps script n (follow_release script n st ended).state rest

turned_steps : (same : Bool) (n : ℕ) (st : State) → (turned same n st).state.steps ≡ st.steps
turned_steps true n st = refl
turned_steps false n st = refl

pub followed_steps : (script : Script) (mode : Mode) (n : ℕ) (st : State) → (followed script mode n st).state.steps ≡ st.steps
unfolding followed with_releases dispatched
followed_steps script mode n st =
    let now : State = settled mode st in
    turned_steps _ n (with_releases script n now).state ∙ each_steps script n (record now { base = record now.base { released = [] } }) now.base.released

pub followed_counted : (script : Script) (mode : Mode) (n : ℕ) (st : State) → IsCounted st → IsCounted (followed script mode n st).state
followed_counted script mode n st is =
    let T : ℕ → Type 0 = λ now. now ≤ st.steps in
    let after = followed_on (Few (1000000 * st.steps) st.steps T) (few_quiet (1000000 * st.steps) st.steps T) st.steps script mode n st ((is.made, is.events, is.time), is.ticks) in
    let same = followed_steps script mode n st in
    record {
      time = omega (arith, after.0.2, same);
      ticks = omega (arith, after.1, same);
      events = omega (arith, after.0.1, same);
      made = omega (arith, after.0.0, same);
    }

-- ---- arrivals

arrival_of : (script : Script) (mode : Mode) (st : State) (e : Ending) (event : Event) (left : Option DevParts) → arrive (dev_parts (parts_of st)) e ≡ left → IsCounted st → option_map (after_arrival script mode (st.steps + 1) st e) left ≡ Some event →
    IsCounted event.state × (event.state.steps ≡ st.steps)
arrival_of script mode st e event None at is comes = absurd (cc comes)
arrival_of script mode st e event (Some q) at is comes =
    let before : State = with_parts st (with_devices (parts_of st) q) in
    let one : after_arrival script mode (st.steps + 1) st e q ≡ event = cc comes in
    let same : q.base ≡ st.base = arrive_base (dev_parts (parts_of st)) q e at in
    let counts : IsCounted before = subst (λ base. IsCounted (record before { base = base })) (sym same) (record { time = is.time; ticks = is.ticks; events = is.events; made = is.made }) in (
      subst (λ (it : Event). IsCounted it.state) one (followed_counted script mode (st.steps + 1) before counts),
      subst (λ (it : Event). it.state.steps ≡ st.steps) one (followed_steps script mode (st.steps + 1) before),
    )

-- an ending that arrives keeps the counts, and is no step
pub arrived_counted : (script : Script) (mode : Mode) (st : State) (e : Ending) (event : Event) → IsCounted st → arrived script mode st e ≡ Some event → IsCounted event.state × (event.state.steps ≡ st.steps)
unfolding arrived
arrived_counted script mode st e event is comes = arrival_of script mode st e event (arrive (dev_parts (parts_of st)) e) refl is comes

-- ---- a machine that needs an ending

-- the counts hold of it, and no step is done
abbrev Waits : State → State → Type 0
Waits st now = IsCounted now × (now.steps ≡ st.steps)

handed_counted : (st : State) → IsCounted st → Waits st (with_first_handed st)
handed_counted st is = (record { time = is.time; ticks = is.ticks; events = is.events; made = is.made }, refl)

needs_is : (test : Bool) (st now : State) → IsCounted st → needs_if test st ≡ Some now → Waits st now
needs_is true st now is at = let same : st ≡ now = cc at in subst (Waits st) same (is, refl)
needs_is false st now is at = absurd (cc at)

handed_is : (test : Bool) (st now : State) → IsCounted st → handed_if test st ≡ Some now → Waits st now
handed_is true st now is at = let same : with_first_handed st ≡ now = cc at in subst (Waits st) same (handed_counted st is)
handed_is false st now is at = absurd (cc at)

sync_is : (given : Bool) (st now : State) → IsCounted st → needed_sync given st ≡ Some now → Waits st now
sync_is true st now is at = let same : st ≡ now = cc at in subst (Waits st) same (is, refl)
sync_is false st now is at = handed_is (any_queued st.objects.devices) st now is at

mode_is : (mode : Mode) (set : Bool) (st now : State) → IsCounted st → needed mode set st ≡ Some now → Waits st now
mode_is modes.Sync set st now is at = sync_is (any_given st.objects.devices) st now is at
mode_is modes.Free set st now is at = needs_is (not set && any_given st.objects.devices) st now is at

ended_is : (ends : Bool) (script : Script) (mode : Mode) (budget : ℕ) (st now : State) → ended_or_went ends script mode budget st ≡ Needs now → Waits st now
unfolding counted
ended_is true script mode budget st now at = absurd (cc at)
ended_is false script mode budget st now at = absurd (cc at)

or_is : (waiting : Option State) (set : Bool) (script : Script) (mode : Mode) (budget : ℕ) (st now : State) → ((found : State) → waiting ≡ Some found → Waits st found) → needed_or waiting set script mode budget st ≡ Needs now → Waits st now
or_is (Some found) set script mode budget st now each at = let same : found ≡ now = cc at in subst (Waits st) same (each found refl)
or_is None set script mode budget st now each at = ended_is (not set && not (any_unfinished st.objects.devices)) script mode budget st now at

quiet_is : (quiet : Bool) (script : Script) (mode : Mode) (budget : ℕ) (st now : State) → IsCounted st → step_if quiet script mode budget st ≡ Needs now → Waits st now
quiet_is true script mode budget st now is at =
    let set : Bool = has_event script (st.steps + 1) st in
    or_is (needed mode set st) set script mode budget st now (λ found there. mode_is mode set st found is there) at
quiet_is false script mode budget st now is at = ended_is false script mode budget st now at

-- where an ending is needed the counts still hold, and no step is done
pub needs_counted : (script : Script) (mode : Mode) (budget : ℕ) (st now : State) → IsCounted st → step script mode budget st ≡ Needs now → IsCounted now × (now.steps ≡ st.steps)
unfolding step
needs_counted script mode budget st now is at = quiet_is (is_quiet st) script mode budget st now is at

-- ---- messages to drivers

-- the counts hold where they are taken, and that is no step
pub taken_counted : (st : State) → IsCounted st → IsCounted (taken st) × ((taken st).steps ≡ st.steps)
taken_counted st is = (record { time = is.time; ticks = is.ticks; events = is.events; made = is.made }, refl)

-- ---- how large the counts get

-- up to a million steps the counts, with all that a tick makes, stay far below what an integer of 64 bits holds
pub counted_small : (st : State) → st.steps ≤ 1000000 → IsCounted st → (st.base.made + length st.base.events + 1 < 2 ^ 63) × (st.base.time + 1 < 2 ^ 63) × (st.ticks + 1 < 2 ^ 63)
counted_small st most is = (omega (arith, most, is.made, is.events), omega (arith, most, is.time), omega (arith, most, is.ticks))
