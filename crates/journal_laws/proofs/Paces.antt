-- What comes of a step: it is one step more, or none where an ending is needed; and the budget ends a run at its last step.
use Rattle.std.proofs.Common.{◌≡◌, ℕ, ◌+◌, ◌≤◌, ◌<◌, Bool, true, false, cond, Option, Some, None, refl, ◌∙◌, ap, subst, sym, arith}
use Rattle.std.specs.Bool.{◌==◌}
use Rattle.std.specs.Prelude.{not, ◌&&◌}
use Rattle.std.specs.Option.{option_map}
use Rattle.std.proofs.lemmas.Bool.Decides.{nat_tests}
use Rattle.tk_types.specs.declared.line.Entry.{Entry}
use Rattle.tk_types.specs.declared.run.End.{End}
use Rattle.tk_types.specs.declared.run.End.TheVariants as ends
use Rattle.tk_types.specs.declared.run.Mode.{Mode}
use Rattle.tk_types.specs.declared.run.Mode.TheVariants as modes
use Rattle.tk_types.specs.declared.script.Script.{Script}
use Rattle.device_model.specs.declared.messages.Ending.{Ending}
use Rattle.device_model.specs.Devices.Endings.{DevParts, arrive}
use Rattle.device_model.specs.Devices.Handing.{any_given, any_queued}
use Rattle.machine_model.specs.States.Objects.{dev_parts, with_devices}
use Rattle.machine_model.specs.States.State.{State, parts_of, with_parts}
use Rattle.machine_model.specs.Events.Follow.{Event}
use Rattle.machine_model.specs.Events.Arrivals.{after_arrival, arrived}
use Rattle.machine_model.specs.Runs.Step.{Needs, Went, any_unfinished, counted, end_after, ended_or_went, handed_if, has_event, is_quiet, needed, needed_or, needed_sync, needs_if, step, step_if, went, with_first_handed, worked}
use Rattle.machine_model.specs.Runs.Trace.{arrived_if, entered, named_ending}
use Rattle.count_lemmas.proofs.Runs.{followed_steps}
use Rattle.journal_laws.specs.Owed.{owed}
use Rattle.journal_laws.proofs.OwedEvents.{followed_owing, worked_owing}
use Rattle.journal_laws.proofs.OwedServings.{arrived_less, first_handed_within}

-- ---- a step that was done

ended_went : (over : Bool) (script : Script) (mode : Mode) (budget : ℕ) (st : State) (event : Event) (end : Option End) → ended_or_went over script mode budget st ≡ Went event end → went script mode budget st ≡ Went event end
ended_went true script mode budget st event end is = absurd (cc is)
ended_went false script mode budget st event end is = is

needed_went : (waiting : Option State) (set : Bool) (script : Script) (mode : Mode) (budget : ℕ) (st : State) (event : Event) (end : Option End) → needed_or waiting set script mode budget st ≡ Went event end → went script mode budget st ≡ Went event end
needed_went (Some now) set script mode budget st event end is = absurd (cc is)
needed_went None set script mode budget st event end is = ended_went (not set && not (any_unfinished st.objects.devices)) script mode budget st event end is

if_went : (quiet : Bool) (script : Script) (mode : Mode) (budget : ℕ) (st : State) (event : Event) (end : Option End) → step_if quiet script mode budget st ≡ Went event end → went script mode budget st ≡ Went event end
if_went true script mode budget st event end is = let set : Bool = has_event script (st.steps + 1) st in needed_went (needed mode set st) set script mode budget st event end is
if_went false script mode budget st event end is = is

-- what is known of the state after a step, and of whether the run is over with it
pub record IsStepped (budget : ℕ) (st : State) (event : Event) (over : Option End) : Type 0 where
  pub steps : event.state.steps ≡ st.steps + 1
  pub owes : owed event.state.base event.state.objects.devices ≤ owed st.base st.objects.devices + 1
  pub goes : over ≡ None → st.steps < budget → event.state.steps < budget
  pub reaches : over ≡ Some ends.Budget → event.state.steps ≡ budget

last_goes : (steps budget : ℕ) (halted last : Bool) → (steps + 1 == budget) ≡ last → end_after halted last ≡ None → steps < budget → steps + 1 < budget
last_goes steps budget true last is over below = absurd (cc over)
last_goes steps budget false true is over below = absurd (cc over)
last_goes steps budget false false is over below = grind (arith, nat_tests, is, below)

last_ends : (steps budget : ℕ) (halted last : Bool) → (steps + 1 == budget) ≡ last → end_after halted last ≡ Some ends.Budget → steps + 1 ≡ budget
last_ends steps budget true last is over = absurd (cc over)
last_ends steps budget false true is over = grind (arith, nat_tests, is)
last_ends steps budget false false is over = absurd (cc over)

of_went : (first event : Event) (end over : Option End) → Went first end ≡ Went event over → (first ≡ event) × (end ≡ over)
of_went first event end over is = (cc is, cc is)

pub step_went : (script : Script) (mode : Mode) (budget : ℕ) (st : State) (event : Event) (over : Option End) → step script mode budget st ≡ Went event over → IsStepped budget st event over
unfolding step counted
step_went script mode budget st event over is =
    let n : ℕ = st.steps + 1 in
    let work : Event = worked script mode n st in
    let both = of_went (record work { state = record work.state { steps = n } }) event (end_after work.state.halted (n == budget)) over (if_went (is_quiet st) script mode budget st event over is) in
    let more : owed work.state.base work.state.objects.devices ≤ owed st.base st.objects.devices + 1 = worked_owing (owed st.base st.objects.devices) script mode n st (omega arith) in
    record {
      steps = sym (ap (λ (e : Event). e.state.steps) both.0);
      owes = subst (λ (e : Event). owed e.state.base e.state.objects.devices ≤ owed st.base st.objects.devices + 1) both.0 more;
      goes = λ none below. subst (λ (e : Event). e.state.steps < budget) both.0 (last_goes st.steps budget work.state.halted (n == budget) refl (both.1 ∙ none) below);
      reaches = λ some. subst (λ (e : Event). e.state.steps ≡ budget) both.0 (last_ends st.steps budget work.state.halted (n == budget) refl (both.1 ∙ some));
    }

-- ---- a machine that needs an ending

-- no step is done, and no more endings may come
pub record IsWaiting (st now : State) : Type 0 where
  pub steps : now.steps ≡ st.steps
  pub owes : owed now.base now.objects.devices ≤ owed st.base st.objects.devices

stays : (st : State) → IsWaiting st st
stays st = record { steps = refl; owes = omega arith }

needs_is : (test : Bool) (st now : State) → needs_if test st ≡ Some now → IsWaiting st now
needs_is true st now at = let same : st ≡ now = cc at in subst (IsWaiting st) same (stays st)
needs_is false st now at = absurd (cc at)

handed_is : (test : Bool) (st now : State) → handed_if test st ≡ Some now → IsWaiting st now
handed_is true st now at =
    let same : with_first_handed st ≡ now = cc at in
    subst (IsWaiting st) same (record { steps = refl; owes = first_handed_within (owed st.base st.objects.devices) (parts_of st) (omega arith) })
handed_is false st now at = absurd (cc at)

sync_is : (given : Bool) (st now : State) → needed_sync given st ≡ Some now → IsWaiting st now
sync_is true st now at = let same : st ≡ now = cc at in subst (IsWaiting st) same (stays st)
sync_is false st now at = handed_is (any_queued st.objects.devices) st now at

mode_is : (mode : Mode) (set : Bool) (st now : State) → needed mode set st ≡ Some now → IsWaiting st now
mode_is modes.Sync set st now at = sync_is (any_given st.objects.devices) st now at
mode_is modes.Free set st now at = needs_is (not set && any_given st.objects.devices) st now at

ended_is : (over : Bool) (script : Script) (mode : Mode) (budget : ℕ) (st now : State) → ended_or_went over script mode budget st ≡ Needs now → IsWaiting st now
unfolding counted
ended_is true script mode budget st now at = absurd (cc at)
ended_is false script mode budget st now at = absurd (cc at)

or_is : (waiting : Option State) (set : Bool) (script : Script) (mode : Mode) (budget : ℕ) (st now : State) → ((found : State) → waiting ≡ Some found → IsWaiting st found) → needed_or waiting set script mode budget st ≡ Needs now → IsWaiting st now
or_is (Some found) set script mode budget st now each at = let same : found ≡ now = cc at in subst (IsWaiting st) same (each found refl)
or_is None set script mode budget st now each at = ended_is (not set && not (any_unfinished st.objects.devices)) script mode budget st now at

quiet_is : (quiet : Bool) (script : Script) (mode : Mode) (budget : ℕ) (st now : State) → step_if quiet script mode budget st ≡ Needs now → IsWaiting st now
quiet_is true script mode budget st now at =
    let set : Bool = has_event script (st.steps + 1) st in or_is (needed mode set st) set script mode budget st now (λ found there. mode_is mode set st found there) at
quiet_is false script mode budget st now at = ended_is false script mode budget st now at

pub step_needs : (script : Script) (mode : Mode) (budget : ℕ) (st now : State) → step script mode budget st ≡ Needs now → IsWaiting st now
unfolding step
step_needs script mode budget st now at = quiet_is (is_quiet st) script mode budget st now at

-- ---- an ending that arrives

-- no step is done, and one ending less may come
pub record IsFed (st : State) (event : Event) : Type 0 where
  pub steps : event.state.steps ≡ st.steps
  pub owes : owed event.state.base event.state.objects.devices + 1 ≤ owed st.base st.objects.devices

arrival_of : (script : Script) (mode : Mode) (st : State) (e : Ending) (event : Event) (left : Option DevParts) → arrive (dev_parts (parts_of st)) e ≡ left → option_map (after_arrival script mode (st.steps + 1) st e) left ≡ Some event → IsFed st event
arrival_of script mode st e event None at comes = absurd (cc comes)
arrival_of script mode st e event (Some q) at comes =
    let before : State = with_parts st (with_devices (parts_of st) q) in
    let one : after_arrival script mode (st.steps + 1) st e q ≡ event = cc comes in
    let less = arrived_less (parts_of st) e q at in
    let after = followed_owing (owed q.base q.table) script mode (st.steps + 1) before (omega arith) in
    subst (IsFed st) one (record { steps = followed_steps script mode (st.steps + 1) before; owes = omega (arith, less, after) })

pub arrived_fed : (script : Script) (mode : Mode) (st : State) (e : Ending) (event : Event) → arrived script mode st e ≡ Some event → IsFed st event
unfolding arrived
arrived_fed script mode st e event comes = arrival_of script mode st e event (arrive (dev_parts (parts_of st)) e) refl comes

named_fed : (script : Script) (mode : Mode) (st : State) (some : Option Ending) (event : Event) → arrived_if script mode st some ≡ Some event → IsFed st event
named_fed script mode st None event comes = absurd (cc comes)
named_fed script mode st (Some e) event comes = arrived_fed script mode st e event comes

place_fed : (script : Script) (mode : Mode) (st : State) (here : Bool) (some : Option Event) (event : Event) → ((found : Event) → some ≡ Some found → IsFed st found) → cond here some None ≡ Some event → IsFed st event
place_fed script mode st true some event each comes = each event comes
place_fed script mode st false some event each comes = absurd (cc comes)

-- an entry that is taken
pub entered_fed : (script : Script) (mode : Mode) (st : State) (entry : Entry) (event : Event) → entered script mode st entry ≡ Some event → IsFed st event
unfolding entered
entered_fed script mode st entry event comes =
    place_fed script mode st (entry.place == st.steps + 1) (arrived_if script mode st (named_ending st entry)) event (λ found is. named_fed script mode st (named_ending st entry) found is) comes
