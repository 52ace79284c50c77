-- What a machine keeps between its calls, at the start and after a step.
use Rattle.std.specs.Prelude.{unwrap_or}
use Rattle.std.specs.Option.{is_some}
use Rattle.std.proofs.Common.{◌≡◌, ℕ, ◌<◌, ◌≤◌, Bool, true, false, not, ◌&&◌, List, [], ◌∷◌, ◌++◌, Option, Some, None, refl, sym, ◌∙◌, ap, subst, arith, append_assoc, append-nil}
use Rattle.tk_types.specs.declared.line.Line.{Line}
use Rattle.tk_types.specs.declared.line.LastLine.TheVariants as lasts
use Rattle.tk_types.specs.declared.line.Line.TheVariants as lines
use Rattle.tk_types.specs.declared.run.End.{End}
use Rattle.tk_types.specs.declared.run.End.TheVariants as ends
use Rattle.tk_types.specs.declared.run.Mode.{Mode}
use Rattle.tk_types.specs.declared.script.Script.{Script}
use Rattle.kernel_model.specs.Bodies.Statements.{IsRunnable}
use Rattle.kernel_model.specs.Tasks.Waits.{HavePlaces}
use Rattle.device_model.specs.declared.messages.Ending.{Ending}
use Rattle.device_model.specs.declared.messages.Message.{Message}
use Rattle.device_model.specs.Devices.Endings.{DevParts, arrive}
use Rattle.machine_model.specs.States.Objects.{dev_parts, with_devices}
use Rattle.machine_model.specs.States.State.{State, parts_of, state_start, taken, with_parts}
use Rattle.machine_model.specs.Events.Arrivals.{arrived}
use Rattle.machine_model.specs.Events.Follow.{Event, dispatched}
use Rattle.machine_model.specs.Events.Rest.{IsAtRest}
use Rattle.machine_model.specs.Runs.Machine.{Machine, after_pace}
use Rattle.machine_model.specs.Runs.Reached as reached
use Rattle.machine_model.specs.Runs.Reached.{Move, Arrives, Steps}
use Rattle.machine_model.specs.Runs.Step.{Pace, Ends, Needs, Went, any_unfinished, ended_or_went, is_quiet, needed_or, step, step_if}
use Rattle.machine_model.specs.Runs.Trace.{last_of, start}
use Rattle.machine_lemmas.proofs.ReachedRest.{moved_rest, start_rest}
use Rattle.ask_lemmas.proofs.ReachedAsked.{HasAsked, asks_are_kept, start_asked}
use Rattle.ask_lemmas.proofs.WholeWalk.{kept_move}
use Rattle.count_lemmas.specs.Counts.{IsCounted}
use Rattle.count_lemmas.proofs.Runs.{arrived_counted, needs_counted}
use Rattle.count_lemmas.proofs.Steps.{start_counted, start_unstepped, step_counted, step_left}
use Rattle.step_lemmas.specs.Budgets.{IsGoing}
use Rattle.step_lemmas.specs.Known.{HasDevices}
use Rattle.step_lemmas.specs.Sound.{IsSound, IsWhole}
use Rattle.step_lemmas.specs.Pace.{lines_with, messages_with, over_with}
use Rattle.step_lemmas.proofs.Sound.{asked_of, sound_of}

-- ---- a step of a quiet machine

-- an ending is needed
pub needs_pace : (waiting : Option State) (event : Bool) (script : Script) (mode : Mode) (budget : ℕ) (st : State) → is_some waiting ≡ true → needed_or waiting event script mode budget st ≡ Needs (unwrap_or waiting st)
needs_pace (Some now) event script mode budget st needs = refl
needs_pace None event script mode budget st needs = absurd (cc needs)

-- none is, and the run ends or goes on
pub goes_pace : (waiting : Option State) (event over : Bool) (script : Script) (mode : Mode) (budget : ℕ) (st : State) → is_some waiting ≡ false → (not event && not (any_unfinished st.objects.devices)) ≡ over →
    needed_or waiting event script mode budget st ≡ ended_or_went over script mode budget st
goes_pace (Some now) event over script mode budget st needs ends = absurd (cc needs)
goes_pace None event over script mode budget st needs ends = ap (λ test. ended_or_went test script mode budget st) ends

-- where nothing is needed the state stays
pub unneeded_state : (waiting : Option State) (st : State) → is_some waiting ≡ false → unwrap_or waiting st ≡ st
unneeded_state (Some now) st needs = absurd (cc needs)
unneeded_state None st needs = refl

-- a step, by whether the machine is quiet
pub step_by : (script : Script) (mode : Mode) (budget : ℕ) (st : State) (quiet : Bool) → is_quiet st ≡ quiet → step script mode budget st ≡ step_if quiet script mode budget st
unfolding step
step_by script mode budget st quiet is = ap (λ test. step_if test script mode budget st) is

-- ---- the machine after a step

pub paced : (m : Machine) (pace : Pace) (state : State) (over : Option End) (all : List Line) (sent : List Message) → m.over ≡ None → state ≡ reached.after_pace m.state pace → over ≡ over_with pace →
    all ≡ m.lines ++ lines_with m.state.steps pace → sent ≡ m.messages ++ messages_with pace → record m { state = state; over = over; lines = all; messages = sent } ≡ after_pace m pace
paced m (Went event None) state over all sent unended at_state at_over at_lines at_sent =
    ap (λ (s : State). record m { state = s; over = over; lines = all; messages = sent }) at_state
    ∙ ap {A = Option End} (λ end. record m { state = taken event.state; over = end; lines = all; messages = sent }) (at_over ∙ sym unended)
    ∙ ap {A = List Line} (λ ls. record m { state = taken event.state; lines = ls; messages = sent }) (at_lines ∙ ap (λ ls. m.lines ++ ls) (append-nil event.lines))
    ∙ ap {A = List Message} (λ ms. record m { state = taken event.state; lines = m.lines ++ event.lines; messages = ms }) at_sent
paced m (Went event (Some end)) state over all sent unended at_state at_over at_lines at_sent =
    ap (λ (s : State). record m { state = s; over = over; lines = all; messages = sent }) at_state
    ∙ ap {A = Option End} (λ end. record m { state = taken event.state; over = end; lines = all; messages = sent }) at_over
    ∙ ap {A = List Line} (λ ls. record m { state = taken event.state; over = Some end; lines = ls; messages = sent }) (at_lines ∙ sym (append_assoc m.lines event.lines (lines.End event.state.steps (last_of end) ∷ [])))
    ∙ ap {A = List Message} (λ ms. record m { state = taken event.state; over = Some end; lines = (m.lines ++ event.lines) ++ lines.End event.state.steps (last_of end) ∷ []; messages = ms }) at_sent
paced m (Needs waiting) state over all sent unended at_state at_over at_lines at_sent =
    ap (λ (s : State). record m { state = s; over = over; lines = all; messages = sent }) at_state
    ∙ ap {A = Option End} (λ end. record m { state = taken waiting; over = end; lines = all; messages = sent }) (at_over ∙ sym unended)
    ∙ ap {A = List Line} (λ ls. record m { state = taken waiting; lines = ls; messages = sent }) (at_lines ∙ append-nil m.lines)
    ∙ ap {A = List Message} (λ ms. record m { state = taken waiting; messages = ms }) at_sent
paced m Ends state over all sent unended at_state at_over at_lines at_sent =
    ap (λ (s : State). record m { state = s; over = over; lines = all; messages = sent }) at_state
    ∙ ap {A = Option End} (λ end. record m { over = end; lines = all; messages = sent }) at_over
    ∙ ap {A = List Line} (λ ls. record m { over = Some ends.Idle; lines = ls; messages = sent }) at_lines
    ∙ ap {A = List Message} (λ ms. record m { over = Some ends.Idle; lines = m.lines ++ lines.End m.state.steps lasts.Idle ∷ []; messages = ms }) (at_sent ∙ append-nil m.messages)

-- ---- what the machine keeps

sound_at_start : (script : Script) → IsRunnable script → IsSound (start script).state.base (start script).state.objects
sound_at_start script runnable = sound_of _ (start_asked script runnable)

pub going_at_start : (script : Script) (mode : Mode) (budget : ℕ) (first state : State) → IsRunnable script → 1 ≤ budget → budget ≤ 1000000 → first ≡ state_start script → state ≡ (dispatched 0 first).state → IsGoing script mode budget state None false
unfolding start
going_at_start script mode budget first state runnable low high at_first at_state =
    let at : state ≡ (start script).state = at_state ∙ ap (λ (st : State). (dispatched 0 st).state) at_first in
    record {
      runnable = runnable;
      limit = high;
      left = λ f o. let none : state.steps ≡ 0 = ap (λ (st : State). st.steps) at ∙ start_unstepped script in omega (arith, none, low);
      counts = λ f o. subst IsCounted (sym at) (start_counted script);
      sound = λ f o. subst (λ (st : State). IsSound st.base st.objects) (sym at) (sound_at_start script runnable);
      rest = λ f o. subst (IsAtRest mode) (sym at) (start_rest script mode runnable);
    }

taken_counted : (st : State) → IsCounted st → IsCounted (taken st)
taken_counted st counts = record { time = counts.time; ticks = counts.ticks; events = counts.events; made = counts.made }

counts_of : (script : Script) (mode : Mode) (budget : ℕ) (old : State) (pace : Pace) → step script mode budget old ≡ pace → budget ≤ 1000000 → old.steps < budget → IsCounted old → over_with pace ≡ None → IsCounted (reached.after_pace old pace)
counts_of script mode budget old (Went event over) is high below counts unended = taken_counted event.state (step_counted script mode budget old high below counts event over is)
counts_of script mode budget old (Needs waiting) is high below counts unended = taken_counted waiting (needs_counted script mode budget old waiting counts is).0
counts_of script mode budget old Ends is high below counts unended = absurd (cc unended)

left_of : (script : Script) (mode : Mode) (budget : ℕ) (old : State) (pace : Pace) → step script mode budget old ≡ pace → old.steps < budget → IsCounted old → over_with pace ≡ None → (reached.after_pace old pace).steps < budget
left_of script mode budget old (Went event None) is below counts unended = step_left script mode budget old below event is
left_of script mode budget old (Went event (Some end)) is below counts unended = absurd (cc unended)
left_of script mode budget old (Needs waiting) is below counts unended = let same = (needs_counted script mode budget old waiting counts is).1 in omega (arith, same, below)
left_of script mode budget old Ends is below counts unended = absurd (cc unended)

-- what a step or an ending that is offered keeps of order and rest
moved_sound : (script : Script) (mode : Mode) (budget : ℕ) (old : State) (move : Move) → HavePlaces old.base → IsWhole old → HasDevices old → IsSound old.base old.objects →
    IsSound (reached.after_move script mode budget old move).base (reached.after_move script mode budget old move).objects
moved_sound script mode budget old move places whole devices sound = sound_of _ (kept_move HasAsked asks_are_kept script mode budget old move (asked_of old places whole devices sound))

moved_still : (script : Script) (mode : Mode) (budget : ℕ) (old : State) (move : Move) → IsWhole old → HasDevices old → IsAtRest mode old → IsAtRest mode (reached.after_move script mode budget old move)
moved_still script mode budget old move whole devices rest = moved_rest script mode budget old move (record { base = whole.tasks; few = devices.few }) rest

pub going_after_step : (script : Script) (mode : Mode) (budget : ℕ) (old new : State) (over : Option End) (failed : Bool) → IsRunnable script → budget ≤ 1000000 → old.steps < budget → IsCounted old → HavePlaces old.base → IsWhole old → HasDevices old →
    IsSound old.base old.objects → IsAtRest mode old → new ≡ reached.after_pace old (step script mode budget old) → over ≡ over_with (step script mode budget old) → IsGoing script mode budget new over failed
going_after_step script mode budget old new over failed runnable high below counts places whole devices sound rest at_new at_over = record {
  runnable = runnable;
  limit = high;
  left = λ f o. subst (λ (st : State). st.steps < budget) (sym at_new) (left_of script mode budget old (step script mode budget old) refl below counts (sym at_over ∙ o));
  counts = λ f o. subst IsCounted (sym at_new) (counts_of script mode budget old (step script mode budget old) refl high below counts (sym at_over ∙ o));
  sound = λ f o. subst (λ (st : State). IsSound st.base st.objects) (sym at_new) (moved_sound script mode budget old Steps places whole devices sound);
  rest = λ f o. subst (IsAtRest mode) (sym at_new) (moved_still script mode budget old Steps whole devices rest);
}

-- the same after an ending has arrived
pub going_after_arrival : (script : Script) (mode : Mode) (budget : ℕ) (old new : State) (over : Option End) (failed : Bool) (e : Ending) (event : Event) → IsRunnable script → budget ≤ 1000000 → old.steps < budget → IsCounted old → HavePlaces old.base → IsWhole old →
    HasDevices old → IsSound old.base old.objects → IsAtRest mode old → arrived script mode old e ≡ Some event → new ≡ taken event.state → IsGoing script mode budget new over failed
going_after_arrival script mode budget old new over failed e event runnable high below counts places whole devices sound rest comes at_new =
    let all = arrived_counted script mode old e event counts comes in
    let same : new ≡ reached.after_move script mode budget old (Arrives e) = at_new ∙ sym (ap (reached.after_offer old) comes) in
    record {
      runnable = runnable;
      limit = high;
      left = λ f o. subst (λ (st : State). st.steps < budget) (sym at_new) (omega (arith, all.1, below));
      counts = λ f o. subst IsCounted (sym at_new) (taken_counted event.state all.0);
      sound = λ f o. subst (λ (st : State). IsSound st.base st.objects) (sym same) (moved_sound script mode budget old (Arrives e) places whole devices sound);
      rest = λ f o. subst (IsAtRest mode) (sym same) (moved_still script mode budget old (Arrives e) whole devices rest);
    }

-- what settles after the arrival of an ending stands in its order
pub arrival_sound : (st now : State) (e : Ending) (parts : DevParts) → HavePlaces st.base → IsWhole st → HasDevices st → IsSound st.base st.objects → arrive (dev_parts (parts_of st)) e ≡ Some parts → now ≡ with_parts st (with_devices (parts_of st) parts) →
    IsSound now.base now.objects
arrival_sound st now e parts places whole devices sound comes is =
    subst (λ (s : State). IsSound s.base s.objects) (sym is) (sound_of _ (asks_are_kept.arrived (parts_of st) e parts comes (asked_of st places whole devices sound)))

pub none_left : (over : Option End) → ((end : End) → over ≡ Some end → ⊥) → over ≡ None
none_left None differs = refl
none_left (Some end) differs = absurd (differs end refl)
