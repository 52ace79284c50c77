-- What a call of `step` leaves and answers, and one of `arrive`.
use Rattle.std.proofs.Common.{◌≡◌, ◌++◌, Bool, true, false, List, Option, Some, None, refl, sym, ◌∙◌, ap}
use Rattle.std.specs.Option.{is_some, option_map}
use Rattle.tk_types.specs.declared.line.Line.{Line}
use Rattle.tk_types.specs.declared.run.End.{End}
use Rattle.device_model.specs.declared.messages.Ending.{Ending}
use Rattle.device_model.specs.declared.messages.Message.{Message}
use Rattle.device_model.specs.Devices.Handing.{messages}
use Rattle.machine_model.specs.States.State.{State, taken}
use Rattle.machine_model.specs.Events.Arrivals.{arrived}
use Rattle.machine_model.specs.Events.Follow.{Event}
use Rattle.machine_model.specs.Runs.Machine.{Machine, after_arrive, after_pace, after_step, with_event}
use Rattle.machine_model.specs.Runs.Reached as reached
use Rattle.machine_model.specs.Runs.Step.{Ends, Needs, Pace as Outcome, Went, step}
use Rattle.step_lemmas.specs.Arrivals.{HasArrived}
use Rattle.step_lemmas.specs.Pace.{lines_with, messages_with, over_with}
use Rattle.step_lemmas.proofs.Going.{paced}
use Rattle.tk_kernel.specs.declared.pacing.Pace.{Pace}
use Rattle.tk_kernel.specs.Pace.{over_of, pace_after, pace_with}

-- ---- a step

over_by : (outcome : Outcome) → over_of (pace_with outcome) ≡ over_with outcome
over_by (Went event None) = refl
over_by (Went event (Some end)) = refl
over_by (Needs waiting) = refl
over_by Ends = refl

-- how the run ended with a step
pub over_is : (outcome : Outcome) (pace : Pace) (over : Option End) → pace ≡ pace_with outcome → over ≡ over_of pace → over ≡ over_with outcome
over_is outcome pace over at_pace at_over = at_over ∙ ap over_of at_pace ∙ over_by outcome

steps_on : (m : Machine) (over : Option End) → over ≡ None → (elim over as (λ _. Machine) [ Some end ↦ m | None ↦ after_pace m (step m.script m.mode m.budget m.state) ]) ≡ after_pace m (step m.script m.mode m.budget m.state)
steps_on m None is = refl
steps_on m (Some end) is = absurd (cc is)

-- the machine after a step
pub stepped_is : (m : Machine) (pace : Pace) (state : State) (over : Option End) (all : List Line) (sent : List Message) → m.over ≡ None → state ≡ reached.after_pace m.state (step m.script m.mode m.budget m.state) →
    pace ≡ pace_with (step m.script m.mode m.budget m.state) → over ≡ over_of pace → all ≡ m.lines ++ lines_with m.state.steps (step m.script m.mode m.budget m.state) → sent ≡ m.messages ++ messages_with (step m.script m.mode m.budget m.state) →
    record m { state = state; over = over; lines = all; messages = sent } ≡ after_step m
stepped_is m pace state over all sent going at_state at_pace at_over at_lines at_sent =
    let outcome : Outcome = step m.script m.mode m.budget m.state in
    paced m outcome state over all sent going at_state (over_is outcome pace over at_pace at_over) at_lines at_sent ∙ sym (steps_on m m.over going)

paces_on : (m : Machine) (over : Option End) → over ≡ None → (elim over as (λ _. Pace) [ Some end ↦ pace_with Ends | None ↦ pace_with (step m.script m.mode m.budget m.state) ]) ≡ pace_with (step m.script m.mode m.budget m.state)
paces_on m None is = refl
paces_on m (Some end) is = absurd (cc is)

-- ---- an ending

arrives_on : (m : Machine) (e : Ending) (over : Option End) → over ≡ None →
    (elim over as (λ _. Option Machine) [ Some end ↦ None | None ↦ option_map (with_event m) (arrived m.script m.mode m.state e) ]) ≡ option_map (with_event m) (arrived m.script m.mode m.state e)
arrives_on m e None is = refl
arrives_on m e (Some end) is = absurd (cc is)

-- the machine after an ending has arrived
pub arrived_is : (m : Machine) (e : Ending) (state : State) (all : List Line) (sent : List Message) → m.over ≡ None → HasArrived (arrived m.script m.mode m.state e) state m.lines all m.messages sent →
    after_arrive m e ≡ Some (record m { state = state; lines = all; messages = sent })
arrived_is m e state all sent going has =
    arrives_on m e m.over going
    ∙ ap (option_map (with_event m)) has.comes
    ∙ ap (λ (st : State). Some (record m { state = st; lines = m.lines ++ has.event.lines; messages = m.messages ++ messages has.event.state.objects.devices })) (sym has.state)
    ∙ ap (λ (ls : List Line). Some (record m { state = state; lines = ls; messages = m.messages ++ messages has.event.state.objects.devices })) (sym has.lines)
    ∙ ap (λ (ms : List Message). Some (record m { state = state; lines = all; messages = ms })) (sym has.messages)

-- none is fit
pub unfit_is : (m : Machine) (e : Ending) → m.over ≡ None → arrived m.script m.mode m.state e ≡ None → after_arrive m e ≡ None
unfit_is m e going none = arrives_on m e m.over going ∙ ap (option_map (with_event m)) none

over_arrives : (m : Machine) (e : Ending) (over : Option End) (end : End) → over ≡ Some end →
    (elim over as (λ _. Option Machine) [ Some end ↦ None | None ↦ option_map (with_event m) (arrived m.script m.mode m.state e) ]) ≡ None
over_arrives m e None end is = absurd (cc is)
over_arrives m e (Some other) end is = refl

-- a machine that is over takes none
pub over_takes_none : (m : Machine) (e : Ending) (end : End) → m.over ≡ Some end → after_arrive m e ≡ None
over_takes_none m e end is = over_arrives m e m.over end is

-- the run isn't over, in the form of the code
pub not_over : (over : Option End) (some : Bool) → some ≡ is_some over → some ≡ false → over ≡ None
not_over None some is none = refl
not_over (Some end) some is none = absurd (cc (is, none))
