-- What a turn leaves is a state that the machine comes to.
use Rattle.std.proofs.Common.{◌≡◌, ℕ, ◌+◌, Bool, true, false, cond, List, [], ◌∷◌, ◌++◌, Option, Some, None, ap, ◌∙◌}
use Rattle.std.specs.Bool.{◌==◌}
use Rattle.std.proofs.lemmas.List.{append_assoc}
use Rattle.tk_types.specs.declared.line.Entry.{Entry}
use Rattle.tk_types.specs.declared.run.Mode.{Mode}
use Rattle.tk_types.specs.declared.script.Script.{Script}
use Rattle.device_model.specs.declared.messages.Ending.{Ending}
use Rattle.machine_model.specs.States.State.{State, taken}
use Rattle.machine_model.specs.Events.Arrivals.{arrived}
use Rattle.machine_model.specs.Events.Follow.{Event}
use Rattle.machine_model.specs.Runs.Reached.{Move, Steps, Arrives, after_offer, after_pace, state_after}
use Rattle.machine_model.specs.Runs.Step.{Pace, step}
use Rattle.machine_model.specs.Runs.Trace.{arrived_if, entered, named_ending}

-- wherever the machine comes to the one state, it comes to the other by some moves more
abbrev pub IsLater : Script → Mode → ℕ → State → State → Type 0
IsLater script mode budget st now = (moves : List Move) → state_after script mode budget moves ≡ st → (more : List Move) × (state_after script mode budget (more ++ moves) ≡ now)

pub later_yet : (script : Script) (mode : Mode) (budget : ℕ) (st now after : State) → IsLater script mode budget st now → IsLater script mode budget now after → IsLater script mode budget st after
later_yet script mode budget st now after one other moves is =
    let first = one moves is in
    let second = other (first.0 ++ moves) first.1 in
    (second.0 ++ first.0, ap (λ (all : List Move). state_after script mode budget all) (append_assoc second.0 first.0 moves) ∙ second.1)

-- after a step, also where an ending has to arrive first
pub stepped_later : (script : Script) (mode : Mode) (budget : ℕ) (st : State) (pace : Pace) → step script mode budget st ≡ pace → IsLater script mode budget st (after_pace st pace)
unfolding state_after
stepped_later script mode budget st pace at moves is = (Steps ∷ [], ap (λ (now : State). after_pace now (step script mode budget now)) is ∙ ap (after_pace st) at)

-- after an ending has arrived
arrived_later : (script : Script) (mode : Mode) (budget : ℕ) (st : State) (e : Ending) (event : Event) → arrived script mode st e ≡ Some event → IsLater script mode budget st (taken event.state)
unfolding state_after
arrived_later script mode budget st e event at moves is = (Arrives e ∷ [], ap (λ (now : State). after_offer now (arrived script mode now e)) is ∙ ap (after_offer st) at)

named_later : (script : Script) (mode : Mode) (budget : ℕ) (st : State) (some : Option Ending) (event : Event) → arrived_if script mode st some ≡ Some event → IsLater script mode budget st (taken event.state)
named_later script mode budget st None event comes = absurd (cc comes)
named_later script mode budget st (Some e) event comes = arrived_later script mode budget st e event comes

place_later : (script : Script) (mode : Mode) (budget : ℕ) (st : State) (here : Bool) (some : Option Event) (event : Event) → (some ≡ Some event → IsLater script mode budget st (taken event.state)) → cond here some None ≡ Some event →
    IsLater script mode budget st (taken event.state)
place_later script mode budget st true some event each comes = each comes
place_later script mode budget st false some event each comes = absurd (cc comes)

-- and where an entry was taken
pub entered_later : (script : Script) (mode : Mode) (budget : ℕ) (st : State) (entry : Entry) (event : Event) → entered script mode st entry ≡ Some event → IsLater script mode budget st (taken event.state)
unfolding entered
entered_later script mode budget st entry event comes =
    place_later script mode budget st (entry.place == st.steps + 1) (arrived_if script mode st (named_ending st entry)) event (named_later script mode budget st (named_ending st entry) event) comes
