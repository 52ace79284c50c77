-- The events that are due, one after another.
use Rattle.std.proofs.Common.{◌≡◌, ℕ, suc, ◌+◌, ◌-◌, ◌<◌, ◌≤◌, Bool, true, false, cond, List, [], ◌∷◌, Some, None, refl, sym, ◌∙◌, ap, subst, arith, drop}
use Rattle.tk_types.specs.declared.answer.Answer.{Answer}
use Rattle.tk_types.specs.declared.run.Mode.{Mode}
use Rattle.tk_types.specs.declared.task.DueEvent.{DueEvent}
use Rattle.tk_types.specs.declared.task.Event.{Event as DueKind}
use Rattle.tk_types.specs.declared.task.Event.TheVariants as dues
use Rattle.kernel_model.specs.Tasks.Base.{Base, release, take_due}
use Rattle.kernel_model.specs.Tasks.Waits.{HavePlaces}
use Rattle.kernel_model.specs.Words.Events.{due_event, first_event, is_due}
use Rattle.context_model.specs.Clocks.Tables.{again}
use Rattle.machine_model.specs.States.Objects.{Parts}
use Rattle.machine_model.specs.States.State.{State, parts_of}
use Rattle.machine_model.specs.Events.Ticks.{due_done, fallen}
use Rattle.ask_lemmas.proofs.ReachedAsked.{HasAsked, asks_are_kept}
use Rattle.ask_lemmas.proofs.WholeWalk.{kept_settled}
use Rattle.count_lemmas.specs.Counts.{Makes}
use Rattle.count_lemmas.proofs.Makes.{fallen_makes, makes_then}
use Rattle.count_lemmas.proofs.Ticks.{due_none, due_turn}
use Rattle.step_lemmas.specs.Known.{HasDevices}
use Rattle.step_lemmas.specs.Sound.{IsSound, IsWhole}
use Rattle.step_lemmas.specs.Falling.{fell_due}
use Rattle.step_lemmas.proofs.Sound.{asked_of, sound_of}

-- ---- one event

-- a handler that is due again joins those that wait to start
fell_is : (mode : Mode) (st : State) (what : DueKind) → fell_due mode (record st { base = again (take_due st.base) st.objects.clocks what }) what ≡ fallen mode (record st { base = take_due st.base }) what
unfolding fallen again
fell_is mode st (dues.Wait t) = refl
fell_is mode st (dues.Cyclic id) = refl
fell_is mode st (dues.Alarm id) = refl

fallen_as : (mode : Mode) (old now : State) (base : Base) (what : DueKind) → base ≡ again (take_due old.base) old.objects.clocks what → now ≡ fell_due mode (record old { base = base }) what →
    now ≡ fallen mode (record old { base = take_due old.base }) what
fallen_as mode old now base what taken moved = moved ∙ ap {A = Base} (λ b. fell_due mode (record old { base = b }) what) taken ∙ fell_is mode old what

-- each task that waits stands in its order, and has asked for something that fits, once an event is taken and a cyclic handler is due again
taken_asked : (p : Parts) (what : DueKind) → HasAsked p → HasAsked (record p { base = again (take_due p.base) p.objects.clocks what })
taken_asked p what has = asks_are_kept.again (record p { base = take_due p.base }) what (asks_are_kept.taken p has)

pub taken_sound : (old st : State) (base : Base) (what : DueKind) → old ≡ st → HavePlaces st.base → IsWhole st → HasDevices st → IsSound st.base st.objects → base ≡ again (take_due old.base) old.objects.clocks what → IsSound base old.objects
taken_sound old st base what is places whole none all taken =
    let has : HasAsked (parts_of old) = subst (λ (s : State). HasAsked (parts_of s)) (sym is) (asked_of st places whole none all) in
    subst (λ (b : Base). IsSound b old.objects) (sym taken) (sound_of _ (taken_asked (parts_of old) what has))

-- and when the end of a wait was followed
pub released_sound : (view st : State) (base : Base) (t : ℕ) (answer : Answer) → view ≡ st → HavePlaces st.base → IsWhole st → HasDevices st → IsSound st.base st.objects → base ≡ release view.base t answer → IsSound base view.objects
released_sound view st base t answer is places whole none all released =
    let has : HasAsked (parts_of view) = subst (λ (s : State). HasAsked (parts_of s)) (sym is) (asked_of st places whole none all) in
    subst (λ (b : Base). IsSound b view.objects) (sym released) (sound_of _ (asks_are_kept.released (parts_of view) t answer has))

fallen_asked : (mode : Mode) (st : State) (what : DueKind) → HasAsked (parts_of st) → HasAsked (parts_of (fallen mode (record st { base = take_due st.base }) what))
unfolding fallen
fallen_asked mode st (dues.Wait t) has =
    let taken : Parts = record (parts_of st) { base = take_due st.base } in
    kept_settled HasAsked asks_are_kept mode _ (asks_are_kept.released taken t _ (asks_are_kept.taken (parts_of st) has))
fallen_asked mode st (dues.Cyclic id) has = taken_asked (parts_of st) (dues.Cyclic id) has
fallen_asked mode st (dues.Alarm id) has = taken_asked (parts_of st) (dues.Alarm id) has

-- ---- one after another

-- one turn over the events that are due: what is left comes to what all comes to, each task that waits stands in its order, and
-- so many events more were made at most
pub due_more : (most done : ℕ) (mode : Mode) (first old st now : State) (base : Base) (what : DueKind) (come : State) →
    old ≡ st → done < most → HavePlaces st.base → IsWhole st → HasDevices st → Some what ≡ due_event old.base.time old.base.events → base ≡ again (take_due old.base) old.objects.clocks what →
    now ≡ fell_due mode (record old { base = base }) what → due_done (most - done) mode st ≡ come → IsSound st.base st.objects → Makes done 0 0 first.base st.base →
    record { all : due_done (most - (done + 1)) mode now ≡ come; sound : IsSound now.base now.objects; makes : Makes (done + 1) 0 0 first.base now.base }
due_more most done mode first old st now base what come is below places whole none at taken moved all sound makes =
    let here : now ≡ fallen mode (record old { base = take_due old.base }) what = fallen_as mode old now base what taken moved in
    let left : most - done ≡ suc (most - (done + 1)) = omega arith in
    let has : HasAsked (parts_of old) = subst (λ (s : State). HasAsked (parts_of s)) (sym is) (asked_of st places whole none sound) in
    let made : Makes done 0 0 first.base old.base = subst (λ (s : State). Makes done 0 0 first.base s.base) (sym is) makes in
    let more : Makes (done + 1) 0 0 first.base (fallen mode (record old { base = take_due old.base }) what).base = makes_then done 0 0 1 0 0 first.base old.base _ made (fallen_makes mode old what (sym at)) in
    record {
      all =
          ap (due_done (most - (done + 1)) mode) here
          ∙ sym (due_turn (most - (done + 1)) mode old what (sym at))
          ∙ ap (λ n. due_done n mode old) (sym left)
          ∙ ap (due_done (most - done) mode) is
          ∙ all;
      sound = subst (λ (s : State). IsSound s.base s.objects) (sym here) (sound_of _ (fallen_asked mode old what has));
      makes = subst (λ (s : State). Makes (done + 1) 0 0 first.base s.base) (sym here) more;
    }

left_if_none : (now : ℕ) (events : List DueEvent) (due : Bool) → is_due now events ≡ due → cond due (first_event events) None ≡ None → cond due (drop 1 events) events ≡ events
left_if_none now [] true is none = refl
left_if_none now (first ∷ rest) true is none = absurd (cc none)
left_if_none now events false is none = refl

-- no event is due
pub due_over : (left : ℕ) (mode : Mode) (old st : State) (base : Base) (whole : State) → old ≡ st → None ≡ due_event old.base.time old.base.events → base ≡ take_due old.base → due_done left mode st ≡ whole → record old { base = base } ≡ whole
due_over left mode old st base whole is at taken all =
    ap {A = Base} (λ b. record old { base = b }) taken
    ∙ ap {A = List DueEvent} (λ events. record old { base = record old.base { events = events } }) (left_if_none old.base.time old.base.events (is_due old.base.time old.base.events) refl (sym at))
    ∙ sym (due_none left mode old (sym at))
    ∙ ap (due_done left mode) is
    ∙ all

-- as many events were done as may be
pub due_spent : (most done : ℕ) (mode : Mode) (st whole : State) → most ≤ done → due_done (most - done) mode st ≡ whole → st ≡ whole
unfolding due_done
due_spent most done mode st whole spent all = let none : most - done ≡ 0 = omega arith in ap (λ left. due_done left mode st) (sym none) ∙ all
