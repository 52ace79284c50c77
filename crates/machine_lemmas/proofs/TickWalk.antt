-- What holds through a tick: where something of the base survives settling, and each event that falls due keeps it, it holds once
-- the tick is done.
use Rattle.std.proofs.Common.{◌≡◌, ℕ, zero, suc, length, Bool, true, false, cond, not, List, Option, Some, None, refl, sym, subst}
use Rattle.std.specs.Prelude.{filter}
use Rattle.tk_types.specs.declared.answer.Answer.{Answer}
use Rattle.tk_types.specs.declared.run.Mode.{Mode}
use Rattle.tk_types.specs.declared.run.Mode.TheVariants as modes
use Rattle.tk_types.specs.declared.task.DueEvent.{DueEvent}
use Rattle.tk_types.specs.declared.task.Event.{Event as DueKind}
use Rattle.tk_types.specs.declared.task.Event.TheVariants.{Wait, Cyclic, Alarm}
use Rattle.tk_types.specs.declared.task.Order.{Order}
use Rattle.kernel_model.specs.Words.Events.{due_event, ends_wait_of}
use Rattle.kernel_model.specs.Tasks.Base.{Base, advance, is_waiting_phase, move_wait, release, set_current, take_due, task_at}
use Rattle.kernel_lemmas.proofs.Tables.{entry_cases}
use Rattle.context_model.specs.Clocks.Tables.{Clocks, again, again_in, cyclic_at}
use Rattle.context_model.specs.declared.cyclic_row.CyclicRow.{CyclicRow}
use Rattle.machine_model.specs.States.Objects.{Parts}
use Rattle.machine_model.specs.States.State.{State, parts_of}
use Rattle.machine_model.specs.Events.Settle.{handed, settle}
use Rattle.machine_model.specs.Events.Ticks.{due_done, fallen, limit_answer, tick_state}
use Rattle.machine_lemmas.proofs.Changes.{Survives, any_moves, of_any}
use Rattle.machine_lemmas.proofs.KnownDevices.{IsWished}
use Rattle.machine_lemmas.proofs.Servings.{FewDevices, serving}
use Rattle.machine_lemmas.proofs.Settling.{few_handed, few_served, settle_keeps}
use Rattle.machine_lemmas.proofs.TickClocks.{serving_clocks}

-- ---- settling

-- what something of the base has to survive to survive settling
pub record IsSettleProof (P : Base → Type 0) : Type 0 where
  pub survives : Survives any_moves P
  pub refreshed : (b : Base) (t priority : ℕ) → P b → P (set_current b t priority)

-- it holds of the base, and something of the clocks, and devices are few
pub record TickHas (P : Base → Type 0) (Q : Clocks → Type 0) (p : Parts) : Type 0 where
  pub base : P p.base
  pub few : FewDevices p
  pub clocks : Q p.objects.clocks

handed_has : (P : Base → Type 0) (Q : Clocks → Type 0) (mode : Mode) (p : Parts) → TickHas P Q p → TickHas P Q (handed mode p)
handed_has P Q modes.Sync p has = has
handed_has P Q modes.Free p has = record { base = has.base; few = few_handed modes.Free p has.few; clocks = has.clocks }

settled_has : (P : Base → Type 0) (Q : Clocks → Type 0) → IsSettleProof P → (mode : Mode) (p : Parts) → TickHas P Q p → TickHas P Q (settle mode p)
settled_has P Q is mode p has = settle_keeps (TickHas P Q)
    (λ q t priority of. record { base = is.refreshed q.base t priority of.base; few = of.few; clocks = of.clocks })
    (λ q r few found of. record {
      base = (serving q r few found).ends.keeps P (of_any (IsWished q.objects.devices) P is.survives) of.base;
      few = few_served q r few found;
      clocks = subst Q (sym (serving_clocks q r found)) of.clocks;
    })
    (handed_has P Q) mode p has.few has

-- ---- events that fall due

-- after an event that is taken its task is released, and all is settled, or a handler is set again
pub fallen_keeps : (P : Base → Type 0) (Q : Clocks → Type 0) → IsSettleProof P → (mode : Mode) (st : State) (what : DueKind) → FewDevices (parts_of st) → Q st.objects.clocks →
    ((u : ℕ) → what ≡ Wait u → P (release (take_due st.base) u (limit_answer (take_due st.base) u))) →
    (((u : ℕ) → what ≡ Wait u → ⊥) → P (again (take_due st.base) st.objects.clocks what)) → TickHas P Q (parts_of (fallen mode (record st { base = take_due st.base }) what))
unfolding fallen
fallen_keeps P Q is mode st (Wait u) few clocks ended handler =
    settled_has P Q is mode (parts_of (record st { base = release (take_due st.base) u (limit_answer (take_due st.base) u) })) (record { base = ended u refl; few = few; clocks = clocks })
fallen_keeps P Q is mode st (Cyclic id) few clocks ended handler = record { base = handler (λ u named. absurd (cc named)); few = few; clocks = clocks }
fallen_keeps P Q is mode st (Alarm id) few clocks ended handler = record { base = handler (λ u named. absurd (cc named)); few = few; clocks = clocks }

-- what is done next: nothing more, or the event, and then the rest
abbrev pub next : ℕ → Mode → State → Option DueKind → State
next left mode st due =
    elim due as (λ _. State) [
      | None ↦ st
      | Some what ↦ due_done left mode (fallen mode (record st { base = take_due st.base }) what)
    ]

-- it holds after each event that was due and is done
abbrev pub Step : (Base → Type 0) → (Clocks → Type 0) → Mode → Type 0
Step P Q mode = (st : State) (what : DueKind) → due_event st.base.time st.base.events ≡ Some what → TickHas P Q (parts_of st) → TickHas P Q (parts_of (fallen mode (record st { base = take_due st.base }) what))

next_keeps : (P : Base → Type 0) (Q : Clocks → Type 0) (left : ℕ) (mode : Mode) (st : State) (due : Option DueKind) → Step P Q mode →
    ((later : State) → TickHas P Q (parts_of later) → TickHas P Q (parts_of (due_done left mode later))) → due_event st.base.time st.base.events ≡ due → TickHas P Q (parts_of st) → TickHas P Q (parts_of (next left mode st due))
next_keeps P Q left mode st None step rest is has = has
next_keeps P Q left mode st (Some what) step rest is has = rest (fallen mode (record st { base = take_due st.base }) what) (step st what is has)

done_keeps : (P : Base → Type 0) (Q : Clocks → Type 0) (mode : Mode) → Step P Q mode → (left : ℕ) (st : State) → TickHas P Q (parts_of st) →
    TickHas P Q (parts_of (due_done left mode st))
unfolding due_done
done_keeps P Q mode step zero st has = has
done_keeps P Q mode step (suc left) st has = next_keeps P Q left mode st (due_event st.base.time st.base.events) step (done_keeps P Q mode step left) refl has

-- what each event keeps that falls due in a tick, a tick keeps
pub tick_keeps : (P : Base → Type 0) (Q : Clocks → Type 0) (mode : Mode) → Step P Q mode → (st : State) → FewDevices (parts_of st) → Q st.objects.clocks → P (advance st.base) →
    TickHas P Q (parts_of (tick_state mode st))
tick_keeps P Q mode step st few clocks has = done_keeps P Q mode step (length st.base.events) (record st { base = advance st.base }) (record { base = has; few = few; clocks = clocks })

-- ---- the time and the events

-- the time is this one, and the events have this property
abbrev pub HasAt : ℕ → (List DueEvent → Type 0) → Base → Type 0
HasAt now T b = (b.time ≡ now) × T b.events

at_if : (now : ℕ) (T : List DueEvent → Type 0) (b c : Base) (waits : Bool) → HasAt now T b → HasAt now T c → HasAt now T (cond waits c b)
at_if now T b c true same other = other
at_if now T b c false same other = same

-- what holds of fewer events
abbrev pub IsOfFewer : (List DueEvent → Type 0) → Type 0
IsOfFewer T = (passes : DueEvent → Bool) (events : List DueEvent) → T events → T (filter passes events)

-- the end of a wait leaves the time, and drops its limit
pub release_at : (now : ℕ) (T : List DueEvent → Type 0) → IsOfFewer T → (b : Base) (t : ℕ) (answer : Answer) → HasAt now T b → HasAt now T (release b t answer)
release_at now T fewer b t answer has = entry_cases (HasAt now T) (task_at b t) b _ has
    (λ k at. at_if now T b _ (is_waiting_phase k.phase) has (has.0, fewer (λ event. not (ends_wait_of t event)) b.events has.1))

move_at : (now : ℕ) (T : List DueEvent → Type 0) → IsOfFewer T → (b : Base) (t object : ℕ) (order : Order) → HasAt now T b → HasAt now T (move_wait b t object order)
move_at now T fewer b t object order has = entry_cases (HasAt now T) (task_at b t) b _ has
    (λ k at. at_if now T b _ (is_waiting_phase k.phase) has (has.0, fewer (λ event. not (ends_wait_of t event)) b.events has.1))

-- settling leaves the time, and sets nothing
pub settling_at : (now : ℕ) (T : List DueEvent → Type 0) → IsOfFewer T → IsSettleProof (HasAt now T)
settling_at now T fewer = record {
  survives = record {
    released = λ b t object answer above waits has. release_at now T fewer b t answer has;
    moved = λ b t d dd least most moves waits has. move_at now T fewer b t _ _ has;
    given = λ b n has. has;
  };
  refreshed = λ b t priority has. entry_cases (HasAt now T) (task_at b t) b _ has (λ k at. has);
}

again_in_time : (b : Base) (what : DueKind) (slot : Option CyclicRow) → (again_in b what slot).time ≡ b.time
again_in_time b what None = refl
again_in_time b what (Some k) = refl

-- a handler that is set again leaves the time
pub again_time : (b : Base) (c : Clocks) (what : DueKind) → (again b c what).time ≡ b.time
unfolding again
again_time b c (Wait t) = refl
again_time b c (Cyclic id) = again_in_time b (Cyclic id) (cyclic_at c id)
again_time b c (Alarm id) = refl
