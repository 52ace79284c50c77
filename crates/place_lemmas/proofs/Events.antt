-- A task in its place keeps it through ticks, through the starts and the ends of handlers, through all that follows an event,
-- through the arrival of an ending, and while another task that ended frees its mutexes.
use Rattle.std.proofs.Common.{◌≡◌, ℕ, zero, suc, ◌+◌, ◌≤◌, Bool, true, false, cond, length, [], Option, Some, None, ℤ, refl, ◌∙◌, ap, subst}
use Rattle.std.specs.List.{last_or}
use Rattle.std.specs.Option.{option_map}
use Rattle.tk_types.specs.declared.answer.Answer.{Answer}
use Rattle.tk_types.specs.declared.run.Mode.{Mode}
use Rattle.tk_types.specs.declared.script.Script.{Script}
use Rattle.tk_types.specs.declared.task.Event.{Event as DueKind}
use Rattle.tk_types.specs.declared.task.Event.TheVariants as dues
use Rattle.tk_types.specs.declared.task.Flags.{Flags}
use Rattle.tk_types.specs.declared.task.Task.{Task}
use Rattle.kernel_model.specs.Words.Events.{due_event}
use Rattle.kernel_model.specs.Tasks.Base.{Base, advance, may_run, release, set_flags, take_due}
use Rattle.kernel_lemmas.proofs.Releases.{release_keeps_place, release_ready}
use Rattle.context_model.specs.declared.cyclic_row.CyclicRow.{CyclicRow}
use Rattle.context_model.specs.Clocks.Tables.{Clocks, again, again_in, cyclic_at}
use Rattle.device_model.specs.declared.messages.Ending.{Ending}
use Rattle.device_model.specs.Devices.Endings.{DevParts, arrive}
use Rattle.call_walk.proofs.DeviceCalls.{arrive_keeps}
use Rattle.device_lemmas.proofs.Walk as devices
use Rattle.object_model.specs.Mutexes.Tables.{Mutexes, free_last, freed, held}
use Rattle.mutex_laws.proofs.Freed.{ends_by, holds_owns, last_stands}
use Rattle.machine_model.specs.States.Objects.{Parts, dev_parts, with_devices}
use Rattle.machine_model.specs.States.State.{State, parts_of}
use Rattle.machine_model.specs.Events.Arrivals.{after_arrival, arrived}
use Rattle.machine_model.specs.Events.Bodies.{body_returned, returned}
use Rattle.machine_model.specs.Events.Calls.{without_holdings}
use Rattle.machine_model.specs.Events.Follow.{Event, followed}
use Rattle.machine_model.specs.Events.Handlers.{due_begun, handler_begun, interrupt_begun}
use Rattle.machine_model.specs.Events.Settle.{freed_within, settle, with_freed}
use Rattle.machine_model.specs.Events.Ticks.{due_done, fallen, limit_answer, tick}
use Rattle.machine_lemmas.proofs.FewDevices.{few_arrivals, few_moves}
use Rattle.place_lemmas.proofs.Owned.{Passes}
use Rattle.place_lemmas.proofs.Settled.{HasPlace, IsInPlace, Settles, place_seen, settled_place}
use Rattle.machine_lemmas.proofs.Servings.{FewDevices}
use Rattle.machine_lemmas.proofs.Settling.{few_settled}
use Rattle.machine_lemmas.proofs.Walk.{settled_keeps}

-- the task in its place, and at most eight devices
pub record Stands (row : Option Task) (t : ℕ) (Q : Mutexes → Type 0) (p : Parts) : Type 0 where
  pub place : IsInPlace row t Q p
  pub few : FewDevices p

-- another base with the same rows and the same order
stands_seen : (row : Option Task) (t : ℕ) (Q : Mutexes → Type 0) (p : Parts) (c : Base) → c.tasks ≡ p.base.tasks → c.order ≡ p.base.order → Stands row t Q p →
    Stands row t Q (record p { base = c })
stands_seen row t Q p c rows order has = record {
  place = record { base = place_seen row t p.base c rows order has.place.base; mutexes = has.place.mutexes };
  few = has.few;
}

-- all settles
pub stands_settled : (row : Option Task) (t : ℕ) (Q : Mutexes → Type 0) (mode : Mode) (p : Parts) → Settles row t Q → Stands row t Q p → Stands row t Q (settle mode p)
stands_settled row t Q mode p settles has = record {
  place = settled_place row t Q mode p settles has.few has.place;
  few = few_settled mode p has.few;
}

-- the end of any wait
stands_released : (row : Option Task) (t : ℕ) (Q : Mutexes → Type 0) (p : Parts) (v : ℕ) (answer : Answer) → may_run row ≡ true → Stands row t Q p →
    Stands row t Q (record p { base = release p.base v answer })
stands_released row t Q p v answer ready has =
    let now = ap may_run has.place.base.is ∙ ready in
    record {
      place = record {
        base = record { is = release_ready p.base t v answer now ∙ has.place.base.is; place = release_keeps_place p.base t v answer has.place.base.place now };
        mutexes = has.place.mutexes;
      };
      few = has.few;
    }

-- ---- what follows an event

-- all that follows, also while dispatching is delayed
pub stands_followed : (row : Option Task) (t : ℕ) (Q : Mutexes → Type 0) (script : Script) (mode : Mode) (n : ℕ) (st : State) → Settles row t Q →
    Stands row t Q (parts_of st) → Stands row t Q (parts_of (followed script mode n st).state)
stands_followed row t Q script mode n st settles has =
    settled_keeps (Stands row t Q)
    (λ p cur has. stands_seen row t Q p (record p.base { cur = cur }) refl refl has)
    (λ p has. stands_seen row t Q p (record p.base { released = [] }) refl refl has)
    script mode n st (stands_settled row t Q mode (parts_of st) settles has)

-- ---- ticks

again_rows : (b : Base) (what : DueKind) (slot : Option CyclicRow) → ((again_in b what slot).tasks ≡ b.tasks) × ((again_in b what slot).order ≡ b.order)
again_rows b what None = (refl, refl)
again_rows b what (Some k) = (refl, refl)

-- a handler is set for its next time
stands_again : (row : Option Task) (t : ℕ) (Q : Mutexes → Type 0) (p : Parts) (c : Clocks) (what : DueKind) → Stands row t Q p →
    Stands row t Q (record p { base = again p.base c what })
unfolding again
stands_again row t Q p c (dues.Wait v) has = has
stands_again row t Q p c (dues.Cyclic id) has =
    let same = again_rows p.base (dues.Cyclic id) (cyclic_at c id) in
    stands_seen row t Q p (again_in p.base (dues.Cyclic id) (cyclic_at c id)) same.0 same.1 has
stands_again row t Q p c (dues.Alarm id) has = has

stands_fallen : (row : Option Task) (t : ℕ) (Q : Mutexes → Type 0) (mode : Mode) (st : State) (what : DueKind) → Settles row t Q → Stands row t Q (parts_of st) →
    Stands row t Q (parts_of (fallen mode st what))
unfolding fallen
stands_fallen row t Q mode st (dues.Wait v) settles has = stands_settled row t Q mode _ settles (stands_released row t Q (parts_of st) v (limit_answer st.base v) settles.ready has)
stands_fallen row t Q mode st (dues.Cyclic id) settles has = stands_again row t Q (parts_of st) st.objects.clocks (dues.Cyclic id) has
stands_fallen row t Q mode st (dues.Alarm id) settles has = stands_again row t Q (parts_of st) st.objects.clocks (dues.Alarm id) has

due_cases : (P : Parts → Type 0) (left_over : ℕ) (mode : Mode) (st : State) (what : Option DueKind) → P (parts_of st) →
    ((kind : DueKind) → P (parts_of (due_done left_over mode (fallen mode (record st { base = take_due st.base }) kind)))) →
    P (parts_of (elim what as (λ _. State) [ None ↦ st | Some kind ↦ due_done left_over mode (fallen mode (record st { base = take_due st.base }) kind) ]))
due_cases P left_over mode st None has later = has
due_cases P left_over mode st (Some kind) has later = later kind

stands_due : (row : Option Task) (t : ℕ) (Q : Mutexes → Type 0) (left_over : ℕ) (mode : Mode) (st : State) → Settles row t Q → Stands row t Q (parts_of st) →
    Stands row t Q (parts_of (due_done left_over mode st))
unfolding due_done
stands_due row t Q zero mode st settles has = has
stands_due row t Q (suc left_over) mode st settles has =
    let rest : State = record st { base = take_due st.base } in
    due_cases (Stands row t Q) left_over mode st (due_event st.base.time st.base.events) has
    (λ what. stands_due row t Q left_over mode (fallen mode rest what) settles (stands_fallen row t Q mode rest what settles (stands_seen row t Q (parts_of st) (take_due st.base) refl refl has)))

-- a whole tick
pub stands_tick : (row : Option Task) (t : ℕ) (Q : Mutexes → Type 0) (mode : Mode) (n : ℕ) (st : State) → Settles row t Q → Stands row t Q (parts_of st) →
    Stands row t Q (parts_of (tick mode n st).state)
unfolding tick
stands_tick row t Q mode n st settles has =
    stands_due row t Q (length st.base.events) mode (record st { base = advance st.base }) settles (stands_seen row t Q (parts_of st) (advance st.base) refl refl has)

-- ---- handlers

stands_flagged : (row : Option Task) (t : ℕ) (Q : Mutexes → Type 0) (p : Parts) (flags : Flags) → Stands row t Q p → Stands row t Q (record p { base = set_flags p.base flags })
stands_flagged row t Q p flags has = stands_seen row t Q p (set_flags p.base flags) refl refl has

-- the start of a handler that is due
pub stands_due_begun : (row : Option Task) (t : ℕ) (Q : Mutexes → Type 0) (n : ℕ) (st : State) (what : DueKind) → Stands row t Q (parts_of st) →
    Stands row t Q (parts_of (due_begun n st what).state)
unfolding due_begun handler_begun
stands_due_begun row t Q n st (dues.Cyclic id) has = stands_flagged row t Q (parts_of st) (record st.base.flags { handler = true }) has
stands_due_begun row t Q n st (dues.Alarm id) has = stands_flagged row t Q (parts_of st) (record st.base.flags { handler = true }) has
stands_due_begun row t Q n st (dues.Wait v) has = has

-- the start of an interrupt's handler
pub stands_interrupt : (row : Option Task) (t : ℕ) (Q : Mutexes → Type 0) (n : ℕ) (st : State) (number : ℕ) → Stands row t Q (parts_of st) →
    Stands row t Q (parts_of (interrupt_begun n st number).state)
unfolding interrupt_begun handler_begun
stands_interrupt row t Q n st number has = stands_flagged row t Q (parts_of st) (record st.base.flags { handler = true }) has

returned_if : (P : Parts → Type 0) (n : ℕ) (st : State) (left_over : State) (lines : _) (none : Bool) → P (parts_of st) → P (parts_of left_over) →
    P (parts_of (cond {A = Event} none (record { state = st; lines = [] }) (record { state = left_over; lines = lines })).state)
returned_if P n st left_over lines true has then = has
returned_if P n st left_over lines false has then = then

-- the end of a handler's body, or the return of a service
pub stands_returned : (row : Option Task) (t : ℕ) (Q : Mutexes → Type 0) (n : ℕ) (st : State) (frame : ℕ) (value : ℤ) → Stands row t Q (parts_of st) →
    Stands row t Q (parts_of (body_returned n st frame value).state)
unfolding body_returned returned
stands_returned row t Q n st zero value has = stands_flagged row t Q (parts_of st) (record st.base.flags { handler = false }) has
stands_returned row t Q n st (suc u) value has =
    returned_if (Stands row t Q) n st _ _ _ has (record { place = record { base = has.place.base; mutexes = has.place.mutexes }; few = has.few })

-- ---- another task's mutexes

last_passes : (t : ℕ) (Q : Mutexes → Type 0) (m : Mutexes) (u : ℕ) (now : Mutexes) (last : Option ℕ) → Passes t Q → (u ≡ t → ⊥) → last_or None (held m u) ≡ last →
    option_map (freed m) last ≡ Some now → Q m → Q now
last_passes t Q m u now None passes apart at is has = absurd (cc is)
last_passes t Q m u now (Some id) passes apart at is has =
    let last = ends_by (held m u) id at in
    subst Q (let e : freed m id ≡ now = cc is in e) (passes.frees m id u (holds_owns m u id (last_stands id last.left (held m u) last.ends)) apart has)

free_passes : (t : ℕ) (Q : Mutexes → Type 0) (b : Base) (m : Mutexes) (u : ℕ) (now : Mutexes) → Passes t Q → (u ≡ t → ⊥) → free_last b m u ≡ Some now → Q m → Q now
unfolding free_last
free_passes t Q b m u now passes apart is has = last_passes t Q m u now (last_or None (held m u)) passes apart refl is has

stands_freed : (row : Option Task) (t : ℕ) (Q : Mutexes → Type 0) (p : Parts) (u : ℕ) (m : Mutexes) → Passes t Q → (u ≡ t → ⊥) →
    free_last p.base p.objects.mutexes u ≡ Some m → Stands row t Q p → Stands row t Q (with_freed p m)
stands_freed row t Q p u m passes apart is has = record {
  place = record { base = has.place.base; mutexes = free_passes t Q p.base p.objects.mutexes u m passes apart is has.place.mutexes };
  few = has.few;
}

freed_next : (P : Parts → Type 0) (left_over : ℕ) (mode : Mode) (u : ℕ) (p : Parts) (next : Option Mutexes) → P p →
    ((m : Mutexes) → next ≡ Some m → P (freed_within left_over mode u (settle mode (with_freed p m)))) →
    P (elim next as (λ _. Parts) [ None ↦ p | Some m ↦ freed_within left_over mode u (settle mode (with_freed p m)) ])
freed_next P left_over mode u p None has rest = has
freed_next P left_over mode u p (Some m) has rest = rest m refl

-- another task frees its mutexes, and all settles after each
pub stands_freed_within : (row : Option Task) (t : ℕ) (Q : Mutexes → Type 0) (left_over : ℕ) (mode : Mode) (u : ℕ) (p : Parts) → Settles row t Q → (u ≡ t → ⊥) →
    Stands row t Q p → Stands row t Q (freed_within left_over mode u p)
unfolding freed_within
stands_freed_within row t Q zero mode u p settles apart has = has
stands_freed_within row t Q (suc left_over) mode u p settles apart has =
    freed_next (Stands row t Q) left_over mode u p (free_last p.base p.objects.mutexes u) has
    (λ m is. stands_freed_within row t Q left_over mode u (settle mode (with_freed p m)) settles apart (stands_settled row t Q mode (with_freed p m) settles (stands_freed row t Q p u m settles.passes apart is has)))

-- another task that ended leaves its services, and frees its mutexes
pub stands_holdings : (row : Option Task) (t : ℕ) (Q : Mutexes → Type 0) (mode : Mode) (st : State) (u : ℕ) → Settles row t Q → (u ≡ t → ⊥) →
    Stands row t Q (parts_of st) → Stands row t Q (parts_of (without_holdings mode st u))
stands_holdings row t Q mode st zero settles apart has = has
stands_holdings row t Q mode st (suc u) settles apart has =
    stands_freed_within row t Q 64 mode (suc u) _ settles apart (record { place = record { base = has.place.base; mutexes = has.place.mutexes }; few = has.few })

-- ---- endings of requests

pub few_arrived : (q : DevParts) (found : Option DevParts) → found ≡ Some q → devices.Kept (λ dv. length dv.links ≤ 9) found → length q.table.links ≤ 9
few_arrived q None is few = absurd (cc is)
few_arrived q (Some r) is few = let same : r ≡ q = cc is in subst (λ (it : DevParts). length it.table.links ≤ 9) same few

-- an ending is noted at its device
stands_noted : (row : Option Task) (t : ℕ) (Q : Mutexes → Type 0) (p : Parts) (e : Ending) (q : DevParts) → arrive (dev_parts p) e ≡ Some q → Stands row t Q p →
    Stands row t Q (with_devices p q)
stands_noted row t Q p e q is has = record {
  place = record { base = arrive_keeps (HasPlace row t) (dev_parts p) e q is has.place.base; mutexes = has.place.mutexes };
  few = few_arrived q (arrive (dev_parts p) e) is (devices.arrival_keeps (λ dv. length dv.links ≤ 9) few_moves few_arrivals (dev_parts p) e has.few);
}

arrival_cases : (row : Option Task) (t : ℕ) (Q : Mutexes → Type 0) (script : Script) (mode : Mode) (st : State) (e : Ending) (event : Event) (found : Option DevParts) →
    Settles row t Q → arrive (dev_parts (parts_of st)) e ≡ found →
    option_map (after_arrival script mode (st.steps + 1) st e) found ≡ Some event → Stands row t Q (parts_of st) → Stands row t Q (parts_of event.state)
arrival_cases row t Q script mode st e event None settles at is has = absurd (cc is)
arrival_cases row t Q script mode st e event (Some q) settles at is has =
    let same : after_arrival script mode (st.steps + 1) st e q ≡ event = cc is in
    subst (λ (left : Event). Stands row t Q (parts_of left.state)) same
    (stands_followed row t Q script mode (st.steps + 1) _ settles (stands_noted row t Q (parts_of st) e q at has))

-- an ending that arrives, with all that follows it
pub stands_arrived : (row : Option Task) (t : ℕ) (Q : Mutexes → Type 0) (script : Script) (mode : Mode) (st : State) (e : Ending) (event : Event) → Settles row t Q →
    arrived script mode st e ≡ Some event → Stands row t Q (parts_of st) → Stands row t Q (parts_of event.state)
unfolding arrived
stands_arrived row t Q script mode st e event settles is has = arrival_cases row t Q script mode st e event (arrive (dev_parts (parts_of st)) e) settles refl is has
