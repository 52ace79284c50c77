-- The clauses of the law: a ready task that is the first of its equals, has the priority of its definition and owns no
-- inheritance mutex stays the first of its equals.
use Rattle.std.proofs.Common.{◌≡◌, ℕ, ◌≤◌, ◌-◌, length, Option, true, false, refl, ap, ◌∙◌, sym}
use Rattle.std.specs.Prelude.{drop}
use Rattle.tk_types.specs.declared.run.Mode.{Mode}
use Rattle.tk_types.specs.declared.script.Script.{Script}
use Rattle.tk_types.specs.declared.task.Event.{Event as DueKind}
use Rattle.tk_types.specs.declared.task.Event.TheVariants as dues
use Rattle.tk_types.specs.declared.task.Flags.{Flags}
use Rattle.tk_types.specs.declared.task.Task.{Task}
use Rattle.kernel_model.specs.LawWords.Precedence.{KeepsPlace}
use Rattle.kernel_model.specs.Tasks.Base.{Base, base_in, base_of, current, current_in, is_ready, may_run, set_flags, task_at}
use Rattle.object_model.specs.Mutexes.Tables.{Mutexes}
use Rattle.object_model.specs.Mutexes.Priority.{current_of}
use Rattle.machine_model.specs.declared.turns.Turn.{Turn}
use Rattle.machine_model.specs.declared.turns.Turn.TheVariants as turns
use Rattle.machine_model.specs.States.Objects.{Parts}
use Rattle.machine_model.specs.States.State.{State, parts_of}
use Rattle.machine_model.specs.Events.Bodies.{handler_ended}
use Rattle.machine_model.specs.Events.Handlers.{due_begun, handler_begun, interrupt_begun}
use Rattle.machine_model.specs.Events.Settle.{settle}
use Rattle.machine_model.specs.Runs.Turns.{done_turn, turn_of}
use Rattle.machine_model.specs.Runs.Step.{made_pending, worked}
use Rattle.place_lemmas.proofs.Ceilings.{IsAlone, LendsNone, alone_from, alone_settles}
use Rattle.place_lemmas.proofs.Events.{Stands, stands_due_begun, stands_followed, stands_interrupt, stands_tick}
use Rattle.place_lemmas.proofs.Owned.{OwnsNone, current_owning_none, none_passes}
use Rattle.place_lemmas.proofs.Settled.{Settles, settled_place}
use Rattle.machine_lemmas.proofs.Servings.{FewDevices}
use Rattle.machine_lemmas.proofs.Walk.{pending_has}

-- the task is ready, the first of its equals, has the priority of its definition, and owns no inheritance mutex
pub record IsPreempted (t : ℕ) (p : Parts) : Type 0 where
  pub least : 1 ≤ t
  pub few : length p.objects.devices.links ≤ 9
  pub place : KeepsPlace p.base t
  pub ready : is_ready p.base t ≡ true
  pub fresh : current p.base t ≡ current_of p.base p.objects.mutexes t
  pub heirs : LendsNone t p.objects.mutexes

-- what is said of its mutexes
abbrev pub Alone : ℕ → Parts → Mutexes → Type 0
Alone t p = IsAlone t (base_in (task_at p.base t)) (current_in (task_at p.base t))

-- it stands, with its row
abbrev pub StandsAs : ℕ → Parts → Parts → Type 0
StandsAs t p q = Stands (task_at p.base t) t (Alone t p) q

-- so it stands at first
pub stands_first : (t : ℕ) (p : Parts) → IsPreempted t p → StandsAs t p p
stands_first t p is = record {
  place = record { base = record { is = refl; place = is.place }; mutexes = alone_from p.base p.objects.mutexes t is.ready is.heirs is.fresh };
  few = is.few;
}

-- and its priority by definition never differs on the way
pub settles_first : (t : ℕ) (p : Parts) → IsPreempted t p → Settles (task_at p.base t) t (Alone t p)
settles_first t p is = alone_settles (task_at p.base t) t is.least is.ready

-- what stands then is preempted still
pub preempted_then : (t : ℕ) (p q : Parts) → IsPreempted t p → StandsAs t p q → IsPreempted t q
preempted_then t p q is has = record {
  least = is.least;
  few = has.few;
  place = has.place.base.place;
  ready = ap may_run has.place.base.is ∙ is.ready;
  fresh = ap current_in has.place.base.is ∙ sym ((settles_first t p is).priority q.base q.objects.mutexes has.place.base.is has.place.mutexes);
  heirs = has.place.mutexes.heirs;
}

-- ---- a whole step

-- a turn in which no body goes on
abbrev pub IsNoStatement : Turn → Type 0
IsNoStatement turn = (turn ≡ turns.Handler → ⊥) × ((u : ℕ) → turn ≡ turns.Task u → ⊥)

stands_turn : (row : Option Task) (t : ℕ) (Q : Mutexes → Type 0) (script : Script) (mode : Mode) (n : ℕ) (st : State) (turn : Turn) → Settles row t Q →
    IsNoStatement turn → Stands row t Q (parts_of st) → Stands row t Q (parts_of (done_turn script mode n st turn).state)
unfolding done_turn
stands_turn row t Q script mode n st turns.Handler settles none has = absurd (none.0 refl)
stands_turn row t Q script mode n st (turns.Due what) settles none has = stands_due_begun row t Q n (record st { due = drop 1 st.due }) what has
stands_turn row t Q script mode n st turns.Tick settles none has = stands_tick row t Q mode n (record st { ticks = st.ticks - 1 }) settles has
stands_turn row t Q script mode n st (turns.Interrupt number) settles none has = stands_interrupt row t Q n st number has
stands_turn row t Q script mode n st (turns.Task u) settles none has = absurd (none.1 u refl)
stands_turn row t Q script mode n st turns.Idle settles none has = stands_tick row t Q mode n st settles has

-- a step with all that follows it, where no body goes on
pub stands_through_step : (row : Option Task) (t : ℕ) (Q : Mutexes → Type 0) (script : Script) (mode : Mode) (n : ℕ) (st : State) → Settles row t Q →
    IsNoStatement (turn_of (made_pending script n st)) → Stands row t Q (parts_of st) → Stands row t Q (parts_of (worked script mode n st).state)
unfolding worked
stands_through_step row t Q script mode n st settles none has =
    let pending : State = made_pending script n st in
    stands_followed row t Q script mode n (done_turn script mode n pending (turn_of pending)).state settles
    (stands_turn row t Q script mode n pending (turn_of pending) settles none (pending_has (Stands row t Q) script n st has))

-- ---- handlers alone

-- flags say nothing of places
place_flagged : (b : Base) (t : ℕ) (flags : Flags) → KeepsPlace b t → KeepsPlace (set_flags b flags) t
place_flagged b t flags is = record { before = is.before; behind = is.behind; stands = is.stands; ahead = is.ahead }

-- so the start of a handler that is due leaves every task in its place
pub due_place : (n : ℕ) (st : State) (what : DueKind) (t : ℕ) → KeepsPlace st.base t → KeepsPlace (due_begun n st what).state.base t
unfolding due_begun handler_begun
due_place n st (dues.Cyclic id) t is = place_flagged st.base t (record st.base.flags { handler = true }) is
due_place n st (dues.Alarm id) t is = place_flagged st.base t (record st.base.flags { handler = true }) is
due_place n st (dues.Wait v) t is = is

-- and that of an interrupt's handler
pub interrupt_place : (n : ℕ) (st : State) (number t : ℕ) → KeepsPlace st.base t → KeepsPlace (interrupt_begun n st number).state.base t
unfolding interrupt_begun handler_begun
interrupt_place n st number t is = place_flagged st.base t (record st.base.flags { handler = true }) is

-- and the end of a handler
pub ended_place : (st : State) (t : ℕ) → KeepsPlace st.base t → KeepsPlace (handler_ended st).base t
ended_place st t is = place_flagged st.base t (record st.base.flags { handler = false }) is

-- ---- a task that owns no mutex

-- where it has the priority of its base, that never differs from its definition on the way
pub owning_none_settles : (row : Option Task) (t : ℕ) → 1 ≤ t → may_run row ≡ true → current_in row ≡ base_in row → Settles row t (OwnsNone t)
owning_none_settles row t one ready same = record {
  least = one;
  ready = ready;
  passes = none_passes t one;
  priority = λ b m is none. current_owning_none b m t none one ∙ ap base_in is ∙ sym same;
}

-- settling leaves it owning none
pub settled_owning_none : (mode : Mode) (p : Parts) (t : ℕ) → 1 ≤ t → FewDevices p → KeepsPlace p.base t → is_ready p.base t ≡ true →
    current p.base t ≡ base_of p.base t → OwnsNone t p.objects.mutexes →
    OwnsNone t (settle mode p).objects.mutexes
settled_owning_none mode p t one few place ready same none =
    (settled_place (task_at p.base t) t (OwnsNone t) mode p (owning_none_settles (task_at p.base t) t one ready same) few (record { base = record { is = refl; place = place }; mutexes = none })).mutexes
