-- A call that is on neither tasks nor mutexes leaves a ready task in its place, whoever makes it: the task itself, where it is
-- ready still, another task, or a handler.
use Rattle.std.proofs.Common.{◌≡◌, ℕ, ◌≤◌, Bool, true, false, cond, length, Option, ℤ, pos, zero, suc, refl, sym, subst}
use Rattle.std.specs.Ordering.{int_eq}
use Rattle.tk_types.specs.declared.answer.Outcome.{Outcome}
use Rattle.tk_types.specs.declared.answer.Outcome.TheVariants as outcomes
use Rattle.tk_types.specs.declared.calls.Call.{Call}
use Rattle.tk_types.specs.declared.calls.Call.TheVariants as calls
use Rattle.tk_types.specs.declared.calls.ContextCall.{ContextCall}
use Rattle.tk_types.specs.declared.calls.ContextCall.TheVariants as context
use Rattle.tk_types.specs.declared.calls.MutexCall.{MutexCall}
use Rattle.tk_types.specs.declared.calls.TaskCall.{TaskCall}
use Rattle.tk_types.specs.declared.calls.TimeCall.{TimeCall}
use Rattle.tk_types.specs.declared.calls.TimeCall.TheVariants as time
use Rattle.tk_types.specs.declared.run.Mode.{Mode}
use Rattle.tk_types.specs.declared.script.Script.{Script}
use Rattle.tk_types.specs.declared.task.Task.{Task}
use Rattle.kernel_model.specs.Tasks.Base.{is_ready, may_run}
use Rattle.kernel_model.specs.Bodies.Statements.{give}
use Rattle.object_model.specs.Mutexes.Tables.{Mutexes}
use Rattle.device_lemmas.proofs.Walk as devices
use Rattle.machine_model.specs.States.Objects.{Parts, dev_parts, mail_parts, pool_parts}
use Rattle.machine_model.specs.States.State.{State, frame_of, parts_of, who_of, with_frame}
use Rattle.machine_model.specs.Events.Bodies.{entered, noted, undefined, withdrawn}
use Rattle.machine_model.specs.Events.Calls.{answered, called, ended_by, family_call, without_holdings}
use Rattle.machine_model.specs.Events.Follow.{followed}
use Rattle.machine_lemmas.proofs.FewDevices.{few_moves}
use Rattle.place_lemmas.proofs.Contexts.{context_calls_keep}
use Rattle.place_lemmas.proofs.Devices.{device_calls_keep}
use Rattle.place_lemmas.proofs.Events.{Stands, stands_followed}
use Rattle.place_lemmas.proofs.Mails.{mail_calls_keep}
use Rattle.place_lemmas.proofs.Moves.{PlaceIfReady, place_passes}
use Rattle.place_lemmas.proofs.Pools.{pool_calls_keep}
use Rattle.place_lemmas.proofs.SemFlags.{sem_flag_calls_keep}
use Rattle.place_lemmas.proofs.Settled.{HasPlace, Settles}
use Rattle.place_lemmas.proofs.Times.{time_calls_keep}
use Rattle.machine_lemmas.proofs.Servings.{FewDevices}

-- the task stands in its place, where it is ready
abbrev pub StandsIf : Option Task → ℕ → (Mutexes → Type 0) → Parts → Type 0
StandsIf row t Q p = is_ready p.base t ≡ true → Stands row t Q p

-- a call on no tasks
abbrev pub IsNoTask : Call → Type 0
IsNoTask call = (it : TaskCall) → call ≡ calls.Task it → ⊥

-- a call on neither tasks nor mutexes
abbrev pub IsOther : Call → Type 0
IsOther call = IsNoTask call × ((it : MutexCall) → call ≡ calls.Mutex it → ⊥)

-- the base has the task in its place where it is ready, and the mutexes are as they were
stands_if : (row : Option Task) (t : ℕ) (Q : Mutexes → Type 0) (p : Parts) → PlaceIfReady row t p.base → Q p.objects.mutexes → FewDevices p → StandsIf row t Q p
stands_if row t Q p place mutexes few now = record { place = record { base = place now; mutexes = mutexes }; few = few }

-- what the call of a family leaves
family_stands : (row : Option Task) (t : ℕ) (Q : Mutexes → Type 0) (st : State) (u : ℕ) (c : Call) → may_run row ≡ true → IsOther c → Stands row t Q (parts_of st) →
    StandsIf row t Q (parts_of (family_call st u c).state)
unfolding family_call
family_stands row t Q st u (calls.Task c) ready other has = absurd (other.0 c refl)
family_stands row t Q st u (calls.SemFlag c) ready other has =
    stands_if row t Q _
    (sem_flag_calls_keep (HasPlace row t) (PlaceIfReady row t) (place_passes row t ready) st.base st.objects.sem_flags (who_of u) c has.place.base) has.place.mutexes has.few
family_stands row t Q st u (calls.Mutex c) ready other has = absurd (other.1 c refl)
family_stands row t Q st u (calls.Mail c) ready other has =
    stands_if row t Q _
    (mail_calls_keep (HasPlace row t) (PlaceIfReady row t) (place_passes row t ready) (mail_parts (parts_of st)) (who_of u) c has.place.base) has.place.mutexes has.few
family_stands row t Q st u (calls.Pool c) ready other has =
    stands_if row t Q _
    (pool_calls_keep (HasPlace row t) (PlaceIfReady row t) (place_passes row t ready) (pool_parts (parts_of st)) (who_of u) c has.place.base) has.place.mutexes has.few
family_stands row t Q st u (calls.Time c) ready other has =
    stands_if row t Q _ (time_calls_keep (HasPlace row t) (PlaceIfReady row t) (place_passes row t ready) st.base st.objects.clocks c has.place.base) has.place.mutexes has.few
family_stands row t Q st u (calls.Context c) ready other has =
    stands_if row t Q _
    (context_calls_keep (HasPlace row t) (PlaceIfReady row t) (place_passes row t ready) st.base st.objects.contexts (who_of u) c has.place.base) has.place.mutexes has.few
family_stands row t Q st u (calls.Device c) ready other has =
    stands_if row t Q _ (device_calls_keep (HasPlace row t) (PlaceIfReady row t) (place_passes row t ready) (dev_parts (parts_of st)) (who_of u) c has.place.base) has.place.mutexes
    (devices.calls_keep (λ dv. length dv.links ≤ 9) few_moves (dev_parts (parts_of st)) (who_of u) c has.few)
family_stands row t Q st u (calls.Hook c) ready other has = stands_if row t Q _ (λ now. has.place.base) has.place.mutexes has.few

-- ---- what follows from the answer

state_if : (P : State → Type 0) (test : Bool) (a b : State) → P a → P b → P (cond test a b)
state_if P true a b first second = first
state_if P false a b first second = second

abbrev Has : (Parts → Type 0) → State → Type 0
Has P st = P (parts_of st)

withdrawn_has : (P : Parts → Type 0) (st : State) (c : TimeCall) → Has P st → Has P (withdrawn st c)
withdrawn_has P st (time.DelCyc id) has = has
withdrawn_has P st (time.DelAlm id) has = has
withdrawn_has P st _ has = has

undefined_has : (P : Parts → Type 0) (st : State) (c : ContextCall) → Has P st → Has P (undefined st c)
undefined_has P st (context.DefInt number zero) has = has
undefined_has P st (context.DefInt number (suc body)) has = has
undefined_has P st context.DisDsp has = has
undefined_has P st context.EnaDsp has = has
undefined_has P st context.Di has = has
undefined_has P st context.Ei has = has
undefined_has P st context.RefSys has = has
undefined_has P st (context.DefSsy number body) has = has
undefined_has P st (context.RefSsy number) has = has
undefined_has P st (context.Svc number value) has = has

noted_has : (P : Parts → Type 0) (st : State) (u : ℕ) (c : Call) (value : ℤ) → IsNoTask c → Has P st → Has P (noted st u c value)
noted_has P st u (calls.Task c) value other has = absurd (other c refl)
noted_has P st u (calls.Time c) value other has = state_if (Has P) (int_eq value (pos 0)) (withdrawn st c) st (withdrawn_has P st c has) has
noted_has P st u (calls.Context c) value other has = state_if (Has P) (int_eq value (pos 0)) (undefined st c) st (undefined_has P st c has) has
noted_has P st u _ value other has = has

answered_has : (P : Parts → Type 0) (st : State) (u : ℕ) (c : Call) (outcome : Outcome) → IsNoTask c → Has P st → Has P (answered st u c outcome)
unfolding answered entered
answered_has P st u c (outcomes.Returned result) other has = noted_has P (with_frame st u (give (frame_of st u) result)) u c result.value other has
answered_has P st u c outcomes.Blocked other has = has
answered_has P st u c (outcomes.Entered body) other has = has

ends_none : (u : ℕ) (c : Call) (outcome : Outcome) → IsNoTask c → ended_by u c outcome ≡ 0
ends_none u (calls.Task c) outcome other = absurd (other c refl)
ends_none u (calls.SemFlag c) outcome other = refl
ends_none u (calls.Mutex c) outcome other = refl
ends_none u (calls.Mail c) outcome other = refl
ends_none u (calls.Pool c) outcome other = refl
ends_none u (calls.Time c) outcome other = refl
ends_none u (calls.Context c) outcome other = refl
ends_none u (calls.Device c) outcome other = refl
ends_none u (calls.Hook c) outcome other = refl

-- ---- the call

-- what a family's call leaves, a call on no tasks leaves
pub called_has : (P : Parts → Type 0) (mode : Mode) (n : ℕ) (st : State) (u : ℕ) (c : Call) → IsNoTask c → P (parts_of (family_call st u c).state) →
    P (parts_of (called mode n st u c).state)
unfolding called
called_has P mode n st u c other has =
    let done = family_call st u c in
    answered_has P (without_holdings mode done.state (ended_by u c done.outcome)) u c done.outcome other
    (subst (λ (ended : ℕ). P (parts_of (without_holdings mode done.state ended))) (sym (ends_none u c done.outcome other)) has)

-- a call, before what follows it
pub called_stands : (row : Option Task) (t : ℕ) (Q : Mutexes → Type 0) (mode : Mode) (n : ℕ) (st : State) (u : ℕ) (c : Call) → may_run row ≡ true → IsOther c →
    Stands row t Q (parts_of st) → StandsIf row t Q (parts_of (called mode n st u c).state)
called_stands row t Q mode n st u c ready other has = called_has (StandsIf row t Q) mode n st u c other.0 (family_stands row t Q st u c ready other has)

-- and with all that follows it
pub called_followed : (row : Option Task) (t : ℕ) (Q : Mutexes → Type 0) (script : Script) (mode : Mode) (n : ℕ) (st : State) (u : ℕ) (c : Call) → Settles row t Q →
    IsOther c → Stands row t Q (parts_of st) →
    is_ready (called mode n st u c).state.base t ≡ true → Stands row t Q (parts_of (followed script mode n (called mode n st u c).state).state)
called_followed row t Q script mode n st u c settles other has now =
    stands_followed row t Q script mode n (called mode n st u c).state settles (called_stands row t Q mode n st u c settles.ready other has now)
