-- A ready task whose priority is the same behind an event as before keeps its place, whatever mutexes it owns. Settling gives each
-- ready task the priority of its definition at once, and no serving changes that.
use Rattle.std.proofs.Common.{◌≡◌, ℕ, zero, suc, ◌+◌, ◌≤◌, Bool, true, false, cond, List, Option, Some, None, pos, refl, ◌∙◌, ap, sym, subst, arith}
use Rattle.std.specs.Option.{option_map}
use Rattle.std.specs.Ordering.{int_eq}
use Rattle.tk_types.specs.declared.answer.Outcome.{Outcome}
use Rattle.tk_types.specs.declared.answer.Outcome.TheVariants as outcomes
use Rattle.tk_types.specs.declared.calls.Call.{Call}
use Rattle.tk_types.specs.declared.calls.Call.TheVariants as calls
use Rattle.tk_types.specs.declared.calls.MutexCall.{MutexCall}
use Rattle.tk_types.specs.declared.calls.TaskCall.{TaskCall}
use Rattle.tk_types.specs.declared.run.Mode.{Mode}
use Rattle.tk_types.specs.declared.run.Mode.TheVariants as modes
use Rattle.tk_types.specs.declared.script.Script.{Script}
use Rattle.tk_types.specs.declared.task.Task.{Task}
use Rattle.kernel_model.specs.LawWords.Precedence.{KeepsPlace}
use Rattle.kernel_model.specs.Bodies.Statements.{IsRunnable}
use Rattle.kernel_model.specs.Tasks.Base.{Base, current, current_in, is_ready, may_run, task_at}
use Rattle.object_model.specs.Mutexes.Calls.{task_call_beside}
use Rattle.object_model.specs.Mutexes.Priority.{current_of, resettle}
use Rattle.device_model.specs.declared.messages.Ending.{Ending}
use Rattle.device_model.specs.Devices.Endings.{DevParts, arrive}
use Rattle.call_walk.proofs.DeviceCalls.{arrive_base}
use Rattle.mutex_laws.proofs.Alike.{current_alike}
use Rattle.mutex_laws.proofs.Resettled.{resettle_like, resettled_current, resettled_rows}
use Rattle.machine_model.specs.States.Objects.{Parts, dev_parts, serve_object, with_devices}
use Rattle.machine_model.specs.States.State.{State, parts_of, who_of, with_parts}
use Rattle.machine_model.specs.Events.Arrivals.{after_arrival, arrived}
use Rattle.machine_model.specs.Events.Calls.{called, ended_by, ended_in, family_call, without_holdings}
use Rattle.machine_model.specs.Events.Follow.{Event, followed}
use Rattle.machine_model.specs.Events.Settle.{handed, refreshed, served_within, settle}
use Rattle.machine_model.specs.Runs.Reached.{Move, state_after}
use Rattle.machine_lemmas.proofs.ReachedRest.{reached_slots}
use Rattle.machine_lemmas.proofs.Settling.{next_served}
use Rattle.machine_lemmas.proofs.Walk.{kept_called, of_kept, settled_keeps}
use Rattle.table_lemmas.proofs.ReachedShort.{AllShort, HasShort, reached_short, served_short, short_is_kept, there}
use Rattle.place_lemmas.proofs.Calls.{StandsIf, called_has, called_stands}
use Rattle.place_lemmas.proofs.Events.{Stands}
use Rattle.place_lemmas.proofs.Exact.{served_alike}
use Rattle.place_lemmas.proofs.Moves.{PlaceIfReady, place_passes}
use Rattle.place_lemmas.proofs.Mutexes.{mutex_calls_keep}
use Rattle.place_lemmas.proofs.Settled.{HasPlace}
use Rattle.place_lemmas.proofs.SinkEvents.{sinks_followed}
use Rattle.place_lemmas.proofs.Sinks.{Lags, passes_of, serving_passes, set_current_in, set_ready, settle_sinks, sinks_refreshed, sinks_served}
use Rattle.place_lemmas.proofs.Tasks.{TakesNoPlace, answered_stands, task_call_place}
use Rattle.paragraph_laws.proofs.StillWaits.{served_waits}
use Rattle.paragraph_laws.proofs.Zeros.{HasNone, none_is_kept, reached_zeroless}
use Rattle.machine_laws.specs.Formed.{IsFormed}

-- ---- what holds of the parts

all_short : (p : Parts) → IsFormed p → AllShort p
all_short p is = record {
  sem_flags = record { sems = is.short.sems; flags = is.short.flags };
  mutexes = is.short.mutexes;
  mails = record { boxes = is.short.boxes; buffers = is.short.buffers };
  pools = record { fixed = is.short.fixed; variable = is.short.variable };
}

has_short : (p : Parts) → IsFormed p → HasShort p
has_short p is = record { short = all_short p is; slots = record { base = is.slots; few = is.devices } }

has_none : (p : Parts) → IsFormed p → HasNone p
has_none p is = record { base = record { none = is.task; place = is.place }; mutexes = is.mutex; few = is.devices }

formed_by : (p : Parts) → HasShort p → HasNone p → IsFormed p
formed_by p has none = record {
  devices = none.few;
  slots = has.slots.base;
  short = record {
    sems = has.short.sem_flags.sems;
    flags = has.short.sem_flags.flags;
    boxes = has.short.mails.boxes;
    mutexes = has.short.mutexes;
    buffers = has.short.mails.buffers;
    fixed = has.short.pools.fixed;
    variable = has.short.pools.variable;
  };
  task = none.base.none;
  place = none.base.place;
  mutex = none.mutexes;
}

-- a call leaves them so
pub called_formed : (mode : Mode) (n : ℕ) (st : State) (u : ℕ) (c : Call) → IsFormed (parts_of st) → IsFormed (parts_of (called mode n st u c).state)
called_formed mode n st u c is =
    formed_by (parts_of (called mode n st u c).state)
    (kept_called HasShort (of_kept HasShort short_is_kept) mode n st u c (has_short (parts_of st) is))
    (kept_called HasNone (of_kept HasNone none_is_kept) mode n st u c (has_none (parts_of st) is))

-- so they are in every state that a machine comes to
pub reached_formed : (script : Script) (mode : Mode) (budget : ℕ) (moves : List Move) → IsRunnable script → IsFormed (parts_of (state_after script mode budget moves))
reached_formed script mode budget moves runnable =
    let slots = reached_slots script mode budget moves runnable in
    let zeroless = reached_zeroless script mode budget moves runnable in
    record {
      devices = slots.few;
      slots = slots.base;
      short = reached_short script mode budget moves runnable;
      task = zeroless.base.none;
      place = zeroless.base.place;
      mutex = zeroless.mutexes;
    }

pub lags_of : (t : ℕ) (p : Parts) → 1 ≤ t → IsFormed p → is_ready p.base t ≡ true → current p.base t ≤ current_of p.base p.objects.mutexes t → Lags t p
lags_of t p one is ready lag = record { least = one; few = is.devices; ready = ready; lag = lag; none = is.mutex }

-- ---- settling gives the priority of the definition at once

lags_refreshed : (t : ℕ) (p : Parts) → 1 ≤ t → IsFormed p → is_ready p.base t ≡ true → Lags t (refreshed p)
lags_refreshed t p one is ready =
    let n : ℕ = current_of p.base p.objects.mutexes t in
    let row = resettled_rows p.base p.objects.mutexes t one in
    let fresh = resettled_current p.base p.objects.mutexes t one in
    record { least = one; few = is.devices; ready = ap may_run row ∙ set_ready n (task_at p.base t) ∙ ready; lag = omega (arith, fresh); none = is.mutex }

current_refreshed : (t : ℕ) (p : Parts) → 1 ≤ t → is_ready p.base t ≡ true → current (refreshed p).base t ≡ current_of p.base p.objects.mutexes t
current_refreshed t p one ready = ap current_in (resettled_rows p.base p.objects.mutexes t one) ∙ set_current_in (current_of p.base p.objects.mutexes t) (task_at p.base t) ready

defined_refreshed : (t : ℕ) (p : Parts) → current_of (refreshed p).base (refreshed p).objects.mutexes t ≡ current_of p.base p.objects.mutexes t
defined_refreshed t p = current_alike p.base (resettle p.base p.objects.mutexes) p.objects.mutexes t (resettle_like p.base p.objects.mutexes)

-- the task has this priority, by definition too
record Has (t n : ℕ) (p : Parts) : Type 0 where
  lags : Lags t p
  short : AllShort p
  now : current p.base t ≡ n
  defined : current_of p.base p.objects.mutexes t ≡ n

served_has : (t n : ℕ) (p q : Parts) → serve_object p ≡ Some q → Has t n p → Has t n (refreshed q)
served_has t n p q is has =
    let one = sinks_served t p q is has.lags in
    let two = sinks_refreshed t q one.lags in
    let passes = passes_of t p q (serve_object p) is (serving_passes t p has.lags) in
    let same = served_alike t p q has.lags passes (λ u id least most waits owned. served_waits u id p q has.short least most waits owned is) in
    let short = there q (serve_object p) is (served_short p has.short) in
    record {
      lags = two.lags;
      short = record { sem_flags = short.sem_flags; mutexes = short.mutexes; mails = short.mails; pools = short.pools };
      now = current_refreshed t q has.lags.least one.lags.ready ∙ same ∙ has.defined;
      defined = defined_refreshed t q ∙ same ∙ has.defined;
    }

next_has : (t n left : ℕ) (p : Parts) (next : Option Parts) → serve_object p ≡ next → Has t n p → ((q : Parts) → Has t n q → current (served_within left q).base t ≡ n) → current (next_served left p next).base t ≡ n
next_has t n left p None is has rest = has.now
next_has t n left p (Some q) is has rest = rest (refreshed q) (served_has t n p q is has)

within_has : (t n left : ℕ) (p : Parts) → Has t n p → current (served_within left p).base t ≡ n
unfolding served_within
within_has t n zero p has = has.now
within_has t n (suc left) p has = next_has t n left p (serve_object p) refl has (within_has t n left)

handed_current : (t n : ℕ) (mode : Mode) (p : Parts) → current p.base t ≡ n → current (handed mode p).base t ≡ n
handed_current t n modes.Sync p is = is
handed_current t n modes.Free p is = is

-- settling gives a ready task the priority that it has by definition before it
pub settled_defined : (mode : Mode) (p : Parts) (t : ℕ) → 1 ≤ t → IsFormed p → is_ready p.base t ≡ true → current (settle mode p).base t ≡ current_of p.base p.objects.mutexes t
unfolding settle
settled_defined mode p t one is ready =
    let n : ℕ = current_of p.base p.objects.mutexes t in
    let short = all_short p is in
    handed_current t n mode (served_within 512 (refreshed p))
    (within_has t n 512 (refreshed p) (record {
      lags = lags_refreshed t p one is ready;
      short = record { sem_flags = short.sem_flags; mutexes = short.mutexes; mails = short.mails; pools = short.pools };
      now = current_refreshed t p one ready;
      defined = defined_refreshed t p;
    }))

-- so where that is the one that it has, it keeps its place
pub settled_owner : (mode : Mode) (p : Parts) (t : ℕ) → 1 ≤ t → IsFormed p → KeepsPlace p.base t → is_ready p.base t ≡ true → current (settle mode p).base t ≡ current p.base t → KeepsPlace (settle mode p).base t
settled_owner mode p t one is place ready same =
    let now = settled_defined mode p t one is ready in
    (settle_sinks t mode p (lags_of t p one is ready (omega (arith, now, same)))).place place same

-- ---- what follows an event

pub followed_defined : (script : Script) (mode : Mode) (n : ℕ) (st : State) (t : ℕ) → 1 ≤ t → IsFormed (parts_of st) → is_ready st.base t ≡ true →
    current (followed script mode n st).state.base t ≡ current_of st.base st.objects.mutexes t
followed_defined script mode n st t one is ready =
    settled_keeps (λ (q : Parts). current q.base t ≡ current_of st.base st.objects.mutexes t) (λ p cur has. has) (λ p has. has) script mode n st (settled_defined mode (parts_of st) t one is ready)

pub followed_owner : (script : Script) (mode : Mode) (n : ℕ) (st : State) (t : ℕ) → 1 ≤ t → IsFormed (parts_of st) → KeepsPlace st.base t → is_ready st.base t ≡ true →
    current (followed script mode n st).state.base t ≡ current st.base t → KeepsPlace (followed script mode n st).state.base t
followed_owner script mode n st t one is place ready same =
    let now = followed_defined script mode n st t one is ready in
    (sinks_followed t script mode n st (lags_of t (parts_of st) one is ready (omega (arith, now, same)))).place place same

-- ---- calls

-- a ready task in its place, with its row and at most eight devices
abbrev Standing : Option Task → ℕ → Parts → Type 0
Standing row t p = Stands row t (λ m. Unit {0}) p

standing_first : (t : ℕ) (p : Parts) → IsFormed p → KeepsPlace p.base t → Standing (task_at p.base t) t p
standing_first t p is place = record { place = record { base = record { is = refl; place = place }; mutexes = tt }; few = is.devices }

mutex_stands : (row : Option Task) (t : ℕ) (mode : Mode) (n : ℕ) (st : State) (u : ℕ) (c : MutexCall) → may_run row ≡ true → Standing row t (parts_of st) → StandsIf row t (λ m. Unit {0}) (parts_of (called mode n st u (calls.Mutex c)).state)
unfolding family_call
mutex_stands row t mode n st u c ready has =
    called_has (StandsIf row t (λ m. Unit {0})) mode n st u (calls.Mutex c) (λ it same. cc same)
    (λ now. record {
      place = record { base = mutex_calls_keep (HasPlace row t) (PlaceIfReady row t) (place_passes row t ready) st.base st.objects.mutexes (who_of u) c has.place.base now; mutexes = tt };
      few = has.few;
    })

-- a call on no tasks leaves the task so, whoever makes it, where the task is ready still
call_stands : (row : Option Task) (t : ℕ) (mode : Mode) (n : ℕ) (st : State) (u : ℕ) (c : Call) → may_run row ≡ true → ((it : TaskCall) → c ≡ calls.Task it → ⊥) → Standing row t (parts_of st) →
    StandsIf row t (λ m. Unit {0}) (parts_of (called mode n st u c).state)
call_stands row t mode n st u (calls.Mutex c) ready other has = mutex_stands row t mode n st u c ready has
call_stands row t mode n st u (calls.Task c) ready other has = absurd (other c refl)
call_stands row t mode n st u (calls.SemFlag c) ready other has = called_stands row t (λ m. Unit {0}) mode n st u (calls.SemFlag c) ready (other, λ it same. cc same) has
call_stands row t mode n st u (calls.Mail c) ready other has = called_stands row t (λ m. Unit {0}) mode n st u (calls.Mail c) ready (other, λ it same. cc same) has
call_stands row t mode n st u (calls.Pool c) ready other has = called_stands row t (λ m. Unit {0}) mode n st u (calls.Pool c) ready (other, λ it same. cc same) has
call_stands row t mode n st u (calls.Time c) ready other has = called_stands row t (λ m. Unit {0}) mode n st u (calls.Time c) ready (other, λ it same. cc same) has
call_stands row t mode n st u (calls.Context c) ready other has = called_stands row t (λ m. Unit {0}) mode n st u (calls.Context c) ready (other, λ it same. cc same) has
call_stands row t mode n st u (calls.Device c) ready other has = called_stands row t (λ m. Unit {0}) mode n st u (calls.Device c) ready (other, λ it same. cc same) has
call_stands row t mode n st u (calls.Hook c) ready other has = called_stands row t (λ m. Unit {0}) mode n st u (calls.Hook c) ready (other, λ it same. cc same) has

pub called_owner : (mode : Mode) (n : ℕ) (st : State) (u : ℕ) (c : Call) (t : ℕ) → IsFormed (parts_of st) → KeepsPlace st.base t → is_ready st.base t ≡ true → ((it : TaskCall) → c ≡ calls.Task it → ⊥) →
    is_ready (called mode n st u c).state.base t ≡ true → KeepsPlace (called mode n st u c).state.base t
called_owner mode n st u c t is place ready other now = (call_stands (task_at st.base t) t mode n st u c ready other (standing_first t (parts_of st) is place) now).place.base.place

-- what stands so is in its place once all has followed, where its priority is the same then
standing_followed : (script : Script) (mode : Mode) (n : ℕ) (before now : State) (t : ℕ) → 1 ≤ t → IsFormed (parts_of now) → is_ready before.base t ≡ true → Standing (task_at before.base t) t (parts_of now) →
    current (followed script mode n now).state.base t ≡ current before.base t → KeepsPlace (followed script mode n now).state.base t
standing_followed script mode n before now t one is ready stands same =
    followed_owner script mode n now t one is stands.place.base.place (ap may_run stands.place.base.is ∙ ready) (same ∙ sym (ap current_in stands.place.base.is))

-- with all that follows it, where the task's priority is the same then
pub called_followed_owner : (script : Script) (mode : Mode) (n : ℕ) (st : State) (u : ℕ) (c : Call) (t : ℕ) → 1 ≤ t → IsFormed (parts_of st) → KeepsPlace st.base t → is_ready st.base t ≡ true →
    ((it : TaskCall) → c ≡ calls.Task it → ⊥) → is_ready (called mode n st u c).state.base t ≡ true →
    current (followed script mode n (called mode n st u c).state).state.base t ≡ current st.base t → KeepsPlace (followed script mode n (called mode n st u c).state).state.base t
called_followed_owner script mode n st u c t one is place ready other now same =
    standing_followed script mode n st (called mode n st u c).state t one (called_formed mode n st u c is) ready (call_stands (task_at st.base t) t mode n st u c ready other (standing_first t (parts_of st) is place) now) same

-- ---- calls on tasks

none_if : (n : ℕ) (test : Bool) → n ≡ 0 → cond test n 0 ≡ 0
none_if n true is = is
none_if n false is = refl

ends_nobody : (u : ℕ) (it : TaskCall) (outcome : Outcome) → ended_in u it ≡ 0 → ended_by u (calls.Task it) outcome ≡ 0
ends_nobody u it (outcomes.Returned result) none = none_if (ended_in u it) (int_eq result.value (pos 0)) none
ends_nobody u it outcomes.Blocked none = refl
ends_nobody u it (outcomes.Entered body) none = refl

task_stands : (t : ℕ) (mode : Mode) (n : ℕ) (st : State) (u : ℕ) (it : TaskCall) → 1 ≤ t → is_ready st.base t ≡ true → TakesNoPlace st.base (who_of u) t it → ended_in u it ≡ 0 →
    task_at (task_call_beside st.base st.objects.mutexes (who_of u) it).base t ≡ task_at st.base t → Standing (task_at st.base t) t (parts_of st) → Standing (task_at st.base t) t (parts_of (called mode n st u (calls.Task it)).state)
unfolding called family_call
task_stands t mode n st u it one ready keeps nobody same has =
    let done = family_call st u (calls.Task it) in
    let row : Option Task = task_at st.base t in
    answered_stands row t (λ m. Unit {0}) (without_holdings mode done.state (ended_by u (calls.Task it) done.outcome)) u it done.outcome ready (λ e. omega (arith, nobody, one, e))
    (subst (λ (ended : ℕ). Standing row t (parts_of (without_holdings mode done.state ended))) (sym (ends_nobody u it done.outcome nobody))
    (record {
      place = record {
        base = record { is = same; place = task_call_place st.base st.objects.mutexes (who_of u) t it has.place.base.place ready keeps (ap may_run same ∙ ready) (ap current_in same) };
        mutexes = tt;
      };
      few = has.few;
    }))

-- a call on tasks that ends nobody, takes no place of the task and leaves its row, with all that follows it
pub task_followed_owner : (script : Script) (mode : Mode) (n : ℕ) (st : State) (u : ℕ) (it : TaskCall) (t : ℕ) → 1 ≤ t → IsFormed (parts_of st) → KeepsPlace st.base t → is_ready st.base t ≡ true →
    TakesNoPlace st.base (who_of u) t it → ended_in u it ≡ 0 → task_at (task_call_beside st.base st.objects.mutexes (who_of u) it).base t ≡ task_at st.base t →
    current (followed script mode n (called mode n st u (calls.Task it)).state).state.base t ≡ current st.base t → KeepsPlace (followed script mode n (called mode n st u (calls.Task it)).state).state.base t
task_followed_owner script mode n st u it t one is place ready keeps nobody row same =
    standing_followed script mode n st (called mode n st u (calls.Task it)).state t one (called_formed mode n st u (calls.Task it) is) ready
    (task_stands t mode n st u it one ready keeps nobody row (standing_first t (parts_of st) is place)) same

-- ---- endings of requests

arrival_owner : (script : Script) (mode : Mode) (st : State) (e : Ending) (event : Event) (found : Option DevParts) (t : ℕ) → arrive (dev_parts (parts_of st)) e ≡ found →
    option_map (after_arrival script mode (st.steps + 1) st e) found ≡ Some event → 1 ≤ t → IsFormed (parts_of st) → KeepsPlace st.base t → is_ready st.base t ≡ true → current event.state.base t ≡ current st.base t → KeepsPlace event.state.base t
arrival_owner script mode st e event None t at is one formed place ready same = absurd (cc is)
arrival_owner script mode st e event (Some q) t at is one formed place ready same =
    let now : State = with_parts st (with_devices (parts_of st) q) in
    let comes : after_arrival script mode (st.steps + 1) st e q ≡ event = cc is in
    let base : q.base ≡ st.base = arrive_base (dev_parts (parts_of st)) q e at in
    let still : IsFormed (parts_of now) =
    formed_by (parts_of now) (short_is_kept.arrived (parts_of st) e q at (has_short (parts_of st) formed)) (none_is_kept.arrived (parts_of st) e q at (has_none (parts_of st) formed)) in
    subst (λ (it : Event). current it.state.base t ≡ current st.base t → KeepsPlace it.state.base t) comes
    (λ after. followed_owner script mode (st.steps + 1) now t one still (subst (λ (b : Base). KeepsPlace b t) (sym base) place) (ap (λ (b : Base). is_ready b t) base ∙ ready)
    (after ∙ sym (ap (λ (b : Base). current b t) base))) same

pub arrived_owner : (script : Script) (mode : Mode) (st : State) (e : Ending) (event : Event) (t : ℕ) → 1 ≤ t → IsFormed (parts_of st) → KeepsPlace st.base t → is_ready st.base t ≡ true →
    arrived script mode st e ≡ Some event → current event.state.base t ≡ current st.base t → KeepsPlace event.state.base t
unfolding arrived
arrived_owner script mode st e event t one formed place ready is same = arrival_owner script mode st e event (arrive (dev_parts (parts_of st)) e) t refl is one formed place ready same
