-- A ready task whose priority isn't above that of its definition never gets a higher one while others are served, nor while their
-- waits end or their mutexes are freed: it may only sink. So where its priority is the same behind all that as before, it was the
-- same all the while, no new stamp was taken, and the task keeps its place; whatever mutexes it owns.
use Rattle.std.proofs.Common.{◌≡◌, ℕ, zero, suc, ◌-◌, ◌≤◌, Bool, true, false, not, ◌&&◌, cond, List, [], ◌∷◌, Option, Some, None, pos, refl, ◌∙◌, ap, sym, subst, arith}
use Rattle.std.specs.Bool.{◌==◌}
use Rattle.std.specs.Prelude.{drop, fold, nat_le, nat_lt, slice_set}
use Rattle.std.specs.List.{last_or}
use Rattle.std.specs.Option.{option_map}
use Rattle.std.proofs.lemmas.Bool.Decides.{nat_tests}
use Rattle.tk_types.specs.declared.answer.Answer.{Answer}
use Rattle.tk_types.specs.declared.run.Mode.{Mode}
use Rattle.tk_types.specs.declared.run.Mode.TheVariants as modes
use Rattle.tk_types.specs.declared.task.Order.{Order}
use Rattle.tk_types.specs.declared.task.Order.TheVariants.{Fifo}
use Rattle.tk_types.specs.declared.task.Phase.{Phase}
use Rattle.tk_types.specs.declared.task.Phase.TheVariants.{Dormant, Ready, Waiting}
use Rattle.tk_types.specs.declared.task.Task.{Task}
use Rattle.kernel_model.specs.LawWords.Precedence.{KeepsPlace}
use Rattle.kernel_model.specs.Words.Checks.{plain}
use Rattle.kernel_model.specs.Words.Orders.{entry, taken_from}
use Rattle.kernel_model.specs.SemFlags.Tables.{serve_sem_flag}
use Rattle.kernel_model.specs.Tasks.Base.{Base, base_in, current, current_in, is_dormant_phase, is_ready, is_ready_phase, is_waiting_phase, may_run, move_wait, release, task_at, waits_for, waits_somewhere}
use Rattle.kernel_lemmas.proofs.Releases.{release_keeps_place, release_over, release_ready}
use Rattle.kernel_lemmas.proofs.Tables.{entry_cases, entry_each, entry_other, entry_split, entry_there}
use Rattle.object_model.specs.declared.mutexes.Mutex.{Mutex}
use Rattle.object_model.specs.Mails.Boxes.{serve_mailboxes}
use Rattle.object_model.specs.Mails.Buffers.{serve_buffers}
use Rattle.object_model.specs.Mutexes.Priority.{capped, current_of, is_alive, own, resettle}
use Rattle.object_model.specs.Mutexes.Tables.{MutexParts, Mutexes, awaited_in, awaited_in_phase, free_last, freed, held, locked, mutex_at, mutex_object, mutex_waiters, serve_mutex, serve_mutex_at, serve_mutex_of, serve_mutexes, owner_of}
use Rattle.object_model.specs.Pools.Fixed.{serve_fixed_pools}
use Rattle.object_model.specs.Pools.Variable.{serve_variable_pools}
use Rattle.device_model.specs.Devices.Requests.{acceptance_object, ending_object}
use Rattle.device_model.specs.Devices.Servings.{serve_acceptances, serve_closes, serve_endings, serve_suspension}
use Rattle.mutex_laws.proofs.Alike.{IsLike, current_alike}
use Rattle.mutex_laws.proofs.Resettled.{resettled_current, resettled_place, resettled_rows, row_with}
use Rattle.machine_model.specs.States.Objects.{Parts, dev_parts, first_serving, mail_parts, pool_parts, serve_object, with_devices, with_mails, with_mutexes, with_pools, with_sem_flags}
use Rattle.machine_model.specs.Events.Settle.{freed_within, handed, refreshed, served_within, settle, with_freed}
use Rattle.machine_lemmas.proofs.Changes.{IsEnding, Survives}
use Rattle.machine_lemmas.proofs.DeviceServings.{acceptances_serving, closes_serving, endings_serving, suspension_serving}
use Rattle.machine_lemmas.proofs.Finding.{first_from, first_waits}
use Rattle.machine_lemmas.proofs.KnownDevices.{IsWished}
use Rattle.machine_lemmas.proofs.ObjectServings.{boxes_serving, buffers_serving, fixed_pools_serving, sem_flag_serving, variable_pools_serving}
use Rattle.machine_lemmas.proofs.Servings.{FewDevices, serving}
use Rattle.machine_lemmas.proofs.Settling.{few_handed, few_served, next_served}
use Rattle.place_lemmas.proofs.Fewer.{IsIdled, ids_written, row_sinks}
use Rattle.place_lemmas.proofs.Lending.{free_sinks, freed_none, lock_sinks, locked_none, locked_others, locked_owns}
use Rattle.place_lemmas.proofs.Owned.{ready_apart}
use Rattle.place_lemmas.proofs.Settled.{HasPlace, place_seen, place_survives}

-- ---- rows

ready_phase_lives : (phase : Phase) (free : Bool) → (is_ready_phase phase && free) ≡ true → not (is_dormant_phase phase) ≡ true
ready_phase_lives Ready free ready = refl
ready_phase_lives Dormant free ready = absurd (cc ready)
ready_phase_lives (Waiting object) free ready = absurd (cc ready)

-- a task that is ready is alive
pub ready_lives : (o : Option Task) → may_run o ≡ true → is_alive o ≡ true
ready_lives None ready = absurd (cc ready)
ready_lives (Some k) ready = ready_phase_lives k.phase (k.suspensions == 0) ready

waiting_lives : (phase : Phase) → is_waiting_phase phase ≡ true → not (is_dormant_phase phase) ≡ true
waiting_lives Dormant waits = absurd (cc waits)
waiting_lives Ready waits = absurd (cc waits)
waiting_lives (Waiting object) waits = refl

ending_awaits : (object : ℕ) (low high : Bool) → nat_le 256 object ≡ low → nat_lt object 320 ≡ high → 320 ≤ object → cond (low && high) (object - 255) 0 ≡ 0
ending_awaits object true true at below above = absurd (grind (arith, nat_tests, below, above))
ending_awaits object true false at below above = refl
ending_awaits object false high at below above = refl

-- a wait for an ending is for no mutex
awaits_none : (dd : ℕ) → awaited_in_phase (Waiting (ending_object dd)) ≡ 0
awaits_none dd = ending_awaits (ending_object dd) (nat_le 256 (ending_object dd)) (nat_lt (ending_object dd) 320) refl refl (omega arith)

chosen_if : (P : Base → Type 0) (waits : Bool) (now b : Base) → (waits ≡ true → P now) → P b → P (cond waits now b)
chosen_if P true now b moved has = moved refl
chosen_if P false now b moved has = has

-- the end of a wait makes no task's priority higher
pub release_sinks : (b : Base) (m : Mutexes) (t v : ℕ) (answer : Answer) → is_alive (task_at b t) ≡ true → mutex_at m 0 ≡ None → current_of b m t ≤ current_of (release b v answer) m t
unfolding current_of
release_sinks b m t v answer lives none =
    entry_split (λ c. current_of b m t ≤ current_of c m t) (task_at b v) b _ (λ absent. omega arith)
    (λ k at. chosen_if (λ c. current_of b m t ≤ current_of c m t) (is_waiting_phase k.phase) _ b
    (λ waits. row_sinks b m t v k (record k { phase = Ready }) at (record { lives = waiting_lives k.phase waits; lives_still = refl; base = refl; awaits = refl }) lives none)
    (omega arith))

-- nor does a wait that goes on for an ending
move_sinks : (b : Base) (m : Mutexes) (t v dd : ℕ) → is_alive (task_at b t) ≡ true → mutex_at m 0 ≡ None → current_of b m t ≤ current_of (move_wait b v (ending_object dd) Fifo) m t
unfolding current_of
move_sinks b m t v dd lives none =
    entry_split (λ c. current_of b m t ≤ current_of c m t) (task_at b v) b _ (λ absent. omega arith)
    (λ k at. chosen_if (λ c. current_of b m t ≤ current_of c m t) (is_waiting_phase k.phase) _ b
    (λ waits. row_sinks b m t v k (record k { phase = Waiting (ending_object dd); queue = Fifo }) at (record { lives = waiting_lives k.phase waits; lives_still = refl; base = refl; awaits = awaits_none dd }) lives none)
    (omega arith))

moved_row : (b : Base) (t v object : ℕ) (order : Order) → (v ≡ t → ⊥) → task_at (move_wait b v object order) t ≡ task_at b t
moved_row b t v object order apart =
    entry_cases (λ c. task_at c t ≡ task_at b t) (task_at b v) b _ refl
    (λ k at. chosen_if (λ c. task_at c t ≡ task_at b t) (is_waiting_phase k.phase) _ b (λ waits. entry_other b.tasks v t (Some (record k { phase = Waiting object; queue = order })) (λ e. apart (sym e))) refl)

-- ---- what is known of the task

-- it is ready, and its priority isn't above that of its definition
pub record Lags (t : ℕ) (p : Parts) : Type 0 where
  pub least : 1 ≤ t
  pub few : FewDevices p
  pub ready : is_ready p.base t ≡ true
  pub lag : current p.base t ≤ current_of p.base p.objects.mutexes t
  pub none : mutex_at p.objects.mutexes 0 ≡ None

-- from one state to another it only sinks, and keeps its place where it doesn't
pub record Sinks (t : ℕ) (p q : Parts) : Type 0 where
  pub lags : Lags t q
  pub sinks : current p.base t ≤ current q.base t
  pub place : KeepsPlace p.base t → current q.base t ≡ current p.base t → KeepsPlace q.base t

pub sinks_itself : (t : ℕ) (p : Parts) → Lags t p → Sinks t p p
sinks_itself t p lags = record { lags = lags; sinks = omega arith; place = λ is same. is }

pub sinks_then : (t : ℕ) (p q r : Parts) → Sinks t p q → Sinks t q r → Sinks t p r
sinks_then t p q r first then =
    let one = first.sinks in
    let other = then.sinks in
    record {
      lags = then.lags;
      sinks = omega (arith, one, other);
      place = λ is same. then.place (first.place is (omega (arith, one, other, same))) (omega (arith, one, other, same));
    }

-- ---- another base with the same rows and the same order

tasks_like : (b c : Base) → c.tasks ≡ b.tasks → IsLike b c
tasks_like b c same = record {
  lives = λ u. ap (λ tasks. is_alive (entry tasks u)) same;
  bases = λ u. ap (λ tasks. base_in (entry tasks u)) same;
  awaits = λ u. ap (λ tasks. awaited_in (entry tasks u)) same;
  ids = ap (λ tasks. taken_from 1 (drop 1 tasks)) same;
}

pub sinks_seen : (t : ℕ) (p : Parts) (c : Base) → c.tasks ≡ p.base.tasks → c.order ≡ p.base.order → Lags t p → Sinks t p (record p { base = c })
sinks_seen t p c rows order lags =
    let row : task_at c t ≡ task_at p.base t = ap (λ tasks. entry tasks t) rows in
    let now : current c t ≡ current p.base t = ap current_in row in
    let defined = current_alike p.base c p.objects.mutexes t (tasks_like p.base c rows) in
    let lag = lags.lag in
    record {
      lags = record { least = lags.least; few = lags.few; ready = ap may_run row ∙ lags.ready; lag = omega (arith, now, defined, lag); none = lags.none };
      sinks = omega (arith, now);
      place = λ is same. (place_seen (task_at p.base t) t p.base c rows order (record { is = refl; place = is })).place;
    }

-- ---- changed priorities are taken over

pub set_current_in : (n : ℕ) (o : Option Task) → may_run o ≡ true → current_in (row_with n o) ≡ n
set_current_in n None ready = absurd (cc ready)
set_current_in n (Some k) ready = refl

pub set_ready : (n : ℕ) (o : Option Task) → may_run (row_with n o) ≡ may_run o
set_ready n None = refl
set_ready n (Some k) = refl

pub sinks_refreshed : (t : ℕ) (p : Parts) → Lags t p → Sinks t p (refreshed p)
sinks_refreshed t p lags =
    let m : Mutexes = p.objects.mutexes in
    let n : ℕ = current_of p.base m t in
    let row = resettled_rows p.base m t lags.least in
    let now : current (resettle p.base m) t ≡ n = ap current_in row ∙ set_current_in n (task_at p.base t) lags.ready in
    let fresh = resettled_current p.base m t lags.least in
    let lag = lags.lag in
    record {
      lags = record { least = lags.least; few = lags.few; ready = ap may_run row ∙ set_ready n (task_at p.base t) ∙ lags.ready; lag = omega (arith, fresh); none = lags.none };
      sinks = omega (arith, now, lag);
      place = λ is same. resettled_place p.base m t is (sym same ∙ now);
    }

-- ---- somebody is served

-- the same tasks live, with the same bases
pub record AreSame (rows now : List (Option Task)) : Type 0 where
  pub lives : (u : ℕ) → is_alive (entry now u) ≡ is_alive (entry rows u)
  pub bases : (u : ℕ) → base_in (entry now u) ≡ base_in (entry rows u)
  pub ids : taken_from 1 (drop 1 now) ≡ taken_from 1 (drop 1 rows)

abbrev pub IsSame : Base → Base → Type 0
IsSame b c = AreSame b.tasks c.tasks

same_then : (a b c : List (Option Task)) → AreSame a b → AreSame b c → AreSame a c
same_then a b c first then = record { lives = λ u. then.lives u ∙ first.lives u; bases = λ u. then.bases u ∙ first.bases u; ids = then.ids ∙ first.ids }

row_same : (rows : List (Option Task)) (v : ℕ) (k now : Task) → entry rows v ≡ Some k → IsIdled k now → AreSame rows (slice_set rows v (Some now))
row_same rows v k now at is =
    let here : entry (slice_set rows v (Some now)) v ≡ Some now = entry_there rows v k (Some now) at in
    record {
      lives = entry_each (λ u o. is_alive o ≡ is_alive (entry rows u)) rows v (Some now) (ap is_alive here ∙ is.lives_still ∙ sym (ap is_alive at ∙ is.lives)) (λ u apart. refl);
      bases = entry_each (λ u o. base_in o ≡ base_in (entry rows u)) rows v (Some now) (ap base_in here ∙ is.base ∙ sym (ap base_in at)) (λ u apart. refl);
      ids = ids_written v rows k now at;
    }

itself_same : (rows : List (Option Task)) → AreSame rows rows
itself_same rows = record { lives = λ u. refl; bases = λ u. refl; ids = refl }

release_same : (b : Base) (v : ℕ) (answer : Answer) → IsSame b (release b v answer)
release_same b v answer =
    entry_split (IsSame b) (task_at b v) b _ (λ absent. itself_same b.tasks)
    (λ k at. chosen_if (IsSame b) (is_waiting_phase k.phase) _ b
    (λ waits. row_same b.tasks v k (record k { phase = Ready }) at (record { lives = waiting_lives k.phase waits; lives_still = refl; base = refl; awaits = refl })) (itself_same b.tasks))

move_same : (b : Base) (v dd : ℕ) → IsSame b (move_wait b v (ending_object dd) Fifo)
move_same b v dd =
    entry_split (IsSame b) (task_at b v) b _ (λ absent. itself_same b.tasks)
    (λ k at. chosen_if (IsSame b) (is_waiting_phase k.phase) _ b
    (λ waits. row_same b.tasks v k (record k { phase = Waiting (ending_object dd); queue = Fifo }) at (record { lives = waiting_lives k.phase waits; lives_still = refl; base = refl; awaits = awaits_none dd })) (itself_same b.tasks))

same_through : (b : Base) (may : ℕ → Type 0) → Survives may (IsSame b)
same_through b may = record {
  released = λ c v object answer high waits has. same_then b.tasks c.tasks (release c v answer).tasks has (release_same c v answer);
  moved = λ c v d dd least most moves waits has. same_then b.tasks c.tasks (move_wait c v (ending_object dd) Fifo).tasks has (move_same c v dd);
  given = λ c bytes has. has;
}

-- the task's row stays, its priority by definition isn't higher, and there is no mutex 0. The same tasks live, what somebody owns
-- stays, and nobody's priority by itself is lower
pub record Passes (t : ℕ) (p q : Parts) : Type 0 where
  pub row : task_at q.base t ≡ task_at p.base t
  pub defined : current_of p.base p.objects.mutexes t ≤ current_of q.base q.objects.mutexes t
  pub none : mutex_at q.objects.mutexes 0 ≡ None
  pub same : IsSame p.base q.base
  pub owned : (id : ℕ) → (owner_of p.objects.mutexes id ≡ 0 → ⊥) → mutex_at q.objects.mutexes id ≡ mutex_at p.objects.mutexes id
  pub owns : (u : ℕ) → 1 ≤ u → own q.base q.objects.mutexes u ≤ own p.base p.objects.mutexes u

-- the same of the base alone
record Stays (row : Option Task) (t n : ℕ) (m : Mutexes) (b : Base) : Type 0 where
  pub is : task_at b t ≡ row
  pub above : n ≤ current_of b m t

stays_through : (row : Option Task) (t n : ℕ) (m : Mutexes) (may : ℕ → Type 0) → may_run row ≡ true → mutex_at m 0 ≡ None → Survives may (Stays row t n m)
stays_through row t n m may ready none = record {
  released = λ b v object answer high waits has.
      let now : is_ready b t ≡ true = ap may_run has.is ∙ ready in
      let above = has.above in
      let more = release_sinks b m t v answer (ready_lives (task_at b t) now) none in
      record { is = release_ready b t v answer now ∙ has.is; above = omega (arith, above, more) };
  moved = λ b v d dd least most moves waits has.
      let now : is_ready b t ≡ true = ap may_run has.is ∙ ready in
      let above = has.above in
      let more = move_sinks b m t v dd (ready_lives (task_at b t) now) none in
      record { is = moved_row b t v (ending_object dd) Fifo (ready_apart b t v (acceptance_object d) now waits) ∙ has.is; above = omega (arith, above, more) };
  given = λ b bytes has. given_stays b bytes has;
}
  where
    given_stays : (b : Base) (bytes : ℕ) → Stays row t n m b → Stays row t n m (record b { bytes = b.bytes - bytes })
    given_stays b bytes has = let same = current_alike b (record b { bytes = b.bytes - bytes }) m t (tasks_like b (record b { bytes = b.bytes - bytes }) refl) in let above = has.above in record { is = has.is; above = omega (arith, above, same) }

own_same : (b c : Base) (m : Mutexes) (u : ℕ) → IsSame b c → own c m u ≡ own b m u
own_same b c m u is = ap (λ base. fold (capped m) base (held m u)) (is.bases u)

-- a serving that leaves the mutexes
base_passes : (t : ℕ) (p q : Parts) (may : ℕ → Type 0) → Lags t p → IsEnding may p.base q.base → q.objects.mutexes ≡ p.objects.mutexes → Passes t p q
base_passes t p q may lags is mutexes =
    let m : Mutexes = p.objects.mutexes in
    let after = is.keeps (Stays (task_at p.base t) t (current_of p.base m t) m) (stays_through (task_at p.base t) t (current_of p.base m t) m may lags.ready lags.none) (record { is = refl; above = omega arith }) in
    let kept = is.keeps (IsSame p.base) (same_through p.base may) (itself_same p.base.tasks) in
    let above = after.above in
    let same : current_of q.base q.objects.mutexes t ≡ current_of q.base m t = ap (λ n. current_of q.base n t) mutexes in
    record {
      row = after.is;
      defined = omega (arith, above, same);
      none = ap (λ n. mutex_at n 0) mutexes ∙ lags.none;
      same = kept;
      owned = λ id owner. ap (λ n. mutex_at n id) mutexes;
      owns = λ u one. let alike : own q.base q.objects.mutexes u ≡ own p.base m u = ap (λ n. own q.base n u) mutexes ∙ own_same p.base q.base m u kept in omega (arith, alike);
    }

abbrev pub IfPasses : ℕ → Parts → Option Parts → Type 0
IfPasses t p None = Unit {0}
IfPasses t p (Some q) = Passes t p q

mapped_passes : {A : Type 0} → (t : ℕ) (p : Parts) (put : A → Parts) (served : Option A) → ((left : A) → served ≡ Some left → Passes t p (put left)) → IfPasses t p (option_map put served)
mapped_passes t p put None each = tt
mapped_passes t p put (Some left) each = each left refl

two_pass : (t : ℕ) (p : Parts) (here next : Option Parts) → IfPasses t p here → IfPasses t p next → IfPasses t p (elim here as (λ _. Option Parts) [ Some served ↦ Some served | None ↦ next ])
two_pass t p (Some served) next first later = first
two_pass t p None next first later = later

idle_row : (o : Option Task) → waits_somewhere o ≡ false → awaited_in o ≡ 0
idle_row None idle = refl
idle_row (Some k) idle = idle_phase k.phase idle
  where
    idle_phase : (phase : Phase) → is_waiting_phase phase ≡ false → awaited_in_phase phase ≡ 0
    idle_phase Dormant idle = refl
    idle_phase Ready idle = refl
    idle_phase (Waiting object) idle = absurd (cc idle)

-- a waiter gets a mutex that was free
waiter_passes : (t : ℕ) (p : Parts) (id w : ℕ) (k : Mutex) → Lags t p → mutex_at p.objects.mutexes id ≡ Some k → k.owner ≡ 0 → waits_for p.base (mutex_object id) w ≡ true →
    Passes t p (with_mutexes p (record { base = release p.base w (plain (pos 0)); table = locked p.objects.mutexes id k w }))
waiter_passes t p id w k lags at free waits =
    let m : Mutexes = p.objects.mutexes in
    let c : Base = release p.base w (plain (pos 0)) in
    let apart : w ≡ t → ⊥ = ready_apart p.base t w (mutex_object id) lags.ready waits in
    let row : task_at c t ≡ task_at p.base t = release_ready p.base t w (plain (pos 0)) lags.ready in
    let ended = release_sinks p.base m t w (plain (pos 0)) (ready_lives (task_at p.base t) lags.ready) lags.none in
    let owned = lock_sinks c m t id w k lags.least at free apart (idle_row (task_at c w) (release_over p.base w (plain (pos 0)))) (ap is_alive row ∙ ready_lives (task_at p.base t) lags.ready) lags.none in
    record {
      row = row;
      defined = omega (arith, ended, owned);
      none = locked_none m id w k at lags.none;
      same = release_same p.base w (plain (pos 0));
      owned = λ other owner. locked_others m id w other k at free owner;
      owns = λ u one.
          let alike = own_same p.base c m u (release_same p.base w (plain (pos 0))) in
          let less = locked_owns c m id w u k at free one in
          omega (arith, alike, less);
    }

of_waiters : (t : ℕ) (p : Parts) (id : ℕ) (k : Mutex) (left : MutexParts) (waiters : List ℕ) → Lags t p → mutex_at p.objects.mutexes id ≡ Some k → k.owner ≡ 0 → mutex_waiters p.base k id ≡ waiters →
    serve_mutex_of p.base p.objects.mutexes id k waiters ≡ Some left → Passes t p (with_mutexes p left)
of_waiters t p id k left [] lags at free is served = absurd (cc served)
of_waiters t p id k left (w ∷ rest) lags at free is served =
    let e : record { base = release p.base w (plain (pos 0)); table = locked p.objects.mutexes id k w } ≡ left = cc served in
    subst (λ (it : MutexParts). Passes t p (with_mutexes p it)) e (waiter_passes t p id w k lags at free (first_waits k.order p.base (mutex_object id) w rest is))

by_owner : (P : Type 0) (k : Mutex) (left : MutexParts) (free : Bool) (served : Option MutexParts) → (k.owner == 0) ≡ free → cond free served None ≡ Some left → (k.owner ≡ 0 → served ≡ Some left → P) → P
by_owner P k left true served at is by = by (grind (arith, nat_tests, at)) is
by_owner P k left false served at is by = absurd (cc is)

of_slot : (t : ℕ) (p : Parts) (id : ℕ) (left : MutexParts) (slot : Option Mutex) → Lags t p → mutex_at p.objects.mutexes id ≡ slot → serve_mutex_at p.base p.objects.mutexes id slot ≡ Some left → Passes t p (with_mutexes p left)
of_slot t p id left None lags at served = absurd (cc served)
of_slot t p id left (Some k) lags at served =
    by_owner (Passes t p (with_mutexes p left)) k left (k.owner == 0) (serve_mutex_of p.base p.objects.mutexes id k (mutex_waiters p.base k id)) refl served
    (λ free is. of_waiters t p id k left (mutex_waiters p.base k id) lags at free refl is)

of_mutex : (t : ℕ) (p : Parts) (id : ℕ) (left : MutexParts) → Lags t p → serve_mutex p.base p.objects.mutexes id ≡ Some left → Passes t p (with_mutexes p left)
unfolding serve_mutex
of_mutex t p id left lags served = of_slot t p id left (mutex_at p.objects.mutexes id) lags refl served

mutexes_pass : (t : ℕ) (p : Parts) (left : MutexParts) → Lags t p → serve_mutexes p.base p.objects.mutexes ≡ Some left → Passes t p (with_mutexes p left)
unfolding serve_mutexes
mutexes_pass t p left lags is = let from = first_from (serve_mutex p.base p.objects.mutexes) left (drop 1 p.objects.mutexes.table) is in of_mutex t p from.id left lags from.at

pub serving_passes : (t : ℕ) (p : Parts) → Lags t p → IfPasses t p (serve_object p)
unfolding serve_object first_serving
serving_passes t p lags =
    let b : Base = p.base in
    let wished : ℕ → Type 0 = IsWished p.objects.devices in
    two_pass t p _ _ (mapped_passes t p (with_sem_flags p) (serve_sem_flag b p.objects.sem_flags) (λ l at. base_passes t p (with_sem_flags p l) _ lags (sem_flag_serving b p.objects.sem_flags l at).ends refl))
    (two_pass t p _ _ (mapped_passes t p (with_mails p) (serve_mailboxes (mail_parts p)) (λ l at. base_passes t p (with_mails p l) _ lags (boxes_serving (mail_parts p) l at).ends refl))
    (two_pass t p _ _ (mapped_passes t p (with_mutexes p) (serve_mutexes b p.objects.mutexes) (λ l at. mutexes_pass t p l lags at))
    (two_pass t p _ _ (mapped_passes t p (with_mails p) (serve_buffers (mail_parts p)) (λ l at. base_passes t p (with_mails p l) _ lags (buffers_serving (mail_parts p) l at).ends refl))
    (two_pass t p _ _ (mapped_passes t p (with_pools p) (serve_fixed_pools (pool_parts p)) (λ l at. base_passes t p (with_pools p l) _ lags (fixed_pools_serving (pool_parts p) l at).ends refl))
    (two_pass t p _ _ (mapped_passes t p (with_pools p) (serve_variable_pools (pool_parts p)) (λ l at. base_passes t p (with_pools p l) _ lags (variable_pools_serving (pool_parts p) l at).ends refl))
    (two_pass t p _ _ (mapped_passes t p (with_devices p) (serve_acceptances (dev_parts p)) (λ l at. base_passes t p (with_devices p l) wished lags (acceptances_serving (dev_parts p) l lags.few at).ends refl))
    (two_pass t p _ _ (mapped_passes t p (with_devices p) (serve_endings (dev_parts p)) (λ l at. base_passes t p (with_devices p l) wished lags (endings_serving (dev_parts p) l at).ends refl))
    (two_pass t p _ _ (mapped_passes t p (with_devices p) (serve_closes (dev_parts p)) (λ l at. base_passes t p (with_devices p l) wished lags (closes_serving (dev_parts p) l at).ends refl))
    (two_pass t p _ None (mapped_passes t p (with_devices p) (serve_suspension (dev_parts p)) (λ l at. base_passes t p (with_devices p l) wished lags (suspension_serving (dev_parts p) l at).ends refl)) tt)))))))))

pub passes_of : (t : ℕ) (p q : Parts) (served : Option Parts) → served ≡ Some q → IfPasses t p served → Passes t p q
passes_of t p q None is passes = absurd (cc is)
passes_of t p q (Some left) is passes = let e : left ≡ q = cc is in subst (Passes t p) e passes

pub sinks_served : (t : ℕ) (p q : Parts) → serve_object p ≡ Some q → Lags t p → Sinks t p q
sinks_served t p q is lags =
    let passes = passes_of t p q (serve_object p) is (serving_passes t p lags) in
    let now : current q.base t ≡ current p.base t = ap current_in passes.row in
    let defined = passes.defined in
    let lag = lags.lag in
    record {
      lags = record { least = lags.least; few = few_served p q lags.few is; ready = ap may_run passes.row ∙ lags.ready; lag = omega (arith, now, defined, lag); none = passes.none };
      sinks = omega (arith, now);
      place = λ place same. ((serving p q lags.few is).ends.keeps (HasPlace (task_at p.base t) t) (place_survives (task_at p.base t) t lags.ready (IsWished p.objects.devices)) (record { is = refl; place = place })).place;
    }

-- ---- all settles

next_sinks : (t left : ℕ) (p : Parts) (next : Option Parts) → serve_object p ≡ next → Lags t p → ((q : Parts) → Lags t q → Sinks t q (served_within left q)) → Sinks t p (next_served left p next)
next_sinks t left p None is lags rest = sinks_itself t p lags
next_sinks t left p (Some q) is lags rest =
    let one = sinks_served t p q is lags in
    let two = sinks_refreshed t q one.lags in
    sinks_then t p q (served_within left (refreshed q)) one (sinks_then t q (refreshed q) (served_within left (refreshed q)) two (rest (refreshed q) two.lags))

within_sinks : (t left : ℕ) (p : Parts) → Lags t p → Sinks t p (served_within left p)
unfolding served_within
within_sinks t zero p lags = sinks_itself t p lags
within_sinks t (suc left) p lags = next_sinks t left p (serve_object p) refl lags (within_sinks t left)

pub handed_sinks : (t : ℕ) (mode : Mode) (p : Parts) → Lags t p → Sinks t p (handed mode p)
handed_sinks t modes.Sync p lags = sinks_itself t p lags
handed_sinks t modes.Free p lags = record {
  lags = record { least = lags.least; few = few_handed modes.Free p lags.few; ready = lags.ready; lag = lags.lag; none = lags.none };
  sinks = omega arith;
  place = λ is same. is;
}

-- the task only sinks, and keeps its place where it doesn't
pub settle_sinks : (t : ℕ) (mode : Mode) (p : Parts) → Lags t p → Sinks t p (settle mode p)
unfolding settle
settle_sinks t mode p lags =
    let one = sinks_refreshed t p lags in
    let two = within_sinks t 512 (refreshed p) one.lags in
    let three = handed_sinks t mode (served_within 512 (refreshed p)) two.lags in
    sinks_then t p (refreshed p) (handed mode (served_within 512 (refreshed p))) one (sinks_then t (refreshed p) (served_within 512 (refreshed p)) (handed mode (served_within 512 (refreshed p))) two three)

-- ---- the end of any wait

pub release_sinks_all : (t : ℕ) (p : Parts) (v : ℕ) (answer : Answer) → Lags t p → Sinks t p (record p { base = release p.base v answer })
release_sinks_all t p v answer lags =
    let row : task_at (release p.base v answer) t ≡ task_at p.base t = release_ready p.base t v answer lags.ready in
    let now : current (release p.base v answer) t ≡ current p.base t = ap current_in row in
    let more = release_sinks p.base p.objects.mutexes t v answer (ready_lives (task_at p.base t) lags.ready) lags.none in
    let lag = lags.lag in
    record {
      lags = record { least = lags.least; few = lags.few; ready = ap may_run row ∙ lags.ready; lag = omega (arith, now, more, lag); none = lags.none };
      sinks = omega (arith, now);
      place = λ is same. release_keeps_place p.base t v answer is lags.ready;
    }

-- ---- mutexes that are freed

last_sinks : (t : ℕ) (p : Parts) (now : Mutexes) (last : Option ℕ) → option_map (freed p.objects.mutexes) last ≡ Some now → Lags t p → Sinks t p (with_freed p now)
last_sinks t p now None is lags = absurd (cc is)
last_sinks t p now (Some id) is lags =
    let e : freed p.objects.mutexes id ≡ now = cc is in
    let more = free_sinks p.base p.objects.mutexes t id (ready_lives (task_at p.base t) lags.ready) in
    let lag = lags.lag in
    subst (λ (m : Mutexes). Sinks t p (with_freed p m)) e (record {
      lags = record { least = lags.least; few = lags.few; ready = lags.ready; lag = omega (arith, more, lag); none = freed_none p.objects.mutexes id lags.none };
      sinks = omega arith;
      place = λ is same. is;
    })

free_last_sinks : (t : ℕ) (p : Parts) (u : ℕ) (now : Mutexes) → free_last p.base p.objects.mutexes u ≡ Some now → Lags t p → Sinks t p (with_freed p now)
unfolding free_last
free_last_sinks t p u now is lags = last_sinks t p now (last_or None (held p.objects.mutexes u)) is lags

freed_next : (t left : ℕ) (mode : Mode) (u : ℕ) (p : Parts) (next : Option Mutexes) → free_last p.base p.objects.mutexes u ≡ next → Lags t p →
    ((q : Parts) → Lags t q → Sinks t q (freed_within left mode u q)) →
    Sinks t p (elim next as (λ _. Parts) [ None ↦ p | Some m ↦ freed_within left mode u (settle mode (with_freed p m)) ])
freed_next t left mode u p None is lags rest = sinks_itself t p lags
freed_next t left mode u p (Some m) is lags rest =
    let one = free_last_sinks t p u m is lags in
    let two = settle_sinks t mode (with_freed p m) one.lags in
    let now : Parts = settle mode (with_freed p m) in
    sinks_then t p (with_freed p m) (freed_within left mode u now) one (sinks_then t (with_freed p m) now (freed_within left mode u now) two (rest now two.lags))

-- a task that ended frees its mutexes, and all settles after each
pub freed_sinks : (t left : ℕ) (mode : Mode) (u : ℕ) (p : Parts) → Lags t p → Sinks t p (freed_within left mode u p)
unfolding freed_within
freed_sinks t zero mode u p lags = sinks_itself t p lags
freed_sinks t (suc left) mode u p lags = freed_next t left mode u p (free_last p.base p.objects.mutexes u) refl lags (freed_sinks t left mode u)
