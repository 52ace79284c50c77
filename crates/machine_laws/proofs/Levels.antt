-- Which calls change priorities while nobody owns a mutex: each task has the priority of its base then, and every call but
-- `tk_chg_pri` leaves it so; `tk_loc_mtx` alone makes an owner.
use Rattle.std.proofs.Common.{◌≡◌, ℕ, zero, suc, ◌+◌, ◌-◌, ◌≤◌, Bool, true, false, cond, List, [], ◌∷◌, Option, Some, None, ℤ, pos, negsuc, refl, ◌∙◌, ap, sym, subst, arith}
use Rattle.std.specs.Bool.{◌==◌}
use Rattle.std.specs.List.{last_or}
use Rattle.std.specs.Option.{option_map}
use Rattle.std.specs.Ordering.{int_eq}
use Rattle.std.specs.Prelude.{filter, slice_index, slice_set}
use Rattle.tk_types.specs.declared.answer.Answer.{Answer}
use Rattle.tk_types.specs.declared.answer.Outcome.{Outcome}
use Rattle.tk_types.specs.declared.answer.Outcome.TheVariants as outcomes
use Rattle.tk_types.specs.declared.answer.Who.{Who}
use Rattle.tk_types.specs.declared.calls.Call.{Call}
use Rattle.tk_types.specs.declared.calls.Call.TheVariants as calls
use Rattle.tk_types.specs.declared.calls.MutexCall.{MutexCall}
use Rattle.tk_types.specs.declared.calls.MutexCall.TheVariants as mutexes
use Rattle.tk_types.specs.declared.calls.TaskCall.{TaskCall}
use Rattle.tk_types.specs.declared.calls.TaskCall.TheVariants as tasks
use Rattle.tk_types.specs.declared.error_code.Er.TheVariants as er
use Rattle.tk_types.specs.declared.run.Mode.{Mode}
use Rattle.tk_types.specs.declared.task.Order.{Order}
use Rattle.tk_types.specs.declared.task.Order.TheVariants.{Fifo}
use Rattle.tk_types.specs.declared.task.Phase.TheVariants.{Dormant, Ready, Waiting}
use Rattle.tk_types.specs.declared.task.Task.{Task}
use Rattle.tk_types.specs.Codes.{code_of}
use Rattle.kernel_model.specs.Bodies.Statements.{give, start_frame}
use Rattle.kernel_model.specs.Words.Checks.{◌otherwise◌, failed, natural, plain, within}
use Rattle.kernel_model.specs.Words.Orders.{entry, without}
use Rattle.kernel_model.specs.Tasks.Base.{Base, add_event, base_in, base_of, create, current, current_in, delete, free_task, give_bytes, has_room, is_waiting_phase, make_dormant, make_ready, make_wait, release, resume, resumed, rotate, set_flags, set_wakeups, suspend, take_bytes, task_at, waits_for, wakeups_of}
use Rattle.kernel_model.specs.Tasks.Calls as TaskCalls
use Rattle.kernel_model.specs.Tasks.Calls.{TaskDone, task_call, create_task, delete_task, start_task, exit_task, terminate_task, rotate_ready, rotated_priority, get_task, refer_task, sleep, delay, wake_up, cancel_wakeups, release_wait, suspend_task, resume_task}
use Rattle.kernel_model.specs.Tasks.Views.{is_current}
use Rattle.kernel_model.specs.SemFlags.Calls.{object_checks}
use Rattle.kernel_lemmas.proofs.Tables.{entry_cases, entry_each, entry_same}
use Rattle.call_lemmas.proofs.Checked.{checked_cases}
use Rattle.call_walk.proofs.BaseMoves.{either_base}
use Rattle.object_model.specs.declared.mutexes.Mutex.{Mutex}
use Rattle.object_model.specs.Mutexes.Tables.{Mutexes, free_last, freed, has_mutex, held, mutex_at, owner_in, owner_of, with_mutex}
use Rattle.object_model.specs.Mutexes.Calls as MutexCalls
use Rattle.object_model.specs.Mutexes.Calls.{MutexDone, mutex_call, task_call_beside}
use Rattle.mutex_laws.proofs.Freed.{ends_by, holds_owns, last_stands}
use Rattle.mutex_laws.proofs.Refusals.{mutex_cases}
use Rattle.mutex_laws.proofs.Unowned.{current_unowned}
use Rattle.machine_model.specs.Events.Bodies.{begun, entered, with_start}
use Rattle.machine_model.specs.Events.Calls.{answered, called, ended_by, family_call, without_holdings}
use Rattle.machine_model.specs.Events.Rest.{AreUpToDate}
use Rattle.machine_model.specs.Events.Settle.{freed_within, settle, with_freed}
use Rattle.machine_model.specs.States.Objects.{Parts, dev_parts, mail_parts, pool_parts}
use Rattle.machine_model.specs.States.State.{State, frame_of, parts_of, who_of, with_frame}
use Rattle.place_lemmas.proofs.Calls.{called_has}
use Rattle.place_lemmas.proofs.Contexts.{context_calls_keep}
use Rattle.place_lemmas.proofs.Devices.{device_calls_keep}
use Rattle.place_lemmas.proofs.Mails.{mail_calls_keep}
use Rattle.place_lemmas.proofs.Moves.{IsPassed}
use Rattle.place_lemmas.proofs.Mutexes.{mutex_calls_keep}
use Rattle.place_lemmas.proofs.Pools.{pool_calls_keep}
use Rattle.place_lemmas.proofs.SemFlags.{sem_flag_calls_keep}
use Rattle.place_lemmas.proofs.Times.{time_calls_keep}

-- ---- the priority of the base

-- each task has the priority of its base
pub record AreLevel (b : Base) : Type 0 where
  pub each : (u : ℕ) → 1 ≤ u → current b u ≡ base_of b u

-- another base with the same rows
level_seen : (b c : Base) → c.tasks ≡ b.tasks → AreLevel b → AreLevel c
level_seen b c same has = record { each = λ u one. subst (λ rows. current_in (entry rows u) ≡ base_in (entry rows u)) (sym same) (has.each u one) }

-- a slot is written whose row has the priority of its base
level_slot : (b c : Base) (t : ℕ) (slot : Option Task) → c.tasks ≡ slice_set b.tasks t slot → (1 ≤ t → current_in slot ≡ base_in slot) → AreLevel b → AreLevel c
level_slot b c t slot written same has = record {
  each = λ u one. subst (λ rows. current_in (entry rows u) ≡ base_in (entry rows u)) (sym written)
      (entry_each (λ v o. 1 ≤ v → current_in o ≡ base_in o) b.tasks t slot (λ least. entry_same (λ o. current_in o ≡ base_in o) b.tasks t slot (same least) refl)
      (λ v apart. has.each v) u one);
}

-- a row is written whose priorities stay
level_row : (b c : Base) (t : ℕ) (k now : Task) → c.tasks ≡ slice_set b.tasks t (Some now) → task_at b t ≡ Some k → now.current ≡ k.current → now.base ≡ k.base →
    AreLevel b → AreLevel c
level_row b c t k now written at currents bases has =
    level_slot b c t (Some now) written (λ one. currents ∙ ap current_in (sym at) ∙ has.each t one ∙ ap base_in at ∙ sym bases) has

wait_level : (b : Base) (t object : ℕ) (order : Order) (timeout : ℤ) → AreLevel b → AreLevel (make_wait b t object order timeout)
wait_level b t object order (pos n) has =
    entry_cases AreLevel (task_at b t) b _ has (λ k at. level_row b _ t k (record k { phase = Waiting object; queue = order }) refl at refl refl has)
wait_level b t object order (negsuc n) has =
    entry_cases AreLevel (task_at b t) b _ has (λ k at. level_row b _ t k (record k { phase = Waiting object; queue = order }) refl at refl refl has)

release_level : (b : Base) (t : ℕ) (answer : Answer) → AreLevel b → AreLevel (release b t answer)
release_level b t answer has =
    entry_cases AreLevel (task_at b t) b _ has (λ k at. either_base AreLevel (is_waiting_phase k.phase) _ b (level_row b _ t k (record k { phase = Ready }) refl at refl refl has) has)

-- what calls on no tasks may do to the base
level_passes : IsPassed AreLevel AreLevel
level_passes = record {
  ends = λ b has. has;
  waits = wait_level;
  released = release_level;
  taken = λ b n has. either_base AreLevel (has_room b n) _ b (level_seen b _ refl has) has;
  given = λ b n has. level_seen b (give_bytes b n) refl has;
  added = λ b time what has. level_seen b (add_event b time what) refl has;
  passed = λ b passes has. level_seen b (record b { events = filter passes b.events }) refl has;
  flagged = λ b flags has. level_seen b (set_flags b flags) refl has;
}

-- ---- calls on tasks

delete_level : (b : Base) (t : ℕ) → AreLevel b → AreLevel (delete b t)
delete_level b t has = entry_cases AreLevel (task_at b t) b _ has (λ k at. level_slot b _ t None refl (λ one. refl) has)

ready_level : (b : Base) (t : ℕ) → AreLevel b → AreLevel (make_ready b t)
ready_level b t has = entry_cases AreLevel (task_at b t) b _ has (λ k at. level_row b _ t k (record k { phase = Ready }) refl at refl refl has)

dormant_level : (b : Base) (t : ℕ) → AreLevel b → AreLevel (make_dormant b t)
dormant_level b t has =
    entry_cases AreLevel (task_at b t) b _ has
    (λ k at. level_slot b _ t (Some (record k { phase = Dormant; base = k.initial; current = k.initial; wakeups = 0; suspensions = 0 })) refl (λ one. refl) has)

suspend_level : (b : Base) (t : ℕ) → AreLevel b → AreLevel (suspend b t)
suspend_level b t has = entry_cases AreLevel (task_at b t) b _ has (λ k at. level_row b _ t k (record k { suspensions = k.suspensions + 1 }) refl at refl refl has)

resume_level : (b : Base) (t : ℕ) (all : Bool) → AreLevel b → AreLevel (resume b t all)
resume_level b t all has =
    entry_cases AreLevel (task_at b t) b _ has
    (λ k at. either_base AreLevel (k.suspensions == 0) b (resumed b t (cond all 0 (k.suspensions - 1)) k) has
    (level_row b _ t k (record k { suspensions = cond all 0 (k.suspensions - 1) }) refl at refl refl has))

wakeups_level : (b : Base) (t n : ℕ) → AreLevel b → AreLevel (set_wakeups b t n)
wakeups_level b t n has = entry_cases AreLevel (task_at b t) b _ has (λ k at. level_row b _ t k (record k { wakeups = n }) refl at refl refl has)

create_level : (b : Base) (t priority stack bytes : ℕ) → AreLevel b → AreLevel (create (take_bytes b bytes) t priority stack)
create_level b t priority stack bytes has =
    let taken : AreLevel (take_bytes b bytes) = level_passes.taken b bytes has in
    level_slot (take_bytes b bytes) _ t
    (Some (record { phase = Dormant; queue = Fifo; base = priority; initial = priority; current = priority; wakeups = 0; suspensions = 0; stack = stack })) refl (λ one. refl) taken

enabled_level : (b : Base) (ran : Bool) → AreLevel b → AreLevel (TaskCalls.enabled_after ran b)
enabled_level b true has = level_seen b (TaskCalls.enabled_after true b) refl has
enabled_level b false has = has

either_done : (test : Bool) (one other : TaskDone) → AreLevel one.base → AreLevel other.base → AreLevel (cond {A = TaskDone} test one other).base
either_done true one other first second = first
either_done false one other first second = second

slept_level : (b : Base) (t : ℕ) (timeout : ℤ) (requests : ℕ) → AreLevel b → AreLevel (TaskCalls.slept b t timeout requests).base
slept_level b t timeout zero has =
    either_done (int_eq timeout (pos 0)) (record { base = b; outcome = failed er.TmOut })
    (record { base = make_wait b t TaskCalls.sleep_object Fifo timeout; outcome = outcomes.Blocked }) has (wait_level b t TaskCalls.sleep_object Fifo timeout has)
slept_level b t timeout (suc requests) has = wakeups_level b t requests has

-- what holds of the base after a call
abbrev Level : TaskDone → Type 0
Level done = AreLevel done.base

-- the call isn't `tk_chg_pri`
abbrev IsNoChange : TaskCall → Type 0
IsNoChange it = (task priority : ℤ) → it ≡ tasks.ChgPri task priority → ⊥

-- a call on tasks but `tk_chg_pri`
plain_level : (b : Base) (who : Who) (it : TaskCall) → IsNoChange it → AreLevel b → AreLevel (task_call b who it).base
unfolding task_call create_task delete_task start_task exit_task terminate_task rotate_ready get_task refer_task sleep delay wake_up cancel_wakeups release_wait suspend_task resume_task
plain_level b who (tasks.CreTsk attributes body priority stack) other has =
    checked_cases Level (TaskCalls.create_checks b attributes priority stack) b _ (λ code. has)
    (λ none. create_level b (free_task b) (natural priority) (natural stack) (natural stack) has)
plain_level b who (tasks.DelTsk task) other has = checked_cases Level (TaskCalls.delete_checks b task) b _ (λ code. has) (λ none. delete_level b (natural task) has)
plain_level b who (tasks.StaTsk task code) other has =
    checked_cases Level (TaskCalls.start_checks b task code) b _ (λ code. has) (λ none. ready_level b (natural task) has)
plain_level b who tasks.ExtTsk other has = level_seen (make_dormant b (TaskCalls.caller who)) _ refl (dormant_level b (TaskCalls.caller who) has)
plain_level b who tasks.ExdTsk other has = level_seen (make_dormant b (TaskCalls.caller who)) _ refl (dormant_level b (TaskCalls.caller who) has)
plain_level b who (tasks.TerTsk task) other has =
    checked_cases Level (TaskCalls.terminate_checks b who task) b _ (λ code. has)
    (λ none. enabled_level (make_dormant b (natural task)) (is_current (natural task) b.cur) (dormant_level b (natural task) has))
plain_level b who (tasks.ChgPri task priority) other has = absurd (other task priority refl)
plain_level b who (tasks.RotRdq priority) other has = checked_cases Level ((within 0 140 priority otherwise er.Par) ∷ []) b _ (λ code. has) (λ none. level_seen b (rotate b (rotated_priority b priority)) refl has)
plain_level b who tasks.GetTid other has = has
plain_level b who (tasks.RefTsk task) other has = checked_cases Level (TaskCalls.named_checks b who task) b _ (λ code. has) (λ none. has)
plain_level b who (tasks.SlpTsk timeout) other has =
    checked_cases Level (TaskCalls.waiting_checks b who (negsuc 0) timeout) b _ (λ code. has)
    (λ none. slept_level b (TaskCalls.caller who) timeout (wakeups_of b (TaskCalls.caller who)) has)
plain_level b who (tasks.WupTsk task) other has =
    checked_cases Level (TaskCalls.wake_up_checks b who task) b _ (λ code. has)
    (λ none. either_base AreLevel (waits_for b TaskCalls.sleep_object (natural task)) (release b (natural task) (plain (pos 0)))
    (set_wakeups b (natural task) (wakeups_of b (natural task) + 1)) (release_level b (natural task) (plain (pos 0)) has)
    (wakeups_level b (natural task) (wakeups_of b (natural task) + 1) has))
plain_level b who (tasks.CanWup task) other has =
    checked_cases Level (TaskCalls.cancel_checks b who task) b _ (λ code. has) (λ none. wakeups_level b (TaskCalls.named who task) 0 has)
plain_level b who (tasks.RelWai task) other has =
    checked_cases Level (TaskCalls.release_checks b task) b _ (λ code. has) (λ none. release_level b (natural task) (plain (code_of er.RlWai)) has)
plain_level b who (tasks.SusTsk task) other has = checked_cases Level (TaskCalls.suspend_checks b who task) b _ (λ code. has) (λ none. suspend_level b (natural task) has)
plain_level b who (tasks.RsmTsk task) other has = checked_cases Level (TaskCalls.resume_checks b task) b _ (λ code. has) (λ none. resume_level b (natural task) false has)
plain_level b who (tasks.FrsmTsk task) other has = checked_cases Level (TaskCalls.resume_checks b task) b _ (λ code. has) (λ none. resume_level b (natural task) true has)
plain_level b who (tasks.DlyTsk time) other has =
    checked_cases Level (TaskCalls.waiting_checks b who (pos 0) time) b _ (λ code. has)
    (λ none. either_done (int_eq time (pos 0)) (TaskCalls.finished b)
    (record { base = make_wait b (TaskCalls.caller who) TaskCalls.delay_object Fifo time; outcome = outcomes.Blocked }) has
    (wait_level b (TaskCalls.caller who) TaskCalls.delay_object Fifo time has))

task_level : (b : Base) (m : Mutexes) (who : Who) (it : TaskCall) → IsNoChange it → AreLevel b → AreLevel (task_call_beside b m who it).base
unfolding task_call_beside
task_level b m who (tasks.ChgPri task priority) other has = absurd (other task priority refl)
task_level b m who it other has = plain_level b who it other has

-- ---- owners

-- nobody owns a mutex
abbrev pub NobodyOwns : Mutexes → Type 0
NobodyOwns m = (id : ℕ) → owner_of m id ≡ 0

-- a slot without an owner is written
unowned_slot : (m : Mutexes) (id : ℕ) (slot : Option Mutex) (locks : List ℕ) → owner_in slot ≡ 0 → NobodyOwns m → NobodyOwns (record (with_mutex m id slot) { locks = locks })
unowned_slot m id slot locks free none = entry_each (λ j o. owner_in o ≡ 0) m.table id slot (entry_same (λ o. owner_in o ≡ 0) m.table id slot free refl) (λ j apart. none j)

freed_slot : (slot : Option Mutex) → owner_in (option_map {T = Mutex} (λ k. record k { owner = 0 }) slot) ≡ 0
freed_slot None = refl
freed_slot (Some k) = refl

-- the call isn't `tk_loc_mtx`
abbrev IsNoLock : MutexCall → Type 0
IsNoLock it = (id timeout : ℤ) → it ≡ mutexes.LocMtx id timeout → ⊥

abbrev Unowned : MutexDone → Type 0
Unowned done = NobodyOwns done.table

-- a call on mutexes but `tk_loc_mtx`
mutex_unowned : (b : Base) (m : Mutexes) (who : Who) (it : MutexCall) → IsNoLock it → NobodyOwns m → NobodyOwns (mutex_call b m who it).table
unfolding mutex_call MutexCalls.create_mutex MutexCalls.unlock_mutex MutexCalls.refer_mutex MutexCalls.delete_mutex
mutex_unowned b m who (mutexes.CreMtx attributes ceiling) other none =
    mutex_cases Unowned (MutexCalls.create_checks m attributes ceiling) b m _ (λ code. none)
    (λ passed. unowned_slot m (MutexCalls.free_mutex m) (Some (MutexCalls.new_mutex attributes ceiling)) m.locks refl none)
mutex_unowned b m who (mutexes.LocMtx id timeout) other none = absurd (other id timeout refl)
mutex_unowned b m who (mutexes.UnlMtx id) other none =
    mutex_cases Unowned (MutexCalls.unlock_checks b m who id) b m _ (λ code. none)
    (λ passed. unowned_slot m (natural id) (option_map {T = Mutex} (λ k. record k { owner = 0 }) (mutex_at m (natural id))) (without (natural id) m.locks) (freed_slot (mutex_at m (natural id))) none)
mutex_unowned b m who (mutexes.RefMtx id) other none = mutex_cases Unowned (object_checks id (has_mutex m (natural id)) []) b m _ (λ code. none) (λ passed. none)
mutex_unowned b m who (mutexes.DelMtx id) other none =
    mutex_cases Unowned (object_checks id (has_mutex m (natural id)) []) b m _ (λ code. none)
    (λ passed. unowned_slot m (natural id) None (without (natural id) m.locks) refl none)

-- ---- parts

-- nobody owns a mutex, and each task has the priority of its base
pub record AreFree (p : Parts) : Type 0 where
  pub level : AreLevel p.base
  pub unowned : NobodyOwns p.objects.mutexes

-- where nobody owns a mutex the priority of the base is that of the definition
pub free_of : (p : Parts) → NobodyOwns p.objects.mutexes → AreUpToDate p.base p.objects.mutexes → AreFree p
free_of p none is = record { level = record { each = λ u one. is.each u one ∙ current_unowned p.base p.objects.mutexes u none one }; unowned = none }

pub free_up_to_date : (p : Parts) → AreFree p → AreUpToDate p.base p.objects.mutexes
free_up_to_date p is = record { each = λ u one. is.level.each u one ∙ sym (current_unowned p.base p.objects.mutexes u is.unowned one) }

-- the call is neither `tk_chg_pri` nor `tk_loc_mtx`
pub record IsSteady (c : Call) : Type 0 where
  pub no_change : (it : TaskCall) → c ≡ calls.Task it → IsNoChange it
  pub no_lock : (it : MutexCall) → c ≡ calls.Mutex it → IsNoLock it

-- what the call of a family leaves
family_free : (st : State) (u : ℕ) (c : Call) → IsSteady c → AreFree (parts_of st) → AreFree (parts_of (family_call st u c).state)
unfolding family_call
family_free st u (calls.Task c) steady has = record { level = task_level st.base st.objects.mutexes (who_of u) c (steady.no_change c refl) has.level; unowned = has.unowned }
family_free st u (calls.SemFlag c) steady has =
    record { level = sem_flag_calls_keep AreLevel AreLevel level_passes st.base st.objects.sem_flags (who_of u) c has.level; unowned = has.unowned }
family_free st u (calls.Mutex c) steady has = record {
  level = mutex_calls_keep AreLevel AreLevel level_passes st.base st.objects.mutexes (who_of u) c has.level;
  unowned = mutex_unowned st.base st.objects.mutexes (who_of u) c (steady.no_lock c refl) has.unowned;
}
family_free st u (calls.Mail c) steady has =
    record { level = mail_calls_keep AreLevel AreLevel level_passes (mail_parts (parts_of st)) (who_of u) c has.level; unowned = has.unowned }
family_free st u (calls.Pool c) steady has =
    record { level = pool_calls_keep AreLevel AreLevel level_passes (pool_parts (parts_of st)) (who_of u) c has.level; unowned = has.unowned }
family_free st u (calls.Time c) steady has =
    record { level = time_calls_keep AreLevel AreLevel level_passes st.base st.objects.clocks c has.level; unowned = has.unowned }
family_free st u (calls.Context c) steady has =
    record { level = context_calls_keep AreLevel AreLevel level_passes st.base st.objects.contexts (who_of u) c has.level; unowned = has.unowned }
family_free st u (calls.Device c) steady has =
    record { level = device_calls_keep AreLevel AreLevel level_passes (dev_parts (parts_of st)) (who_of u) c has.level; unowned = has.unowned }
family_free st u (calls.Hook c) steady has = record { level = has.level; unowned = has.unowned }

-- ---- a task that ended

none_last : (m : Mutexes) (t : ℕ) (last : Option ℕ) → 1 ≤ t → NobodyOwns m → last_or None (held m t) ≡ last → last ≡ None
none_last m t None one none at = refl
none_last m t (Some id) one none at =
    let ends = ends_by (held m t) id at in
    let owns : owner_of m id ≡ t = holds_owns m t id (last_stands id ends.left (held m t) ends.ends) in
    let free : owner_of m id ≡ 0 = none id in
    absurd (omega (arith, owns, free, one))

-- it frees none
frees_none : (b : Base) (m : Mutexes) (t : ℕ) → 1 ≤ t → NobodyOwns m → free_last b m t ≡ None
unfolding free_last
frees_none b m t one none = ap (option_map (freed m)) (none_last m t (last_or None (held m t)) one none refl)

freed_none : (left : ℕ) (mode : Mode) (t : ℕ) (p : Parts) → 1 ≤ t → NobodyOwns p.objects.mutexes → freed_within left mode t p ≡ p
unfolding freed_within
freed_none zero mode t p one none = refl
freed_none (suc left) mode t p one none =
    ap (λ found. elim found as (λ _. Parts) [ None ↦ p | Some mutexes ↦ freed_within left mode t (settle mode (with_freed p mutexes)) ]) (frees_none p.base p.objects.mutexes t one none)

holdings_free : (mode : Mode) (st : State) (t : ℕ) → AreFree (parts_of st) → AreFree (parts_of (without_holdings mode st t))
holdings_free mode st zero has = has
holdings_free mode st (suc t) has = subst AreFree (sym (freed_none 64 mode (suc t) _ (omega arith) has.unowned)) (record { level = has.level; unowned = has.unowned })

-- ---- the call

state_if : (P : State → Type 0) (test : Bool) (a b : State) → P a → P b → P (cond test a b)
state_if P true a b first second = first
state_if P false a b first second = second

begun_free : (st : State) (u : ℕ) (it : TaskCall) (value : ℤ) → AreFree (parts_of st) → AreFree (parts_of (begun st u it value))
begun_free st u (tasks.CreTsk attributes body priority stack) value has =
    state_if (λ left. AreFree (parts_of left)) (within 1 255 value) (record st { bodies = slice_set st.bodies (natural value) body }) st has has
begun_free st u (tasks.StaTsk id code) value has =
    state_if (λ left. AreFree (parts_of left)) (int_eq value (pos 0)) (with_start st id code) st
    (state_if (λ left. AreFree (parts_of left)) (within 0 255 id) (with_frame st (natural id) (start_frame (slice_index st.bodies (natural id)) code (pos 0))) st has has) has
begun_free st u tasks.ExdTsk value has = record { level = delete_level st.base u has.level; unowned = has.unowned }
begun_free st u _ value has = has

answered_free : (st : State) (u : ℕ) (it : TaskCall) (outcome : Outcome) → AreFree (parts_of st) → AreFree (parts_of (answered st u (calls.Task it) outcome))
unfolding answered entered
answered_free st u it (outcomes.Returned result) has = begun_free (with_frame st u (give (frame_of st u) result)) u it result.value has
answered_free st u it outcomes.Blocked has = has
answered_free st u it (outcomes.Entered body) has = has

task_called_free : (mode : Mode) (n : ℕ) (st : State) (u : ℕ) (it : TaskCall) → IsSteady (calls.Task it) → AreFree (parts_of st) → AreFree (parts_of (called mode n st u (calls.Task it)).state)
unfolding called
task_called_free mode n st u it steady has =
    let done = family_call st u (calls.Task it) in
    answered_free (without_holdings mode done.state (ended_by u (calls.Task it) done.outcome)) u it done.outcome
    (holdings_free mode done.state (ended_by u (calls.Task it) done.outcome) (family_free st u (calls.Task it) steady has))

other_called_free : (mode : Mode) (n : ℕ) (st : State) (u : ℕ) (c : Call) → ((it : TaskCall) → c ≡ calls.Task it → ⊥) → IsSteady c → AreFree (parts_of st) →
    AreFree (parts_of (called mode n st u c).state)
other_called_free mode n st u c other steady has = called_has AreFree mode n st u c other (family_free st u c steady has)

-- a call that is neither of the two
pub called_free : (mode : Mode) (n : ℕ) (st : State) (u : ℕ) (c : Call) → IsSteady c → AreFree (parts_of st) → AreFree (parts_of (called mode n st u c).state)
called_free mode n st u (calls.Task it) steady has = task_called_free mode n st u it steady has
called_free mode n st u (calls.SemFlag it) steady has = other_called_free mode n st u (calls.SemFlag it) (λ other is. cc is) steady has
called_free mode n st u (calls.Mutex it) steady has = other_called_free mode n st u (calls.Mutex it) (λ other is. cc is) steady has
called_free mode n st u (calls.Mail it) steady has = other_called_free mode n st u (calls.Mail it) (λ other is. cc is) steady has
called_free mode n st u (calls.Pool it) steady has = other_called_free mode n st u (calls.Pool it) (λ other is. cc is) steady has
called_free mode n st u (calls.Time it) steady has = other_called_free mode n st u (calls.Time it) (λ other is. cc is) steady has
called_free mode n st u (calls.Context it) steady has = other_called_free mode n st u (calls.Context it) (λ other is. cc is) steady has
called_free mode n st u (calls.Device it) steady has = other_called_free mode n st u (calls.Device it) (λ other is. cc is) steady has
called_free mode n st u (calls.Hook it) steady has = other_called_free mode n st u (calls.Hook it) (λ other is. cc is) steady has
