-- In every state that a machine comes to what is set falls due later than the operating time, and cyclic handlers keep their phase:
-- calls and waits keep both, and in a tick all that is due is due just then, so that a handler is set for one period later.
use Rattle.std.proofs.Common.{◌≡◌, ℕ, ◌+◌, ◌-◌, ◌<◌, ◌≤◌, Bool, true, false, not, cond, List, [], ◌∷◌, Some, None, refl, ◌∙◌, ap, sym, subst, arith, ℤ, pos, negsuc}
use Rattle.std.specs.Bool.{◌==◌}
use Rattle.std.specs.Prelude.{drop, nat_le}
use Rattle.std.proofs.lemmas.Bool.Decides.{nat_tests}
use Rattle.std.proofs.lemmas.List.Elements.{All-filter, All-head, All-nil, All-tail}
use Rattle.std.proofs.lemmas.List.Kept.{AllPairs-filter}
use Rattle.tk_types.specs.declared.run.Mode.{Mode}
use Rattle.tk_types.specs.declared.run.Mode.TheVariants as modes
use Rattle.tk_types.specs.declared.script.Script.{Script}
use Rattle.tk_types.specs.declared.calls.TimeCall.{TimeCall}
use Rattle.tk_types.specs.declared.task.DueEvent.{DueEvent}
use Rattle.tk_types.specs.declared.task.Event.{Event as DueKind}
use Rattle.tk_types.specs.declared.task.Event.TheVariants.{Wait}
use Rattle.kernel_model.specs.LawWords.TimeOrder.{AreInTimeOrder, AreLater}
use Rattle.kernel_model.specs.Words.Events.{due_event, ends_wait_of, insert_event, is_due, without_wait}
use Rattle.kernel_model.specs.Bodies.Statements.{IsRunnable}
use Rattle.kernel_model.specs.Tasks.Base.{Base, base_start, delete, has_room, is_waiting_phase, limited, resumed, set_current, take_due, task_at}
use Rattle.kernel_model.specs.SemFlags.Calls.{sem_flag_call}
use Rattle.kernel_lemmas.proofs.Tables.{entry_cases}
use Rattle.object_model.specs.Mails.Calls.{mail_call}
use Rattle.object_model.specs.Mutexes.Calls.{mutex_call, task_call_beside}
use Rattle.object_model.specs.Pools.Calls.{pool_call}
use Rattle.context_model.specs.Contexts.Calls.{context_call}
use Rattle.device_model.specs.Devices.Calls.{device_call}
use Rattle.context_model.specs.Clocks.Phases.{AreInPhase, ArePeriodic}
use Rattle.context_model.specs.Clocks.Calls.{time_call}
use Rattle.context_model.specs.Clocks.Tables.{Clocks, again}
use Rattle.context_laws.proofs.InPhase.{call_in_phase, start_in_phase, tick_in_phase, waits_in_phase}
use Rattle.context_laws.proofs.Later.{Survives, again_holds, call_holds, later_survives, order_survives}
use Rattle.context_laws.proofs.Touches.{time_touches}
use Rattle.machine_model.specs.States.Objects.{Parts, dev_parts, mail_parts, pool_parts}
use Rattle.machine_model.specs.States.State.{State, parts_of, state_start}
use Rattle.machine_model.specs.Events.Settle.{handed}
use Rattle.machine_model.specs.Events.Ticks.{limit_answer, tick_state}
use Rattle.machine_model.specs.Runs.Reached.{Move, state_after}
use Rattle.call_walk.proofs.BaseMoves.{IsStillProof, either_base}
use Rattle.call_walk.proofs.ContextCalls.{context_calls_keep}
use Rattle.call_walk.proofs.DeviceCalls.{arrive_keeps, device_calls_keep}
use Rattle.call_walk.proofs.MailCalls.{mail_calls_keep}
use Rattle.call_walk.proofs.MutexCalls.{mutex_calls_keep}
use Rattle.call_walk.proofs.PoolCalls.{pool_calls_keep}
use Rattle.call_walk.proofs.SemFlagCalls.{sem_flag_calls_keep}
use Rattle.call_walk.proofs.TaskCalls.{task_calls_keep}
use Rattle.machine_lemmas.proofs.BaseKept.{survives}
use Rattle.machine_lemmas.proofs.Changes.{any_moves}
use Rattle.machine_lemmas.proofs.KnownDevices.{IsWished}
use Rattle.machine_lemmas.proofs.Reached.{reached_steady}
use Rattle.machine_lemmas.proofs.Servings.{serving}
use Rattle.machine_lemmas.proofs.TickClocks.{Periodic, periods_are_kept, serving_clocks, start_periods}
use Rattle.machine_lemmas.proofs.TickTakes.{tick_keeps_order, tick_takes_all}
use Rattle.machine_lemmas.proofs.TickWalk.{HasAt, IsSettleProof, Step, again_time, fallen_keeps, tick_keeps}
use Rattle.machine_lemmas.proofs.Walk.{IsSteady, of_kept}

-- ---- what waits keep

-- it survives that the end of a wait is set for later than now, and that one is dropped
record IsOfWaits (now : ℕ) (T : List DueEvent → Type 0) : Type 0 where
  set : (time key t : ℕ) (events : List DueEvent) → now < time → T events → T (insert_event (record { time = time; key = key; what = Wait t }) events)
  dropped : (t : ℕ) (events : List DueEvent) → T events → T (without_wait t events)

limited_at : (now : ℕ) (T : List DueEvent → Type 0) → IsOfWaits now T → (timeout : ℤ) (t : ℕ) (b : Base) → HasAt now T b → HasAt now T (limited timeout t b)
limited_at now T is (pos n) t b has = (has.0, is.set (b.time + n + 1) b.made t b.events (let at : b.time ≡ now = has.0 in omega (arith, at)) has.1)
limited_at now T is (negsuc n) t b has = has

still_at : (now : ℕ) (T : List DueEvent → Type 0) → IsOfWaits now T → IsStillProof (HasAt now T)
still_at now T is = record {
  created = λ b t priority stack has. has;
  deleted = λ b t has. entry_cases (HasAt now T) (task_at b t) b _ has (λ k at. has);
  readied = λ b t has. entry_cases (HasAt now T) (task_at b t) b _ has (λ k at. has);
  ended = λ b t has. entry_cases (HasAt now T) (task_at b t) b _ has (λ k at. (has.0, is.dropped t b.events has.1));
  suspended = λ b t has. entry_cases (HasAt now T) (task_at b t) b _ has (λ k at. has);
  resumed = λ b t all has. entry_cases (HasAt now T) (task_at b t) b _ has
      (λ k at. either_base (HasAt now T) (k.suspensions == 0) b (resumed b t (cond all 0 (k.suspensions - 1)) k) has has);
  based = λ b t priority has. entry_cases (HasAt now T) (task_at b t) b _ has (λ k at. has);
  refreshed = λ b t priority has. entry_cases (HasAt now T) (task_at b t) b _ has (λ k at. has);
  woken = λ b t n has. entry_cases (HasAt now T) (task_at b t) b _ has (λ k at. has);
  waits = λ b t object order timeout has. entry_cases (HasAt now T) (task_at b t) b _ has (λ k at. limited_at now T is timeout t _ (has.0, is.dropped t b.events has.1));
  moved = λ b t object order has. entry_cases (HasAt now T) (task_at b t) b _ has
      (λ k at. either_base (HasAt now T) (is_waiting_phase k.phase) _ b (has.0, is.dropped t b.events has.1) has);
  released = λ b t answer has. entry_cases (HasAt now T) (task_at b t) b _ has
      (λ k at. either_base (HasAt now T) (is_waiting_phase k.phase) _ b (has.0, is.dropped t b.events has.1) has);
  placed = λ b t has. has;
  taken = λ b n has. either_base (HasAt now T) (has_room b n) _ b has has;
  given = λ b n has. has;
  flagged = λ b flags has. has;
  turned = λ b cur has. has;
  emptied = λ b has. has;
}

-- ---- what is kept

-- what is set falls due later than now, in order, and cyclic handlers are in phase
record AreTimes (now : ℕ) (c : Clocks) (events : List DueEvent) : Type 0 where
  later : AreLater now events
  order : AreInTimeOrder events
  phase : AreInPhase c events

later_dropped : (now t : ℕ) (events : List DueEvent) → AreLater now events → AreLater now (without_wait t events)
later_dropped now t events all = All-filter (λ event. not (ends_wait_of t event)) (λ (event : DueEvent). now < event.time) events all

phase_set : (c : Clocks) (time key t : ℕ) (events : List DueEvent) → AreInPhase c events → AreInPhase c (insert_event (record { time = time; key = key; what = Wait t }) events)
phase_set c time key t events are = (waits_in_phase c (record (base_start 0) { events = events; made = key }) t time are).0

phase_dropped : (c : Clocks) (t : ℕ) (events : List DueEvent) → AreInPhase c events → AreInPhase c (without_wait t events)
phase_dropped c t events are = (waits_in_phase c (record (base_start 0) { events = events }) t 0 are).1

times_of_waits : (now : ℕ) (c : Clocks) → IsOfWaits now (AreTimes now c)
times_of_waits now c = record {
  set = λ time key t events after has. record {
    later = (later_survives now).added (record { time = time; key = key; what = Wait t }) events after has.later;
    order = (order_survives now).added (record { time = time; key = key; what = Wait t }) events after has.order;
    phase = phase_set c time key t events has.phase;
  };
  dropped = λ t events has. record {
    later = later_dropped now t events has.later;
    order = AllPairs-filter (λ (earlier later : DueEvent). earlier.time ≤ later.time) (λ event. not (ends_wait_of t event)) events has.order;
    phase = phase_dropped c t events has.phase;
  };
}

record HasTimes (p : Parts) : Type 0 where
  periods : Periodic p
  times : AreTimes p.base.time p.objects.clocks p.base.events

abbrev Now : Parts → Base → Type 0
Now p = HasAt p.base.time (AreTimes p.base.time p.objects.clocks)

stays : (p : Parts) → IsStillProof (Now p)
stays p = still_at p.base.time (AreTimes p.base.time p.objects.clocks) (times_of_waits p.base.time p.objects.clocks)

-- what leaves the time, and keeps it at that time, keeps it
moves : (p : Parts) (d : Base) → (Now p p.base → Now p d) → HasTimes p → AreTimes d.time p.objects.clocks d.events
moves p d keeps has = let now = keeps (refl, has.times) in subst (λ (at : ℕ). AreTimes at p.objects.clocks d.events) (sym now.0) now.1

-- ---- calls on time

time_stays : (b : Base) (c : Clocks) (call : TimeCall) → (time_call b c call).base.time ≡ b.time
time_stays b c call = let rest = (time_touches b c call).rest in ap (λ (d : Base). d.time) rest

time_times : (b : Base) (c : Clocks) (call : TimeCall) → ArePeriodic c → AreTimes b.time c b.events →
    AreTimes (time_call b c call).base.time (time_call b c call).table (time_call b c call).base.events
time_times b c call periods has =
    subst (λ (at : ℕ). AreTimes at (time_call b c call).table (time_call b c call).base.events) (sym (time_stays b c call)) (record {
      later = call_holds (AreLater b.time) b c call (later_survives b.time) periods has.later;
      order = call_holds AreInTimeOrder b c call (order_survives b.time) periods has.order;
      phase = call_in_phase b c call has.phase;
    })

-- ---- a tick

-- within a tick all falls due later than before it, and handlers are in phase
record AreWithin (past : ℕ) (c : Clocks) (events : List DueEvent) : Type 0 where
  later : AreLater past events
  phase : AreInPhase c events

within_waits : (past : ℕ) (c : Clocks) → IsOfWaits (past + 1) (AreWithin past c)
within_waits past c = record {
  set = λ time key t events after has. record {
    later = (later_survives past).added (record { time = time; key = key; what = Wait t }) events (omega (arith, after)) has.later;
    phase = phase_set c time key t events has.phase;
  };
  dropped = λ t events has. record { later = later_dropped past t events has.later; phase = phase_dropped c t events has.phase };
}

abbrev Within : ℕ → Clocks → Base → Type 0
Within past c = HasAt (past + 1) (AreWithin past c)

still_within : (past : ℕ) (c : Clocks) → IsStillProof (Within past c)
still_within past c = still_at (past + 1) (AreWithin past c) (within_waits past c)

settle_within : (past : ℕ) (c : Clocks) → IsSettleProof (Within past c)
settle_within past c = record { survives = survives (Within past c) (still_within past c) any_moves; refreshed = (still_within past c).refreshed }

left_later : (past : ℕ) (events : List DueEvent) (test : Bool) → AreLater past events → AreLater past (cond test (drop 1 events) events)
left_later past events false all = all
left_later past [] true all = all
left_later past (first ∷ rest) true all = All-tail (λ (event : DueEvent). past < event.time) first rest all

first_due : (test : Bool) (first what : DueKind) → cond test (Some first) None ≡ Some what → (test ≡ true) × (first ≡ what)
first_due true first what is = (refl, cc is)
first_due false first what is = absurd (cc is)

-- what falls due in a tick falls due just then
again_phase : (past : ℕ) (b : Base) (c : Clocks) (what : DueKind) (events : List DueEvent) → b.events ≡ events → b.time ≡ past + 1 → AreLater past events → AreInPhase c b.events →
    due_event b.time events ≡ Some what → AreInPhase c (again (take_due b) c what).events
again_phase past b c what [] is at later are due = absurd (cc due)
again_phase past b c what (first ∷ rest) is at later are due =
    let found = first_due (nat_le first.time b.time) first.what what due in
    let by : nat_le first.time b.time ≡ true = found.0 in
    let most : first.time ≤ b.time = grind (arith, nat_tests, by) in
    let after : past < first.time = All-head (λ (event : DueEvent). past < event.time) first rest later in
    let now : first.time ≡ b.time = omega (arith, most, after, at) in
    subst (λ (kind : DueKind). AreInPhase c (again (take_due b) c kind).events) found.1 (tick_in_phase b c first rest is now are)

again_wait : (b : Base) (c : Clocks) (u : ℕ) → again b c (Wait u) ≡ b
unfolding again
again_wait b c u = refl

later_after : (past now : ℕ) → now ≡ past + 1 → Survives now (AreLater past)
later_after past now at = record {
  taken = (later_survives past).taken;
  added = λ event events after all. (later_survives past).added event events (omega (arith, after, at)) all;
}

again_within : (past : ℕ) (b : Base) (c : Clocks) (what : DueKind) → ArePeriodic c → due_event b.time b.events ≡ Some what → Within past c b →
    Within past c (again (take_due b) c what)
again_within past b c what periods due has = (
  again_time (take_due b) c what ∙ has.0,
  record {
    later = again_holds (AreLater past) (take_due b) c what (later_after past b.time has.0) periods (left_later past b.events (is_due b.time b.events) has.1.later);
    phase = again_phase past b c what b.events refl has.0 has.1.later has.1.phase due;
  },
)

wait_within : (past : ℕ) (b : Base) (c : Clocks) (what : DueKind) (u : ℕ) → what ≡ Wait u → Within past c (again (take_due b) c what) → Within past c (take_due b)
wait_within past b c what u named has = subst (Within past c) (ap (again (take_due b) c) named ∙ again_wait (take_due b) c u) has

step_within : (past : ℕ) (c : Clocks) (mode : Mode) → ArePeriodic c → Step (Within past c) (λ d. d ≡ c) mode
step_within past c mode periods st what due has =
    let done : Within past c (again (take_due st.base) c what) = again_within past st.base c what periods due has.base in
    fallen_keeps (Within past c) (λ d. d ≡ c) (settle_within past c) mode st what has.few has.clocks
    (λ u named. (still_within past c).released (take_due st.base) u (limit_answer (take_due st.base) u) (wait_within past st.base c what u named done))
    (λ none. subst (λ (d : Clocks). Within past c (again (take_due st.base) d what)) (sym has.clocks) done)

tick_times : (mode : Mode) (st : State) → HasTimes (parts_of st) → HasTimes (parts_of (tick_state mode st))
tick_times mode st has =
    let past : ℕ = st.base.time in
    let c : Clocks = st.objects.clocks in
    let few = has.periods.0.few in
    let first : Within past c (record st.base { time = past + 1 }) = (refl, record { later = has.times.later; phase = has.times.phase }) in
    let done = tick_keeps (Within past c) (λ d. d ≡ c) mode (step_within past c mode has.periods.1) st few refl first in
    record {
      periods = (of_kept Periodic periods_are_kept).ticks mode st has.periods;
      times = record {
        later = subst (λ (at : ℕ). AreLater at (tick_state mode st).base.events) (sym done.base.0) (tick_takes_all mode st few has.periods.1 has.times.order);
        order = tick_keeps_order mode st few has.times.order;
        phase = subst (λ (d : Clocks). AreInPhase d (tick_state mode st).base.events) (sym done.clocks) done.base.1.phase;
      };
    }

-- ---- every event

kept : IsSteady Periodic
kept = of_kept Periodic periods_are_kept

handed_times : (mode : Mode) (p : Parts) → HasTimes p → HasTimes (handed mode p)
handed_times modes.Sync p has = has
handed_times modes.Free p has = record {
  periods = kept.handed modes.Free p has.periods;
  times = record { later = has.times.later; order = has.times.order; phase = has.times.phase };
}

times_are_kept : IsSteady HasTimes
times_are_kept = record {
  few = λ p has. has.periods.0.few;
  task_calls = λ p who c has. record {
    periods = kept.task_calls p who c has.periods;
    times = moves p (task_call_beside p.base p.objects.mutexes who c).base (task_calls_keep (Now p) (stays p) p.base p.objects.mutexes who c) has;
  };
  sem_flag_calls = λ p who c has. record {
    periods = kept.sem_flag_calls p who c has.periods;
    times = moves p (sem_flag_call p.base p.objects.sem_flags who c).base (sem_flag_calls_keep (Now p) (stays p) p.base p.objects.sem_flags who c) has;
  };
  mutex_calls = λ p who c has. record {
    periods = kept.mutex_calls p who c has.periods;
    times = moves p (mutex_call p.base p.objects.mutexes who c).base (mutex_calls_keep (Now p) (stays p) p.base p.objects.mutexes who c) has;
  };
  mail_calls = λ p who c has. record {
    periods = kept.mail_calls p who c has.periods;
    times = moves p (mail_call (mail_parts p) who c).base (mail_calls_keep (Now p) (stays p) (mail_parts p) who c) has;
  };
  pool_calls = λ p who c has. record {
    periods = kept.pool_calls p who c has.periods;
    times = moves p (pool_call (pool_parts p) who c).base (pool_calls_keep (Now p) (stays p) (pool_parts p) who c) has;
  };
  time_calls = λ p c has. record { periods = kept.time_calls p c has.periods; times = time_times p.base p.objects.clocks c has.periods.1 has.times };
  context_calls = λ p who c has. record {
    periods = kept.context_calls p who c has.periods;
    times = moves p (context_call p.base p.objects.contexts who c).base (context_calls_keep (Now p) (stays p) p.base p.objects.contexts who c) has;
  };
  device_calls = λ p who c has. record {
    periods = kept.device_calls p who c has.periods;
    times = moves p (device_call (dev_parts p) who c).parts.base (device_calls_keep (Now p) (stays p) (dev_parts p) who c) has;
  };
  left = λ p t all has. record { periods = kept.left p t all has.periods; times = has.times };
  freed = λ p t m is has. record { periods = kept.freed p t m is has.periods; times = has.times };
  deleted = λ p t has. record { periods = kept.deleted p t has.periods; times = moves p (delete p.base t) ((stays p).deleted p.base t) has };
  refreshed = λ p t priority has. record {
    periods = kept.refreshed p t priority has.periods;
    times = moves p (set_current p.base t priority) ((stays p).refreshed p.base t priority) has;
  };
  served = λ p q few is has. record {
    periods = kept.served p q few is has.periods;
    times = subst (λ (c : Clocks). AreTimes q.base.time c q.base.events) (sym (serving_clocks p q is))
        (moves p q.base ((serving p q few is).ends.keeps (Now p) (survives (Now p) (stays p) (IsWished p.objects.devices))) has);
  };
  handed = handed_times;
  handed_first = λ p has. record { periods = kept.handed_first p has.periods; times = has.times };
  messages = λ p has. record { periods = kept.messages p has.periods; times = has.times };
  arrived = λ p e q is has. record { periods = kept.arrived p e q is has.periods; times = moves p q.base (arrive_keeps (Now p) (dev_parts p) e q is) has };
  flagged = λ p flags has. record { periods = kept.flagged p flags has.periods; times = has.times };
  turned = λ p cur has. record { periods = kept.turned p cur has.periods; times = has.times };
  emptied = λ p has. record { periods = kept.emptied p has.periods; times = has.times };
  written = λ p memory has. record { periods = kept.written p memory has.periods; times = has.times };
  ticks = tick_times;
}

start_times : (script : Script) → IsRunnable script → HasTimes (parts_of (state_start script))
unfolding state_start
start_times script runnable = record {
  periods = start_periods script runnable;
  times = record { later = All-nil (λ (event : DueEvent). 0 < event.time); order = λ i j d before within. absurd (omega (arith, within)); phase = start_in_phase };
}

reached_times : (script : Script) (mode : Mode) (budget : ℕ) (moves : List Move) → IsRunnable script → HasTimes (parts_of (state_after script mode budget moves))
reached_times script mode budget moves runnable = reached_steady HasTimes times_are_kept script mode budget moves (start_times script runnable)

-- in every state that a machine comes to what is set falls due later than the operating time
pub reached_later : (script : Script) (mode : Mode) (budget : ℕ) (moves : List Move) → IsRunnable script →
    AreLater (state_after script mode budget moves).base.time (state_after script mode budget moves).base.events
reached_later script mode budget moves runnable = (reached_times script mode budget moves runnable).times.later

-- and cyclic handlers keep their phase
pub reached_phase : (script : Script) (mode : Mode) (budget : ℕ) (moves : List Move) → IsRunnable script →
    AreInPhase (state_after script mode budget moves).objects.clocks (state_after script mode budget moves).base.events
reached_phase script mode budget moves runnable = (reached_times script mode budget moves runnable).times.phase
