-- A call that waits for a mutex decides as its trial does.
use Rattle.std.proofs.Common.{◌≡◌, ℕ, suc, zero, ◌+◌, Bool, true, false, not, List, [], ◌∷◌, Option, Some, None, refl, cond, ◌∙◌, ap, sym, ℤ, pos, negsuc, arith}
use Rattle.std.specs.Prelude.{nat_lt, slice_set}
use Rattle.std.specs.Bool.{◌==◌}
use Rattle.std.specs.Option.{option_map_or}
use Rattle.std.proofs.lemmas.Bool.Decides.{nat_tests}
use Rattle.tk_types.specs.declared.answer.Answer.{Answer}
use Rattle.tk_types.specs.declared.answer.Outcome.TheVariants.{Returned}
use Rattle.tk_types.specs.declared.error_code.Er.TheVariants as er
use Rattle.tk_types.specs.declared.task.DueEvent.{DueEvent}
use Rattle.tk_types.specs.declared.task.Event.TheVariants.{Wait}
use Rattle.tk_types.specs.declared.task.Phase.TheVariants.{Ready, Waiting}
use Rattle.tk_types.specs.declared.task.Task.{Task}
use Rattle.tk_types.specs.declared.task.Order.{Order}
use Rattle.tk_types.specs.declared.task.Order.TheVariants.{Fifo, Priority}
use Rattle.kernel_model.specs.SemFlags.Tables.{sem_flags_start}
use Rattle.kernel_model.specs.SemFlags.Trial.{MayWait, back_in}
use Rattle.kernel_model.specs.Tasks.Base.{Base, current, is_waiting, make_wait, release, task_at}
use Rattle.kernel_model.specs.Words.Checks.{failed, plain}
use Rattle.kernel_model.specs.Words.Events.{ends_wait_of, insert_event, without_wait}
use Rattle.kernel_model.specs.Words.Orders.{entry}
use Rattle.kernel_lemmas.proofs.Tables.{entry_at, entry_there, itself}
use Rattle.call_lemmas.proofs.Picks.{joined}
use Rattle.call_lemmas.proofs.Serving.{release_answers}
use Rattle.call_lemmas.proofs.Trial.{joined_waits, queue_joined}
use Rattle.object_model.specs.declared.mutexes.Mutex.{Mutex}
use Rattle.object_model.specs.Mutexes.Calls.{MutexDone, table_changed, waited_for_mutex, waits_or_ends}
use Rattle.object_model.specs.Mutexes.Tables.{Mutexes, locked, mutex_at, mutex_object, mutex_waiters, serve_mutex, serve_mutex_at, serve_mutex_of}
use Rattle.mutex_laws.specs.Trial.{mutex_trial, mutex_trial_of}

-- ---- joining and being released

dropped_if : (event : DueEvent) (rest : List DueEvent) (ends : Bool) → ends ≡ true → cond (not ends) (event ∷ rest) rest ≡ rest
dropped_if event rest true is = refl
dropped_if event rest false is = absurd (cc is)

dropped_in : (t : ℕ) (event first : DueEvent) (rest : List DueEvent) (before : Bool) → ends_wait_of t event ≡ true → without_wait t (insert_event event rest) ≡ without_wait t rest →
    without_wait t (cond before (event ∷ first ∷ rest) (first ∷ insert_event event rest)) ≡ without_wait t (first ∷ rest)
dropped_in t event first rest true is more = dropped_if event (without_wait t (first ∷ rest)) (ends_wait_of t event) is
dropped_in t event first rest false is more = ap (λ kept. cond (not (ends_wait_of t first)) (first ∷ kept) kept) more

-- the end of a wait that was set is dropped with the wait
dropped : (t : ℕ) (event : DueEvent) (events : List DueEvent) → ends_wait_of t event ≡ true → without_wait t (insert_event event events) ≡ without_wait t events
dropped t event [] is = dropped_if event [] (ends_wait_of t event) is
dropped t event (first ∷ rest) is = dropped_in t event first rest (nat_lt event.time first.time) is (dropped t event rest is)

rewritten : {A : Type 0} → (xs : List (Option A)) (i : ℕ) (first second : Option A) → slice_set (slice_set (slice_set xs i first) i second) i (entry xs i) ≡ xs
rewritten [] i first second = refl
rewritten (x ∷ xs) zero first second = refl
rewritten (x ∷ xs) (suc i) first second = ap (λ rest. x ∷ rest) (rewritten xs i first second)

abbrev with_rows : Base → List DueEvent → List (Option Task) → Base
with_rows b events tasks = record b { tasks = tasks; events = events }

-- rows and events that are as before are the base from before
base_again : (b : Base) (t : ℕ) (first second : Option Task) (events : List DueEvent) → events ≡ b.events → with_rows b events (slice_set (slice_set (slice_set b.tasks t first) t second) t (task_at b t)) ≡ b
base_again b t first second events same =
    ap (with_rows b events) (rewritten b.tasks t first second)
    ∙ ap (λ all. with_rows b all b.tasks) same

limited_back : (b : Base) (t object : ℕ) (order : Order) (timeout : ℤ) (result : Answer) (row : Task) → task_at b t ≡ Some row → without_wait t b.events ≡ b.events → back_in b (release (make_wait b t object order timeout) t result) t ≡ b
limited_back b t object order (pos n) result row at unset =
    let waits : Task = record row { phase = Waiting object; queue = order } in
    let event : DueEvent = record { time = b.time + n + 1; key = b.made; what = Wait t } in
    entry_at (λ c. back_in b (release c t result) t ≡ b) (task_at b t) row b _ at
    (entry_at (λ c. back_in b c t ≡ b) (entry (slice_set b.tasks t (Some waits)) t) waits _ _ (entry_there b.tasks t row (Some waits) at)
    (base_again b t (Some waits) (Some (record waits { phase = Ready })) (without_wait t (insert_event event (without_wait t b.events))) (dropped t event (without_wait t b.events) (itself t) ∙ ap (without_wait t) unset ∙ unset)))
limited_back b t object order (negsuc n) result row at unset =
    let waits : Task = record row { phase = Waiting object; queue = order } in
    entry_at (λ c. back_in b (release c t result) t ≡ b) (task_at b t) row b _ at
    (entry_at (λ c. back_in b c t ≡ b) (entry (slice_set b.tasks t (Some waits)) t) waits _ _ (entry_there b.tasks t row (Some waits) at)
    (base_again b t (Some waits) (Some (record waits { phase = Ready })) (without_wait t (without_wait t b.events)) (ap (without_wait t) unset ∙ unset)))

-- a task that joined and was released is back in the base from which it came
base_back : (b : Base) (t object : ℕ) (order : Order) (timeout : ℤ) (result : Answer) → MayWait b t → back_in b (release (make_wait b t object order timeout) t result) t ≡ b
base_back b t object order timeout result may = limited_back b t object order timeout result may.row may.there may.unset

-- ---- the mutex

none_waits : (b : Base) (m : Mutexes) (id : ℕ) (k : Mutex) (waiters : List ℕ) → serve_mutex_of b m id k waiters ≡ None → waiters ≡ []
none_waits b m id k [] none = refl
none_waits b m id k (t ∷ rest) none = absurd (cc none)

one_joined : (order : Order) (key : ℕ → ℕ) (t : ℕ) → joined order key t [] ≡ t ∷ []
one_joined Fifo key t = refl
one_joined Priority key t = refl

-- the only waiter is served, and is back where it was
served_back : (b c : Base) (m : Mutexes) (t id : ℕ) (timeout : ℤ) (k : Mutex) → back_in b (release c t (plain (pos 0))) t ≡ b → is_waiting c t ≡ true →
    table_changed b (locked m id k t) (pos 0) ≡ mutex_trial_of b m t id timeout k (serve_mutex_of c m id k (t ∷ []))
served_back b c m t id timeout k back waits =
    let returned : Answer → MutexDone = λ answer. record { base = back_in b (release c t (plain (pos 0))) t; table = locked m id k t; outcome = Returned answer } in
    sym (ap (λ ended. option_map_or returned ended (waits_or_ends b m t id k.order timeout)) (release_answers c t (plain (pos 0)) sem_flags_start waits)
    ∙ ap (λ base. table_changed base (locked m id k t) (pos 0)) back)

trial_if : (b : Base) (m : Mutexes) (t id : ℕ) (timeout : ℤ) (k : Mutex) (free : Bool) → MayWait b t → cond free (serve_mutex_of b m id k (mutex_waiters b k id)) None ≡ None →
    cond free (table_changed b (locked m id k t) (pos 0)) (waits_or_ends b m t id k.order timeout)
    ≡ mutex_trial_of b m t id timeout k (cond free (serve_mutex_of (make_wait b t (mutex_object id) k.order timeout) m id k (mutex_waiters (make_wait b t (mutex_object id) k.order timeout) k id)) None)
trial_if b m t id timeout k false may none = refl
trial_if b m t id timeout k true may none =
    let c : Base = make_wait b t (mutex_object id) k.order timeout in
    let alone : mutex_waiters c k id ≡ t ∷ [] =
    queue_joined k.order b t (mutex_object id) k.order timeout may
    ∙ ap (joined k.order (current b) t) (none_waits b m id k (mutex_waiters b k id) none)
    ∙ one_joined k.order (current b) t in
    served_back b c m t id timeout k (base_back b t (mutex_object id) k.order timeout (plain (pos 0)) may) (joined_waits b t (mutex_object id) k.order timeout may)
    ∙ ap (λ waiters. mutex_trial_of b m t id timeout k (serve_mutex_of c m id k waiters)) (sym alone)

pub mutex_call_is_trial : (b : Base) (m : Mutexes) (t id : ℕ) (timeout : ℤ) (k : Mutex) → MayWait b t → mutex_at m id ≡ Some k → serve_mutex b m id ≡ None →
    waited_for_mutex b m t id timeout (Some k) ≡ mutex_trial b m t id timeout k
unfolding serve_mutex mutex_trial
mutex_call_is_trial b m t id timeout k may at none =
    trial_if b m t id timeout k (k.owner == 0) may (ap (serve_mutex_at b m id) (sym at) ∙ none)
    ∙ ap (λ slot. mutex_trial_of b m t id timeout k (serve_mutex_at (make_wait b t (mutex_object id) k.order timeout) m id slot)) (sym at)

over_if : (b : Base) (m : Mutexes) (works : MutexDone) (free : Bool) → free ≡ false → cond free works (record { base = b; table = m; outcome = failed er.TmOut }) ≡ record { base = b; table = m; outcome = failed er.TmOut }
over_if b m works true owned = absurd (cc owned)
over_if b m works false owned = refl

-- with a time-out of 0 a call that isn't served has changed nothing
pub over_at_once : (b : Base) (m : Mutexes) (t id : ℕ) (k : Mutex) → (k.owner ≡ 0 → ⊥) → waited_for_mutex b m t id (pos 0) (Some k) ≡ record { base = b; table = m; outcome = failed er.TmOut }
over_at_once b m t id k owned = over_if b m (table_changed b (locked m id k t) (pos 0)) (k.owner == 0) (grind (arith, nat_tests, owned))
