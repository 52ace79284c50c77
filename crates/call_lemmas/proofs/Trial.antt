-- A waiting call decides as its trial does: the task joins the queue of the object, and the object serves one, if it can.
use Rattle.std.proofs.Common.{◌≡◌, ℕ, suc, zero, ◌+◌, ◌<◌, Bool, true, false, not, ◌&&◌, ◌||◌, List, [], ◌∷◌, Option, Some, None, length, refl, cond, ◌∙◌, ap, sym, ℤ, pos, negsuc}
use Rattle.std.specs.Prelude.{nat_le, nat_lt, slice_set}
use Rattle.std.specs.List.{find}
use Rattle.std.specs.Option.{option_map_or}
use Rattle.std.proofs.lemmas.List.{get_or-set_same, get_or-set_other}
use Rattle.tk_types.specs.declared.answer.Answer.{Answer}
use Rattle.tk_types.specs.declared.answer.Outcome.TheVariants.{Returned}
use Rattle.tk_types.specs.declared.task.Order.{Order}
use Rattle.tk_types.specs.declared.task.Order.TheVariants.{Fifo, Priority}
use Rattle.tk_types.specs.declared.task.Task.{Task}
use Rattle.tk_types.specs.declared.task.Phase.TheVariants.{Ready, Waiting}
use Rattle.tk_types.specs.declared.task.Event.TheVariants.{Wait}
use Rattle.tk_types.specs.declared.task.DueEvent.{DueEvent}
use Rattle.kernel_model.specs.declared.objects.Semaphore.{Semaphore}
use Rattle.kernel_model.specs.declared.objects.EventFlag.{EventFlag}
use Rattle.kernel_model.specs.declared.objects.FlagWish.{FlagWish}
use Rattle.kernel_model.specs.Words.Checks.{plain}
use Rattle.kernel_model.specs.Words.Orders.{entry}
use Rattle.kernel_model.specs.Words.Events.{insert_event, without_wait, ends_wait_of}
use Rattle.kernel_model.specs.Tasks.Base.{Base, task_at, current, waiting_in, waits_in, waits_for, waits_somewhere, is_waiting, queue, make_wait, release}
use Rattle.kernel_model.specs.SemFlags.Tables.{SemFlags, sem_object, flag_object, sem_at, flag_at, count_of, wish_of, no_wish, is_there, is_fulfilled, has_bits, sem_pick, sem_served, flag_served, sem_waiters, flag_waiters, serve_sem, serve_sem_at, serve_sem_of, serve_flag, serve_flag_at, serve_flag_of, flag_answer, taken_from_sem, cleared_flag}
use Rattle.kernel_model.specs.SemFlags.Calls.{SemFlagDone, serves_at_once, would_be_first, waited_for_sem, waited_for_flag, waits_or_ends, tables_changed}
use Rattle.kernel_model.specs.SemFlags.Trial.{MayWait, asked_count, asked_wish, back_in, sem_trial, sem_trial_of, flag_trial, flag_trial_of}
use Rattle.kernel_lemmas.proofs.Tables.{itself, entry_at, entry_there}
use Rattle.kernel_lemmas.proofs.Queues.{fifo_wait, priority_wait}
use Rattle.call_lemmas.proofs.Serving.{queue_absent, release_answers}
use Rattle.call_lemmas.proofs.Picks.{joined, this_if, find_joined, pick_joined}

-- ---- the queue

pub ready_for_none : (b : Base) (t object : ℕ) (may : MayWait b t) → waits_for b object t ≡ false
ready_for_none b t object may = ap (waiting_in object) may.there ∙ ap (waits_in object) may.ready

pub queue_joined : (by : Order) (b : Base) (t object : ℕ) (order : Order) (timeout : ℤ) → MayWait b t → queue by (make_wait b t object order timeout) object ≡ joined by (current b) t (queue by b object)
queue_joined Fifo b t object order timeout may = fifo_wait b t object order timeout may.row may.there (ready_for_none b t object may)
queue_joined Priority b t object order timeout may = priority_wait b t object order timeout may.row may.there (ready_for_none b t object may)

-- ---- the base

written_back : {A : Type 0} → (xs : List (Option A)) (i : ℕ) (first second : Option A) → slice_set (slice_set (slice_set xs i first) i second) i (entry xs i) ≡ xs
written_back [] i first second = refl
written_back (x ∷ xs) zero first second = refl
written_back (x ∷ xs) (suc i) first second = ap (λ rest. x ∷ rest) (written_back xs i first second)

tasks_back : (b : Base) (t : ℕ) (first second : Option Task) → record b { tasks = slice_set (slice_set (slice_set b.tasks t first) t second) t (task_at b t) } ≡ b
tasks_back b t first second = ap (λ tasks. record b { tasks = tasks }) (written_back b.tasks t first second)

dropped_if : (event : DueEvent) (rest : List DueEvent) (ends : Bool) → ends ≡ true → cond (not ends) (event ∷ rest) rest ≡ rest
dropped_if event rest true is = refl
dropped_if event rest false is = absurd (cc is)

set_dropped_if : (t : ℕ) (event first : DueEvent) (rest : List DueEvent) (before : Bool) → ends_wait_of t event ≡ true → without_wait t (insert_event event rest) ≡ without_wait t rest →
    without_wait t (cond before (event ∷ first ∷ rest) (first ∷ insert_event event rest)) ≡ without_wait t (first ∷ rest)
set_dropped_if t event first rest true is more = dropped_if event (without_wait t (first ∷ rest)) (ends_wait_of t event) is
set_dropped_if t event first rest false is more = ap (λ kept. cond (not (ends_wait_of t first)) (first ∷ kept) kept) more

-- the end of a wait that was set is dropped with the wait
set_dropped : (t : ℕ) (event : DueEvent) (events : List DueEvent) → ends_wait_of t event ≡ true → without_wait t (insert_event event events) ≡ without_wait t events
set_dropped t event [] is = dropped_if event [] (ends_wait_of t event) is
set_dropped t event (first ∷ rest) is = set_dropped_if t event first rest (nat_lt event.time first.time) is (set_dropped t event rest is)

rows_back : (b : Base) (t : ℕ) (first second : Option Task) (events : List DueEvent) → events ≡ b.events →
    record b { tasks = slice_set (slice_set (slice_set b.tasks t first) t second) t (task_at b t); events = events } ≡ b
rows_back b t first second events same = ap (λ events. record b { tasks = slice_set (slice_set (slice_set b.tasks t first) t second) t (task_at b t); events = events }) same ∙ tasks_back b t first second

-- a task that joined and was released is back in the base from which it came
base_back : (b : Base) (t object : ℕ) (order : Order) (timeout : ℤ) (result : Answer) → MayWait b t → back_in b (release (make_wait b t object order timeout) t result) t ≡ b
base_back b t object order (pos n) result may =
    let waits : Task = record may.row { phase = Waiting object; queue = order } in
    let event : DueEvent = record { time = b.time + n + 1; key = b.made; what = Wait t } in
    entry_at (λ c. back_in b (release c t result) t ≡ b) (task_at b t) may.row b _ may.there
    (entry_at (λ c. back_in b c t ≡ b) (entry (slice_set b.tasks t (Some waits)) t) waits _ _ (entry_there b.tasks t may.row (Some waits) may.there)
    (rows_back b t (Some waits) (Some (record waits { phase = Ready })) (without_wait t (insert_event event (without_wait t b.events))) (set_dropped t event (without_wait t b.events) (itself t) ∙ ap (without_wait t) may.unset ∙ may.unset)))
base_back b t object order (negsuc n) result may =
    let waits : Task = record may.row { phase = Waiting object; queue = order } in
    entry_at (λ c. back_in b (release c t result) t ≡ b) (task_at b t) may.row b _ may.there
    (entry_at (λ c. back_in b c t ≡ b) (entry (slice_set b.tasks t (Some waits)) t) waits _ _ (entry_there b.tasks t may.row (Some waits) may.there)
    (rows_back b t (Some waits) (Some (record waits { phase = Ready })) (without_wait t (without_wait t b.events)) (ap (without_wait t) may.unset ∙ may.unset)))

-- a task that joined waits
pub joined_waits : (b : Base) (t object : ℕ) (order : Order) (timeout : ℤ) → MayWait b t → is_waiting (make_wait b t object order timeout) t ≡ true
joined_waits b t object order (pos n) may = entry_at (λ c. is_waiting c t ≡ true) (task_at b t) may.row b _ may.there (ap waits_somewhere (entry_there b.tasks t may.row (Some (record may.row { phase = Waiting object; queue = order })) may.there))
joined_waits b t object order (negsuc n) may = entry_at (λ c. is_waiting c t ≡ true) (task_at b t) may.row b _ may.there (ap waits_somewhere (entry_there b.tasks t may.row (Some (record may.row { phase = Waiting object; queue = order })) may.there))

-- ---- semaphores

pub sem_unserved : (b : Base) (s : SemFlags) (id : ℕ) (k : Semaphore) (o : Option ℕ) → serve_sem_of b s id k o ≡ None → o ≡ None
sem_unserved b s id k None none = refl
sem_unserved b s id k (Some t) none = absurd (cc none)

-- where a semaphore can serve nobody, nobody is picked of its waiters
pub sem_settled : (b : Base) (s : SemFlags) (id : ℕ) (k : Semaphore) → sem_at s id ≡ Some k → serve_sem b s id ≡ None → sem_served s k b id ≡ None
unfolding serve_sem
sem_settled b s id k at none = sem_unserved b s id k (sem_served s k b id) (ap (serve_sem_at b s id) (sym at) ∙ none)

pub count_asked : (s : SemFlags) (t n : ℕ) → t < length s.counts → count_of (asked_count s t n) t ≡ n
count_asked s t n inside = get_or-set_same s.counts t n 0 inside

-- once the task has joined, it is served exactly where it is served at once
pub sem_served_joined : (b : Base) (s : SemFlags) (t id n : ℕ) (timeout : ℤ) (k : Semaphore) → MayWait b t → t < length s.counts → sem_served s k b id ≡ None →
    sem_served (asked_count s t n) k (make_wait b t (sem_object id) k.order timeout) id ≡ this_if (serves_at_once b k id t n) t
sem_served_joined b s t id n timeout k may inside none =
    ap (λ waiters. sem_pick k.any_place (is_there (asked_count s t n) k) waiters) (queue_joined k.order b t (sem_object id) k.order timeout may)
    ∙ pick_joined k.any_place k.order b (is_there s k) (is_there (asked_count s t n) k) t (sem_waiters b k id)
    (λ u apart. ap (λ count. nat_le count k.count) (get_or-set_other s.counts t u n 0 apart)) (queue_absent k.order b t (sem_object id) (ready_for_none b t (sem_object id) may)) none
    ∙ ap (λ count. this_if (nat_le count k.count && (k.any_place || would_be_first k.order b t (sem_waiters b k id))) t) (count_asked s t n inside)

sem_trial_if : (b c : Base) (s : SemFlags) (t id n : ℕ) (timeout : ℤ) (k : Semaphore) (at_once : Bool) → count_of (asked_count s t n) t ≡ n →
    back_in b (release c t (plain (pos 0))) t ≡ b → is_waiting c t ≡ true →
    cond at_once (tables_changed b (taken_from_sem s id k n) (pos 0)) (waits_or_ends b s t (sem_object id) k.order timeout (asked_count s t n))
    ≡ sem_trial_of b s t id n timeout k (serve_sem_of c (asked_count s t n) id k (this_if at_once t))
sem_trial_if b c s t id n timeout k false count back waits = refl
sem_trial_if b c s t id n timeout k true count back waits =
    let taken : SemFlags = taken_from_sem (asked_count s t n) id k (count_of (asked_count s t n) t) in
    let returned : Answer → SemFlagDone = λ answer. record { base = back_in b (release c t (plain (pos 0))) t; table = record taken { counts = s.counts }; outcome = Returned answer } in
    sym (ap (λ ended. option_map_or returned ended (waits_or_ends b s t (sem_object id) k.order timeout (asked_count s t n))) (release_answers c t (plain (pos 0)) taken waits)
    ∙ ap (λ base. tables_changed base (taken_from_sem s id k (count_of (asked_count s t n) t)) (pos 0)) back
    ∙ ap (λ asked. tables_changed b (taken_from_sem s id k asked) (pos 0)) count)

pub sem_call_is_trial : (b : Base) (s : SemFlags) (t id n : ℕ) (timeout : ℤ) (k : Semaphore) → MayWait b t → sem_at s id ≡ Some k → t < length s.counts → serve_sem b s id ≡ None →
    waited_for_sem b s t id n timeout (Some k) ≡ sem_trial b s t id n timeout k
unfolding serve_sem sem_trial
sem_call_is_trial b s t id n timeout k may at inside none =
    let c : Base = make_wait b t (sem_object id) k.order timeout in
    sem_trial_if b c s t id n timeout k (serves_at_once b k id t n) (count_asked s t n inside)
    (base_back b t (sem_object id) k.order timeout (plain (pos 0)) may) (joined_waits b t (sem_object id) k.order timeout may)
    ∙ ap (λ picked. sem_trial_of b s t id n timeout k (serve_sem_of c (asked_count s t n) id k picked)) (sym (sem_served_joined b s t id n timeout k may inside (sem_settled b s id k at none)))
    ∙ ap (λ slot. sem_trial_of b s t id n timeout k (serve_sem_at c (asked_count s t n) id slot)) (sym at)

-- ---- event flags

pub flag_unserved : (b : Base) (s : SemFlags) (id : ℕ) (k : EventFlag) (o : Option ℕ) → serve_flag_of b s id k o ≡ None → o ≡ None
flag_unserved b s id k None none = refl
flag_unserved b s id k (Some t) none = absurd (cc none)

-- where a flag can serve nobody, nobody is picked of its waiters
pub flag_settled : (b : Base) (s : SemFlags) (id : ℕ) (k : EventFlag) → flag_at s id ≡ Some k → serve_flag b s id ≡ None → flag_served s k b id ≡ None
unfolding serve_flag
flag_settled b s id k at none = flag_unserved b s id k (flag_served s k b id) (ap (serve_flag_at b s id) (sym at) ∙ none)

pub wish_asked : (s : SemFlags) (t : ℕ) (wish : FlagWish) → t < length s.wishes → wish_of (asked_wish s t wish) t ≡ wish
wish_asked s t wish inside = get_or-set_same s.wishes t wish no_wish inside

-- once the task has joined, it is served exactly where the pattern has its bits
pub flag_served_joined : (b : Base) (s : SemFlags) (t id : ℕ) (wish : FlagWish) (timeout : ℤ) (k : EventFlag) → MayWait b t → t < length s.wishes → flag_served s k b id ≡ None →
    flag_served (asked_wish s t wish) k (make_wait b t (flag_object id) k.order timeout) id ≡ this_if (has_bits k.pattern wish) t
flag_served_joined b s t id wish timeout k may inside none =
    ap (λ waiters. find (is_fulfilled (asked_wish s t wish) k) waiters) (queue_joined k.order b t (flag_object id) k.order timeout may)
    ∙ find_joined k.order (is_fulfilled s k) (is_fulfilled (asked_wish s t wish) k) (current b) t (flag_waiters b k id)
    (λ u apart. ap (λ asked. has_bits k.pattern asked) (get_or-set_other s.wishes t u wish no_wish apart)) (queue_absent k.order b t (flag_object id) (ready_for_none b t (flag_object id) may)) none
    ∙ ap (λ asked. this_if (has_bits k.pattern asked) t) (wish_asked s t wish inside)

flag_trial_if : (b c : Base) (s : SemFlags) (t id : ℕ) (wish : FlagWish) (timeout : ℤ) (k : EventFlag) (at_once : Bool) → wish_of (asked_wish s t wish) t ≡ wish →
    back_in b (release c t (flag_answer k)) t ≡ b → is_waiting c t ≡ true →
    cond {A = SemFlagDone} at_once (record { base = b; table = cleared_flag s id k wish; outcome = Returned (flag_answer k) }) (waits_or_ends b s t (flag_object id) k.order timeout (asked_wish s t wish))
    ≡ flag_trial_of b s t id wish timeout k (serve_flag_of c (asked_wish s t wish) id k (this_if at_once t))
flag_trial_if b c s t id wish timeout k false asked back waits = refl
flag_trial_if b c s t id wish timeout k true asked back waits =
    let answered : Base → FlagWish → SemFlagDone = λ base asked. record { base = base; table = cleared_flag s id k asked; outcome = Returned (flag_answer k) } in
    let cleared : SemFlags = cleared_flag (asked_wish s t wish) id k (wish_of (asked_wish s t wish) t) in
    let returned : Answer → SemFlagDone = λ answer. record { base = back_in b (release c t (flag_answer k)) t; table = record cleared { wishes = s.wishes }; outcome = Returned answer } in
    sym (ap (λ ended. option_map_or returned ended (waits_or_ends b s t (flag_object id) k.order timeout (asked_wish s t wish))) (release_answers c t (flag_answer k) cleared waits)
    ∙ ap (λ base. answered base (wish_of (asked_wish s t wish) t)) back
    ∙ ap (answered b) asked)

pub flag_call_is_trial : (b : Base) (s : SemFlags) (t id : ℕ) (wish : FlagWish) (timeout : ℤ) (k : EventFlag) → MayWait b t → flag_at s id ≡ Some k → t < length s.wishes → serve_flag b s id ≡ None →
    waited_for_flag b s t id wish timeout (Some k) ≡ flag_trial b s t id wish timeout k
unfolding serve_flag flag_trial
flag_call_is_trial b s t id wish timeout k may at inside none =
    let c : Base = make_wait b t (flag_object id) k.order timeout in
    flag_trial_if b c s t id wish timeout k (has_bits k.pattern wish) (wish_asked s t wish inside)
    (base_back b t (flag_object id) k.order timeout (flag_answer k) may) (joined_waits b t (flag_object id) k.order timeout may)
    ∙ ap (λ picked. flag_trial_of b s t id wish timeout k (serve_flag_of c (asked_wish s t wish) id k picked)) (sym (flag_served_joined b s t id wish timeout k may inside (flag_settled b s id k at none)))
    ∙ ap (λ slot. flag_trial_of b s t id wish timeout k (serve_flag_at c (asked_wish s t wish) id slot)) (sym at)
