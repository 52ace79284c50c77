-- Tasks that wait queue as some orders say: what other orders they still stand in, and that each move, and the end of all waits
-- for an object that is deleted, leaves them in it.
use Rattle.std.proofs.Common.{◌≡◌, ℕ, suc, zero, ◌+◌, ◌-◌, ◌≤◌, Bool, true, false, not, cond, List, [], ◌∷◌, Option, Some, None, length, refl, ◌∙◌, ap, sym, subst, arith, ℤ, pos, negsuc, ◌⊎◌, inl, inr}
use Rattle.std.specs.Bool.{◌==◌}
use Rattle.std.specs.Prelude.{filter, slice_set}
use Rattle.std.proofs.lemmas.Bool.Decides.{nat_tests}
use Rattle.tk_types.specs.declared.answer.Answer.{Answer}
use Rattle.tk_types.specs.declared.error_code.Er.TheVariants as er
use Rattle.tk_types.specs.declared.task.Order.{Order}
use Rattle.tk_types.specs.declared.task.Order.TheVariants.{Fifo, Priority}
use Rattle.tk_types.specs.declared.task.Phase.{Phase}
use Rattle.tk_types.specs.declared.task.Phase.TheVariants.{Dormant, Ready, Waiting}
use Rattle.tk_types.specs.declared.task.Task.{Task}
use Rattle.tk_types.specs.Codes.{code_of}
use Rattle.kernel_model.specs.LawWords.Once.{times}
use Rattle.kernel_model.specs.Words.Checks.{plain}
use Rattle.kernel_model.specs.Words.Orders.{entry, to_back, without}
use Rattle.kernel_model.specs.Tasks.Base.{Base, back_unless_suspended, create, delete, drop_wait, gone, is_waiting_phase, limited, make_dormant, make_ready, make_wait, move_wait, queue, recorded, release, resume, resumed, set_base, set_current, set_wakeups, suspend, task_at, waiting_in, waits_for, waits_in, waits_somewhere, with_task}
use Rattle.kernel_model.specs.Tasks.Waits.{FitsPhase, FitsRow, HavePlaces}
use Rattle.kernel_model.specs.SemFlags.Calls.{end_first, end_waits, first_ended}
use Rattle.kernel_lemmas.proofs.Queues.{queue_release}
use Rattle.kernel_lemmas.proofs.ReadyLists.{times_filter_is}
use Rattle.kernel_lemmas.proofs.Releases.{release_others, release_over}
use Rattle.kernel_lemmas.proofs.Sorting.{times_sort}
use Rattle.kernel_lemmas.proofs.Tables.{entry_cases, entry_each, entry_same, itself}
use Rattle.call_lemmas.proofs.Serving.{waits_for_waits}
use Rattle.call_walk.proofs.BaseMoves.{end_waits_keeps, still}
use Rattle.call_walk.proofs.Places.{places_kept}

-- how the waiters of each object queue, where there is that object
abbrev pub Orders : Type 0
Orders = ℕ → Option Order

-- each task that waits queues as the orders say
abbrev pub AreRight : Orders → Base → Type 0
AreRight orders b = (t : ℕ) → FitsRow orders (task_at b t)

-- no task waits for an object
abbrev pub IsIdle : Base → ℕ → Type 0
IsIdle b object = (t : ℕ) → waits_for b object t ≡ false

-- each object keeps its order, or no task waits for it
abbrev pub IsApart : Orders → Orders → Base → Type 0
IsApart orders now b = (object : ℕ) → (now object ≡ orders object) ⊎ IsIdle b object

-- a test that cannot be true is false
refuted : (test : Bool) → (test ≡ true → ⊥) → test ≡ false
refuted true denied = absurd (denied refl)
refuted false denied = refl

-- ---- other orders

object_apart : (orders now : Orders) (by : Order) (object : ℕ) → (now object ≡ orders object) ⊎ (waits_in object (Waiting object) ≡ false) → orders object ≡ Some by →
    now object ≡ Some by
object_apart orders now by object (inl same) fits = same ∙ fits
object_apart orders now by object (inr idle) fits = let on = itself object in absurd (cc (on, idle))

phase_apart : (orders now : Orders) (by : Order) (phase : Phase) → ((object : ℕ) → (now object ≡ orders object) ⊎ (waits_in object phase ≡ false)) → FitsPhase orders by phase →
    FitsPhase now by phase
phase_apart orders now by (Waiting object) each fits = object_apart orders now by object (each object) fits
phase_apart orders now by Ready each fits = tt
phase_apart orders now by Dormant each fits = tt

row_apart : (orders now : Orders) (slot : Option Task) → ((object : ℕ) → (now object ≡ orders object) ⊎ (waiting_in object slot ≡ false)) → FitsRow orders slot → FitsRow now slot
row_apart orders now None each fits = tt
row_apart orders now (Some k) each fits = phase_apart orders now k.queue k.phase each fits

idle_at : (A : Type 0) (b : Base) (object t : ℕ) → A ⊎ IsIdle b object → A ⊎ (waits_for b object t ≡ false)
idle_at A b object t (inl same) = inl same
idle_at A b object t (inr idle) = inr (idle t)

-- where each object keeps its order, or no task waits for it, the tasks that wait still stand in order
pub right_apart : (orders now : Orders) (b : Base) → IsApart orders now b → AreRight orders b → AreRight now b
right_apart orders now b each all = λ t. row_apart orders now (task_at b t) (λ object. idle_at (now object ≡ orders object) b object t (each object)) (all t)

-- the same where all objects keep their orders
pub right_same : (orders now : Orders) (b : Base) → ((object : ℕ) → now object ≡ orders object) → AreRight orders b → AreRight now b
right_same orders now b same all = right_apart orders now b (λ object. inl (same object)) all

none_waits : (orders : Orders) (object other : ℕ) (by : Order) → orders object ≡ None → orders other ≡ Some by → (other == object) ≡ true → ⊥
none_waits orders object other by none some same =
    let e : other ≡ object = grind (arith, nat_tests, same) in
    let there : orders object ≡ Some by = subst (λ (n : ℕ). orders n ≡ Some by) e some in
    absurd (cc (none, there))

phase_idle : (orders : Orders) (object : ℕ) (by : Order) (phase : Phase) → orders object ≡ None → FitsPhase orders by phase → waits_in object phase ≡ false
phase_idle orders object by (Waiting other) none fits = refuted (other == object) (none_waits orders object other by none fits)
phase_idle orders object by Ready none fits = refl
phase_idle orders object by Dormant none fits = refl

row_idle : (orders : Orders) (object : ℕ) (slot : Option Task) → orders object ≡ None → FitsRow orders slot → waiting_in object slot ≡ false
row_idle orders object None none fits = refl
row_idle orders object (Some k) none fits = phase_idle orders object k.queue k.phase none fits

-- nobody waits for what isn't there
pub none_idle : (orders : Orders) (b : Base) (object : ℕ) → AreRight orders b → orders object ≡ None → IsIdle b object
none_idle orders b object all none = λ t. row_idle orders object (task_at b t) none (all t)

-- ---- the moves

written : (orders : Orders) (b : Base) (v : ℕ) (slot : Option Task) → AreRight orders b → FitsRow orders slot → (t : ℕ) → FitsRow orders (entry (slice_set b.tasks v slot) t)
written orders b v slot all fits = entry_each (λ u now. FitsRow orders now) b.tasks v slot (entry_same (FitsRow orders) b.tasks v slot fits tt) (λ u apart. all u)

row_fits : (orders : Orders) (b : Base) (v : ℕ) (k : Task) → AreRight orders b → task_at b v ≡ Some k → FitsRow orders (Some k)
row_fits orders b v k all at = subst (FitsRow orders) at (all v)

-- a task is made
pub create_fits : (orders : Orders) (b : Base) (v priority stack : ℕ) → AreRight orders b → AreRight orders (create b v priority stack)
create_fits orders b v priority stack all =
    let slot : Option Task = Some
    (record { phase = Dormant; queue = Fifo; base = priority; initial = priority; current = priority; wakeups = 0; suspensions = 0; stack = stack }) in
    written orders b v slot all tt

-- a task becomes READY
pub ready_fits : (orders : Orders) (b : Base) (v : ℕ) → AreRight orders b → AreRight orders (make_ready b v)
ready_fits orders b v all = entry_cases (AreRight orders) (task_at b v) b (λ k. record (with_task b v (record k { phase = Ready })) { order = to_back v b.order }) all
    (λ k at. written orders b v (Some (record k { phase = Ready })) all tt)

-- a task is gone
pub delete_fits : (orders : Orders) (b : Base) (v : ℕ) → AreRight orders b → AreRight orders (delete b v)
delete_fits orders b v all = entry_cases (AreRight orders) (task_at b v) b (λ k. record b
    { tasks = slice_set b.tasks v None; order = without v b.order; since = without v b.since; bytes = b.bytes - k.stack }) all
    (λ k at. written orders b v None all tt)

-- a task ends
pub dormant_fits : (orders : Orders) (b : Base) (v : ℕ) → AreRight orders b → AreRight orders (make_dormant b v)
dormant_fits orders b v all = entry_cases (AreRight orders) (task_at b v) b (λ k. record (with_task (drop_wait b v) v
    (record k { phase = Dormant; base = k.initial; current = k.initial; wakeups = 0; suspensions = 0 })) { cur = gone v b.cur }) all
    (λ k at. let slot : Option Task = Some (record k { phase = Dormant; base = k.initial; current = k.initial; wakeups = 0; suspensions = 0 }) in written orders b v slot all tt)

-- a task is suspended
pub suspend_fits : (orders : Orders) (b : Base) (v : ℕ) → AreRight orders b → AreRight orders (suspend b v)
suspend_fits orders b v all = entry_cases (AreRight orders) (task_at b v) b (λ k. record (with_task b v (record k { suspensions = k.suspensions + 1 }))
    { cur = gone v b.cur }) all
    (λ k at. written orders b v (Some (record k { suspensions = k.suspensions + 1 })) all (row_fits orders b v k all at))

resumed_fits : (orders : Orders) (b : Base) (v : ℕ) (every free : Bool) (k : Task) → AreRight orders b → task_at b v ≡ Some k →
    AreRight orders (cond free b (resumed b v (cond every 0 (k.suspensions - 1)) k))
resumed_fits orders b v every true k all at = all
resumed_fits orders b v every false k all at = written orders b v (Some (record k { suspensions = cond every 0 (k.suspensions - 1) })) all (row_fits orders b v k all at)

-- a suspension is taken off
pub resume_fits : (orders : Orders) (b : Base) (v : ℕ) (every : Bool) → AreRight orders b → AreRight orders (resume b v every)
resume_fits orders b v every all = entry_cases (AreRight orders) (task_at b v) b (λ k. cond (k.suspensions == 0) b (resumed b v (cond every 0 (k.suspensions - 1)) k)) all
    (λ k at. resumed_fits orders b v every (k.suspensions == 0) k all at)

-- a base priority changes
pub set_base_fits : (orders : Orders) (b : Base) (v priority : ℕ) → AreRight orders b → AreRight orders (set_base b v priority)
set_base_fits orders b v priority all = entry_cases (AreRight orders) (task_at b v) b (λ k. with_task b v (record k { base = priority })) all
    (λ k at. written orders b v (Some (record k { base = priority })) all (row_fits orders b v k all at))

-- a current priority changes
pub set_current_fits : (orders : Orders) (b : Base) (v priority : ℕ) → AreRight orders b → AreRight orders (set_current b v priority)
set_current_fits orders b v priority all = entry_cases (AreRight orders) (task_at b v) b (λ k. record (with_task b v (record k { current = priority }))
    { order = to_back v b.order }) all
    (λ k at. written orders b v (Some (record k { current = priority })) all (row_fits orders b v k all at))

-- requests to wake up are counted
pub set_wakeups_fits : (orders : Orders) (b : Base) (v n : ℕ) → AreRight orders b → AreRight orders (set_wakeups b v n)
set_wakeups_fits orders b v n all = entry_cases (AreRight orders) (task_at b v) b (λ k. with_task b v (record k { wakeups = n })) all
    (λ k at. written orders b v (Some (record k { wakeups = n })) all (row_fits orders b v k all at))

released_fits : (orders : Orders) (b : Base) (v : ℕ) (answer : Answer) (k : Task) (waits : Bool) → AreRight orders b →
    AreRight orders (cond waits (record (with_task (drop_wait b v) v (record k { phase = Ready }))
    { order = back_unless_suspended v k.suspensions b.order; released = recorded v answer b.released }) b)
released_fits orders b v answer k true all = written orders b v (Some (record k { phase = Ready })) all tt
released_fits orders b v answer k false all = all

-- a wait ends
pub release_fits : (orders : Orders) (b : Base) (v : ℕ) (answer : Answer) → AreRight orders b → AreRight orders (release b v answer)
release_fits orders b v answer all =
    entry_cases (AreRight orders) (task_at b v) b (λ k. cond (is_waiting_phase k.phase) (record (with_task (drop_wait b v) v (record k { phase = Ready }))
    { order = back_unless_suspended v k.suspensions b.order; released = recorded v answer b.released }) b) all
    (λ k at. released_fits orders b v answer k (is_waiting_phase k.phase) all)

limited_fits : (orders : Orders) (timeout : ℤ) (v : ℕ) (b : Base) → AreRight orders b → AreRight orders (limited timeout v b)
limited_fits orders (pos n) v b all = all
limited_fits orders (negsuc n) v b all = all

-- a wait for an object begins, in the order of its queue
pub wait_fits : (orders : Orders) (b : Base) (v object : ℕ) (by : Order) (timeout : ℤ) → orders object ≡ Some by → AreRight orders b →
    AreRight orders (make_wait b v object by timeout)
wait_fits orders b v object by timeout there all =
    entry_cases (AreRight orders) (task_at b v) b (λ k. limited timeout v (record (with_task (drop_wait b v) v (record k { phase = Waiting object; queue = by }))
    { order = to_back v b.order; since = to_back v b.since; cur = gone v b.cur })) all
    (λ k at. limited_fits orders timeout v (record (with_task (drop_wait b v) v (record k { phase = Waiting object; queue = by }))
    { order = to_back v b.order; since = to_back v b.since; cur = gone v b.cur })
    (written orders b v (Some (record k { phase = Waiting object; queue = by })) all there))

moved_fits : (orders : Orders) (b : Base) (v object : ℕ) (by : Order) (k : Task) (waits : Bool) → orders object ≡ Some by → AreRight orders b →
    AreRight orders (cond waits (with_task (drop_wait b v) v (record k { phase = Waiting object; queue = by })) b)
moved_fits orders b v object by k true there all = written orders b v (Some (record k { phase = Waiting object; queue = by })) all there
moved_fits orders b v object by k false there all = all

-- a wait moves to another object, into the order of its queue
pub move_fits : (orders : Orders) (b : Base) (v object : ℕ) (by : Order) → orders object ≡ Some by → AreRight orders b → AreRight orders (move_wait b v object by)
move_fits orders b v object by there all =
    entry_cases (AreRight orders) (task_at b v) b (λ k. cond (is_waiting_phase k.phase) (with_task (drop_wait b v) v (record k { phase = Waiting object; queue = by })) b) all
    (λ k at. moved_fits orders b v object by k (is_waiting_phase k.phase) there all)

-- ---- the end of all waits for an object

still_waits : (b : Base) (u t object : ℕ) (result : Answer) → waits_for (release b t result) object u ≡ true → (u ≡ t → ⊥)
still_waits b u t object result waits same =
    let over : waits_somewhere (task_at (release b t result) u) ≡ false = subst (λ (v : ℕ). waits_somewhere (task_at (release b t result) v) ≡ false) (sym same)
    (release_over b t result) in
    let on = waits_for_waits (release b t result) u object waits in
    absurd (cc (over, on))

waited_before : (b : Base) (u t object : ℕ) (result : Answer) → waits_for (release b t result) object u ≡ true → waits_for b object u ≡ true
waited_before b u t object result waits =
    ap (waiting_in object) (sym (release_others b t u result (still_waits b u t object result waits))) ∙ waits

-- nobody waits for an object that nobody waited for, once a wait has ended
idle_release : (b : Base) (t object : ℕ) (result : Answer) → IsIdle b object → IsIdle (release b t result) object
idle_release b t object result idle = λ u. refuted (waits_for (release b t result) object u)
    (λ on. let before = waited_before b u t object result on in let none = idle u in absurd (cc (before, none)))

first_idle : (object : ℕ) (ids : List ℕ) (b : Base) → IsIdle b object → IsIdle (first_ended ids b) object
first_idle object [] b idle = idle
first_idle object (t ∷ ids) b idle = idle_release b t object (plain (code_of er.Dlt)) idle

ends_idle : (other : ℕ) (left : ℕ) (order : Order) (object : ℕ) (b : Base) → IsIdle b other → IsIdle (end_first left order object b) other
unfolding end_first
ends_idle other zero order object b idle = idle
ends_idle other (suc left) order object b idle = ends_idle other left order object (first_ended (queue order b object) b) (first_idle other (queue order b object) b idle)

-- nor once all waits for another object have
pub idle_waits : (other : ℕ) (order : Order) (object : ℕ) (b : Base) → IsIdle b other → IsIdle (end_waits order object b) other
idle_waits other order object b idle = ends_idle other (length (queue order b object)) order object b idle

-- a task that waits for an object stands in its queue
stands_in : (order : Order) (b : Base) (t object : ℕ) → HavePlaces b → waits_for b object t ≡ true → 1 ≤ times t (queue order b object)
stands_in Fifo b t object has waits =
    let is : times t (queue Fifo b object) ≡ times t b.since = times_filter_is (waits_for b object) t b.since ∙ ap (λ test. cond test (times t b.since) 0) waits in
    let one : 1 ≤ times t b.since = has.stands t object waits in
    omega (arith, is, one)
stands_in Priority b t object has waits =
    let is : times t (queue Priority b object) ≡ times t b.order = times_sort _ t (filter (waits_for b object) b.order) ∙ times_filter_is (waits_for b object) t b.order ∙ ap
    (λ test. cond test (times t b.order) 0) waits in
    let one : 1 ≤ times t b.order = has.ranks t object waits in
    omega (arith, is, one)

kept_length : (x : ℕ) (kept rest : List ℕ) (test : Bool) → length kept ≤ length rest → length (cond test (x ∷ kept) kept) ≤ length (x ∷ rest)
kept_length x kept rest true less = omega arith
kept_length x kept rest false less = omega arith

filter_length : (p : ℕ → Bool) (ids : List ℕ) → length (filter p ids) ≤ length ids
filter_length p [] = omega arith
filter_length p (x ∷ ids) = kept_length x (filter p ids) ids (p x) (filter_length p ids)

first_left : (t : ℕ) (ids : List ℕ) → length (without t (t ∷ ids)) ≤ length ids
first_left t ids =
    let same : (t == t) ≡ true = itself t in
    rw same (filter_length (λ v. not (v == t)) ids)

no_places : (t : ℕ) (ids : List ℕ) → length ids ≤ 0 → 1 ≤ times t ids → ⊥
no_places t [] none one = absurd (omega (arith, one))
no_places t (x ∷ ids) none one = absurd (omega (arith, none))

none_next : (left : ℕ) (order : Order) (object : ℕ) (b : Base) → HavePlaces b → (ids : List ℕ) → queue order b object ≡ ids → length ids ≤ suc left →
    (t : ℕ) → ((c : Base) → HavePlaces c → length (queue order c object) ≤ left → waits_for (end_first left order object c) object t ≡ true → ⊥) → waits_for
    (end_first left order object (first_ended ids b)) object t ≡ true → ⊥
none_next left order object b has [] at few t rest waits = rest b has (subst (λ (ids : List ℕ). length ids ≤ left) (sym at) (omega arith)) waits
none_next left order object b has (first ∷ ids) at few t rest waits =
    let result : Answer = plain (code_of er.Dlt) in
    let after : queue order (release b first result) object ≡ without first (first ∷ ids) = queue_release order b first object result ∙ ap (without first) at in
    let shorter = first_left first ids in
    let most : length (first ∷ ids) ≤ suc left = few in
    rest (release b first result) (places_kept.released b first result has) (subst (λ (ids : List ℕ). length ids ≤ left) (sym after) (omega (arith, shorter, most))) waits

none_left : (left : ℕ) (order : Order) (object : ℕ) (b : Base) → HavePlaces b → length (queue order b object) ≤ left → (t : ℕ) →
    waits_for (end_first left order object b) object t ≡ true → ⊥
unfolding end_first
none_left zero order object b has few t waits = no_places t (queue order b object) few (stands_in order b t object has waits)
none_left (suc left) order object b has few t waits = none_next left order object b has (queue order b object) refl few t
    (λ c places fewer on. none_left left order object c places fewer t on) waits

-- nobody waits for an object whose waits have all ended
pub ended_idle : (order : Order) (object : ℕ) (b : Base) → HavePlaces b → IsIdle (end_waits order object b) object
ended_idle order object b has = λ t. refuted (waits_for (end_waits order object b) object t) (none_left (length (queue order b object)) order object b has (omega arith) t)

first_fits : (orders : Orders) (ids : List ℕ) (b : Base) → AreRight orders b → AreRight orders (first_ended ids b)
first_fits orders [] b all = all
first_fits orders (t ∷ ids) b all = release_fits orders b t (plain (code_of er.Dlt)) all

ends_fit : (orders : Orders) (left : ℕ) (order : Order) (object : ℕ) (b : Base) → AreRight orders b → AreRight orders (end_first left order object b)
unfolding end_first
ends_fit orders zero order object b all = all
ends_fit orders (suc left) order object b all = ends_fit orders left order object (first_ended (queue order b object) b) (first_fits orders (queue order b object) b all)

-- the others stand in order still
pub ended_fits : (orders : Orders) (order : Order) (object : ℕ) (b : Base) → AreRight orders b → AreRight orders (end_waits order object b)
ended_fits orders order object b all = ends_fit orders (length (queue order b object)) order object b all

-- and have their places
pub ended_places : (order : Order) (object : ℕ) (b : Base) → HavePlaces b → HavePlaces (end_waits order object b)
ended_places order object b has = end_waits_keeps HavePlaces (still HavePlaces places_kept) order object b has
