-- The queue of an object as it stands: its order is that of the object, each waiter stands in it once, and its IDs are below
-- 2^32.
use Rattle.std.proofs.Common.{◌≡◌, ℕ, ◌<◌, ◌≤◌, Bool, true, false, List, [], ◌∷◌, length, Option, Some, None, refl, cond, ◌∙◌, ap, sym, subst, arith}
use Rattle.std.specs.Prelude.{nat_lt, ◌&&◌}
use Rattle.std.specs.Bool.{◌==◌}
use Rattle.std.specs.List.{filter, fold}
use Rattle.std.proofs.lemmas.Bool.Decides.{nat_tests}
use Rattle.tk_types.specs.declared.task.Task.{Task}
use Rattle.tk_types.specs.declared.task.Phase.{Phase}
use Rattle.tk_types.specs.declared.task.Phase.TheVariants.{Dormant, Ready, Waiting}
use Rattle.tk_types.specs.declared.task.Order.{Order}
use Rattle.tk_types.specs.declared.task.Order.TheVariants.{Fifo, Priority}
use Rattle.kernel_model.specs.LawWords.Once.{times, IsOnce, AreBelow}
use Rattle.kernel_model.specs.Words.Orders.{entry, insert_behind, sort_by}
use Rattle.kernel_model.specs.Tasks.Base.{Base, current, fifo_queue, is_ready_with, may_run, queue, ready_of, task_at, waiting_in, waits_for, waits_in}
use Rattle.kernel_model.specs.Tasks.Queues.{order_at, order_of_first, queue_at, queue_in}
use Rattle.kernel_model.specs.Tasks.Waits.{FitsPhase, FitsRow, HavePlaces, StandInOrder}
use Rattle.kernel_lemmas.proofs.ReadyLists.{times_filter_is}
use Rattle.kernel_lemmas.proofs.Sorting.{times_sort}
use Rattle.kernel_lemmas.proofs.Tables.{entry_inside}
use Rattle.context_laws.proofs.Existing.{below_those}

-- ---- how great the IDs are

insert_if : (limit : ℕ) (id first : ℕ) (ids inserted : List ℕ) (test : Bool) → id < limit → first < limit → AreBelow limit ids → AreBelow limit inserted → AreBelow limit (cond test (id ∷ first ∷ ids) (first ∷ inserted))
insert_if limit id first ids inserted true less one all with_it = (less, (one, all))
insert_if limit id first ids inserted false less one all with_it = (one, with_it)

below_insert : (limit : ℕ) (key : ℕ → ℕ) (id : ℕ) (ids : List ℕ) → id < limit → AreBelow limit ids → AreBelow limit (insert_behind key id ids)
below_insert limit key id [] less all = (less, tt)
below_insert limit key id (first ∷ ids) less all = insert_if limit id first ids (insert_behind key id ids) (nat_lt (key id) (key first)) less all.0 all.1 (below_insert limit key id ids less all.1)

below_fold : (limit : ℕ) (key : ℕ → ℕ) (sorted ids : List ℕ) → AreBelow limit sorted → AreBelow limit ids → AreBelow limit (fold (λ list id. insert_behind key id list) sorted ids)
below_fold limit key sorted [] done all = done
below_fold limit key sorted (id ∷ ids) done all = below_fold limit key (insert_behind key id sorted) ids (below_insert limit key id sorted all.0 done) all.1

below_sort : (limit : ℕ) (key : ℕ → ℕ) (ids : List ℕ) → AreBelow limit ids → AreBelow limit (sort_by key ids)
below_sort limit key ids all = below_fold limit key [] ids tt all

waits_inside : (tasks : List (Option Task)) (object t : ℕ) (slot : Option Task) → entry tasks t ≡ slot → waiting_in object slot ≡ true → t < length tasks
waits_inside tasks object t None at waits = absurd (cc waits)
waits_inside tasks object t (Some k) at waits = entry_inside tasks t k at

runs_inside : (tasks : List (Option Task)) (t : ℕ) (slot : Option Task) → entry tasks t ≡ slot → may_run slot ≡ true → t < length tasks
runs_inside tasks t None at runs = absurd (cc runs)
runs_inside tasks t (Some k) at runs = entry_inside tasks t k at

first_true : (first second : Bool) → first && second ≡ true → first ≡ true
first_true true second is = refl
first_true false second is = is

queue_below : (order : Order) (b : Base) (object : ℕ) → length b.tasks ≡ 256 → AreBelow 4294967296 (queue order b object)
queue_below Fifo b object slots = below_those 4294967296 (waits_for b object) b.since (λ t waits. let inside : t < length b.tasks = waits_inside b.tasks object t (task_at b t) refl waits in omega (arith, inside, slots))
queue_below Priority b object slots = below_sort 4294967296 (current b) (filter (waits_for b object) b.order)
    (below_those 4294967296 (waits_for b object) b.order (λ t waits. let inside : t < length b.tasks = waits_inside b.tasks object t (task_at b t) refl waits in omega (arith, inside, slots)))

pub queue_at_below : (b : Base) (object : ℕ) → length b.tasks ≡ 256 → AreBelow 4294967296 (queue_at b object)
queue_at_below b object slots = queue_below (order_at b object) b object slots

pub ready_below : (b : Base) (priority : ℕ) → length b.tasks ≡ 256 → AreBelow 4294967296 (ready_of b priority)
ready_below b priority slots = below_those 4294967296 (is_ready_with b priority) b.order
    (λ t is. let inside : t < length b.tasks = runs_inside b.tasks t (task_at b t) refl (first_true (may_run (task_at b t)) (current b t == priority) is) in omega (arith, inside, slots))

-- ---- who stands in a queue

once_there : (waits : Bool) (places : ℕ) → (waits ≡ true → 1 ≤ places) → places ≤ 1 → cond waits places 0 ≡ cond waits 1 0
once_there true places some most = let least : 1 ≤ places = some refl in omega (arith, least, most)
once_there false places some most = refl

times_queue : (order : Order) (b : Base) (object t : ℕ) → IsOnce b.order → IsOnce b.since → HavePlaces b → times t (queue order b object) ≡ cond (waits_for b object t) 1 0
times_queue Fifo b object t ranks stands have = times_filter_is (waits_for b object) t b.since ∙ once_there (waits_for b object t) (times t b.since) (have.stands t object) (stands t)
times_queue Priority b object t ranks stands have =
    times_sort (current b) t (filter (waits_for b object) b.order)
    ∙ times_filter_is (waits_for b object) t b.order
    ∙ once_there (waits_for b object t) (times t b.order) (have.ranks t object) (ranks t)

-- each task that waits for an object stands in its queue once, and no other does
pub times_queue_at : (b : Base) (object t : ℕ) → IsOnce b.order → IsOnce b.since → HavePlaces b → times t (queue_at b object) ≡ cond (waits_for b object t) 1 0
times_queue_at b object t ranks stands have = times_queue (order_at b object) b object t ranks stands have

-- ---- its order

filter_none : (passes : ℕ → Bool) (ids : List ℕ) → ((id : ℕ) → passes id ≡ false) → filter passes ids ≡ []
filter_none passes [] none = refl
filter_none passes (id ∷ ids) none = ap (λ test. cond test (id ∷ filter passes ids) (filter passes ids)) (none id) ∙ filter_none passes ids none

passes_if : (passes : ℕ → Bool) (id first : ℕ) (kept rest : List ℕ) (test : Bool) → passes id ≡ test → cond test (id ∷ kept) kept ≡ first ∷ rest → (kept ≡ first ∷ rest → passes first ≡ true) → passes first ≡ true
passes_if passes id first kept rest true is same later = let e : id ≡ first = cc same in ap passes (sym e) ∙ is
passes_if passes id first kept rest false is same later = later same

-- the first of those that pass passes
first_passes : (passes : ℕ → Bool) (ids : List ℕ) (first : ℕ) (rest : List ℕ) → filter passes ids ≡ first ∷ rest → passes first ≡ true
first_passes passes [] first rest same = absurd (cc same)
first_passes passes (id ∷ ids) first rest same = passes_if passes id first (filter passes ids) rest (passes id) refl same (λ later. first_passes passes ids first rest later)

phase_order : (orders : ℕ → Option Order) (object : ℕ) (order by : Order) (phase : Phase) → waits_in object phase ≡ true → FitsPhase orders by phase → orders object ≡ Some order → by ≡ order
phase_order orders object order by Dormant waits fits is = absurd (cc waits)
phase_order orders object order by Ready waits fits is = absurd (cc waits)
phase_order orders object order by (Waiting other) waits fits is =
    let same : other ≡ object = grind (arith, nat_tests, waits) in
    let here : orders object ≡ Some by = subst (λ (n : ℕ). orders n ≡ Some by) same fits in
    cc (sym here ∙ is)

row_order : (orders : ℕ → Option Order) (object : ℕ) (order : Order) (slot : Option Task) → waiting_in object slot ≡ true → FitsRow orders slot → orders object ≡ Some order → queue_in slot ≡ order
row_order orders object order None waits fits is = absurd (cc waits)
row_order orders object order (Some k) waits fits is = phase_order orders object order k.queue k.phase waits fits is

nobody_waits : (b : Base) (object : ℕ) → HavePlaces b → fifo_queue b object ≡ [] → (t : ℕ) → waits_for b object t ≡ false
nobody_waits b object have empty t = by_test (waits_for b object t) refl
  where
    by_test : (test : Bool) → waits_for b object t ≡ test → waits_for b object t ≡ false
    by_test false is = is
    by_test true is =
        let some : 1 ≤ times t b.since = have.stands t object is in
        let there : times t (fifo_queue b object) ≡ times t b.since = times_filter_is (waits_for b object) t b.since ∙ ap (λ test. cond test (times t b.since) 0) is in
        let none : times t (fifo_queue b object) ≡ 0 = ap (times t) empty in
        absurd (omega (arith, some, there, none))

empty_queue : (order : Order) (b : Base) (object : ℕ) → HavePlaces b → fifo_queue b object ≡ [] → queue order b object ≡ []
empty_queue Fifo b object have empty = empty
empty_queue Priority b object have empty = ap (sort_by (current b)) (filter_none (waits_for b object) b.order (nobody_waits b object have empty))

by_queue : (orders : ℕ → Option Order) (b : Base) (object : ℕ) (order : Order) (waiters : List ℕ) → fifo_queue b object ≡ waiters → StandInOrder orders b → HavePlaces b → orders object ≡ Some order → queue_at b object ≡ queue order b object
by_queue orders b object order [] empty stand have is = empty_queue (order_at b object) b object have empty ∙ sym (empty_queue order b object have empty)
by_queue orders b object order (t ∷ ts) waiters stand have is =
    let first : order_at b object ≡ queue_in (task_at b t) = ap (order_of_first b.tasks) waiters in
    let same : queue_in (task_at b t) ≡ order = row_order orders object order (task_at b t) (first_passes (waits_for b object) b.since t ts waiters) (stand.each t) is in
    ap (λ by. queue by b object) (first ∙ same)

-- the queue of an object stands in the order that is the object's
pub in_queue_order : (orders : ℕ → Option Order) (b : Base) (object : ℕ) (order : Order) → StandInOrder orders b → HavePlaces b → orders object ≡ Some order → queue_at b object ≡ queue order b object
in_queue_order orders b object order stand have is = by_queue orders b object order (fifo_queue b object) refl stand have is
