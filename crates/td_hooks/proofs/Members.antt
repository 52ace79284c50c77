-- What holds of the tasks of a list, and how many there are.
use Rattle.std.proofs.Common.{◌≡◌, ℕ, ◌<◌, ◌≤◌, Bool, true, false, List, [], ◌∷◌, length, Option, Some, None, refl, ap, sym, subst, ◌∙◌, arith, cond}
use Rattle.std.specs.Bool.{◌==◌}
use Rattle.std.specs.Prelude.{filter, slice_get, ◌&&◌, fold, nat_lt}
use Rattle.std.proofs.lemmas.Bool.Decides.{nat_tests}
use Rattle.tk_types.specs.declared.task.Task.{Task}
use Rattle.tk_types.specs.declared.task.Phase.{Phase}
use Rattle.tk_types.specs.declared.task.Phase.TheVariants.{Dormant, Ready, Waiting}
use Rattle.tk_types.specs.declared.task.Order.{Order}
use Rattle.tk_types.specs.declared.task.Order.TheVariants.{Fifo, Priority}
use Rattle.kernel_model.specs.LawWords.Once.{AreBelow, IsOnce, times}
use Rattle.kernel_model.specs.Words.Orders.{entry, insert_behind}
use Rattle.kernel_model.specs.Tasks.Base.{Base, current, is_ready, is_ready_with, is_waiting, is_waiting_phase, may_run, queue, ready_of, task_at, waiting_in, waits_for, waits_in, waits_somewhere}
use Rattle.kernel_model.specs.Tasks.Queues.{order_at, queue_at}
use Rattle.kernel_lemmas.proofs.Once.{few_below, once_filter}
use Rattle.kernel_lemmas.proofs.ReadyLists.{times_filter_is}
use Rattle.kernel_lemmas.proofs.Sorting.{times_sort}
use Rattle.kernel_lemmas.proofs.Tables.{entry_inside}
use Rattle.kernel_base.specs.Queues.{behind, next_ready}
use Rattle.kernel_base.specs.Waiting.{next_waiting, object_of, object_of_phase}
use Rattle.td_hooks.specs.declared.tasks.TaskList.{TaskList}
use Rattle.td_hooks.specs.declared.tasks.TaskList.TheVariants as list
use Rattle.td_hooks.specs.Tasks.{in_list}

-- ---- who stands in a list

-- what stands in what a test leaves passes it
passes_if : (passes : Bool) (n : ℕ) → 1 ≤ cond passes n 0 → passes ≡ true
passes_if true n there = refl
passes_if false n there = absurd (omega (arith, there))

those_pass : (passes : ℕ → Bool) (t : ℕ) (ids : List ℕ) → 1 ≤ times t (filter passes ids) → passes t ≡ true
those_pass passes t ids there = let count = times_filter_is passes t ids in passes_if (passes t) (times t ids) (subst (λ (n : ℕ). 1 ≤ n) count there)

waiters_wait : (order : Order) (b : Base) (object t : ℕ) → 1 ≤ times t (queue order b object) → waits_for b object t ≡ true
waiters_wait Fifo b object t there = those_pass (waits_for b object) t b.since there
waiters_wait Priority b object t there = those_pass (waits_for b object) t b.order (subst (λ (n : ℕ). 1 ≤ n) (times_sort (current b) t (filter (waits_for b object) b.order)) there)

in_phase : (object : ℕ) (phase : Phase) → waits_in object phase ≡ true → is_waiting_phase phase ≡ true
in_phase object Dormant there = absurd (cc there)
in_phase object Ready there = absurd (cc there)
in_phase object (Waiting other) there = refl

in_row : (object : ℕ) (slot : Option Task) → waiting_in object slot ≡ true → waits_somewhere slot ≡ true
in_row object None there = absurd (cc there)
in_row object (Some k) there = in_phase object k.phase there

-- a task of an object's queue waits
pub in_queue_waits : (b : Base) (object t : ℕ) → 1 ≤ times t (queue_at b object) → is_waiting b t ≡ true
in_queue_waits b object t there = in_row object (task_at b t) (waiters_wait (order_at b object) b object t there)

phase_object : (object : ℕ) (phase : Phase) → waits_in object phase ≡ true → object_of_phase phase ≡ object
phase_object object Dormant there = absurd (cc there)
phase_object object Ready there = absurd (cc there)
phase_object object (Waiting other) there = grind (arith, nat_tests, there)

row_object : (object : ℕ) (slot : Option Task) → waiting_in object slot ≡ true → object_of slot ≡ object
row_object object None there = absurd (cc there)
row_object object (Some k) there = phase_object object k.phase there

-- ---- who stands behind one

-- the one behind a waiter stands behind it in the queue of that object
pub next_in_queue : (b : Base) (object t : ℕ) → 1 ≤ times t (queue_at b object) → next_waiting b t ≡ slice_get (behind t (queue_at b object)) 0
next_in_queue b object t there = ap (λ n. slice_get (behind t (queue_at b n)) 0) (row_object object (task_at b t) (waiters_wait (order_at b object) b object t there))

behind_if : (passes : ℕ → Bool) (t first : ℕ) (ids : List ℕ) (same kept : Bool) → (first == t) ≡ same → passes first ≡ kept → passes t ≡ true → filter passes (behind t ids) ≡ behind t (filter passes ids) →
    filter passes (cond same ids (behind t ids)) ≡ behind t (cond kept (first ∷ filter passes ids) (filter passes ids))
behind_if passes t first ids true true is has passing rest = ap (λ test. cond test (filter passes ids) (behind t (filter passes ids))) (sym is)
behind_if passes t first ids true false is has passing rest = let here : first ≡ t = grind (arith, nat_tests, is) in let fails : passes t ≡ false = ap passes (sym here) ∙ has in absurd (cc (fails, passing))
behind_if passes t first ids false true is has passing rest = rest ∙ ap (λ test. cond test (filter passes ids) (behind t (filter passes ids))) (sym is)
behind_if passes t first ids false false is has passing rest = rest

-- what a test leaves of those behind one that passes stands behind it in what the test leaves
filter_behind : (passes : ℕ → Bool) (t : ℕ) (ids : List ℕ) → passes t ≡ true → filter passes (behind t ids) ≡ behind t (filter passes ids)
filter_behind passes t [] passing = refl
filter_behind passes t (first ∷ ids) passing = behind_if passes t first ids (first == t) (passes first) refl refl passing (filter_behind passes t ids passing)

second_true : (first second : Bool) → first && second ≡ true → second ≡ true
second_true true second is = is
second_true false second is = absurd (cc is)

first_true : (first second : Bool) → first && second ≡ true → first ≡ true
first_true true second is = refl
first_true false second is = absurd (cc is)

-- the ready task behind another of its priority
pub next_in_ready : (b : Base) (priority t : ℕ) → 1 ≤ times t (ready_of b priority) → next_ready b t ≡ slice_get (behind t (ready_of b priority)) 0
next_in_ready b priority t there =
    let is : is_ready_with b priority t ≡ true = those_pass (is_ready_with b priority) t b.order there in
    let alike : (current b t == priority) ≡ true = second_true (is_ready b t) (current b t == priority) is in
    let same : current b t ≡ priority = grind (arith, nat_tests, alike) in
    ap (λ n. slice_get (filter (is_ready_with b n) (behind t b.order)) 0) same
    ∙ ap (λ ids. slice_get ids 0) (filter_behind (is_ready_with b priority) t b.order is)

-- ---- how many there are

-- each task stands once at most by its stamp, and once at most by the beginning of its last wait
pub record StandOnce (b : Base) : Type 0 where
  pub ranks : IsOnce b.order
  pub begins : IsOnce b.since

once_queue : (order : Order) (b : Base) (object : ℕ) → StandOnce b → IsOnce (queue order b object)
once_queue Fifo b object once = once_filter (waits_for b object) b.since once.begins
once_queue Priority b object once = λ t. let count = times_sort (current b) t (filter (waits_for b object) b.order) in let one = once_filter (waits_for b object) b.order once.ranks t in omega (arith, count, one)

-- each task stands in a list once
pub once_in : (b : Base) (tasks : TaskList) → StandOnce b → IsOnce (in_list b tasks)
once_in b (list.Ready priority) once = once_filter (is_ready_with b priority) b.order once.ranks
once_in b (list.Waiting object) once = once_queue (order_at b object) b object once

below_if : (limit id : ℕ) (kept : List ℕ) (test : Bool) → (test ≡ true → id < limit) → AreBelow limit kept → AreBelow limit (cond test (id ∷ kept) kept)
below_if limit id kept true less rest = (less refl, rest)
below_if limit id kept false less rest = rest

below_those : (limit : ℕ) (passes : ℕ → Bool) (ids : List ℕ) → ((id : ℕ) → passes id ≡ true → id < limit) → AreBelow limit (filter passes ids)
below_those limit passes [] less = tt
below_those limit passes (id ∷ ids) less = below_if limit id (filter passes ids) (passes id) (less id) (below_those limit passes ids less)

insert_if : (limit id first : ℕ) (ids inserted : List ℕ) (test : Bool) → id < limit → first < limit → AreBelow limit ids → AreBelow limit inserted → AreBelow limit (cond test (id ∷ first ∷ ids) (first ∷ inserted))
insert_if limit id first ids inserted true less one all with_it = (less, (one, all))
insert_if limit id first ids inserted false less one all with_it = (one, with_it)

below_insert : (limit : ℕ) (key : ℕ → ℕ) (id : ℕ) (ids : List ℕ) → id < limit → AreBelow limit ids → AreBelow limit (insert_behind key id ids)
below_insert limit key id [] less all = (less, tt)
below_insert limit key id (first ∷ ids) less all = insert_if limit id first ids (insert_behind key id ids) (nat_lt (key id) (key first)) less all.0 all.1 (below_insert limit key id ids less all.1)

below_fold : (limit : ℕ) (key : ℕ → ℕ) (sorted ids : List ℕ) → AreBelow limit sorted → AreBelow limit ids → AreBelow limit (fold (λ list id. insert_behind key id list) sorted ids)
below_fold limit key sorted [] done all = done
below_fold limit key sorted (id ∷ ids) done all = below_fold limit key (insert_behind key id sorted) ids (below_insert limit key id sorted all.0 done) all.1

waits_inside : (tasks : List (Option Task)) (object t : ℕ) (slot : Option Task) → entry tasks t ≡ slot → waiting_in object slot ≡ true → t < length tasks
waits_inside tasks object t None at waits = absurd (cc waits)
waits_inside tasks object t (Some k) at waits = entry_inside tasks t k at

runs_inside : (tasks : List (Option Task)) (t : ℕ) (slot : Option Task) → entry tasks t ≡ slot → may_run slot ≡ true → t < length tasks
runs_inside tasks t None at runs = absurd (cc runs)
runs_inside tasks t (Some k) at runs = entry_inside tasks t k at

queue_below : (order : Order) (b : Base) (object : ℕ) → AreBelow (length b.tasks) (queue order b object)
queue_below Fifo b object = below_those (length b.tasks) (waits_for b object) b.since (λ t waits. waits_inside b.tasks object t (task_at b t) refl waits)
queue_below Priority b object =
    below_fold (length b.tasks) (current b) [] (filter (waits_for b object) b.order) tt
    (below_those (length b.tasks) (waits_for b object) b.order (λ t waits. waits_inside b.tasks object t (task_at b t) refl waits))

list_below : (b : Base) (tasks : TaskList) → AreBelow (length b.tasks) (in_list b tasks)
list_below b (list.Ready priority) = below_those (length b.tasks) (is_ready_with b priority) b.order (λ t is. runs_inside b.tasks t (task_at b t) refl (first_true (is_ready b t) (current b t == priority) is))
list_below b (list.Waiting object) = queue_below (order_at b object) b object

-- a list has no more tasks than there are
pub few_in : (b : Base) (tasks : TaskList) → StandOnce b → length (in_list b tasks) ≤ length b.tasks
few_in b tasks once = few_below (length b.tasks) (in_list b tasks) (list_below b tasks) (once_in b tasks once)
