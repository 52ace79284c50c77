-- What is left where a waiter is taken out or moved by its index.
use Rattle.std.proofs.Common.{◌≡◌, ℕ, zero, suc, ◌<◌, Bool, true, false, ◌==◌, eqb, List, [], ◌∷◌, length, cond, get_or, set, refl, sym, ap, ◌∙◌, subst, arith}
use Rattle.std.specs.List.{filter, remove, position_or_len, IsDistinct, AllByRecursion}
use Rattle.std.proofs.lemmas.Bool.Decides.{nat_tests}
use Rattle.tk_types.specs.declared.task.Order.TheVariants.{Fifo, Priority}
use Rattle.ready_queue.proofs.Found.{found_front, found_within}
use Rattle.ready_queue.proofs.Keyed.{all_at, taken_out, without_at}
use Rattle.wait_queue.specs.declared.waiters.Waiter.{Waiter}
use Rattle.wait_queue.specs.Queues.{WaitTable, is_of_task, joined, moved, first_moved, noted, reordered, tasks_of, waits, with_priority, without_waiter}
use Rattle.wait_queue.specs.Facts.{EachOnce}

-- a task that waits in the table waits in its list
in_list : (task objects : ℕ) (list : List Waiter) (table : WaitTable) → record { objects = objects; waiters = list } ≡ table → waits task table.waiters ≡ true → waits task list ≡ true
in_list task objects list table is found = subst (λ (t : WaitTable). waits task t.waiters ≡ true) (sym is) found

-- `seen` is the list that was looked through
pub left_by_index : (task objects : ℕ) (list seen new : List Waiter) (at : ℕ) (table : WaitTable) → EachOnce list → record { objects = objects; waiters = list } ≡ table → waits task table.waiters ≡ true → seen ≡ list → at ≡ position_or_len (is_of_task task) seen → new ≡ remove list at → new ≡ without_waiter task list
left_by_index task objects list seen new at table once is found same index taken =
    taken ∙ (ap (remove list) (index ∙ ap (position_or_len (is_of_task task)) same)
    ∙ taken_out (λ (w : Waiter). w.task) task list (record { object = 0; task = 0; order = Fifo; priority = 0 }) once (in_list task objects list table is found))

-- ---- a priority is noted

flipped : (a b : ℕ) → eqb a b ≡ false → (b == a) ≡ false
flipped a b differs = grind (arith, nat_tests)

same_is : (a : ℕ) → (a == a) ≡ true
same_is a = grind (arith, nat_tests)

noted_if : (test : Bool) (priority : ℕ) (waiter : Waiter) → test ≡ true → cond test (with_priority priority waiter) waiter ≡ with_priority priority waiter
noted_if true priority waiter e = refl
noted_if false priority waiter e = absurd (cc e)

kept_if : (test : Bool) (priority : ℕ) (waiter : Waiter) → test ≡ false → cond test (with_priority priority waiter) waiter ≡ waiter
kept_if true priority waiter e = absurd (cc e)
kept_if false priority waiter e = refl

joins : (a b : Waiter) (rest behind : List Waiter) → a ≡ b → rest ≡ behind → a ∷ rest ≡ b ∷ behind
joins a b rest behind e f = ap (λ w. w ∷ rest) e ∙ ap (λ l. b ∷ l) f

none_noted : (task priority : ℕ) (list : List Waiter) → AllByRecursion (λ other. eqb task other ≡ false) (tasks_of list) → list ≡ noted task priority list
none_noted task priority [] none = refl
none_noted task priority (first ∷ rest) none =
    joins first (cond (is_of_task task first) (with_priority priority first) first) rest (noted task priority rest)
    (sym (kept_if (is_of_task task first) priority first (flipped task first.task none.0))) (none_noted task priority rest none.1)

-- the waiter at an index is the only one of its task
pub noted_at : (priority : ℕ) (list : List Waiter) (at : ℕ) (waiter : Waiter) → EachOnce list → at < length list → waiter ≡ get_or list at waiter → set list at (with_priority priority waiter) ≡ noted waiter.task priority list
unfolding IsDistinct
noted_at priority [] at waiter once within is = absurd (omega arith)
noted_at priority (first ∷ rest) zero waiter once within is =
    subst (λ (w : Waiter). with_priority priority w ∷ rest ≡ noted w.task priority (first ∷ rest)) (sym is)
    (joins (with_priority priority first) (cond (is_of_task first.task first) (with_priority priority first) first) rest (noted first.task priority rest)
    (sym (noted_if (is_of_task first.task first) priority first (same_is first.task))) (none_noted first.task priority rest once.0))
noted_at priority (first ∷ rest) (suc at) waiter once within is =
    joins first (cond (is_of_task waiter.task first) (with_priority priority first) first) (set rest at (with_priority priority waiter)) (noted waiter.task priority rest)
    (sym (kept_if (is_of_task waiter.task first) priority first (all_at (λ (w : Waiter). w.task) (λ other. eqb first.task other ≡ false) rest at waiter once.0 (omega arith) is)))
    (noted_at priority rest at waiter once.1 (omega arith) is)

-- ---- a waiter gets another priority

-- the waiter of a task, by the index that was found in `seen`
pub record IsWaiterOf (task : ℕ) (list : List Waiter) (at : ℕ) (waiter : Waiter) : Type 0 where
  pub once : EachOnce list
  pub index : at ≡ position_or_len (is_of_task task) list
  pub within : at < length list
  pub is : waiter ≡ get_or list at waiter

pub place_within : (task objects : ℕ) (list seen : List Waiter) (at : ℕ) (table : WaitTable) → record { objects = objects; waiters = list } ≡ table → waits task table.waiters ≡ true → seen ≡ list → at ≡ position_or_len (is_of_task task) seen → at < length list
place_within task objects list seen at table is found same index =
    subst (λ (i : ℕ). i < length list) (sym (index ∙ ap (position_or_len (is_of_task task)) same)) (found_within (is_of_task task) list (in_list task objects list table is found))

pub waiter_found : (task objects : ℕ) (list seen : List Waiter) (at : ℕ) (table : WaitTable) (waiter : Waiter) → EachOnce list → record { objects = objects; waiters = list } ≡ table → waits task table.waiters ≡ true → seen ≡ list → at ≡ position_or_len (is_of_task task) seen → waiter ≡ get_or list at waiter → IsWaiterOf task list at waiter
waiter_found task objects list seen at table waiter once is found same index here = record {
  once = once;
  index = index ∙ ap (position_or_len (is_of_task task)) same;
  within = place_within task objects list seen at table is found same index;
  is = here;
}

moves_first : (task priority : ℕ) (list : List Waiter) (at : ℕ) (waiter : Waiter) → IsWaiterOf task list at waiter → reordered task priority list ≡ moved waiter.order waiter priority list
moves_first task priority list at waiter found =
    let front = found_front (is_of_task task) list waiter (subst (λ (i : ℕ). i < length list) found.index found.within) in
    let stands : filter (is_of_task task) list ≡ waiter ∷ front.0 = subst (λ (w : Waiter). filter (is_of_task task) list ≡ w ∷ front.0) (ap (λ i. get_or list i waiter) (sym found.index) ∙ sym found.is) front.1 in
    ap (λ first. first_moved first priority list) stands

pub noted_by_index : (task priority : ℕ) (list new : List Waiter) (at : ℕ) (waiter now : Waiter) → IsWaiterOf task list at waiter → waiter.order ≡ Fifo → now ≡ with_priority priority waiter → new ≡ set list at now → new ≡ reordered task priority list
noted_by_index task priority list new at waiter now found order is set_at =
    set_at ∙ (ap (set list at) is ∙ (noted_at priority list at waiter found.once found.within found.is
    ∙ (ap (λ o. moved o waiter priority list) (sym order) ∙ sym (moves_first task priority list at waiter found))))

pub moved_by_index : (task priority : ℕ) (list left new : List Waiter) (at : ℕ) (waiter now : Waiter) → IsWaiterOf task list at waiter → waiter.order ≡ Priority → now ≡ with_priority priority waiter → left ≡ remove list at → new ≡ joined now left → new ≡ reordered task priority list
moved_by_index task priority list left new at waiter now found order is taken put =
    put ∙ (ap (λ w. joined w left) is ∙ (ap (joined (with_priority priority waiter)) (taken ∙ without_at (λ (w : Waiter). w.task) list at waiter found.once found.within found.is)
    ∙ (ap (λ o. moved o waiter priority list) (sym order) ∙ sym (moves_first task priority list at waiter found))))

-- ---- the table, whose list changed

pub changed : (of : List Waiter → List Waiter) (objects : ℕ) (list new : List Waiter) (table : WaitTable) → record { objects = objects; waiters = list } ≡ table → new ≡ of list →
    record { objects = objects; waiters = new } ≡ record table { waiters = of table.waiters }
changed of objects list new table is changed_to =
    let with_list : List Waiter → WaitTable = λ l. record { objects = objects; waiters = l } in
    let by_table : WaitTable → WaitTable = λ t. record { objects = t.objects; waiters = of t.waiters } in
    ap with_list changed_to ∙ ap by_table is
