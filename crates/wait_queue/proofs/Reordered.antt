-- What holds of the waiters still holds after one of them gets another priority.
use Rattle.std.proofs.Common.{◌≡◌, ℕ, ◌<◌, Bool, true, false, not, nat_eq, List, [], ◌∷◌, ◌++◌, cond, length, get_or, refl, ap, ◌∙◌, subst, ⊎_elim}
use Rattle.std.specs.List.{filter, position_or_len, IsDistinct}
use Rattle.std.proofs.lemmas.Bool.{cases_lt, eqb-true}
use Rattle.std.proofs.lemmas.List.Sums.{passes_at_first}
use Rattle.tk_types.specs.declared.task.Order.{Order}
use Rattle.tk_types.specs.declared.task.Order.TheVariants.{Fifo, Priority}
use Rattle.ready_queue.proofs.Found.{found_front, found_nothing}
use Rattle.ready_queue.proofs.Keyed.{gone, once_filter}
use Rattle.wait_queue.specs.declared.waiters.Waiter.{Waiter}
use Rattle.wait_queue.specs.Queues.{first_moved, is_of_task, moved, noted, of_priority, queue_of, reordered, tasks_of, with_priority, without_waiter}
use Rattle.wait_queue.specs.Facts.{AreInOrder, AreOfOrder, EachOnce, IsRising}
use Rattle.wait_queue.proofs.Each.{each_filter}
use Rattle.wait_queue.proofs.Kept.{once_joined, order_filter, order_joined, order_noted, order_of, tasks_set}
use Rattle.wait_queue.proofs.Lasts.{joins_behind_equals}
use Rattle.wait_queue.proofs.Moved.{IsWaiterOf, noted_at}

no_first : (first : Waiter) (rest passed : List Waiter) → passed ≡ first ∷ rest → passed ≡ [] → ⊥
no_first first rest passed some none = cc

found_here : (task : ℕ) (list : List Waiter) (first : Waiter) (rest : List Waiter) → EachOnce list → filter (is_of_task task) list ≡ first ∷ rest → position_or_len (is_of_task task) list < length list → IsWaiterOf task list (position_or_len (is_of_task task) list) first
found_here task list first rest once same within =
    let front = found_front (is_of_task task) list first within in
    record { once = once; index = refl; within = within; is = cc (same, front.1) }

-- the first one that has the task is the waiter of the task
stands_first : (task : ℕ) (list : List Waiter) (first : Waiter) (rest : List Waiter) → EachOnce list → filter (is_of_task task) list ≡ first ∷ rest → IsWaiterOf task list (position_or_len (is_of_task task) list) first
stands_first task list first rest once same =
    ⊎_elim (found_here task list first rest once same)
    (λ past. absurd (no_first first rest (filter (is_of_task task) list) same (found_nothing (is_of_task task) list past)))
    (cases_lt (position_or_len (is_of_task task) list) (length list))

pub task_is : (task : ℕ) (list : List Waiter) (first : Waiter) (rest : List Waiter) → EachOnce list → filter (is_of_task task) list ≡ first ∷ rest → first.task ≡ task
task_is task list first rest once same =
    let found = stands_first task list first rest once same in
    let at : ℕ = position_or_len (is_of_task task) list in
    let passes : is_of_task task (get_or list at first) ≡ true = passes_at_first (is_of_task task) list first found.within in
    ap (λ w. w.task) found.is ∙ eqb-true (get_or list at first).task task passes

order_moved : (order : Order) (task priority : ℕ) (list : List Waiter) (at : ℕ) (waiter : Waiter) → waiter.order ≡ order → IsWaiterOf task list at waiter → AreInOrder list → AreInOrder (moved order waiter priority list)
order_moved Fifo task priority list at waiter is found ordered =
    subst AreInOrder (noted_at priority list at waiter found.once found.within found.is) (order_noted priority list at waiter ordered found.within found.is is)
order_moved Priority task priority list at waiter is found ordered =
    let stays : Waiter → Bool = λ other. not (is_of_task waiter.task other) in
    order_joined (with_priority priority waiter) (without_waiter waiter.task list)
    (each_filter (λ other. other.object ≡ waiter.object → other.order ≡ waiter.order) stays list (order_of list at waiter ordered found.within found.is))
    (order_filter stays list ordered)

order_first : (equals list : List Waiter) (task priority : ℕ) → filter (is_of_task task) list ≡ equals → EachOnce list → AreInOrder list → AreInOrder (first_moved equals priority list)
order_first [] list task priority same once ordered = ordered
order_first (first ∷ rest) list task priority same once ordered =
    order_moved first.order task priority list (position_or_len (is_of_task task) list) first refl (stands_first task list first rest once same) ordered

pub order_reordered : (task priority : ℕ) (list : List Waiter) → EachOnce list → AreInOrder list → AreInOrder (reordered task priority list)
order_reordered task priority list once ordered = order_first (filter (is_of_task task) list) list task priority refl once ordered

once_moved : (order : Order) (task priority : ℕ) (list : List Waiter) (at : ℕ) (waiter : Waiter) → IsWaiterOf task list at waiter → EachOnce (moved order waiter priority list)
once_moved Fifo task priority list at waiter found =
    subst EachOnce (noted_at priority list at waiter found.once found.within found.is)
    (subst (IsDistinct nat_eq) (tasks_set priority list at waiter found.within found.is) found.once)
once_moved Priority task priority list at waiter found =
    once_joined (with_priority priority waiter) (without_waiter waiter.task list) (gone (λ (w : Waiter). w.task) waiter.task list)
    (once_filter (λ (w : Waiter). w.task) (λ other. not (is_of_task waiter.task other)) list found.once)

once_first : (equals list : List Waiter) (task priority : ℕ) → filter (is_of_task task) list ≡ equals → EachOnce list → EachOnce (first_moved equals priority list)
once_first [] list task priority same once = once
once_first (first ∷ rest) list task priority same once =
    once_moved first.order task priority list (position_or_len (is_of_task task) list) first (stands_first task list first rest once same)

pub once_reordered : (task priority : ℕ) (list : List Waiter) → EachOnce list → EachOnce (reordered task priority list)
once_reordered task priority list once = once_first (filter (is_of_task task) list) list task priority refl once

-- ---- where it stands

noted_step : (test : Bool) (priority : ℕ) (first : Waiter) (tasks others : List ℕ) → tasks ≡ others → (cond test (with_priority priority first) first).task ∷ tasks ≡ first.task ∷ others
noted_step true priority first tasks others same = ap (λ l. first.task ∷ l) same
noted_step false priority first tasks others same = ap (λ l. first.task ∷ l) same

noted_tasks : (task priority : ℕ) (list : List Waiter) → tasks_of (noted task priority list) ≡ tasks_of list
noted_tasks task priority [] = refl
noted_tasks task priority (first ∷ rest) =
    noted_step (is_of_task task first) priority first (tasks_of (noted task priority rest)) (tasks_of rest) (noted_tasks task priority rest)

first_stays : (equals list : List Waiter) (priority : ℕ) → AreOfOrder Fifo equals → tasks_of (first_moved equals priority list) ≡ tasks_of list
first_stays [] list priority orders = refl
first_stays (first ∷ rest) list priority orders =
    ap (λ o. tasks_of (moved o first priority list)) orders.0 ∙ noted_tasks first.task priority list

pub reordered_stays : (task priority : ℕ) (list : List Waiter) → AreOfOrder Fifo (filter (is_of_task task) list) → tasks_of (reordered task priority list) ≡ tasks_of list
reordered_stays task priority list orders = first_stays (filter (is_of_task task) list) list priority orders

pub reordered_is_last : (priority : ℕ) (waiter : Waiter) (rest list : List Waiter) → filter (is_of_task waiter.task) list ≡ waiter ∷ rest → waiter.order ≡ Priority → IsRising (queue_of waiter.object (without_waiter waiter.task list)) →
    of_priority priority (queue_of waiter.object (reordered waiter.task priority list)) ≡ of_priority priority (queue_of waiter.object (without_waiter waiter.task list)) ++ with_priority priority waiter ∷ []
reordered_is_last priority waiter rest list same order rising =
    ap (λ first. of_priority priority (queue_of waiter.object (first_moved first priority list))) same
    ∙ (ap (λ o. of_priority priority (queue_of waiter.object (moved o waiter priority list))) order
    ∙ joins_behind_equals (with_priority priority waiter) (without_waiter waiter.task list) rising)
