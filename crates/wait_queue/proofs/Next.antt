-- Which task is the first of an object, and which is next to another.
use Rattle.std.proofs.Common.{◌≡◌, ℕ, suc, ◌+◌, ◌<◌, ◌≤◌, Bool, true, false, not, List, [], ◌∷◌, length, get_or, drop, cond, Some, None, refl, sym, ap, ◌∙◌, subst, arith}
use Rattle.std.specs.List.{position, position_or_len}
use Rattle.ready_queue.proofs.Found.{one_more, found_at, found_front, found_nothing, found_past}
use Rattle.wait_queue.specs.declared.waiters.Waiter.{Waiter}
use Rattle.wait_queue.specs.Queues.{is_of_task, is_of_object, queue_of, first_task, next_waiter}

pub first_at : (object : ℕ) (list : List Waiter) (at : ℕ) (none : Waiter) → Some at ≡ position (is_of_object object) list → Some (get_or list at none).task ≡ first_task (queue_of object list)
first_at object list at none found =
    let parts = found_at (is_of_object object) list at found in
    let front = found_front (is_of_object object) list none (omega (arith, parts.0, parts.1)) in
    ap (λ i. Some (get_or list i none).task) parts.1 ∙ sym (ap first_task front.1)

pub first_past : (object : ℕ) (list : List Waiter) → None ≡ position (is_of_object object) list → None ≡ first_task (queue_of object list)
first_past object list past = sym (ap first_task (found_nothing (is_of_object object) list (found_past (is_of_object object) list past)))

one_behind : (n : ℕ) → suc n + 1 ≡ suc (n + 1)
one_behind n = omega arith

behind_step : (test : Bool) (task : ℕ) (first none : Waiter) (rest : List Waiter) (at : ℕ) →
    (at < length rest → next_waiter task rest ≡ first_task (queue_of (get_or rest at none).object (drop (at + 1) rest))) → cond (not test) (1 + at) 0 < suc (length rest) →
    cond test (first_task (queue_of first.object rest)) (next_waiter task rest) ≡ first_task (queue_of (get_or (first ∷ rest) (cond (not test) (1 + at) 0) none).object (drop (cond (not test) (1 + at) 0 + 1) (first ∷ rest)))
behind_step true task first none rest at behind within = refl
behind_step false task first none rest at behind within = rw (one_more at, one_behind at) (behind (omega arith))

-- the next of a task stands behind the task's place
next_behind : (task : ℕ) (list : List Waiter) (none : Waiter) → position_or_len (is_of_task task) list < length list →
    next_waiter task list ≡ first_task (queue_of (get_or list (position_or_len (is_of_task task) list) none).object (drop (position_or_len (is_of_task task) list + 1) list))
next_behind task [] none within = absurd (omega arith)
next_behind task (first ∷ rest) none within =
    behind_step (is_of_task task first) task first none rest (position_or_len (is_of_task task) rest) (next_behind task rest none) within

pub next_at : (task : ℕ) (list : List Waiter) (at : ℕ) (waiter : Waiter) → Some at ≡ position (is_of_task task) list → waiter ≡ get_or list at waiter → first_task (queue_of waiter.object (drop (at + 1) list)) ≡ next_waiter task list
next_at task list at waiter found is =
    let parts = found_at (is_of_task task) list at found in
    let behind : next_waiter task list ≡ first_task (queue_of (get_or list at waiter).object (drop (at + 1) list)) =
    subst (λ (i : ℕ). next_waiter task list ≡ first_task (queue_of (get_or list i waiter).object (drop (i + 1) list))) (sym parts.1) (next_behind task list waiter (omega (arith, parts.0, parts.1))) in
    ap (λ w. first_task (queue_of w.object (drop (at + 1) list))) is ∙ sym behind

past_step : (test : Bool) (task : ℕ) (first : Waiter) (rest : List Waiter) (at : ℕ) → (length rest ≤ at → None ≡ next_waiter task rest) → suc (length rest) ≤ cond (not test) (1 + at) 0 → None ≡ cond test (first_task (queue_of first.object rest)) (next_waiter task rest)
past_step true task first rest at behind past = absurd (omega arith)
past_step false task first rest at behind past = behind (omega arith)

none_next : (task : ℕ) (list : List Waiter) → length list ≤ position_or_len (is_of_task task) list → None ≡ next_waiter task list
none_next task [] past = refl
none_next task (first ∷ rest) past = past_step (is_of_task task first) task first rest (position_or_len (is_of_task task) rest) (none_next task rest) past

pub next_past : (task : ℕ) (list : List Waiter) → None ≡ position (is_of_task task) list → None ≡ next_waiter task list
next_past task list past = none_next task list (found_past (is_of_task task) list past)
