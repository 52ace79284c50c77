-- What a call leaves as it is, and what it takes out.
use Rattle.std.proofs.Common.{◌≡◌, ◌≢◌, ℕ, ◌+◌, Bool, true, false, not, List, [], ◌∷◌, length, cond, refl, sym, ap, ◌∙◌, subst, arith}
use Rattle.std.specs.List.{filter, position_or_len}
use Rattle.std.proofs.lemmas.Bool.{or_parts}
use Rattle.std.proofs.lemmas.Bool.Decides.{nat_tests}
use Rattle.std.proofs.lemmas.List.Edits.{length-remove}
use Rattle.tk_types.specs.declared.task.Order.{Order}
use Rattle.tk_types.specs.declared.task.Order.TheVariants.{Fifo, Priority}
use Rattle.ready_queue.proofs.Found.{found_within, not_here, swapped}
use Rattle.ready_queue.proofs.Keyed.{all_differ, none_left_out, taken_out}
use Rattle.wait_queue.specs.declared.waiters.Waiter.{Waiter}
use Rattle.wait_queue.specs.Queues.{first_moved, is_ahead, is_of_object, is_of_task, joined, moved, noted, queue_of, reordered, waits, with_priority, without_waiter}
use Rattle.wait_queue.specs.Facts.{EachOnce}
use Rattle.wait_queue.proofs.Reordered.{task_is}

-- ---- a waiter joins

other_object : (waiter : Waiter) (object : ℕ) → waiter.object ≢ object → is_of_object object waiter ≡ false
other_object waiter object differs = grind (arith, nat_tests, differs)

others_step : (test : Bool) (waiter first : Waiter) (object : ℕ) (rest behind : List Waiter) → waiter.object ≢ object →
    queue_of object behind ≡ queue_of object rest → queue_of object (cond test (waiter ∷ first ∷ rest) (first ∷ behind)) ≡ queue_of object (first ∷ rest)
others_step true waiter first object rest behind differs same =
    not_here (is_of_object object waiter) waiter (queue_of object (first ∷ rest)) (other_object waiter object differs)
others_step false waiter first object rest behind differs same =
    ap (λ l. cond (is_of_object object first) (first ∷ l) l) same

pub join_keeps_others : (waiter : Waiter) (object : ℕ) (list : List Waiter) → waiter.object ≢ object → queue_of object (joined waiter list) ≡ queue_of object list
join_keeps_others waiter object [] differs = not_here (is_of_object object waiter) waiter [] (other_object waiter object differs)
join_keeps_others waiter object (first ∷ rest) differs =
    others_step (is_ahead waiter first) waiter first object rest (joined waiter rest) differs (join_keeps_others waiter object rest differs)

-- ---- a waiter leaves

pub leaves_queue : (task object : ℕ) (list : List Waiter) → queue_of object (without_waiter task list) ≡ without_waiter task (queue_of object list)
leaves_queue task object list = swapped (is_of_object object) (λ waiter. not (is_of_task task waiter)) list

pub leave_keeps_others : (task object : ℕ) (list : List Waiter) → waits task (queue_of object list) ≡ false → queue_of object (without_waiter task list) ≡ queue_of object list
leave_keeps_others task object list outside =
    leaves_queue task object list
    ∙ sym (none_left_out (λ (w : Waiter). w.task) task (queue_of object list) (all_differ (λ (w : Waiter). w.task) task (queue_of object list) outside))

pub leave_takes_one : (task : ℕ) (list : List Waiter) → EachOnce list → waits task list ≡ true → length (without_waiter task list) + 1 ≡ length list
leave_takes_one task list once found =
    let nobody : Waiter = record { object = 0; task = 0; order = Fifo; priority = 0 } in
    ap (λ l. length l + 1) (sym (taken_out (λ (w : Waiter). w.task) task list nobody once found))
    ∙ length-remove list (position_or_len (is_of_task task) list) (found_within (is_of_task task) list found)

-- ---- a waiter gets another priority

noted_step : (test : Bool) (priority object : ℕ) (first : Waiter) (rest passed : List Waiter) → (test ≡ true → is_of_object object first ≡ false) → queue_of object rest ≡ passed →
    queue_of object (cond test (with_priority priority first) first ∷ rest) ≡ cond (is_of_object object first) (first ∷ passed) passed
noted_step true priority object first rest passed apart same =
    not_here (is_of_object object first) (with_priority priority first) (queue_of object rest) (apart refl)
    ∙ (same ∙ sym (not_here (is_of_object object first) first passed (apart refl)))
noted_step false priority object first rest passed apart same = ap (λ l. cond (is_of_object object first) (first ∷ l) l) same

apart_step : (own : Bool) (task : ℕ) (first : Waiter) (passed : List Waiter) → waits task (cond own (first ∷ passed) passed) ≡ false → is_of_task task first ≡ true → own ≡ false
apart_step true task first passed outside is = let parts = or_parts (is_of_task task first) (waits task passed) outside in absurd (cc (parts.0, is))
apart_step false task first passed outside is = refl

outside_step : (own : Bool) (task : ℕ) (first : Waiter) (passed : List Waiter) → waits task (cond own (first ∷ passed) passed) ≡ false → waits task passed ≡ false
outside_step true task first passed outside = (or_parts (is_of_task task first) (waits task passed) outside).1
outside_step false task first passed outside = outside

pub noted_keeps_others : (task priority object : ℕ) (list : List Waiter) → waits task (queue_of object list) ≡ false → queue_of object (noted task priority list) ≡ queue_of object list
noted_keeps_others task priority object [] outside = refl
noted_keeps_others task priority object (first ∷ rest) outside =
    noted_step (is_of_task task first) priority object first (noted task priority rest) (queue_of object rest)
    (apart_step (is_of_object object first) task first (queue_of object rest) outside)
    (noted_keeps_others task priority object rest (outside_step (is_of_object object first) task first (queue_of object rest) outside))

moved_keeps_others : (order : Order) (first : Waiter) (priority object : ℕ) (list : List Waiter) → first.object ≢ object → waits first.task (queue_of object list) ≡ false → queue_of object (moved order first priority list) ≡ queue_of object list
moved_keeps_others Fifo first priority object list differs outside = noted_keeps_others first.task priority object list outside
moved_keeps_others Priority first priority object list differs outside =
    join_keeps_others (with_priority priority first) object (without_waiter first.task list) differs ∙ leave_keeps_others first.task object list outside

none_step : (test : Bool) (first : Waiter) (passed : List Waiter) → test ≡ false → passed ≡ [] → cond test (first ∷ passed) passed ≡ []
none_step true first passed is none = absurd (cc is)
none_step false first passed is none = none

none_passes : (task : ℕ) (list : List Waiter) → waits task list ≡ false → filter (is_of_task task) list ≡ []
none_passes task [] outside = refl
none_passes task (first ∷ rest) outside =
    let parts = or_parts (is_of_task task first) (waits task rest) outside in
    none_step (is_of_task task first) first (filter (is_of_task task) rest) parts.0 (none_passes task rest parts.1)

not_in_front : (test : Bool) (first : Waiter) (passed : List Waiter) → cond test (first ∷ passed) passed ≡ [] → test ≡ false
not_in_front true first passed none = absurd (cc none)
not_in_front false first passed none = refl

of_another : (object : ℕ) (first : Waiter) → is_of_object object first ≡ false → first.object ≢ object
of_another object first is = grind (arith, nat_tests)

first_keeps_others : (equals list : List Waiter) (task priority object : ℕ) → filter (is_of_task task) list ≡ equals → EachOnce list → waits task (queue_of object list) ≡ false → queue_of object (first_moved equals priority list) ≡ queue_of object list
first_keeps_others [] list task priority object same once outside = refl
first_keeps_others (first ∷ rest) list task priority object same once outside =
    let none : queue_of object (first ∷ rest) ≡ [] =
    ap (queue_of object) (sym same) ∙ (swapped (is_of_object object) (is_of_task task) list ∙ none_passes task (queue_of object list) outside) in
    let own : first.task ≡ task = task_is task list first rest once same in
    moved_keeps_others first.order first priority object list
    (of_another object first (not_in_front (is_of_object object first) first (queue_of object rest) none))
    (subst (λ (t : ℕ). waits t (queue_of object list) ≡ false) (sym own) outside)

pub reorder_keeps_others : (task priority object : ℕ) (list : List Waiter) → EachOnce list → waits task (queue_of object list) ≡ false → queue_of object (reordered task priority list) ≡ queue_of object list
reorder_keeps_others task priority object list once outside = first_keeps_others (filter (is_of_task task) list) list task priority object refl once outside
