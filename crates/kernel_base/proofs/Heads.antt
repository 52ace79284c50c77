-- What the queue of the waiters tells is what the table and the orders tell.
use Rattle.std.specs.Option.{option_map}
use Rattle.std.proofs.Common.{length, suc, zero, ◌≡◌, ℕ, true, false, List, [], ◌∷◌, Option, Some, None, map, refl, arith, ap, subst, sym, ◌∙◌, cond}
use Rattle.std.specs.List.{AllByRecursion}
use Rattle.std.specs.Prelude.{filter, slice_get}
use Rattle.std.proofs.lemmas.Bool.{or_parts}
use Rattle.tk_types.specs.declared.task.Task.{Task}
use Rattle.tk_types.specs.declared.task.Phase.{Phase}
use Rattle.tk_types.specs.declared.task.Phase.TheVariants.{Dormant, Ready, Waiting}
use Rattle.tk_types.specs.declared.task.Order.{Order}
use Rattle.tk_types.specs.declared.task.Order.TheVariants.{Fifo, Priority}
use Rattle.wait_queue.specs.declared.waiters.Waiter.{Waiter}
use Rattle.wait_queue.specs.Queues.{WaitTable, first_task, is_of_task, next_waiter, queue_of, task_in_place, waits}
use Rattle.kernel_model.specs.Words.Orders.{entry}
use Rattle.kernel_model.specs.LawWords.Once.{times}
use Rattle.kernel_model.specs.Tasks.Base.{Base, queue, waiting_in, waits_in}
use Rattle.kernel_model.specs.Tasks.Queues.{AreOfOrder, order_of_first, queue_at}
use Rattle.kernel_lemmas.proofs.ReadyLists.{times_filter_is}
use Rattle.kernel_base.specs.Waiting.{AreWaits, IsQueue, next_waiting, object_of, object_of_phase, queued_in, waiter_at, waits_at}
use Rattle.kernel_base.proofs.WaitLists.{AllQueue, all_filter, all_queued, queued_either, same_id}
use Rattle.kernel_base.proofs.WaiterLists.{all_waiters, each_of_queues, first_stands, next_stands}

-- the order of the earliest waiter is that of all
first_order : (object : ℕ) (tasks : List (Option Task)) (order since ids : List ℕ) (list : List Waiter) → filter (waits_at tasks object) since ≡ ids → AllByRecursion (λ u. waits_at tasks object u ≡ true) ids → IsQueue tasks order since list object → AllQueue (order_of_first tasks ids) tasks object
first_order object tasks order since [] list same all is = λ u there.
    let none : times u (filter (waits_at tasks object) since) ≡ 0 = ap (times u) same in
    let stands = (is.each u there).stands in
    let as_often = times_filter_is (waits_at tasks object) u since ∙ ap (λ b. cond b (times u since) 0) there in
    absurd (omega (arith, none, stands, as_often))
first_order object tasks order since (first ∷ rest) list same all is = λ u there. (is.each u there).alike ∙ sym (is.each first all.0).alike

queue_is : (by : Order) (b : Base) (object : ℕ) → queue by b object ≡ queued_in by b.tasks b.order b.since object
queue_is Fifo b object = refl
queue_is Priority b object = refl

-- the waiters of an object are the tasks of its queue
queue_stands : (b : Base) (object : ℕ) (list : List Waiter) → IsQueue b.tasks b.order b.since list object → queue_of object list ≡ map (waiter_at b.tasks object) (queue_at b object)
queue_stands b object list is =
    let earliest : List ℕ = filter (waits_at b.tasks object) b.since in
    let by : Order = order_of_first b.tasks earliest in
    let alike : AllQueue by b.tasks object = first_order object b.tasks b.order b.since earliest list refl (all_filter (λ u. waits_at b.tasks object u ≡ true) (waits_at b.tasks object) b.since (λ u there. there)) is in
    is.stand ∙ ap (map (waiter_at b.tasks object)) (queued_either is.by by object b.tasks b.order b.since (λ u there. (is.each u there).alike) alike ∙ sym (queue_is by b object))

pub head_stands : (inside seen : Base) (table : WaitTable) (object : ℕ) → AreWaits inside.tasks inside.order inside.since table → inside ≡ seen → first_task (queue_of object table.waiters) ≡ slice_get (queue_at seen object) 0
head_stands inside seen table object was is =
    ap first_task (queue_stands inside object table.waiters (was.queues object))
    ∙ (first_stands inside.tasks object (queue_at inside object) ∙ ap (λ (b : Base). slice_get (queue_at b object) 0) is)

object_by : (phase : Phase) (object : ℕ) → waits_in object phase ≡ true → object ≡ object_of_phase phase
object_by Dormant object there = absurd (cc there)
object_by Ready object there = absurd (cc there)
object_by (Waiting other) object there = sym (same_id other object there)

object_is : (slot : Option Task) (object : ℕ) → waiting_in object slot ≡ true → object ≡ object_of slot
object_is None object there = absurd (cc there)
object_is (Some k) object there = object_by k.phase object there

own_object : (t u object : ℕ) (tasks : List (Option Task)) → waits_at tasks object u ≡ true → u ≡ t → object ≡ object_of (entry tasks t)
own_object t u object tasks there same = object_is (entry tasks u) object there ∙ ap (λ n. object_of (entry tasks n)) same

own_objects : (t : ℕ) (tasks : List (Option Task)) (order since : List ℕ) (table : WaitTable) → AreWaits tasks order since table → AllByRecursion (λ (w : Waiter). w.task ≡ t → w.object ≡ object_of (entry tasks t)) table.waiters
own_objects t tasks order since table was = each_of_queues (λ (w : Waiter). w.task ≡ t → w.object ≡ object_of (entry tasks t)) table.waiters (λ object.
    let is = was.queues object in
    subst (AllByRecursion (λ (w : Waiter). w.task ≡ t → w.object ≡ object_of (entry tasks t))) (sym is.stand)
    (all_waiters (λ (w : Waiter). w.task ≡ t → w.object ≡ object_of (entry tasks t)) tasks object (queued_in is.by tasks order since object)
    (all_queued (λ u. u ≡ t → object ≡ object_of (entry tasks t)) is.by object tasks order since (λ u there. own_object t u object tasks there))))

pub next_waits : (inside seen : Base) (table : WaitTable) (t : ℕ) → AreWaits inside.tasks inside.order inside.since table → inside ≡ seen → next_waiter t table.waiters ≡ next_waiting seen t
next_waits inside seen table t was is =
    let object : ℕ = object_of (entry inside.tasks t) in
    next_stands t object inside.tasks (queue_at inside object) table.waiters (own_objects t inside.tasks inside.order inside.since table was) (queue_stands inside object table.waiters (was.queues object))
    ∙ ap (λ (b : Base). next_waiting b t) is

-- a task that isn't inside has none behind it
pub none_next : (t : ℕ) (list : List Waiter) → waits t list ≡ false → next_waiter t list ≡ None
none_next t [] outside = refl
none_next t (first ∷ rest) outside =
    let parts = or_parts (is_of_task t first) (waits t rest) outside in
    ap (λ b. cond b (first_task (queue_of first.object rest)) (next_waiter t rest)) parts.0 ∙ none_next t rest parts.1

-- ---- places in a queue

-- the waiters of an object are the tasks of its queue, in the order in which all of them queue
queued_stands : (order : Order) (b : Base) (object : ℕ) (list : List Waiter) → AreOfOrder order b object → IsQueue b.tasks b.order b.since list object → queue_of object list ≡ map (waiter_at b.tasks object) (queue order b object)
queued_stands order b object list alike is =
    is.stand ∙ ap (map (waiter_at b.tasks object)) (queued_either is.by order object b.tasks b.order b.since (λ u there. (is.each u there).alike) (λ u there. alike.alike u there) ∙ sym (queue_is order b object))

in_place_at : (tasks : List (Option Task)) (object : ℕ) (ids : List ℕ) (place : ℕ) → option_map (λ (waiter : Waiter). waiter.task) (slice_get (map (waiter_at tasks object) ids) place) ≡ slice_get ids place
in_place_at tasks object [] place = refl
in_place_at tasks object (t ∷ ids) zero = refl
in_place_at tasks object (t ∷ ids) (suc place) = in_place_at tasks object ids place

pub place_stands : (order : Order) (inside seen : Base) (table : WaitTable) (object place : ℕ) → AreOfOrder order seen object → AreWaits inside.tasks inside.order inside.since table → inside ≡ seen → task_in_place object place table.waiters ≡ slice_get (queue order seen object) place
place_stands order inside seen table object place alike was is =
    ap (λ list. option_map (λ (waiter : Waiter). waiter.task) (slice_get list place)) (queued_stands order inside object table.waiters (subst (λ (b : Base). AreOfOrder order b object) (sym is) alike) (was.queues object))
    ∙ (in_place_at inside.tasks object (queue order inside object) place ∙ ap (λ (b : Base). slice_get (queue order b object) place) is)

length_waiters : (tasks : List (Option Task)) (object : ℕ) (ids : List ℕ) → length (map (waiter_at tasks object) ids) ≡ length ids
length_waiters tasks object [] = refl
length_waiters tasks object (t ∷ ids) = ap suc (length_waiters tasks object ids)

pub count_stands : (order : Order) (inside seen : Base) (table : WaitTable) (object : ℕ) → AreOfOrder order seen object → AreWaits inside.tasks inside.order inside.since table → inside ≡ seen → length (queue_of object table.waiters) ≡ length (queue order seen object)
count_stands order inside seen table object alike was is =
    ap length (queued_stands order inside object table.waiters (subst (λ (b : Base). AreOfOrder order b object) (sym is) alike) (was.queues object))
    ∙ (length_waiters inside.tasks object (queue order inside object) ∙ ap (λ (b : Base). length (queue order b object)) is)
