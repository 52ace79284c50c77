-- The queue of the tasks that wait is that of the table and the orders after every change.
use Rattle.std.proofs.Common.{◌≡◌, ◌≢◌, ℕ, ◌<◌, ◌≤◌, Bool, true, false, not, cond, List, [], ◌∷◌, ◌++◌, append-nil, length, Option, Some, None, map, refl, arith, ap, subst, sym, ◌∙◌}
use Rattle.std.specs.Bool.{◌==◌}
use Rattle.std.specs.List.{AllByRecursion}
use Rattle.std.specs.Prelude.{filter, replicate, slice_set}
use Rattle.std.proofs.lemmas.Bool.Decides.{nat_tests}
use Rattle.std.proofs.lemmas.List.{length-replicate}
use Rattle.std.proofs.lemmas.List.Elements.{filter-append}
use Rattle.tk_types.specs.declared.task.Task.{Task}
use Rattle.tk_types.specs.declared.task.Phase.{Phase}
use Rattle.tk_types.specs.declared.task.Phase.TheVariants.{Dormant, Ready, Waiting}
use Rattle.tk_types.specs.declared.task.Order.{Order}
use Rattle.tk_types.specs.declared.task.Order.TheVariants.{Fifo, Priority}
use Rattle.wait_queue.specs.declared.waiters.Waiter.{Waiter}
use Rattle.wait_queue.specs.Queues.{WaitTable, first_moved, is_of_task, queue_of, reordered, waits, without_waiter}
use Rattle.wait_queue.specs.Facts as waiters
use Rattle.wait_queue.proofs.Others.{leaves_queue}
use Rattle.ready_queue.proofs.Keyed.{all_differ, gone, none_left_out}
use Rattle.std.proofs.lemmas.Bool.{or_parts}
use Rattle.kernel_model.specs.Words.Orders.{entry, to_back, without}
use Rattle.kernel_model.specs.LawWords.Once.{times}
use Rattle.kernel_model.specs.Tasks.Base.{Base, current_in, waiting_in, waits_in, waits_somewhere}
use Rattle.kernel_model.specs.Tasks.Queues.{AreOfOrder, queue_in}
use Rattle.kernel_lemmas.proofs.ReadyLists.{AreSameBut, alike_at, entry_written, same_but_written}
use Rattle.kernel_lemmas.proofs.Tables.{entry_same, itself}
use Rattle.kernel_lemmas.proofs.Sorting.{not_here}
use Rattle.kernel_lemmas.proofs.Filters.{filter_absent}
use Rattle.kernel_lemmas.proofs.Once.{times_append}
use Rattle.kernel_lemmas.proofs.Tables.{none_there}
use Rattle.kernel_base.specs.Waiting.{AreWaits, IsQueue, IsWaiter, MayQueue, most_objects, phase_in, priority_at, queued_in, restamped, restamped_by, rewaited, waiter_at, waits_at}
use Rattle.kernel_base.proofs.WaitLists.{AllQueue, all_queued, fifo_alike, not_queued, queued_alike, queued_either, queued_joined, queued_left, same_id, times_other}
use Rattle.kernel_base.proofs.WaiterLists.{all_waiters, each_of_queues, noted_stand, queue_without, reordered_noted, rewaited_elsewhere, rewaited_queue}

-- ---- rows

waiting_phase : (slot : Option Task) (object : ℕ) → waiting_in object slot ≡ waits_in object (phase_in slot)
waiting_phase None object = refl
waiting_phase (Some k) object = refl

idle_phase : (phase : Phase) (object : ℕ) (k : Task) → k.phase ≡ phase → waits_somewhere (Some k) ≡ false → waiting_in object (Some k) ≡ false
idle_phase Dormant object k is idle = ap (waits_in object) is
idle_phase Ready object k is idle = ap (waits_in object) is
idle_phase (Waiting other) object k is idle = absurd (cc (is, idle))

-- a row that doesn't wait waits for no object
pub idle_slot : (slot : Option Task) (object : ℕ) → waits_somewhere slot ≡ false → waiting_in object slot ≡ false
idle_slot None object idle = refl
idle_slot (Some k) object idle = idle_phase k.phase object k refl idle

one_object_by : (phase : Phase) (object other : ℕ) → waits_in object phase ≡ true → waits_in other phase ≡ true → object ≡ other
one_object_by Dormant object other first second = absurd (cc first)
one_object_by Ready object other first second = absurd (cc first)
one_object_by (Waiting at) object other first second = sym (same_id at object first) ∙ same_id at other second

-- ---- one queue

each_other : (t object u : ℕ) (by : Order) (tasks changed : List (Option Task)) (order moved since later : List ℕ) → AreSameBut t tasks changed → without t moved ≡ without t order → without t later ≡ without t since → u ≢ t → IsWaiter object by order since u (entry tasks u) → IsWaiter object by moved later u (entry changed u)
each_other t object u by tasks changed order moved since later same others_order others differs is = record {
  below = is.below;
  alike = ap queue_in (same.elsewhere u differs) ∙ is.alike;
  ranks = let as_often = times_other u t order moved differs others_order in let one = is.ranks in omega arith;
  stands = let as_often = times_other u t since later differs others in let one = is.stands in omega arith;
}

other_waits : (t object u : ℕ) (changed : List (Option Task)) → waits_at changed object t ≡ false → waits_at changed object u ≡ true → u ≢ t
other_waits t object u changed idle waits = λ same. let there : waits_at changed object t ≡ true = subst (λ (n : ℕ). waits_at changed object n ≡ true) same waits in absurd (cc (there, idle))

-- the task doesn't wait for the object
queue_off : (t object : ℕ) (tasks changed : List (Option Task)) (order moved since later : List ℕ) (list left : List Waiter) → AreSameBut t tasks changed → waits_at changed object t ≡ false → without t moved ≡ without t order → without t later ≡ without t since →
    queue_of object left ≡ queue_of object (without_waiter t list) → IsQueue tasks order since list object → IsQueue changed moved later left object
queue_off t object tasks changed order moved since later list left same idle others_order others_since out is = record {
  by = is.by;
  each = λ u waits.
      let differs : u ≢ t = other_waits t object u changed idle waits in
      each_other t object u is.by tasks changed order moved since later same others_order others_since differs (is.each u (sym (ap (waiting_in object) (same.elsewhere u differs)) ∙ waits));
  stand = out ∙ (queue_without t object (queued_in is.by tasks order since object) list tasks changed same is.stand
      ∙ ap (map (waiter_at changed object)) (sym (queued_left is.by t object tasks changed order moved since later same idle others_order others_since)));
}

-- a task whose slot is written and that joins the queue that it waits in
pub record Joins (t : ℕ) (slot : Option Task) (tasks : List (Option Task)) (order moved since later : List ℕ) : Type 0 where
  pub others_order : without t moved ≡ without t order
  pub others : without t later ≡ without t since
  pub ranks : (object : ℕ) → waiting_in object slot ≡ true → 1 ≤ times t moved
  pub stands : (object : ℕ) → waiting_in object slot ≡ true → 1 ≤ times t later
  pub last : queue_in slot ≡ Priority → moved ≡ to_back t order
  pub latest : queue_in slot ≡ Fifo → later ≡ to_back t since
  pub below : (object : ℕ) → waiting_in object slot ≡ true → object < most_objects
  pub alike : (object : ℕ) → waiting_in object slot ≡ true → AllQueue (queue_in slot) tasks object

on_each : (t object u : ℕ) (slot : Option Task) (test : Bool) (tasks changed : List (Option Task)) (order moved since later : List ℕ) (list : List Waiter) → (u == t) ≡ test → AreSameBut t tasks changed → entry changed t ≡ slot → waiting_in object slot ≡ true →
    Joins t slot tasks order moved since later → IsQueue tasks order since list object → waits_at changed object u ≡ true → IsWaiter object (queue_in slot) moved later u (entry changed u)
on_each t object u slot true tasks changed order moved since later list is same at waits joins was there =
    subst (λ (n : ℕ). IsWaiter object (queue_in slot) moved later n (entry changed n)) (sym (same_id u t is))
    (record { below = joins.below object waits; alike = ap queue_in at; ranks = joins.ranks object waits; stands = joins.stands object waits })
on_each t object u slot false tasks changed order moved since later list is same at waits joins was there =
    let differs : u ≢ t = λ own. grind (arith, nat_tests, is, own) in
    let before : waits_at tasks object u ≡ true = sym (ap (waiting_in object) (same.elsewhere u differs)) ∙ there in
    let had : IsWaiter object was.by order since u (entry tasks u) = was.each u before in
    each_other t object u (queue_in slot) tasks changed order moved since later same joins.others_order joins.others differs
    (record { below = had.below; alike = joins.alike object waits u before; ranks = had.ranks; stands = had.stands })

queue_on : (t object : ℕ) (slot : Option Task) (tasks changed : List (Option Task)) (order moved since later : List ℕ) (list : List Waiter) → AreSameBut t tasks changed → entry changed t ≡ slot → waiting_in object slot ≡ true →
    Joins t slot tasks order moved since later → IsQueue tasks order since list object → IsQueue changed moved later (rewaited t slot list) object
queue_on t object slot tasks changed order moved since later list same at waits joins is =
    let by : Order = queue_in slot in
    let stand : queue_of object list ≡ map (waiter_at tasks object) (queued_in by tasks order since object) =
    is.stand ∙ ap (map (waiter_at tasks object)) (queued_either is.by by object tasks order since (λ u there. (is.each u there).alike) (joins.alike object waits)) in
    record {
      by = by;
      each = λ u there. on_each t object u slot (u == t) tasks changed order moved since later list refl same at waits joins is there;
      stand = rewaited_queue by slot t object (queued_in by tasks order since object) list tasks changed same at waits refl stand
          ∙ ap (map (waiter_at changed object)) (sym (queued_joined by t object tasks changed order moved since later same (ap (waiting_in object) at ∙ waits) joins.last joins.latest));
    }

pub without_back : (t : ℕ) (order : List ℕ) → without t (to_back t order) ≡ without t order
without_back t order =
    let fails : not (t == t) ≡ false = ap not (itself t) in
    filter-append (λ u. not (u == t)) (without t order) (t ∷ [])
    ∙ (ap (λ last. without t (without t order) ++ last) (not_here (not (t == t)) t [] fails)
    ∙ (append-nil (without t (without t order)) ∙ filter_absent (λ u. not (u == t)) t order fails))

queue_joined : (waits : Bool) (t object : ℕ) (slot : Option Task) (tasks changed : List (Option Task)) (order moved since later : List ℕ) (list : List Waiter) → waiting_in object slot ≡ waits → AreSameBut t tasks changed → entry changed t ≡ slot →
    Joins t slot tasks order moved since later → IsQueue tasks order since list object → IsQueue changed moved later (rewaited t slot list) object
queue_joined true t object slot tasks changed order moved since later list is same at joins was = queue_on t object slot tasks changed order moved since later list same at is joins was
queue_joined false t object slot tasks changed order moved since later list is same at joins was =
    queue_off t object tasks changed order moved since later list (rewaited t slot list) same (ap (waiting_in object) at ∙ is) joins.others_order joins.others
    (rewaited_elsewhere slot object t list is) was

-- ---- all queues

pub waits_joined : (t : ℕ) (slot : Option Task) (tasks changed : List (Option Task)) (order moved since later : List ℕ) (old new : WaitTable) → AreSameBut t tasks changed → entry changed t ≡ slot → Joins t slot tasks order moved since later →
    new ≡ record old { waiters = rewaited t slot old.waiters } → AreWaits tasks order since old → AreWaits changed moved later new
waits_joined t slot tasks changed order moved since later old new same at joins is was = subst (AreWaits changed moved later) (sym is) (record {
  objects = was.objects;
  queues = λ object. queue_joined (waiting_in object slot) t object slot tasks changed order moved since later old.waiters refl same at joins (was.queues object);
})

-- a task that doesn't wait leaves
pub waits_left : (t : ℕ) (tasks changed : List (Option Task)) (order moved since later : List ℕ) (old new : WaitTable) → AreSameBut t tasks changed → waits_somewhere (entry changed t) ≡ false → without t moved ≡ without t order → without t later ≡ without t since →
    new ≡ record old { waiters = without_waiter t old.waiters } → AreWaits tasks order since old → AreWaits changed moved later new
waits_left t tasks changed order moved since later old new same idle others_order others_since is was = subst (AreWaits changed moved later) (sym is) (record {
  objects = was.objects;
  queues = λ object. queue_off t object tasks changed order moved since later old.waiters (without_waiter t old.waiters) same (idle_slot (entry changed t) object idle) others_order others_since refl (was.queues object);
})

-- ---- a task that stays in its queue

waits_alike : (t object : ℕ) (tasks changed : List (Option Task)) → AreSameBut t tasks changed → phase_in (entry changed t) ≡ phase_in (entry tasks t) → (u : ℕ) → waits_at changed object u ≡ waits_at tasks object u
waits_alike t object tasks changed same phase = λ u.
    alike_at (waiting_in object) t tasks changed u (u == t) refl same (waiting_phase (entry changed t) object ∙ (ap (waits_in object) phase ∙ sym (waiting_phase (entry tasks t) object)))

each_alike : (t object u : ℕ) (by : Order) (tasks changed : List (Option Task)) (order since : List ℕ) → AreSameBut t tasks changed → queue_in (entry changed t) ≡ queue_in (entry tasks t) → IsWaiter object by order since u (entry tasks u) → IsWaiter object by order since u (entry changed u)
each_alike t object u by tasks changed order since same order_same is = record {
  below = is.below;
  alike = alike_at queue_in t tasks changed u (u == t) refl same order_same ∙ is.alike;
  ranks = is.ranks;
  stands = is.stands;
}

waiters_alike : (object : ℕ) (ids : List ℕ) (tasks changed : List (Option Task)) → ((u : ℕ) → waiter_at changed object u ≡ waiter_at tasks object u) → map (waiter_at changed object) ids ≡ map (waiter_at tasks object) ids
waiters_alike object [] tasks changed same = refl
waiters_alike object (id ∷ ids) tasks changed same = ap (λ w. w ∷ map (waiter_at changed object) ids) (same id) ∙ ap (λ list. waiter_at tasks object id ∷ list) (waiters_alike object ids tasks changed same)

waiter_alike : (t object : ℕ) (tasks changed : List (Option Task)) → AreSameBut t tasks changed → queue_in (entry changed t) ≡ queue_in (entry tasks t) → current_in (entry changed t) ≡ current_in (entry tasks t) → (u : ℕ) → waiter_at changed object u ≡ waiter_at tasks object u
waiter_alike t object tasks changed same order current = λ u.
    let queue : queue_in (entry changed u) ≡ queue_in (entry tasks u) = alike_at queue_in t tasks changed u (u == t) refl same order in
    let now : current_in (entry changed u) ≡ current_in (entry tasks u) = alike_at current_in t tasks changed u (u == t) refl same current in
    rw (queue, now) refl

-- a row is written that waits as before
pub waits_kept : (t : ℕ) (tasks changed : List (Option Task)) (order since : List ℕ) (waits : WaitTable) → AreSameBut t tasks changed → phase_in (entry changed t) ≡ phase_in (entry tasks t) → queue_in (entry changed t) ≡ queue_in (entry tasks t) → current_in (entry changed t) ≡ current_in (entry tasks t) →
    AreWaits tasks order since waits → AreWaits changed order since waits
waits_kept t tasks changed order since waits same phase order_same current was = record {
  objects = was.objects;
  queues = λ object. let is = was.queues object in record {
    by = is.by;
    each = λ u there. each_alike t object u is.by tasks changed order since same order_same (is.each u (sym (waits_alike t object tasks changed same phase u) ∙ there));
    stand = is.stand ∙ (sym (waiters_alike object (queued_in is.by tasks order since object) tasks changed (waiter_alike t object tasks changed same order_same current))
        ∙ ap (map (waiter_at changed object)) (sym (queued_alike is.by object tasks changed order since (waits_alike t object tasks changed same phase) (λ u. alike_at current_in t tasks changed u (u == t) refl same current))));
  };
}

-- ---- a task takes a new stamp

all_any : (P : ℕ → Type 0) (ids : List ℕ) → ((u : ℕ) → P u) → AllByRecursion P ids
all_any P [] all = tt
all_any P (id ∷ ids) all = (all id, all_any P ids all)

own_fifo : (t u : ℕ) (tasks : List (Option Task)) → queue_in (entry tasks t) ≡ Fifo → u ≡ t → queue_in (entry tasks u) ≡ Fifo
own_fifo t u tasks order same = ap (λ n. queue_in (entry tasks n)) same ∙ order

noted_each : (t : ℕ) (tasks : List (Option Task)) (order since : List ℕ) (waits : WaitTable) → queue_in (entry tasks t) ≡ Fifo → AreWaits tasks order since waits → AllByRecursion (λ (w : Waiter). w.task ≡ t → w.order ≡ Fifo) waits.waiters
noted_each t tasks order since waits by was = each_of_queues (λ (w : Waiter). w.task ≡ t → w.order ≡ Fifo) waits.waiters (λ object.
    let is = was.queues object in
    let ids : List ℕ = queued_in is.by tasks order since object in
    subst (AllByRecursion (λ (w : Waiter). w.task ≡ t → w.order ≡ Fifo)) (sym is.stand)
    (all_waiters (λ (w : Waiter). w.task ≡ t → w.order ≡ Fifo) tasks object ids (all_any (λ u. u ≡ t → queue_in (entry tasks u) ≡ Fifo) ids (λ u. own_fifo t u tasks by))))

fifo_ids : (by : Order) (object : ℕ) (tasks changed : List (Option Task)) (order moved since : List ℕ) → by ≡ Fifo → ((u : ℕ) → waits_at changed object u ≡ waits_at tasks object u) → queued_in by tasks order since object ≡ queued_in by changed moved since object
fifo_ids Fifo object tasks changed order moved since is same = sym (fifo_alike object tasks changed order moved since same)
fifo_ids Priority object tasks changed order moved since is same = absurd (cc is)

noted_ids : (waits : Bool) (t object : ℕ) (tasks changed : List (Option Task)) (order since : List ℕ) (list : List Waiter) → waits_at tasks object t ≡ waits → AreSameBut t tasks changed → phase_in (entry changed t) ≡ phase_in (entry tasks t) → queue_in (entry tasks t) ≡ Fifo → (is : IsQueue tasks order since list object) →
    queued_in is.by tasks order since object ≡ queued_in is.by changed (to_back t order) since object
noted_ids true t object tasks changed order since list at same phase fifo is = fifo_ids is.by object tasks changed order (to_back t order) since (sym (is.each t at).alike ∙ fifo) (waits_alike t object tasks changed same phase)
noted_ids false t object tasks changed order since list at same phase fifo is =
    not_queued is.by t object tasks order since at
    ∙ sym (queued_left is.by t object tasks changed order (to_back t order) since since same (waits_alike t object tasks changed same phase t ∙ at) (without_back t order) refl)

pub stands_back : (t : ℕ) (since : List ℕ) → 1 ≤ times t (to_back t since)
stands_back t since =
    let whole = times_append t (without t since) (t ∷ []) in
    let own : times t (t ∷ []) ≡ 1 = rw (itself t) (omega arith) in
    omega arith

pub times_back : (u t : ℕ) (test : Bool) (order : List ℕ) → (u == t) ≡ test → 1 ≤ times u order → 1 ≤ times u (to_back t order)
times_back u t true order is one = subst (λ (n : ℕ). 1 ≤ times n (to_back t order)) (sym (same_id u t is)) (stands_back t order)
times_back u t false order is one =
    let differs : u ≢ t = λ own. grind (arith, nat_tests, is, own) in
    let as_often = times_other u t order (to_back t order) differs (without_back t order) in
    omega arith

ranked_back : (t object u : ℕ) (by : Order) (tasks changed : List (Option Task)) (order since : List ℕ) → IsWaiter object by order since u (entry changed u) → IsWaiter object by (to_back t order) since u (entry changed u)
ranked_back t object u by tasks changed order since is = record { below = is.below; alike = is.alike; ranks = times_back u t (u == t) order refl is.ranks; stands = is.stands }

waits_noted : (t priority : ℕ) (tasks changed : List (Option Task)) (order since : List ℕ) (old : WaitTable) → AreSameBut t tasks changed → phase_in (entry changed t) ≡ phase_in (entry tasks t) → queue_in (entry changed t) ≡ queue_in (entry tasks t) → queue_in (entry tasks t) ≡ Fifo → priority ≡ priority_at changed t →
    AreWaits tasks order since old → AreWaits changed (to_back t order) since (record old { waiters = reordered t priority old.waiters })
waits_noted t priority tasks changed order since old same phase order_same fifo current was = record {
  objects = was.objects;
  queues = λ object. let is = was.queues object in record {
    by = is.by;
    each = λ u there. ranked_back t object u is.by tasks changed order since (each_alike t object u is.by tasks changed order since same order_same (is.each u (sym (waits_alike t object tasks changed same phase u) ∙ there)));
    stand = ap (queue_of object) (reordered_noted t priority old.waiters (noted_each t tasks order since old fifo was))
        ∙ (noted_stand t priority object (queued_in is.by tasks order since object) old.waiters tasks changed same order_same current is.stand
        ∙ ap (map (waiter_at changed object)) (noted_ids (waits_at tasks object t) t object tasks changed order since old.waiters refl same phase fifo is));
  };
}

fifo_not_priority : (by : Order) (A : Type 0) → by ≡ Priority → by ≡ Fifo → A
fifo_not_priority by A first second = absurd (cc (first, second))

-- a task in a queue by priority joins it anew
restamp_joins : (t : ℕ) (slot : Option Task) (tasks : List (Option Task)) (order since : List ℕ) (waits : WaitTable) → phase_in slot ≡ phase_in (entry tasks t) → queue_in slot ≡ queue_in (entry tasks t) → queue_in slot ≡ Priority → AreWaits tasks order since waits → Joins t slot tasks order (to_back t order) since since
restamp_joins t slot tasks order since waits phase order_same by was =
    let before : (object : ℕ) → waiting_in object slot ≡ true → waits_at tasks object t ≡ true = λ object there.
    waiting_phase (entry tasks t) object ∙ (ap (waits_in object) (sym phase) ∙ (sym (waiting_phase slot object) ∙ there)) in
    record {
      others_order = without_back t order;
      others = refl;
      ranks = λ object there. stands_back t order;
      stands = λ object there. ((was.queues object).each t (before object there)).stands;
      last = λ priority. refl;
      latest = λ fifo. fifo_not_priority (queue_in slot) (since ≡ to_back t since) by fifo;
      below = λ object there. ((was.queues object).each t (before object there)).below;
      alike = λ object there u waits_there.
          let is = was.queues object in
          (is.each u waits_there).alike ∙ (sym (is.each t (before object there)).alike ∙ sym order_same);
    }

restamped_if : (by : Order) (t : ℕ) (k : Task) (tasks changed : List (Option Task)) (order since : List ℕ) (old : WaitTable) → k.queue ≡ by → AreSameBut t tasks changed → entry changed t ≡ Some k → phase_in (Some k) ≡ phase_in (entry tasks t) → queue_in (Some k) ≡ queue_in (entry tasks t) →
    AreWaits tasks order since old → AreWaits changed (to_back t order) since (record old { waiters = restamped_by by t k old.waiters })
restamped_if Fifo t k tasks changed order since old by same at phase order_same was =
    waits_noted t k.current tasks changed order since old same (ap phase_in at ∙ phase) (ap queue_in at ∙ order_same) (sym order_same ∙ by) (sym (ap current_in at)) was
restamped_if Priority t k tasks changed order since old by same at phase order_same was =
    waits_joined t (Some k) tasks changed order (to_back t order) since since old (record old { waiters = rewaited t (Some k) old.waiters }) same at (restamp_joins t (Some k) tasks order since old phase order_same by was) refl was

restamped_at : (slot : Option Task) (t : ℕ) (tasks changed : List (Option Task)) (order since : List ℕ) (old : WaitTable) → AreSameBut t tasks changed → entry changed t ≡ slot → phase_in slot ≡ phase_in (entry tasks t) → queue_in slot ≡ queue_in (entry tasks t) →
    AreWaits tasks order since old → AreWaits changed (to_back t order) since (record old { waiters = restamped t slot old.waiters })
restamped_at None t tasks changed order since old same at phase order_same was =
    waits_left t tasks changed order (to_back t order) since since old (record old { waiters = without_waiter t old.waiters }) same (ap waits_somewhere at) (without_back t order) refl refl was
restamped_at (Some k) t tasks changed order since old same at phase order_same was = restamped_if k.queue t k tasks changed order since old refl same at phase order_same was

pub waits_restamped : (t : ℕ) (slot : Option Task) (tasks changed : List (Option Task)) (order moved since : List ℕ) (old new : WaitTable) → AreSameBut t tasks changed → entry changed t ≡ slot → phase_in slot ≡ phase_in (entry tasks t) → queue_in slot ≡ queue_in (entry tasks t) → moved ≡ to_back t order →
    new ≡ record old { waiters = restamped t slot old.waiters } → AreWaits tasks order since old → AreWaits changed moved since new
waits_restamped t slot tasks changed order moved since old new same at phase order_same last is was =
    subst (λ (ids : List ℕ). AreWaits changed ids since new) (sym last) (subst (AreWaits changed (to_back t order) since) (sym is) (restamped_at slot t tasks changed order since old same at phase order_same was))

-- ---- what the calls of the queue ask for

queue_of_order : (by : Order) (object : ℕ) (tasks : List (Option Task)) (order since : List ℕ) (list : List Waiter) → AllQueue by tasks object → IsQueue tasks order since list object → waiters.AreOfOrder by (queue_of object list)
queue_of_order by object tasks order since list alike is =
    subst (waiters.AreOfOrder by) (sym is.stand)
    (all_waiters (λ (w : Waiter). w.order ≡ by) tasks object (queued_in is.by tasks order since object) (all_queued (λ u. queue_in (entry tasks u) ≡ by) is.by object tasks order since alike))

pub may_join : (t : ℕ) (slot : Option Task) (tasks : List (Option Task)) (order moved since later : List ℕ) (old : WaitTable) → Joins t slot tasks order moved since later → AreWaits tasks order since old → MayQueue slot old
may_join t slot tasks order moved since later old joins was = record {
  below = λ object there. let low = joins.below object there in omega (arith, was.objects, low);
  alike = λ object there. queue_of_order (queue_in slot) object tasks order since old.waiters (joins.alike object there) (was.queues object);
}

pub may_restamp : (t : ℕ) (slot : Option Task) (tasks : List (Option Task)) (order since : List ℕ) (old : WaitTable) → phase_in slot ≡ phase_in (entry tasks t) → queue_in slot ≡ queue_in (entry tasks t) → AreWaits tasks order since old → MayQueue slot old
may_restamp t slot tasks order since old phase order_same was =
    let before : (object : ℕ) → waiting_in object slot ≡ true → waits_at tasks object t ≡ true = λ object there.
    waiting_phase (entry tasks t) object ∙ (ap (waits_in object) (sym phase) ∙ (sym (waiting_phase slot object) ∙ there)) in
    record {
      below = λ object there. let low = ((was.queues object).each t (before object there)).below in omega (arith, was.objects, low);
      alike = λ object there. let is = was.queues object in
          queue_of_order (queue_in slot) object tasks order since old.waiters
          (λ u waits_there. (is.each u waits_there).alike ∙ (sym (is.each t (before object there)).alike ∙ sym order_same)) is;
    }

-- a task begins to wait
pub wait_joins : (t object : ℕ) (by : Order) (k : Task) (tasks : List (Option Task)) (order moved since later : List ℕ) → object < most_objects → AllQueue by tasks object → k.phase ≡ Waiting object → k.queue ≡ by → moved ≡ to_back t order → later ≡ to_back t since →
    Joins t (Some k) tasks order moved since later
wait_joins t object by k tasks order moved since later low alike phase order_is last latest =
    let own : (other : ℕ) → waiting_in other (Some k) ≡ true → object ≡ other = λ other there. same_id object other (sym (ap (waits_in other) phase) ∙ there) in
    record {
      others_order = ap (without t) last ∙ without_back t order;
      others = ap (without t) latest ∙ without_back t since;
      ranks = λ other there. subst (λ (ids : List ℕ). 1 ≤ times t ids) (sym last) (stands_back t order);
      stands = λ other there. subst (λ (ids : List ℕ). 1 ≤ times t ids) (sym latest) (stands_back t since);
      last = λ priority. last;
      latest = λ fifo. latest;
      below = λ other there. subst (λ (n : ℕ). n < most_objects) (own other there) low;
      alike = λ other there. subst (λ (n : ℕ). AllQueue k.queue tasks n) (own other there) (subst (λ (o : Order). AllQueue o tasks object) (sym order_is) alike);
    }

-- ---- the start

none_wait : (n : ℕ) (waits : WaitTable) → waits ≡ record { objects = most_objects; waiters = [] } → AreWaits (replicate n None) [] [] waits
none_wait n waits is = subst (AreWaits (replicate n None) [] []) (sym is) (record {
  objects = refl;
  queues = λ object. record {
    by = Fifo;
    each = λ u there. absurd (cc (ap (waiting_in object) (none_there n u), there));
    stand = refl;
  };
})

-- the first task
pub waits_start : (slot : Option Task) (tasks : List (Option Task)) (order since : List ℕ) (waits : WaitTable) → tasks ≡ replicate 256 None → waits_somewhere slot ≡ false → waits ≡ record { objects = most_objects; waiters = [] } → order ≡ 1 ∷ [] → since ≡ 1 ∷ [] → AreWaits (slice_set tasks 1 slot) order since waits
waits_start slot tasks order since waits free idle empty one first =
    let long : 1 < length tasks = omega (arith, ap length free, length-replicate {A = Option Task} 256 None) in
    let was : AreWaits tasks [] [] waits = subst (λ (table : List (Option Task)). AreWaits table [] [] waits) (sym free) (none_wait 256 waits empty) in
    waits_left 1 tasks (slice_set tasks 1 slot) [] order [] since waits waits (same_but_written 1 slot tasks) (ap waits_somewhere (entry_written 1 slot tasks long) ∙ idle) (ap (without 1) one) (ap (without 1) first)
    (empty ∙ ap (λ (list : List Waiter). record { objects = most_objects; waiters = list }) refl ∙ ap (λ (table : WaitTable). record table { waiters = without_waiter 1 table.waiters }) (sym empty)) was

-- ---- calls of the queue

-- a task that isn't inside is left out of nothing
pub not_waiting : (t : ℕ) (table : WaitTable) → waits t table.waiters ≡ false → table ≡ record table { waiters = without_waiter t table.waiters }
not_waiting t table outside =
    ap (λ (list : List Waiter). record table { waiters = list }) (none_left_out (λ (w : Waiter). w.task) t table.waiters (all_differ (λ (w : Waiter). w.task) t table.waiters outside))

pub left_waits_not : (t : ℕ) (old new : WaitTable) → new ≡ record old { waiters = without_waiter t old.waiters } → waits t new.waiters ≡ false
left_waits_not t old new is = ap (λ (table : WaitTable). waits t table.waiters) is ∙ gone (λ (w : Waiter). w.task) t old.waiters

none_first : (test : Bool) (first : Waiter) (passed : List Waiter) → test ≡ false → passed ≡ [] → cond test (first ∷ passed) passed ≡ []
none_first true first passed is none = absurd (cc is)
none_first false first passed is none = none

none_of_task : (t : ℕ) (list : List Waiter) → waits t list ≡ false → filter (is_of_task t) list ≡ []
none_of_task t [] outside = refl
none_of_task t (first ∷ rest) outside = let parts = or_parts (is_of_task t first) (waits t rest) outside in none_first (is_of_task t first) first (filter (is_of_task t) rest) parts.0 (none_of_task t rest parts.1)

-- and its priority is noted nowhere
pub not_noted : (t priority : ℕ) (table : WaitTable) → waits t table.waiters ≡ false → table ≡ record table { waiters = reordered t priority table.waiters }
not_noted t priority table outside = ap (λ (firsts : List Waiter). record table { waiters = first_moved firsts priority table.waiters }) (sym (none_of_task t table.waiters outside))

each_kept : (P : Waiter → Type 0) (test : Bool) (first : Waiter) (passed : List Waiter) → (test ≡ true → P first) → AllByRecursion P passed → AllByRecursion P (cond test (first ∷ passed) passed)
each_kept P true first passed here all = (here refl, all)
each_kept P false first passed here all = all

left_of_order : (by : Order) (t : ℕ) (list : List Waiter) → waiters.AreOfOrder by list → waiters.AreOfOrder by (without_waiter t list)
left_of_order by t [] all = tt
left_of_order by t (first ∷ rest) all = each_kept (λ (w : Waiter). w.order ≡ by) (not (is_of_task t first)) first (without_waiter t rest) (λ is. all.0) (left_of_order by t rest all.1)

-- a task that left may join
pub joins_order : (t object : ℕ) (k : Task) (old left : WaitTable) → MayQueue (Some k) old → k.phase ≡ Waiting object → left ≡ record old { waiters = without_waiter t old.waiters } → waiters.AreOfOrder k.queue (queue_of object left.waiters)
joins_order t object k old left may phase is =
    let there : waits_in object k.phase ≡ true = ap (waits_in object) phase ∙ itself object in
    subst (λ (table : WaitTable). waiters.AreOfOrder k.queue (queue_of object table.waiters)) (sym is)
    (subst (waiters.AreOfOrder k.queue) (sym (leaves_queue t object old.waiters)) (left_of_order k.queue t (queue_of object old.waiters) (may.alike object there)))

pub joins_object : (t object : ℕ) (k : Task) (old left : WaitTable) → MayQueue (Some k) old → k.phase ≡ Waiting object → left ≡ record old { waiters = without_waiter t old.waiters } → object < left.objects
joins_object t object k old left may phase is =
    let there : waits_in object k.phase ≡ true = ap (waits_in object) phase ∙ itself object in
    subst (λ (table : WaitTable). object < table.objects) (sym is) (may.below object there)

-- ---- what the writes of the base come to

pub waits_written : (t : ℕ) (slot : Option Task) (tasks : List (Option Task)) (order since : List ℕ) (table : WaitTable) → t < length tasks → phase_in slot ≡ phase_in (entry tasks t) → queue_in slot ≡ queue_in (entry tasks t) → current_in slot ≡ current_in (entry tasks t) →
    AreWaits tasks order since table → AreWaits (slice_set tasks t slot) order since table
waits_written t slot tasks order since table within phase order_same current was =
    let at : entry (slice_set tasks t slot) t ≡ slot = entry_written t slot tasks within in
    waits_kept t tasks (slice_set tasks t slot) order since table (same_but_written t slot tasks) (ap phase_in at ∙ phase) (ap queue_in at ∙ order_same) (ap current_in at ∙ current) was

pub left_to_last : (t : ℕ) (slot : Option Task) (tasks : List (Option Task)) (order moved since : List ℕ) (old new : WaitTable) → t < length tasks → waits_somewhere slot ≡ false → moved ≡ to_back t order → new ≡ record old { waiters = without_waiter t old.waiters } →
    AreWaits tasks order since old → AreWaits (slice_set tasks t slot) moved since new
left_to_last t slot tasks order moved since old new within idle last is was =
    waits_left t tasks (slice_set tasks t slot) order moved since since old new (same_but_written t slot tasks) (ap waits_somewhere (entry_written t slot tasks within) ∙ idle) (ap (without t) last ∙ without_back t order) refl is was

pub left_in_place : (t : ℕ) (slot : Option Task) (tasks : List (Option Task)) (order since : List ℕ) (old new : WaitTable) → t < length tasks → waits_somewhere slot ≡ false → new ≡ record old { waiters = without_waiter t old.waiters } →
    AreWaits tasks order since old → AreWaits (slice_set tasks t slot) order since new
left_in_place t slot tasks order since old new within idle is was =
    waits_left t tasks (slice_set tasks t slot) order order since since old new (same_but_written t slot tasks) (ap waits_somewhere (entry_written t slot tasks within) ∙ idle) refl refl is was

pub without_twice : (t : ℕ) (order : List ℕ) → without t (without t order) ≡ without t order
without_twice t order = filter_absent (λ u. not (u == t)) t order (ap not (itself t))

pub left_erased : (t : ℕ) (tasks : List (Option Task)) (order left since : List ℕ) (old new : WaitTable) → left ≡ without t order → new ≡ record old { waiters = without_waiter t old.waiters } → AreWaits tasks order since old → AreWaits (slice_set tasks t None) left since new
left_erased t tasks order left since old new out is was =
    waits_left t tasks (slice_set tasks t None) order left since since old new (same_but_written t None tasks) (entry_same (λ slot. waits_somewhere slot ≡ false) tasks t None refl refl) (ap (without t) out ∙ without_twice t order) refl is was

pub since_without : (t : ℕ) (tasks : List (Option Task)) (order since left : List ℕ) (table : WaitTable) → waits_somewhere (entry tasks t) ≡ false → left ≡ without t since → AreWaits tasks order since table → AreWaits tasks order left table
since_without t tasks order since left table idle out was = record {
  objects = was.objects;
  queues = λ object.
      let is = was.queues object in
      let stays = not_queued is.by t object tasks order since (idle_slot (entry tasks t) object idle) in
      let after = queued_left is.by t object tasks tasks order order since left (record { elsewhere = λ n differs. refl }) (idle_slot (entry tasks t) object idle) refl (ap (without t) out ∙ without_twice t since) in
      record {
        by = is.by;
        each = λ u there. each_other t object u is.by tasks tasks order order since left (record { elsewhere = λ n differs. refl }) refl (ap (without t) out ∙ without_twice t since) (other_waits t object u tasks (idle_slot (entry tasks t) object idle) there) (is.each u there);
        stand = is.stand ∙ ap (map (waiter_at tasks object)) (stays ∙ sym after);
      };
}

pub since_back : (t : ℕ) (tasks : List (Option Task)) (order since later : List ℕ) (table : WaitTable) → waits_somewhere (entry tasks t) ≡ false → later ≡ to_back t since → AreWaits tasks order since table → AreWaits tasks order later table
since_back t tasks order since later table idle out was = record {
  objects = was.objects;
  queues = λ object.
      let is = was.queues object in
      let stays = not_queued is.by t object tasks order since (idle_slot (entry tasks t) object idle) in
      let after = queued_left is.by t object tasks tasks order order since later (record { elsewhere = λ n differs. refl }) (idle_slot (entry tasks t) object idle) refl (ap (without t) out ∙ without_back t since) in
      record {
        by = is.by;
        each = λ u there. each_other t object u is.by tasks tasks order order since later (record { elsewhere = λ n differs. refl }) refl (ap (without t) out ∙ without_back t since) (other_waits t object u tasks (idle_slot (entry tasks t) object idle) there) (is.each u there);
        stand = is.stand ∙ ap (map (waiter_at tasks object)) (stays ∙ sym after);
      };
}

pub restamped_to_last : (t : ℕ) (slot : Option Task) (tasks : List (Option Task)) (order moved since : List ℕ) (old new : WaitTable) → t < length tasks → phase_in slot ≡ phase_in (entry tasks t) → queue_in slot ≡ queue_in (entry tasks t) → moved ≡ to_back t order →
    new ≡ record old { waiters = restamped t slot old.waiters } → AreWaits tasks order since old → AreWaits (slice_set tasks t slot) moved since new
restamped_to_last t slot tasks order moved since old new within phase order_same last is was =
    waits_restamped t slot tasks (slice_set tasks t slot) order moved since old new (same_but_written t slot tasks) (entry_written t slot tasks within) phase order_same last is was

pub waits_moved : (t : ℕ) (slot : Option Task) (tasks : List (Option Task)) (order moved since : List ℕ) (old new : WaitTable) → slot ≡ entry tasks t → moved ≡ to_back t order → new ≡ record old { waiters = restamped t slot old.waiters } →
    AreWaits tasks order since old → AreWaits tasks moved since new
waits_moved t slot tasks order moved since old new at last is was =
    waits_restamped t slot tasks tasks order moved since old new (record { elsewhere = λ n differs. refl }) (sym at) (ap phase_in at) (ap queue_in at) last is was

pub may_restamp_own : (t : ℕ) (slot : Option Task) (tasks : List (Option Task)) (order since : List ℕ) (old : WaitTable) → slot ≡ entry tasks t → AreWaits tasks order since old → MayQueue slot old
may_restamp_own t slot tasks order since old at was = may_restamp t slot tasks order since old (ap phase_in at) (ap queue_in at) was

pub waiting_to_last : (t object : ℕ) (by : Order) (k : Task) (tasks : List (Option Task)) (order moved since later : List ℕ) (old new : WaitTable) → t < length tasks → object < most_objects → AllQueue by tasks object → k.phase ≡ Waiting object → k.queue ≡ by → moved ≡ to_back t order → later ≡ to_back t since →
    new ≡ record old { waiters = rewaited t (Some k) old.waiters } → AreWaits tasks order since old → AreWaits (slice_set tasks t (Some k)) moved later new
waiting_to_last t object by k tasks order moved since later old new within low alike phase order_is last latest is was =
    waits_joined t (Some k) tasks (slice_set tasks t (Some k)) order moved since later old new (same_but_written t (Some k) tasks) (entry_written t (Some k) tasks within)
    (wait_joins t object by k tasks order moved since later low alike phase order_is last latest) is was

pub may_wait : (t object : ℕ) (by : Order) (k : Task) (tasks : List (Option Task)) (order since : List ℕ) (old : WaitTable) → object < most_objects → AllQueue by tasks object → k.phase ≡ Waiting object → k.queue ≡ by → AreWaits tasks order since old → MayQueue (Some k) old
may_wait t object by k tasks order since old low alike phase order_is was =
    may_join t (Some k) tasks order (to_back t order) since (to_back t since) old (wait_joins t object by k tasks order (to_back t order) since (to_back t since) low alike phase order_is refl refl) was

-- all tasks that wait for an object queue in one order, by the base and by its parts
pub alike_inside : (inside seen : Base) (by : Order) (object : ℕ) → AreOfOrder by seen object → inside ≡ seen → AllQueue by inside.tasks object
alike_inside inside seen by object all is = (subst (λ (b : Base). AreOfOrder by b object) (sym is) all).alike

-- a row that is one that may join
pub may_as : (slot row : Option Task) (table : WaitTable) → MayQueue slot table → slot ≡ row → MayQueue row table
may_as slot row table may is = subst (λ (s : Option Task). MayQueue s table) is may

pub idle_written : (t : ℕ) (slot : Option Task) (before tasks : List (Option Task)) → tasks ≡ slice_set before t slot → waits_somewhere slot ≡ false → waits_somewhere (entry tasks t) ≡ false
idle_written t slot before tasks is idle = ap (λ (table : List (Option Task)). waits_somewhere (entry table t)) is ∙ entry_same (λ at. waits_somewhere at ≡ false) before t slot idle refl
