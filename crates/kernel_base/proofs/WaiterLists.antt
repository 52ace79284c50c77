-- The queue of the tasks that wait, as the tasks of a table.
use Rattle.std.proofs.Common.{◌≡◌, ◌≢◌, ℕ, Bool, true, false, not, ◌&&◌, nat_lt, cond, List, [], ◌∷◌, ◌++◌, Option, Some, None, map, refl, arith, ap, subst, sym, ◌∙◌}
use Rattle.std.specs.Bool.{◌==◌}
use Rattle.std.specs.List.{AllByRecursion}
use Rattle.std.specs.Prelude.{filter, slice_get}
use Rattle.std.proofs.lemmas.Bool.{and_parts}
use Rattle.std.proofs.lemmas.Bool.Decides.{nat_tests}
use Rattle.tk_types.specs.declared.task.Task.{Task}
use Rattle.tk_types.specs.declared.task.Phase.{Phase}
use Rattle.tk_types.specs.declared.task.Phase.TheVariants.{Dormant, Ready, Waiting}
use Rattle.tk_types.specs.declared.task.Order.{Order}
use Rattle.tk_types.specs.declared.task.Order.TheVariants.{Fifo, Priority}
use Rattle.wait_queue.specs.declared.waiters.Waiter.{Waiter}
use Rattle.wait_queue.specs.Queues.{first_moved, first_task, goes_ahead, is_ahead, is_of_object, is_of_task, joined, moved, next_waiter, noted, queue_of, reordered, waits, with_priority, without_waiter}
use Rattle.wait_queue.proofs.Others.{join_keeps_others, leaves_queue}
use Rattle.ready_queue.proofs.Found.{here_is, not_here}
use Rattle.kernel_model.specs.Words.Orders.{entry, insert_behind, without}
use Rattle.kernel_model.specs.Tasks.Base.{waiting_in, waits_in}
use Rattle.kernel_model.specs.Tasks.Queues.{queue_in}
use Rattle.kernel_lemmas.proofs.ReadyLists.{AreSameBut}
use Rattle.kernel_lemmas.proofs.Tables.{itself}
use Rattle.kernel_base.specs.Queues.{behind}
use Rattle.kernel_base.specs.Waiting.{priority_at, rewaited, waiter_as, waiter_at}
use Rattle.kernel_base.proofs.WaitLists.{differs_of, placed, same_id}

-- ---- choices

map_cond : {A B : Type 0} (f : A → B) (b : Bool) (xs ys : List A) → map f (cond b xs ys) ≡ cond b (map f xs) (map f ys)
map_cond f true xs ys = refl
map_cond f false xs ys = refl

both_same : {A : Type 0} (b : Bool) (x y z w : A) → x ≡ z → y ≡ w → cond b x y ≡ cond b z w
both_same true x y z w first second = first
both_same false x y z w first second = second

when_false : {A : Type 0} (b : Bool) (x y : A) → b ≡ false → cond b x y ≡ y
when_false true x y is = absurd (cc is)
when_false false x y is = refl

-- ---- a task is left out

left_step : (b : Bool) (id : ℕ) (left : List ℕ) (rest : List Waiter) (tasks : List (Option Task)) (object : ℕ) → map (waiter_at tasks object) left ≡ rest →
    map (waiter_at tasks object) (cond b (id ∷ left) left) ≡ cond b (waiter_at tasks object id ∷ rest) rest
left_step true id left rest tasks object same = ap (λ list. waiter_at tasks object id ∷ list) same
left_step false id left rest tasks object same = same

waiters_left : (tasks : List (Option Task)) (object t : ℕ) (ids : List ℕ) → map (waiter_at tasks object) (without t ids) ≡ without_waiter t (map (waiter_at tasks object) ids)
waiters_left tasks object t [] = refl
waiters_left tasks object t (id ∷ ids) = left_step (not (id == t)) id (without t ids) (without_waiter t (map (waiter_at tasks object) ids)) tasks object (waiters_left tasks object t ids)

elsewhere_step : (b : Bool) (id t : ℕ) (left : List ℕ) (tasks changed : List (Option Task)) (object : ℕ) → not (id == t) ≡ b → AreSameBut t tasks changed → map (waiter_at changed object) left ≡ map (waiter_at tasks object) left →
    map (waiter_at changed object) (cond b (id ∷ left) left) ≡ map (waiter_at tasks object) (cond b (id ∷ left) left)
elsewhere_step true id t left tasks changed object is same more =
    ap (λ (slot : Option Task). waiter_as object id slot ∷ map (waiter_at changed object) left) (same.elsewhere id (differs_of id t is)) ∙ ap (λ list. waiter_at tasks object id ∷ list) more
elsewhere_step false id t left tasks changed object is same more = more

waiters_elsewhere : (t object : ℕ) (ids : List ℕ) (tasks changed : List (Option Task)) → AreSameBut t tasks changed → map (waiter_at changed object) (without t ids) ≡ map (waiter_at tasks object) (without t ids)
waiters_elsewhere t object [] tasks changed same = refl
waiters_elsewhere t object (id ∷ ids) tasks changed same = elsewhere_step (not (id == t)) id t (without t ids) tasks changed object refl same (waiters_elsewhere t object ids tasks changed same)

-- the queue of an object without a task, by the table before its slot was written and by the one after
pub queue_without : (t object : ℕ) (ids : List ℕ) (list : List Waiter) (tasks changed : List (Option Task)) → AreSameBut t tasks changed → queue_of object list ≡ map (waiter_at tasks object) ids →
    queue_of object (without_waiter t list) ≡ map (waiter_at changed object) (without t ids)
queue_without t object ids list tasks changed same stand =
    leaves_queue t object list ∙ (ap (without_waiter t) stand ∙ (sym (waiters_left tasks object t ids) ∙ sym (waiters_elsewhere t object ids tasks changed same)))

-- ---- a task joins

ahead_same : (order : Order) (waiter first : Waiter) → goes_ahead order waiter first ≡ true → is_of_object waiter.object first ≡ true
ahead_same Fifo waiter first is = absurd (cc is)
ahead_same Priority waiter first is = (and_parts (is_of_object waiter.object first) (nat_lt waiter.priority first.priority) is).0

joined_step : (ahead own : Bool) (waiter first : Waiter) (rest behind : List Waiter) → is_ahead waiter first ≡ ahead → is_of_object waiter.object first ≡ own → queue_of waiter.object behind ≡ joined waiter (queue_of waiter.object rest) →
    queue_of waiter.object (cond ahead (waiter ∷ first ∷ rest) (first ∷ behind)) ≡ joined waiter (cond own (first ∷ queue_of waiter.object rest) (queue_of waiter.object rest))
joined_step true true waiter first rest behind is own same =
    here_is (is_of_object waiter.object waiter) waiter (queue_of waiter.object (first ∷ rest)) (itself waiter.object)
    ∙ (ap (λ list. waiter ∷ list) (here_is (is_of_object waiter.object first) first (queue_of waiter.object rest) own)
    ∙ sym (ap (λ b. cond b (waiter ∷ first ∷ queue_of waiter.object rest) (first ∷ joined waiter (queue_of waiter.object rest))) is))
joined_step true false waiter first rest behind is own same = let there = ahead_same waiter.order waiter first is in absurd (cc (there, own))
joined_step false true waiter first rest behind is own same =
    here_is (is_of_object waiter.object first) first (queue_of waiter.object behind) own
    ∙ (ap (λ list. first ∷ list) same
    ∙ sym (ap (λ b. cond b (waiter ∷ first ∷ queue_of waiter.object rest) (first ∷ joined waiter (queue_of waiter.object rest))) is))
joined_step false false waiter first rest behind is own same = not_here (is_of_object waiter.object first) first (queue_of waiter.object behind) own ∙ same

-- a waiter that joins joins its queue
joined_queue : (waiter : Waiter) (list : List Waiter) → queue_of waiter.object (joined waiter list) ≡ joined waiter (queue_of waiter.object list)
joined_queue waiter [] = here_is (is_of_object waiter.object waiter) waiter [] (itself waiter.object)
joined_queue waiter (first ∷ rest) = joined_step (is_ahead waiter first) (is_of_object waiter.object first) waiter first rest (joined waiter rest) refl refl (joined_queue waiter rest)

joined_last : (waiter : Waiter) (tasks : List (Option Task)) (object t : ℕ) (ids : List ℕ) → waiter ≡ waiter_at tasks object t → waiter.order ≡ Fifo → joined waiter (map (waiter_at tasks object) ids) ≡ map (waiter_at tasks object) (ids ++ t ∷ [])
joined_last waiter tasks object t [] is order = ap (λ (w : Waiter). w ∷ []) is
joined_last waiter tasks object t (id ∷ ids) is order =
    let first : Waiter = waiter_at tasks object id in
    when_false (is_ahead waiter first) (waiter ∷ first ∷ map (waiter_at tasks object) ids) (first ∷ joined waiter (map (waiter_at tasks object) ids)) (ap (λ o. goes_ahead o waiter first) order)
    ∙ ap (λ list. first ∷ list) (joined_last waiter tasks object t ids is order)

ahead_by : (waiter first : Waiter) (tasks : List (Option Task)) (object t id : ℕ) → waiter ≡ waiter_at tasks object t → first ≡ waiter_at tasks object id → waiter.order ≡ Priority → is_ahead waiter first ≡ nat_lt (priority_at tasks t) (priority_at tasks id)
ahead_by waiter first tasks object t id is at order =
    ap (λ o. goes_ahead o waiter first) order
    ∙ (ap (λ (w : Waiter). goes_ahead Priority w first) is
    ∙ (ap (λ (w : Waiter). goes_ahead Priority (waiter_at tasks object t) w) at
    ∙ ap (λ b. b && nat_lt (priority_at tasks t) (priority_at tasks id)) (itself object)))

joined_behind : (waiter : Waiter) (tasks : List (Option Task)) (object t : ℕ) (ids : List ℕ) → waiter ≡ waiter_at tasks object t → waiter.order ≡ Priority →
    joined waiter (map (waiter_at tasks object) ids) ≡ map (waiter_at tasks object) (insert_behind (priority_at tasks) t ids)
joined_behind waiter tasks object t [] is order = ap (λ (w : Waiter). w ∷ []) is
joined_behind waiter tasks object t (id ∷ ids) is order =
    let first : Waiter = waiter_at tasks object id in
    let rest : List Waiter = map (waiter_at tasks object) ids in
    let test : Bool = nat_lt (priority_at tasks t) (priority_at tasks id) in
    ap (λ b. cond b (waiter ∷ first ∷ rest) (first ∷ joined waiter rest)) (ahead_by waiter first tasks object t id is refl order)
    ∙ (both_same test (waiter ∷ first ∷ rest) (first ∷ joined waiter rest) (map (waiter_at tasks object) (t ∷ id ∷ ids)) (map (waiter_at tasks object) (id ∷ insert_behind (priority_at tasks) t ids))
    (ap (λ (w : Waiter). w ∷ first ∷ rest) is) (ap (λ list. first ∷ list) (joined_behind waiter tasks object t ids is order))
    ∙ sym (map_cond (waiter_at tasks object) test (t ∷ id ∷ ids) (id ∷ insert_behind (priority_at tasks) t ids)))

joined_as : (by : Order) (tasks : List (Option Task)) (object t : ℕ) (ids : List ℕ) → queue_in (entry tasks t) ≡ by → joined (waiter_at tasks object t) (map (waiter_at tasks object) ids) ≡ map (waiter_at tasks object) (placed by (priority_at tasks) t ids)
joined_as Fifo tasks object t ids order = joined_last (waiter_at tasks object t) tasks object t ids refl order
joined_as Priority tasks object t ids order = joined_behind (waiter_at tasks object t) tasks object t ids refl order

rewaited_to : (phase : Phase) (object t : ℕ) (k : Task) (list : List Waiter) → k.phase ≡ phase → waits_in object phase ≡ true → queue_of object (rewaited t (Some k) list) ≡ joined (waiter_as object t (Some k)) (queue_of object (without_waiter t list))
rewaited_to Dormant object t k list is waits = absurd (cc waits)
rewaited_to Ready object t k list is waits = absurd (cc waits)
rewaited_to (Waiting other) object t k list is waits =
    let own : other ≡ object = same_id other object waits in
    rw is (subst (λ (o : ℕ). queue_of o (joined (waiter_as other t (Some k)) (without_waiter t list)) ≡ joined (waiter_as o t (Some k)) (queue_of o (without_waiter t list))) own (joined_queue (waiter_as other t (Some k)) (without_waiter t list)))

rewaited_here : (slot : Option Task) (object t : ℕ) (list : List Waiter) → waiting_in object slot ≡ true → queue_of object (rewaited t slot list) ≡ joined (waiter_as object t slot) (queue_of object (without_waiter t list))
rewaited_here None object t list waits = absurd (cc waits)
rewaited_here (Some k) object t list waits = rewaited_to k.phase object t k list refl waits

differs_from : (other object : ℕ) → (other == object) ≡ false → other ≢ object
differs_from other object is = λ same. grind (arith, nat_tests, is, same)

rewaited_off : (phase : Phase) (object t : ℕ) (k : Task) (list : List Waiter) → k.phase ≡ phase → waits_in object phase ≡ false → queue_of object (rewaited t (Some k) list) ≡ queue_of object (without_waiter t list)
rewaited_off Dormant object t k list is idle = rw is refl
rewaited_off Ready object t k list is idle = rw is refl
rewaited_off (Waiting other) object t k list is idle = rw is (join_keeps_others (waiter_as other t (Some k)) object (without_waiter t list) (differs_from other object idle))

-- the queue of an object for which the row doesn't wait
pub rewaited_elsewhere : (slot : Option Task) (object t : ℕ) (list : List Waiter) → waiting_in object slot ≡ false → queue_of object (rewaited t slot list) ≡ queue_of object (without_waiter t list)
rewaited_elsewhere None object t list idle = refl
rewaited_elsewhere (Some k) object t list idle = rewaited_off k.phase object t k list refl idle

-- the queue of the object for which it waits
pub rewaited_queue : (by : Order) (slot : Option Task) (t object : ℕ) (ids : List ℕ) (list : List Waiter) (tasks changed : List (Option Task)) → AreSameBut t tasks changed → entry changed t ≡ slot → waiting_in object slot ≡ true → queue_in slot ≡ by →
    queue_of object list ≡ map (waiter_at tasks object) ids → queue_of object (rewaited t slot list) ≡ map (waiter_at changed object) (placed by (priority_at changed) t (without t ids))
rewaited_queue by slot t object ids list tasks changed same at waits order stand =
    rewaited_here slot object t list waits
    ∙ (ap (λ (s : Option Task). joined (waiter_as object t s) (queue_of object (without_waiter t list))) (sym at)
    ∙ (ap (joined (waiter_at changed object t)) (queue_without t object ids list tasks changed same stand)
    ∙ joined_as by changed object t (without t ids) (ap queue_in at ∙ order)))

-- ---- a priority is noted

noted_step : (first after : Waiter) (rest passed : List Waiter) (object : ℕ) → is_of_object object after ≡ is_of_object object first → queue_of object rest ≡ passed →
    queue_of object (after ∷ rest) ≡ cond (is_of_object object first) (after ∷ passed) passed
noted_step first after rest passed object same more = ap (λ b. cond b (after ∷ queue_of object rest) (queue_of object rest)) same ∙ ap (λ list. cond (is_of_object object first) (after ∷ list) list) more

noted_object : (test : Bool) (priority object : ℕ) (first : Waiter) → is_of_object object (cond test (with_priority priority first) first) ≡ is_of_object object first
noted_object true priority object first = refl
noted_object false priority object first = refl

noted_cond : (b : Bool) (task priority : ℕ) (first : Waiter) (passed : List Waiter) → noted task priority (cond b (first ∷ passed) passed) ≡ cond b (cond (is_of_task task first) (with_priority priority first) first ∷ noted task priority passed) (noted task priority passed)
noted_cond true task priority first passed = refl
noted_cond false task priority first passed = refl

noted_queue : (task priority object : ℕ) (list : List Waiter) → queue_of object (noted task priority list) ≡ noted task priority (queue_of object list)
noted_queue task priority object [] = refl
noted_queue task priority object (first ∷ rest) =
    noted_step first (cond (is_of_task task first) (with_priority priority first) first) (noted task priority rest) (noted task priority (queue_of object rest)) object (noted_object (is_of_task task first) priority object first) (noted_queue task priority object rest)
    ∙ sym (noted_cond (is_of_object object first) task priority first (queue_of object rest))

noted_one : (test : Bool) (t priority object id : ℕ) (tasks changed : List (Option Task)) → (id == t) ≡ test → AreSameBut t tasks changed → queue_in (entry changed t) ≡ queue_in (entry tasks t) → priority ≡ priority_at changed t →
    cond test (with_priority priority (waiter_at tasks object id)) (waiter_at tasks object id) ≡ waiter_at changed object id
noted_one true t priority object id tasks changed is same order current =
    let own : id ≡ t = same_id id t is in
    let queue : queue_in (entry changed id) ≡ queue_in (entry tasks id) = subst (λ (n : ℕ). queue_in (entry changed n) ≡ queue_in (entry tasks n)) (sym own) order in
    let now : priority ≡ priority_at changed id = current ∙ ap (priority_at changed) (sym own) in
    rw (queue, now) refl
noted_one false t priority object id tasks changed is same order current =
    let differs : id ≢ t = differs_of id t (ap not is) in sym (ap (waiter_as object id) (same.elsewhere id differs))

noted_waiters : (t priority object : ℕ) (ids : List ℕ) (tasks changed : List (Option Task)) → AreSameBut t tasks changed → queue_in (entry changed t) ≡ queue_in (entry tasks t) → priority ≡ priority_at changed t →
    noted t priority (map (waiter_at tasks object) ids) ≡ map (waiter_at changed object) ids
noted_waiters t priority object [] tasks changed same order current = refl
noted_waiters t priority object (id ∷ ids) tasks changed same order current =
    let here = noted_one (id == t) t priority object id tasks changed refl same order current in
    let more = noted_waiters t priority object ids tasks changed same order current in
    rw (here, more) refl

-- the queue of an object after a task's priority was noted
pub noted_stand : (t priority object : ℕ) (ids : List ℕ) (list : List Waiter) (tasks changed : List (Option Task)) → AreSameBut t tasks changed → queue_in (entry changed t) ≡ queue_in (entry tasks t) → priority ≡ priority_at changed t →
    queue_of object list ≡ map (waiter_at tasks object) ids → queue_of object (noted t priority list) ≡ map (waiter_at changed object) ids
noted_stand t priority object ids list tasks changed same order current stand =
    noted_queue t priority object list ∙ (ap (noted t priority) stand ∙ noted_waiters t priority object ids tasks changed same order current)

-- a task whose waiters stand in queues by the beginning of the waits is noted where it stands
first_noted : (firsts list : List Waiter) (t priority : ℕ) → filter (is_of_task t) list ≡ firsts → AllByRecursion (λ (w : Waiter). w.order ≡ Fifo) firsts → AllByRecursion (λ (w : Waiter). w.task ≡ t) firsts → (firsts ≡ [] → list ≡ noted t priority list) → first_moved firsts priority list ≡ noted t priority list
first_noted [] list t priority is order own none = none refl
first_noted (first ∷ rest) list t priority is order own none =
    ap (λ o. moved o first priority list) order.0 ∙ ap (λ n. noted n priority list) own.0

none_noted_step : (test : Bool) (priority : ℕ) (first : Waiter) (passed rest after : List Waiter) → cond test (first ∷ passed) passed ≡ [] → (passed ≡ [] → rest ≡ after) → first ∷ rest ≡ cond test (with_priority priority first) first ∷ after
none_noted_step true priority first passed rest after none same = absurd (cc none)
none_noted_step false priority first passed rest after none same = ap (λ list. first ∷ list) (same none)

none_noted : (t priority : ℕ) (list : List Waiter) → filter (is_of_task t) list ≡ [] → list ≡ noted t priority list
none_noted t priority [] none = refl
none_noted t priority (first ∷ rest) none = none_noted_step (is_of_task t first) priority first (filter (is_of_task t) rest) rest (noted t priority rest) none (none_noted t priority rest)

own_kept : (P : Waiter → Type 0) (test : Bool) (first : Waiter) (passed : List Waiter) → (test ≡ true → P first) → AllByRecursion P passed → AllByRecursion P (cond test (first ∷ passed) passed)
own_kept P true first passed here all = (here refl, all)
own_kept P false first passed here all = all

own_each : (t : ℕ) (list : List Waiter) → AllByRecursion (λ (w : Waiter). w.task ≡ t) (filter (is_of_task t) list)
own_each t [] = tt
own_each t (first ∷ rest) = own_kept (λ (w : Waiter). w.task ≡ t) (is_of_task t first) first (filter (is_of_task t) rest) (λ is. same_id first.task t is) (own_each t rest)

so_each : (P : Waiter → Type 0) (t : ℕ) (list : List Waiter) → AllByRecursion (λ (w : Waiter). w.task ≡ t → P w) list → AllByRecursion P (filter (is_of_task t) list)
so_each P t [] all = tt
so_each P t (first ∷ rest) all = own_kept P (is_of_task t first) first (filter (is_of_task t) rest) (λ is. all.0 (same_id first.task t is)) (so_each P t rest all.1)

pub reordered_noted : (t priority : ℕ) (list : List Waiter) → AllByRecursion (λ (w : Waiter). w.task ≡ t → w.order ≡ Fifo) list → reordered t priority list ≡ noted t priority list
reordered_noted t priority list all = first_noted (filter (is_of_task t) list) list t priority refl (so_each (λ (w : Waiter). w.order ≡ Fifo) t list all) (own_each t list) (λ none. none_noted t priority list none)

-- ---- what holds of each queue holds of all waiters

queue_rest : (P : Waiter → Type 0) (test : Bool) (first : Waiter) (passed : List Waiter) → AllByRecursion P (cond test (first ∷ passed) passed) → AllByRecursion P passed
queue_rest P true first passed all = all.1
queue_rest P false first passed all = all

queue_first : (P : Waiter → Type 0) (test : Bool) (first : Waiter) (passed : List Waiter) → test ≡ true → AllByRecursion P (cond test (first ∷ passed) passed) → P first
queue_first P true first passed is all = all.0
queue_first P false first passed is all = absurd (cc is)

pub each_of_queues : (P : Waiter → Type 0) (list : List Waiter) → ((object : ℕ) → AllByRecursion P (queue_of object list)) → AllByRecursion P list
each_of_queues P [] all = tt
each_of_queues P (first ∷ rest) all = (
  queue_first P (is_of_object first.object first) first (queue_of first.object rest) (itself first.object) (all first.object),
  each_of_queues P rest (λ object. queue_rest P (is_of_object object first) first (queue_of object rest) (all object)),
)

pub all_waiters : (P : Waiter → Type 0) (tasks : List (Option Task)) (object : ℕ) (ids : List ℕ) → AllByRecursion (λ u. P (waiter_at tasks object u)) ids → AllByRecursion P (map (waiter_at tasks object) ids)
all_waiters P tasks object [] all = tt
all_waiters P tasks object (id ∷ ids) all = (all.0, all_waiters P tasks object ids all.1)

-- ---- who stands in front

pub first_stands : (tasks : List (Option Task)) (object : ℕ) (ids : List ℕ) → first_task (map (waiter_at tasks object) ids) ≡ slice_get ids 0
first_stands tasks object [] = refl
first_stands tasks object (id ∷ ids) = refl

-- the waiters behind a task
abbrev behind_waiter : ℕ → List Waiter → List Waiter
behind_waiter t [] = []
behind_waiter t (first ∷ rest) = cond (is_of_task t first) rest (behind_waiter t rest)

same_test : (id t : ℕ) → id ≡ t → (id == t) ≡ true
same_test id t same = grind (arith, nat_tests, same)

behind_step : (test own : Bool) (t object : ℕ) (first : Waiter) (rest : List Waiter) → is_of_task t first ≡ test → is_of_object object first ≡ own → (first.task ≡ t → first.object ≡ object) → next_waiter t rest ≡ first_task (behind_waiter t (queue_of object rest)) →
    cond test (first_task (queue_of first.object rest)) (next_waiter t rest) ≡ first_task (behind_waiter t (cond own (first ∷ queue_of object rest) (queue_of object rest)))
behind_step true true t object first rest is at own same =
    ap (λ o. first_task (queue_of o rest)) (own (same_id first.task t is))
    ∙ sym (ap (λ b. first_task (cond b (queue_of object rest) (behind_waiter t (queue_of object rest)))) is)
behind_step true false t object first rest is at own same = let there = same_test first.object object (own (same_id first.task t is)) in absurd (cc (there, at))
behind_step false true t object first rest is at own same = same ∙ sym (ap (λ b. first_task (cond b (queue_of object rest) (behind_waiter t (queue_of object rest)))) is)
behind_step false false t object first rest is at own same = same

next_by_queue : (t object : ℕ) (list : List Waiter) → AllByRecursion (λ (w : Waiter). w.task ≡ t → w.object ≡ object) list → next_waiter t list ≡ first_task (behind_waiter t (queue_of object list))
next_by_queue t object [] all = refl
next_by_queue t object (first ∷ rest) all = behind_step (is_of_task t first) (is_of_object object first) t object first rest refl refl all.0 (next_by_queue t object rest all.1)

behind_stand : (t object : ℕ) (tasks : List (Option Task)) (ids : List ℕ) → behind_waiter t (map (waiter_at tasks object) ids) ≡ map (waiter_at tasks object) (behind t ids)
behind_stand t object tasks [] = refl
behind_stand t object tasks (id ∷ ids) =
    both_same (id == t) (map (waiter_at tasks object) ids) (behind_waiter t (map (waiter_at tasks object) ids)) (map (waiter_at tasks object) ids) (map (waiter_at tasks object) (behind t ids)) refl (behind_stand t object tasks ids)
    ∙ sym (map_cond (waiter_at tasks object) (id == t) ids (behind t ids))

-- the first task behind one is the first one behind it in the queue of its object
pub next_stands : (t object : ℕ) (tasks : List (Option Task)) (ids : List ℕ) (list : List Waiter) → AllByRecursion (λ (w : Waiter). w.task ≡ t → w.object ≡ object) list → queue_of object list ≡ map (waiter_at tasks object) ids → next_waiter t list ≡ slice_get (behind t ids) 0
next_stands t object tasks ids list all stand =
    next_by_queue t object list all ∙ (ap (λ l. first_task (behind_waiter t l)) stand ∙ (ap first_task (behind_stand t object tasks ids) ∙ first_stands tasks object (behind t ids)))
