-- What holds of the waiters still holds after each call.
use Rattle.std.proofs.Common.{◌≡◌, ℕ, zero, suc, ◌<◌, ◌≤◌, Bool, true, false, not, ◌&&◌, eqb, nat_lt, nat_eq, List, [], ◌∷◌, length, cond, get_or, set, refl, sym, ap, ◌∙◌, subst, arith}
use Rattle.std.specs.List.{filter, remove, IsDistinct, AllByRecursion}
use Rattle.std.proofs.lemmas.Bool.{and_parts, eqb-true, eq-eqb, ltb-true, ltb-false, or_parts}
use Rattle.std.proofs.lemmas.List.{length-map}
use Rattle.tk_types.specs.declared.task.Order.{Order}
use Rattle.tk_types.specs.declared.task.Order.TheVariants.{Fifo, Priority}
use Rattle.ready_queue.proofs.Few.{few_below}
use Rattle.ready_queue.proofs.Keyed.{all_differ, gone, once_filter, without_at}
use Rattle.wait_queue.specs.declared.waiters.Waiter.{Waiter}
use Rattle.wait_queue.specs.Queues.{goes_ahead, is_ahead, is_of_task, is_of_object, joined, queue_of, tasks_of, waits, with_priority, without_waiter}
use Rattle.wait_queue.specs.Facts.{AreOfOrder, IsInOrder, MayFollow, AreInOrder, EachOnce, IsWaitTable}
use Rattle.wait_queue.proofs.Each.{each_at, each_filter, each_joined, each_set, each_so, from_map, to_map}

-- ---- the order of each queue

-- of these waiters those of the waiter's object have its order
abbrev pub HaveOrderOf : Waiter → List Waiter → Type 0
HaveOrderOf waiter list = AllByRecursion (λ other. other.object ≡ waiter.object → other.order ≡ waiter.order) list

same_object : (test : Bool) (first : Waiter) (rest passed : List Waiter) (order : Order) → test ≡ true → AreOfOrder order (cond test (first ∷ passed) passed) → first.order ≡ order
same_object true first rest passed order e all = all.0
same_object false first rest passed order e all = absurd (cc e)

rest_of_order : (test : Bool) (first : Waiter) (passed : List Waiter) (order : Order) → AreOfOrder order (cond test (first ∷ passed) passed) → AreOfOrder order passed
rest_of_order true first passed order all = all.1
rest_of_order false first passed order all = all

-- what is said of a queue, said of all waiters
pub of_queue : (waiter : Waiter) (list : List Waiter) → AreOfOrder waiter.order (queue_of waiter.object list) → HaveOrderOf waiter list
of_queue waiter [] all = tt
of_queue waiter (first ∷ rest) all = (
  (λ same. same_object (is_of_object waiter.object first) first rest (queue_of waiter.object rest) waiter.order (eq-eqb first.object waiter.object same) all),
  of_queue waiter rest (rest_of_order (is_of_object waiter.object first) first (queue_of waiter.object rest) waiter.order all),
)

passes_on : (order : Order) (a b c : ℕ) → IsInOrder order a b → IsInOrder order b c → IsInOrder order a c
passes_on Fifo a b c first second = tt
passes_on Priority a b c first second = omega (arith, first, second)

-- who may follow one that may follow another may follow that one, within an object
follows_on : (waiter first other : Waiter) → first.object ≡ waiter.object → first.order ≡ waiter.order → IsInOrder waiter.order waiter.priority first.priority → MayFollow first other → MayFollow waiter other
follows_on waiter first other same order low follows same_too =
    let step = follows (same_too ∙ sym same) in
    (step.0 ∙ order, passes_on waiter.order waiter.priority first.priority other.priority low (subst (λ (o : Order). IsInOrder o first.priority other.priority) order step.1))

ahead_of : (order : Order) (waiter first : Waiter) → goes_ahead order waiter first ≡ true → (first.object ≡ waiter.object) × IsInOrder order waiter.priority first.priority
ahead_of Fifo waiter first e = absurd (cc e)
ahead_of Priority waiter first e =
    let parts = and_parts (is_of_object waiter.object first) (nat_lt waiter.priority first.priority) e in
    (eqb-true first.object waiter.object parts.0, omega (arith, ltb-true waiter.priority first.priority parts.1))

not_ahead_step : (test : Bool) (a b : ℕ) → test ≡ true → (test && nat_lt a b) ≡ false → b ≤ a
not_ahead_step true a b same e = ltb-false a b e
not_ahead_step false a b same e = absurd (cc same)

behind_of : (order : Order) (waiter first : Waiter) → first.object ≡ waiter.object → goes_ahead order waiter first ≡ false → IsInOrder order first.priority waiter.priority
behind_of Fifo waiter first same e = tt
behind_of Priority waiter first same e = not_ahead_step (is_of_object waiter.object first) waiter.priority first.priority (eq-eqb first.object waiter.object same) e

order_step : (test : Bool) (waiter first : Waiter) (rest behind : List Waiter) → is_ahead waiter first ≡ test →
    (first.object ≡ waiter.object → first.order ≡ waiter.order) → AllByRecursion (MayFollow first) rest → AreInOrder rest →
    (MayFollow first waiter → AllByRecursion (MayFollow first) behind) → AreInOrder behind → AreInOrder (cond test (waiter ∷ first ∷ rest) (first ∷ behind))
order_step true waiter first rest behind is order follow ordered more done =
    let parts = ahead_of waiter.order waiter first is in
    let own : first.order ≡ waiter.order = order parts.0 in
    (((λ same. (own, parts.1)), each_so (MayFollow first) (MayFollow waiter) rest (λ other. follows_on waiter first other parts.0 own parts.1) follow), (follow, ordered))
order_step false waiter first rest behind is order follow ordered more done =
    let follows : MayFollow first waiter = λ same.
    let own : first.order ≡ waiter.order = order (sym same) in
    (sym own, subst (λ (o : Order). IsInOrder o first.priority waiter.priority) (sym own) (behind_of waiter.order waiter first (sym same) is)) in
    (more follows, done)

pub order_joined : (waiter : Waiter) (list : List Waiter) → HaveOrderOf waiter list → AreInOrder list → AreInOrder (joined waiter list)
order_joined waiter [] order ordered = (tt, tt)
order_joined waiter (first ∷ rest) order ordered =
    order_step (is_ahead waiter first) waiter first rest (joined waiter rest) refl order.0 ordered.0 ordered.1
    (λ follows. each_joined (MayFollow first) waiter rest follows ordered.0) (order_joined waiter rest order.1 ordered.1)

order_kept : (test : Bool) (first : Waiter) (passed : List Waiter) → AllByRecursion (MayFollow first) passed → AreInOrder passed → AreInOrder (cond test (first ∷ passed) passed)
order_kept true first passed follow ordered = (follow, ordered)
order_kept false first passed follow ordered = ordered

pub order_filter : (passes : Waiter → Bool) (list : List Waiter) → AreInOrder list → AreInOrder (filter passes list)
order_filter passes [] ordered = tt
order_filter passes (first ∷ rest) ordered =
    order_kept (passes first) first (filter passes rest) (each_filter (MayFollow first) passes rest ordered.0) (order_filter passes rest ordered.1)

-- the waiters of one object have the order of each of them
pub order_of : (list : List Waiter) (at : ℕ) (waiter : Waiter) → AreInOrder list → at < length list → waiter ≡ get_or list at waiter → HaveOrderOf waiter list
order_of [] at waiter ordered within is = absurd (omega arith)
order_of (first ∷ rest) zero waiter ordered within is =
    subst (λ (w : Waiter). HaveOrderOf w (first ∷ rest)) (sym is)
    ((λ same. refl), each_so (MayFollow first) (λ other. other.object ≡ first.object → other.order ≡ first.order) rest (λ other follows same. (follows same).0) ordered.0)
order_of (first ∷ rest) (suc at) waiter ordered within is =
    let follows : MayFollow first waiter = each_at (MayFollow first) rest at waiter ordered.0 (omega arith) is in
    ((λ same. sym (follows (sym same)).0), order_of rest at waiter ordered.1 (omega arith) is)

any_order : (order : Order) (a b : ℕ) → order ≡ Fifo → IsInOrder order a b
any_order order a b is = subst (λ (o : Order). IsInOrder o a b) (sym is) tt

follows_noted : (first waiter : Waiter) (priority : ℕ) → waiter.order ≡ Fifo → MayFollow first waiter → MayFollow first (with_priority priority waiter)
follows_noted first waiter priority order follows same =
    let own : waiter.order ≡ first.order = (follows same).0 in
    (own, any_order first.order first.priority priority (sym own ∙ order))

-- in the order of waiting a priority doesn't count
pub order_noted : (priority : ℕ) (list : List Waiter) (at : ℕ) (waiter : Waiter) → AreInOrder list → at < length list → waiter ≡ get_or list at waiter → waiter.order ≡ Fifo → AreInOrder (set list at (with_priority priority waiter))
order_noted priority [] at waiter ordered within is order = absurd (omega arith)
order_noted priority (first ∷ rest) zero waiter ordered within is order =
    subst (λ (w : Waiter). w.order ≡ Fifo → AreInOrder (with_priority priority w ∷ rest)) (sym is)
    (λ own. (each_so (MayFollow first) (MayFollow (with_priority priority first)) rest (λ other follows same. ((follows same).0, any_order first.order priority other.priority own)) ordered.0, ordered.1))
    order
order_noted priority (first ∷ rest) (suc at) waiter ordered within is order =
    let follows : MayFollow first waiter = each_at (MayFollow first) rest at waiter ordered.0 (omega arith) is in (
      each_set (MayFollow first) rest at (with_priority priority waiter) (follows_noted first waiter priority order follows) ordered.0,
      order_noted priority rest at waiter ordered.1 (omega arith) is order,
    )

-- ---- each task once

once_step : (test : Bool) (waiter first : Waiter) (rest behind : List Waiter) →
    AllByRecursion (λ other. eqb waiter.task other ≡ false) (tasks_of (first ∷ rest)) → EachOnce (first ∷ rest) →
    AllByRecursion (λ other. eqb first.task other ≡ false) (tasks_of behind) → EachOnce behind → EachOnce (cond test (waiter ∷ first ∷ rest) (first ∷ behind))
unfolding IsDistinct
once_step true waiter first rest behind differs once apart put = (differs, once)
once_step false waiter first rest behind differs once apart put = (apart, put)

pub once_joined : (waiter : Waiter) (list : List Waiter) → waits waiter.task list ≡ false → EachOnce list → EachOnce (joined waiter list)
unfolding IsDistinct
once_joined waiter [] outside once = (tt, tt)
once_joined waiter (first ∷ rest) outside once =
    let parts = or_parts (is_of_task waiter.task first) (waits waiter.task rest) outside in
    let of : Waiter → ℕ = λ w. w.task in
    let apart : ℕ → Type 0 = λ other. eqb first.task other ≡ false in
    once_step (is_ahead waiter first) waiter first rest (joined waiter rest) (all_differ (λ (w : Waiter). w.task) waiter.task (first ∷ rest) outside) once
    (to_map of apart (joined waiter rest) (each_joined (λ w. apart w.task) waiter rest parts.0 (from_map of apart rest once.0)))
    (once_joined waiter rest parts.1 once.1)

pub tasks_set : (priority : ℕ) (list : List Waiter) (at : ℕ) (waiter : Waiter) → at < length list → waiter ≡ get_or list at waiter → tasks_of list ≡ tasks_of (set list at (with_priority priority waiter))
tasks_set priority [] at waiter within is = absurd (omega arith)
tasks_set priority (first ∷ rest) zero waiter within is = ap (λ w. w.task ∷ tasks_of rest) (sym is)
tasks_set priority (first ∷ rest) (suc at) waiter within is = ap (λ tasks. first.task ∷ tasks) (tasks_set priority rest at waiter (omega arith) is)

-- ---- the table

pub table_empty : (objects room : ℕ) (list : List Waiter) → 256 ≤ room → list ≡ [] → IsWaitTable objects list room
unfolding IsDistinct
table_empty objects room list enough none =
    subst (λ (l : List Waiter). IsWaitTable objects l room) (sym none) (record { enough = enough; known = tt; ids = tt; once = tt; ordered = tt })

-- a waiter that may join
pub record MayJoin (objects : ℕ) (waiter : Waiter) (list : List Waiter) : Type 0 where
  pub known : waiter.object < objects
  pub id : waiter.task < 256
  pub outside : waits waiter.task list ≡ false
  pub order : HaveOrderOf waiter list

pub table_joined : (objects : ℕ) (waiter : Waiter) (list new : List Waiter) (room now : ℕ) → IsWaitTable objects list room → room ≤ now → MayJoin objects waiter list → new ≡ joined waiter list → IsWaitTable objects new now
table_joined objects waiter list new room now table more may is = subst (λ (l : List Waiter). IsWaitTable objects l now) (sym is) (record {
  enough = omega (arith, table.enough);
  known = each_joined (λ w. w.object < objects) waiter list may.known table.known;
  ids = each_joined (λ w. w.task < 256) waiter list may.id table.ids;
  once = once_joined waiter list may.outside table.once;
  ordered = order_joined waiter list may.order table.ordered;
})

pub table_without : (objects task : ℕ) (list new : List Waiter) (room now : ℕ) → IsWaitTable objects list room → room ≤ now → new ≡ without_waiter task list → IsWaitTable objects new now
table_without objects task list new room now table more is =
    let stays : Waiter → Bool = λ waiter. not (is_of_task task waiter) in
    subst (λ (l : List Waiter). IsWaitTable objects l now) (sym is) (record {
      enough = omega (arith, table.enough);
      known = each_filter (λ w. w.object < objects) stays list table.known;
      ids = each_filter (λ w. w.task < 256) stays list table.ids;
      once = once_filter (λ (w : Waiter). w.task) stays list table.once;
      ordered = order_filter stays list table.ordered;
    })

pub table_noted : (objects priority : ℕ) (list new : List Waiter) (at : ℕ) (waiter noted : Waiter) (room now : ℕ) → IsWaitTable objects list room → room ≤ now → at < length list → waiter ≡ get_or list at waiter → waiter.order ≡ Fifo → noted ≡ with_priority priority waiter → new ≡ set list at noted → IsWaitTable objects new now
table_noted objects priority list new at waiter noted room now table more within is order has set_at =
    let after : Waiter = with_priority priority waiter in
    subst (λ (l : List Waiter). IsWaitTable objects l now) (sym (set_at ∙ ap (set list at) has)) (record {
      enough = omega (arith, table.enough);
      known = each_set (λ w. w.object < objects) list at after (each_at (λ w. w.object < objects) list at waiter table.known within is) table.known;
      ids = each_set (λ w. w.task < 256) list at after (each_at (λ w. w.task < 256) list at waiter table.ids within is) table.ids;
      once = subst (IsDistinct nat_eq) (tasks_set priority list at waiter within is) table.once;
      ordered = order_noted priority list at waiter table.ordered within is order;
    })

-- a waiter that is taken out may join again, whatever its priority
may_join_again : (objects priority : ℕ) (list : List Waiter) (at : ℕ) (waiter : Waiter) (room : ℕ) → IsWaitTable objects list room → at < length list → waiter ≡ get_or list at waiter → MayJoin objects (with_priority priority waiter) (without_waiter waiter.task list)
may_join_again objects priority list at waiter room table within is = record {
  known = each_at (λ w. w.object < objects) list at waiter table.known within is;
  id = each_at (λ w. w.task < 256) list at waiter table.ids within is;
  outside = gone (λ (w : Waiter). w.task) waiter.task list;
  order = each_filter (λ other. other.object ≡ waiter.object → other.order ≡ waiter.order) (λ other. not (is_of_task waiter.task other)) list (order_of list at waiter table.ordered within is);
}

pub table_moved : (objects priority : ℕ) (list left new : List Waiter) (at : ℕ) (waiter moved : Waiter) (room now : ℕ) → IsWaitTable objects list room → room ≤ now → at < length list → waiter ≡ get_or list at waiter → moved ≡ with_priority priority waiter → left ≡ remove list at → new ≡ joined moved left → IsWaitTable objects new now
table_moved objects priority list left new at waiter moved room now table more within is has taken put =
    let same : left ≡ without_waiter waiter.task list = taken ∙ without_at (λ (w : Waiter). w.task) list at waiter table.once within is in
    table_joined objects (with_priority priority waiter) (without_waiter waiter.task list) new room now
    (table_without objects waiter.task list (without_waiter waiter.task list) room room table (omega arith) refl) more
    (may_join_again objects priority list at waiter room table within is)
    (put ∙ (ap (λ w. joined w left) has ∙ ap (joined (with_priority priority waiter)) same))

-- no more tasks wait than there are IDs
pub table_fits : (objects room : ℕ) (list : List Waiter) → IsWaitTable objects list room → length list ≤ 256
table_fits objects room list table =
    omega (arith, few_below 256 (tasks_of list) (to_map (λ (w : Waiter). w.task) (λ task. task < 256) list table.ids) table.once, length-map list (λ (w : Waiter). w.task))

-- while a task doesn't wait, there is room for it
pub table_room : (objects task room : ℕ) (list : List Waiter) → IsWaitTable objects list room → task < 256 → waits task list ≡ false → length list < room
unfolding IsDistinct
table_room objects task room list table id outside =
    omega (arith, table.enough, few_below 256 (task ∷ tasks_of list) (id, to_map (λ (w : Waiter). w.task) (λ task. task < 256) list table.ids) (all_differ (λ (w : Waiter). w.task) task list outside, table.once), length-map list (λ (w : Waiter). w.task))
