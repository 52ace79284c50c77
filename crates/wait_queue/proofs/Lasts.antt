-- Where a waiter stands in its queue after it joined.
use Rattle.std.proofs.Common.{◌≡◌, ℕ, ◌<◌, ◌≤◌, Bool, true, false, nat_lt, List, [], ◌∷◌, ◌++◌, cond, refl, sym, ap, ◌∙◌, subst, arith}
use Rattle.std.specs.List.{AllByRecursion}
use Rattle.std.proofs.lemmas.Bool.{and_parts, eqb-true, ltb-true}
use Rattle.std.proofs.lemmas.Bool.Decides.{nat_tests}
use Rattle.tk_types.specs.declared.task.Order.{Order}
use Rattle.tk_types.specs.declared.task.Order.TheVariants.{Fifo, Priority}
use Rattle.ready_queue.proofs.Found.{here_is}
use Rattle.wait_queue.specs.declared.waiters.Waiter.{Waiter}
use Rattle.wait_queue.specs.Queues.{goes_ahead, is_ahead, is_of_object, is_of_priority, joined, of_priority, queue_of}
use Rattle.wait_queue.specs.Facts.{AreOfOrder, IsInOrder, IsRising, MayFollow, AreInOrder}

own_object : (waiter : Waiter) → is_of_object waiter.object waiter ≡ true
own_object waiter = grind (arith, nat_tests)

own_priority : (waiter : Waiter) → is_of_priority waiter.priority waiter ≡ true
own_priority waiter = grind (arith, nat_tests)

-- a queue of one waiter
own_queue : (waiter : Waiter) (list : List Waiter) → queue_of waiter.object (waiter ∷ list) ≡ waiter ∷ queue_of waiter.object list
own_queue waiter list = here_is (is_of_object waiter.object waiter) waiter (queue_of waiter.object list) (own_object waiter)

push_if : (test : Bool) (first waiter : Waiter) (list passed : List Waiter) → list ≡ passed ++ waiter ∷ [] → cond test (first ∷ list) list ≡ cond test (first ∷ passed) passed ++ waiter ∷ []
push_if true first waiter list passed same = ap (λ l. first ∷ l) same
push_if false first waiter list passed same = same

-- ---- in the order of waiting

no_turn : (waiter first : Waiter) (rest behind : List Waiter) → waiter.order ≡ Fifo → cond (is_ahead waiter first) (waiter ∷ first ∷ rest) (first ∷ behind) ≡ first ∷ behind
no_turn waiter first rest behind order = ap (λ o. cond (goes_ahead o waiter first) (waiter ∷ first ∷ rest) (first ∷ behind)) order

pub joins_at_end : (waiter : Waiter) (list : List Waiter) → waiter.order ≡ Fifo → queue_of waiter.object (joined waiter list) ≡ queue_of waiter.object list ++ waiter ∷ []
joins_at_end waiter [] order = own_queue waiter []
joins_at_end waiter (first ∷ rest) order =
    ap (queue_of waiter.object) (no_turn waiter first rest (joined waiter rest) order)
    ∙ push_if (is_of_object waiter.object first) first waiter (queue_of waiter.object (joined waiter rest)) (queue_of waiter.object rest) (joins_at_end waiter rest order)

-- ---- by priority

rising_rest : (test : Bool) (first : Waiter) (passed : List Waiter) → IsRising (cond test (first ∷ passed) passed) → IsRising passed
rising_rest true first passed rising = rising.1
rising_rest false first passed rising = rising

none_step : (test : Bool) (priority : ℕ) (first : Waiter) (passed : List Waiter) → is_of_priority priority first ≡ test → priority < first.priority → passed ≡ [] → cond test (first ∷ passed) passed ≡ []
none_step true priority first passed is above none = absurd (grind (arith, nat_tests))
none_step false priority first passed is above none = none

-- where each number is greater than this one, none is equal to it
none_equal : (priority high : ℕ) (list : List Waiter) → priority < high → AllByRecursion (λ other. high ≤ other.priority) list → of_priority priority list ≡ []
none_equal priority high [] above all = refl
none_equal priority high (first ∷ rest) above all =
    none_step (is_of_priority priority first) priority first (of_priority priority rest) refl (omega (arith, all.0)) (none_equal priority high rest above all.1)

pushed_step : (test : Bool) (priority : ℕ) (first waiter : Waiter) (list passed : List Waiter) → of_priority priority list ≡ of_priority priority passed ++ waiter ∷ [] →
    of_priority priority (cond test (first ∷ list) list) ≡ of_priority priority (cond test (first ∷ passed) passed) ++ waiter ∷ []
pushed_step true priority first waiter list passed same = push_if (is_of_priority priority first) first waiter (of_priority priority list) (of_priority priority passed) same
pushed_step false priority first waiter list passed same = same

rising_from : (test : Bool) (first : Waiter) (passed : List Waiter) → test ≡ true → IsRising (cond test (first ∷ passed) passed) → AllByRecursion (λ other. first.priority ≤ other.priority) passed
rising_from true first passed is rising = rising.0
rising_from false first passed is rising = absurd (cc is)

ahead_tells : (order : Order) (waiter first : Waiter) → goes_ahead order waiter first ≡ true → (is_of_object waiter.object first ≡ true) × (waiter.priority < first.priority)
ahead_tells Fifo waiter first e = absurd (cc e)
ahead_tells Priority waiter first e =
    let parts = and_parts (is_of_object waiter.object first) (nat_lt waiter.priority first.priority) e in
    (parts.0, ltb-true waiter.priority first.priority parts.1)

last_step : (test : Bool) (waiter first : Waiter) (rest behind : List Waiter) → is_ahead waiter first ≡ test → IsRising (queue_of waiter.object (first ∷ rest)) →
    of_priority waiter.priority (queue_of waiter.object behind) ≡ of_priority waiter.priority (queue_of waiter.object rest) ++ waiter ∷ [] →
    of_priority waiter.priority (queue_of waiter.object (cond test (waiter ∷ first ∷ rest) (first ∷ behind))) ≡ of_priority waiter.priority (queue_of waiter.object (first ∷ rest)) ++ waiter ∷ []
last_step true waiter first rest behind is rising more =
    let tells = ahead_tells waiter.order waiter first is in
    let queue : queue_of waiter.object (first ∷ rest) ≡ first ∷ queue_of waiter.object rest = here_is (is_of_object waiter.object first) first (queue_of waiter.object rest) tells.0 in
    let above : AllByRecursion (λ other. first.priority ≤ other.priority) (queue_of waiter.object rest) = rising_from (is_of_object waiter.object first) first (queue_of waiter.object rest) tells.0 rising in
    let none : of_priority waiter.priority (queue_of waiter.object (first ∷ rest)) ≡ [] =
    ap (of_priority waiter.priority) queue ∙ none_equal waiter.priority first.priority (first ∷ queue_of waiter.object rest) tells.1 (omega arith, above) in
    ap (of_priority waiter.priority) (own_queue waiter (first ∷ rest))
    ∙ here_is (is_of_priority waiter.priority waiter) waiter (of_priority waiter.priority (queue_of waiter.object (first ∷ rest))) (own_priority waiter)
    ∙ ap (λ l. waiter ∷ l) none ∙ sym (ap (λ l. l ++ waiter ∷ []) none)
last_step false waiter first rest behind is rising more =
    pushed_step (is_of_object waiter.object first) waiter.priority first waiter (queue_of waiter.object behind) (queue_of waiter.object rest) more

pub joins_behind_equals : (waiter : Waiter) (list : List Waiter) → IsRising (queue_of waiter.object list) → of_priority waiter.priority (queue_of waiter.object (joined waiter list)) ≡ of_priority waiter.priority (queue_of waiter.object list) ++ waiter ∷ []
joins_behind_equals waiter [] rising =
    ap (of_priority waiter.priority) (own_queue waiter []) ∙ here_is (is_of_priority waiter.priority waiter) waiter [] (own_priority waiter)
joins_behind_equals waiter (first ∷ rest) rising =
    last_step (is_ahead waiter first) waiter first rest (joined waiter rest) refl rising
    (joins_behind_equals waiter rest (rising_rest (is_of_object waiter.object first) first (queue_of waiter.object rest) rising))

-- ---- a queue by priority rises

order_front : (test : Bool) (first : Waiter) (passed : List Waiter) → test ≡ true → AreOfOrder Priority (cond test (first ∷ passed) passed) → first.order ≡ Priority
order_front true first passed is all = all.0
order_front false first passed is all = absurd (cc is)

order_rest : (test : Bool) (first : Waiter) (passed : List Waiter) → AreOfOrder Priority (cond test (first ∷ passed) passed) → AreOfOrder Priority passed
order_rest true first passed all = all.1
order_rest false first passed all = all

above_step : (test : Bool) (object low : ℕ) (first : Waiter) (passed : List Waiter) → is_of_object object first ≡ test → (first.object ≡ object → low ≤ first.priority) → AllByRecursion (λ other. low ≤ other.priority) passed → AllByRecursion (λ other. low ≤ other.priority) (cond test (first ∷ passed) passed)
above_step true object low first passed is front all = (front (eqb-true first.object object is), all)
above_step false object low first passed is front all = all

all_above : (object : ℕ) (front : Waiter) (list : List Waiter) → front.object ≡ object → front.order ≡ Priority → AllByRecursion (MayFollow front) list → AllByRecursion (λ other. front.priority ≤ other.priority) (queue_of object list)
all_above object front [] own order follow = tt
all_above object front (first ∷ rest) own order follow =
    above_step (is_of_object object first) object front.priority first (queue_of object rest) refl
    (λ same. subst (λ (o : Order). IsInOrder o front.priority first.priority) order (follow.0 (same ∙ sym own)).1)
    (all_above object front rest own order follow.1)

rising_step : (test : Bool) (object : ℕ) (first : Waiter) (rest : List Waiter) → is_of_object object first ≡ test → AreOfOrder Priority (cond test (first ∷ queue_of object rest) (queue_of object rest)) →
    AllByRecursion (MayFollow first) rest → IsRising (queue_of object rest) → IsRising (cond test (first ∷ queue_of object rest) (queue_of object rest))
rising_step true object first rest is orders follow rising = (all_above object first rest (eqb-true first.object object is) orders.0 follow, rising)
rising_step false object first rest is orders follow rising = rising

pub queue_rises : (object : ℕ) (list : List Waiter) → AreInOrder list → AreOfOrder Priority (queue_of object list) → IsRising (queue_of object list)
queue_rises object [] ordered orders = tt
queue_rises object (first ∷ rest) ordered orders =
    rising_step (is_of_object object first) object first rest refl orders ordered.0
    (queue_rises object rest ordered.1 (order_rest (is_of_object object first) first (queue_of object rest) orders))
