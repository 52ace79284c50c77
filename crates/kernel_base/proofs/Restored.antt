-- An order whose tasks all take the last place one after another is as it was.
use Rattle.std.proofs.Common.{◌≡◌, ◌≢◌, ℕ, ◌+◌, ◌<◌, ◌≤◌, Bool, true, false, not, cond, List, [], ◌∷◌, ◌++◌, append-nil, append_assoc, length, get_or, take, Option, Some, None, map, refl, arith, ap, subst, sym, ◌∙◌}
use Rattle.std.specs.Bool.{◌==◌}
use Rattle.std.proofs.lemmas.Bool.Decides.{nat_tests}
use Rattle.std.proofs.lemmas.List.Elements.{filter-append}
use Rattle.std.proofs.lemmas.List.Sums.{fold_more}
use Rattle.tk_types.specs.declared.task.Task.{Task}
use Rattle.tk_types.specs.declared.task.Phase.{Phase}
use Rattle.tk_types.specs.declared.task.Phase.TheVariants.{Dormant, Ready, Waiting}
use Rattle.tk_types.specs.declared.task.Order.{Order}
use Rattle.tk_types.specs.declared.task.Order.TheVariants.{Fifo, Priority}
use Rattle.wait_queue.specs.declared.waiters.Waiter.{Waiter}
use Rattle.wait_queue.specs.Queues.{WaitTable, without_waiter}
use Rattle.kernel_model.specs.Words.Orders.{entry, to_back, without}
use Rattle.kernel_model.specs.LawWords.Once.{IsOnce, times}
use Rattle.kernel_model.specs.Tasks.Base.{Base, task_at, waiting_in, waits_in, waits_somewhere, with_task}
use Rattle.kernel_model.specs.Tasks.Queues.{queue_in}
use Rattle.kernel_lemmas.proofs.Once.{times_without}
use Rattle.kernel_lemmas.proofs.Sorting.{here_is}
use Rattle.kernel_base.specs.Waiting.{AreWaits, IsQueue, moved_back, object_of, object_of_phase, queued_in, renewed, renewed_by, rewaited, waiter_at, waits_at}
use Rattle.kernel_base.proofs.WaitLists.{not_queued, queued_left, same_id, times_other}
use Rattle.kernel_base.proofs.Waited.{Joins, stands_back, times_back, waits_joined, waits_left, without_back, without_twice}
use Rattle.kernel_lemmas.proofs.Tables.{itself}

-- ---- an order that is restored

-- the IDs of a list are left out of an order
abbrev left_of : List ℕ → List ℕ → List ℕ
left_of [] order = order
left_of (id ∷ ids) order = left_of ids (without id order)

none_here : (id v n : ℕ) → cond (v == id) 1 0 + n ≡ 0 → not (id == v) ≡ true
none_here id v n none = grind (arith, nat_tests, none)

rest_none : (test : Bool) (n : ℕ) → cond test 1 0 + n ≡ 0 → n ≡ 0
rest_none true n none = absurd (omega arith)
rest_none false n none = omega arith

left_behind : (id : ℕ) (ids order : List ℕ) → times id ids ≡ 0 → left_of ids (order ++ id ∷ []) ≡ left_of ids order ++ id ∷ []
left_behind id [] order none = refl
left_behind id (v ∷ ids) order none =
    ap (left_of ids) (filter-append (λ u. not (u == v)) order (id ∷ []) ∙ ap (λ last. without v order ++ last) (here_is (not (id == v)) id [] (none_here id v (times id ids) none)))
    ∙ left_behind id ids (without v order) (rest_none (v == id) (times id ids) none)

first_once : (id : ℕ) (ids : List ℕ) → IsOnce (id ∷ ids) → times id ids ≡ 0
first_once id ids once = let one = once id in let own = itself id in grind (arith, nat_tests, one, own)

rest_once : (id : ℕ) (ids : List ℕ) → IsOnce (id ∷ ids) → IsOnce ids
rest_once id ids once = λ n. let one = once n in omega arith

moved_is : (ids order : List ℕ) → IsOnce ids → moved_back ids order ≡ left_of ids order ++ ids
moved_is [] order once = sym (append-nil order)
moved_is (id ∷ ids) order once =
    moved_is ids (to_back id order) (rest_once id ids once)
    ∙ (ap (λ list. list ++ ids) (left_behind id ids (without id order) (first_once id ids once)) ∙ append_assoc (left_of ids (without id order)) (id ∷ []) ids)

left_in : (u v : ℕ) (test : Bool) (ids order : List ℕ) → (v == u) ≡ test → (1 ≤ times u order → 1 ≤ times u (v ∷ ids)) → 1 ≤ times u (without v order) → 1 ≤ times u ids
left_in u v true ids order is inside more =
    let own : v ≡ u = same_id v u is in
    let none : times u (without v order) ≡ 0 = subst (λ (n : ℕ). times n (without v order) ≡ 0) own (times_without v order) in
    absurd (omega (arith, none, more))
left_in u v false ids order is inside more =
    let differs : u ≢ v = λ own. grind (arith, nat_tests, is, own) in
    let as_often : times u (without v order) ≡ times u order = times_other u v order (without v order) differs (without_twice v order) in
    let there = inside (omega (arith, as_often, more)) in
    let now = rw is at there in
    omega (arith, now)

none_left : (ids order : List ℕ) → ((u : ℕ) → 1 ≤ times u order → 1 ≤ times u ids) → left_of ids order ≡ []
none_left [] [] inside = refl
none_left [] (u ∷ order) inside = let own = itself u in let there = inside u (grind (arith, nat_tests, own)) in absurd (omega (arith, there))
none_left (v ∷ ids) order inside = none_left ids (without v order) (λ u more. left_in u v (v == u) ids order refl (inside u) more)

inside_back : (t u : ℕ) (test : Bool) (ids : List ℕ) → (u == t) ≡ test → 1 ≤ times t ids → 1 ≤ times u (to_back t ids) → 1 ≤ times u ids
inside_back t u true ids is there more = subst (λ (n : ℕ). 1 ≤ times n ids) (sym (same_id u t is)) there
inside_back t u false ids is there more =
    let differs : u ≢ t = λ own. grind (arith, nat_tests, is, own) in
    let as_often = times_other u t ids (to_back t ids) differs (without_back t ids) in
    omega (arith, as_often, more)

-- where one task took the last place, and then all do in the order of before, that is the order again
pub restored : (t : ℕ) (ids : List ℕ) → IsOnce ids → 1 ≤ times t ids → moved_back ids (to_back t ids) ≡ ids
restored t ids once there = moved_is ids (to_back t ids) once ∙ ap (λ list. list ++ ids) (none_left ids (to_back t ids) (λ u more. inside_back t u (u == t) ids refl there more))

-- ---- one task after another

pub order_more : (first now after : Base) (ids : List ℕ) (place id : ℕ) → place < length ids → now ≡ record first { order = moved_back (take place ids) first.order } → after ≡ record now { order = to_back id now.order } → id ≡ get_or ids place 0 →
    after ≡ record first { order = moved_back (take (place + 1) ids) first.order }
order_more first now after ids place id within is moved at =
    moved ∙ (ap (λ (b : Base). record b { order = to_back id b.order }) is
    ∙ ap (λ (list : List ℕ). record first { order = list }) (ap (λ n. to_back n (moved_back (take place ids) first.order)) at ∙ sym (fold_more (λ list n. to_back n list) first.order ids place 0 within)))

pub since_more : (first now after : Base) (ids : List ℕ) (place id : ℕ) → place < length ids → now ≡ record first { since = moved_back (take place ids) first.since } → after ≡ record now { since = to_back id now.since } → id ≡ get_or ids place 0 →
    after ≡ record first { since = moved_back (take (place + 1) ids) first.since }
since_more first now after ids place id within is moved at =
    moved ∙ (ap (λ (b : Base). record b { since = to_back id b.since }) is
    ∙ ap (λ (list : List ℕ). record first { since = list }) (ap (λ n. to_back n (moved_back (take place ids) first.since)) at ∙ sym (fold_more (λ list n. to_back n list) first.since ids place 0 within)))

-- ---- a task takes the last place by the beginning of its wait

before_joins : (t : ℕ) (k : Task) (tasks : List (Option Task)) (order since : List ℕ) (old : WaitTable) → entry tasks t ≡ Some k → k.queue ≡ Fifo → AreWaits tasks order since old → Joins t (Some k) tasks order order since (to_back t since)
before_joins t k tasks order since old at fifo was =
    let before : (object : ℕ) → waiting_in object (Some k) ≡ true → waits_at tasks object t ≡ true = λ object there. ap (waiting_in object) at ∙ there in
    record {
      others_order = refl;
      others = without_back t since;
      ranks = λ object there. ((was.queues object).each t (before object there)).ranks;
      stands = λ object there. stands_back t since;
      last = λ priority. absurd (cc (fifo, priority));
      latest = λ is. refl;
      below = λ object there. ((was.queues object).each t (before object there)).below;
      alike = λ object there u waits.
          let is = was.queues object in
          (is.each u waits).alike ∙ (sym (is.each t (before object there)).alike ∙ ap queue_in at);
    }

by_priority : (by : Order) (object : ℕ) (tasks : List (Option Task)) (order since later : List ℕ) → by ≡ Priority → queued_in by tasks order since object ≡ queued_in by tasks order later object
by_priority Fifo object tasks order since later is = absurd (cc is)
by_priority Priority object tasks order since later is = refl

priority_ids : (waits : Bool) (t object : ℕ) (tasks : List (Option Task)) (order since : List ℕ) (list : List Waiter) → waits_at tasks object t ≡ waits → queue_in (entry tasks t) ≡ Priority → (is : IsQueue tasks order since list object) →
    queued_in is.by tasks order since object ≡ queued_in is.by tasks order (to_back t since) object
priority_ids true t object tasks order since list at priority is = by_priority is.by object tasks order since (to_back t since) (sym (is.each t at).alike ∙ priority)
priority_ids false t object tasks order since list at priority is =
    not_queued is.by t object tasks order since at
    ∙ sym (queued_left is.by t object tasks tasks order order since (to_back t since) (record { elsewhere = λ n differs. refl }) at refl (without_back t since))

since_priority : (t : ℕ) (tasks : List (Option Task)) (order since : List ℕ) (old : WaitTable) → queue_in (entry tasks t) ≡ Priority → AreWaits tasks order since old → AreWaits tasks order (to_back t since) old
since_priority t tasks order since old priority was = record {
  objects = was.objects;
  queues = λ object. let is = was.queues object in record {
    by = is.by;
    each = λ u there. let had = is.each u there in record { below = had.below; alike = had.alike; ranks = had.ranks; stands = times_back u t (u == t) since refl had.stands };
    stand = is.stand ∙ ap (map (waiter_at tasks object)) (priority_ids (waits_at tasks object t) t object tasks order since old.waiters refl priority is);
  };
}

renewed_if : (by : Order) (t : ℕ) (k : Task) (tasks : List (Option Task)) (order since : List ℕ) (old : WaitTable) → k.queue ≡ by → entry tasks t ≡ Some k → AreWaits tasks order since old → AreWaits tasks order (to_back t since) (record old { waiters = renewed_by by t k old.waiters })
renewed_if Fifo t k tasks order since old by at was =
    waits_joined t (Some k) tasks tasks order order since (to_back t since) old (record old { waiters = rewaited t (Some k) old.waiters }) (record { elsewhere = λ n differs. refl }) at (before_joins t k tasks order since old at by was) refl was
renewed_if Priority t k tasks order since old by at was = since_priority t tasks order since old (ap queue_in at ∙ by) was

renewed_at : (slot : Option Task) (t : ℕ) (tasks : List (Option Task)) (order since : List ℕ) (old : WaitTable) → entry tasks t ≡ slot → AreWaits tasks order since old → AreWaits tasks order (to_back t since) (record old { waiters = renewed t slot old.waiters })
renewed_at None t tasks order since old at was =
    waits_left t tasks tasks order order since (to_back t since) old (record old { waiters = without_waiter t old.waiters }) (record { elsewhere = λ n differs. refl }) (ap waits_somewhere at) refl (without_back t since) refl was
renewed_at (Some k) t tasks order since old at was = renewed_if k.queue t k tasks order since old refl at was

pub waits_renewed : (t : ℕ) (slot : Option Task) (tasks : List (Option Task)) (order since later : List ℕ) (old new : WaitTable) → slot ≡ entry tasks t → later ≡ to_back t since → new ≡ record old { waiters = renewed t slot old.waiters } → AreWaits tasks order since old → AreWaits tasks order later new
waits_renewed t slot tasks order since later old new at last is was =
    subst (λ (ids : List ℕ). AreWaits tasks order ids new) (sym last) (subst (AreWaits tasks order (to_back t since)) (sym is) (renewed_at slot t tasks order since old (sym at) was))

-- ---- a task that waits stands in both orders

waits_by : (phase : Phase) (k : Task) → k.phase ≡ phase → waits_somewhere (Some k) ≡ true → waits_in (object_of_phase phase) phase ≡ true
waits_by Dormant k is waits = absurd (cc (is, waits))
waits_by Ready k is waits = absurd (cc (is, waits))
waits_by (Waiting object) k is waits = itself object

waits_for_one : (slot : Option Task) → waits_somewhere slot ≡ true → waiting_in (object_of slot) slot ≡ true
waits_for_one None waits = absurd (cc waits)
waits_for_one (Some k) waits = waits_by k.phase k refl waits

stand_in : (t : ℕ) (tasks : List (Option Task)) (order since : List ℕ) (table : WaitTable) → waits_somewhere (entry tasks t) ≡ true → AreWaits tasks order since table → (1 ≤ times t order) × (1 ≤ times t since)
stand_in t tasks order since table waits was =
    let is = (was.queues (object_of (entry tasks t))).each t (waits_for_one (entry tasks t) waits) in
    (is.ranks, is.stands)

-- both orders are as they were
pub moved_whole : (t : ℕ) (inside old first mid new : Base) (k : Task) (table : WaitTable) (stamps waits : List ℕ) → inside ≡ old → AreWaits inside.tasks inside.order inside.since table → waits_somewhere (task_at old t) ≡ true → stamps ≡ inside.order → waits ≡ inside.since → IsOnce inside.order → IsOnce inside.since →
    first ≡ record (with_task old t k) { order = to_back t old.order; since = to_back t old.since } → mid ≡ record first { order = moved_back stamps first.order } → new ≡ record mid { since = moved_back waits mid.since } → new ≡ with_task old t k
moved_whole t inside old first mid new k table stamps waits is was there at_order at_since once_order once_since wrote ordered ended =
    let both : (1 ≤ times t old.order) × (1 ≤ times t old.since) = stand_in t old.tasks old.order old.since table there (subst (λ (b : Base). AreWaits b.tasks b.order b.since table) is was) in
    let order : moved_back stamps (to_back t old.order) ≡ old.order =
    ap (λ ids. moved_back ids (to_back t old.order)) (at_order ∙ ap (λ (b : Base). b.order) is) ∙ restored t old.order (subst (λ (b : Base). IsOnce b.order) is once_order) both.0 in
    let since : moved_back waits (to_back t old.since) ≡ old.since =
    ap (λ ids. moved_back ids (to_back t old.since)) (at_since ∙ ap (λ (b : Base). b.since) is) ∙ restored t old.since (subst (λ (b : Base). IsOnce b.since) is once_since) both.1 in
    ended ∙ (ap (λ (b : Base). record b { since = moved_back waits b.since }) (ordered ∙ ap (λ (b : Base). record b { order = moved_back stamps b.order }) wrote)
    ∙ (ap (λ (ids : List ℕ). record (with_task old t k) { order = ids; since = moved_back waits (to_back t old.since) }) order
    ∙ ap (λ (ids : List ℕ). record (with_task old t k) { order = old.order; since = ids }) since))
