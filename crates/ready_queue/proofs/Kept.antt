-- What holds of the list of the ready tasks still holds after each call.
use Rattle.std.proofs.Common.{◌≡◌, ℕ, ◌<◌, ◌≤◌, Bool, true, false, not, eqb, List, [], ◌∷◌, length, cond, map, refl, sym, subst, arith}
use Rattle.std.specs.List.{filter, IsDistinct, AllByRecursion}
use Rattle.std.proofs.lemmas.Bool.{or_parts, ltb-true, ltb-false}
use Rattle.std.proofs.lemmas.List.{length-map}
use Rattle.ready_queue.specs.declared.places.ReadyTask.{ReadyTask}
use Rattle.ready_queue.specs.Queue.{is_below, is_of_priority, is_of_task, holds_task, put_behind, without_task, places_of, rotated, first_goes_behind, tasks_of}
use Rattle.ready_queue.specs.Facts.{AllFrom, IsRising, EachOnce, IsReadyQueue}
use Rattle.ready_queue.proofs.Keyed.{all_differ, all_filter, gone, once_filter}
use Rattle.ready_queue.proofs.Few.{few_below}

-- ---- a fact of each place

all_step : {X : Type 0} (of : ReadyTask → X) (P : X → Type 0) (test : Bool) (place first : ReadyTask) (rest behind : List ReadyTask) →
    P (of place) → P (of first) → AllByRecursion P (map of rest) → AllByRecursion P (map of behind) → AllByRecursion P (map of (cond test (place ∷ first ∷ rest) (first ∷ behind)))
all_step of P true place first rest behind here front all more = (here, (front, all))
all_step of P false place first rest behind here front all more = (front, more)

pub all_put : {X : Type 0} (of : ReadyTask → X) (P : X → Type 0) (place : ReadyTask) (list : List ReadyTask) → P (of place) → AllByRecursion P (map of list) → AllByRecursion P (map of (put_behind place list))
all_put of P place [] here all = (here, tt)
all_put of P place (first ∷ rest) here all =
    all_step of P (is_below place.priority first) place first rest (put_behind place rest) here all.0 all.1 (all_put of P place rest here all.1)

-- ---- rising priorities

from_lower : (low high : ℕ) (list : List ReadyTask) → low ≤ high → AllFrom high list → AllFrom low list
from_lower low high [] lower all = tt
from_lower low high (first ∷ rest) lower all = (omega (arith, all.0), from_lower low high rest lower all.1)

rising_step : (test : Bool) (place first : ReadyTask) (rest behind : List ReadyTask) → is_below place.priority first ≡ test →
    AllFrom first.priority rest → IsRising rest → (first.priority ≤ place.priority → AllFrom first.priority behind) → IsRising behind → IsRising (cond test (place ∷ first ∷ rest) (first ∷ behind))
rising_step true place first rest behind is above rising more risen =
    let lower : place.priority ≤ first.priority = omega (arith, ltb-true place.priority first.priority is) in
    ((lower, from_lower place.priority first.priority rest lower above), (above, rising))
rising_step false place first rest behind is above rising more risen = (more (ltb-false place.priority first.priority is), risen)

pub rising_put : (place : ReadyTask) (list : List ReadyTask) → IsRising list → IsRising (put_behind place list)
rising_put place [] rising = (tt, tt)
rising_put place (first ∷ rest) rising =
    rising_step (is_below place.priority first) place first rest (put_behind place rest) refl rising.0 rising.1
    (λ low. all_put (λ other. other.priority) (λ other. first.priority ≤ other) place rest low rising.0)
    (rising_put place rest rising.1)

rising_kept : (test : Bool) (first : ReadyTask) (passed : List ReadyTask) → AllFrom first.priority passed → IsRising passed → IsRising (cond test (first ∷ passed) passed)
rising_kept true first passed above rising = (above, rising)
rising_kept false first passed above rising = rising

pub rising_filter : (passes : ReadyTask → Bool) (list : List ReadyTask) → IsRising list → IsRising (filter passes list)
rising_filter passes [] rising = tt
rising_filter passes (first ∷ rest) rising =
    rising_kept (passes first) first (filter passes rest)
    (all_filter (λ other. other.priority) (λ other. first.priority ≤ other) passes rest rising.0)
    (rising_filter passes rest rising.1)

rising_first : (equals list : List ReadyTask) → IsRising list → IsRising (first_goes_behind equals list)
rising_first [] list rising = rising
rising_first (first ∷ rest) list rising = rising_put first (without_task first.task list) (rising_filter (λ place. not (is_of_task first.task place)) list rising)

pub rising_rotated : (priority : ℕ) (list : List ReadyTask) → IsRising list → IsRising (rotated priority list)
rising_rotated priority list rising = rising_first (places_of priority list) list rising

-- ---- each task once

once_step : (test : Bool) (place first : ReadyTask) (rest behind : List ReadyTask) →
    AllByRecursion (λ other. eqb place.task other ≡ false) (tasks_of (first ∷ rest)) → EachOnce (first ∷ rest) →
    AllByRecursion (λ other. eqb first.task other ≡ false) (tasks_of behind) → EachOnce behind → EachOnce (cond test (place ∷ first ∷ rest) (first ∷ behind))
unfolding IsDistinct
once_step true place first rest behind differs once apart put = (differs, once)
once_step false place first rest behind differs once apart put = (apart, put)

pub once_put : (place : ReadyTask) (list : List ReadyTask) → holds_task place.task list ≡ false → EachOnce list → EachOnce (put_behind place list)
unfolding IsDistinct
once_put place [] outside once = (tt, tt)
once_put place (first ∷ rest) outside once =
    let parts = or_parts (is_of_task place.task first) (holds_task place.task rest) outside in
    once_step (is_below place.priority first) place first rest (put_behind place rest) (all_differ (λ (p : ReadyTask). p.task) place.task (first ∷ rest) outside) once
    (all_put (λ other. other.task) (λ other. eqb first.task other ≡ false) place rest parts.0 once.0)
    (once_put place rest parts.1 once.1)

once_first : (equals list : List ReadyTask) → EachOnce list → EachOnce (first_goes_behind equals list)
once_first [] list once = once
once_first (first ∷ rest) list once =
    once_put first (without_task first.task list) (gone (λ (p : ReadyTask). p.task) first.task list) (once_filter (λ (p : ReadyTask). p.task) (λ place. not (is_of_task first.task place)) list once)

pub once_rotated : (priority : ℕ) (list : List ReadyTask) → EachOnce list → EachOnce (rotated priority list)
once_rotated priority list once = once_first (places_of priority list) list once

-- ---- the queue

pub queue_empty : (room : ℕ) (list : List ReadyTask) → 256 ≤ room → list ≡ [] → IsReadyQueue list room
unfolding IsDistinct
queue_empty room list enough none = subst (λ (l : List ReadyTask). IsReadyQueue l room) (sym none) (record { enough = enough; ids = tt; once = tt; rising = tt })

pub queue_put : (place : ReadyTask) (list new : List ReadyTask) (room now : ℕ) → IsReadyQueue list room → room ≤ now → place.task < 256 → holds_task place.task list ≡ false → new ≡ put_behind place list → IsReadyQueue new now
queue_put place list new room now queue more id out is = subst (λ (l : List ReadyTask). IsReadyQueue l now) (sym is) (record {
  enough = omega (arith, queue.enough);
  ids = all_put (λ other. other.task) (λ task. task < 256) place list id queue.ids;
  once = once_put place list out queue.once;
  rising = rising_put place list queue.rising;
})

pub queue_without : (task : ℕ) (list new : List ReadyTask) (room now : ℕ) → IsReadyQueue list room → room ≤ now → new ≡ without_task task list → IsReadyQueue new now
queue_without task list new room now queue more is = subst (λ (l : List ReadyTask). IsReadyQueue l now) (sym is) (record {
  enough = omega (arith, queue.enough);
  ids = all_filter (λ other. other.task) (λ task. task < 256) (λ place. not (is_of_task task place)) list queue.ids;
  once = once_filter (λ (p : ReadyTask). p.task) (λ place. not (is_of_task task place)) list queue.once;
  rising = rising_filter (λ place. not (is_of_task task place)) list queue.rising;
})

ids_first : (equals list : List ReadyTask) → AllByRecursion (λ task. task < 256) (tasks_of equals) → AllByRecursion (λ task. task < 256) (tasks_of list) → AllByRecursion (λ task. task < 256) (tasks_of (first_goes_behind equals list))
ids_first [] list equal all = all
ids_first (first ∷ rest) list equal all =
    all_put (λ other. other.task) (λ task. task < 256) first (without_task first.task list) equal.0
    (all_filter (λ other. other.task) (λ task. task < 256) (λ place. not (is_of_task first.task place)) list all)

pub queue_rotated : (priority : ℕ) (list new : List ReadyTask) (room now : ℕ) → IsReadyQueue list room → room ≤ now → new ≡ rotated priority list → IsReadyQueue new now
queue_rotated priority list new room now queue more is = subst (λ (l : List ReadyTask). IsReadyQueue l now) (sym is) (record {
  enough = omega (arith, queue.enough);
  ids = ids_first (places_of priority list) list (all_filter (λ other. other.task) (λ task. task < 256) (is_of_priority priority) list queue.ids) queue.ids;
  once = once_rotated priority list queue.once;
  rising = rising_rotated priority list queue.rising;
})

-- no more tasks are ready than there are IDs
pub queue_fits : (list : List ReadyTask) (room : ℕ) → IsReadyQueue list room → length list ≤ 256
queue_fits list room queue = omega (arith, few_below 256 (tasks_of list) queue.ids queue.once, length-map list (λ (place : ReadyTask). place.task))

-- while a task isn't ready, there is room for it
pub queue_room : (task : ℕ) (list : List ReadyTask) (room : ℕ) → IsReadyQueue list room → task < 256 → holds_task task list ≡ false → length list < room
unfolding IsDistinct
queue_room task list room queue id out =
    omega (arith, queue.enough, few_below 256 (task ∷ tasks_of list) (id, queue.ids) (all_differ (λ (p : ReadyTask). p.task) task list out, queue.once), length-map list (λ (place : ReadyTask). place.task))
