-- Which task is the first of its priority, and which is next to another.
use Rattle.std.proofs.Common.{◌≡◌, ℕ, zero, suc, ◌+◌, ◌<◌, ◌≤◌, Bool, true, false, not, List, [], ◌∷◌, length, get_or, drop, cond, Some, None, refl, sym, ap, ◌∙◌, subst, arith}
use Rattle.std.specs.List.{position, position_or_len}
use Rattle.std.proofs.lemmas.Bool.Decides.{nat_tests}
use Rattle.std.proofs.lemmas.List.{drop_more}
use Rattle.ready_queue.specs.declared.places.ReadyTask.{ReadyTask}
use Rattle.ready_queue.specs.Queue.{is_of_task, is_of_priority, places_of, first_task, next_task, next_equal, equal_in_front}
use Rattle.ready_queue.specs.Facts.{AllFrom, IsRising}
use Rattle.ready_queue.proofs.Found.{one_more, found_at, found_front, found_nothing, found_past}

-- ---- the first of a priority

pub first_at : (priority : ℕ) (list : List ReadyTask) (at : ℕ) (place : ReadyTask) → Some at ≡ position (is_of_priority priority) list → place ≡ get_or list at place → Some place.task ≡ first_task (places_of priority list)
first_at priority list at place found is =
    let parts = found_at (is_of_priority priority) list at found in
    let front = found_front (is_of_priority priority) list place (omega (arith, parts.0, parts.1)) in
    let stands : place ≡ get_or list (position_or_len (is_of_priority priority) list) place = is ∙ ap (λ i. get_or list i place) parts.1 in
    ap (λ p. Some p.task) stands ∙ sym (ap first_task front.1)

pub first_past : (priority : ℕ) (list : List ReadyTask) → None ≡ position (is_of_priority priority) list → None ≡ first_task (places_of priority list)
first_past priority list past = sym (ap first_task (found_nothing (is_of_priority priority) list (found_past (is_of_priority priority) list past)))

-- ---- the next of a task

one_behind : (n : ℕ) → suc n + 1 ≡ suc (n + 1)
one_behind n = omega arith

behind_step : (test : Bool) (task : ℕ) (first none : ReadyTask) (rest : List ReadyTask) (at : ℕ) →
    (at < length rest → next_task task rest ≡ next_equal (get_or rest at none) (drop (at + 1) rest)) → cond (not test) (1 + at) 0 < suc (length rest) →
    cond test (next_equal first rest) (next_task task rest) ≡ next_equal (get_or (first ∷ rest) (cond (not test) (1 + at) 0) none) (drop (cond (not test) (1 + at) 0 + 1) (first ∷ rest))
behind_step true task first none rest at behind within = refl
behind_step false task first none rest at behind within = rw (one_more at, one_behind at) (behind (omega arith))

-- the next of a task stands behind the task's place
next_behind : (task : ℕ) (list : List ReadyTask) (none : ReadyTask) → position_or_len (is_of_task task) list < length list →
    next_task task list ≡ next_equal (get_or list (position_or_len (is_of_task task) list) none) (drop (position_or_len (is_of_task task) list + 1) list)
next_behind task [] none within = absurd (omega arith)
next_behind task (first ∷ rest) none within =
    behind_step (is_of_task task first) task first none rest (position_or_len (is_of_task task) rest) (next_behind task rest none) within

none_lower_step : (test : Bool) (priority : ℕ) (first : ReadyTask) (passed : List ReadyTask) → is_of_priority priority first ≡ test → priority < first.priority → passed ≡ [] → cond test (first ∷ passed) passed ≡ []
none_lower_step true priority first passed is above none = absurd (grind (arith, nat_tests))
none_lower_step false priority first passed is above none = none

-- behind a place of a lower priority no place has the higher one
pub none_lower : (priority high : ℕ) (list : List ReadyTask) → priority < high → AllFrom high list → places_of priority list ≡ []
none_lower priority high [] above all = refl
none_lower priority high (first ∷ rest) above all =
    none_lower_step (is_of_priority priority first) priority first (places_of priority rest) refl (omega (arith, all.0)) (none_lower priority high rest above all.1)

front_equal_step : (test : Bool) (place next : ReadyTask) (passed : List ReadyTask) → is_of_priority place.priority next ≡ test → place.priority ≤ next.priority → (place.priority < next.priority → passed ≡ []) →
    cond test (Some next.task) None ≡ first_task (cond test (next ∷ passed) passed)
front_equal_step true place next passed is low none = refl
front_equal_step false place next passed is low none =
    let above : place.priority < next.priority = grind (arith, nat_tests) in sym (ap first_task (none above))

-- in a rising list only the place in front can have the same priority as the one before it, or none has
front_equal : (place : ReadyTask) (rest : List ReadyTask) → IsRising (place ∷ rest) → equal_in_front place rest ≡ next_equal place rest
front_equal place [] rising = refl
front_equal place (next ∷ rest) rising =
    front_equal_step (is_of_priority place.priority next) place next (places_of place.priority rest) refl rising.0.0
    (λ above. none_lower place.priority next.priority rest above rising.1.0)

rising_drop : (at : ℕ) (list : List ReadyTask) → IsRising list → IsRising (drop at list)
rising_drop zero list rising = rising
rising_drop (suc at) [] rising = rising
rising_drop (suc at) (first ∷ rest) rising = rising_drop at rest rising.1

pub next_at : (task : ℕ) (list : List ReadyTask) (at : ℕ) (place : ReadyTask) → IsRising list → Some at ≡ position (is_of_task task) list → place ≡ get_or list at place → equal_in_front place (drop (at + 1) list) ≡ next_task task list
next_at task list at place rising found is =
    let parts = found_at (is_of_task task) list at found in
    let front : IsRising (place ∷ drop (at + 1) list) = subst IsRising (drop_more list at place parts.0 ∙ ap (λ p. p ∷ drop (at + 1) list) (sym is)) (rising_drop at list rising) in
    let behind : next_task task list ≡ next_equal (get_or list at place) (drop (at + 1) list) = subst (λ (i : ℕ). next_task task list ≡ next_equal (get_or list i place) (drop (i + 1) list)) (sym parts.1) (next_behind task list place (omega (arith, parts.0, parts.1))) in
    front_equal place (drop (at + 1) list) front ∙ (ap (λ p. next_equal p (drop (at + 1) list)) is ∙ sym behind)

past_next_step : (test : Bool) (task : ℕ) (first : ReadyTask) (rest : List ReadyTask) (at : ℕ) → (length rest ≤ at → None ≡ next_task task rest) → suc (length rest) ≤ cond (not test) (1 + at) 0 → None ≡ cond test (next_equal first rest) (next_task task rest)
past_next_step true task first rest at behind past = absurd (omega arith)
past_next_step false task first rest at behind past = behind (omega arith)

none_next : (task : ℕ) (list : List ReadyTask) → length list ≤ position_or_len (is_of_task task) list → None ≡ next_task task list
none_next task [] past = refl
none_next task (first ∷ rest) past = past_next_step (is_of_task task first) task first rest (position_or_len (is_of_task task) rest) (none_next task rest) past

pub next_past : (task : ℕ) (list : List ReadyTask) → None ≡ position (is_of_task task) list → None ≡ next_task task list
next_past task list past = none_next task list (found_past (is_of_task task) list past)
