-- What stands first in the queue of the ready tasks, and what stands behind a task there.
use Rattle.std.proofs.Common.{◌≡◌, ℕ, ◌+◌, ◌≤◌, Bool, true, false, cond, List, [], ◌∷◌, ◌||◌, Option, Some, None, map, refl, arith, ap, sym, ◌∙◌}
use Rattle.std.specs.Bool.{◌==◌}
use Rattle.std.specs.Prelude.{filter, slice_get, unwrap_or}
use Rattle.std.proofs.lemmas.Bool.Decides.{nat_tests}
use Rattle.tk_types.specs.declared.task.Task.{Task}
use Rattle.ready_queue.specs.declared.places.ReadyTask.{ReadyTask}
use Rattle.ready_queue.specs.Queue.{first_task, holds_task, next_task, places_of}
use Rattle.kernel_model.specs.Words.Orders.{head_or_zero}
use Rattle.kernel_model.specs.Tasks.Base.{Base, chosen, current, is_ready, is_ready_with, ready_list, ready_of}
use Rattle.kernel_model.specs.LawWords.Once.{times}
use Rattle.kernel_lemmas.proofs.ReadyLists.{chosen_is_first, priority_in, ready_of_level, times_ready}
use Rattle.kernel_base.specs.Queues.{behind, next_ready}
use Rattle.kernel_base.specs.Ready.{place_in, places_in}

-- ---- lists of IDs and of places

first_is : (tasks : List (Option Task)) (ids : List ℕ) → first_task (map (place_in tasks) ids) ≡ slice_get ids 0
first_is tasks [] = refl
first_is tasks (id ∷ ids) = refl

head_is : (ids : List ℕ) → head_or_zero ids ≡ unwrap_or (slice_get ids 0) 0
head_is [] = refl
head_is (id ∷ ids) = refl

level_step : (b : Bool) (tasks : List (Option Task)) (id : ℕ) (places : List ReadyTask) (ids : List ℕ) → places ≡ map (place_in tasks) ids → cond b (place_in tasks id ∷ places) places ≡ map (place_in tasks) (cond b (id ∷ ids) ids)
level_step true tasks id places ids same = ap (λ list. place_in tasks id ∷ list) same
level_step false tasks id places ids same = same

-- the places of a priority are those of the tasks that have it
places_of_level : (tasks : List (Option Task)) (priority : ℕ) (ids : List ℕ) → places_of priority (map (place_in tasks) ids) ≡ map (place_in tasks) (filter (λ t. priority_in tasks t == priority) ids)
places_of_level tasks priority [] = refl
places_of_level tasks priority (id ∷ ids) =
    level_step (priority_in tasks id == priority) tasks id (places_of priority (map (place_in tasks) ids)) (filter (λ t. priority_in tasks t == priority) ids) (places_of_level tasks priority ids)

first_of_level : (tasks : List (Option Task)) (priority : ℕ) (ids : List ℕ) → first_task (places_of priority (map (place_in tasks) ids)) ≡ slice_get (filter (λ t. priority_in tasks t == priority) ids) 0
first_of_level tasks priority ids = ap first_task (places_of_level tasks priority ids) ∙ first_is tasks (filter (λ t. priority_in tasks t == priority) ids)

next_step : (b : Bool) (tasks : List (Option Task)) (t id : ℕ) (ids : List ℕ) → (id == t) ≡ b → next_task t (map (place_in tasks) ids) ≡ slice_get (filter (λ n. priority_in tasks n == priority_in tasks t) (behind t ids)) 0 →
    next_task t (map (place_in tasks) (id ∷ ids)) ≡ slice_get (filter (λ n. priority_in tasks n == priority_in tasks t) (behind t (id ∷ ids))) 0
next_step true tasks t id ids is more =
    let same : id ≡ t = grind (arith, nat_tests, is) in
    rw is (first_of_level tasks (priority_in tasks id) ids ∙ ap (λ (m : ℕ). slice_get (filter (λ n. priority_in tasks n == priority_in tasks m) ids) 0) same)
next_step false tasks t id ids is more = rw is more

next_of_level : (tasks : List (Option Task)) (t : ℕ) (ids : List ℕ) → next_task t (map (place_in tasks) ids) ≡ slice_get (filter (λ n. priority_in tasks n == priority_in tasks t) (behind t ids)) 0
next_of_level tasks t [] = refl
next_of_level tasks t (id ∷ ids) = next_step (id == t) tasks t id ids refl (next_of_level tasks t ids)

-- ---- behind a task, and filters

behind_step : (b c : Bool) (passes : ℕ → Bool) (t id : ℕ) (ids : List ℕ) → (id == t) ≡ b → passes id ≡ c → passes t ≡ true → filter passes (behind t ids) ≡ behind t (filter passes ids) →
    filter passes (cond b ids (behind t ids)) ≡ behind t (cond c (id ∷ filter passes ids) (filter passes ids))
behind_step true true passes t id ids is at kept more = rw is refl
behind_step true false passes t id ids is at kept more = let same : id ≡ t = grind (arith, nat_tests, is) in absurd (cc (ap passes same))
behind_step false true passes t id ids is at kept more = rw is more
behind_step false false passes t id ids is at kept more = more

-- what stands behind a task that passes a test, and passes, stands behind it among those that pass
behind_filter : (passes : ℕ → Bool) (t : ℕ) (ids : List ℕ) → passes t ≡ true → filter passes (behind t ids) ≡ behind t (filter passes ids)
behind_filter passes t [] kept = refl
behind_filter passes t (id ∷ ids) kept = behind_step (id == t) (passes id) passes t id ids refl refl kept (behind_filter passes t ids kept)

-- ---- a task that the queue holds may run

held_step : (b c : Bool) (n : ℕ) → (b || c) ≡ true → (c ≡ true → 1 ≤ n) → 1 ≤ cond b 1 0 + n
held_step true c n held more = omega arith
held_step false c n held more = let rest = more held in omega arith

times_held : (tasks : List (Option Task)) (t : ℕ) (ids : List ℕ) → holds_task t (map (place_in tasks) ids) ≡ true → 1 ≤ times t ids
times_held tasks t [] held = absurd (cc held)
times_held tasks t (id ∷ ids) held = held_step (id == t) (holds_task t (map (place_in tasks) ids)) (times t ids) held (times_held tasks t ids)

runs_if : (b : Bool) (n k : ℕ) → n ≡ cond b k 0 → 1 ≤ n → b ≡ true
runs_if true n k is some = refl
runs_if false n k is some = absurd (omega arith)

-- ---- what the queue answers

-- the first place is that of the chosen task
chosen_is : (b now : Base) (ready : List ReadyTask) (first : Option ℕ) → ready ≡ places_in b.tasks b.order → b ≡ now → first ≡ first_task ready → chosen now ≡ unwrap_or first 0
chosen_is b now ready first is same at =
    ap chosen (sym same) ∙ (chosen_is_first b ∙ (head_is (ready_list b) ∙ ap (λ o. unwrap_or o 0) (sym (at ∙ (ap first_task is ∙ first_is b.tasks (ready_list b))))))

-- where there is no first place no task is chosen
pub chosen_none : (b now : Base) (ready : List ReadyTask) (first : Option ℕ) → ready ≡ places_in b.tasks b.order → b ≡ now → first ≡ first_task ready → first ≡ None → 0 ≡ chosen now
chosen_none b now ready first is same at none = sym (chosen_is b now ready first is same at ∙ ap (λ o. unwrap_or o 0) none)

pub chosen_some : (b now : Base) (ready : List ReadyTask) (first : Option ℕ) (t : ℕ) → ready ≡ places_in b.tasks b.order → b ≡ now → first ≡ first_task ready → first ≡ Some t → t ≡ chosen now
chosen_some b now ready first t is same at some = sym (chosen_is b now ready first is same at ∙ ap (λ o. unwrap_or o 0) some)

-- the first place of a priority is that of the first ready task of it
pub first_is_ready : (b now : Base) (ready : List ReadyTask) (priority : ℕ) → ready ≡ places_in b.tasks b.order → b ≡ now → first_task (places_of priority ready) ≡ slice_get (ready_of now priority) 0
first_is_ready b now ready priority is same =
    ap (λ list. first_task (places_of priority list)) is
    ∙ (first_of_level b.tasks priority (ready_list b) ∙ (ap (λ ids. slice_get ids 0) (ready_of_level b priority) ∙ ap (λ (at : Base). slice_get (ready_of at priority) 0) same))

-- the next place behind a task that is inside is that of the next ready task
pub next_is_ready : (b now : Base) (ready : List ReadyTask) (t : ℕ) → ready ≡ places_in b.tasks b.order → b ≡ now → holds_task t ready ≡ true → next_task t ready ≡ next_ready now t
next_is_ready b now ready t is same held =
    let runs : is_ready b t ≡ true = runs_if (is_ready b t) (times t (ready_list b)) (times t b.order) (times_ready b t) (times_held b.tasks t (ready_list b) (ap (holds_task t) (sym is) ∙ held)) in
    let own : (current b t == current b t) ≡ true = grind (arith, nat_tests) in
    let level : is_ready_with b (current b t) t ≡ true = rw (runs, own) refl in
    ap (next_task t) is
    ∙ (next_of_level b.tasks t (ready_list b)
    ∙ (ap (λ ids. slice_get ids 0) (behind_filter (λ n. current b n == current b t) t (ready_list b) own
    ∙ (ap (behind t) (ready_of_level b (current b t))
    ∙ sym (behind_filter (is_ready_with b (current b t)) t b.order level)))
    ∙ ap (λ (at : Base). next_ready at t) same))
