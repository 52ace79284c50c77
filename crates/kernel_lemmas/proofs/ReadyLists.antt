-- How the list of the tasks that may run changes when a task's row or the order is written.
use Rattle.std.proofs.Common.{◌≡◌, ◌≢◌, ℕ, ◌+◌, ◌<◌, ◌≤◌, Bool, true, false, not, cond, List, [], ◌∷◌, ◌++◌, ◌&&◌, append-nil, length, Option, Some, None, get_or, refl, arith, ap, sym, ◌∙◌}
use Rattle.std.specs.Bool.{◌==◌}
use Rattle.std.specs.Option.{option_flatten}
use Rattle.std.specs.Prelude.{filter, slice_get, slice_set, unwrap_or}
use Rattle.std.proofs.lemmas.Bool.Decides.{nat_tests}
use Rattle.std.proofs.lemmas.List.{get_or-set_same, get_or-set_other}
use Rattle.std.proofs.lemmas.List.Elements.{filter-append}
use Rattle.std.proofs.lemmas.Option.{unwrap_or-slice_get}
use Rattle.tk_types.specs.declared.task.Task.{Task}
use Rattle.kernel_model.specs.Words.Orders.{entry, head_or_zero, insert_behind, sort_by, to_back, without}
use Rattle.kernel_model.specs.Tasks.Base.{Base, chosen, current, current_in, is_ready, may_run, ready_in, ready_list, ready_of}
use Rattle.kernel_model.specs.LawWords.Once.{times, IsOnce}
use Rattle.kernel_model.specs.LawWords.Rising.{IsRisingBy}
use Rattle.kernel_lemmas.proofs.Sorting.{AllAlike, alike_filter, filter_sort, filters_swap, here_is, not_here, rising_sort, sort_alike, sort_behind, sort_level, times_sort}

-- whether a task may run by a table, and its current priority there
abbrev pub runs_in : List (Option Task) → ℕ → Bool
runs_in tasks t = may_run (entry tasks t)

abbrev pub priority_in : List (Option Task) → ℕ → ℕ
priority_in tasks t = current_in (entry tasks t)

-- ---- a slot that is written

flatten_is : {A : Type 0} (slot : Option (Option A)) → option_flatten slot ≡ unwrap_or slot None
flatten_is None = refl
flatten_is (Some slot) = refl

entry_is : {A : Type 0} (table : List (Option A)) (id : ℕ) → entry table id ≡ get_or table id None
entry_is table id = flatten_is (slice_get table id) ∙ unwrap_or-slice_get table id None

-- two tables that are the same but for one slot
pub record AreSameBut (t : ℕ) (tasks changed : List (Option Task)) : Type 0 where
  pub elsewhere : (n : ℕ) → n ≢ t → entry changed n ≡ entry tasks n

pub same_but_written : (t : ℕ) (slot : Option Task) (tasks : List (Option Task)) → AreSameBut t tasks (slice_set tasks t slot)
same_but_written t slot tasks = record { elsewhere = λ n differs. entry_is (slice_set tasks t slot) n ∙ (get_or-set_other tasks t n slot None differs ∙ sym (entry_is tasks n)) }

pub entry_written : (t : ℕ) (slot : Option Task) (tasks : List (Option Task)) → t < length tasks → entry (slice_set tasks t slot) t ≡ slot
entry_written t slot tasks within = entry_is (slice_set tasks t slot) t ∙ get_or-set_same tasks t slot None within

-- ---- without one task

differs_of : (n t : ℕ) → not (n == t) ≡ true → n ≢ t
differs_of n t is = λ same. grind (arith, nat_tests, is, same)

other_is : (n t : ℕ) (b : Bool) → (n == t) ≡ b → b ≡ false → n ≢ t
other_is n t b is fails = λ same. grind (arith, nat_tests, is, same, fails)

elsewhere_step : (b c d : Bool) (id : ℕ) (rest more : List ℕ) → rest ≡ more → (not b ≡ true → c ≡ d) →
    cond (not b) (cond c (id ∷ rest) rest) rest ≡ cond (not b) (cond d (id ∷ more) more) more
elsewhere_step true c d id rest more same alike = same
elsewhere_step false c d id rest more same alike = rw (alike refl, same) refl

filter_cond : (p : ℕ → Bool) (b : Bool) (id : ℕ) (ids : List ℕ) → filter p (cond b (id ∷ ids) ids) ≡ cond b (cond (p id) (id ∷ filter p ids) (filter p ids)) (filter p ids)
filter_cond p true id ids = refl
filter_cond p false id ids = refl

-- tests that are the same but for one task leave the same without it
filter_elsewhere : (passes passed : ℕ → Bool) (t : ℕ) (ids : List ℕ) → ((n : ℕ) → n ≢ t → passes n ≡ passed n) → filter passes (without t ids) ≡ filter passed (without t ids)
filter_elsewhere passes passed t [] same = refl
filter_elsewhere passes passed t (id ∷ ids) same =
    filter_cond passes (not (id == t)) id (without t ids)
    ∙ (elsewhere_step (id == t) (passes id) (passed id) id (filter passes (without t ids)) (filter passed (without t ids)) (filter_elsewhere passes passed t ids same) (λ is. same id (differs_of id t is))
    ∙ sym (filter_cond passed (not (id == t)) id (without t ids)))

-- the list without a task is that of the order without it
pub ready_without : (t : ℕ) (tasks : List (Option Task)) (order : List ℕ) → without t (ready_in tasks order) ≡ ready_in tasks (without t order)
ready_without t tasks order =
    filter_sort (λ other. not (other == t)) (priority_in tasks) (filter (runs_in tasks) order)
    ∙ ap (sort_by (priority_in tasks)) (filters_swap (λ other. not (other == t)) (runs_in tasks) order)

alike_elsewhere : (key other : ℕ → ℕ) (t : ℕ) (ids : List ℕ) → ((n : ℕ) → n ≢ t → key n ≡ other n) → AllAlike key other (without t ids)
alike_elsewhere key other t ids same = alike_filter (λ n. not (n == t)) key other ids (λ n is. same n (differs_of n t is))

-- the row of a task doesn't matter where the task is left out
pub ready_elsewhere : (t : ℕ) (tasks changed : List (Option Task)) (order : List ℕ) → AreSameBut t tasks changed → ready_in changed (without t order) ≡ ready_in tasks (without t order)
ready_elsewhere t tasks changed order same =
    ap (sort_by (priority_in changed)) (filter_elsewhere (runs_in changed) (runs_in tasks) t order (λ n differs. ap may_run (same.elsewhere n differs)))
    ∙ (ap (sort_by (priority_in changed)) (filters_swap (runs_in tasks) (λ n. not (n == t)) order)
    ∙ (sort_alike (priority_in changed) (priority_in tasks) (without t (filter (runs_in tasks) order)) (alike_elsewhere (priority_in changed) (priority_in tasks) t (filter (runs_in tasks) order) (λ n differs. ap current_in (same.elsewhere n differs)))
    ∙ ap (sort_by (priority_in tasks)) (filters_swap (λ n. not (n == t)) (runs_in tasks) order)))

left_by : (b c : Bool) (id : ℕ) (rest more : List ℕ) → rest ≡ more → (b ≡ true → c ≡ false) → cond (not b) (cond c (id ∷ rest) rest) rest ≡ cond c (id ∷ more) more
left_by true c id rest more same fails = same ∙ sym (not_here c id more (fails refl))
left_by false c id rest more same fails = ap (λ ids. cond c (id ∷ ids) ids) same

same_test : (id t : ℕ) → (id == t) ≡ true → id ≡ t
same_test id t is = grind (arith, nat_tests, is)

-- a task that fails a test may be left out before
filter_left : (passes : ℕ → Bool) (t : ℕ) (ids : List ℕ) → passes t ≡ false → filter passes (without t ids) ≡ filter passes ids
filter_left passes t [] fails = refl
filter_left passes t (id ∷ ids) fails =
    filter_cond passes (not (id == t)) id (without t ids)
    ∙ left_by (id == t) (passes id) id (filter passes (without t ids)) (filter passes ids) (filter_left passes t ids fails) (λ is. ap passes (same_test id t is) ∙ fails)

-- a task that may not run may be left out of the order
pub ready_left : (t : ℕ) (tasks : List (Option Task)) (order : List ℕ) → runs_in tasks t ≡ false → ready_in tasks (without t order) ≡ ready_in tasks order
ready_left t tasks order stops = ap (sort_by (priority_in tasks)) (filter_left (runs_in tasks) t order stops)

-- ---- the changes, with a table and an order

-- a task that may run goes behind its equals
pub ready_last : (t : ℕ) (tasks : List (Option Task)) (order : List ℕ) → runs_in tasks t ≡ true → ready_in tasks (to_back t order) ≡ insert_behind (priority_in tasks) t (ready_in tasks (without t order))
ready_last t tasks order runs =
    ap (sort_by (priority_in tasks)) (filter-append (runs_in tasks) (without t order) (t ∷ []) ∙ ap (λ last. filter (runs_in tasks) (without t order) ++ last) (here_is (runs_in tasks t) t [] runs))
    ∙ sort_behind (priority_in tasks) t (filter (runs_in tasks) (without t order))

-- the place of one that may not run doesn't matter
pub stopped_last : (t : ℕ) (tasks : List (Option Task)) (order : List ℕ) → runs_in tasks t ≡ false → ready_in tasks (to_back t order) ≡ ready_in tasks (without t order)
stopped_last t tasks order stops =
    ap (sort_by (priority_in tasks)) (filter-append (runs_in tasks) (without t order) (t ∷ []) ∙ (ap (λ last. filter (runs_in tasks) (without t order) ++ last) (not_here (runs_in tasks t) t [] stops) ∙ append-nil (filter (runs_in tasks) (without t order))))

-- a task whose row alone changed is left out alike
others_stay : (t : ℕ) (tasks changed : List (Option Task)) (order : List ℕ) → AreSameBut t tasks changed → ready_in changed (without t order) ≡ without t (ready_in tasks order)
others_stay t tasks changed order same = ready_elsewhere t tasks changed order same ∙ sym (ready_without t tasks order)

-- a row is written that may run, and the task takes the last place
pub written_last : (t : ℕ) (tasks changed : List (Option Task)) (order : List ℕ) → AreSameBut t tasks changed → runs_in changed t ≡ true → ready_in changed (to_back t order) ≡ insert_behind (priority_in changed) t (without t (ready_in tasks order))
written_last t tasks changed order same runs = ready_last t changed order runs ∙ ap (insert_behind (priority_in changed) t) (others_stay t tasks changed order same)

-- the order alone changes: a task that may run takes the last place
pub moved_last : (t : ℕ) (tasks : List (Option Task)) (order : List ℕ) → runs_in tasks t ≡ true → ready_in tasks (to_back t order) ≡ insert_behind (priority_in tasks) t (without t (ready_in tasks order))
moved_last t tasks order runs = written_last t tasks tasks order (record { elsewhere = λ n differs. refl }) runs

-- a row is written that may not run, and the task takes the last place
pub stopped_to_last : (t : ℕ) (tasks changed : List (Option Task)) (order : List ℕ) → AreSameBut t tasks changed → runs_in changed t ≡ false → ready_in changed (to_back t order) ≡ without t (ready_in tasks order)
stopped_to_last t tasks changed order same stops = stopped_last t changed order stops ∙ others_stay t tasks changed order same

-- a row is written that may not run, and the order stays
pub stopped_in_place : (t : ℕ) (tasks changed : List (Option Task)) (order : List ℕ) → AreSameBut t tasks changed → runs_in changed t ≡ false → ready_in changed order ≡ without t (ready_in tasks order)
stopped_in_place t tasks changed order same stops = sym (ready_left t changed order stops) ∙ others_stay t tasks changed order same

-- a task leaves the table and the order
pub deleted_from : (t : ℕ) (tasks changed : List (Option Task)) (order : List ℕ) → AreSameBut t tasks changed → ready_in changed (without t order) ≡ without t (ready_in tasks order)
deleted_from t tasks changed order same = others_stay t tasks changed order same

pub alike_at : {A : Type 0} (of : Option Task → A) (t : ℕ) (tasks changed : List (Option Task)) (n : ℕ) (b : Bool) → (n == t) ≡ b → AreSameBut t tasks changed → of (entry changed t) ≡ of (entry tasks t) → of (entry changed n) ≡ of (entry tasks n)
alike_at of t tasks changed n true is same here = let at : n ≡ t = same_test n t is in rw at here
alike_at of t tasks changed n false is same here = ap of (same.elsewhere n (other_is n t false is refl))

filter_alike : (passes passed : ℕ → Bool) (ids : List ℕ) → ((n : ℕ) → passes n ≡ passed n) → filter passes ids ≡ filter passed ids
filter_alike passes passed [] same = refl
filter_alike passes passed (id ∷ ids) same = let here = same id in let more = filter_alike passes passed ids same in rw (here, more) refl

all_alike : (key other : ℕ → ℕ) (ids : List ℕ) → ((n : ℕ) → key n ≡ other n) → AllAlike key other ids
all_alike key other [] same = tt
all_alike key other (id ∷ ids) same = (same id, all_alike key other ids same)

-- a row is written that may run as before with the priority of before, and the order stays
pub written_alike : (t : ℕ) (tasks changed : List (Option Task)) (order : List ℕ) → AreSameBut t tasks changed → runs_in changed t ≡ runs_in tasks t → priority_in changed t ≡ priority_in tasks t → ready_in changed order ≡ ready_in tasks order
written_alike t tasks changed order same runs priority =
    ap (sort_by (priority_in changed)) (filter_alike (runs_in changed) (runs_in tasks) order (λ n. alike_at may_run t tasks changed n (n == t) refl same runs))
    ∙ sort_alike (priority_in changed) (priority_in tasks) (filter (runs_in tasks) order) (all_alike (priority_in changed) (priority_in tasks) (filter (runs_in tasks) order) (λ n. alike_at current_in t tasks changed n (n == t) refl same priority))

-- ---- what stands in the list

none_more : (k : ℕ) → k ≡ 0 + k
none_more k = omega arith

times_passed : (passes : ℕ → Bool) (n id : ℕ) (b c : Bool) (kept : List ℕ) (k : ℕ) → passes id ≡ b → (id == n) ≡ c → times n kept ≡ cond (passes n) k 0 →
    times n (cond b (id ∷ kept) kept) ≡ cond (passes n) (cond c 1 0 + k) 0
times_passed passes n id true true kept k is at more = let same : id ≡ n = same_test id n at in let here : passes n ≡ true = ap passes (sym same) ∙ is in rw (at, here) (omega (arith, rw here at more))
times_passed passes n id true false kept k is at more = rw at (sym (none_more (times n kept)) ∙ (more ∙ ap (λ m. cond (passes n) m 0) (none_more k)))
times_passed passes n id false true kept k is at more = let same : id ≡ n = same_test id n at in let here : passes n ≡ false = ap passes (sym same) ∙ is in rw (more, here) refl
times_passed passes n id false false kept k is at more = more ∙ ap (λ m. cond (passes n) m 0) (none_more k)

zero_either : (b : Bool) → ◌≡◌ {A = ℕ} 0 (cond b 0 0)
zero_either true = refl
zero_either false = refl

-- a filter leaves those that pass as often as they were, and no other
pub times_filter_is : (passes : ℕ → Bool) (n : ℕ) (ids : List ℕ) → times n (filter passes ids) ≡ cond (passes n) (times n ids) 0
times_filter_is passes n [] = zero_either (passes n)
times_filter_is passes n (id ∷ ids) = times_passed passes n id (passes id) (id == n) (filter passes ids) (times n ids) refl refl (times_filter_is passes n ids)

-- a task that may run stands in the list as often as in the order, and one that may not run stands nowhere
pub times_ready : (b : Base) (t : ℕ) → times t (ready_list b) ≡ cond (is_ready b t) (times t b.order) 0
times_ready b t = times_sort (current b) t (filter (is_ready b) b.order) ∙ times_filter_is (is_ready b) t b.order

once_if : (b : Bool) (n k : ℕ) → n ≡ cond b k 0 → k ≤ 1 → n ≤ 1
once_if true n k is one = omega arith
once_if false n k is one = omega arith

pub once_ready : (b : Base) → IsOnce b.order → IsOnce (ready_list b)
once_ready b once = λ t. once_if (is_ready b t) (times t (ready_list b)) (times t b.order) (times_ready b t) (once t)

pub rising_ready : (b : Base) → IsRisingBy (current b) (ready_list b)
rising_ready b = rising_sort (current b) (filter (is_ready b) b.order)

-- ---- the tasks of one priority

both_step : (b c : Bool) (id : ℕ) (passed both : List ℕ) (level : ℕ → Bool) → level id ≡ c → filter level passed ≡ both → filter level (cond b (id ∷ passed) passed) ≡ cond (b && c) (id ∷ both) both
both_step true c id passed both level is same = rw (is, same) refl
both_step false c id passed both level is same = same

filter_both : (passes level : ℕ → Bool) (ids : List ℕ) → filter level (filter passes ids) ≡ filter (λ n. passes n && level n) ids
filter_both passes level [] = refl
filter_both passes level (id ∷ ids) = both_step (passes id) (level id) id (filter passes ids) (filter (λ n. passes n && level n) ids) level refl (filter_both passes level ids)

-- the ready tasks of a priority are those of the list with it, in order
pub ready_of_level : (b : Base) (priority : ℕ) → filter (λ t. current b t == priority) (ready_list b) ≡ ready_of b priority
ready_of_level b priority =
    filter_sort (λ t. current b t == priority) (current b) (filter (is_ready b) b.order)
    ∙ (sort_level (current b) priority (filter (is_ready b) b.order)
    ∙ filter_both (is_ready b) (λ t. current b t == priority) b.order)

-- the task that dispatching chooses is the first of the list
pub chosen_is_first : (b : Base) → chosen b ≡ head_or_zero (ready_list b)
unfolding chosen
chosen_is_first b = refl
