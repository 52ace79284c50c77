-- How the tasks that wait for an object by a table change when a slot or an order is written.
use Rattle.std.proofs.Common.{◌≡◌, ◌≢◌, ℕ, ◌+◌, Bool, true, false, not, cond, List, [], ◌∷◌, ◌++◌, Option, refl, arith, ap, subst, sym, ◌∙◌}
use Rattle.std.specs.Bool.{◌==◌}
use Rattle.std.specs.List.{AllByRecursion}
use Rattle.std.specs.Prelude.{filter}
use Rattle.std.proofs.lemmas.Bool.Decides.{nat_tests}
use Rattle.tk_types.specs.declared.task.Task.{Task}
use Rattle.tk_types.specs.declared.task.Order.{Order}
use Rattle.tk_types.specs.declared.task.Order.TheVariants.{Fifo, Priority}
use Rattle.kernel_model.specs.Words.Orders.{entry, insert_behind, sort_by, to_back, without}
use Rattle.kernel_model.specs.LawWords.Once.{times}
use Rattle.kernel_model.specs.Tasks.Base.{current_in, waiting_in}
use Rattle.kernel_model.specs.Tasks.Queues.{queue_in}
use Rattle.kernel_lemmas.proofs.Sorting.{alike_filter, filter_sort, sort_alike, sort_behind}
use Rattle.kernel_lemmas.proofs.Filters as filters
use Rattle.kernel_lemmas.proofs.ReadyLists.{AreSameBut}
use Rattle.kernel_base.specs.Waiting.{priority_at, queued_in, waits_at}

pub differs_of : (n t : ℕ) → not (n == t) ≡ true → n ≢ t
differs_of n t is = λ same. grind (arith, nat_tests, is, same)

-- ---- a task that doesn't wait for the object stands nowhere in its queue

tests_alike : (t object : ℕ) (tasks changed : List (Option Task)) → AreSameBut t tasks changed → filters.AreSameBut t (waits_at tasks object) (waits_at changed object)
tests_alike t object tasks changed same = λ u differs. ap (waiting_in object) (same.elsewhere u differs)

filter_left : (passes passed : ℕ → Bool) (t : ℕ) (ids moved : List ℕ) → filters.AreSameBut t passes passed → passed t ≡ false → without t moved ≡ without t ids → filter passed moved ≡ without t (filter passes ids)
filter_left passes passed t ids moved same fails others = sym (filters.left_out passed t moved fails) ∙ (ap (filter passed) others ∙ filters.filter_but passes passed t ids same)

sorted_without : (t : ℕ) (tasks changed : List (Option Task)) (ids : List ℕ) → AreSameBut t tasks changed → sort_by (priority_at changed) (without t ids) ≡ without t (sort_by (priority_at tasks) ids)
sorted_without t tasks changed ids same =
    sort_alike (priority_at changed) (priority_at tasks) (without t ids) (alike_filter (λ u. not (u == t)) (priority_at changed) (priority_at tasks) ids (λ u is. ap current_in (same.elsewhere u (differs_of u t is))))
    ∙ sym (filter_sort (λ u. not (u == t)) (priority_at tasks) ids)

pub queued_left : (by : Order) (t object : ℕ) (tasks changed : List (Option Task)) (order moved since later : List ℕ) → AreSameBut t tasks changed → waits_at changed object t ≡ false → without t moved ≡ without t order → without t later ≡ without t since →
    queued_in by changed moved later object ≡ without t (queued_in by tasks order since object)
queued_left Fifo t object tasks changed order moved since later same idle others_order others_since =
    filter_left (waits_at tasks object) (waits_at changed object) t since later (tests_alike t object tasks changed same) idle others_since
queued_left Priority t object tasks changed order moved since later same idle others_order others_since =
    ap (sort_by (priority_at changed)) (filter_left (waits_at tasks object) (waits_at changed object) t order moved (tests_alike t object tasks changed same) idle others_order)
    ∙ sorted_without t tasks changed (filter (waits_at tasks object) order) same

pub not_queued : (by : Order) (t object : ℕ) (tasks : List (Option Task)) (order since : List ℕ) → waits_at tasks object t ≡ false → queued_in by tasks order since object ≡ without t (queued_in by tasks order since object)
not_queued by t object tasks order since idle = queued_left by t object tasks tasks order order since since (record { elsewhere = λ n differs. refl }) idle refl refl

-- ---- a task joins

-- where a task is put that joins
abbrev pub placed : Order → (ℕ → ℕ) → ℕ → List ℕ → List ℕ
placed Fifo key t ids = ids ++ t ∷ []
placed Priority key t ids = insert_behind key t ids

pub queued_joined : (by : Order) (t object : ℕ) (tasks changed : List (Option Task)) (order moved since later : List ℕ) → AreSameBut t tasks changed → waits_at changed object t ≡ true → (by ≡ Priority → moved ≡ to_back t order) → (by ≡ Fifo → later ≡ to_back t since) →
    queued_in by changed moved later object ≡ placed by (priority_at changed) t (without t (queued_in by tasks order since object))
queued_joined Fifo t object tasks changed order moved since later same waits last latest =
    ap (filter (waits_at changed object)) (latest refl) ∙ filters.filter_back (waits_at tasks object) (waits_at changed object) t since (tests_alike t object tasks changed same) waits
queued_joined Priority t object tasks changed order moved since later same waits last latest =
    ap (sort_by (priority_at changed)) (ap (filter (waits_at changed object)) (last refl) ∙ filters.filter_back (waits_at tasks object) (waits_at changed object) t order (tests_alike t object tasks changed same) waits)
    ∙ (sort_behind (priority_at changed) t (without t (filter (waits_at tasks object) order))
    ∙ ap (insert_behind (priority_at changed) t) (sorted_without t tasks changed (filter (waits_at tasks object) order) same))

-- ---- tables in which all wait alike

same_filter : (passes passed : ℕ → Bool) (ids : List ℕ) → ((u : ℕ) → passed u ≡ passes u) → filter passed ids ≡ filter passes ids
same_filter passes passed ids same = filters.filter_alike passes passed ids same

-- in the order of the beginning of the waits priorities don't count
pub fifo_alike : (object : ℕ) (tasks changed : List (Option Task)) (order moved since : List ℕ) → ((u : ℕ) → waits_at changed object u ≡ waits_at tasks object u) → queued_in Fifo changed moved since object ≡ queued_in Fifo tasks order since object
fifo_alike object tasks changed order moved since same = same_filter (waits_at tasks object) (waits_at changed object) since same

pub queued_alike : (by : Order) (object : ℕ) (tasks changed : List (Option Task)) (order since : List ℕ) → ((u : ℕ) → waits_at changed object u ≡ waits_at tasks object u) → ((u : ℕ) → priority_at changed u ≡ priority_at tasks u) →
    queued_in by changed order since object ≡ queued_in by tasks order since object
queued_alike Fifo object tasks changed order since same priority = same_filter (waits_at tasks object) (waits_at changed object) since same
queued_alike Priority object tasks changed order since same priority =
    ap (sort_by (priority_at changed)) (same_filter (waits_at tasks object) (waits_at changed object) order same)
    ∙ sort_alike (priority_at changed) (priority_at tasks) (filter (waits_at tasks object) order) (alike_filter (waits_at tasks object) (priority_at changed) (priority_at tasks) order (λ n is. priority n))

-- ---- who stands in a queue

all_kept : (P : ℕ → Type 0) (test : Bool) (id : ℕ) (kept : List ℕ) → (test ≡ true → P id) → AllByRecursion P kept → AllByRecursion P (cond test (id ∷ kept) kept)
all_kept P true id kept here all = (here refl, all)
all_kept P false id kept here all = all

pub all_filter : (P : ℕ → Type 0) (passes : ℕ → Bool) (ids : List ℕ) → ((u : ℕ) → passes u ≡ true → P u) → AllByRecursion P (filter passes ids)
all_filter P passes [] all = tt
all_filter P passes (id ∷ ids) all = all_kept P (passes id) id (filter passes ids) (all id) (all_filter P passes ids all)

-- what holds of each task that waits for the object holds of those of its queue
pub all_queued : (P : ℕ → Type 0) (by : Order) (object : ℕ) (tasks : List (Option Task)) (order since : List ℕ) → ((u : ℕ) → waits_at tasks object u ≡ true → P u) → AllByRecursion P (queued_in by tasks order since object)
all_queued P Fifo object tasks order since all = all_filter P (waits_at tasks object) since all
all_queued P Priority object tasks order since all =
    subst (AllByRecursion P) (filter_sort (waits_at tasks object) (priority_at tasks) order) (all_filter P (waits_at tasks object) (sort_by (priority_at tasks) order) all)

none_kept : (test : Bool) (id : ℕ) (kept : List ℕ) → (test ≡ true → ⊥) → kept ≡ [] → cond test (id ∷ kept) kept ≡ []
none_kept true id kept fails none = absurd (fails refl)
none_kept false id kept fails none = none

filter_none : (passes : ℕ → Bool) (ids : List ℕ) → ((u : ℕ) → passes u ≡ true → ⊥) → filter passes ids ≡ []
filter_none passes [] none = refl
filter_none passes (id ∷ ids) none = none_kept (passes id) id (filter passes ids) (none id) (filter_none passes ids none)

-- all tasks that wait for an object by a table queue in one order
abbrev pub AllQueue : Order → List (Option Task) → ℕ → Type 0
AllQueue by tasks object = (u : ℕ) → waits_at tasks object u ≡ true → queue_in (entry tasks u) ≡ by

apart : (slot : Order) → slot ≡ Fifo → slot ≡ Priority → ⊥
apart slot first second = cc

-- where tasks queue in two orders at once, none waits
pub queued_either : (one other : Order) (object : ℕ) (tasks : List (Option Task)) (order since : List ℕ) → AllQueue one tasks object → AllQueue other tasks object → queued_in one tasks order since object ≡ queued_in other tasks order since object
queued_either Fifo Fifo object tasks order since all more = refl
queued_either Priority Priority object tasks order since all more = refl
queued_either Fifo Priority object tasks order since all more =
    let nobody : (u : ℕ) → waits_at tasks object u ≡ true → ⊥ = λ u waits. apart (queue_in (entry tasks u)) (all u waits) (more u waits) in
    filter_none (waits_at tasks object) since nobody ∙ sym (ap (sort_by (priority_at tasks)) (filter_none (waits_at tasks object) order nobody))
queued_either Priority Fifo object tasks order since all more =
    let nobody : (u : ℕ) → waits_at tasks object u ≡ true → ⊥ = λ u waits. apart (queue_in (entry tasks u)) (more u waits) (all u waits) in
    ap (sort_by (priority_at tasks)) (filter_none (waits_at tasks object) order nobody) ∙ sym (filter_none (waits_at tasks object) since nobody)

-- ---- how often a task stands in an order

pub same_id : (id t : ℕ) → (id == t) ≡ true → id ≡ t
same_id id t is = grind (arith, nat_tests, is)

none_more : (n : ℕ) → n ≡ 0 + n
none_more n = omega arith

kept_times : (u t id : ℕ) (test : Bool) (rest kept : List ℕ) → (id == t) ≡ test → u ≢ t → times u kept ≡ times u rest → times u (cond (not test) (id ∷ kept) kept) ≡ cond (id == u) 1 0 + times u rest
kept_times u t id true rest kept is differs same =
    let other : (id == u) ≡ false = let own = same_id id t is in grind (arith, nat_tests, own, differs) in
    same ∙ (none_more (times u rest) ∙ ap (λ test. cond test 1 0 + times u rest) (sym other))
kept_times u t id false rest kept is differs same = ap (λ n. cond (id == u) 1 0 + n) same

times_without_other : (u t : ℕ) (ids : List ℕ) → u ≢ t → times u (without t ids) ≡ times u ids
times_without_other u t [] differs = refl
times_without_other u t (id ∷ ids) differs = kept_times u t id (id == t) ids (without t ids) refl differs (times_without_other u t ids differs)

-- another task stands as often in an order that is the same without this one
pub times_other : (u t : ℕ) (ids moved : List ℕ) → u ≢ t → without t moved ≡ without t ids → times u moved ≡ times u ids
times_other u t ids moved differs same = sym (times_without_other u t moved differs) ∙ (ap (times u) same ∙ times_without_other u t ids differs)
