-- What taking over changed priorities leaves: each task's current priority is that of its definition, the tasks that changed
-- stand last in rising ID, and all else is as it was.
use Rattle.std.proofs.Common.{◌≡◌, ℕ, suc, zero, ◌+◌, ◌≤◌, ◌⊎◌, inl, inr, Bool, true, false, not, List, [], ◌∷◌, ◌++◌, Option, Some, None, option_map, refl, cond, ◌∙◌, ap, sym, subst, arith}
use Rattle.std.specs.Prelude.{drop, filter, fold, slice_set}
use Rattle.std.specs.Bool.{◌==◌}
use Rattle.std.proofs.lemmas.Bool.Decides.{nat_tests}
use Rattle.tk_types.specs.declared.task.Task.{Task}
use Rattle.kernel_model.specs.LawWords.Once.{times, IsOnce}
use Rattle.kernel_model.specs.LawWords.Precedence.{KeepsPlace}
use Rattle.kernel_model.specs.Words.Orders.{taken_from, to_back}
use Rattle.kernel_model.specs.Tasks.Base.{Base, base_in, base_of, current, current_in, set_current, task_at}
use Rattle.kernel_lemmas.proofs.Filters.{filter_alike}
use Rattle.kernel_lemmas.proofs.Once.{once_drop, once_filter}
use Rattle.kernel_lemmas.proofs.Places.{passes_back}
use Rattle.kernel_lemmas.proofs.ReadyLists.{times_filter_is}
use Rattle.kernel_lemmas.proofs.Tables.{entry_cases, entry_other, entry_split, entry_there}
use Rattle.object_model.specs.Mutexes.Tables.{Mutexes}
use Rattle.object_model.specs.Mutexes.Priority.{current_of, is_alive, lowered, own, refresh, resettle}
use Rattle.mutex_laws.specs.Chains.{is_stale}
use Rattle.mutex_laws.proofs.Alike.{IsLike, current_alike, like_itself, like_then, set_current_like}
use Rattle.mutex_laws.proofs.Backs.{all_back, all_stand_last, is_none_of}
use Rattle.mutex_laws.proofs.Least.{dead_if}
use Rattle.mutex_laws.proofs.Taken.{IsOneOf, in_table, one_times, taken_once}

-- ---- with the priorities given

-- a task whose current priority isn't the one that is given for it takes that one
abbrev set_to : (ℕ → ℕ) → Base → ℕ → Base
set_to given b u = cond (current b u == given u) b (set_current b u (given u))

set_to_like : (given : ℕ → ℕ) (b : Base) (u : ℕ) (same : Bool) → IsLike b (cond same b (set_current b u (given u)))
set_to_like given b u true = like_itself b
set_to_like given b u false = set_current_like b u (given u)

refreshed_to : (b c : Base) (m : Mutexes) (ids : List ℕ) → IsLike b c → fold (refresh m) c ids ≡ fold (set_to (current_of b m)) c ids
refreshed_to b c m [] like = refl
refreshed_to b c m (u ∷ ids) like =
    ap (λ n. fold (refresh m) (cond (current c u == n) c (set_current c u n)) ids) (current_alike b c m u like)
    ∙ refreshed_to b (set_to (current_of b m) c u) m ids (like_then b c (set_to (current_of b m) c u) like (set_to_like (current_of b m) c u (current c u == current_of b m u)))

-- the given priorities are those of the definition, before the first is taken over
resettled_to : (b : Base) (m : Mutexes) → resettle b m ≡ fold (set_to (current_of b m)) b (taken_from 1 (drop 1 b.tasks))
unfolding resettle
resettled_to b m = refreshed_to b b m (taken_from 1 (drop 1 b.tasks)) (like_itself b)

fold_like : (given : ℕ → ℕ) (b c : Base) (ids : List ℕ) → IsLike b c → IsLike b (fold (set_to given) c ids)
fold_like given b c [] like = like
fold_like given b c (u ∷ ids) like = fold_like given b (set_to given c u) ids (like_then b c (set_to given c u) like (set_to_like given c u (current c u == given u)))

pub resettle_like : (b : Base) (m : Mutexes) → IsLike b (resettle b m)
resettle_like b m = subst (IsLike b) (sym (resettled_to b m)) (fold_like (current_of b m) b b (taken_from 1 (drop 1 b.tasks)) (like_itself b))

-- ---- rows

-- a row with another current priority
abbrev pub row_with : ℕ → Option Task → Option Task
row_with n o = option_map {T = Task} (λ k. record k { current = n }) o

row_same : (n : ℕ) (o : Option Task) → current_in o ≡ n → o ≡ row_with n o
row_same n None is = refl
row_same n (Some k) is = ap (λ p. Some (record k { current = p })) is

row_twice : (n : ℕ) (o : Option Task) → row_with n (row_with n o) ≡ row_with n o
row_twice n None = refl
row_twice n (Some k) = refl

no_row : (n : ℕ) (o : Option Task) → row_with n o ≡ None → o ≡ None
no_row n None is = refl
no_row n (Some k) is = absurd (cc is)

written_row : (b : Base) (u n : ℕ) → task_at (set_current b u n) u ≡ row_with n (task_at b u)
written_row b u n = entry_split (λ c. task_at c u ≡ row_with n (task_at b u)) (task_at b u) b _ (λ none. none ∙ sym (ap (row_with n) none))
    (λ k at. entry_there b.tasks u k (Some (record k { current = n })) at ∙ sym (ap (row_with n) at))

own_row_if : (given : ℕ → ℕ) (b : Base) (u : ℕ) (same : Bool) → (current b u == given u) ≡ same → task_at (cond same b (set_current b u (given u))) u ≡ row_with (given u) (task_at b u)
own_row_if given b u true at = row_same (given u) (task_at b u) (grind (arith, nat_tests, at))
own_row_if given b u false at = written_row b u (given u)

other_row_if : (given : ℕ → ℕ) (b : Base) (u v : ℕ) (same : Bool) → (v ≡ u → ⊥) → task_at (cond same b (set_current b u (given u))) v ≡ task_at b v
other_row_if given b u v true apart = refl
other_row_if given b u v false apart = entry_cases (λ c. task_at c v ≡ task_at b v) (task_at b u) b _ refl (λ k at. entry_other b.tasks u v (Some (record k { current = given u })) apart)

row_if : (given : ℕ → ℕ) (b : Base) (u v : ℕ) (same : Bool) → (u == v) ≡ same → row_with (given v) (task_at (set_to given b u) v) ≡ row_with (given v) (task_at b v)
row_if given b u v true at =
    let e : u ≡ v = grind (arith, nat_tests, at) in
    subst (λ (w : ℕ). row_with (given w) (task_at (set_to given b u) w) ≡ row_with (given w) (task_at b w)) e
    (ap (row_with (given u)) (own_row_if given b u (current b u == given u) refl) ∙ row_twice (given u) (task_at b u))
row_if given b u v false at = ap (row_with (given v)) (other_row_if given b u v (current b u == given u) (λ e. grind (arith, nat_tests, at, e)))

-- but for its current priority a row stays
rows_stay : (given : ℕ → ℕ) (b : Base) (v : ℕ) (ids : List ℕ) → row_with (given v) (task_at (fold (set_to given) b ids) v) ≡ row_with (given v) (task_at b v)
rows_stay given b v [] = refl
rows_stay given b v (u ∷ ids) = rows_stay given (set_to given b u) v ids ∙ row_if given b u v (u == v) refl

set_if : (given : ℕ → ℕ) (b : Base) (u v : ℕ) (same : Bool) → (u == v) ≡ same → current b v ≡ given v → current (set_to given b u) v ≡ given v
set_if given b u v true at is =
    let e : u ≡ v = grind (arith, nat_tests, at) in
    subst (λ (w : ℕ). current b w ≡ given w → current (set_to given b u) w ≡ given w) e (λ has. ap current_in (own_row_if given b u (current b u == given u) refl) ∙ (sym (ap current_in (row_same (given u) (task_at b u) has)) ∙ has)) is
set_if given b u v false at is = ap current_in (other_row_if given b u v (current b u == given u) (λ e. grind (arith, nat_tests, at, e))) ∙ is

-- what is set stays
set_stays : (given : ℕ → ℕ) (b : Base) (v : ℕ) (ids : List ℕ) → current b v ≡ given v → current (fold (set_to given) b ids) v ≡ given v
set_stays given b v [] is = is
set_stays given b v (u ∷ ids) is = set_stays given (set_to given b u) v ids (set_if given b u v (u == v) refl is)

-- a task that doesn't exist has none
abbrev IsEmpty : (ℕ → ℕ) → Base → Type 0
IsEmpty given b = (u : ℕ) → task_at b u ≡ None → given u ≡ 0

row_current : (n : ℕ) (o : Option Task) → (o ≡ None → n ≡ 0) → current_in (row_with n o) ≡ n
row_current n None none = sym (none refl)
row_current n (Some k) none = refl

empty_after : (given : ℕ → ℕ) (b : Base) (u : ℕ) → IsEmpty given b → IsEmpty given (set_to given b u)
empty_after given b u empty v none = empty v (no_row (given v) (task_at b v) (sym (row_if given b u v (u == v) refl) ∙ ap (row_with (given v)) none))

-- each of these has what is given
each_set : (given : ℕ → ℕ) (b : Base) (v : ℕ) (ids : List ℕ) → IsEmpty given b → IsOneOf v ids → current (fold (set_to given) b ids) v ≡ given v
each_set given b v [] empty stands = absurd stands
each_set given b v (u ∷ ids) empty (inl same) =
    set_stays given (set_to given b u) v ids
    (subst (λ (w : ℕ). current (set_to given b u) w ≡ given w) same (ap current_in (own_row_if given b u (current b u == given u) refl) ∙ row_current (given u) (task_at b u) (empty u)))
each_set given b v (u ∷ ids) empty (inr stands) = each_set given (set_to given b u) v ids (empty_after given b u empty) stands

dead_row : (b : Base) (m : Mutexes) (u : ℕ) → task_at b u ≡ None → current_of b m u ≡ 0
unfolding current_of
dead_row b m u none = dead_if (fold (lowered b m u) (own b m u) (taken_from 1 (drop 1 b.tasks))) (base_of b u) (is_alive (task_at b u)) (ap is_alive none) ∙ ap base_in none

row_is : (n : ℕ) (o p : Option Task) → row_with n p ≡ row_with n o → current_in p ≡ n → p ≡ row_with n o
row_is n o p same has = row_same n p has ∙ same

rows_by : (b c : Base) (given : ℕ → ℕ) (t : ℕ) (ids : List ℕ) → IsEmpty given b → c ≡ fold (set_to given) b ids → (task_at b t ≡ None) ⊎ IsOneOf t ids → task_at c t ≡ row_with (given t) (task_at b t)
rows_by b c given t ids empty is (inl free) =
    let whole : row_with (given t) (task_at c t) ≡ row_with (given t) (task_at b t) = ap (λ d. row_with (given t) (task_at d t)) is ∙ rows_stay given b t ids in
    no_row (given t) (task_at c t) (whole ∙ ap (row_with (given t)) free) ∙ sym (ap (row_with (given t)) free)
rows_by b c given t ids empty is (inr stands) =
    row_is (given t) (task_at b t) (task_at c t) (ap (λ d. row_with (given t) (task_at d t)) is ∙ rows_stay given b t ids) (ap (λ d. current d t) is ∙ each_set given b t ids empty stands)

-- each row is as before, with the current priority of its task's definition
pub resettled_rows : (b : Base) (m : Mutexes) (t : ℕ) → 1 ≤ t → task_at (resettle b m) t ≡ row_with (current_of b m t) (task_at b t)
resettled_rows b m t one = rows_by b (resettle b m) (current_of b m) t (taken_from 1 (drop 1 b.tasks)) (dead_row b m) (resettled_to b m) (in_table t b.tasks one)

-- and that is still what its definition says
pub resettled_current : (b : Base) (m : Mutexes) (t : ℕ) → 1 ≤ t → current (resettle b m) t ≡ current_of (resettle b m) m t
resettled_current b m t one =
    ap current_in (resettled_rows b m t one)
    ∙ row_current (current_of b m t) (task_at b t) (dead_row b m t)
    ∙ sym (current_alike b (resettle b m) m t (resettle_like b m))

-- ---- all else

abbrev with_both : List (Option Task) → List ℕ → Base → Base
with_both tasks order b = record b { tasks = tasks; order = order }

-- nothing but rows and the order changed
abbrev IsBut : Base → Base → Type 0
IsBut b c = c ≡ record b { tasks = c.tasks; order = c.order }

but_if : (given : ℕ → ℕ) (b c : Base) (u : ℕ) (same : Bool) → IsBut b c → IsBut b (cond same c (set_current c u (given u)))
but_if given b c u true is = is
but_if given b c u false is = entry_cases (IsBut b) (task_at c u) c _ is
    (λ k at. ap (with_both (slice_set c.tasks u (Some (record k { current = given u }))) (to_back u c.order)) is)

fold_but : (given : ℕ → ℕ) (b c : Base) (ids : List ℕ) → IsBut b c → IsBut b (fold (set_to given) c ids)
fold_but given b c [] is = is
fold_but given b c (u ∷ ids) is = fold_but given b (set_to given c u) ids (but_if given b c u (current c u == given u) is)

pub resettled_but : (b : Base) (m : Mutexes) → resettle b m ≡ record b { tasks = (resettle b m).tasks; order = (resettle b m).order }
resettled_but b m = subst (IsBut b) (sym (resettled_to b m)) (fold_but (current_of b m) b b (taken_from 1 (drop 1 b.tasks)) refl)

-- ---- the order

order_if : (given : ℕ → ℕ) (b : Base) (u : ℕ) (same : Bool) → (current b u == given u) ≡ same → (task_at b u ≡ None → given u ≡ 0) →
    (cond same b (set_current b u (given u))).order ≡ cond (not same) (to_back u b.order) b.order
order_if given b u true at empty = refl
order_if given b u false at empty = entry_split (λ c. c.order ≡ to_back u b.order) (task_at b u) b _
    (λ none. let given_none = empty none in let has_none : current b u ≡ 0 = ap current_in none in absurd (grind (arith, nat_tests, at, given_none, has_none)))
    (λ k at. refl)

-- the tasks of these whose priority changes
abbrev changing : Base → (ℕ → ℕ) → List ℕ → List ℕ
changing b given ids = filter (λ u. not (current b u == given u)) ids

-- these have the priority that they had
abbrev AreSame : Base → Base → List ℕ → Type 0
AreSame b c ids = (u : ℕ) → IsOneOf u ids → current c u ≡ current b u

back_step : (u : ℕ) (rest order : List ℕ) (test : Bool) → all_back rest (cond test (to_back u order) order) ≡ all_back (cond test (u ∷ rest) rest) order
back_step u rest order true = refl
back_step u rest order false = refl

apart_of : (u v : ℕ) (ids : List ℕ) → IsOnce (u ∷ ids) → IsOneOf v ids → v ≡ u → ⊥
apart_of u v ids once stands same = by_test (u == v) refl
  where
    by_test : (test : Bool) → (u == v) ≡ test → ⊥
    by_test true at = let one = once v in let more = one_times v ids stands in omega (arith, counted test_is one, more)
      where
        test_is : (u == v) ≡ true
        test_is = at

        counted : (u == v) ≡ true → cond (u == v) 1 0 + times v ids ≤ 1 → 1 + times v ids ≤ 1
        counted at few = subst (λ (test : Bool). cond test 1 0 + times v ids ≤ 1) at few
    by_test false at = grind (arith, nat_tests, at, same)

orders_by : (given : ℕ → ℕ) (b c : Base) (ids : List ℕ) → IsEmpty given c → IsOnce ids → AreSame b c ids → (fold (set_to given) c ids).order ≡ all_back (changing b given ids) c.order
orders_by given b c [] empty once same = refl
orders_by given b c (u ∷ ids) empty once same =
    orders_by given b (set_to given c u) ids (empty_after given c u empty) (once_drop u ids once) (λ v stands. ap current_in (other_row_if given c u v (current c u == given u) (apart_of u v ids once stands)) ∙ same v (inr stands))
    ∙ ap (all_back (changing b given ids)) (order_if given c u (current c u == given u) refl (empty u) ∙ ap (λ n. cond (not (n == given u)) (to_back u c.order) c.order) (same u (inl refl)))
    ∙ back_step u (changing b given ids) c.order (not (current b u == given u))

-- a task whose priority changes is one of those that are taken
stale_taken : (b : Base) (m : Mutexes) (u : ℕ) (stale : Bool) → is_stale b m u ≡ stale → task_at b 0 ≡ None →
    is_none_of (filter (is_stale b m) (taken_from 1 (drop 1 b.tasks))) u ≡ not stale
stale_taken b m u stale is none = ap (λ n. n == 0) (times_filter_is (is_stale b m) u ids ∙ ap (λ test. cond test (times u ids) 0) is) ∙ by_stale stale is
  where
    ids : List ℕ
    ids = taken_from 1 (drop 1 b.tasks)

    fresh_none : (task_at b u ≡ None) → is_stale b m u ≡ true → ⊥
    fresh_none free is = let given_none = dead_row b m u free in let has_none : current b u ≡ 0 = ap current_in free in grind (arith, nat_tests, is, given_none, has_none)

    there : (u == 0) ≡ true ⊎ (1 ≤ u) → is_stale b m u ≡ true → 1 ≤ times u ids
    there (inl at) is = let e : 0 ≡ u = grind (arith, nat_tests, at) in absurd (fresh_none (subst (λ (v : ℕ). task_at b v ≡ None) e none) is)
    there (inr one) is = taken (in_table u b.tasks one)
      where
        taken : (task_at b u ≡ None) ⊎ IsOneOf u ids → 1 ≤ times u ids
        taken (inl free) = absurd (fresh_none free is)
        taken (inr stands) = one_times u ids stands

    zero_or_one : (v : ℕ) → ((v == 0) ≡ true) ⊎ (1 ≤ v)
    zero_or_one zero = inl refl
    zero_or_one (suc v) = inr (omega arith)

    by_stale : (stale : Bool) → is_stale b m u ≡ stale → (cond stale (times u ids) 0 == 0) ≡ not stale
    by_stale true is = let some = there (zero_or_one u) is in grind (arith, nat_tests, some)
    by_stale false is = refl

-- the tasks whose priority changed stand last in rising ID, and the others as they stood
pub resettled_order : (b : Base) (m : Mutexes) → task_at b 0 ≡ None →
    (resettle b m).order ≡ filter (λ u. not (is_stale b m u)) b.order ++ filter (is_stale b m) (taken_from 1 (drop 1 b.tasks))
resettled_order b m none =
    let ids : List ℕ = taken_from 1 (drop 1 b.tasks) in
    ap (λ c. c.order) (resettled_to b m)
    ∙ orders_by (current_of b m) b b ids (dead_row b m) (taken_once 1 (drop 1 b.tasks)) (λ u stands. refl)
    ∙ all_stand_last (filter (is_stale b m) ids) b.order (once_filter (is_stale b m) ids (taken_once 1 (drop 1 b.tasks)))
    ∙ ap (λ front. front ++ filter (is_stale b m) ids) (filter_alike (λ u. not (is_stale b m u)) (is_none_of (filter (is_stale b m) ids)) b.order (λ u. stale_taken b m u (is_stale b m u) refl none))

-- ---- a task in its place

-- a task has its row and its place
record HasPlace (b c : Base) (t : ℕ) : Type 0 where
  row : task_at c t ≡ task_at b t
  place : KeepsPlace c t

place_if : (given : ℕ → ℕ) (b c : Base) (t u : ℕ) (here same : Bool) → (u == t) ≡ here → (current c u == given u) ≡ same → current b t ≡ given t → HasPlace b c t → HasPlace b (cond same c (set_current c u (given u))) t
place_if given b c t u here true at is fresh has = has
place_if given b c t u true false at is fresh has =
    let e : u ≡ t = grind (arith, nat_tests, at) in
    let now : current c t ≡ given t = ap current_in has.row ∙ fresh in
    absurd (grind (arith, nat_tests, subst (λ (v : ℕ). (current c v == given v) ≡ false) e is, now))
place_if given b c t u false false at is fresh has =
    let apart : u ≡ t → ⊥ = λ e. grind (arith, nat_tests, at, e) in
    entry_cases (λ d. HasPlace b d t) (task_at c u) c _ has
    (λ k there. record {
      row = entry_other c.tasks u t (Some (record k { current = given u })) (λ e. apart (sym e)) ∙ has.row;
      place = passes_back c _ t u has.place apart refl (λ v differs. entry_other c.tasks u v (Some (record k { current = given u })) differs);
    })

places_stay : (given : ℕ → ℕ) (b c : Base) (t : ℕ) (ids : List ℕ) → current b t ≡ given t → HasPlace b c t → HasPlace b (fold (set_to given) c ids) t
places_stay given b c t [] fresh has = has
places_stay given b c t (u ∷ ids) fresh has = places_stay given b (set_to given c u) t ids fresh (place_if given b c t u (u == t) (current c u == given u) refl refl fresh has)

-- a task whose own priority doesn't change keeps its row and its place
pub resettled_place : (b : Base) (m : Mutexes) (t : ℕ) → KeepsPlace b t → current b t ≡ current_of b m t → KeepsPlace (resettle b m) t
resettled_place b m t is fresh = subst (λ (c : Base). KeepsPlace c t) (sym (resettled_to b m)) (places_stay (current_of b m) b b t (taken_from 1 (drop 1 b.tasks)) fresh (record { row = refl; place = is })).place

-- ---- nothing to take over

same_if : (b c : Base) (same : Bool) → same ≡ true → cond same b c ≡ b
same_if b c true is = refl
same_if b c false is = absurd (cc is)

each_same : {A : Type 0} → (b : Base) (m : Mutexes) (from : ℕ) (slots : List (Option A)) → 1 ≤ from → ((t : ℕ) → 1 ≤ t → current b t ≡ current_of b m t) → fold (refresh m) b (taken_from from slots) ≡ b
each_same b m from [] one fresh = refl
each_same b m from (None ∷ slots) one fresh = each_same b m (from + 1) slots (omega (arith, one)) fresh
each_same b m from (Some k ∷ slots) one fresh =
    let is = fresh from one in
    let test : (current b from == current_of b m from) ≡ true = grind (arith, nat_tests, is) in
    ap (λ c. fold (refresh m) c (taken_from (from + 1) slots)) (same_if b (set_current b from (current_of b m from)) (current b from == current_of b m from) test)
    ∙ each_same b m (from + 1) slots (omega (arith, one)) fresh

-- where each task has the priority of its definition, nothing changes
pub resettled_same : (b : Base) (m : Mutexes) → ((t : ℕ) → 1 ≤ t → current b t ≡ current_of b m t) → resettle b m ≡ b
unfolding resettle
resettled_same b m fresh = each_same b m 1 (drop 1 b.tasks) (omega arith) fresh
