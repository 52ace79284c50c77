-- The current priority is the least of those that are lent.
use Rattle.std.proofs.Common.{◌≡◌, ℕ, ◌<◌, ◌≤◌, min, Bool, true, false, not, ◌&&◌, ◌⊎◌, inl, inr, List, [], ◌∷◌, length, Option, Some, None, refl, cond, ◌∙◌, ap, sym, subst, arith}
use Rattle.std.specs.Prelude.{drop, fold}
use Rattle.std.specs.Bool.{◌==◌}
use Rattle.std.proofs.lemmas.Bool.Decides.{nat_tests}
use Rattle.tk_types.specs.declared.task.Task.{Task}
use Rattle.kernel_model.specs.Words.Orders.{entry, taken_from}
use Rattle.kernel_model.specs.Tasks.Base.{Base, base_of, dormant_in, is_dormant, task_at}
use Rattle.kernel_lemmas.proofs.Tables.{entry_inside}
use Rattle.object_model.specs.Mutexes.Tables.{Mutexes, awaited_in, ceiling_of, held, mutex_at}
use Rattle.object_model.specs.Mutexes.Priority.{capped, chain_has, current_of, heir_in, is_alive, lends_to, lowered, next_in_chain, own, under}
use Rattle.mutex_laws.specs.Chains.{InChain, here, IsCeiling, IsLeast, IsOwn}
use Rattle.mutex_laws.proofs.Chains.{found_stands, stands_found}
use Rattle.mutex_laws.proofs.Taken.{IsOneOf, in_table, one_of, one_times}

-- ---- the priority that a task has by itself

-- one of these mutexes gives a priority by its ceiling
record Gives (m : Mutexes) (ids : List ℕ) (priority : ℕ) : Type 0 where
  id : ℕ
  holds : IsOneOf id ids
  gives : ceiling_of m id ≡ Some priority

later : (m : Mutexes) (first : ℕ) (ids : List ℕ) (priority : ℕ) → Gives m ids priority → Gives m (first ∷ ids) priority
later m first ids priority from = record { id = from.id; holds = inr from.holds; gives = from.gives }

under_below : (ceiling : Option ℕ) (priority : ℕ) → under ceiling priority ≤ priority
under_below None priority = omega arith
under_below (Some c) priority = omega arith

capped_below : (m : Mutexes) (priority : ℕ) (ids : List ℕ) → fold (capped m) priority ids ≤ priority
capped_below m priority [] = omega arith
capped_below m priority (id ∷ ids) = let rest = capped_below m (capped m priority id) ids in let first = under_below (ceiling_of m id) priority in omega (arith, rest, first)

under_ceiling : (o : Option ℕ) (c priority : ℕ) → o ≡ Some c → under o priority ≤ c
under_ceiling o c priority is = rw is (omega arith)

each_ceiling : (m : Mutexes) (priority id c : ℕ) (ids : List ℕ) → IsOneOf id ids → ceiling_of m id ≡ Some c → fold (capped m) priority ids ≤ c
each_ceiling m priority id c [] stands has = absurd stands
each_ceiling m priority id c (first ∷ ids) (inl same) has =
    let rest = capped_below m (capped m priority first) ids in
    let here = under_ceiling (ceiling_of m first) c priority (ap (ceiling_of m) same ∙ has) in
    omega (arith, rest, here)
each_ceiling m priority id c (first ∷ ids) (inr stands) has = each_ceiling m (capped m priority first) id c ids stands has

by_min : (m : Mutexes) (first : ℕ) (ids : List ℕ) (c priority result : ℕ) (less : Bool) → (min c priority == c) ≡ less → ceiling_of m first ≡ Some c → result ≡ min c priority → (result ≡ priority) ⊎ Gives m (first ∷ ids) result
by_min m first ids c priority result true at is same = inr (record { id = first; holds = inl refl; gives = is ∙ ap (λ p. Some p) (sym (same ∙ grind (arith, nat_tests, at))) })
by_min m first ids c priority result false at is same = inl (same ∙ greater (grind (arith, nat_tests, at)))
  where
    greater : (min c priority ≡ c → ⊥) → min c priority ≡ priority
    greater not_c = omega (arith, not_c)

by_under : (m : Mutexes) (first : ℕ) (ids : List ℕ) (o : Option ℕ) (priority result : ℕ) → ceiling_of m first ≡ o → result ≡ under o priority → (result ≡ priority) ⊎ Gives m (first ∷ ids) result
by_under m first ids None priority result is same = inl same
by_under m first ids (Some c) priority result is same = by_min m first ids c priority result (min c priority == c) refl is same

one_gives : (m : Mutexes) (priority : ℕ) (ids : List ℕ) → (fold (capped m) priority ids ≡ priority) ⊎ Gives m ids (fold (capped m) priority ids)
one_gives m priority [] = inl refl
one_gives m priority (first ∷ ids) = step (one_gives m (capped m priority first) ids)
  where
    step : (fold (capped m) (capped m priority first) ids ≡ capped m priority first) ⊎ Gives m ids (fold (capped m) (capped m priority first) ids) → (fold (capped m) (capped m priority first) ids ≡ priority) ⊎ Gives m (first ∷ ids) (fold (capped m) (capped m priority first) ids)
    step (inl same) = by_under m first ids (ceiling_of m first) priority (fold (capped m) (capped m priority first) ids) refl same
    step (inr from) = inr (later m first ids (fold (capped m) (capped m priority first) ids) from)

from_one : (b : Base) (m : Mutexes) (u priority : ℕ) → (priority ≡ base_of b u) ⊎ Gives m (held m u) priority → (priority ≡ base_of b u) ⊎ IsCeiling m u priority
from_one b m u priority (inl same) = inl same
from_one b m u priority (inr from) = inr (record { id = from.id; holds = one_times from.id (held m u) from.holds; gives = from.gives })

-- it is the least of its base and its ceilings
pub own_is : (b : Base) (m : Mutexes) (u : ℕ) → IsOwn b m u (own b m u)
own_is b m u = record {
  under_base = capped_below m (base_of b u) (held m u);
  under_ceilings = λ id c stands has. each_ceiling m (base_of b u) id c (held m u) (one_of id (held m u) stands) has;
  one = from_one b m u (own b m u) (one_gives m (base_of b u) (held m u));
}

-- ---- the least of those that are lent

lowered_below : (test : Bool) (n least : ℕ) → cond test (min n least) least ≤ least
lowered_below true n least = omega arith
lowered_below false n least = omega arith

least_below : (b : Base) (m : Mutexes) (t least : ℕ) (ids : List ℕ) → fold (lowered b m t) least ids ≤ least
least_below b m t least [] = omega arith
least_below b m t least (u ∷ ids) =
    let rest = least_below b m t (lowered b m t least u) ids in
    let first = lowered_below (lends_to b m t u) (own b m u) least in
    omega (arith, rest, first)

lowered_to : (test : Bool) (n least : ℕ) → test ≡ true → cond test (min n least) least ≤ n
lowered_to true n least is = omega arith
lowered_to false n least is = absurd (cc is)

-- a priority that is lent is no lower number
least_of_each : (b : Base) (m : Mutexes) (t u least : ℕ) (ids : List ℕ) → IsOneOf u ids → lends_to b m t u ≡ true → fold (lowered b m t) least ids ≤ own b m u
least_of_each b m t u least [] stands lends = absurd stands
least_of_each b m t u least (first ∷ ids) (inl same) lends =
    let rest = least_below b m t (lowered b m t least first) ids in
    let here = lowered_to (lends_to b m t first) (own b m first) least (ap (lends_to b m t) same ∙ lends) in
    let at : own b m first ≡ own b m u = ap (own b m) same in
    omega (arith, rest, here, at)
least_of_each b m t u least (first ∷ ids) (inr stands) lends = least_of_each b m t u (lowered b m t least first) ids stands lends

-- a task that lends a priority
record Lends (b : Base) (m : Mutexes) (t priority : ℕ) : Type 0 where
  who : ℕ
  lends : lends_to b m t who ≡ true
  gives : priority ≡ own b m who

by_lowered : (b : Base) (m : Mutexes) (t u least result : ℕ) (test less : Bool) → lends_to b m t u ≡ test → (min (own b m u) least == own b m u) ≡ less → result ≡ cond test (min (own b m u) least) least → (result ≡ least) ⊎ Lends b m t result
by_lowered b m t u least result false less lends at same = inl same
by_lowered b m t u least result true true lends at same = inr (record { who = u; lends = lends; gives = same ∙ grind (arith, nat_tests, at) })
by_lowered b m t u least result true false lends at same = inl (same ∙ greater (own b m u) (grind (arith, nat_tests, at)))
  where
    greater : (n : ℕ) → (min n least ≡ n → ⊥) → min n least ≡ least
    greater n not_n = omega (arith, not_n)

one_lends : (b : Base) (m : Mutexes) (t least : ℕ) (ids : List ℕ) → (fold (lowered b m t) least ids ≡ least) ⊎ Lends b m t (fold (lowered b m t) least ids)
one_lends b m t least [] = inl refl
one_lends b m t least (u ∷ ids) = step (one_lends b m t (lowered b m t least u) ids)
  where
    step : (fold (lowered b m t) (lowered b m t least u) ids ≡ lowered b m t least u) ⊎ Lends b m t (fold (lowered b m t) (lowered b m t least u) ids) → (fold (lowered b m t) (lowered b m t least u) ids ≡ least) ⊎ Lends b m t (fold (lowered b m t) (lowered b m t least u) ids)
    step (inl same) = by_lowered b m t u least (fold (lowered b m t) (lowered b m t least u) ids) (lends_to b m t u) (min (own b m u) least == own b m u) refl refl same
    step (inr from) = inr from

-- ---- chains of tasks

both_hold : (first second : Bool) → (first && second) ≡ true → (first ≡ true) × (second ≡ true)
both_hold true second is = (refl, is)
both_hold false second is = absurd (cc is)

and_hold : (first second : Bool) → first ≡ true → second ≡ true → (first && second) ≡ true
and_hold true second is also = also
and_hold false second is also = absurd (cc is)

alive_inside : (tasks : List (Option Task)) (o : Option Task) (t : ℕ) → entry tasks t ≡ o → is_alive o ≡ true → t < length tasks
alive_inside tasks None t at alive = absurd (cc alive)
alive_inside tasks (Some k) t at alive = entry_inside tasks t k at

-- only a task that exists has a next one, where there is no mutex 0
next_inside : (b : Base) (m : Mutexes) (o : Option Task) (v : ℕ) → mutex_at m 0 ≡ None → task_at b v ≡ o → (heir_in (mutex_at m (awaited_in o)) ≡ 0 → ⊥) → v < length b.tasks
next_inside b m None v none at goes = absurd (goes (ap heir_in none))
next_inside b m (Some k) v none at goes = entry_inside b.tasks v k at

low_next : (b : Base) (m : Mutexes) (v : ℕ) → length b.tasks ≤ 256 → mutex_at m 0 ≡ None → (next_in_chain b m v ≡ 0 → ⊥) → v < 256
low_next b m v slots none goes = let inside = next_inside b m (task_at b v) v none refl goes in omega (arith, inside, slots)

low_alive : (b : Base) (t : ℕ) → length b.tasks ≤ 256 → is_alive (task_at b t) ≡ true → t < 256
low_alive b t slots alive = let inside = alive_inside b.tasks (task_at b t) t refl alive in omega (arith, inside, slots)

alive_taken : (b : Base) (u : ℕ) (ids : List ℕ) → (task_at b u ≡ None) ⊎ IsOneOf u ids → is_alive (task_at b u) ≡ true → IsOneOf u ids
alive_taken b u ids (inl free) alive = let dead : is_alive (task_at b u) ≡ false = ap is_alive free in absurd (cc (dead, alive))
alive_taken b u ids (inr stands) alive = stands

least_from : (b : Base) (m : Mutexes) (t least : ℕ) → length b.tasks ≤ 256 → mutex_at m 0 ≡ None → is_alive (task_at b t) ≡ true → least ≡ fold (lowered b m t) (own b m t) (taken_from 1 (drop 1 b.tasks)) →
    (least ≡ own b m t) ⊎ Lends b m t least → IsLeast b m t least
least_from b m t least slots none alive is from = record {
  below = λ u one lives chain. least_lent u (alive_taken b u (taken_from 1 (drop 1 b.tasks)) (in_table u b.tasks one) lives) (and_hold (is_alive (task_at b u)) (chain_has (next_in_chain b m) t 255 u) lives (stands_found (next_in_chain b m) t u (λ v. low_next b m v slots none) (low_alive b t slots alive) chain));
  who = lender from;
  lives = lender_lives from;
  stands = lender_stands from;
  gives = lender_gives from;
}
  where
    least_lent : (u : ℕ) → IsOneOf u (taken_from 1 (drop 1 b.tasks)) → lends_to b m t u ≡ true → least ≤ own b m u
    least_lent u stands lends = let low = least_of_each b m t u (own b m t) (taken_from 1 (drop 1 b.tasks)) stands lends in omega (arith, low, is)

    lender : (least ≡ own b m t) ⊎ Lends b m t least → ℕ
    lender (inl same) = t
    lender (inr from) = from.who

    lender_lives : (from : (least ≡ own b m t) ⊎ Lends b m t least) → is_alive (task_at b (lender from)) ≡ true
    lender_lives (inl same) = alive
    lender_lives (inr from) = (both_hold (is_alive (task_at b from.who)) (chain_has (next_in_chain b m) t 255 from.who) from.lends).0

    lender_stands : (from : (least ≡ own b m t) ⊎ Lends b m t least) → InChain (next_in_chain b m) t (lender from)
    lender_stands (inl same) = here
    lender_stands (inr from) = found_stands (next_in_chain b m) t from.who 255 (both_hold (is_alive (task_at b from.who)) (chain_has (next_in_chain b m) t 255 from.who) from.lends).1

    lender_gives : (from : (least ≡ own b m t) ⊎ Lends b m t least) → least ≡ own b m (lender from)
    lender_gives (inl same) = same
    lender_gives (inr from) = from.gives

pub alive_if : (least base : ℕ) (alive : Bool) → alive ≡ true → cond alive least base ≡ least
alive_if least base true is = refl
alive_if least base false is = absurd (cc is)

-- the current priority of a living task is the least of those that are lent to it
pub current_least : (b : Base) (m : Mutexes) (t : ℕ) → length b.tasks ≤ 256 → mutex_at m 0 ≡ None → is_alive (task_at b t) ≡ true → IsLeast b m t (current_of b m t)
unfolding current_of
current_least b m t slots none alive =
    let ids : List ℕ = taken_from 1 (drop 1 b.tasks) in
    let least : ℕ = fold (lowered b m t) (own b m t) ids in
    subst (IsLeast b m t) (sym (alive_if least (base_of b t) (is_alive (task_at b t)) alive)) (least_from b m t least slots none alive refl (one_lends b m t (own b m t) ids))

pub dead_if : (least base : ℕ) (alive : Bool) → alive ≡ false → cond alive least base ≡ base
dead_if least base true is = absurd (cc is)
dead_if least base false is = refl

dormant_dead : (o : Option Task) → dormant_in o ≡ true → is_alive o ≡ false
dormant_dead None is = absurd (cc is)
dormant_dead (Some k) is = ap not is

-- a DORMANT task has its base
pub current_dormant : (b : Base) (m : Mutexes) (t : ℕ) → is_dormant b t ≡ true → current_of b m t ≡ base_of b t
unfolding current_of
current_dormant b m t dormant = dead_if (fold (lowered b m t) (own b m t) (taken_from 1 (drop 1 b.tasks))) (base_of b t) (is_alive (task_at b t)) (dormant_dead (task_at b t) dormant)
