-- Where fewer tasks lend their priority to one, and none of these has a higher one by itself, its priority by definition isn't
-- higher. So it is once another task's wait has ended, once that one owns a mutex that was free, and once another one has freed its.
use Rattle.std.proofs.Common.{◌≡◌, ℕ, zero, suc, ◌+◌, ◌≤◌, ◌⊎◌, inl, inr, min, Bool, true, false, not, ◌&&◌, ◌||◌, cond, List, [], ◌∷◌, Option, Some, None, refl, ◌∙◌, ap, sym, subst, arith}
use Rattle.std.specs.Bool.{◌==◌}
use Rattle.std.specs.Prelude.{drop, fold, slice_set}
use Rattle.std.proofs.lemmas.Bool.Decides.{nat_tests}
use Rattle.tk_types.specs.declared.task.Task.{Task}
use Rattle.kernel_model.specs.Words.Orders.{entry, taken_from}
use Rattle.kernel_model.specs.Tasks.Base.{Base, base_in, base_of, task_at}
use Rattle.kernel_lemmas.proofs.Tables.{entry_each, entry_other, entry_same, entry_there}
use Rattle.object_model.specs.Mutexes.Tables.{Mutexes, awaited_in, held, mutex_at}
use Rattle.object_model.specs.Mutexes.Priority.{capped, chain_has, current_of, heir_in, is_alive, lends_to, lowered, next_in_chain, own, under}
use Rattle.mutex_laws.proofs.Least.{alive_if}

-- ---- chains

-- a chain that goes on with a task where it ends, which isn't the one that is meant, or that doesn't go on at all
abbrev pub EndsShort : (ℕ → ℕ) → ℕ → ℕ → Type 0
EndsShort next t u = (next u ≡ 0) ⊎ ((next u ≡ t → ⊥) × (next (next u) ≡ 0))

-- each task is followed by the same one as before, or its chain ends short
abbrev pub GoesNoFurther : (ℕ → ℕ) → (ℕ → ℕ) → ℕ → Type 0
GoesNoFurther before now t = (u : ℕ) → (now u ≡ before u) ⊎ EndsShort now t u

same_by : (a b : ℕ) → (a == b) ≡ true → a ≡ b
same_by a b is = grind (arith, nat_tests, is)

stops_if : (u t : ℕ) (same goes later : Bool) → (u == t) ≡ same → goes ≡ false → (same || (goes && later)) ≡ true → u ≡ t
stops_if u t true goes later at stops is = same_by u t at
stops_if u t false true later at stops is = absurd (cc stops)
stops_if u t false false later at stops is = absurd (cc is)

-- where nobody comes next a chain has its own task alone
pub stops : (next : ℕ → ℕ) (t u n : ℕ) → next u ≡ 0 → chain_has next t n u ≡ true → u ≡ t
unfolding chain_has
stops next t u zero none is = same_by u t is
stops next t u (suc n) none is = stops_if u t (u == t) (not (next u == 0)) (chain_has next t n (next u)) refl (grind (arith, nat_tests, none)) is

either_true : (same goes later : Bool) → same ≡ true → (same || (goes && later)) ≡ true
either_true true goes later is = refl
either_true false goes later is = absurd (cc is)

both_true : (same goes later : Bool) → goes ≡ true → later ≡ true → (same || (goes && later)) ≡ true
both_true true goes later on is = refl
both_true false true later on is = is
both_true false false later on is = absurd (cc on)

step_if : (before now : ℕ → ℕ) (t u n : ℕ) (same goes : Bool) → (u == t) ≡ same → not (now u == 0) ≡ goes → (now u ≡ before u) ⊎ EndsShort now t u →
    (chain_has now t n (now u) ≡ true → chain_has before t n (now u) ≡ true) → (same || (goes && chain_has now t n (now u))) ≡ true →
    ((u == t) || (not (before u == 0) && chain_has before t n (before u))) ≡ true
step_if before now t u n true goes at on next rest is = either_true (u == t) (not (before u == 0)) (chain_has before t n (before u)) at
step_if before now t u n false false at on next rest is = absurd (cc is)
step_if before now t u n false true at on (inl same) rest is =
    both_true (u == t) (not (before u == 0)) (chain_has before t n (before u)) (ap (λ v. not (v == 0)) (sym same) ∙ on) (subst (λ v. chain_has before t n v ≡ true) same (rest is))
step_if before now t u n false true at on (inr (inl none)) rest is = absurd (grind (arith, nat_tests, on, none))
step_if before now t u n false true at on (inr (inr short)) rest is = absurd (short.0 (stops now t (now u) n short.1 is))

-- so a chain that has the task had it before
no_further : (before now : ℕ → ℕ) (t n u : ℕ) → GoesNoFurther before now t → chain_has now t n u ≡ true → chain_has before t n u ≡ true
unfolding chain_has
no_further before now t zero u goes is = is
no_further before now t (suc n) u goes is = step_if before now t u n (u == t) (not (now u == 0)) refl refl (goes u) (no_further before now t n (now u) goes) is

-- ---- the priority by definition

-- fewer lend to a task, and none of them has a higher priority by itself
pub record LendsLess (b c : Base) (m n : Mutexes) (t : ℕ) : Type 0 where
  pub lives : is_alive (task_at b t) ≡ true
  pub lives_still : is_alive (task_at c t) ≡ true
  pub alive : (u : ℕ) → is_alive (task_at c u) ≡ true → is_alive (task_at b u) ≡ true
  pub nexts : GoesNoFurther (next_in_chain b m) (next_in_chain c n) t
  pub itself : own b m t ≤ own c n t
  pub others : (u : ℕ) → 1 ≤ u → lends_to c n t u ≡ true → own b m u ≤ own c n u

and_true : (one other : Bool) → one ≡ true → other ≡ true → (one && other) ≡ true
and_true true other is also = also
and_true false other is also = absurd (cc is)

first_true : (one other : Bool) → (one && other) ≡ true → one ≡ true
first_true true other is = refl
first_true false other is = absurd (cc is)

pub second_true : (one other : Bool) → (one && other) ≡ true → other ≡ true
second_true true other is = is
second_true false other is = absurd (cc is)

lent_before : (b c : Base) (m n : Mutexes) (t u : ℕ) → LendsLess b c m n t → lends_to c n t u ≡ true → lends_to b m t u ≡ true
lent_before b c m n t u less is =
    and_true (is_alive (task_at b u)) (chain_has (next_in_chain b m) t 255 u)
    (less.alive u (first_true (is_alive (task_at c u)) (chain_has (next_in_chain c n) t 255 u) is))
    (no_further (next_in_chain b m) (next_in_chain c n) t 255 u less.nexts (second_true (is_alive (task_at c u)) (chain_has (next_in_chain c n) t 255 u) is))

lowered_if : (one other least larger : ℕ) (lent lends : Bool) → least ≤ larger → (lends ≡ true → lent ≡ true) → (lends ≡ true → one ≤ other) → cond lent (min one least) least ≤ cond lends (min other larger) larger
lowered_if one other least larger true true under kept less = let own_less = less refl in omega (arith, under, own_less)
lowered_if one other least larger true false under kept less = omega (arith, under)
lowered_if one other least larger false false under kept less = under
lowered_if one other least larger false true under kept less = absurd (cc (kept refl))

least_if : {A : Type 0} → (b c : Base) (m n : Mutexes) (t least larger from : ℕ) (slots : List (Option A)) → LendsLess b c m n t → 1 ≤ from → least ≤ larger →
    fold (lowered b m t) least (taken_from from slots) ≤ fold (lowered c n t) larger (taken_from from slots)
least_if b c m n t least larger from [] less one under = under
least_if b c m n t least larger from (None ∷ slots) less one under = least_if b c m n t least larger (from + 1) slots less (omega (arith, one)) under
least_if b c m n t least larger from (Some k ∷ slots) less one under =
    least_if b c m n t (lowered b m t least from) (lowered c n t larger from) (from + 1) slots less (omega (arith, one))
    (lowered_if (own b m from) (own c n from) least larger (lends_to b m t from) (lends_to c n t from) under (lent_before b c m n t from less) (less.others from one))

defined_by : (b c : Base) (m n : Mutexes) (t : ℕ) → LendsLess b c m n t → fold (lowered b m t) (own b m t) (taken_from 1 (drop 1 b.tasks)) ≤ fold (lowered c n t) (own c n t) (taken_from 1 (drop 1 c.tasks)) →
    current_of b m t ≤ current_of c n t
unfolding current_of
defined_by b c m n t less least =
    let before = alive_if (fold (lowered b m t) (own b m t) (taken_from 1 (drop 1 b.tasks))) (base_of b t) (is_alive (task_at b t)) less.lives in
    let now = alive_if (fold (lowered c n t) (own c n t) (taken_from 1 (drop 1 c.tasks))) (base_of c t) (is_alive (task_at c t)) less.lives_still in
    omega (arith, before, now, least)

-- then its priority by definition isn't higher, which is no lower number
pub current_less : (b c : Base) (m n : Mutexes) (t : ℕ) → LendsLess b c m n t → taken_from 1 (drop 1 c.tasks) ≡ taken_from 1 (drop 1 b.tasks) → current_of b m t ≤ current_of c n t
current_less b c m n t less ids =
    let least = least_if b c m n t (own b m t) (own c n t) 1 (drop 1 b.tasks) less (omega arith) less.itself in
    let same : fold (lowered c n t) (own c n t) (taken_from 1 (drop 1 c.tasks)) ≡ fold (lowered c n t) (own c n t) (taken_from 1 (drop 1 b.tasks)) = ap (fold (lowered c n t) (own c n t)) ids in
    defined_by b c m n t less (omega (arith, least, same))

-- ---- a row of a task that waits for no mutex

taken_written : (from place : ℕ) (slots : List (Option Task)) (k now : Task) → entry slots place ≡ Some k → taken_from from (slice_set slots place (Some now)) ≡ taken_from from slots
taken_written from place [] k now at = absurd (cc at)
taken_written from zero (None ∷ slots) k now at = absurd (cc at)
taken_written from zero (Some other ∷ slots) k now at = refl
taken_written from (suc place) (None ∷ slots) k now at = taken_written (from + 1) place slots k now at
taken_written from (suc place) (Some other ∷ slots) k now at = ap (λ ids. from ∷ ids) (taken_written (from + 1) place slots k now at)

pub ids_written : (t : ℕ) (tasks : List (Option Task)) (k now : Task) → entry tasks t ≡ Some k → taken_from 1 (drop 1 (slice_set tasks t (Some now))) ≡ taken_from 1 (drop 1 tasks)
ids_written t [] k now at = absurd (cc at)
ids_written zero (slot ∷ tasks) k now at = refl
ids_written (suc place) (slot ∷ tasks) k now at = taken_written 1 place tasks k now at

no_heir : (m : Mutexes) (id : ℕ) → mutex_at m 0 ≡ None → id ≡ 0 → heir_in (mutex_at m id) ≡ 0
no_heir m id none is = ap (λ other. heir_in (mutex_at m other)) is ∙ ap heir_in none

-- a living task's row is written: it lives still, has its base, and waits for no mutex then
pub record IsIdled (k now : Task) : Type 0 where
  pub lives : is_alive (Some k) ≡ true
  pub lives_still : is_alive (Some now) ≡ true
  pub base : now.base ≡ k.base
  pub awaits : awaited_in (Some now) ≡ 0

abbrev pub with_row : Base → ℕ → Task → Base
with_row b v now = record b { tasks = slice_set b.tasks v (Some now) }

row_less : (b : Base) (m : Mutexes) (t v : ℕ) (k now : Task) → task_at b v ≡ Some k → IsIdled k now → is_alive (task_at b t) ≡ true → mutex_at m 0 ≡ None → LendsLess b (with_row b v now) m m t
row_less b m t v k now at is lives none =
    let tasks : List (Option Task) = slice_set b.tasks v (Some now) in
    let here : entry tasks v ≡ Some now = entry_there b.tasks v k (Some now) at in
    let same_base : (u : ℕ) → base_in (entry tasks u) ≡ base_of b u =
    entry_each (λ u o. base_in o ≡ base_of b u) b.tasks v (Some now) (ap base_in here ∙ is.base ∙ sym (ap base_in at)) (λ u apart. refl) in
    let own_same : (u : ℕ) → own b m u ≡ own (with_row b v now) m u = λ u. ap (λ base. fold (capped m) base (held m u)) (sym (same_base u)) in
    record {
      lives = lives;
      lives_still = entry_each (λ u o. is_alive (task_at b u) ≡ true → is_alive o ≡ true) b.tasks v (Some now) (λ before. ap is_alive here ∙ is.lives_still) (λ u apart before. before) t lives;
      alive = entry_each (λ u o. is_alive o ≡ true → is_alive (task_at b u) ≡ true) b.tasks v (Some now) (λ after. ap is_alive at ∙ is.lives) (λ u apart after. after);
      nexts = entry_each (λ u o. (heir_in (mutex_at m (awaited_in o)) ≡ next_in_chain b m u) ⊎ EndsShort (next_in_chain (with_row b v now) m) t u) b.tasks v (Some now)
          (inr (inl (no_heir m (awaited_in (entry tasks v)) none (ap awaited_in here ∙ is.awaits)))) (λ u apart. inl refl);
      itself = let same = own_same t in omega (arith, same);
      others = λ u one lends. let same = own_same u in omega (arith, same);
    }

-- so no task's priority is higher then
pub row_sinks : (b : Base) (m : Mutexes) (t v : ℕ) (k now : Task) → task_at b v ≡ Some k → IsIdled k now → is_alive (task_at b t) ≡ true → mutex_at m 0 ≡ None → current_of b m t ≤ current_of (with_row b v now) m t
row_sinks b m t v k now at is lives none = current_less b (with_row b v now) m m t (row_less b m t v k now at is lives none) (ids_written v b.tasks k now at)

-- ---- a task that lives no more

-- a slot in which no task lives is written, of another task
abbrev pub with_slot : Base → ℕ → Option Task → Base
with_slot b v now = record b { tasks = slice_set b.tasks v now }

dead_lends_none : (alive reaches : Bool) → alive ≡ false → (alive && reaches) ≡ true → ⊥
dead_lends_none true reaches dead is = cc dead
dead_lends_none false reaches dead is = cc is

gone_less : (b : Base) (m : Mutexes) (t v : ℕ) (now : Option Task) → (v ≡ t → ⊥) → is_alive now ≡ false → awaited_in now ≡ 0 → is_alive (task_at b t) ≡ true → mutex_at m 0 ≡ None → LendsLess b (with_slot b v now) m m t
gone_less b m t v now apart dead idle lives none =
    let tasks : List (Option Task) = slice_set b.tasks v now in
    let gone : is_alive (entry tasks v) ≡ false = entry_same (λ o. is_alive o ≡ false) b.tasks v now dead refl in
    let waits : awaited_in (entry tasks v) ≡ 0 = entry_same (λ o. awaited_in o ≡ 0) b.tasks v now idle refl in
    let still : entry tasks t ≡ task_at b t = entry_other b.tasks v t now (λ e. apart (sym e)) in
    record {
      lives = lives;
      lives_still = ap is_alive still ∙ lives;
      alive = entry_each (λ u o. is_alive o ≡ true → is_alive (task_at b u) ≡ true) b.tasks v now (λ after. absurd (cc (gone, after))) (λ u differs after. after);
      nexts = entry_each (λ u o. (heir_in (mutex_at m (awaited_in o)) ≡ next_in_chain b m u) ⊎ EndsShort (next_in_chain (with_slot b v now) m) t u) b.tasks v now
          (inr (inl (no_heir m (awaited_in (entry tasks v)) none waits))) (λ u differs. inl refl);
      itself = let same : own (with_slot b v now) m t ≡ own b m t = ap (λ o. fold (capped m) (base_in o) (held m t)) still in omega (arith, same);
      others = λ u one lends. own_if u (u == v) refl gone (first_true (is_alive (entry tasks u)) (chain_has (next_in_chain (with_slot b v now) m) t 255 u) lends);
    }
  where
    own_if : (u : ℕ) (same : Bool) → (u == v) ≡ same → is_alive (entry (slice_set b.tasks v now) v) ≡ false → is_alive (entry (slice_set b.tasks v now) u) ≡ true → own b m u ≤ own (with_slot b v now) m u
    own_if u true at gone alive = let e : v ≡ u = grind (arith, nat_tests, at) in let there : is_alive (entry (slice_set b.tasks v now) u) ≡ false = subst (λ (w : ℕ). is_alive (entry (slice_set b.tasks v now) w) ≡ false) e gone in absurd (cc (there, alive))
    own_if u false at gone alive =
        let row : entry (slice_set b.tasks v now) u ≡ task_at b u = entry_other b.tasks v u now (λ e. grind (arith, nat_tests, at, e)) in
        let same : own (with_slot b v now) m u ≡ own b m u = ap (λ o. fold (capped m) (base_in o) (held m u)) row in omega (arith, same)

-- once another task is DORMANT a task's priority isn't higher
pub dead_sinks : (b : Base) (m : Mutexes) (t v : ℕ) (k now : Task) → (v ≡ t → ⊥) → task_at b v ≡ Some k → is_alive (Some now) ≡ false → awaited_in (Some now) ≡ 0 → is_alive (task_at b t) ≡ true → mutex_at m 0 ≡ None →
    current_of b m t ≤ current_of (with_row b v now) m t
dead_sinks b m t v k now apart at dead idle lives none = current_less b (with_row b v now) m m t (gone_less b m t v (Some now) apart dead idle lives none) (ids_written v b.tasks k now at)

lowered_below : (test : Bool) (n least larger : ℕ) → least ≤ larger → cond test (min n least) least ≤ larger
lowered_below true n least larger under = omega (arith, under)
lowered_below false n least larger under = under

least_gone : (b c : Base) (m n : Mutexes) (t least larger from place : ℕ) (slots : List (Option Task)) → LendsLess b c m n t → 1 ≤ from → least ≤ larger →
    fold (lowered b m t) least (taken_from from slots) ≤ fold (lowered c n t) larger (taken_from from (slice_set slots place None))
least_gone b c m n t least larger from place [] less one under = under
least_gone b c m n t least larger from zero (None ∷ slots) less one under = least_if b c m n t least larger (from + 1) slots less (omega (arith, one)) under
least_gone b c m n t least larger from zero (Some k ∷ slots) less one under =
    least_if b c m n t (lowered b m t least from) larger (from + 1) slots less (omega (arith, one)) (lowered_below (lends_to b m t from) (own b m from) least larger under)
least_gone b c m n t least larger from (suc place) (None ∷ slots) less one under = least_gone b c m n t least larger (from + 1) place slots less (omega (arith, one)) under
least_gone b c m n t least larger from (suc place) (Some k ∷ slots) less one under =
    least_gone b c m n t (lowered b m t least from) (lowered c n t larger from) (from + 1) place slots less (omega (arith, one))
    (lowered_if (own b m from) (own c n from) least larger (lends_to b m t from) (lends_to c n t from) under (lent_before b c m n t from less) (less.others from one))

dropped_gone : (b c : Base) (m n : Mutexes) (t v : ℕ) (tasks : List (Option Task)) → LendsLess b c m n t →
    fold (lowered b m t) (own b m t) (taken_from 1 (drop 1 tasks)) ≤ fold (lowered c n t) (own c n t) (taken_from 1 (drop 1 (slice_set tasks v None)))
dropped_gone b c m n t v [] less = less.itself
dropped_gone b c m n t zero (slot ∷ tasks) less = least_if b c m n t (own b m t) (own c n t) 1 tasks less (omega arith) less.itself
dropped_gone b c m n t (suc place) (slot ∷ tasks) less = least_gone b c m n t (own b m t) (own c n t) 1 place tasks less (omega arith) less.itself

-- nor is it once another task is deleted
pub gone_sinks : (b : Base) (m : Mutexes) (t v : ℕ) → (v ≡ t → ⊥) → is_alive (task_at b t) ≡ true → mutex_at m 0 ≡ None → current_of b m t ≤ current_of (with_slot b v None) m t
gone_sinks b m t v apart lives none =
    let less = gone_less b m t v None apart refl refl lives none in defined_by b (with_slot b v None) m m t less (dropped_gone b (with_slot b v None) m m t v b.tasks less)
