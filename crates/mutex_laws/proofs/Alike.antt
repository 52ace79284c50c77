-- The current priority by definition doesn't look at the current priorities that tasks have, nor at the orders: it is the same
-- for two bases whose tasks have the same lives, bases and waits.
use Rattle.std.proofs.Common.{◌≡◌, ℕ, suc, zero, ◌+◌, min, not, ◌&&◌, ◌||◌, List, [], ◌∷◌, Option, Some, None, refl, cond, ◌∙◌, ap, sym}
use Rattle.std.specs.Prelude.{drop, fold, slice_set}
use Rattle.std.specs.Bool.{◌==◌}
use Rattle.tk_types.specs.declared.task.Task.{Task}
use Rattle.kernel_model.specs.Words.Orders.{entry, taken_from}
use Rattle.kernel_model.specs.Tasks.Base.{Base, base_in, base_of, set_current, task_at}
use Rattle.kernel_lemmas.proofs.Tables.{entry_each, entry_split, entry_there}
use Rattle.object_model.specs.Mutexes.Tables.{Mutexes, awaited, awaited_in, held, mutex_at}
use Rattle.object_model.specs.Mutexes.Priority.{capped, chain_has, current_of, heir_in, is_alive, lends_to, lowered, next_in_chain, own}

-- what the current priority looks at is the same
pub record IsLike (b c : Base) : Type 0 where
  pub lives : (u : ℕ) → is_alive (task_at c u) ≡ is_alive (task_at b u)
  pub bases : (u : ℕ) → base_of c u ≡ base_of b u
  pub awaits : (u : ℕ) → awaited c u ≡ awaited b u
  pub ids : taken_from 1 (drop 1 c.tasks) ≡ taken_from 1 (drop 1 b.tasks)

pub like_itself : (b : Base) → IsLike b b
like_itself b = record { lives = λ u. refl; bases = λ u. refl; awaits = λ u. refl; ids = refl }

pub like_then : (b c d : Base) → IsLike b c → IsLike c d → IsLike b d
like_then b c d first later = record {
  lives = λ u. later.lives u ∙ first.lives u;
  bases = λ u. later.bases u ∙ first.bases u;
  awaits = λ u. later.awaits u ∙ first.awaits u;
  ids = later.ids ∙ first.ids;
}

-- ---- the same current priority

own_alike : (b c : Base) (m : Mutexes) (u : ℕ) → IsLike b c → own c m u ≡ own b m u
own_alike b c m u like = ap (λ base. fold (capped m) base (held m u)) (like.bases u)

-- two next functions that are the same find the same
pub chain_alike : (next other : ℕ → ℕ) (t n u : ℕ) → ((v : ℕ) → next v ≡ other v) → chain_has next t n u ≡ chain_has other t n u
unfolding chain_has
chain_alike next other t zero u same = refl
chain_alike next other t (suc n) u same =
    ap (λ v. u == t || (not (v == 0) && chain_has next t n v)) (same u)
    ∙ ap (λ later. u == t || (not (other u == 0) && later)) (chain_alike next other t n (other u) same)

next_alike : (b c : Base) (m : Mutexes) (v : ℕ) → IsLike b c → next_in_chain c m v ≡ next_in_chain b m v
next_alike b c m v like = ap (λ id. heir_in (mutex_at m id)) (like.awaits v)

lends_alike : (b c : Base) (m : Mutexes) (t u : ℕ) → IsLike b c → lends_to c m t u ≡ lends_to b m t u
lends_alike b c m t u like =
    ap (λ alive. alive && chain_has (next_in_chain c m) t 255 u) (like.lives u)
    ∙ ap (λ reaches. is_alive (task_at b u) && reaches) (chain_alike (next_in_chain c m) (next_in_chain b m) t 255 u (λ v. next_alike b c m v like))

lowered_alike : (b c : Base) (m : Mutexes) (t least u : ℕ) → IsLike b c → lowered c m t least u ≡ lowered b m t least u
lowered_alike b c m t least u like =
    ap (λ test. cond test (min (own c m u) least) least) (lends_alike b c m t u like)
    ∙ ap (λ n. cond (lends_to b m t u) (min n least) least) (own_alike b c m u like)

least_alike : (b c : Base) (m : Mutexes) (t least : ℕ) (ids : List ℕ) → IsLike b c → fold (lowered c m t) least ids ≡ fold (lowered b m t) least ids
least_alike b c m t least [] like = refl
least_alike b c m t least (u ∷ ids) like =
    ap (λ n. fold (lowered c m t) n ids) (lowered_alike b c m t least u like)
    ∙ least_alike b c m t (lowered b m t least u) ids like

pub current_alike : (b c : Base) (m : Mutexes) (t : ℕ) → IsLike b c → current_of c m t ≡ current_of b m t
unfolding current_of
current_alike b c m t like =
    ap (λ alive. cond alive (fold (lowered c m t) (own c m t) (taken_from 1 (drop 1 c.tasks))) (base_of c t)) (like.lives t)
    ∙ ap (λ base. cond (is_alive (task_at b t)) (fold (lowered c m t) (own c m t) (taken_from 1 (drop 1 c.tasks))) base) (like.bases t)
    ∙ ap (λ ids. cond (is_alive (task_at b t)) (fold (lowered c m t) (own c m t) ids) (base_of b t)) like.ids
    ∙ ap (λ least. cond (is_alive (task_at b t)) (fold (lowered c m t) least (taken_from 1 (drop 1 b.tasks))) (base_of b t)) (own_alike b c m t like)
    ∙ ap (λ least. cond (is_alive (task_at b t)) least (base_of b t)) (least_alike b c m t (own b m t) (taken_from 1 (drop 1 b.tasks)) like)

-- ---- a row that is written

taken_written : (from place : ℕ) (slots : List (Option Task)) (k now : Task) → entry slots place ≡ Some k → taken_from from (slice_set slots place (Some now)) ≡ taken_from from slots
taken_written from place [] k now at = absurd (cc at)
taken_written from zero (None ∷ slots) k now at = absurd (cc at)
taken_written from zero (Some other ∷ slots) k now at = refl
taken_written from (suc place) (None ∷ slots) k now at = taken_written (from + 1) place slots k now at
taken_written from (suc place) (Some other ∷ slots) k now at = ap (λ ids. from ∷ ids) (taken_written (from + 1) place slots k now at)

ids_written : (t : ℕ) (tasks : List (Option Task)) (k now : Task) → entry tasks t ≡ Some k → taken_from 1 (drop 1 (slice_set tasks t (Some now))) ≡ taken_from 1 (drop 1 tasks)
ids_written t [] k now at = absurd (cc at)
ids_written zero (slot ∷ tasks) k now at = refl
ids_written (suc place) (slot ∷ tasks) k now at = taken_written 1 place tasks k now at

same_at : {A : Type 0} → (of : Option Task → A) (b : Base) (t : ℕ) (k now : Task) → task_at b t ≡ Some k → of (Some now) ≡ of (Some k) → (u : ℕ) → of (entry (slice_set b.tasks t (Some now)) u) ≡ of (task_at b u)
same_at of b t k now at same = entry_each (λ u o. of o ≡ of (task_at b u)) b.tasks t (Some now) (ap of (entry_there b.tasks t k (Some now) at) ∙ same ∙ ap of (sym at)) (λ u apart. refl)

-- a changed current priority is nothing that it looks at
pub set_current_like : (b : Base) (t priority : ℕ) → IsLike b (set_current b t priority)
set_current_like b t priority = entry_split (IsLike b) (task_at b t) b _ (λ none. like_itself b)
    (λ k at. record {
      lives = same_at is_alive b t k (record k { current = priority }) at refl;
      bases = same_at base_in b t k (record k { current = priority }) at refl;
      awaits = same_at awaited_in b t k (record k { current = priority }) at refl;
      ids = ids_written t b.tasks k (record k { current = priority }) at;
    })
