-- A changed current priority changes nothing of what current priorities follow from.
use Rattle.std.proofs.Common.{◌≡◌, ℕ, zero, suc, ◌+◌, ◌≤◌, min, Bool, true, false, not, ◌&&◌, ◌||◌, List, [], ◌∷◌, length, Option, Some, None, refl, cond, ◌∙◌, ap, sym, subst}
use Rattle.std.specs.Prelude.{drop, fold, slice_index, slice_set}
use Rattle.std.specs.Bool.{◌==◌}
use Rattle.tk_types.specs.declared.task.Task.{Task}
use Rattle.kernel_model.specs.Words.Orders.{entry, taken_from}
use Rattle.kernel_model.specs.Tasks.Base.{Base, base_in, base_of, current, set_current, task_at}
use Rattle.kernel_lemmas.proofs.Tables.{entry_each, entry_split, entry_there}
use Rattle.object_model.specs.Mutexes.Tables.{Mutexes, awaited, awaited_in, held, mutex_at}
use Rattle.object_model.specs.Mutexes.Priority.{capped, chain_has, current_of, heir_in, is_alive, lends_to, lowered, next_in_chain, own, refresh}
use Rattle.mutex_prio.specs.Lent.{AreFit, least_lent, set_to, settled}

-- what current priorities follow from is the same
pub record IsLike (b c : Base) : Type 0 where
  pub lives : (u : ℕ) → is_alive (task_at c u) ≡ is_alive (task_at b u)
  pub bases : (u : ℕ) → base_of c u ≡ base_of b u
  pub awaits : (u : ℕ) → awaited c u ≡ awaited b u
  pub ids : taken_from 1 (drop 1 c.tasks) ≡ taken_from 1 (drop 1 b.tasks)

pub like_itself : (b : Base) → IsLike b b
like_itself b = record { lives = λ u. refl; bases = λ u. refl; awaits = λ u. refl; ids = refl }

like_then : (b c d : Base) → IsLike b c → IsLike c d → IsLike b d
like_then b c d first later = record {
  lives = λ u. later.lives u ∙ first.lives u;
  bases = λ u. later.bases u ∙ first.bases u;
  awaits = λ u. later.awaits u ∙ first.awaits u;
  ids = later.ids ∙ first.ids;
}

-- ---- the same priority by definition

own_alike : (b c : Base) (m : Mutexes) (u : ℕ) → IsLike b c → own c m u ≡ own b m u
own_alike b c m u like = ap (λ base. fold (capped m) base (held m u)) (like.bases u)

chain_alike : (next other : ℕ → ℕ) (t n u : ℕ) → ((v : ℕ) → next v ≡ other v) → chain_has next t n u ≡ chain_has other t n u
unfolding chain_has
chain_alike next other t zero u same = refl
chain_alike next other t (suc n) u same =
    ap (λ v. u == t || (not (v == 0) && chain_has next t n v)) (same u)
    ∙ ap (λ later. u == t || (not (other u == 0) && later)) (chain_alike next other t n (other u) same)

lends_alike : (b c : Base) (m : Mutexes) (t u : ℕ) → IsLike b c → lends_to c m t u ≡ lends_to b m t u
lends_alike b c m t u like =
    ap (λ alive. alive && chain_has (next_in_chain c m) t 255 u) (like.lives u)
    ∙ ap (λ reaches. is_alive (task_at b u) && reaches) (chain_alike (next_in_chain c m) (next_in_chain b m) t 255 u (λ v. ap (λ id. heir_in (mutex_at m id)) (like.awaits v)))

lowered_alike : (b c : Base) (m : Mutexes) (t least u : ℕ) → IsLike b c → lowered c m t least u ≡ lowered b m t least u
lowered_alike b c m t least u like =
    ap (λ test. cond test (min (own c m u) least) least) (lends_alike b c m t u like)
    ∙ ap (λ n. cond (lends_to b m t u) (min n least) least) (own_alike b c m u like)

least_alike : (b c : Base) (m : Mutexes) (t least : ℕ) (ids : List ℕ) → IsLike b c → fold (lowered c m t) least ids ≡ fold (lowered b m t) least ids
least_alike b c m t least [] like = refl
least_alike b c m t least (u ∷ ids) like = ap (λ n. fold (lowered c m t) n ids) (lowered_alike b c m t least u like) ∙ least_alike b c m t (lowered b m t least u) ids like

lent_alike : (b c : Base) (m : Mutexes) (t : ℕ) → IsLike b c → least_lent c m t ≡ least_lent b m t
lent_alike b c m t like =
    ap (λ ids. fold (lowered c m t) (own c m t) ids) like.ids
    ∙ ap (λ least. fold (lowered c m t) least (taken_from 1 (drop 1 b.tasks))) (own_alike b c m t like)
    ∙ least_alike b c m t (own b m t) (taken_from 1 (drop 1 b.tasks)) like

current_is : (b : Base) (m : Mutexes) (t : ℕ) → current_of b m t ≡ cond (is_alive (task_at b t)) (least_lent b m t) (base_of b t)
unfolding current_of
current_is b m t = refl

-- ---- a row that is written

taken_written : (from place : ℕ) (slots : List (Option Task)) (k now : Task) → entry slots place ≡ Some k → taken_from from (slice_set slots place (Some now)) ≡ taken_from from slots
taken_written from place [] k now at = absurd (cc at)
taken_written from zero (None ∷ slots) k now at = absurd (cc at)
taken_written from zero (Some other ∷ slots) k now at = refl
taken_written from (suc place) (None ∷ slots) k now at = taken_written (from + 1) place slots k now at
taken_written from (suc place) (Some other ∷ slots) k now at = ap (λ ids. from ∷ ids) (taken_written (from + 1) place slots k now at)

ids_written : (t : ℕ) (tasks : List (Option Task)) (k now : Task) → entry tasks t ≡ Some k → taken_from 1 (drop 1 (slice_set tasks t (Some now))) ≡ taken_from 1 (drop 1 tasks)
ids_written t [] k now at = absurd (cc at)
ids_written zero (slot ∷ tasks) k now at = refl
ids_written (suc place) (slot ∷ tasks) k now at = taken_written 1 place tasks k now at

same_at : {A : Type 0} → (of : Option Task → A) (b : Base) (t : ℕ) (k now : Task) → task_at b t ≡ Some k → of (Some now) ≡ of (Some k) → (u : ℕ) → of (entry (slice_set b.tasks t (Some now)) u) ≡ of (task_at b u)
same_at of b t k now at same = entry_each (λ u o. of o ≡ of (task_at b u)) b.tasks t (Some now) (ap of (entry_there b.tasks t k (Some now) at) ∙ same ∙ ap of (sym at)) (λ u apart. refl)

written_like : (b : Base) (t priority : ℕ) → IsLike b (set_current b t priority)
written_like b t priority = entry_split (IsLike b) (task_at b t) b _ (λ none. like_itself b)
    (λ k at. record {
      lives = same_at is_alive b t k (record k { current = priority }) at refl;
      bases = same_at base_in b t k (record k { current = priority }) at refl;
      awaits = same_at awaited_in b t k (record k { current = priority }) at refl;
      ids = ids_written t b.tasks k (record k { current = priority }) at;
    })

like_if : (b : Base) (t priority : ℕ) (same : Bool) → IsLike b (cond same b (set_current b t priority))
like_if b t priority true = like_itself b
like_if b t priority false = written_like b t priority

-- ---- in the form of the loop

pub like_on : (b c d : Base) (t priority : ℕ) → IsLike b c → d ≡ set_to c t priority → IsLike b d
like_on b c d t priority like is = like_then b c d like (subst (IsLike c) (sym is) (like_if c t priority (current c t == priority)))

pub fit_on : (b c : Base) (all : List ℕ) → IsLike b c → AreFit b all → AreFit c all
fit_on b c all like fit = record { low = λ t below lives. fit.low t below (sym (like.lives t) ∙ lives); high = fit.high }

-- a task takes what its definition says
pub takes : (b c d : Base) (m : Mutexes) (all : List ℕ) (t priority : ℕ) → IsLike b c → slice_index all t ≡ least_lent b m t → priority ≡ settled c all t → d ≡ set_to c t priority → d ≡ refresh m c t
takes b c d m all t priority like lent is set =
    let by_definition : priority ≡ current_of c m t =
    is
    ∙ ap (λ least. cond (is_alive (task_at c t)) least (base_of c t)) (lent ∙ sym (lent_alike b c m t like))
    ∙ sym (current_is c m t) in
    set ∙ ap (set_to c t) by_definition
