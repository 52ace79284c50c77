-- Where nobody owns a mutex, each task has the priority of its base.
use Rattle.std.proofs.Common.{◌≡◌, ℕ, suc, zero, ◌≤◌, min, Bool, true, false, not, ◌&&◌, ◌||◌, List, [], ◌∷◌, Option, Some, None, refl, cond, ◌∙◌, ap, arith}
use Rattle.std.specs.Prelude.{drop, filter, fold}
use Rattle.std.specs.Bool.{◌==◌}
use Rattle.std.proofs.lemmas.Bool.Decides.{nat_tests}
use Rattle.kernel_model.specs.Words.Orders.{taken_from}
use Rattle.kernel_model.specs.Tasks.Base.{Base, base_of, task_at}
use Rattle.object_model.specs.declared.mutexes.Mutex.{Mutex}
use Rattle.object_model.specs.Mutexes.Tables.{Mutexes, awaited, mutex_at, owner_in, owner_of}
use Rattle.object_model.specs.Mutexes.Priority.{capped, chain_has, current_of, heir_in, is_alive, lends_to, lowered, next_in_chain, own}

passed_over : (id : ℕ) (rest : List ℕ) (owner t : ℕ) → owner ≡ 0 → 1 ≤ t → cond (owner == t) (id ∷ rest) rest ≡ rest
passed_over id rest owner t none one = test_fails (owner == t) (grind (arith, nat_tests, none, one))
  where
    test_fails : (test : Bool) → test ≡ false → cond test (id ∷ rest) rest ≡ rest
    test_fails true is = absurd (cc is)
    test_fails false is = refl

-- nobody holds one
held_none : (m : Mutexes) (t : ℕ) (ids : List ℕ) → ((id : ℕ) → owner_of m id ≡ 0) → 1 ≤ t → filter (λ id. owner_of m id == t) ids ≡ []
held_none m t [] free one = refl
held_none m t (id ∷ ids) free one = passed_over id (filter (λ id. owner_of m id == t) ids) (owner_of m id) t (free id) one ∙ held_none m t ids free one

heir_if : (inherits : Bool) (owner : ℕ) → owner ≡ 0 → cond inherits owner 0 ≡ 0
heir_if true owner none = none
heir_if false owner none = refl

no_heir : (o : Option Mutex) → owner_in o ≡ 0 → heir_in o ≡ 0
no_heir None none = refl
no_heir (Some k) none = heir_if k.inherits k.owner none

-- no chain goes on
chain_alone : (next : ℕ → ℕ) (t u n : ℕ) → next u ≡ 0 → chain_has next t n u ≡ true → u ≡ t
unfolding chain_has
chain_alone next t u zero none is = grind (arith, nat_tests, is)
chain_alone next t u (suc n) none is = alone (u == t) (not (next u == 0)) (chain_has next t n (next u)) refl (grind (arith, nat_tests, none)) is
  where
    alone : (same goes later : Bool) → (u == t) ≡ same → goes ≡ false → (same || (goes && later)) ≡ true → u ≡ t
    alone true goes later at stops is = grind (arith, nat_tests, at)
    alone false true later at stops is = absurd (cc stops)
    alone false false later at stops is = absurd (cc is)

second : (first second : Bool) → (first && second) ≡ true → second ≡ true
second true later is = is
second false later is = absurd (cc is)

lowered_same : (n least : ℕ) (test : Bool) → (test ≡ true → n ≡ least) → cond test (min n least) least ≡ least
lowered_same n least true same = let is = same refl in omega (arith, is)
lowered_same n least false same = refl

-- where each that lends has the least so far, it stays
pub least_same : (b : Base) (m : Mutexes) (t least : ℕ) (ids : List ℕ) → ((u : ℕ) → lends_to b m t u ≡ true → own b m u ≡ least) → fold (lowered b m t) least ids ≡ least
least_same b m t least [] same = refl
least_same b m t least (u ∷ ids) same = ap (λ n. fold (lowered b m t) n ids) (lowered_same (own b m u) least (lends_to b m t u) (same u)) ∙ least_same b m t least ids same

pub either_way : (least base : ℕ) (test : Bool) → least ≡ base → cond test least base ≡ base
either_way least base true same = same
either_way least base false same = refl

pub current_unowned : (b : Base) (m : Mutexes) (t : ℕ) → ((id : ℕ) → owner_of m id ≡ 0) → 1 ≤ t → current_of b m t ≡ base_of b t
unfolding current_of
current_unowned b m t free one =
    let alone : own b m t ≡ base_of b t = ap (fold (capped m) (base_of b t)) (held_none m t m.locks free one) in
    let lent : (u : ℕ) → lends_to b m t u ≡ true → own b m u ≡ own b m t = λ u lends. ap (own b m) (chain_alone (next_in_chain b m) t u 255 (no_heir (mutex_at m (awaited b u)) (free (awaited b u))) (second (is_alive (task_at b u)) (chain_has (next_in_chain b m) t 255 u) lends)) in
    either_way (fold (lowered b m t) (own b m t) (taken_from 1 (drop 1 b.tasks))) (base_of b t) (is_alive (task_at b t)) (least_same b m t (own b m t) (taken_from 1 (drop 1 b.tasks)) lent ∙ alone)
