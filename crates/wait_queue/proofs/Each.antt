-- What holds of each waiter, through the moves on a list.
use Rattle.std.proofs.Common.{◌≡◌, ℕ, zero, suc, ◌<◌, Bool, true, false, List, [], ◌∷◌, length, cond, map, get_or, set, sym, subst, arith}
use Rattle.std.specs.List.{filter, AllByRecursion}
use Rattle.wait_queue.specs.declared.waiters.Waiter.{Waiter}
use Rattle.wait_queue.specs.Queues.{is_ahead, joined}

-- a fact of what each gives, and the same as a fact of each
pub to_map : {X : Type 0} (of : Waiter → X) (P : X → Type 0) (list : List Waiter) → AllByRecursion (λ waiter. P (of waiter)) list → AllByRecursion P (map of list)
to_map of P [] all = tt
to_map of P (first ∷ rest) all = (all.0, to_map of P rest all.1)

pub from_map : {X : Type 0} (of : Waiter → X) (P : X → Type 0) (list : List Waiter) → AllByRecursion P (map of list) → AllByRecursion (λ waiter. P (of waiter)) list
from_map of P [] all = tt
from_map of P (first ∷ rest) all = (all.0, from_map of P rest all.1)

-- a fact that follows from another one
pub each_so : (P Q : Waiter → Type 0) (list : List Waiter) → ((waiter : Waiter) → P waiter → Q waiter) → AllByRecursion P list → AllByRecursion Q list
each_so P Q [] so all = tt
each_so P Q (first ∷ rest) so all = (so first all.0, each_so P Q rest so all.1)

pub each_at : (P : Waiter → Type 0) (list : List Waiter) (at : ℕ) (waiter : Waiter) → AllByRecursion P list → at < length list → waiter ≡ get_or list at waiter → P waiter
each_at P [] at waiter all within is = absurd (omega arith)
each_at P (first ∷ rest) zero waiter all within is = subst P (sym is) all.0
each_at P (first ∷ rest) (suc at) waiter all within is = each_at P rest at waiter all.1 (omega arith) is

pub each_set : (P : Waiter → Type 0) (list : List Waiter) (at : ℕ) (waiter : Waiter) → P waiter → AllByRecursion P list → AllByRecursion P (set list at waiter)
each_set P [] at waiter here all = tt
each_set P (first ∷ rest) zero waiter here all = (here, all.1)
each_set P (first ∷ rest) (suc at) waiter here all = (all.0, each_set P rest at waiter here all.1)

kept_step : (P : Waiter → Type 0) (test : Bool) (first : Waiter) (passed : List Waiter) → P first → AllByRecursion P passed → AllByRecursion P (cond test (first ∷ passed) passed)
kept_step P true first passed front all = (front, all)
kept_step P false first passed front all = all

pub each_filter : (P : Waiter → Type 0) (passes : Waiter → Bool) (list : List Waiter) → AllByRecursion P list → AllByRecursion P (filter passes list)
each_filter P passes [] all = tt
each_filter P passes (first ∷ rest) all = kept_step P (passes first) first (filter passes rest) all.0 (each_filter P passes rest all.1)

joined_step : (P : Waiter → Type 0) (test : Bool) (waiter first : Waiter) (rest behind : List Waiter) → P waiter → P first → AllByRecursion P rest → AllByRecursion P behind → AllByRecursion P (cond test (waiter ∷ first ∷ rest) (first ∷ behind))
joined_step P true waiter first rest behind here front all more = (here, (front, all))
joined_step P false waiter first rest behind here front all more = (front, more)

pub each_joined : (P : Waiter → Type 0) (waiter : Waiter) (list : List Waiter) → P waiter → AllByRecursion P list → AllByRecursion P (joined waiter list)
each_joined P waiter [] here all = (here, tt)
each_joined P waiter (first ∷ rest) here all =
    joined_step P (is_ahead waiter first) waiter first rest (joined waiter rest) here all.0 all.1 (each_joined P waiter rest here all.1)
