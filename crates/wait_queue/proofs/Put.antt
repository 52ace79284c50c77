-- Where a waiter joins.
use Rattle.std.proofs.Common.{◌≡◌, ℕ, ◌+◌, Bool, true, false, not, List, [], ◌∷◌, length, cond, refl, sym, ap, ◌∙◌, subst}
use Rattle.std.specs.List.{insert, position_or_len}
use Rattle.std.proofs.lemmas.Bool.{cond-true}
use Rattle.tk_types.specs.declared.task.Order.{Order}
use Rattle.tk_types.specs.declared.task.Order.TheVariants.{Fifo}
use Rattle.ready_queue.proofs.Found.{one_more}
use Rattle.wait_queue.specs.declared.waiters.Waiter.{Waiter}
use Rattle.wait_queue.specs.Queues.{goes_ahead, is_ahead, joined}

inserted_behind : (first waiter : Waiter) (rest : List Waiter) (at : ℕ) → insert (first ∷ rest) (1 + at) waiter ≡ first ∷ insert rest at waiter
inserted_behind first waiter rest at = rw (one_more at) refl

put_step : (test : Bool) (waiter first : Waiter) (rest behind : List Waiter) (at : ℕ) → behind ≡ insert rest at waiter →
    cond test (waiter ∷ first ∷ rest) (first ∷ behind) ≡ insert (first ∷ rest) (cond (not test) (1 + at) 0) waiter
put_step true waiter first rest behind at same = refl
put_step false waiter first rest behind at same = ap (λ list. first ∷ list) same ∙ sym (inserted_behind first waiter rest at)

-- a waiter joins at the first index that it is ahead of
pub joined_at : (waiter : Waiter) (list : List Waiter) → joined waiter list ≡ insert list (position_or_len (is_ahead waiter) list) waiter
joined_at waiter [] = refl
joined_at waiter (first ∷ rest) =
    put_step (is_ahead waiter first) waiter first rest (joined waiter rest) (position_or_len (is_ahead waiter) rest) (joined_at waiter rest)

none_ahead_by : (waiter : Waiter) (list : List Waiter) → length list ≡ position_or_len (goes_ahead Fifo waiter) list
none_ahead_by waiter [] = refl
none_ahead_by waiter (first ∷ rest) = sym (one_more (length rest)) ∙ ap (λ n. 1 + n) (none_ahead_by waiter rest)

-- in the order of waiting it is ahead of none
pub none_ahead : (waiter : Waiter) (list : List Waiter) → waiter.order ≡ Fifo → length list ≡ position_or_len (is_ahead waiter) list
none_ahead waiter list order = subst (λ (o : Order). length list ≡ position_or_len (goes_ahead o waiter) list) (sym order) (none_ahead_by waiter list)

-- `seen` is the list that was looked through, `done` whether there was room
pub put_by_index : (waiter : Waiter) (list seen new : List Waiter) (at : ℕ) (done : Bool) → seen ≡ list → at ≡ position_or_len (is_ahead waiter) seen → done ≡ true → new ≡ cond done (insert list at waiter) list → new ≡ joined waiter list
put_by_index waiter list seen new at done same index room put =
    put ∙ (cond-true done (insert list at waiter) list room ∙ (ap (λ i. insert list i waiter) (index ∙ ap (position_or_len (is_ahead waiter)) same) ∙ sym (joined_at waiter list)))
