-- Where a place is put.
use Rattle.std.proofs.Common.{◌≡◌, ℕ, ◌+◌, Bool, true, false, not, List, [], ◌∷◌, cond, refl, sym, ap, ◌∙◌}
use Rattle.std.specs.List.{insert, position_or_len}
use Rattle.std.proofs.lemmas.Bool.{cond-true}
use Rattle.ready_queue.specs.declared.places.ReadyTask.{ReadyTask}
use Rattle.ready_queue.proofs.Found.{one_more}
use Rattle.ready_queue.specs.Queue.{is_below, put_behind}

inserted_behind : (first place : ReadyTask) (rest : List ReadyTask) (at : ℕ) → insert (first ∷ rest) (1 + at) place ≡ first ∷ insert rest at place
inserted_behind first place rest at = rw (one_more at) refl

put_step : (test : Bool) (place first : ReadyTask) (rest behind : List ReadyTask) (at : ℕ) → behind ≡ insert rest at place →
    cond test (place ∷ first ∷ rest) (first ∷ behind) ≡ insert (first ∷ rest) (cond (not test) (1 + at) 0) place
put_step true place first rest behind at same = refl
put_step false place first rest behind at same = ap (λ list. first ∷ list) same ∙ sym (inserted_behind first place rest at)

-- a place goes in front of the first one of a lower priority
pub put_behind_at : (place : ReadyTask) (list : List ReadyTask) → put_behind place list ≡ insert list (position_or_len (is_below place.priority) list) place
put_behind_at place [] = refl
put_behind_at place (first ∷ rest) =
    put_step (is_below place.priority first) place first rest (put_behind place rest) (position_or_len (is_below place.priority) rest) (put_behind_at place rest)

-- the same, as `put` goes about it: `seen` is the list that was looked through, `done` whether there was room
pub put_by_index : (place : ReadyTask) (list seen new : List ReadyTask) (at : ℕ) (done : Bool) → seen ≡ list → at ≡ position_or_len (is_below place.priority) seen → done ≡ true → new ≡ cond done (insert list at place) list → new ≡ put_behind place list
put_by_index place list seen new at done same index room put =
    put ∙ (cond-true done (insert list at place) list room ∙ (ap (λ i. insert list i place) (index ∙ ap (position_or_len (is_below place.priority)) same) ∙ sym (put_behind_at place list)))
