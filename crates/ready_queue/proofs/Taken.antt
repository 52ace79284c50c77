-- What is left where a task is taken out or moved by its index.
use Rattle.std.proofs.Common.{◌≡◌, ℕ, ◌<◌, ◌≤◌, true, List, ◌∷◌, length, get_or, sym, ap, ◌∙◌, subst}
use Rattle.std.specs.List.{remove, position_or_len}
use Rattle.ready_queue.specs.declared.places.ReadyTask.{ReadyTask}
use Rattle.ready_queue.specs.Queue.{is_of_task, is_of_priority, holds_task, put_behind, without_task, places_of, rotated, first_goes_behind}
use Rattle.ready_queue.specs.Facts.{EachOnce}
use Rattle.ready_queue.proofs.Found.{found_front, found_nothing}
use Rattle.ready_queue.proofs.Keyed.{taken_out, without_at}

-- the first place of a priority is taken out and put behind its equals
pub rotated_at : (priority : ℕ) (list : List ReadyTask) (at : ℕ) (place : ReadyTask) → EachOnce list → at ≡ position_or_len (is_of_priority priority) list → at < length list → place ≡ get_or list at place → put_behind place (remove list at) ≡ rotated priority list
rotated_at priority list at place once found within is =
    let front = found_front (is_of_priority priority) list place (subst (λ (i : ℕ). i < length list) found within) in
    let stands : places_of priority list ≡ place ∷ front.0 = subst (λ (p : ReadyTask). places_of priority list ≡ p ∷ front.0) (ap (λ i. get_or list i place) (sym found) ∙ sym is) front.1 in
    ap (put_behind place) (without_at (λ (p : ReadyTask). p.task) list at place once within is) ∙ ap (λ places. first_goes_behind places list) (sym stands)

-- where there is no place of the priority, nothing changes
pub rotated_past : (priority : ℕ) (list : List ReadyTask) → length list ≤ position_or_len (is_of_priority priority) list → list ≡ rotated priority list
rotated_past priority list past = ap (λ places. first_goes_behind places list) (sym (found_nothing (is_of_priority priority) list past))

-- ---- the same, as the calls go about it: `seen` is the list that was looked through

pub taken_by_index : (task : ℕ) (list seen new : List ReadyTask) (at : ℕ) → EachOnce list → holds_task task list ≡ true → seen ≡ list → at ≡ position_or_len (is_of_task task) seen → new ≡ remove list at → new ≡ without_task task list
taken_by_index task list seen new at once found same index taken =
    taken ∙ (ap (remove list) (index ∙ ap (position_or_len (is_of_task task)) same) ∙ taken_out (λ (p : ReadyTask). p.task) task list (record { task = 0; priority = 0 }) once found)

pub rotated_by_index : (priority : ℕ) (list seen left new : List ReadyTask) (at : ℕ) (place : ReadyTask) → EachOnce list → seen ≡ list → at ≡ position_or_len (is_of_priority priority) seen → at < length list → place ≡ get_or list at place → left ≡ remove list at → new ≡ put_behind place left → new ≡ rotated priority list
rotated_by_index priority list seen left new at place once same index within is taken put =
    put ∙ (ap (put_behind place) taken ∙ rotated_at priority list at place once (index ∙ ap (position_or_len (is_of_priority priority)) same) within is)

pub rotated_by_none : (priority : ℕ) (list seen : List ReadyTask) (at : ℕ) → seen ≡ list → at ≡ position_or_len (is_of_priority priority) seen → length list ≤ at → list ≡ rotated priority list
rotated_by_none priority list seen at same index past =
    rotated_past priority list (subst (λ (i : ℕ). length list ≤ i) (index ∙ ap (position_or_len (is_of_priority priority)) same) past)
