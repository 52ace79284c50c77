-- The head of a sorted order is the best that one pass finds.
use Rattle.std.proofs.Common.{◌≡◌, ℕ, Bool, true, false, nat_lt, List, [], ◌∷◌, Option, Some, None, refl, cond, ◌∙◌, ap}
use Rattle.std.specs.Prelude.{filter, fold, unwrap_or}
use Rattle.kernel_model.specs.Words.Orders.{insert_behind, head_or_zero}
use Rattle.kernel_model.specs.LawWords.Choice.{better_than, best_of}
use Rattle.kernel_model.specs.Tasks.Base.{Base, is_ready, current, chosen, ready_list}

abbrev pub head : List ℕ → Option ℕ
head [] = None
head (id ∷ ids) = Some id

head_by : (b : Bool) (id first : ℕ) (ids rest : List ℕ) → head (cond b (id ∷ first ∷ ids) (first ∷ rest)) ≡ cond b (Some id) (Some first)
head_by true id first ids rest = refl
head_by false id first ids rest = refl

-- the head after an insertion is the better one of the head and what was inserted
pub head_insert : (key : ℕ → ℕ) (id : ℕ) (sorted : List ℕ) → head (insert_behind key id sorted) ≡ better_than key (head sorted) id
head_insert key id [] = refl
head_insert key id (first ∷ ids) = head_by (nat_lt (key id) (key first)) id first ids (insert_behind key id ids)

abbrev pub sorted_onto : (ℕ → ℕ) → List ℕ → List ℕ → List ℕ
sorted_onto key sorted ids = fold (λ sorted id. insert_behind key id sorted) sorted ids

head_step : (passes : ℕ → Bool) (key : ℕ → ℕ) (id : ℕ) (ids : List ℕ) →
    ((sorted : List ℕ) → head (sorted_onto key sorted (filter passes ids)) ≡ best_of passes key (head sorted) ids) →
    (sorted : List ℕ) (b : Bool) →
    head (sorted_onto key sorted (cond b (id ∷ filter passes ids) (filter passes ids))) ≡ best_of passes key (cond b (better_than key (head sorted) id) (head sorted)) ids
head_step passes key id ids rest sorted true = rest (insert_behind key id sorted) ∙ ap (λ best. best_of passes key best ids) (head_insert key id sorted)
head_step passes key id ids rest sorted false = rest sorted

head_sorted : (passes : ℕ → Bool) (key : ℕ → ℕ) (ids sorted : List ℕ) → head (sorted_onto key sorted (filter passes ids)) ≡ best_of passes key (head sorted) ids
head_sorted passes key [] sorted = refl
head_sorted passes key (id ∷ ids) sorted = head_step passes key id ids (head_sorted passes key ids) sorted (passes id)

head_or_zero_is : (ids : List ℕ) → head_or_zero ids ≡ unwrap_or (head ids) 0
head_or_zero_is [] = refl
head_or_zero_is (id ∷ ids) = refl

-- the chosen task is the best ready one in the order of precedence, or 0
pub chosen_is_best : (b : Base) → chosen b ≡ unwrap_or (best_of (is_ready b) (current b) None b.order) 0
unfolding chosen
chosen_is_best b = head_or_zero_is (ready_list b) ∙ ap (λ o. unwrap_or o 0) (head_sorted (is_ready b) (current b) b.order [])
