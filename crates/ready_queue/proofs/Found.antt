-- The first one in a list that passes a test: what stands at its index, and what a filter leaves in front.
use Rattle.std.proofs.Common.{◌≡◌, ℕ, suc, ◌+◌, ◌<◌, ◌≤◌, Bool, true, false, not, ◌||◌, nat_lt, List, [], ◌∷◌, length, cond, get_or, Some, None, refl, sym, ap, ◌∙◌, arith}
use Rattle.std.specs.List.{filter, list_any, position, position_or_len}
use Rattle.std.proofs.lemmas.Bool.{ltb-true, ltb-false}

pub one_more : (n : ℕ) → 1 + n ≡ suc n
one_more n = omega arith

within_step : (test any : Bool) (at count : ℕ) → (any ≡ true → at < count) → (test || any) ≡ true → cond (not test) (1 + at) 0 < suc count
within_step true any at count behind found = omega arith
within_step false any at count behind found = omega (arith, behind found)

-- where some one passes, the first that does is within the list
pub found_within : {X : Type 0} (passes : X → Bool) (list : List X) → list_any passes list ≡ true → position_or_len passes list < length list
found_within passes [] found = absurd (cc found)
found_within passes (first ∷ rest) found =
    within_step (passes first) (list_any passes rest) (position_or_len passes rest) (length rest) (found_within passes rest) found

front_step : {X : Type 0} (test : Bool) (first none : X) (rest passed : List X) (at : ℕ) →
    (at < length rest → (behind : List X) × (passed ≡ get_or rest at none ∷ behind)) → cond (not test) (1 + at) 0 < suc (length rest) →
    (behind : List X) × (cond test (first ∷ passed) passed ≡ get_or (first ∷ rest) (cond (not test) (1 + at) 0) none ∷ behind)
front_step true first none rest passed at front within = (passed, refl)
front_step false first none rest passed at front within = let e = front (omega arith) in (e.0, rw (one_more at) e.1)

-- the first of those that pass stands at the first index that passes
pub found_front : {X : Type 0} (passes : X → Bool) (list : List X) (none : X) → position_or_len passes list < length list →
    (behind : List X) × (filter passes list ≡ get_or list (position_or_len passes list) none ∷ behind)
found_front passes [] none within = absurd (omega arith)
found_front passes (first ∷ rest) none within =
    front_step (passes first) first none rest (filter passes rest) (position_or_len passes rest) (found_front passes rest none) within

nothing_step : {X : Type 0} (test : Bool) (first : X) (rest passed : List X) (at : ℕ) → (length rest ≤ at → passed ≡ []) → suc (length rest) ≤ cond (not test) (1 + at) 0 → cond test (first ∷ passed) passed ≡ []
nothing_step true first rest passed at behind past = absurd (omega arith)
nothing_step false first rest passed at behind past = behind (omega arith)

-- where no index passes, nothing does
pub found_nothing : {X : Type 0} (passes : X → Bool) (list : List X) → length list ≤ position_or_len passes list → filter passes list ≡ []
found_nothing passes [] past = refl
found_nothing passes (first ∷ rest) past =
    nothing_step (passes first) first rest (filter passes rest) (position_or_len passes rest) (found_nothing passes rest) past

-- ---- by `position`

at_step : (test : Bool) (at place : ℕ) → Some at ≡ cond test (Some place) None → (test ≡ true) × (at ≡ place)
at_step true at place e = (refl, cc)
at_step false at place e = absurd (cc e)

pub found_at : {X : Type 0} (passes : X → Bool) (list : List X) (at : ℕ) → Some at ≡ position passes list → (at < length list) × (at ≡ position_or_len passes list)
found_at passes list at e =
    let parts = at_step (nat_lt (position_or_len passes list) (length list)) at (position_or_len passes list) e in
    (omega (arith, parts.1, ltb-true (position_or_len passes list) (length list) parts.0), parts.1)

past_step : (test : Bool) (place : ℕ) → None ≡ cond test (Some place) None → test ≡ false
past_step true place e = absurd (cc e)
past_step false place e = refl

pub found_past : {X : Type 0} (passes : X → Bool) (list : List X) → None ≡ position passes list → length list ≤ position_or_len passes list
found_past passes list e = ltb-false (position_or_len passes list) (length list) (past_step (nat_lt (position_or_len passes list) (length list)) (position_or_len passes list) e)

-- ---- filters

pub here_is : {X : Type 0} (test : Bool) (first : X) (rest : List X) → test ≡ true → cond test (first ∷ rest) rest ≡ first ∷ rest
here_is true first rest e = refl
here_is false first rest e = absurd (cc e)

pub not_here : {X : Type 0} (test : Bool) (first : X) (rest : List X) → test ≡ false → cond test (first ∷ rest) rest ≡ rest
not_here true first rest e = absurd (cc e)
not_here false first rest e = refl

swapped_step : {X : Type 0} (p q : Bool) (first : X) (rest : List X) (passes passed : X → Bool) → passes first ≡ p → passed first ≡ q →
    filter passes (filter passed rest) ≡ filter passed (filter passes rest) →
    filter passes (cond q (first ∷ filter passed rest) (filter passed rest)) ≡ filter passed (cond p (first ∷ filter passes rest) (filter passes rest))
swapped_step true true first rest passes passed is was same =
    here_is (passes first) first (filter passes (filter passed rest)) is ∙ (ap (λ l. first ∷ l) same ∙ sym (here_is (passed first) first (filter passed (filter passes rest)) was))
swapped_step true false first rest passes passed is was same = same ∙ sym (not_here (passed first) first (filter passed (filter passes rest)) was)
swapped_step false true first rest passes passed is was same = not_here (passes first) first (filter passes (filter passed rest)) is ∙ same
swapped_step false false first rest passes passed is was same = same

-- it doesn't matter which of two filters comes first
pub swapped : {X : Type 0} (passes passed : X → Bool) (list : List X) → filter passes (filter passed list) ≡ filter passed (filter passes list)
swapped passes passed [] = refl
swapped passes passed (first ∷ rest) = swapped_step (passes first) (passed first) first rest passes passed refl refl (swapped passes passed rest)
