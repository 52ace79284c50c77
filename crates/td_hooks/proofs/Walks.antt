-- A list in which each ID stands once is walked from one to the one behind it.
use Rattle.std.proofs.Common.{◌≡◌, ℕ, zero, suc, ◌+◌, ◌<◌, ◌≤◌, Bool, true, false, List, [], ◌∷◌, ◌++◌, length, take, drop, Some, None, refl, ap, sym, subst, ◌∙◌, arith, cond}
use Rattle.std.specs.Bool.{◌==◌}
use Rattle.std.specs.Prelude.{slice_get}
use Rattle.kernel_model.specs.LawWords.Once.{IsOnce, times}
use Rattle.kernel_lemmas.proofs.Once.{once_drop}
use Rattle.kernel_lemmas.proofs.Tables.{itself}
use Rattle.kernel_base.specs.Queues.{behind}
use Rattle.td_hooks.specs.Tasks.{left_from}

-- ---- what stands behind one

fewer_if : (t u first : ℕ) (list : List ℕ) (same : Bool) → times u (behind t list) ≤ times u list → times u (cond same list (behind t list)) ≤ cond (first == u) 1 0 + times u list
fewer_if t u first list true rest = omega arith
fewer_if t u first list false rest = omega (arith, rest)

fewer_behind : (t u : ℕ) (list : List ℕ) → times u (behind t list) ≤ times u list
fewer_behind t u [] = omega arith
fewer_behind t u (first ∷ list) = fewer_if t u first list (first == t) (fewer_behind t u list)

here : (u : ℕ) (list : List ℕ) → times u (u ∷ list) ≡ 1 + times u list
here u list = ap (λ test. cond test 1 0 + times u list) (itself u)

-- an ID that stands once, and behind another, isn't the first
past_first : (u first : ℕ) (list : List ℕ) (same : Bool) → (first == u) ≡ same → cond same 1 0 + times u list ≤ 1 → 1 ≤ times u list → cond same list (behind u list) ≡ behind u list
past_first u first list true is one there = absurd (omega (arith, one, there))
past_first u first list false is one there = refl

next_if : (t u first : ℕ) (rest list : List ℕ) (same : Bool) → IsOnce (first ∷ list) → cond same list (behind t list) ≡ u ∷ rest → (behind t list ≡ u ∷ rest → behind u list ≡ rest) → behind u (first ∷ list) ≡ rest
next_if t u first rest list true once is later =
    let there : 1 ≤ times u list = let count : times u list ≡ 1 + times u rest = ap (times u) is ∙ here u rest in omega (arith, count) in
    past_first u first list (first == u) refl (once u) there ∙ ap (behind u) is ∙ ap (λ test. cond test rest (behind u rest)) (itself u)
next_if t u first rest list false once is later =
    let there : 1 ≤ times u list = let count : times u (behind t list) ≡ 1 + times u rest = ap (times u) is ∙ here u rest in let fewer = fewer_behind t u list in omega (arith, count, fewer) in
    past_first u first list (first == u) refl (once u) there ∙ later is

behind_next : (t u : ℕ) (rest list : List ℕ) → IsOnce list → behind t list ≡ u ∷ rest → behind u list ≡ rest
behind_next t u rest [] once is = absurd (cc is)
behind_next t u rest (first ∷ list) once is = next_if t u first rest list (first == t) once is (λ later. behind_next t u rest list (once_drop first list once) later)

-- what is left from the next one on is what stands behind the one before
left_by : (t : ℕ) (list rest : List ℕ) → IsOnce list → behind t list ≡ rest → left_from (slice_get rest 0) list ≡ rest
left_by t list [] once is = refl
left_by t list (u ∷ rest) once is = ap (λ others. u ∷ others) (behind_next t u rest list once is)

left_next : (t : ℕ) (list : List ℕ) → IsOnce list → left_from (slice_get (behind t list) 0) list ≡ behind t list
left_next t list once = left_by t list (behind t list) once refl

-- ---- the walk

-- all is left from the first one on
pub walk_begins : (list : List ℕ) → drop 0 list ≡ left_from (slice_get list 0) list
walk_begins [] = refl
walk_begins (t ∷ list) = ap (λ test. t ∷ cond test list (behind t list)) (sym (itself t))

drop_one : (list rest : List ℕ) (n t : ℕ) → drop n list ≡ t ∷ rest → drop (suc n) list ≡ rest
drop_one [] rest zero t is = absurd (cc is)
drop_one [] rest (suc n) t is = absurd (cc is)
drop_one (first ∷ list) rest zero t is = cc is
drop_one (first ∷ list) rest (suc n) t is = drop_one list rest n t is

take_one : (list rest : List ℕ) (n t : ℕ) → drop n list ≡ t ∷ rest → take (suc n) list ≡ take n list ++ t ∷ []
take_one [] rest zero t is = absurd (cc is)
take_one [] rest (suc n) t is = absurd (cc is)
take_one (first ∷ list) rest zero t is = let same : first ≡ t = cc is in ap (λ id. id ∷ []) same
take_one (first ∷ list) rest (suc n) t is = ap (λ others. first ∷ others) (take_one list rest n t is)

more_left : (list rest : List ℕ) (n t : ℕ) → drop n list ≡ t ∷ rest → n < length list
more_left [] rest zero t is = absurd (cc is)
more_left [] rest (suc n) t is = absurd (cc is)
more_left (first ∷ list) rest zero t is = omega arith
more_left (first ∷ list) rest (suc n) t is = let less = more_left list rest n t is in omega (arith, less)

stands_in : (list rest : List ℕ) (n t : ℕ) → drop n list ≡ t ∷ rest → 1 ≤ times t list
stands_in [] rest zero t is = absurd (cc is)
stands_in [] rest (suc n) t is = absurd (cc is)
stands_in (first ∷ list) rest zero t is = let same : first ≡ t = cc is in let count : times first (first ∷ list) ≡ 1 + times first list = here first list in subst (λ (id : ℕ). 1 ≤ times id (first ∷ list)) same (omega (arith, count))
stands_in (first ∷ list) rest (suc n) t is = let more = stands_in list rest n t is in omega (arith, more)

-- one of a list was passed
pub record IsPassed (list : List ℕ) (n t : ℕ) : Type 0 where
  pub further : drop (n + 1) list ≡ left_from (slice_get (behind t list) 0) list
  pub taken : take (n + 1) list ≡ take n list ++ t ∷ []
  pub short : n < length list
  pub stands : 1 ≤ times t list

one_more : (n : ℕ) → n + 1 ≡ suc n
one_more n = omega arith

pub passed : (list : List ℕ) (n t : ℕ) → IsOnce list → drop n list ≡ left_from (Some t) list → IsPassed list n t
passed list n t once left = record {
  further = ap (λ k. drop k list) (one_more n) ∙ drop_one list (behind t list) n t left ∙ sym (left_next t list once);
  taken = ap (λ k. take k list) (one_more n) ∙ take_one list (behind t list) n t left;
  short = more_left list (behind t list) n t left;
  stands = stands_in list (behind t list) n t left;
}

-- where none is left all were passed
pub walk_ends : (list : List ℕ) (n : ℕ) → drop n list ≡ left_from None list → take n list ≡ list
walk_ends [] zero none = refl
walk_ends [] (suc n) none = refl
walk_ends (t ∷ list) zero none = absurd (cc none)
walk_ends (t ∷ list) (suc n) none = ap (λ others. t ∷ others) (walk_ends list n none)

pub spent : (list : List ℕ) (n : ℕ) → drop n list ≡ left_from None list → length list ≤ n
spent [] n none = omega arith
spent (t ∷ list) zero none = absurd (cc none)
spent (t ∷ list) (suc n) none = let rest = spent list n none in omega (arith, rest)
