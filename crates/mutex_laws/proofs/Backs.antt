-- What is left in its place where several take the last place one after another.
use Rattle.std.proofs.Common.{◌≡◌, ℕ, ◌+◌, ◌≤◌, Bool, true, false, not, ◌&&◌, List, [], ◌∷◌, ◌++◌, append-nil, refl, cond, ◌∙◌, ap, sym, arith}
use Rattle.std.specs.Prelude.{filter, fold}
use Rattle.std.specs.Bool.{◌==◌}
use Rattle.std.proofs.lemmas.Bool.Decides.{nat_tests}
use Rattle.std.proofs.lemmas.List.Elements.{filter-append}
use Rattle.kernel_model.specs.LawWords.Once.{times, IsOnce}
use Rattle.kernel_model.specs.Words.Orders.{to_back, without}
use Rattle.kernel_lemmas.proofs.Filters.{filter_alike}
use Rattle.kernel_lemmas.proofs.Once.{once_drop}
use Rattle.kernel_lemmas.proofs.Sorting.{here_is}

-- each of these takes the last place
abbrev pub all_back : List ℕ → List ℕ → List ℕ
all_back xs order = fold (λ ids u. to_back u ids) order xs

-- an ID that isn't one of these
abbrev pub is_none_of : List ℕ → ℕ → Bool
is_none_of xs u = times u xs == 0

kept_all : (ids : List ℕ) → filter (is_none_of []) ids ≡ ids
kept_all [] = refl
kept_all (id ∷ ids) = ap (λ rest. id ∷ rest) (kept_all ids)

neither : (x : ℕ) (xs : List ℕ) (u : ℕ) (same : Bool) → (x == u) ≡ same → (u == x) ≡ same → (cond same 1 0 + times u xs == 0) ≡ (not (u == x) && (times u xs == 0))
neither x xs u true at back = rw back (grind (arith, nat_tests))
neither x xs u false at back = rw back (ap (λ n. n == 0) (none_more (times u xs)))
  where
    none_more : (n : ℕ) → 0 + n ≡ n
    none_more n = omega arith

turned : (x u : ℕ) (same : Bool) → (x == u) ≡ same → (u == x) ≡ same
turned x u true at = grind (arith, nat_tests, at)
turned x u false at = grind (arith, nat_tests, at)

twice_step : (p q : Bool) (id : ℕ) (qs ps : List ℕ) (level : ℕ → Bool) → level id ≡ q → filter level ps ≡ qs → filter level (cond p (id ∷ ps) ps) ≡ cond (p && q) (id ∷ qs) qs
twice_step true q id qs ps level at rest = ap (λ test. cond test (id ∷ filter level ps) (filter level ps)) at ∙ ap (λ more. cond q (id ∷ more) more) rest
twice_step false q id qs ps level at rest = rest

filter_twice : (passes level : ℕ → Bool) (ids : List ℕ) → filter level (filter passes ids) ≡ filter (λ u. passes u && level u) ids
filter_twice passes level [] = refl
filter_twice passes level (id ∷ ids) = twice_step (passes id) (level id) id (filter (λ u. passes u && level u) ids) (filter passes ids) level refl (filter_twice passes level ids)

grouped : (front xs : List ℕ) (x : ℕ) → (front ++ x ∷ []) ++ xs ≡ front ++ x ∷ xs
grouped [] xs x = refl
grouped (id ∷ front) xs x = ap (λ ids. id ∷ ids) (grouped front xs x)

first_absent : (x : ℕ) (xs : List ℕ) (same : Bool) → (x == x) ≡ same → cond same 1 0 + times x xs ≤ 1 → times x xs ≡ 0
first_absent x xs true at one = omega (arith, one)
first_absent x xs false at one = grind (arith, nat_tests, at)

-- they stand last then, in that order, and the others as they stood
pub all_stand_last : (xs order : List ℕ) → IsOnce xs → all_back xs order ≡ filter (is_none_of xs) order ++ xs
all_stand_last [] order once = sym (append-nil (filter (is_none_of []) order) ∙ kept_all order)
all_stand_last (x ∷ xs) order once =
    let absent : times x xs ≡ 0 = first_absent x xs (x == x) refl (once x) in
    let new : is_none_of xs x ≡ true = grind (arith, nat_tests, absent) in
    all_stand_last xs (to_back x order) (once_drop x xs once)
    ∙ ap (λ front. front ++ xs) (filter-append (is_none_of xs) (without x order) (x ∷ []) ∙ ap (λ last. filter (is_none_of xs) (without x order) ++ last) (here_is (is_none_of xs x) x [] new))
    ∙ grouped (filter (is_none_of xs) (without x order)) xs x
    ∙ ap (λ front. front ++ x ∷ xs) (filter_twice (λ u. not (u == x)) (is_none_of xs) order ∙ sym (filter_alike (λ u. not (u == x) && is_none_of xs u) (is_none_of (x ∷ xs)) order (λ u. neither x xs u (x == u) refl (turned x u (x == u) refl))))
