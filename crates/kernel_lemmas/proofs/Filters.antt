-- What two tests leave of an order, where they are the same but for one task.
use Rattle.std.proofs.Common.{◌≡◌, ℕ, Bool, true, false, not, List, [], ◌∷◌, ◌++◌, append-nil, refl, cond, ◌∙◌, ap, sym, subst, arith}
use Rattle.std.specs.Prelude.{filter}
use Rattle.std.specs.Bool.{◌==◌}
use Rattle.std.proofs.lemmas.Bool.Decides.{nat_tests}
use Rattle.std.proofs.lemmas.List.Elements.{filter-append}
use Rattle.kernel_model.specs.Words.Orders.{without, to_back}
use Rattle.kernel_lemmas.proofs.Sorting.{here_is, not_here}

same_test : (id t : ℕ) → (id == t) ≡ true → id ≡ t
same_test id t is = grind (arith, nat_tests, is)

pub apart_of : (id t : ℕ) → (id == t) ≡ false → id ≡ t → ⊥
apart_of id t is same = grind (arith, nat_tests, is, same)

-- tests that are the same but for one task
abbrev pub AreSameBut : ℕ → (ℕ → Bool) → (ℕ → Bool) → Type 0
AreSameBut t passes passed = (u : ℕ) → (u ≡ t → ⊥) → passed u ≡ passes u

but_if : (passes passed : ℕ → Bool) (t id : ℕ) (rest kept : List ℕ) (test p : Bool) → (id == t) ≡ test → passes id ≡ p → ((id ≡ t → ⊥) → passed id ≡ passes id) → filter passed rest ≡ filter (λ u. not (u == t)) kept →
    filter passed (cond (not test) (id ∷ rest) rest) ≡ filter (λ u. not (u == t)) (cond p (id ∷ kept) kept)
but_if passes passed t id rest kept true false is was same more = more
but_if passes passed t id rest kept true true is was same more = more ∙ sym (not_here (not (id == t)) id (without t kept) (ap not is))
but_if passes passed t id rest kept false false is was same more = not_here (passed id) id (filter passed rest) (same (apart_of id t is) ∙ was) ∙ more
but_if passes passed t id rest kept false true is was same more =
    here_is (passed id) id (filter passed rest) (same (apart_of id t is) ∙ was)
    ∙ ap (λ ids. id ∷ ids) more
    ∙ sym (here_is (not (id == t)) id (without t kept) (ap not is))

-- without the task both tests leave the same
pub filter_but : (passes passed : ℕ → Bool) (t : ℕ) (ids : List ℕ) → AreSameBut t passes passed → filter passed (without t ids) ≡ without t (filter passes ids)
filter_but passes passed t [] same = refl
filter_but passes passed t (id ∷ ids) same = but_if passes passed t id (without t ids) (filter passes ids) (id == t) (passes id) refl refl (same id) (filter_but passes passed t ids same)

-- the task takes the last place, and passes then
pub filter_back : (passes passed : ℕ → Bool) (t : ℕ) (ids : List ℕ) → AreSameBut t passes passed → passed t ≡ true → filter passed (to_back t ids) ≡ without t (filter passes ids) ++ t ∷ []
filter_back passes passed t ids same is =
    filter-append passed (without t ids) (t ∷ [])
    ∙ ap (λ last. filter passed (without t ids) ++ last) (here_is (passed t) t [] is)
    ∙ ap (λ front. front ++ t ∷ []) (filter_but passes passed t ids same)

-- it takes the last place, and fails then
pub filter_gone : (passes passed : ℕ → Bool) (t : ℕ) (ids : List ℕ) → AreSameBut t passes passed → passed t ≡ false → filter passed (to_back t ids) ≡ without t (filter passes ids)
filter_gone passes passed t ids same is =
    filter-append passed (without t ids) (t ∷ [])
    ∙ ap (λ last. filter passed (without t ids) ++ last) (not_here (passed t) t [] is)
    ∙ append-nil (filter passed (without t ids))
    ∙ filter_but passes passed t ids same

absent_if : (passes : ℕ → Bool) (t id : ℕ) (kept : List ℕ) (p : Bool) → passes id ≡ p → passes t ≡ false → without t kept ≡ kept → without t (cond p (id ∷ kept) kept) ≡ cond p (id ∷ kept) kept
absent_if passes t id kept false was fails more = more
absent_if passes t id kept true was fails more =
    let apart : id ≡ t → ⊥ = λ e. let there : passes t ≡ true = subst (λ (u : ℕ). passes u ≡ true) e was in absurd (cc (there, fails)) in
    let test : (id == t) ≡ false = grind (arith, nat_tests, apart) in
    here_is (not (id == t)) id (without t kept) (ap not test) ∙ ap (λ ids. id ∷ ids) more

-- a task that fails a test stands nowhere in what passes
pub filter_absent : (passes : ℕ → Bool) (t : ℕ) (ids : List ℕ) → passes t ≡ false → without t (filter passes ids) ≡ filter passes ids
filter_absent passes t [] fails = refl
filter_absent passes t (id ∷ ids) fails = absent_if passes t id (filter passes ids) (passes id) refl fails (filter_absent passes t ids fails)

kept_if : (passed : ℕ → Bool) (t id : ℕ) (rest : List ℕ) (test : Bool) → (id == t) ≡ test → passed t ≡ false → filter passed (cond (not test) (id ∷ rest) rest) ≡ cond (passed id) (id ∷ filter passed rest) (filter passed rest)
kept_if passed t id rest true is fails = sym (not_here (passed id) id (filter passed rest) (ap passed (same_test id t is) ∙ fails))
kept_if passed t id rest false is fails = refl

pub left_out : (passed : ℕ → Bool) (t : ℕ) (ids : List ℕ) → passed t ≡ false → filter passed (without t ids) ≡ filter passed ids
left_out passed t [] fails = refl
left_out passed t (id ∷ ids) fails = kept_if passed t id (without t ids) (id == t) refl fails ∙ ap (λ more. cond (passed id) (id ∷ more) more) (left_out passed t ids fails)

-- it stays in its place, and fails then
pub filter_fails : (passes passed : ℕ → Bool) (t : ℕ) (ids : List ℕ) → AreSameBut t passes passed → passed t ≡ false → filter passed ids ≡ without t (filter passes ids)
filter_fails passes passed t ids same is = sym (left_out passed t ids is) ∙ filter_but passes passed t ids same

-- tests that are the same leave the same
pub filter_alike : (passes passed : ℕ → Bool) (ids : List ℕ) → ((u : ℕ) → passed u ≡ passes u) → filter passed ids ≡ filter passes ids
filter_alike passes passed [] same = refl
filter_alike passes passed (id ∷ ids) same = ap (λ test. cond test (id ∷ filter passed ids) (filter passed ids)) (same id) ∙ ap (λ more. cond (passes id) (id ∷ more) more) (filter_alike passes passed ids same)
