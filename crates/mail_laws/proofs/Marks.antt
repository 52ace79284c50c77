-- A task that joined and was released, with another one's wait or alone, is where it was, and the other one took the last place.
use Rattle.std.proofs.Common.{◌≡◌, ℕ, ◌+◌, Bool, true, false, not, List, [], ◌∷◌, ◌++◌, map, refl, cond, ◌∙◌, ap, sym, arith}
use Rattle.std.specs.Bool.{◌==◌}
use Rattle.std.proofs.lemmas.Bool.Decides.{nat_tests}
use Rattle.std.proofs.lemmas.List.Elements.{filter-append}
use Rattle.kernel_model.specs.LawWords.Once.{times}
use Rattle.kernel_model.specs.Tasks.Base.{back_unless_suspended}
use Rattle.kernel_model.specs.Words.Orders.{to_back, without}
use Rattle.kernel_lemmas.proofs.Tables.{itself}
use Rattle.mail_laws.specs.BufferTrial.{place_kept, place_back}

-- ---- places

marked : ℕ → List ℕ → List ℕ
marked t order = map (λ u. cond (u == t) 0 u) order

-- without a task that stands only at the end
marked_if : (t id : ℕ) (rest : List ℕ) (test : Bool) → (id == t) ≡ test → (t ≡ 0 → ⊥) → without t rest ≡ rest →
    cond (not (cond test 0 id == t)) (cond test 0 id ∷ without t rest) (without t rest) ≡ cond test 0 id ∷ rest
marked_if t id rest true is some more = let other : (0 == t) ≡ false = grind (arith, nat_tests, some) in rw other (ap (λ ids. 0 ∷ ids) more)
marked_if t id rest false is some more = rw is (ap (λ ids. id ∷ ids) more)

marked_none : (t : ℕ) (order : List ℕ) → (t ≡ 0 → ⊥) → without t (marked t order) ≡ marked t order
unfolding marked
marked_none t [] some = refl
marked_none t (id ∷ order) some = marked_if t id (marked t order) (id == t) refl some (marked_none t order some)

last_gone : (t : ℕ) → without t (t ∷ []) ≡ []
last_gone t = let same : (t == t) ≡ true = itself t in rw same refl

append_none : (xs : List ℕ) → xs ++ [] ≡ xs
append_none [] = refl
append_none (x ∷ xs) = ap (λ more. x ∷ more) (append_none xs)

kept_gone : (t : ℕ) (order : List ℕ) → (t ≡ 0 → ⊥) → without t (place_kept t order) ≡ marked t order
unfolding marked
kept_gone t order some =
    filter-append (λ u. not (u == t)) (marked t order) (t ∷ [])
    ∙ ap (λ last. without t (marked t order) ++ last) (last_gone t)
    ∙ append_none (without t (marked t order))
    ∙ marked_none t order some

back_if : (t id : ℕ) (rest order : List ℕ) (test : Bool) → (id == t) ≡ test → (id ≡ 0 → ⊥) → map (λ u. cond (u == 0) t u) rest ≡ order →
    cond (cond test 0 id == 0) t (cond test 0 id) ∷ map (λ u. cond (u == 0) t u) rest ≡ id ∷ order
back_if t id rest order true is some more = let same : id ≡ t = grind (arith, nat_tests, is) in ap (λ u. u ∷ map (λ u. cond (u == 0) t u) rest) (sym same) ∙ ap (λ ids. id ∷ ids) more
back_if t id rest order false is some more = let other : (id == 0) ≡ false = grind (arith, nat_tests, some) in rw other (ap (λ ids. id ∷ ids) more)

first_some : (id : ℕ) (order : List ℕ) → times 0 (id ∷ order) ≡ 0 → id ≡ 0 → ⊥
first_some id order none same = some_if (id == 0) refl none same
  where
    some_if : (test : Bool) → (id == 0) ≡ test → cond test 1 0 + times 0 order ≡ 0 → id ≡ 0 → ⊥
    some_if true is none same = omega (arith, none)
    some_if false is none same = grind (arith, nat_tests, is, same)

rest_none : (id : ℕ) (order : List ℕ) → times 0 (id ∷ order) ≡ 0 → times 0 order ≡ 0
rest_none id order none = omega (arith, none)

marked_back : (t : ℕ) (order : List ℕ) → times 0 order ≡ 0 → map (λ u. cond (u == 0) t u) (marked t order) ≡ order
unfolding marked
marked_back t [] none = refl
marked_back t (id ∷ order) none = back_if t id (marked t order) order (id == t) refl (first_some id order none) (marked_back t order (rest_none id order none))

-- alone, the task has its place again
pub place_again : (t : ℕ) (order : List ℕ) → (t ≡ 0 → ⊥) → times 0 order ≡ 0 → place_back t (place_kept t order) ≡ order
place_again t order some none = ap (map (λ u. cond (u == 0) t u)) (kept_gone t order some) ∙ marked_back t order none

-- another one that takes the last place meanwhile takes it
marked_without_if : (t u id : ℕ) (rest order : List ℕ) (test : Bool) → (id == t) ≡ test → (u ≡ t → ⊥) → (u ≡ 0 → ⊥) → (id ≡ 0 → ⊥) → map (λ v. cond (v == 0) t v) (without u rest) ≡ without u order →
    map (λ v. cond (v == 0) t v) (cond (not (cond test 0 id == u)) (cond test 0 id ∷ without u rest) (without u rest)) ≡ cond (not (id == u)) (id ∷ without u order) (without u order)
marked_without_if t u id rest order true is apart some other more =
    let same : id ≡ t = grind (arith, nat_tests, is) in
    let zero_test : (0 == u) ≡ false = grind (arith, nat_tests, some) in
    let own_test : (id == u) ≡ false = grind (arith, nat_tests, same, apart) in
    rw (zero_test, own_test) (ap (λ v. v ∷ map (λ v. cond (v == 0) t v) (without u rest)) (sym same) ∙ ap (λ ids. id ∷ ids) more)
marked_without_if t u id rest order false is apart some other more = stays_if t u id rest order (id == u) refl other more
  where
    stays_if : (t u id : ℕ) (rest order : List ℕ) (test : Bool) → (id == u) ≡ test → (id ≡ 0 → ⊥) → map (λ v. cond (v == 0) t v) (without u rest) ≡ without u order →
        map (λ v. cond (v == 0) t v) (cond (not test) (id ∷ without u rest) (without u rest)) ≡ cond (not test) (id ∷ without u order) (without u order)
    stays_if t u id rest order true is other more = more
    stays_if t u id rest order false is other more = let zero_test : (id == 0) ≡ false = grind (arith, nat_tests, other) in rw zero_test (ap (λ ids. id ∷ ids) more)

marked_without : (t u : ℕ) (order : List ℕ) → (u ≡ t → ⊥) → (u ≡ 0 → ⊥) → times 0 order ≡ 0 → map (λ v. cond (v == 0) t v) (without u (marked t order)) ≡ without u order
unfolding marked
marked_without t u [] apart some none = refl
marked_without t u (id ∷ order) apart some none =
    marked_without_if t u id (marked t order) order (id == t) refl apart some (first_some id order none) (marked_without t u order apart some (rest_none id order none))

map_append : (f : ℕ → ℕ) (xs ys : List ℕ) → map f (xs ++ ys) ≡ map f xs ++ map f ys
map_append f [] ys = refl
map_append f (x ∷ xs) ys = ap (λ more. f x ∷ more) (map_append f xs ys)

-- two filters may be taken in either order
swap_if : (u t id : ℕ) (first second : Bool) (rest : List ℕ) → (id == u) ≡ first → (id == t) ≡ second → without u (without t rest) ≡ without t (without u rest) →
    without u (cond (not second) (id ∷ without t rest) (without t rest)) ≡ without t (cond (not first) (id ∷ without u rest) (without u rest))
swap_if u t id true true rest one two more = more
swap_if u t id true false rest one two more = rw one more
swap_if u t id false true rest one two more = rw two more
swap_if u t id false false rest one two more = rw (one, two) (ap (λ ids. id ∷ ids) more)

without_swap : (u t : ℕ) (ids : List ℕ) → without u (without t ids) ≡ without t (without u ids)
without_swap u t [] = refl
without_swap u t (id ∷ ids) = swap_if u t id (id == u) (id == t) ids refl refl (without_swap u t ids)

other_stays : (t u : ℕ) → (u ≡ t → ⊥) → without t (u ∷ []) ≡ u ∷ []
other_stays t u apart = let test : (u == t) ≡ false = grind (arith, nat_tests, apart) in rw test refl

-- beside another one that takes the last place
place_beside : (t u : ℕ) (order : List ℕ) → (t ≡ 0 → ⊥) → (u ≡ t → ⊥) → (u ≡ 0 → ⊥) → times 0 order ≡ 0 → place_back t (to_back u (place_kept t order)) ≡ to_back u order
unfolding marked
place_beside t u order some apart other none =
    let unmark : List ℕ → List ℕ = map (λ v. cond (v == 0) t v) in
    let zero_test : (u == 0) ≡ false = grind (arith, nat_tests, other) in
    ap unmark (filter-append (λ v. not (v == t)) (without u (place_kept t order)) (u ∷ []) ∙ ap (λ last. without t (without u (place_kept t order)) ++ last) (other_stays t u apart))
    ∙ ap (λ front. unmark (front ++ u ∷ [])) (without_swap t u (place_kept t order) ∙ ap (without u) (kept_gone t order some))
    ∙ map_append (λ v. cond (v == 0) t v) (without u (marked t order)) (u ∷ [])
    ∙ ap (λ front. front ++ unmark (u ∷ [])) (marked_without t u order apart other none)
    ∙ ap (λ test. without u order ++ cond test t u ∷ []) zero_test

-- its own last place doesn't count
pub back_again : (t suspensions : ℕ) (order : List ℕ) → place_back t (back_unless_suspended t suspensions order) ≡ place_back t order
back_again t suspensions order = back_twice (suspensions == 0)
  where
    back_twice : (test : Bool) → place_back t (cond test (to_back t order) order) ≡ place_back t order
    back_twice true =
        ap (map (λ v. cond (v == 0) t v)) (filter-append (λ v. not (v == t)) (without t order) (t ∷ []) ∙ ap (λ last. without t (without t order) ++ last) (last_gone t) ∙ append_none (without t (without t order)) ∙ twice order)
      where
        once_if : (id : ℕ) (rest : List ℕ) (test : Bool) → (id == t) ≡ test → without t rest ≡ rest → without t (cond (not test) (id ∷ rest) rest) ≡ cond (not test) (id ∷ rest) rest
        once_if id rest true is more = more
        once_if id rest false is more = rw is (ap (λ ids. id ∷ ids) more)

        twice : (ids : List ℕ) → without t (without t ids) ≡ without t ids
        twice [] = refl
        twice (id ∷ ids) = once_if id (without t ids) (id == t) refl (twice ids)
    back_twice false = refl

-- with another one that becomes READY, or stays suspended
pub beside_unless : (t u suspensions : ℕ) (order : List ℕ) → (t ≡ 0 → ⊥) → (u ≡ t → ⊥) → (u ≡ 0 → ⊥) → times 0 order ≡ 0 →
    place_back t (back_unless_suspended u suspensions (place_kept t order)) ≡ back_unless_suspended u suspensions order
beside_unless t u suspensions order some apart other none = unless (suspensions == 0)
  where
    unless : (test : Bool) → place_back t (cond test (to_back u (place_kept t order)) (place_kept t order)) ≡ cond test (to_back u order) order
    unless true = place_beside t u order some apart other none
    unless false = place_again t order some none

-- the task's own last place leaves it the last
pub kept_last : (t suspensions : ℕ) (order : List ℕ) → (t ≡ 0 → ⊥) → back_unless_suspended t suspensions (place_kept t order) ≡ place_kept t order
unfolding marked
kept_last t suspensions order some = unless (suspensions == 0)
  where
    unless : (test : Bool) → cond test (to_back t (place_kept t order)) (place_kept t order) ≡ place_kept t order
    unless true = ap (λ front. front ++ t ∷ []) (kept_gone t order some)
    unless false = refl
