-- Who serves first in a table: nobody, where none does by itself; and where one object alone can, what it serves.
use Rattle.std.proofs.Common.{◌≡◌, ℕ, zero, suc, ◌+◌, ◌<◌, ◌≤◌, length, List, [], ◌∷◌, Option, Some, None, refl, ◌∙◌, ap, arith}
use Rattle.std.specs.Prelude.{drop}
use Rattle.std.specs.Option.{option_or}
use Rattle.kernel_model.specs.Words.Orders.{entry, taken_from}
use Rattle.object_model.specs.Servings.{first_serving}

-- a number of a slot of a table that an object may have
abbrev pub IsIn : {K : Type 0} → List (Option K) → ℕ → Type 0
IsIn table id = (1 ≤ id) × (id < length table)

none_of_two : {A : Type 0} → (here later : Option A) → option_or here later ≡ None → (here ≡ None) × (later ≡ None)
none_of_two None later is = (refl, is)
none_of_two (Some found) later is = absurd (cc is)

none_from : {A B K : Type 0} → (serve : ℕ → Option A) (other : ℕ → Option B) (from : ℕ) (slots : List (Option K)) →
    ((id : ℕ) → from ≤ id → id < from + length slots → serve id ≡ None → other id ≡ None) → first_serving serve (taken_from from slots) ≡ None →
    first_serving other (taken_from from slots) ≡ None
unfolding first_serving
none_from serve other from [] by is = refl
none_from serve other from (None ∷ slots) by is = none_from serve other (from + 1) slots (λ id least inside. by id (omega (arith, least)) (omega (arith, inside))) is
none_from serve other from (Some k ∷ slots) by is =
    let both = none_of_two (serve from) (first_serving serve (taken_from (from + 1) slots)) is in
    ap (λ here. option_or here (first_serving other (taken_from (from + 1) slots))) (by from (omega arith) (omega arith) both.0)
    ∙ none_from serve other (from + 1) slots (λ id least inside. by id (omega (arith, least)) (omega (arith, inside))) both.1

-- a table serves nobody by another rule that serves nobody where this one doesn't
pub none_still : {A B K : Type 0} → (serve : ℕ → Option A) (other : ℕ → Option B) (table now : List (Option K)) → length now ≡ length table →
    taken_from 1 (drop 1 now) ≡ taken_from 1 (drop 1 table) →
    ((id : ℕ) → IsIn table id → serve id ≡ None → other id ≡ None) → first_serving serve (taken_from 1 (drop 1 table)) ≡ None →
    first_serving other (taken_from 1 (drop 1 now)) ≡ None
unfolding first_serving
none_still serve other [] now long same by is = ap (first_serving other) same
none_still serve other (slot ∷ slots) now long same by is =
    ap (first_serving other) same ∙ none_from serve other 1 slots (λ id least inside. by id (least, omega (arith, inside))) is

or_none : {A : Type 0} → (here later : Option A) → later ≡ None → option_or here later ≡ here
or_none None later none = none
or_none (Some found) later none = refl

all_from : {A K : Type 0} → (serve : ℕ → Option A) (from : ℕ) (slots : List (Option K)) → ((id : ℕ) → from ≤ id → id < from + length slots → serve id ≡ None) →
    first_serving serve (taken_from from slots) ≡ None
unfolding first_serving
all_from serve from [] none = refl
all_from serve from (None ∷ slots) none = all_from serve (from + 1) slots (λ id least inside. none id (omega (arith, least)) (omega (arith, inside)))
all_from serve from (Some k ∷ slots) none =
    ap (λ here. option_or here (first_serving serve (taken_from (from + 1) slots))) (none from (omega arith) (omega arith))
    ∙ all_from serve (from + 1) slots (λ id least inside. none id (omega (arith, least)) (omega (arith, inside)))

alone_from : {A K : Type 0} → (serve : ℕ → Option A) (from place id : ℕ) (slots : List (Option K)) (k : K) → id ≡ from + place → entry slots place ≡ Some k →
    ((other : ℕ) → from ≤ other → other < from + length slots → (other ≡ id → ⊥) → serve other ≡ None) → first_serving serve (taken_from from slots) ≡ serve id
unfolding first_serving
alone_from serve from place id [] k is at others = absurd (cc at)
alone_from serve from zero id (None ∷ slots) k is at others = absurd (cc at)
alone_from serve from (suc place) id (None ∷ slots) k is at others =
    alone_from serve (from + 1) place id slots k (omega (arith, is)) at (λ other least inside apart. others other (omega (arith, least)) (omega (arith, inside)) apart)
alone_from serve from zero id (Some own ∷ slots) k is at others =
    or_none (serve from) (first_serving serve (taken_from (from + 1) slots))
    (all_from serve (from + 1) slots (λ other least inside. others other (omega (arith, least)) (omega (arith, inside)) (λ e. omega (arith, least, e, is))))
    ∙ (let same : from ≡ id = omega (arith, is) in ap serve same)
alone_from serve from (suc place) id (Some own ∷ slots) k is at others =
    ap (λ here. option_or here (first_serving serve (taken_from (from + 1) slots))) (others from (omega arith) (omega arith) (λ e. omega (arith, e, is)))
    ∙ alone_from serve (from + 1) place id slots k (omega (arith, is)) at (λ other least inside apart. others other (omega (arith, least)) (omega (arith, inside)) apart)

-- where all objects of a table but one serve nobody, the table serves what that one does
pub alone_serves : {A K : Type 0} → (serve : ℕ → Option A) (id : ℕ) (table : List (Option K)) (k : K) → 1 ≤ id → entry table id ≡ Some k →
    ((other : ℕ) → IsIn table other → (other ≡ id → ⊥) → serve other ≡ None) → first_serving serve (taken_from 1 (drop 1 table)) ≡ serve id
alone_serves serve id [] k one at others = absurd (cc at)
alone_serves serve zero (slot ∷ slots) k one at others = absurd (omega (arith, one))
alone_serves serve (suc place) (slot ∷ slots) k one at others =
    alone_from serve 1 place (suc place) slots k (omega arith) at (λ other least inside apart. others other (least, omega (arith, inside)) apart)

-- where each object of a table serves nobody by itself, the table doesn't
pub none_serves : {A K : Type 0} → (serve : ℕ → Option A) (table : List (Option K)) → ((id : ℕ) → IsIn table id → serve id ≡ None) →
    first_serving serve (taken_from 1 (drop 1 table)) ≡ None
unfolding first_serving
none_serves serve [] none = refl
none_serves serve (slot ∷ slots) none = all_from serve 1 slots (λ id least inside. none id (least, omega (arith, inside)))

stands_from : {A K : Type 0} → (serve : ℕ → Option A) (from place id : ℕ) (slots : List (Option K)) (k : K) → id ≡ from + place → entry slots place ≡ Some k →
    first_serving serve (taken_from from slots) ≡ None → serve id ≡ None
unfolding first_serving
stands_from serve from place id [] k is at none = absurd (cc at)
stands_from serve from zero id (None ∷ slots) k is at none = absurd (cc at)
stands_from serve from (suc place) id (None ∷ slots) k is at none = stands_from serve (from + 1) place id slots k (omega (arith, is)) at none
stands_from serve from zero id (Some own ∷ slots) k is at none =
    let same : id ≡ from = omega (arith, is) in ap serve same ∙ (none_of_two (serve from) (first_serving serve (taken_from (from + 1) slots)) none).0
stands_from serve from (suc place) id (Some own ∷ slots) k is at none =
    stands_from serve (from + 1) place id slots k (omega (arith, is)) at (none_of_two (serve from) (first_serving serve (taken_from (from + 1) slots)) none).1

-- where a table serves nobody, an object that stands in it doesn't
pub stands_none : {A K : Type 0} → (serve : ℕ → Option A) (id : ℕ) (table : List (Option K)) (k : K) → 1 ≤ id → entry table id ≡ Some k →
    first_serving serve (taken_from 1 (drop 1 table)) ≡ None → serve id ≡ None
stands_none serve id [] k one at none = absurd (cc at)
stands_none serve zero (slot ∷ slots) k one at none = absurd (omega (arith, one))
stands_none serve (suc place) (slot ∷ slots) k one at none = stands_from serve 1 place (suc place) slots k (omega arith) at none
