-- Which blocks of a fixed pool are out.
use Rattle.std.proofs.Common.{◌≡◌, ℕ, zero, suc, ◌+◌, ◌-◌, ◌<◌, ◌≤◌, Bool, true, false, not, List, [], ◌∷◌, refl, ap, sym, ◌∙◌, subst, arith, drop, length, add-one, get_or, set, replicate}
use Rattle.std.specs.Prelude.{min, nat_le}
use Rattle.std.proofs.Math.Nat.{min-le_left, min-le_right, le-min}
use Rattle.std.specs.Bool.{◌==◌}
use Rattle.std.specs.List.{filter}
use Rattle.std.proofs.lemmas.Bool.Decides.{nat_tests}
use Rattle.std.proofs.lemmas.List.{get_or-set_other, get_or-set_same, length-set}
use Rattle.object_model.specs.Pools.Fixed.{first_free}
use Rattle.object_model.specs.Pools.Tables.{FixedPool}
use Rattle.mem_pools.specs.Taking.{block_out}
use Rattle.mem_pools.specs.Blocks.{AreFixed}

-- ---- the least free block

-- a block that is out is passed
passed : (out : List Bool) (place number : ℕ) → get_or out place false ≡ true → first_free number (drop place out) ≡ first_free (number + 1) (drop (suc place) out)
unfolding first_free
passed [] place number is = absurd (cc is)
passed (true ∷ out) zero number is = refl
passed (false ∷ out) zero number is = absurd (cc is)
passed (x ∷ out) (suc place) number is = passed out place number is

free_at : (out : List Bool) (place number : ℕ) → get_or out place true ≡ false → first_free number (drop place out) ≡ number
unfolding first_free
free_at [] place number is = absurd (cc is)
free_at (true ∷ out) zero number is = absurd (cc is)
free_at (false ∷ out) zero number is = refl
free_at (x ∷ out) (suc place) number is = free_at out place number is

none_behind : (out : List Bool) (number : ℕ) → first_free number (drop (length out) out) ≡ 0
unfolding first_free
none_behind [] number = refl
none_behind (x ∷ out) number = none_behind out number

-- where all before a number are out, the search goes on there
all_passed : (out : List Bool) (before : ℕ) → ((n : ℕ) → 1 ≤ n → n < suc before → get_or out n false ≡ true) → first_free 1 (drop 1 out) ≡ first_free (suc before) (drop (suc before) out)
all_passed out zero taken = refl
all_passed out (suc before) taken =
    all_passed out before (λ n low below. taken n low (omega (arith, below)))
    ∙ passed out (suc before) (suc before) (taken (suc before) (omega arith) (omega arith))
    ∙ ap (λ n. first_free n (drop (suc (suc before)) out)) (add-one (suc before))

passed_to : (out : List Bool) (number : ℕ) → 1 ≤ number → ((n : ℕ) → 1 ≤ n → n < number → get_or out n false ≡ true) → first_free 1 (drop 1 out) ≡ first_free number (drop number out)
passed_to out zero low taken = absurd (omega (arith, low))
passed_to out (suc before) low taken = all_passed out before taken

pub least_free : (out : List Bool) (number : ℕ) → 1 ≤ number → ((n : ℕ) → 1 ≤ n → n < number → get_or out n false ≡ true) → get_or out number true ≡ false → first_free 1 (drop 1 out) ≡ number
least_free out number low taken free = passed_to out number low taken ∙ free_at out number number free

pub none_free : (out : List Bool) (number : ℕ) → 1 ≤ number → ((n : ℕ) → 1 ≤ n → n < number → get_or out n false ≡ true) → number ≡ length out → first_free 1 (drop 1 out) ≡ 0
none_free out number low taken all = passed_to out number low taken ∙ ap (λ n. first_free number (drop n out)) all ∙ none_behind out number

-- ---- how many are free

one_later : (n : ℕ) → suc (n + 1) ≡ suc n + 1
one_later n = omega arith

counted_out : (out : List Bool) (place : ℕ) → get_or out place true ≡ false → length (filter not out) ≡ length (filter not (set out place true)) + 1
counted_out [] place free = absurd (cc free)
counted_out (true ∷ out) zero free = absurd (cc free)
counted_out (false ∷ out) zero free = sym (add-one (length (filter not out)))
counted_out (true ∷ out) (suc place) free = counted_out out place free
counted_out (false ∷ out) (suc place) free = ap suc (counted_out out place free) ∙ one_later (length (filter not (set out place true)))

counted_back : (out : List Bool) (place : ℕ) → get_or out place false ≡ true → length (filter not (set out place false)) ≡ length (filter not out) + 1
counted_back [] place is = absurd (cc is)
counted_back (false ∷ out) zero is = absurd (cc is)
counted_back (true ∷ out) zero is = sym (add-one (length (filter not out)))
counted_back (true ∷ out) (suc place) is = counted_back out place is
counted_back (false ∷ out) (suc place) is = ap suc (counted_back out place is) ∙ one_later (length (filter not out))

pub count_out : (out : List Bool) (number : ℕ) → 1 ≤ number → get_or out number true ≡ false → length (filter not (drop 1 out)) ≡ length (filter not (drop 1 (set out number true))) + 1
count_out out zero low free = absurd (omega (arith, low))
count_out [] (suc before) low free = absurd (cc free)
count_out (x ∷ out) (suc before) low free = counted_out out before free

count_back : (out : List Bool) (number : ℕ) → 1 ≤ number → get_or out number false ≡ true → length (filter not (drop 1 (set out number false))) ≡ length (filter not (drop 1 out)) + 1
count_back out zero low is = absurd (omega (arith, low))
count_back [] (suc before) low is = absurd (cc is)
count_back (x ∷ out) (suc before) low is = counted_back out before is

filtered_few : (out : List Bool) → length (filter not out) ≤ length out
filtered_few [] = omega arith
filtered_few (true ∷ out) = let rest = filtered_few out in omega (arith, rest)
filtered_few (false ∷ out) = let rest = filtered_few out in omega (arith, rest)

filtered_fewer : (out : List Bool) → 1 ≤ length out → length (filter not (drop 1 out)) + 1 ≤ length out
filtered_fewer [] some = absurd (omega (arith, some))
filtered_fewer (x ∷ out) some = let rest = filtered_few out in omega (arith, rest)

-- at most 1,024 are free
pub few_free : (out : List Bool) (least free : ℕ) → AreFixed out least free → free ≤ 1024
few_free out least free is =
    let count = is.count in
    let few = is.few in
    let low = is.low in
    let within = is.within in
    let fewer : length (filter not (drop 1 out)) + 1 ≤ length out = filtered_fewer out (omega (arith, low, within)) in
    omega (arith, count, few, fewer)

-- ---- what holds of a pool

new_free : (n : ℕ) → length (filter not (replicate n false)) ≡ n
new_free zero = refl
new_free (suc n) = ap suc (new_free n)

long : {A : Type 0} (n : ℕ) (x : A) → length (replicate n x) ≡ n
long zero x = refl
long (suc n) x = ap suc (long n x)

fresh_suc : (count : ℕ) → count ≤ 1024 → AreFixed (replicate (suc count) false) 1 count
fresh_suc count few =
    let size : length (replicate count false) ≡ count = long count false in
    record {
      nothing = refl;
      few = omega (arith, size, few);
      low = omega arith;
      within = omega arith;
      taken = λ number low below. absurd (omega (arith, low, below));
      count = sym (new_free count);
    }

-- a pool of which no block is out
pub fresh : (out : List Bool) (count : ℕ) → count ≤ 1024 → out ≡ replicate (count + 1) false → AreFixed out 1 count
fresh out count few is = subst (λ (blocks : List Bool). AreFixed blocks 1 count) (sym (is ∙ ap (λ n. replicate n false) (add-one count))) (fresh_suc count few)

taken_if : (out : List Bool) (number n : ℕ) (same : Bool) → (n == number) ≡ same → number < length out → n < number + 1 → (n < number → get_or out n false ≡ true) → get_or (set out number true) n false ≡ true
taken_if out number n true is inside below before = let itself : n ≡ number = grind (arith, nat_tests, is) in subst (λ m. get_or (set out number true) m false ≡ true) (sym itself) (get_or-set_same out number true false inside)
taken_if out number n false is inside below before =
    let apart : n ≡ number → ⊥ = λ itself. grind (arith, nat_tests, is, itself) in
    get_or-set_other out number n true false apart ∙ before (grind (arith, nat_tests, is, below))

joined_passed : (out : List Bool) (least number n : ℕ) → ((n : ℕ) → 1 ≤ n → n < least → get_or out n false ≡ true) → ((n : ℕ) → least ≤ n → n < number → get_or out n false ≡ true) → (behind : Bool) → nat_le least n ≡ behind → 1 ≤ n → n < number → get_or out n false ≡ true
joined_passed out least number n first second true is low below = second n (grind (arith, nat_tests, is)) below
joined_passed out least number n first second false is low below = first n low (grind (arith, nat_tests, is))

-- all before the first that isn't out are out
pub out_before : (out : List Bool) (least number : ℕ) → ((n : ℕ) → 1 ≤ n → n < least → get_or out n false ≡ true) → ((n : ℕ) → least ≤ n → n < number → get_or out n false ≡ true) → (n : ℕ) → 1 ≤ n → n < number → get_or out n false ≡ true
out_before out least number first second n low below = joined_passed out least number n first second (nat_le least n) refl low below

-- all are out
pub all_out : (out : List Bool) (least free number : ℕ) → AreFixed out least free → least ≤ number → number ≤ length out → ((n : ℕ) → least ≤ n → n < number → get_or out n false ≡ true) → AreFixed out number free
all_out out least free number is behind inside between =
    let low = is.low in
    record {
      nothing = is.nothing;
      few = is.few;
      low = omega (arith, low, behind);
      within = inside;
      taken = out_before out least number is.taken between;
      count = is.count;
    }

-- the least free block is out
pub one_out : (out : List Bool) (least free number : ℕ) → AreFixed out least free → least ≤ number → number < length out → ((n : ℕ) → least ≤ n → n < number → get_or out n false ≡ true) → get_or out number true ≡ false →
    AreFixed (set out number true) (number + 1) (free - 1)
one_out out least free number is behind inside between unused =
    let low = is.low in
    let few = is.few in
    let count = is.count in
    let size : length (set out number true) ≡ length out = length-set out number true in
    let some : 1 ≤ number = omega (arith, low, behind) in
    let less : length (filter not (drop 1 out)) ≡ length (filter not (drop 1 (set out number true))) + 1 = count_out out number some unused in
    let other : 0 ≡ number → ⊥ = λ itself. omega (arith, some, itself) in
    record {
      nothing = get_or-set_other out number 0 true false other ∙ is.nothing;
      few = omega (arith, few, size);
      low = omega arith;
      within = omega (arith, inside, size);
      taken = λ n from below. taken_if out number n (n == number) refl inside below (out_before out least number is.taken between n from);
      count = omega (arith, count, less);
    }

-- some block was free then
pub some_free : (out : List Bool) (least free number : ℕ) → AreFixed out least free → least ≤ number → get_or out number true ≡ false → 1 ≤ free
some_free out least free number is behind unused =
    let low = is.low in
    let count = is.count in
    let less : length (filter not (drop 1 out)) ≡ length (filter not (drop 1 (set out number true))) + 1 = count_out out number (omega (arith, low, behind)) unused in
    omega (arith, count, less)

named : (out : List Bool) (number : ℕ) → get_or out 0 false ≡ false → get_or out number false ≡ true → 1 ≤ number
named out zero nothing is = absurd (cc (nothing, is))
named out (suc number) nothing is = omega arith

-- a block that is out has a place
pub inside : (out : List Bool) (number : ℕ) → get_or out number false ≡ true → number < length out
inside [] number is = absurd (cc is)
inside (x ∷ out) zero is = omega arith
inside (x ∷ out) (suc number) is = let rest : number < length out = inside out number is in omega (arith, rest)

-- a block is back
pub one_back : (out : List Bool) (least free number lower : ℕ) → AreFixed out least free → get_or out number false ≡ true → lower ≡ min least number → AreFixed (set out number false) lower (free + 1)
one_back out least free number lower is taken lowest =
    let low = is.low in
    let few = is.few in
    let within = is.within in
    let count = is.count in
    let some : 1 ≤ number = named out number is.nothing taken in
    let size : length (set out number false) ≡ length out = length-set out number false in
    let more : length (filter not (drop 1 (set out number false))) ≡ length (filter not (drop 1 out)) + 1 = count_back out number some taken in
    let other : 0 ≡ number → ⊥ = λ itself. omega (arith, some, itself) in
    let under : min least number ≤ least = min-le_left least number in
    let before : min least number ≤ number = min-le_right least number in
    let first : 1 ≤ min least number = le-min low some in
    record {
      nothing = get_or-set_other out number 0 false false other ∙ is.nothing;
      few = omega (arith, few, size);
      low = omega (arith, lowest, first);
      within = omega (arith, lowest, within, under, size);
      taken = λ n from below.
          let apart : n ≡ number → ⊥ = λ itself. omega (arith, lowest, before, below, itself) in
          get_or-set_other out number n false false apart ∙ is.taken n from (omega (arith, lowest, below, under));
      count = omega (arith, count, more);
    }

-- ---- in the form of what is seen of a pool

abbrev pub block_set : FixedPool → ℕ → FixedPool
block_set k number = record k { out = set k.out number true }

taken_at : (k : FixedPool) (least number : ℕ) → least ≡ number → 1 ≤ number → record k { out = set k.out number true } ≡ block_out least k
taken_at k zero number is low = absurd (omega (arith, is, low))
taken_at k (suc before) number is low = ap (λ n. block_set k n) (sym is)

none_at : (k : FixedPool) (least : ℕ) → least ≡ 0 → k ≡ block_out least k
none_at k zero is = refl
none_at k (suc before) is = absurd (cc is)

-- the block with this number is the one that is given
pub taken_one : (k now : FixedPool) (least free number : ℕ) → AreFixed k.out least free → k ≡ now → least ≤ number → ((n : ℕ) → least ≤ n → n < number → get_or k.out n false ≡ true) → get_or k.out number true ≡ false →
    record { block : number ≡ first_free 1 (drop 1 now.out); left : record k { out = set k.out number true } ≡ block_out (first_free 1 (drop 1 now.out)) now }
taken_one k now least free number is same behind between unused =
    let low = is.low in
    let some : 1 ≤ number = omega (arith, low, behind) in
    let found : first_free 1 (drop 1 k.out) ≡ number = least_free k.out number some (out_before k.out least number is.taken between) unused in
    subst (λ (m : FixedPool). record { block : number ≡ first_free 1 (drop 1 m.out); left : record k { out = set k.out number true } ≡ block_out (first_free 1 (drop 1 m.out)) m }) same
    (record { block = sym found; left = taken_at k (first_free 1 (drop 1 k.out)) number found some })

-- and where all are out, none is given
pub taken_none : (k now : FixedPool) (least free number : ℕ) → AreFixed k.out least free → k ≡ now → least ≤ number → ((n : ℕ) → least ≤ n → n < number → get_or k.out n false ≡ true) → number ≡ length k.out →
    record { block : 0 ≡ first_free 1 (drop 1 now.out); left : k ≡ block_out (first_free 1 (drop 1 now.out)) now }
taken_none k now least free number is same behind between all =
    let low = is.low in
    let found : first_free 1 (drop 1 k.out) ≡ 0 = none_free k.out number (omega (arith, low, behind)) (out_before k.out least number is.taken between) all in
    subst (λ (m : FixedPool). record { block : 0 ≡ first_free 1 (drop 1 m.out); left : k ≡ block_out (first_free 1 (drop 1 m.out)) m }) same
    (record { block = sym found; left = none_at k (first_free 1 (drop 1 k.out)) found })
