-- What the bits of the three words say of the flags.
use Rattle.std.proofs.Common.{◌≡◌, ◌≢◌, ℕ, zero, suc, ◌+◌, ◌*◌, ◌/◌, ◌%◌, ◌^◌, ◌<◌, ◌≤◌, ◌==◌, Bool, true, false, List, [], ◌∷◌, map, length, get_or, set, replicate, cond, Some, None, bit_and, bit_or, refl, sym, ap, ◌∙◌, subst, arith, w64}
use Rattle.std.specs.Int.{bit_at, bit_not, trailing_zeros}
use Rattle.std.specs.List.{range_with_len}
use Rattle.std.proofs.Math.Nat.{div-add-mod}
use Rattle.std.proofs.lemmas.Bool.Decides.{nat_tests}
use Rattle.std.proofs.lemmas.List.{get_or-set_same, get_or-set_other}
use Rattle.std.proofs.lemmas.Nat.Bits.{bit_at-zero, bit_at-trailing_zeros, bit_at_set_same, bit_at_set_other, bit_at_clear_same, bit_at_clear_other}
use Rattle.priority_map.specs.Flags.{first_set, flags, is_set, nothing_set}

-- ---- lists of flags

flags_same : (f g : ℕ → Bool) (a n : ℕ) → ((j : ℕ) → a ≤ j → f j ≡ g j) → map f (range_with_len a n) ≡ map g (range_with_len a n)
flags_same f g a zero same = refl
flags_same f g a (suc n) same =
    ap (λ b. b ∷ map f (range_with_len (a + 1) n)) (same a (omega arith)) ∙ ap (λ l. g a ∷ l) (flags_same f g (a + 1) n (λ j past. same j (omega arith)))

one_flag : (f g : ℕ → Bool) (a n i : ℕ) (v : Bool) → i < n → f (a + i) ≡ v → ((j : ℕ) → j ≢ a + i → f j ≡ g j) → map f (range_with_len a n) ≡ set (map g (range_with_len a n)) i v
one_flag f g a zero i v within here others = absurd (omega arith)
one_flag f g a (suc n) zero v within here others =
    let first : a ≡ a + 0 = omega arith in
    ap (λ b. b ∷ map f (range_with_len (a + 1) n)) (ap f first ∙ here) ∙ ap (λ l. v ∷ l) (flags_same f g (a + 1) n (λ j past. others j (λ same. absurd (omega (arith, same)))))
one_flag f g a (suc n) (suc i) v within here others =
    let next : a + 1 + i ≡ a + suc i = omega arith in
    ap (λ b. b ∷ map f (range_with_len (a + 1) n)) (others a (λ same. absurd (omega (arith, same)))) ∙
    ap (λ l. g a ∷ l) (one_flag f g (a + 1) n i v (omega arith) (ap f next ∙ here) (λ j apart. others j (λ same. apart (same ∙ sym next))))

no_flag : (f : ℕ → Bool) (a n : ℕ) → ((j : ℕ) → f j ≡ false) → map f (range_with_len a n) ≡ replicate n false
no_flag f a zero none = refl
no_flag f a (suc n) none = ap (λ b. b ∷ map f (range_with_len (a + 1) n)) (none a) ∙ ap (λ l. false ∷ l) (no_flag f (a + 1) n none)

first_found : (f : ℕ → Bool) (a n k : ℕ) → k < n → f (a + k) ≡ true → ((j : ℕ) → j < a + k → f j ≡ false) → first_set a (map f (range_with_len a n)) ≡ Some (a + k)
first_found f a zero k within here none = absurd (omega arith)
first_found f a (suc n) zero within here none =
    let first : a ≡ a + 0 = omega arith in ap (λ b. cond b (Some a) (first_set (a + 1) (map f (range_with_len (a + 1) n)))) (ap f first ∙ here) ∙ ap Some first
first_found f a (suc n) (suc k) within here none =
    let next : a + 1 + k ≡ a + suc k = omega arith in
    ap (λ b. cond b (Some a) (first_set (a + 1) (map f (range_with_len (a + 1) n)))) (none a (omega arith)) ∙
    (first_found f (a + 1) n k (omega arith) (ap f next ∙ here) (λ j below. none j (omega (arith, next))) ∙ ap Some next)

none_found : (f : ℕ → Bool) (a n : ℕ) → ((j : ℕ) → j < a + n → f j ≡ false) → first_set a (map f (range_with_len a n)) ≡ None
none_found f a zero none = refl
none_found f a (suc n) none =
    ap (λ b. cond b (Some a) (first_set (a + 1) (map f (range_with_len (a + 1) n)))) (none a (omega arith)) ∙ none_found f (a + 1) n (λ j below. none j (omega arith))

-- ---- one word is changed

split_apart : (one other : ℕ) → one ≢ other → one / 64 ≡ other / 64 → one % 64 ≢ other % 64
split_apart one other apart same = λ rest. apart (omega (arith, div-add-mod one 64, div-add-mod other 64, same, rest))

is_other : (test : Bool) (words : List ℕ) (priority word other : ℕ) → (other / 64 == priority / 64) ≡ test → priority / 64 < length words → other ≢ priority →
    ((bit : ℕ) → bit < 64 → bit ≢ priority % 64 → bit_at word bit ≡ bit_at (get_or words (priority / 64) 0) bit) → is_set (set words (priority / 64) word) other ≡ is_set words other
is_other true words priority word other is within apart bits =
    let same : other / 64 ≡ priority / 64 = grind (arith, nat_tests) in
    let changed : get_or (set words (priority / 64) word) (other / 64) 0 ≡ word = ap (λ i. get_or (set words (priority / 64) word) i 0) same ∙ get_or-set_same words (priority / 64) word 0 within in
    ap (λ w. bit_at w (other % 64) == 1) changed ∙
    (ap (λ b. b == 1) (bits (other % 64) (omega arith) (split_apart other priority apart same)) ∙ ap (λ i. bit_at (get_or words i 0) (other % 64) == 1) (sym same))
is_other false words priority word other is within apart bits =
    ap (λ w. bit_at w (other % 64) == 1) (get_or-set_other words (priority / 64) (other / 64) word 0 (λ same. absurd (grind (arith, nat_tests))))

changed_flag : (words : List ℕ) (priority word : ℕ) (flag : Bool) → priority < 192 → length words ≡ 3 → (bit_at word (priority % 64) == 1) ≡ flag →
    ((bit : ℕ) → bit < 64 → bit ≢ priority % 64 → bit_at word bit ≡ bit_at (get_or words (priority / 64) 0) bit) → flags (set words (priority / 64) word) ≡ set (flags words) priority flag
unfolding flags
changed_flag words priority word flag below long here others =
    let within : priority / 64 < length words = omega (arith, div-add-mod priority 64) in let number : 0 + priority ≡ priority = omega arith in
    one_flag (is_set (set words (priority / 64) word)) (is_set words) 0 192 priority flag below
    (ap (is_set (set words (priority / 64) word)) number ∙ (ap (λ w. bit_at w (priority % 64) == 1) (get_or-set_same words (priority / 64) word 0 within) ∙ here))
    (λ other apart. is_other (other / 64 == priority / 64) words priority word other refl within (λ same. apart (same ∙ sym number)) others)

-- a word whose bit is set, and one whose bit is cleared
pub set_flag : (words new : List ℕ) (priority word : ℕ) → priority < 192 → length words ≡ 3 → word ≡ get_or words (priority / 64) 0 →
    new ≡ set words (priority / 64) (bit_or word (1 * 2 ^ (priority % 64) % 2 ^ 64)) → flags new ≡ set (flags words) priority true
set_flag words new priority word below long is changed =
    let within : priority % 64 < 64 = omega arith in
    ap flags changed ∙ changed_flag words priority (bit_or word (1 * 2 ^ (priority % 64) % 2 ^ 64)) true below long (ap (λ b. b == 1) (bit_at_set_same w64 word (priority % 64) within))
    (λ bit small apart. bit_at_set_other w64 word (priority % 64) within bit apart ∙ ap (λ n. bit_at n bit) is)

pub clear_flag : (words new : List ℕ) (priority word : ℕ) → priority < 192 → length words ≡ 3 → word ≡ get_or words (priority / 64) 0 →
    new ≡ set words (priority / 64) (bit_and word (bit_not w64 (1 * 2 ^ (priority % 64) % 2 ^ 64))) → flags new ≡ set (flags words) priority false
clear_flag words new priority word below long is changed =
    let within : priority % 64 < 64 = omega arith in
    ap flags changed ∙ changed_flag words priority (bit_and word (bit_not w64 (1 * 2 ^ (priority % 64) % 2 ^ 64))) false below long (ap (λ b. b == 1) (bit_at_clear_same w64 word (priority % 64) within))
    (λ bit small apart. bit_at_clear_other w64 word (priority % 64) within bit small apart ∙ ap (λ n. bit_at n bit) is)

-- ---- the highest

-- no priority before this word is set
unfoldable pub NoneBefore : List ℕ → ℕ → Type 0
NoneBefore words index = (priority : ℕ) → priority < 64 * index → is_set words priority ≡ false

pub none_yet : (words : List ℕ) → NoneBefore words 0
unfolding NoneBefore
none_yet words priority below = absurd (omega arith)

next_step : (test : Bool) (words : List ℕ) (index priority : ℕ) → (priority / 64 == index) ≡ test → get_or words index 0 ≡ 0 → ((other : ℕ) → other < 64 * index → is_set words other ≡ false) → priority < 64 * (index + 1) → is_set words priority ≡ false
next_step true words index priority is nothing none below =
    let same : priority / 64 ≡ index = grind (arith, nat_tests) in
    ap (λ i. bit_at (get_or words i 0) (priority % 64) == 1) same ∙ (ap (λ w. bit_at w (priority % 64) == 1) nothing ∙ ap (λ b. b == 1) (bit_at-zero (priority % 64)))
next_step false words index priority is nothing none below =
    let apart : priority / 64 ≢ index = λ same. absurd (grind (arith, nat_tests)) in none priority (omega (arith, apart, div-add-mod priority 64))

pub none_in_word : (words : List ℕ) (index word : ℕ) → NoneBefore words index → word ≡ get_or words index 0 → word ≡ 0 → NoneBefore words (index + 1)
unfolding NoneBefore
none_in_word words index word none is nothing priority below = next_step (priority / 64 == index) words index priority refl (sym is ∙ nothing) none below

pub none_at_all : (words : List ℕ) (index : ℕ) → NoneBefore words index → 3 ≤ index → first_set 0 (flags words) ≡ None
unfolding NoneBefore flags
none_at_all words index none past = none_found (is_set words) 0 192 (λ priority below. none priority (omega arith))

in_word : (index bit : ℕ) → bit < 64 → ((64 * index + bit) / 64 ≡ index) × ((64 * index + bit) % 64 ≡ bit)
in_word index bit small = (omega (arith, div-add-mod (64 * index + bit) 64), omega (arith, div-add-mod (64 * index + bit) 64))

below_step : (test : Bool) (words : List ℕ) (index word other bit : ℕ) → (other / 64 == index) ≡ test → ((priority : ℕ) → priority < 64 * index → is_set words priority ≡ false) → word ≡ get_or words index 0 →
    ((i : ℕ) → i < bit → bit_at word i ≡ 0) → other < 64 * index + bit → bit < 64 → is_set words other ≡ false
below_step true words index word other bit is none same clear below small =
    let here : other / 64 ≡ index = grind (arith, nat_tests) in
    ap (λ i. bit_at (get_or words i 0) (other % 64) == 1) here ∙ (ap (λ w. bit_at w (other % 64) == 1) (sym same) ∙ ap (λ b. b == 1) (clear (other % 64) (omega (arith, here, div-add-mod other 64))))
below_step false words index word other bit is none same clear below small =
    let apart : other / 64 ≢ index = λ here. absurd (grind (arith, nat_tests)) in none other (omega (arith, apart, div-add-mod other 64))

pub found_in_word : (words : List ℕ) (index word : ℕ) → index < 3 → NoneBefore words index → word ≡ get_or words index 0 → 0 < word → word < 2 ^ 64 → first_set 0 (flags words) ≡ Some (64 * index + trailing_zeros w64 word)
unfolding NoneBefore flags
found_in_word words index word within none is some fits =
    let lowest = bit_at-trailing_zeros w64 word some fits in let bit = trailing_zeros w64 word in let place = 64 * index + bit in let parts = in_word index bit lowest.0 in
    let number : 0 + place ≡ place = omega arith in
    first_found (is_set words) 0 192 place (omega (arith, lowest.0))
    (ap (is_set words) number ∙ (ap (λ i. bit_at (get_or words i 0) (place % 64) == 1) parts.0 ∙ (ap (λ b. bit_at (get_or words index 0) b == 1) parts.1 ∙ (ap (λ w. bit_at w bit == 1) (sym is) ∙ ap (λ b. b == 1) lowest.1))))
    (λ other below. below_step (other / 64 == index) words index word other bit refl none is lowest.2 (omega (arith, number)) lowest.0) ∙ ap Some number

zero_word : (index : ℕ) → get_or {A = ℕ} (0 ∷ 0 ∷ 0 ∷ []) index 0 ≡ 0
zero_word zero = refl
zero_word (suc zero) = refl
zero_word (suc (suc zero)) = refl
zero_word (suc (suc (suc index))) = refl

-- no word has a bit set
pub flags_of_nothing : flags (0 ∷ 0 ∷ 0 ∷ []) ≡ nothing_set
unfolding flags nothing_set
flags_of_nothing = no_flag (is_set (0 ∷ 0 ∷ 0 ∷ [])) 0 192 (λ priority. ap (λ w. bit_at w (priority % 64) == 1) (zero_word (priority / 64)) ∙ ap (λ b. b == 1) (bit_at-zero (priority % 64)))

-- ---- the first that is set is the least

abbrev pub IsFirst : ℕ → List Bool → ℕ → Type 0
IsFirst from flags priority = (place : ℕ) × (priority ≡ from + place) × (get_or flags place false ≡ true) × ((other : ℕ) → other < place → get_or flags other false ≡ false)

some_is : (one other : ℕ) → Some one ≡ Some other → one ≡ other
some_is one other same = cc

first_step : (flag : Bool) (from : ℕ) (rest : List Bool) (priority : ℕ) → cond flag (Some from) (first_set (from + 1) rest) ≡ Some priority → (first_set (from + 1) rest ≡ Some priority → IsFirst (from + 1) rest priority) → IsFirst from (flag ∷ rest) priority
first_step true from rest priority is further = let same = some_is from priority is in (0, omega (arith, same), refl, λ other below. absurd (omega arith))
first_step false from rest priority is further =
    let found = further is in (suc found.0, omega (arith, found.1), found.2, before found.0 found.3)
  where
    before : (place : ℕ) → ((other : ℕ) → other < place → get_or rest other false ≡ false) → (other : ℕ) → other < suc place → get_or (false ∷ rest) other false ≡ false
    before place none zero below = refl
    before place none (suc other) below = none other (omega arith)

first_is : (from : ℕ) (flags : List Bool) (priority : ℕ) → first_set from flags ≡ Some priority → IsFirst from flags priority
first_is from [] priority is = absurd (cc is)
first_is from (flag ∷ rest) priority is = first_step flag from rest priority is (first_is (from + 1) rest priority)

pub first_is_least : (flags : List Bool) (priority : ℕ) → first_set 0 flags ≡ Some priority → (get_or flags priority false ≡ true) × ((other : ℕ) → other < priority → get_or flags other false ≡ false)
first_is_least flags priority is =
    let found = first_is 0 flags priority is in let same : found.0 ≡ priority = omega (arith, found.1) in
    (subst (λ p. get_or flags p false ≡ true) same found.2, λ other below. found.3 other (omega (arith, same)))

none_step : (flag : Bool) (from : ℕ) (rest : List Bool) → cond flag (Some from) (first_set (from + 1) rest) ≡ None → (first_set (from + 1) rest ≡ None → (other : ℕ) → get_or rest other false ≡ false) → (other : ℕ) → get_or (flag ∷ rest) other false ≡ false
none_step true from rest is further other = absurd (cc is)
none_step false from rest is further zero = refl
none_step false from rest is further (suc other) = further is other

no_first : (from : ℕ) (flags : List Bool) → first_set from flags ≡ None → (other : ℕ) → get_or flags other false ≡ false
no_first from [] is other = refl
no_first from (flag ∷ rest) is other = none_step flag from rest is (no_first (from + 1) rest) other

pub none_is_set : (flags : List Bool) (priority : ℕ) → first_set 0 flags ≡ None → get_or flags priority false ≡ false
none_is_set flags priority is = no_first 0 flags is priority
