-- Numbers, registers, names and lists: what is read of a word is spelled so, and each is read as itself.
use Rattle.std.proofs.Common.{◌≡◌, ◌∙◌, refl, sym, ap, subst, arith, ℕ, zero, suc, ◌<◌, ◌≤◌, ◌^◌, Bool, true, false, not, eqb, ◌&&◌, List, [], ◌∷◌, length, Option, Some, None, Ok}
use Rattle.std.specs.Prelude.{decimal, bytes_eq, nat_le, nat_lt, slice_index}
use Rattle.std.specs.Char.{is_ascii_lowercase}
use Rattle.std.specs.Fmt.{digits}
use Rattle.std.specs.List.{list_all}
use Rattle.std.specs.Option.{is_some}
use Rattle.std.proofs.lemmas.Bool.{ltb-true, leb-true, eqb-true, lt-ltb, le-leb}
use Rattle.std.proofs.lemmas.Bool.Decides.{nat_tests}
use Rattle.std.proofs.lemmas.Slice.Eq.{bytes_eq-Decides}
use Rattle.tk_types.specs.Names.{name_at_most, is_name_byte}
use Rattle.tk_types.specs.declared.why.Why.TheVariants as whys
use Rattle.tk_model.specs.Decimals.{number_at, natural_at, fits_i32}
use Rattle.tk_model.specs.ScriptText.{dash, register_word, IsName}
use Rattle.tk_text.proofs.Decimals.{natural_at_some, natural_at_again}
use Rattle.tk_raw.specs.Pieces.{below_sixteen, register_at, number_from, number_between, name_at, short_name_at}
use Rattle.tk_raw.proofs.Results.{passed, some_passed, ok_is, some_is, both_true, false_of_not, false_unless, none_of}

below_takes : (read : Option ℕ) (n : ℕ) → below_sixteen read ≡ Some n → (read ≡ Some n) × (n < 16)
below_takes None n e = absurd (cc)
below_takes (Some m) n e =
    let p = some_passed (nat_lt m 16) (Some m) n e in
    (p.1, subst (λ (k : ℕ). k < 16) (some_is m n p.1) (ltb-true m 16 p.0))

pub register_takes : (word : List ℕ) (n : ℕ) → register_at word ≡ Some n → (word ≡ register_word n) × (n < 16)
unfolding register_at register_word
register_takes [] n e = absurd (cc)
register_takes (first ∷ digits) n e =
    let p = some_passed (eqb first 114) (below_sixteen (natural_at digits)) n e in
    let b = below_takes (natural_at digits) n p.1 in
    (ap (λ (d : ℕ). d ∷ digits) (eqb-true first 114 p.0) ∙ ap (λ (ds : List ℕ). 114 ∷ ds) (natural_at_some digits n b.0).0, b.1)

pub register_again : (n : ℕ) → n < 16 → register_at (register_word n) ≡ Some n
unfolding register_at register_word
register_again n lt = rw (natural_at_again n (omega (arith, lt)), lt-ltb n 16 lt) refl

-- a test of the numbers below a bound
all_below : ℕ → (ℕ → Bool) → Bool
all_below zero test = true
all_below (suc n) test = test n && all_below n test

lt_of : (n bound : ℕ) → n < suc bound → eqb n bound ≡ false → n < bound
lt_of n bound lt h = grind (arith, nat_tests)

one_below : (bound : ℕ) (test : ℕ → Bool) (n : ℕ) → all_below bound test ≡ true → n < bound → test n ≡ true
unfolding all_below
one_below zero test n all lt = absurd (omega (arith, lt))
one_below (suc bound) test n all lt =
    let p = both_true (test bound) (all_below bound test) all in
    elim (eqb n bound) as (λ t. eqb n bound ≡ t → test n ≡ true)
    [ true ↦ λ h. ap test (eqb-true n bound h) ∙ p.0 | false ↦ λ h. one_below bound test n p.1 (lt_of n bound lt h) ] refl

no_number : all_below 16 (λ n. not (is_some (number_at (register_word n)))) ≡ true
unfolding number_at register_word fits_i32 digits all_below
no_number = refl

pub register_is_no_number : (n : ℕ) → n < 16 → number_at (register_word n) ≡ None
register_is_no_number n lt = none_of (number_at (register_word n)) (false_of_not (is_some (number_at (register_word n))) (one_below 16 (λ m. not (is_some (number_at (register_word m)))) n no_number lt))

number_from_takes : (read : Option ℕ) (low high n : ℕ) → number_from read low high ≡ Ok n → (read ≡ Some n) × (low ≤ n) × (n ≤ high)
number_from_takes None low high n e = absurd (cc)
number_from_takes (Some m) low high n e =
    let p = passed (nat_le low m && nat_le m high) (Ok m) whys.Number n e in
    let t = both_true (nat_le low m) (nat_le m high) p.0 in
    let same = ok_is m n p.1 in
    (ap Some same, subst (λ (k : ℕ). low ≤ k) same (leb-true low m t.0), subst (λ (k : ℕ). k ≤ high) same (leb-true m high t.1))

pub number_takes : (low high : ℕ) (word : List ℕ) (n : ℕ) → number_between low high word ≡ Ok n → (word ≡ decimal n) × (low ≤ n) × (n ≤ high)
unfolding number_between
number_takes low high word n e =
    let t = number_from_takes (natural_at word) low high n e in
    ((natural_at_some word n t.0).0, t.1, t.2)

pub number_again : (low high n : ℕ) → n < 2 ^ 64 → low ≤ n → n ≤ high → number_between low high (decimal n) ≡ Ok n
unfolding number_between
number_again low high n fits from to = rw (natural_at_again n fits, le-leb low n from, le-leb n high to) refl

pub name_takes : (word name : List ℕ) → name_at word ≡ Ok name → (word ≡ name) × IsName 16 name
unfolding name_at
name_takes word name e =
    let p = passed (name_at_most 16 word) (Ok word) whys.Name name e in
    let same = ok_is word name p.1 in
    (same, subst (λ (w : List ℕ). IsName 16 w) same p.0)

pub name_again : (name : List ℕ) → IsName 16 name → name_at name ≡ Ok name
unfolding name_at
name_again name is = rw is refl

-- a name of a device is a name
pub wider : (name : List ℕ) → IsName 8 name → IsName 16 name
unfolding name_at_most
wider name is =
    let p = both_true (nat_le (length name) 8) (nat_lt 0 (length name) && (is_ascii_lowercase (slice_index name 0) && list_all is_name_byte name)) is in
    let short = leb-true (length name) 8 p.0 in
    rw (le-leb (length name) 16 (omega (arith, short))) p.1

pub short_name_takes : (word name : List ℕ) → short_name_at word ≡ Ok name → (word ≡ name) × IsName 8 name
unfolding short_name_at
short_name_takes word name e =
    let p = passed (name_at_most 8 word) (name_at word) whys.Name name e in
    let same = (name_takes word name p.1).0 in
    (same, subst (λ (w : List ℕ). IsName 8 w) same p.0)

pub short_name_again : (name : List ℕ) → IsName 8 name → short_name_at name ≡ Ok name
unfolding short_name_at
short_name_again name is = rw (is, name_again name (wider name is)) refl

dash_is_no_name : name_at_most 16 dash ≡ false
unfolding name_at_most is_name_byte
dash_is_no_name = refl

pub name_is_no_dash : (name : List ℕ) → IsName 16 name → bytes_eq name dash ≡ false
name_is_no_dash name is = false_unless (bytes_eq name dash) (λ e.
    let same : name ≡ dash = (bytes_eq-Decides name dash).0 e in
    let bad : true ≡ false = sym is ∙ (ap (name_at_most 16) same ∙ dash_is_no_name) in
    absurd (cc))
