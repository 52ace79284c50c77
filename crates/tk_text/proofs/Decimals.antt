-- The two laws of numbers as words: what is read is spelled so, and what is spelled is read.
use Rattle.std.proofs.Common.{◌≡◌, ℕ, ◌<◌, ◌^◌, ◌&&◌, ltb, List, Option, Some, None, Result, Ok, Err, refl, sym, ap, ◌∙◌, subst, arith, ◌≢◌}
use Rattle.std.specs.Prelude.{ℤ, pos, negsuc}
use Rattle.std.specs.Bool.{Decides}
use Rattle.std.specs.Fmt.{decimal, signed_decimal}
use Rattle.std.specs.Int.{w32}
use Rattle.std.specs.Int.RustNames.{FitsSigned}
use Rattle.std.specs.Option.{IfSome, IfNone}
use Rattle.std.specs.Ordering.{int_eq}
use Rattle.std.specs.Str.{bytes_eq, IsUtf8}
use Rattle.std.specs.Str.Parse.{digits_value, signed_digits_value, ParsesUnsigned, ParsesSigned}
use Rattle.std.proofs.lemmas.Fmt.{parse-decimal, parse-signed_decimal, IsAscii-decimal, IsAscii-signed, decimal_is_IsNumeral}
use Rattle.std.proofs.lemmas.Str.{IsUtf8-from_ascii}
use Rattle.std.proofs.lemmas.Slice.Eq.{bytes_eq-Decides}
use Rattle.std.proofs.lemmas.Bool.Decides.{Decides-ltb, Decides-int_eq}
use lib.Signed.{mag}
use Rattle.tk_text.proofs.Options.{both_true, value_chosen, from_test, none_of}
use Rattle.tk_model.specs.Decimals.{fits_i32, number_at, natural_at}

-- a number's text is UTF-8
pub decimal_is_utf8 : (bs : List ℕ) (n : ℕ) → n < 2 ^ 64 → bs ≡ decimal n → IsUtf8 bs
decimal_is_utf8 bs n fits e = subst IsUtf8 (sym e) (IsUtf8-from_ascii (decimal n) (IsAscii-decimal n fits))

pub signed_is_utf8 : (bs : List ℕ) (z : ℤ) → FitsSigned w32 z → bs ≡ signed_decimal z → IsUtf8 bs
signed_is_utf8 bs z fits e = subst IsUtf8 (sym e) (IsUtf8-from_ascii (signed_decimal z) (IsAscii-signed z (omega (arith, fits.sfits))))

-- what is not read, or read as another number, is not the text of a number
pub unread_natural : {E : Type 0} (text word : List ℕ) (r : Result ℕ E) (e : E) → text ≡ word → r ≡ Err e → ParsesUnsigned 64 10 text r → (n : ℕ) → n < 2 ^ 64 → word ≢ decimal n
unread_natural text word r e same failed parses n fits is =
    let f : r ≡ Ok n = parse-decimal 64 n text r fits fits (same ∙ is) parses in cc

pub other_natural : {E : Type 0} (text word : List ℕ) (r : Result ℕ E) (v : ℕ) → text ≡ word → r ≡ Ok v → ParsesUnsigned 64 10 text r → decimal v ≢ word → (n : ℕ) → n < 2 ^ 64 → word ≢ decimal n
other_natural text word r v same ok parses other n fits is =
    let f : r ≡ Ok n = parse-decimal 64 n text r fits fits (same ∙ is) parses in
    let same_number : v ≡ n = cc in
    other (ap decimal same_number ∙ sym is)

pub unread_number : {E : Type 0} (text word : List ℕ) (r : Result ℤ E) (e : E) → text ≡ word → r ≡ Err e → ParsesSigned w32 10 text r → (z : ℤ) → FitsSigned w32 z → word ≢ signed_decimal z
unread_number text word r e same failed parses z fits is =
    let f : r ≡ Ok z = parse-signed_decimal w32 z text r fits (omega (arith, fits.sfits)) (same ∙ is) parses in cc

pub other_number : {E : Type 0} (text word : List ℕ) (r : Result ℤ E) (v : ℤ) → text ≡ word → r ≡ Ok v → ParsesSigned w32 10 text r → signed_decimal v ≢ word → (z : ℤ) → FitsSigned w32 z → word ≢ signed_decimal z
other_number text word r v same ok parses other z fits is =
    let f : r ≡ Ok z = parse-signed_decimal w32 z text r fits (omega (arith, fits.sfits)) (same ∙ is) parses in
    let same_number : v ≡ z = cc in
    other (ap signed_decimal same_number ∙ sym is)

pub fits_i32_tells : (z : ℤ) → Decides (fits_i32 z) (FitsSigned w32 z)
unfolding fits_i32
fits_i32_tells (pos n) = (λ e. record { sfits = (Decides-ltb n (2 ^ 31)).0 e }, λ fits. (Decides-ltb n (2 ^ 31)).1 fits.sfits)
fits_i32_tells (negsuc n) = (λ e. record { sfits = (Decides-ltb n (2 ^ 31)).0 e }, λ fits. (Decides-ltb n (2 ^ 31)).1 fits.sfits)

-- the text of a number has that number's value
pub signed_value_again : (z : ℤ) → FitsSigned w32 z → signed_digits_value 10 (signed_decimal z) ≡ z
signed_value_again z fits =
    let value = signed_digits_value 10 (signed_decimal z) in
    let failed : Result ℤ ℕ = Err 0 in
    let read : Result ℤ ℕ = Ok value in
    let wide : mag z < 2 ^ 63 = omega (arith, fits.sfits) in
    from_test (int_eq value z) (Decides-int_eq value z)
    (λ other. let e : failed ≡ Ok z = parse-signed_decimal w32 z (signed_decimal z) failed fits wide refl
    (λ is. let f : read ≡ Ok z = parse-signed_decimal w32 z (signed_decimal z) read fits wide refl (is, refl) in other (cc)) in cc)

pub natural_at_some : (word : List ℕ) (n : ℕ) → natural_at word ≡ Some n → (word ≡ decimal n) × (n < 2 ^ 64)
unfolding natural_at
natural_at_some word n e =
    let v = digits_value 10 word in
    let c = value_chosen (bytes_eq (decimal v) word && ltb v (2 ^ 64)) v n e in
    let t = both_true (bytes_eq (decimal v) word) (ltb v (2 ^ 64)) c.0 in
    (sym ((bytes_eq-Decides (decimal v) word).0 t.0) ∙ ap decimal c.1, subst (λ (m : ℕ). m < 2 ^ 64) c.1 ((Decides-ltb v (2 ^ 64)).0 t.1))

pub natural_at_again : (n : ℕ) → n < 2 ^ 64 → natural_at (decimal n) ≡ Some n
unfolding natural_at
natural_at_again n fits =
    rw ((decimal_is_IsNumeral n fits).1, (bytes_eq-Decides (decimal n) (decimal n)).1 refl, (Decides-ltb n (2 ^ 64)).1 fits) refl

pub number_at_some : (word : List ℕ) (z : ℤ) → number_at word ≡ Some z → (word ≡ signed_decimal z) × FitsSigned w32 z
unfolding number_at
number_at_some word z e =
    let v = signed_digits_value 10 word in
    let c = value_chosen (bytes_eq (signed_decimal v) word && fits_i32 v) v z e in
    let t = both_true (bytes_eq (signed_decimal v) word) (fits_i32 v) c.0 in
    (sym ((bytes_eq-Decides (signed_decimal v) word).0 t.0) ∙ ap signed_decimal c.1, subst (FitsSigned w32) c.1 ((fits_i32_tells v).0 t.1))

pub number_at_again : (z : ℤ) → FitsSigned w32 z → number_at (signed_decimal z) ≡ Some z
unfolding number_at
number_at_again z fits =
    rw (signed_value_again z fits, (bytes_eq-Decides (signed_decimal z) (signed_decimal z)).1 refl, (fits_i32_tells z).1 fits) refl

-- what two exact answers of one word have to be
pub natural_at_from_clauses : (word : List ℕ) (r : Option ℕ) → IfSome r (λ n. (word ≡ decimal n) × (n < 2 ^ 64)) → IfNone r ((n : ℕ) → n < 2 ^ 64 → word ≢ decimal n) → r ≡ natural_at word
natural_at_from_clauses word (Some n) some none = sym (ap natural_at some.0 ∙ natural_at_again n some.1)
natural_at_from_clauses word None some none = none_of (natural_at word) (λ n e. let t = natural_at_some word n e in none n t.1 t.0)

pub number_at_from_clauses : (word : List ℕ) (r : Option ℤ) → IfSome r (λ z. (word ≡ signed_decimal z) × FitsSigned w32 z) → IfNone r ((z : ℤ) → FitsSigned w32 z → word ≢ signed_decimal z) → r ≡ number_at word
number_at_from_clauses word (Some z) some none = sym (ap number_at some.0 ∙ number_at_again z some.1)
number_at_from_clauses word None some none = none_of (number_at word) (λ z e. let t = number_at_some word z e in none z t.1 t.0)
