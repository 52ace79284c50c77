-- Checks that hold, one after another.
use Rattle.std.proofs.Common.{◌≡◌, ℕ, Bool, true, false, List, [], ◌∷◌, ◌++◌, Option, Some, None, refl}
use Rattle.std.specs.Prelude.{if◌then◌else◌}
use Rattle.std.specs.Option.{option_or}
use Rattle.tk_types.specs.declared.error_code.Er.{Er}
use Rattle.kernel_model.specs.Words.Checks.{Check, ◌otherwise◌, first_error}

pub is_within : (test : Bool) (n y : ℕ) (found : Option ℕ) → found ≡ (if test then Some n else None) → found ≡ Some y → test ≡ true
is_within true n y found is there = refl
is_within false n y found is there = absurd (cc (is, there))

pub four_hold : (a b c d : Bool) (e f g h : Er) → a ≡ true → b ≡ true → c ≡ true → d ≡ true → first_error ((a otherwise e) ∷ (b otherwise f) ∷ (c otherwise g) ∷ (d otherwise h) ∷ []) ≡ None
four_hold a b c d e f g h one two three four = rw (one, two, three, four) refl

error_if : (test : Bool) (error : Er) (left others : List Check) → first_error (left ++ others) ≡ option_or (first_error left) (first_error others) →
    first_error ((test otherwise error) ∷ (left ++ others)) ≡ option_or (first_error ((test otherwise error) ∷ left)) (first_error others)
error_if true error left others rest = rest
error_if false error left others rest = refl

-- the first error of two lists of checks
pub error_of_both : (checks others : List Check) → first_error (checks ++ others) ≡ option_or (first_error checks) (first_error others)
error_of_both [] others = refl
error_of_both (check ∷ checks) others = error_if check.holds check.error checks others (error_of_both checks others)
