-- Laws of the table of error codes. Each goes through all codes, since a last case is checked for each of them.
use Rattle.std.proofs.Common.{◌≡◌, Bool, true, false, cond, ltb, List, [], ◌∷◌, Some, find, refl, subst}
use Rattle.std.specs.Prelude.{ℤ}
use Rattle.std.specs.Ordering.{int_eq}
use Rattle.std.proofs.lemmas.Bool.Decides.{Decides-int_eq}
use Rattle.std.specs.List.{list_all}
use Rattle.tk_types.specs.declared.error_code.Er.{Er}
use Rattle.tk_types.specs.declared.error_code.Er.TheVariants.{Par}
use Rattle.tk_types.specs.declared.error_code.TheConstants.{ALL}
use Rattle.tk_types.specs.Codes.{code_of, coded, error_text, error_named}

-- the name of a code is read as that code: so no two codes have one name
pub error_named_text : (error : Er) → error_named (error_text error) ≡ Some error
unfolding error_text error_named
error_named_text Par = refl
error_named_text _ = refl

-- each byte of a name is printed, and none is a space
pub error_text_plain : (error : Er) → list_all (ltb 32) (error_text error) ≡ true
unfolding error_text
error_text_plain Par = refl
error_text_plain _ = refl

chosen_passes : (p : Er → Bool) (first : Er) (errors : List Er) (error : Er) → (find p errors ≡ Some error → p error ≡ true) → (b : Bool) → p first ≡ b → cond b (Some first) (find p errors) ≡ Some error → p error ≡ true
chosen_passes p first errors error later true is chosen = let same : first ≡ error = cc in subst (λ (other : Er). p other ≡ true) same is
chosen_passes p first errors error later false is chosen = later chosen

found_passes : (p : Er → Bool) (errors : List Er) (error : Er) → find p errors ≡ Some error → p error ≡ true
found_passes p [] error e = absurd (cc)
found_passes p (first ∷ errors) error e =
    chosen_passes p first errors error (found_passes p errors error) (p first) refl e

-- the code with a number has that number
pub coded_code : (z : ℤ) (error : Er) → coded z ≡ Some error → code_of error ≡ z
unfolding coded
coded_code z error e = (Decides-int_eq (code_of error) z).0 (found_passes (λ other. int_eq (code_of other) z) ALL error e)
