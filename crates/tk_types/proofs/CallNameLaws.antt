-- Laws of the table of calls. Each goes through all names, since a last case is checked for each of them.
use Rattle.std.specs.Prelude.{ℕ, Option, Some, None, Bool, true, false, List, [], ◌∷◌, not, ◌==◌, ◌≡◌, ◌⊎◌, nat_lt, refl, find, bytes_eq, if◌then◌else◌}
use Rattle.std.proofs.Common.{inl, inr, subst}
use Rattle.std.proofs.lemmas.Slice.Eq.{bytes_eq-Decides}
use Rattle.std.specs.List.{list_all}
use Rattle.tk_types.specs.declared.call_name.CallName.{CallName}
use Rattle.tk_types.specs.declared.call_name.CallName.TheVariants.{TkCreTsk}
use Rattle.tk_types.specs.declared.call_name.TheConstants.{ALL}
use Rattle.tk_types.specs.CallNames.{text_of, named}

-- the spelling of a name is read as that name: so no two names have one spelling
pub named_text_of : (name : CallName) → named (text_of name) ≡ Some name
unfolding text_of named
named_text_of TkCreTsk = refl
named_text_of _ = refl

-- no spelling has a space
pub text_of_spaceless : (name : CallName) → list_all (λ byte. not (byte == 32)) (text_of name) ≡ true
unfolding text_of
text_of_spaceless TkCreTsk = refl
text_of_spaceless _ = refl

-- each byte of a spelling is printed, and none is a space
pub text_of_plain : (name : CallName) → list_all (nat_lt 32) (text_of name) ≡ true
unfolding text_of
text_of_plain TkCreTsk = refl
text_of_plain _ = refl

chosen_passes : (test : CallName → Bool) (first : CallName) (names : List CallName) (name : CallName) (b : Bool) → test first ≡ b → (find test names ≡ Some name → test name ≡ true) → (if b then Some first else find test names) ≡ Some name → test name ≡ true
chosen_passes test first names name true is later e =
    let same : first ≡ name = cc in subst (λ (n : CallName). test n ≡ true) same is
chosen_passes test first names name false is later e = later e

found_passes : (test : CallName → Bool) (names : List CallName) (name : CallName) → find test names ≡ Some name → test name ≡ true
found_passes test [] name e = absurd (cc)
found_passes test (first ∷ names) name e = chosen_passes test first names name (test first) refl (found_passes test names name) e

-- what is read as a name is its spelling
pub text_of_named : (word : List ℕ) (name : CallName) → named word ≡ Some name → text_of name ≡ word
unfolding named
text_of_named word name e = (bytes_eq-Decides (text_of name) word).0 (found_passes (λ (n : CallName). bytes_eq (text_of n) word) ALL name e)
