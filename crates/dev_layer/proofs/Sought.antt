-- Whether one is found, and which is the first.
use Rattle.std.proofs.Common.{◌≡◌, ℕ, zero, suc, ◌+◌, Bool, true, false, List, [], ◌∷◌, Option, Some, refl, ap, sym, ◌∙◌, drop, add-one}
use Rattle.std.specs.Prelude.{slice_get}
use Rattle.std.specs.List.{find, list_any}
use Rattle.std.specs.Option.{is_some}

any_if : (p : ℕ → Bool) (t : ℕ) (ts : List ℕ) (b : Bool) → p t ≡ b → is_some (find p ts) ≡ list_any p ts → is_some (find p (t ∷ ts)) ≡ list_any p (t ∷ ts)
any_if p t ts true is rest = rw is refl
any_if p t ts false is rest = rw (is, rest) refl

-- one is found where there is any
pub any_found : (p : ℕ → Bool) (ts : List ℕ) → is_some (find p ts) ≡ list_any p ts
any_found p [] = refl
any_found p (t ∷ ts) = any_if p t ts (p t) refl (any_found p ts)

here_if : (p : ℕ → Bool) (x : ℕ) (rest : List ℕ) (passes : Bool) → p x ≡ passes → passes ≡ true → find p (x ∷ rest) ≡ Some x
here_if p x rest true is yes_it = rw is refl
here_if p x rest false is yes_it = absurd (cc yes_it)

passed_if : (p : ℕ → Bool) (x : ℕ) (rest : List ℕ) → p x ≡ false → find p (x ∷ rest) ≡ find p rest
passed_if p x rest is = rw is refl

found_at : (p : ℕ → Bool) (list : List ℕ) (place t : ℕ) → slice_get list place ≡ Some t → p t ≡ true → find p (drop place list) ≡ Some t
found_at p [] place t at passes = absurd (cc at)
found_at p (x ∷ list) zero t at passes = let same : x ≡ t = cc at in here_if p x list true (ap p same ∙ passes) refl ∙ ap Some same
found_at p (x ∷ list) (suc place) t at passes = found_at p list place t at passes

passed_at : (p : ℕ → Bool) (list : List ℕ) (place t : ℕ) → slice_get list place ≡ Some t → p t ≡ false → find p (drop place list) ≡ find p (drop (suc place) list)
passed_at p [] place t at fails = absurd (cc at)
passed_at p (x ∷ list) zero t at fails = let same : x ≡ t = cc at in passed_if p x list (ap p same ∙ fails)
passed_at p (x ∷ list) (suc place) t at fails = passed_at p list place t at fails

-- one that passes in a place is the first, where those before don't
pub find_here : (p : ℕ → Bool) (list : List ℕ) (place t : ℕ) (all : Option ℕ) → slice_get list place ≡ Some t → p t ≡ true → find p (drop place list) ≡ all → Some t ≡ all
find_here p list place t all at passes left = sym (found_at p list place t at passes) ∙ left

pub find_further : (p : ℕ → Bool) (list : List ℕ) (place t : ℕ) (all : Option ℕ) → slice_get list place ≡ Some t → p t ≡ false → find p (drop place list) ≡ all → find p (drop (place + 1) list) ≡ all
find_further p list place t all at fails left = ap (λ n. find p (drop n list)) (add-one place) ∙ sym (passed_at p list place t at fails) ∙ left
