-- The map of places beside labels that grow.
use Rattle.std.proofs.Common.{◌≡◌, ◌∙◌, refl, sym, ap, subst, ℕ, ◌<◌, ◌≤◌, ◌+◌, Bool, true, false, not, cond, eqb, ltb, List, [], ◌∷◌, ◌++◌, length, Option, Some, None, Vec, Global, arith}
use Rattle.std.specs.Cmp.Lexicographic.{nat_list_eq_equiv}
use Rattle.std.specs.HashMap.{HashMap, UpdatesBy}
use Rattle.std.specs.List.{position, position_or_len}
use Rattle.std.specs.Map.{KeepsOthers}
use Rattle.std.specs.Option.{is_some}
use Rattle.std.specs.Str.{bytes_eq}
use Rattle.std.proofs.lemmas.Bool.Decides.{Decides-ltb, nat_tests}
use Rattle.std.proofs.lemmas.List.{length-append}
use Rattle.std.proofs.lemmas.List.Folds.{position_or_len_push}
use Rattle.std.proofs.lemmas.List.Sums.{prefix_len-le-length}
use Rattle.std.proofs.lemmas.Slice.Eq.{bytes_eq-Decides}
use Rattle.tk_types.specs.declared.script.Label.{Label}
use Rattle.tk_script.specs.LabelPlaces.{ArePlaces, TakesName, place_in, first_or}

-- the empty map
pub none_held : {S : Type 0} (places : HashMap (Vec ℕ Global) ℕ S) → places.entries ≡ [] → ArePlaces places []
none_held places empty word = rw empty refl

first_is_kept : (known : Option ℕ) (place : ℕ) → known ≡ first_or known false place
first_is_kept None place = refl
first_is_kept (Some n) place = refl

none_known : {X : Type 0} (known : Option X) → is_some known ≡ false → known ≡ None
none_known None e = refl
none_known (Some x) e = absurd (cc)

-- a map that gets the place of a name that it doesn't have
pub name_new : {S : Type 0} (places grown : HashMap (Vec ℕ Global) ℕ S) (bytes : Vec ℕ Global) (name : List ℕ) (place : ℕ) → is_some (place_in places name) ≡ false → bytes.items ≡ name → UpdatesBy (λ x y. bytes_eq x.items y.items) (λ key. bytes_eq bytes.items key.items) places grown (Some place) → TakesName places name place grown
unfolding KeepsOthers
name_new {S} places grown bytes name place new same updates word = at_word (bytes_eq name word) refl
  where
    here : place_in grown name ≡ Some place
    here = subst (λ (w : List ℕ). place_in grown w ≡ Some place) same updates.1

    apart : (key : List ℕ) → bytes_eq name word ≡ false → bytes_eq bytes.items key ≡ true → bytes_eq word key ≡ false
    apart key other is = nat_list_eq_equiv.symm word key ∙ (sym (nat_list_eq_equiv.congr bytes.items key word is) ∙ (ap (λ (w : List ℕ). bytes_eq w word) same ∙ other))

    at_word : (b : Bool) → bytes_eq name word ≡ b → place_in grown word ≡ first_or (place_in places word) b place
    at_word true is = subst (λ (w : List ℕ). place_in grown w ≡ first_or (place_in places w) true place) ((bytes_eq-Decides name word).0 is) (rw (none_known (place_in places name) new) here)
    at_word false other = updates.3 (λ key. bytes_eq word key.items) (λ x y. nat_list_eq_equiv.congr word x.items y.items) (λ key. apart key.items other) ∙ first_is_kept (place_in places word) place

when_true : (test : Bool) (n : ℕ) → test ≡ true → cond test (Some n) None ≡ Some n
when_true true n e = refl
when_true false n e = absurd (cc)

when_false : (test : Bool) (n : ℕ) → test ≡ false → cond test (Some n) None ≡ None
when_false true n e = absurd (cc)
when_false false n e = refl

is_below : (a b : ℕ) → a < b → ltb a b ≡ true
is_below a b low = (Decides-ltb a b).1 low

isn't_below : (a b : ℕ) → b ≤ a → ltb a b ≡ false
isn't_below a b high = grind (arith, nat_tests)

place_behind : (a n : ℕ) (last same : Bool) → eqb a n ≡ same → a ≤ n → cond (ltb (cond same (n + cond last 0 1) a) (n + 1)) (Some (cond same (n + cond last 0 1) a)) None ≡ first_or (cond (ltb a n) (Some a) None) last n
place_behind a n true true e low =
    let at : a ≡ n = grind (arith, nat_tests) in
    let zero : n + 0 ≡ n = omega arith in
    when_true (ltb (n + 0) (n + 1)) (n + 0) (is_below (n + 0) (n + 1) (omega arith)) ∙ (ap (λ k. Some k) zero ∙ sym (ap (λ k. first_or k true n) (when_false (ltb a n) a (isn't_below a n (omega arith)))))
place_behind a n false true e low =
    let at : a ≡ n = grind (arith, nat_tests) in
    when_false (ltb (n + 1) (n + 1)) (n + 1) (isn't_below (n + 1) (n + 1) (omega arith)) ∙ sym (ap (λ k. first_or k false n) (when_false (ltb a n) a (isn't_below a n (omega arith))))
place_behind a n last false e low =
    let before : a < n = grind (arith, nat_tests) in
    when_true (ltb a (n + 1)) a (is_below a (n + 1) (omega arith)) ∙ sym (ap (λ k. first_or k last n) (when_true (ltb a n) a (is_below a n before)))

-- the first place where a test passes, in a list with one more item
position_push : {X : Type 0} (test : X → Bool) (xs : List X) (y : X) → position test (xs ++ y ∷ []) ≡ first_or (position test xs) (test y) (length xs)
position_push test xs y =
    let a : ℕ = position_or_len test xs in
    let n : ℕ = length xs in
    subst (λ (m : ℕ). cond (ltb (position_or_len test (xs ++ y ∷ [])) m) (Some (position_or_len test (xs ++ y ∷ []))) None ≡ first_or (position test xs) (test y) n) (sym (length-append xs (y ∷ [])))
    (subst (λ (q : ℕ). cond (ltb q (n + 1)) (Some q) None ≡ first_or (position test xs) (test y) n) (sym (position_or_len_push test xs y)) (place_behind a n (test y) (eqb a n) refl (prefix_len-le-length (λ x. not (test x)) xs)))

-- the map that takes the name of one more label
pub label_held : {S : Type 0} (places grown : HashMap (Vec ℕ Global) ℕ S) (labels longer : List Label) (label : Label) (place : ℕ) → ArePlaces places labels → TakesName places label.name place grown → place ≡ length labels → longer ≡ labels ++ label ∷ [] → ArePlaces grown longer
label_held places grown labels longer label place held takes counted more word =
    let test : Label → Bool = λ l. bytes_eq l.name word in
    takes word ∙ (ap (λ k. first_or k (test label) place) (held word) ∙ (ap (λ n. first_or (position test labels) (test label) n) counted ∙ (sym (position_push test labels label) ∙ sym (ap (position test) more))))
