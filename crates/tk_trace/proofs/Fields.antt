-- Fields read one after another: those so far stand in front, and the others are those of the words left.
use Rattle.std.proofs.Common.{◌≡◌, ℕ, ◌+◌, ◌<◌, ◌≤◌, Bool, true, false, cond, ltb, List, [], ◌∷◌, ◌++◌, length, take, drop, set, get_or, Option, Some, None, option_map, option_and_then, refl, sym, ap, ◌∙◌, subst, arith, add-one, append_assoc, append-nil}
use Rattle.std.specs.Prelude.{ℤ}
use Rattle.std.proofs.Math.Seq.{drop-cons}
use Rattle.std.proofs.Math.ListN.{get_or-map, drop_of_length-le}
use Rattle.std.proofs.lemmas.List.{length-map, take_more_set, drop-set-lt, drop-drop, take-append-drop, length-take-le}
use Rattle.std.proofs.lemmas.Bool.{le-ltb}
use denote.Ref.{Bor}
use Rattle.tk_model.specs.Decimals.{number_at}
use Rattle.tk_model.specs.Lists.{texts}
use Rattle.tk_model.specs.LineRanges.{no_fields}
use Rattle.tk_trace.specs.Reading.{with_front, numbers_at, padded, fields_at}

-- a word and those behind it
texts_at : (words : List (Bor (List ℕ))) (i : ℕ) (d : Bor (List ℕ)) → i < length words → drop i (texts words) ≡ (get_or words i d).now ∷ drop (i + 1) (texts words)
texts_at words i d lt =
    let within : i < length (texts words) = rw length-map lt in
    rw (add-one, ← get_or-map (λ (word : Bor (List ℕ)). word.now) words i d) (drop-cons (texts words) i d.now within)

with_front_more : (front : List ℤ) (number : ℤ) (rest : Option (List ℤ)) → with_front (front ++ number ∷ []) rest ≡ with_front front (option_and_then (λ numbers. Some (number ∷ numbers)) rest)
with_front_more front number None = refl
with_front_more front number (Some numbers) = ap Some (append_assoc front (number ∷ []) numbers)

-- one more field is read
pub field_read : (words : List (Bor (List ℕ))) (i : ℕ) (d : Bor (List ℕ)) (fields : List ℤ) (number : ℤ) (all : Option (List ℤ)) → i < length words → i < length fields → number_at (get_or words i d).now ≡ Some number → with_front (take i fields) (numbers_at (drop i (texts words))) ≡ all → with_front (take (i + 1) (set fields i number)) (numbers_at (drop (i + 1) (texts words))) ≡ all
unfolding numbers_at
field_read words i d fields number all lt place is same =
    rw (take_more_set fields i number place, with_front_more (take i fields) number (numbers_at (drop (i + 1) (texts words))))
    (subst (λ (v : Option ℤ). with_front (take i fields) (option_and_then (λ number. option_and_then (λ numbers. Some (number ∷ numbers)) (numbers_at (drop (i + 1) (texts words)))) v) ≡ all) is
    (subst (λ (v : List (List ℕ)). with_front (take i fields) (numbers_at v) ≡ all) (texts_at words i d lt) same))

-- the places behind stay 0
pub behind_more : (i : ℕ) (fields : List ℤ) (number : ℤ) → drop i fields ≡ drop i no_fields → drop (i + 1) (set fields i number) ≡ drop (i + 1) no_fields
behind_more i fields number behind =
    let lt : i < i + 1 = omega arith in
    drop-set-lt (i + 1) fields i number lt ∙ (sym (drop-drop 1 i fields) ∙ (ap (drop 1) behind ∙ drop-drop 1 i no_fields))

no_front : (front : List ℤ) (rest : Option (List ℤ)) → rest ≡ None → with_front front rest ≡ None
no_front front rest e = rw e refl

-- where a word spells no number there are no fields
pub field_not_read : (words : List (Bor (List ℕ))) (i : ℕ) (d : Bor (List ℕ)) (fields : List ℤ) → i < length words → number_at (get_or words i d).now ≡ None → with_front (take i fields) (numbers_at (drop i (texts words))) ≡ numbers_at (texts words) → None ≡ fields_at (texts words)
unfolding numbers_at fields_at
field_not_read words i d fields lt is same =
    let stops : numbers_at ((get_or words i d).now ∷ drop (i + 1) (texts words)) ≡ None = rw is refl in
    let none : numbers_at (texts words) ≡ None = sym same ∙ no_front (take i fields) (numbers_at (drop i (texts words))) (rw (texts_at words i d lt) stops) in
    rw none (nothing (ltb 5 (length (texts words))))
  where
    nothing : (b : Bool) → None ≡ cond b None (option_map {T = List ℤ} padded None)
    nothing true = refl
    nothing false = refl

-- all words are read
pub fields_read : (words : List (Bor (List ℕ))) (i : ℕ) (fields : List ℤ) → i ≤ length words → length words ≤ i → length words ≤ 5 → length fields ≡ 5 → drop i fields ≡ drop i no_fields → with_front (take i fields) (numbers_at (drop i (texts words))) ≡ numbers_at (texts words) → Some fields ≡ fields_at (texts words)
unfolding numbers_at fields_at
fields_read words i fields low high most places behind same =
    let few : ltb 5 (length (texts words)) ≡ false = rw length-map (le-ltb 5 (length words) most) in
    let past : length (texts words) ≤ i = rw length-map high in
    let end : drop i (texts words) ≡ [] = drop_of_length-le (texts words) past in
    let all : Some (take i fields ++ []) ≡ numbers_at (texts words) = subst (λ (v : List (List ℕ)). with_front (take i fields) (numbers_at v) ≡ numbers_at (texts words)) end same in
    let within : i ≤ length fields = omega arith in
    rw (few, ← all, append-nil, length-take-le i fields within, ← behind, take-append-drop) refl
