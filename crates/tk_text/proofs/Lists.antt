-- Lists of words of a table, both ways.
use Rattle.std.proofs.Common.{◌≡◌, ℕ, ◌<◌, Bool, true, false, cond, eqb, List, [], ◌∷◌, ◌++◌, length, Option, Some, None, refl, sym, ap, subst, append-nil, arith}
use Rattle.std.specs.List.{slice_split, onto_first, join_with_byte}
use Rattle.std.specs.Option.{option_copied}
use Rattle.tk_model.specs.Words.{parts_of}
use Rattle.tk_text.specs.Tokens.{parts_left}
use Rattle.tk_model.specs.Lists.{texts, bits_of, barred, between_bars}
use denote.Ref.{Bor}

-- there is always a part
none_of_some : (part : ℕ) (parts : List (List ℕ)) → bits_of [] (onto_first part parts) ≡ None
unfolding bits_of
none_of_some part [] = refl
none_of_some part (first ∷ later) = refl

none_of_parts : (p : ℕ → Bool) (bytes : List ℕ) → bits_of [] (slice_split p bytes) ≡ None
unfolding bits_of
none_of_parts p [] = refl
none_of_parts p (byte ∷ bytes) =
    elim (p byte) as (λ t. bits_of [] (cond t ([] ∷ slice_split p bytes) (onto_first byte (slice_split p bytes))) ≡ None)
    [ true ↦ refl | false ↦ none_of_some byte (slice_split p bytes) ]

-- a table without words has no list of parts
pub table_ended : (table : List (Bor (List ℕ))) (left : Option (Bor (List ℕ))) (bytes : Bor (List ℕ)) → length table < 1 → left ≡ Some bytes → None ≡ bits_of (texts table) (parts_left 124 (option_copied left))
unfolding parts_of
table_ended [] left bytes short some =
    subst (λ (rest : Option (Bor (List ℕ))). None ≡ bits_of [] (parts_left 124 (option_copied rest))) (sym some) (sym (none_of_parts (λ byte. eqb byte 124) bytes.now))
table_ended (word ∷ table) left bytes short some = absurd (omega arith)

-- words with a bar between are the first one, and the others with a bar before each
joined_first : (word : List ℕ) (words : List (List ℕ)) → join_with_byte 124 (word ∷ words) ≡ word ++ barred words
unfolding barred
joined_first word [] = sym (append-nil word)
joined_first word (next ∷ words) = ap (λ (rest : List ℕ). word ++ (124 ∷ rest)) (joined_first next words)

pub joined : (words : List (List ℕ)) → between_bars words ≡ join_with_byte 124 words
unfolding between_bars
joined [] = refl
joined (word ∷ words) = sym (joined_first word words)
