-- Words with one space between them are cut into these words again.
use Rattle.std.proofs.Common.{◌≡◌, ℕ, true, false, eqb, ltb, leb, List, [], ◌∷◌, ◌++◌, refl, sym, ap, ◌∙◌, arith, append-nil}
use Rattle.std.specs.List.{All, list_all, slice_split, join_with_byte}
use Rattle.std.proofs.lemmas.Bool.Decides.{nat_tests}
use Rattle.std.proofs.lemmas.List.Folds.{list_all-append}
use Rattle.std.proofs.lemmas.List.Splits.{slice_split_at, slice_split_none, join_with_byte-slice_split}
use Rattle.std.proofs.lemmas.List.Sums.{AllPass-from_list_all}
use Rattle.tk_text.proofs.Options.{both_true}
use Rattle.tk_model.specs.Words.{parts_of}
use Rattle.tk_model.specs.LineText.{spaced, joined}
use Rattle.tk_trace.proofs.Plain.{is_plain, are_plain, both, weaker}

above_space : (byte : ℕ) → ltb 32 byte ≡ true → eqb byte 32 ≡ false
above_space byte is = grind (arith, nat_tests)

no_space : (word : List ℕ) → is_plain word ≡ true → All (λ byte. eqb byte 32 ≡ false) word
no_space word is = λ k d lt. above_space _ (AllPass-from_list_all (ltb 32) word is k d lt)

split_spaced : (word : List ℕ) (words : List (List ℕ)) → is_plain word ≡ true → are_plain words ≡ true → slice_split (λ byte. eqb byte 32) (word ++ spaced words) ≡ word ∷ words
split_spaced word [] is are = rw append-nil (slice_split_none (λ byte. eqb byte 32) word (no_space word is))
split_spaced word (next ∷ words) is are =
    let parts = both_true (is_plain next) (are_plain words) are in
    slice_split_at (λ byte. eqb byte 32) word 32 (next ++ spaced words) (no_space word is) refl ∙ ap (λ (rest : List (List ℕ)). word ∷ rest) (split_spaced next words parts.0 parts.1)

pub split_joined : (word : List ℕ) (words : List (List ℕ)) → are_plain (word ∷ words) ≡ true → parts_of 32 (joined (word ∷ words)) ≡ word ∷ words
unfolding parts_of
split_joined word words are =
    let parts = both_true (is_plain word) (are_plain words) are in split_spaced word words parts.0 parts.1

-- the words of a text, joined, are the text
join_first : (word : List ℕ) (words : List (List ℕ)) → join_with_byte 32 (word ∷ words) ≡ word ++ spaced words
join_first word [] = sym (append-nil word)
join_first word (next ∷ words) = ap (λ (rest : List ℕ). word ++ (32 ∷ rest)) (join_first next words)

pub text_again : (text word : List ℕ) (words : List (List ℕ)) → parts_of 32 text ≡ word ∷ words → text ≡ joined (word ∷ words)
unfolding parts_of
text_again text word words e = sym (join_with_byte-slice_split 32 text) ∙ (ap (join_with_byte 32) e ∙ join_first word words)

-- no byte of words with a space between lies below the space
plain_high : (word : List ℕ) → is_plain word ≡ true → list_all (leb 32) word ≡ true
plain_high word is = weaker (ltb 32) (leb 32) word (λ byte above. grind (arith, nat_tests)) is

high_more : (word : List ℕ) (rest : List ℕ) → is_plain word ≡ true → list_all (leb 32) rest ≡ true → list_all (leb 32) (word ++ rest) ≡ true
high_more word rest is high = list_all-append (leb 32) word rest ∙ both (list_all (leb 32) word) (list_all (leb 32) rest) (plain_high word is) high

spaced_high : (words : List (List ℕ)) → are_plain words ≡ true → list_all (leb 32) (spaced words) ≡ true
spaced_high [] are = refl
spaced_high (word ∷ words) are =
    let parts = both_true (is_plain word) (are_plain words) are in high_more word (spaced words) parts.0 (spaced_high words parts.1)

pub joined_high : (words : List (List ℕ)) → are_plain words ≡ true → list_all (leb 32) (joined words) ≡ true
joined_high [] are = refl
joined_high (word ∷ words) are =
    let parts = both_true (is_plain word) (are_plain words) are in high_more word (spaced words) parts.0 (spaced_high words parts.1)
