-- The laws of lists: what is read is what is written, what is written is read, and both stay below the table's size.
use Rattle.std.proofs.Common.{◌≡◌, ℕ, suc, ◌+◌, ◌*◌, ◌/◌, ◌%◌, ◌<◌, ◌^◌, Bool, true, false, not, cond, eqb, ◌&&◌, ◌||◌, List, [], ◌∷◌, ◌++◌, length, Option, Some, None, refl, sym, ap, ◌∙◌, subst, ◌≢◌, inl, inr, ⊎_elim, ◌⊎◌, arith}
use Rattle.std.specs.List.{slice_split, onto_first, join_with_byte, list_all, list_any}
use Rattle.std.specs.Option.{option_map, IfSome, IfNone}
use Rattle.std.specs.Str.{bytes_eq}
use Rattle.std.proofs.lemmas.Slice.Eq.{bytes_eq-Decides}
use Rattle.std.proofs.lemmas.List.Splits.{join_with_byte-slice_split}
use Rattle.std.proofs.lemmas.Nat.{pow_pos}
use Rattle.std.proofs.lemmas.Bool.Decides.{Decides-eqb}
use Rattle.std.proofs.Math.Nat.{pow-suc, pow-zero}
use Rattle.tk_text.proofs.Options.{both_true}
use Rattle.tk_model.specs.Words.{parts_of}
use Rattle.tk_model.specs.Lists.{chosen, with_bit, without_bit, bits_of, list_at, list_text_of, is_list_byte, is_table}

-- where a mapped option has a value
mapped : (f : ℕ → ℕ) (r : Option ℕ) (y : ℕ) → option_map f r ≡ Some y → (x : ℕ) × (r ≡ Some x) × (f x ≡ y)
mapped f (Some x) y e = (x, refl, cc)
mapped f None y e = absurd (cc)

-- which way a choice went
chose : {X : Type 0} (b : Bool) (x y z : X) → cond b x y ≡ z → ((b ≡ true) × (x ≡ z)) ⊎ ((b ≡ false) × (y ≡ z))
chose true x y z e = inl (refl, e)
chose false x y z e = inr (refl, e)

-- what a test that can't be true is
false_of : (b : Bool) → (b ≡ true → ⊥) → b ≡ false
false_of true never = absurd (never refl)
false_of false never = refl

true_or_false : (b : Bool) → (b ≡ true) ⊎ (b ≡ false)
true_or_false true = inl refl
true_or_false false = inr refl

odd_or_even : (n : ℕ) → (n % 2 ≡ 1) ⊎ (n % 2 ≡ 0)
odd_or_even n = grind arith

chosen_zero : (table : List (List ℕ)) → chosen table 0 ≡ []
unfolding chosen
chosen_zero [] = refl
chosen_zero (word ∷ table) = chosen_zero table

chosen_none : (bits : ℕ) → chosen [] bits ≡ []
unfolding chosen
chosen_none bits = refl

chosen_odd : (word : List ℕ) (table : List (List ℕ)) (n bits : ℕ) → 2 * n + 1 ≡ bits → chosen (word ∷ table) bits ≡ word ∷ chosen table n
unfolding chosen
chosen_odd word table n bits e =
    let odd : bits % 2 ≡ 1 = omega arith in
    let half : bits / 2 ≡ n = omega arith in rw (odd, half) refl

chosen_even : (word : List ℕ) (table : List (List ℕ)) (n bits : ℕ) → 2 * n ≡ bits → chosen (word ∷ table) bits ≡ chosen table n
unfolding chosen
chosen_even word table n bits e =
    let even : bits % 2 ≡ 0 = omega arith in
    let half : bits / 2 ≡ n = omega arith in rw (even, half) refl

-- the bits of parts choose those parts
pub bits_takes : (table parts : List (List ℕ)) (bits : ℕ) → bits_of table parts ≡ Some bits → chosen table bits ≡ parts
unfolding bits_of
bits_takes [] [] bits e = chosen_none bits
bits_takes [] (part ∷ parts) bits e = absurd (cc)
bits_takes (word ∷ table) [] bits e =
    let none : 0 ≡ bits = cc in ap (chosen (word ∷ table)) (sym none) ∙ chosen_zero (word ∷ table)
bits_takes (word ∷ table) (part ∷ parts) bits e =
    ⊎_elim
    (λ t. let m = mapped (λ n. 2 * n + 1) (bits_of table parts) bits t.1 in
    chosen_odd word table m.0 bits m.2 ∙ (ap (λ ws. word ∷ ws) (bits_takes table parts m.0 m.1) ∙ ap (λ w. w ∷ parts) (sym ((bytes_eq-Decides part word).0 t.0))))
    (λ t. let m = mapped (λ n. 2 * n) (bits_of table (part ∷ parts)) bits t.1 in
    chosen_even word table m.0 bits m.2 ∙ bits_takes table (part ∷ parts) m.0 m.1)
    (chose (bytes_eq part word) (with_bit (bits_of table parts)) (without_bit (bits_of table (part ∷ parts))) (Some bits) e)

-- they are below the power of the table's size
pub bits_below : (table parts : List (List ℕ)) (bits : ℕ) → bits_of table parts ≡ Some bits → bits < 2 ^ length table
unfolding bits_of
bits_below [] [] bits e = let none : 0 ≡ bits = cc in omega (arith, pow_pos 0)
bits_below [] (part ∷ parts) bits e = absurd (cc)
bits_below (word ∷ table) [] bits e = let none : 0 ≡ bits = cc in omega (arith, pow_pos (length (word ∷ table)))
bits_below (word ∷ table) (part ∷ parts) bits e =
    ⊎_elim
    (λ t. let m = mapped (λ n. 2 * n + 1) (bits_of table parts) bits t.1 in
    let below = bits_below table parts m.0 m.1 in let twice : 2 ^ suc (length table) ≡ 2 ^ length table * 2 = pow-suc 2 (length table) in let same = m.2 in omega arith)
    (λ t. let m = mapped (λ n. 2 * n) (bits_of table (part ∷ parts)) bits t.1 in
    let below = bits_below table (part ∷ parts) m.0 m.1 in let twice : 2 ^ suc (length table) ≡ 2 ^ length table * 2 = pow-suc 2 (length table) in let same = m.2 in omega arith)
    (chose (bytes_eq part word) (with_bit (bits_of table parts)) (without_bit (bits_of table (part ∷ parts))) (Some bits) e)

-- no part is no bit
bits_of_none : (table : List (List ℕ)) → bits_of table [] ≡ Some 0
unfolding bits_of
bits_of_none [] = refl
bits_of_none (word ∷ table) = refl

-- neither of two tests
neither : (a b : Bool) → (a || b) ≡ false → (a ≡ false) × (b ≡ false)
neither true b e = absurd (cc)
neither false b e = (refl, e)

is_false : (b : Bool) → not b ≡ true → b ≡ false
is_false true e = absurd (cc)
is_false false e = refl

-- words that differ, the other way round
differ_back : (xs ys : List ℕ) → bytes_eq xs ys ≡ false → bytes_eq ys xs ≡ false
differ_back xs ys e =
    false_of (bytes_eq ys xs) (λ t. let same : bytes_eq xs ys ≡ true = (bytes_eq-Decides xs ys).1 (sym ((bytes_eq-Decides ys xs).0 t)) in cc)

-- the first chosen word is another than one that isn't in the table
first_other : (word : List ℕ) (table : List (List ℕ)) (bits : ℕ) (part : List ℕ) (parts : List (List ℕ)) → list_any (bytes_eq word) table ≡ false → chosen table bits ≡ part ∷ parts → bytes_eq part word ≡ false
unfolding chosen
first_other word [] bits part parts out e = absurd (cc)
first_other word (next ∷ table) bits part parts out e =
    let o = neither (bytes_eq word next) (list_any (bytes_eq word) table) out in
    ⊎_elim
    (λ t. let same : next ≡ part = cc in subst (λ (w : List ℕ). bytes_eq w word ≡ false) same (differ_back word next o.0))
    (λ t. first_other word table (bits / 2) part parts o.1 t.1)
    (chose (eqb (bits % 2) 1) (next ∷ chosen table (bits / 2)) (chosen table (bits / 2)) (part ∷ parts) e)

-- a word that is passed over
passed_over : (word : List ℕ) (table parts : List (List ℕ)) (half bits : ℕ) → chosen table half ≡ parts → list_any (bytes_eq word) table ≡ false → bits_of table parts ≡ Some half → 2 * half ≡ bits → bits_of (word ∷ table) parts ≡ Some bits
unfolding bits_of
passed_over word table [] half bits is out read twice =
    let none : 0 ≡ half = cc (bits_of_none table) in ap (λ n. Some n) (omega arith)
passed_over word table (part ∷ parts) half bits is out read twice =
    rw (first_other word table half part parts out is, read) (ap (λ n. Some n) twice)

-- the bits that choose words are read from them
pub bits_again : (table : List (List ℕ)) (bits : ℕ) → is_table table ≡ true → bits < 2 ^ length table → bits_of table (chosen table bits) ≡ Some bits
unfolding bits_of is_table
bits_again [] bits is below = let none : 0 ≡ bits = omega (arith, pow-zero 2) in rw (chosen_none bits) (ap (λ n. Some n) none)
bits_again (word ∷ table) bits is below =
    let i = both_true (list_all is_list_byte word) (not (list_any (bytes_eq word) table) && is_table table) is in
    let j = both_true (not (list_any (bytes_eq word) table)) (is_table table) i.1 in
    let twice : 2 ^ suc (length table) ≡ 2 ^ length table * 2 = pow-suc 2 (length table) in
    let read = bits_again table (bits / 2) j.1 (omega arith) in
    ⊎_elim
    (λ odd. let whole : 2 * (bits / 2) + 1 ≡ bits = omega arith in
    rw (chosen_odd word table (bits / 2) bits whole, (bytes_eq-Decides word word).1 refl, read) (ap (λ n. Some n) whole))
    (λ even. let whole : 2 * (bits / 2) ≡ bits = omega arith in
    rw (chosen_even word table (bits / 2) bits whole)
    (passed_over word table (chosen table (bits / 2)) (bits / 2) bits refl (is_false (list_any (bytes_eq word) table) j.0) read whole))
    (odd_or_even bits)

-- a byte of a table's word is no bar, and no dash
no_bar : (byte : ℕ) → is_list_byte byte ≡ true → (eqb byte 124 ≡ false) × (eqb byte 45 ≡ false)
no_bar byte e = neither (eqb byte 124) (eqb byte 45) (is_false (eqb byte 124 || eqb byte 45) e)

-- a word without bars, and what lies behind the bar after it
split_word : (word rest : List ℕ) → list_all is_list_byte word ≡ true → slice_split (λ byte. eqb byte 124) (word ++ (124 ∷ rest)) ≡ word ∷ slice_split (λ byte. eqb byte 124) rest
split_word [] rest e = refl
split_word (byte ∷ word) rest e =
    let b = both_true (is_list_byte byte) (list_all is_list_byte word) e in
    rw ((no_bar byte b.0).0, split_word word rest b.1) refl

split_last : (word : List ℕ) → list_all is_list_byte word ≡ true → slice_split (λ byte. eqb byte 124) word ≡ word ∷ []
split_last [] e = refl
split_last (byte ∷ word) e =
    let b = both_true (is_list_byte byte) (list_all is_list_byte word) e in
    rw ((no_bar byte b.0).0, split_last word b.1) refl

-- words joined by bars are cut at them again
parts_again : (word : List ℕ) (words : List (List ℕ)) → list_all (list_all is_list_byte) (word ∷ words) ≡ true → parts_of 124 (join_with_byte 124 (word ∷ words)) ≡ word ∷ words
unfolding parts_of
parts_again word [] e = split_last word (both_true (list_all is_list_byte word) true e).0
parts_again word (next ∷ words) e =
    let b = both_true (list_all is_list_byte word) (list_all (list_all is_list_byte) (next ∷ words)) e in
    split_word word (join_with_byte 124 (next ∷ words)) b.0 ∙ ap (λ ws. word ∷ ws) (parts_again next words b.1)

-- the words of a table have no bars, and so have those that are chosen
chosen_clean : (table : List (List ℕ)) (bits : ℕ) → is_table table ≡ true → list_all (list_all is_list_byte) (chosen table bits) ≡ true
unfolding chosen is_table
chosen_clean [] bits is = refl
chosen_clean (word ∷ table) bits is =
    let i = both_true (list_all is_list_byte word) (not (list_any (bytes_eq word) table) && is_table table) is in
    let j = both_true (not (list_any (bytes_eq word) table)) (is_table table) i.1 in
    let later = chosen_clean table (bits / 2) j.1 in
    elim (eqb (bits % 2) 1) as (λ t. list_all (list_all is_list_byte) (cond t (word ∷ chosen table (bits / 2)) (chosen table (bits / 2))) ≡ true)
    [ true ↦ rw (i.0, later) refl | false ↦ later ]

-- there is always a part
some_first : (byte : ℕ) (parts : List (List ℕ)) → onto_first byte parts ≢ []
some_first byte [] e = cc
some_first byte (part ∷ parts) e = cc

some_split : (p : ℕ → Bool) (bytes : List ℕ) → slice_split p bytes ≢ []
some_split p [] e = cc
some_split p (byte ∷ bytes) e =
    elim (p byte) as (λ t. cond t ([] ∷ slice_split p bytes) (onto_first byte (slice_split p bytes)) ≡ [] → ⊥)
    [ true ↦ λ same. cc | false ↦ some_first byte (slice_split p bytes) ] e

some_part : (word : List ℕ) → parts_of 124 word ≢ []
unfolding parts_of
some_part word = some_split (λ byte. eqb byte 124) word

-- what is read is spelled so
pub list_takes : (table : List (List ℕ)) (word : List ℕ) (bits : ℕ) → list_at table word ≡ Some bits → list_text_of table bits ≡ word
unfolding list_at list_text_of parts_of
list_takes table word bits e =
    ⊎_elim
    (λ t. let none : 0 ≡ bits = cc in rw (← none) (sym ((bytes_eq-Decides word (45 ∷ [])).0 t.0)))
    (λ t. let taken = bits_takes table (parts_of 124 word) bits t.1 in
    ⊎_elim
    (λ zero_bits. absurd (some_part word (sym taken ∙ (ap (chosen table) ((Decides-eqb bits 0).0 zero_bits) ∙ chosen_zero table))))
    (λ more. rw more (ap (join_with_byte 124) taken ∙ join_with_byte-slice_split 124 word))
    (true_or_false (eqb bits 0)))
    (chose (bytes_eq word (45 ∷ [])) (Some 0) (bits_of table (parts_of 124 word)) (Some bits) e)

-- words of a table with bars between are no dash
no_dash : (word : List ℕ) (words : List (List ℕ)) → list_all (list_all is_list_byte) (word ∷ words) ≡ true → bytes_eq (join_with_byte 124 (word ∷ words)) (45 ∷ []) ≡ false
unfolding parts_of
no_dash word words clean =
    false_of (bytes_eq (join_with_byte 124 (word ∷ words)) (45 ∷ []))
    (λ t. let same : (45 ∷ []) ∷ [] ≡ word ∷ words = sym (ap (parts_of 124) ((bytes_eq-Decides (join_with_byte 124 (word ∷ words)) (45 ∷ [])).0 t)) ∙ parts_again word words clean in
    let dash : false ≡ true = subst (λ (ws : List (List ℕ)). list_all (list_all is_list_byte) ws ≡ true) (sym same) clean in cc)

-- words of a table with bars between are read as those words
spelled_again : (table words : List (List ℕ)) (bits : ℕ) → words ≢ [] → list_all (list_all is_list_byte) words ≡ true → bits_of table words ≡ Some bits → cond (bytes_eq (join_with_byte 124 words) (45 ∷ [])) (Some 0) (bits_of table (parts_of 124 (join_with_byte 124 words))) ≡ Some bits
spelled_again table [] bits some clean read = absurd (some refl)
spelled_again table (word ∷ words) bits some clean read = rw (no_dash word words clean, parts_again word words clean) read

-- what is spelled is read
pub list_again : (table : List (List ℕ)) (bits : ℕ) → is_table table ≡ true → bits < 2 ^ length table → list_at table (list_text_of table bits) ≡ Some bits
unfolding list_at list_text_of
list_again table bits is below =
    let read = bits_again table bits is below in
    ⊎_elim
    (λ zero_bits. rw zero_bits (ap (λ n. Some n) (sym ((Decides-eqb bits 0).0 zero_bits))))
    (λ more. rw more
    (spelled_again table (chosen table bits) bits
    (λ none. let nothing : Some 0 ≡ Some bits = sym (bits_of_none table) ∙ (ap (bits_of table) (sym none) ∙ read) in
    let same : 0 ≡ bits = cc in
    let yes : eqb bits 0 ≡ true = (Decides-eqb bits 0).1 (sym same) in cc)
    (chosen_clean table bits is) read))
    (true_or_false (eqb bits 0))

-- what is read is below the power of the table's size
pub list_below : (table : List (List ℕ)) (word : List ℕ) (bits : ℕ) → list_at table word ≡ Some bits → bits < 2 ^ length table
unfolding list_at
list_below table word bits e =
    ⊎_elim
    (λ t. let none : 0 ≡ bits = cc in omega (arith, pow_pos (length table)))
    (λ t. bits_below table (parts_of 124 word) bits t.1)
    (chose (bytes_eq word (45 ∷ [])) (Some 0) (bits_of table (parts_of 124 word)) (Some bits) e)

-- what an exact answer says of the list that was read, or that there is none
pub some_list : (table : List (List ℕ)) (word : List ℕ) (r : Option ℕ) → r ≡ list_at table word → IfSome r (λ bits. list_text_of table bits ≡ word)
some_list table word None exact = tt
some_list table word (Some bits) exact = list_takes table word bits (sym exact)

pub no_list : (table : List (List ℕ)) (size : ℕ) (word : List ℕ) (r : Option ℕ) → length table ≡ size → r ≡ list_at table word → is_table table ≡ true → IfNone r ((bits : ℕ) → bits < 2 ^ size → list_text_of table bits ≢ word)
no_list table size word None same exact is =
    λ bits below e.
    let small : bits < 2 ^ length table = subst (λ (n : ℕ). bits < 2 ^ n) (sym same) below in
    let read : Some bits ≡ None = sym (list_again table bits is small) ∙ (ap (list_at table) e ∙ sym exact) in cc
no_list table size word (Some bits) same exact is = tt
