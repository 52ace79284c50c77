-- Words put one behind another are those words in a line.
use Rattle.std.specs.Prelude.{codes}
use Rattle.std.proofs.Common.{◌≡◌, ◌∙◌, sym, ap, refl, ℕ, List, [], ◌∷◌, ◌++◌, append_assoc}
use Rattle.std.proofs.lemmas.List.{append-nil}
use Rattle.std.proofs.lemmas.List.Concat.{flat_map-append}
use Rattle.tk_model.specs.ScriptText.{gaps, joined, line_text, condition_words, register_word, operand_word}
use Rattle.tk_types.specs.declared.script.Condition.{Condition}
use Rattle.tk_types.specs.declared.script.Condition.TheVariants as conditions
use Rattle.tk_script.specs.Words.{lines_text}

pub first_word : (out a : List ℕ) (words : List (List ℕ)) → out ++ joined (a ∷ words) ≡ (out ++ a) ++ gaps words
unfolding joined
first_word out a words = sym (append_assoc out a (gaps words))

pub one_word : (out a : List ℕ) → out ++ joined (a ∷ []) ≡ out ++ a
unfolding joined gaps
one_word out a = ap (λ (w : List ℕ). out ++ w) (append-nil a)

pub two_words : (out a b : List ℕ) → out ++ joined (a ∷ b ∷ []) ≡ (out ++ a) ++ (32 ∷ b)
unfolding joined gaps
two_words out a b = rw (append-nil b) (sym (append_assoc out a (32 ∷ b)))

pub three_words : (out a b c : List ℕ) → out ++ joined (a ∷ b ∷ c ∷ []) ≡ ((out ++ a) ++ (32 ∷ b)) ++ (32 ∷ c)
unfolding joined gaps
three_words out a b c = rw (append-nil c) (simp append_assoc)

gaps_append : (words more : List (List ℕ)) → gaps (words ++ more) ≡ gaps words ++ gaps more
unfolding gaps
gaps_append [] more = refl
gaps_append (word ∷ words) more = ap (λ (rest : List ℕ). 32 ∷ rest) (ap (λ (rest : List ℕ). word ++ rest) (gaps_append words more) ∙ sym (append_assoc word (gaps words) (gaps more)))

pub words_and_one : (out a b : List ℕ) (words : List (List ℕ)) → out ++ joined ((a ∷ words) ++ b ∷ []) ≡ (out ++ joined (a ∷ words)) ++ (32 ∷ b)
unfolding joined gaps
words_and_one out a b words = rw (gaps_append words (b ∷ []), append-nil b) (simp append_assoc)

pub gap_one : (out a : List ℕ) → out ++ gaps (a ∷ []) ≡ out ++ (32 ∷ a)
unfolding gaps
gap_one out a = rw (append-nil a) refl

pub gap_two : (out a b : List ℕ) → out ++ gaps (a ∷ b ∷ []) ≡ (out ++ (32 ∷ a)) ++ (32 ∷ b)
unfolding gaps
gap_two out a b = rw (append-nil b) (sym (append_assoc out (32 ∷ a) (32 ∷ b)))

pub gap_three : (out a b c : List ℕ) → out ++ gaps (a ∷ b ∷ c ∷ []) ≡ ((out ++ (32 ∷ a)) ++ (32 ∷ b)) ++ (32 ∷ c)
unfolding gaps
gap_three out a b c = rw (append-nil c) (simp append_assoc)

pub two_and_words : (out a b : List ℕ) (words : List (List ℕ)) → out ++ line_text (a ∷ b ∷ words) ≡ (((out ++ a) ++ (32 ∷ b)) ++ gaps words) ++ (10 ∷ [])
unfolding joined gaps
two_and_words out a b words = simp append_assoc

pub line_of_one : (out a : List ℕ) → out ++ line_text (a ∷ []) ≡ (out ++ a) ++ (10 ∷ [])
unfolding joined gaps
line_of_one out a = simp (append-nil, append_assoc)

pub line_of_two : (out a b : List ℕ) → out ++ line_text (a ∷ b ∷ []) ≡ ((out ++ a) ++ (32 ∷ b)) ++ (10 ∷ [])
unfolding joined gaps
line_of_two out a b = simp (append-nil, append_assoc)

pub line_of_three : (out a b c : List ℕ) → out ++ line_text (a ∷ b ∷ c ∷ []) ≡ (((out ++ a) ++ (32 ∷ b)) ++ (32 ∷ c)) ++ (10 ∷ [])
unfolding joined gaps
line_of_three out a b c = simp (append-nil, append_assoc)

pub one_line_of_two : (out a b : List ℕ) → out ++ lines_text ((a ∷ b ∷ []) ∷ []) ≡ ((out ++ a) ++ (32 ∷ b)) ++ (10 ∷ [])
unfolding joined gaps
one_line_of_two out a b = simp (append-nil, append_assoc)

pub no_line : (out : List ℕ) → out ++ lines_text [] ≡ out
no_line out = append-nil out

pub lines_two : (lines more : List (List (List ℕ))) → lines_text (lines ++ more) ≡ lines_text lines ++ lines_text more
lines_two lines more = flat_map-append line_text lines more

pub body_text : (out : List ℕ) (head end : List (List ℕ)) (items : List (List (List ℕ))) → out ++ lines_text (head ∷ (items ++ end ∷ [])) ≡ ((out ++ line_text head) ++ lines_text items) ++ line_text end
body_text out head end items = rw (lines_two items (end ∷ []), append-nil (line_text end)) (simp append_assoc)

pub script_text : (out : List ℕ) (head boot : List (List ℕ)) (devices pace irqs bodies : List (List (List ℕ))) → out ++ lines_text (head ∷ (devices ++ (pace ++ (irqs ++ boot ∷ bodies)))) ≡ (((((out ++ line_text head) ++ lines_text devices) ++ lines_text pace) ++ lines_text irqs) ++ line_text boot) ++ lines_text bodies
script_text out head boot devices pace irqs bodies = rw (lines_two devices (pace ++ (irqs ++ boot ∷ bodies)), lines_two pace (irqs ++ boot ∷ bodies), lines_two irqs (boot ∷ bodies)) (simp append_assoc)

-- a jump's label is the last word of its line
pub jump_words : (out b : List ℕ) (condition : Condition) → out ++ joined (condition_words condition ++ b ∷ []) ≡ (out ++ joined (condition_words condition)) ++ (32 ∷ b)
unfolding condition_words
jump_words out b conditions.Always = words_and_one out (codes "jump") b []
jump_words out b (conditions.Equal register value) = words_and_one out (codes "jeq") b (register_word register ∷ operand_word value ∷ [])
jump_words out b (conditions.NotEqual register value) = words_and_one out (codes "jne") b (register_word register ∷ operand_word value ∷ [])
jump_words out b (conditions.Less register value) = words_and_one out (codes "jlt") b (register_word register ∷ operand_word value ∷ [])
