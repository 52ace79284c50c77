-- Tokens of parts and of lines, one after another.
use Rattle.std.proofs.Common.{◌≡◌, ℕ, ◌+◌, ◌-◌, ◌<◌, List, [], ◌∷◌, ◌++◌, length, take, subst, ap, ◌∙◌, append_assoc, append-nil, arith, suc}
use Rattle.std.proofs.lemmas.List.{take_all}
use Rattle.tk_model.specs.Words.{parts_of}
use Rattle.tk_text.specs.Tokens.{part_token, line_tokens, text_tokens}
use Rattle.tk_text.specs.declared.token.Token.{Token}

-- the next part of a line
pub part_pushed : (tokens next all : List Token) (number at : ℕ) (parts rest : List (List ℕ)) (part : List ℕ) → parts ≡ part ∷ rest → next ≡ tokens ++ part_token number at (length part) → tokens ++ line_tokens number at parts ≡ all → next ++ line_tokens number (at + (length part + 1)) rest ≡ all
unfolding line_tokens
part_pushed tokens next all number at parts rest part cut pushed same =
    ap (λ (ts : List Token). ts ++ line_tokens number (at + (length part + 1)) rest) pushed
    ∙ (append_assoc tokens (part_token number at (length part)) (line_tokens number (at + (length part + 1)) rest)
    ∙ subst (λ (ps : List (List ℕ)). tokens ++ line_tokens number at ps ≡ all) cut same)

-- no part is left
pub parts_ended : (tokens all : List Token) (number at : ℕ) (parts : List (List ℕ)) → parts ≡ [] → tokens ++ line_tokens number at parts ≡ all → tokens ≡ all
unfolding line_tokens
parts_ended tokens all number at parts ended same =
    let e = subst (λ (ps : List (List ℕ)). tokens ++ line_tokens number at ps ≡ all) ended same in rw append-nil at e

-- the next of the first lines
pub line_pushed : (tokens next all : List Token) (number at most : ℕ) (lines rest : List (List ℕ)) (line : List ℕ) → number < most → lines ≡ line ∷ rest → next ≡ tokens ++ line_tokens (number + 1) at (parts_of 32 line)
    → tokens ++ text_tokens (number + 1) at (take (most - number) lines) ≡ all
    → next ++ text_tokens (number + 1 + 1) (at + (length line + 1)) (take (most - (number + 1)) rest) ≡ all
unfolding text_tokens
line_pushed tokens next all number at most lines rest line more cut pushed same =
    let first = line_tokens (number + 1) at (parts_of 32 line) in
    let later = text_tokens (number + 1 + 1) (at + (length line + 1)) (take (most - (number + 1)) rest) in
    let count : most - number ≡ suc (most - (number + 1)) = omega arith in
    let e = subst (λ (ls : List (List ℕ)). tokens ++ text_tokens (number + 1) at (take (most - number) ls) ≡ all) cut same in
    let f = subst (λ (n : ℕ). tokens ++ text_tokens (number + 1) at (take n (line ∷ rest)) ≡ all) count e in
    ap (λ (ts : List Token). ts ++ later) pushed ∙ (append_assoc tokens first later ∙ f)

-- no line is left
pub lines_over : (tokens all : List Token) (number at count : ℕ) (lines : List (List ℕ)) → lines ≡ [] → tokens ++ text_tokens number at (take count lines) ≡ all → tokens ≡ all
unfolding text_tokens
lines_over tokens all number at count lines ended same =
    let e = subst (λ (ls : List (List ℕ)). tokens ++ text_tokens number at (take count ls) ≡ all) ended same in
    rw (take_all count (let none : List (List ℕ) = [] in none) (omega arith), append-nil) at e

-- as many as were asked for are read
pub lines_enough : (tokens all : List Token) (number at most count : ℕ) (lines : List (List ℕ)) → count ≡ most → tokens ++ text_tokens number at (take (most - count) lines) ≡ all → tokens ≡ all
unfolding text_tokens
lines_enough tokens all number at most count lines full same =
    let none : most - count ≡ 0 = omega arith in
    let e = subst (λ (n : ℕ). tokens ++ text_tokens number at (take n lines) ≡ all) none same in rw append-nil at e
