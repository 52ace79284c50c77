-- Dividers of sessions, one word and one line after another.
use Rattle.std.proofs.Common.{◌≡◌, ℕ, suc, ◌+◌, ◌-◌, ◌≤◌, Bool, true, false, not, ◌==◌, ◌||◌, List, [], ◌∷◌, length, Option, Some, None, refl, subst, sym, ap, cond, take, get_or, arith}
use Rattle.std.specs.List.{filter, list_all}
use Rattle.std.specs.Option.{IfSome}
use Rattle.std.specs.Str.{bytes_eq}
use Rattle.tk_model.specs.Words.{is_word, lines_of}
use Rattle.tk_text.specs.declared.session.Place.{Place}
use Rattle.tk_text.specs.Sessions.{is_none, is_only, is_divider, divider_from, divider_at, IsFirstDivider}

-- whether the words that are left make the one word, where it was found before or not
abbrev pub only_left : Bool → List ℕ → List (List ℕ) → Bool
only_left false word words = is_only word words
only_left true word words = is_none words

-- a second word
pub second_word : (found : Bool) (word part : List ℕ) (parts rest : List (List ℕ)) (all : Bool) → parts ≡ part ∷ rest → false ≡ (length part == 0) → found ≡ true → only_left found word (filter is_word parts) ≡ all → false ≡ all
second_word true word part parts rest all cut has before same =
    let e = subst (λ (ps : List (List ℕ)). only_left true word (filter is_word ps) ≡ all) cut same in rw (sym has) at e
second_word false word part parts rest all cut has before same = absurd (cc)

-- another word
pub other_word : (found : Bool) (word part : List ℕ) (parts rest : List (List ℕ)) (all : Bool) → parts ≡ part ∷ rest → false ≡ (length part == 0) → found ≡ false → bytes_eq part word ≡ false → only_left found word (filter is_word parts) ≡ all → false ≡ all
other_word true word part parts rest all cut has before other same = absurd (cc)
other_word false word part parts rest all cut has before other same =
    let e = subst (λ (ps : List (List ℕ)). only_left false word (filter is_word ps) ≡ all) cut same in rw (sym has, other) at e

-- no part is left
pub none_left : (found : Bool) (word : List ℕ) (parts : List (List ℕ)) (all : Bool) → parts ≡ [] → only_left found word (filter is_word parts) ≡ all → found ≡ all
none_left true word parts all ended same = subst (λ (ps : List (List ℕ)). only_left true word (filter is_word ps) ≡ all) ended same
none_left false word parts all ended same = subst (λ (ps : List (List ℕ)). only_left false word (filter is_word ps) ≡ all) ended same

-- the next line is the divider
pub divider_found : (word : List ℕ) (number at : ℕ) (lines rest : List (List ℕ)) (line : List ℕ) (all : Option Place) → lines ≡ line ∷ rest → is_divider word line ≡ true → divider_from word number at lines ≡ all → Some (record { line = number; from = at; to = at + length line }) ≡ all
unfolding divider_from
divider_found word number at lines rest line all cut here same =
    let e = subst (λ (ls : List (List ℕ)). divider_from word number at ls ≡ all) cut same in rw here at e

-- the next line is not
pub divider_passed : (word : List ℕ) (number at : ℕ) (lines rest : List (List ℕ)) (line : List ℕ) (all : Option Place) → lines ≡ line ∷ rest → is_divider word line ≡ false → divider_from word number at lines ≡ all → divider_from word (number + 1) (at + (length line + 1)) rest ≡ all
unfolding divider_from
divider_passed word number at lines rest line all cut here same =
    let e = subst (λ (ls : List (List ℕ)). divider_from word number at ls ≡ all) cut same in rw here at e

-- no line is left
pub divider_never : (word : List ℕ) (number at : ℕ) (lines : List (List ℕ)) (all : Option Place) → lines ≡ [] → divider_from word number at lines ≡ all → None ≡ all
unfolding divider_from
divider_never word number at lines all ended same = subst (λ (ls : List (List ℕ)). divider_from word number at ls ≡ all) ended same

here_or_later : (word : List ℕ) (number at : ℕ) (line : List ℕ) (lines : List (List ℕ)) (place : Place) (here : Bool) → is_divider word line ≡ here
    → cond here (Some (record { line = number; from = at; to = at + length line })) (divider_from word (number + 1) (at + (length line + 1)) lines) ≡ Some place
    → (divider_from word (number + 1) (at + (length line + 1)) lines ≡ Some place → (number + 1 ≤ place.line) × (list_all (λ l. not (is_divider word l)) (take (place.line - (number + 1)) lines) ≡ true) × (is_divider word (get_or lines (place.line - (number + 1)) []) ≡ true))
    → (number ≤ place.line) × (list_all (λ l. not (is_divider word l)) (take (place.line - number) (line ∷ lines)) ≡ true) × (is_divider word (get_or (line ∷ lines) (place.line - number) []) ≡ true)
here_or_later word number at line lines place true is e later =
    let found : Place = record { line = number; from = at; to = at + length line } in
    let pair : found ≡ place = cc in
    let same : number ≡ place.line = ap (λ (p : Place). p.line) pair in
    let none : place.line - number ≡ 0 = omega arith in
    rw none (omega arith, refl, is)
here_or_later word number at line lines place false is e later =
    let l = later e in
    let more : place.line - number ≡ suc (place.line - (number + 1)) = omega (arith, l.0) in
    rw (more, is) (omega (arith, l.0), l.1, l.2)

first_of_lines : (word : List ℕ) (number at : ℕ) (lines : List (List ℕ)) (place : Place) → divider_from word number at lines ≡ Some place → (number ≤ place.line) × (list_all (λ l. not (is_divider word l)) (take (place.line - number) lines) ≡ true) × (is_divider word (get_or lines (place.line - number) []) ≡ true)
unfolding divider_from
first_of_lines word number at [] place e = absurd (cc)
first_of_lines word number at (line ∷ lines) place e = here_or_later word number at line lines place (is_divider word line) refl e (first_of_lines word (number + 1) (at + (length line + 1)) lines place)

-- a divider that was found is the first one
pub is_first_divider : (word text : List ℕ) (r : Option Place) → r ≡ divider_at word text → IfSome r (IsFirstDivider word text)
is_first_divider word text None e = tt
is_first_divider word text (Some place) e = first_of_lines word 1 0 (lines_of text) place (sym e)
