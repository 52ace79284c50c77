-- Faults of lines, one line after another.
use Rattle.std.proofs.Common.{◌≡◌, ℕ, ◌+◌, ◌<◌, Bool, false, List, [], ◌∷◌, length, Option, Some, None, ◌-◌, ◌≤◌, suc, take, get_or, refl, sym, ap, ◌∙◌, subst, arith}
use Rattle.std.specs.Option.{option_map, IfSome}
use Rattle.std.specs.List.{list_all}
use Rattle.tk_types.specs.declared.why.Why.{Why}
use Rattle.tk_model.specs.Words.{lines_of, line_fault, fault_or, faults_from, fault_at}
use Rattle.tk_text.specs.Scans.{IsFirstFault}
use Rattle.tk_text.specs.declared.token.TextFault.{TextFault}

pub fault_has_bytes : (p : ℕ → Bool) (line : List ℕ) → list_all p line ≡ false → 0 < length line
fault_has_bytes p [] e = absurd (cc)
fault_has_bytes p (byte ∷ line) e = omega arith

-- the next line has a fault
pub fault_found : (number : ℕ) (lines rest : List (List ℕ)) (line : List ℕ) (why : Why) (all : Option (ℕ × Why)) → lines ≡ line ∷ rest → line_fault line ≡ Some why → faults_from number lines ≡ all → Some (number, why) ≡ all
unfolding faults_from
fault_found number lines rest line why all cut found same =
    let e = subst (λ (ls : List (List ℕ)). faults_from number ls ≡ all) cut same in rw found at e

-- the next line has none
pub fault_passed : (number : ℕ) (lines rest : List (List ℕ)) (line : List ℕ) (all : Option (ℕ × Why)) → lines ≡ line ∷ rest → line_fault line ≡ None → faults_from number lines ≡ all → faults_from (number + 1) rest ≡ all
unfolding faults_from
fault_passed number lines rest line all cut found same =
    let e = subst (λ (ls : List (List ℕ)). faults_from number ls ≡ all) cut same in rw found at e

-- no line is left
pub fault_never : (number : ℕ) (lines : List (List ℕ)) (all : Option (ℕ × Why)) → lines ≡ [] → faults_from number lines ≡ all → None ≡ all
unfolding faults_from
fault_never number lines all ended same = subst (λ (ls : List (List ℕ)). faults_from number ls ≡ all) ended same

first_or_later : (number : ℕ) (line : List ℕ) (lines : List (List ℕ)) (n : ℕ) (why : Why) (here : Option Why) → line_fault line ≡ here → fault_or number here (faults_from (number + 1) lines) ≡ Some (n, why)
    → (faults_from (number + 1) lines ≡ Some (n, why) → (number + 1 ≤ n) × (faults_from (number + 1) (take (n - (number + 1)) lines) ≡ None) × (line_fault (get_or lines (n - (number + 1)) []) ≡ Some why))
    → (number ≤ n) × (faults_from number (take (n - number) (line ∷ lines)) ≡ None) × (line_fault (get_or (line ∷ lines) (n - number) []) ≡ Some why)
unfolding faults_from
first_or_later number line lines n why (Some reason) is e later =
    let here : ℕ × Why = (number, reason) in
    let found : ℕ × Why = (n, why) in
    let pair : here ≡ found = cc in
    let same : number ≡ n = ap (λ (p : ℕ × Why). p.0) pair in
    let reason_is : reason ≡ why = ap (λ (p : ℕ × Why). p.1) pair in
    let none : n - number ≡ 0 = omega arith in
    rw none (omega arith, refl, is ∙ ap (λ w. Some w) reason_is)
first_or_later number line lines n why None is e later =
    let l = later e in
    let more : n - number ≡ suc (n - (number + 1)) = omega (arith, l.0) in
    rw (more, is) (omega (arith, l.0), l.1, l.2)

-- the first fault lies in a line behind lines without any
first_of_lines : (number : ℕ) (lines : List (List ℕ)) (n : ℕ) (why : Why) → faults_from number lines ≡ Some (n, why) → (number ≤ n) × (faults_from number (take (n - number) lines) ≡ None) × (line_fault (get_or lines (n - number) []) ≡ Some why)
unfolding faults_from
first_of_lines number [] n why e = absurd (cc)
first_of_lines number (line ∷ lines) n why e = first_or_later number line lines n why (line_fault line) refl e (first_of_lines (number + 1) lines n why)

-- a fault that was found is the first one
pub is_first_fault : (text : List ℕ) (r : Option TextFault) → option_map (λ fault. (fault.line, fault.why)) r ≡ fault_at text → IfSome r (IsFirstFault text)
is_first_fault text None e = tt
is_first_fault text (Some fault) e =
    let f = first_of_lines 1 (lines_of text) fault.line fault.why (sym e) in (f.0, f.1, f.2)
