-- Names that differ, and steps that don't fall, with one more behind them.
use Rattle.std.proofs.Common.{◌≡◌, ◌∙◌, refl, sym, ap, arith, ℕ, ◌-◌, ◌≤◌, Bool, true, false, not, ◌&&◌, ◌||◌, List, [], ◌∷◌, ◌++◌, length, map}
use Rattle.std.specs.Prelude.{bytes_eq, slice_get}
use Rattle.std.specs.List.{list_any, AllByRecursion}
use Rattle.tk_types.specs.declared.script.Interrupt.{Interrupt}
use Rattle.tk_model.specs.ScriptText.{all_differ, StepsRise, IsBetween}
use Rattle.tk_raw.specs.RawReading.{least_step, step_or_one}
use Rattle.tk_raw.proofs.Results.{both_true, false_of_not}

-- whether one of the names is the word
abbrev pub among : List (List ℕ) → List ℕ → Bool
among names word = list_any (λ (name : List ℕ). bytes_eq name word) names

any_behind : (word last : List ℕ) (names : List (List ℕ)) → list_any (bytes_eq word) (names ++ last ∷ []) ≡ (list_any (bytes_eq word) names || bytes_eq word last)
any_behind word last [] = or_false (bytes_eq word last)
  where
    or_false : (b : Bool) → (b || false) ≡ b
    or_false true = refl
    or_false false = refl
any_behind word last (name ∷ names) = rw (any_behind word last names) (or_later (bytes_eq word name) (list_any (bytes_eq word) names) (bytes_eq word last))
  where
    or_later : (a b c : Bool) → (a || (b || c)) ≡ ((a || b) || c)
    or_later true b c = refl
    or_later false b c = refl

regrouped : (a b c d : Bool) → (not (a || b) && (c && not d)) ≡ ((not a && c) && not (b || d))
regrouped true b c d = refl
regrouped false true true d = refl
regrouped false true false d = refl
regrouped false false true d = refl
regrouped false false false d = refl

-- names and one more differ where the names do, and the last one is none of them
pub differ_behind : (names : List (List ℕ)) (last : List ℕ) → all_differ (names ++ last ∷ []) ≡ (all_differ names && not (among names last))
unfolding all_differ
differ_behind [] last = refl
differ_behind (name ∷ names) last =
    rw (any_behind name last names, differ_behind names last) (regrouped (list_any (bytes_eq name) names) (bytes_eq name last) (all_differ names) (among names last))

pub differ_grown : (names : List (List ℕ)) (last : List ℕ) → all_differ names ≡ true → among names last ≡ false → all_differ (names ++ last ∷ []) ≡ true
differ_grown names last differ new = differ_behind names last ∙ rw (differ, new) refl

pub differ_before : (names : List (List ℕ)) (last : List ℕ) → all_differ (names ++ last ∷ []) ≡ true → (all_differ names ≡ true) × (among names last ≡ false)
differ_before names last differ =
    let t = both_true (all_differ names) (not (among names last)) (sym (differ_behind names last) ∙ differ) in
    (t.0, false_of_not (among names last) t.1)

-- the step of the last interrupt, or the least step
abbrev pub last_step : ℕ → List Interrupt → ℕ
last_step low [] = low
last_step low (irq ∷ irqs) = last_step irq.step irqs

pub steps_grown : (low : ℕ) (irqs : List Interrupt) (irq : Interrupt) → StepsRise low irqs → last_step low irqs ≤ irq.step → irq.step ≤ 1000000 → IsBetween 1 255 irq.number → StepsRise low (irqs ++ irq ∷ [])
unfolding StepsRise
steps_grown low [] irq rise from to number = (from, (number, to))
steps_grown low (first ∷ irqs) irq rise from to number = (rise.0, (rise.1.0, steps_grown first.step irqs irq rise.1.1 from to number))

pub steps_before : (low : ℕ) (irqs : List Interrupt) (irq : Interrupt) → StepsRise low (irqs ++ irq ∷ []) → StepsRise low irqs × (last_step low irqs ≤ irq.step) × (irq.step ≤ 1000000) × IsBetween 1 255 irq.number
unfolding StepsRise
steps_before low [] irq rise =
    let from = rise.0 in
    let to = rise.1.1 in
    (omega (arith, from, to), rise.0, rise.1.1, rise.1.0)
steps_before low (first ∷ irqs) irq rise =
    let t = steps_before first.step irqs irq rise.1.1 in
    ((rise.0, (rise.1.0, t.0)), t.1, t.2, t.3)

last_of : (low : ℕ) (first : Interrupt) (irqs : List Interrupt) → last_step low (first ∷ irqs) ≡ step_or_one (slice_get (first ∷ irqs) (length irqs))
last_of low first [] = refl
last_of low first (second ∷ irqs) = last_of first.step second irqs

pub least_is_last : (irqs : List Interrupt) → least_step irqs ≡ last_step 1 irqs
unfolding least_step
least_is_last [] = refl
least_is_last (irq ∷ irqs) =
    let place : length (irq ∷ irqs) - 1 ≡ length irqs = omega arith in
    ap (λ (n : ℕ). step_or_one (slice_get (irq ∷ irqs) n)) place ∙ sym (last_of 1 irq irqs)

-- what holds of all and of one more
pub all_grown : {X : Type 0} (P : X → Type 0) (xs : List X) (x : X) → AllByRecursion P xs → P x → AllByRecursion P (xs ++ x ∷ [])
all_grown P [] x all is = (is, tt)
all_grown P (y ∷ xs) x all is = (all.0, all_grown P xs x all.1 is)

pub map_behind : {X Y : Type 0} (f : X → Y) (xs : List X) (x : X) → map f (xs ++ x ∷ []) ≡ map f xs ++ f x ∷ []
map_behind f [] x = refl
map_behind {X} {Y} f (y ∷ xs) x = ap (λ (ys : List Y). f y ∷ ys) (map_behind f xs x)

pub any_mapped : {X : Type 0} (f : X → List ℕ) (word : List ℕ) (xs : List X) → list_any (λ (x : X). bytes_eq (f x) word) xs ≡ among (map f xs) word
any_mapped f word [] = refl
any_mapped f word (x ∷ xs) = rw (any_mapped f word xs) refl
