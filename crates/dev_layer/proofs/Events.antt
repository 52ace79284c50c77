-- Events go to the devices one after another.
use Rattle.std.proofs.Common.{◌≡◌, ℕ, zero, suc, ◌+◌, ◌≤◌, ◌<◌, true, List, [], ◌∷◌, ◌++◌, Option, Some, None, refl, ap, sym, ◌∙◌, arith, length, drop, take, add-one}
use Rattle.std.specs.List.{fold}
use Rattle.std.specs.Option.{is_some}
use Rattle.std.specs.Prelude.{if◌then◌else◌, reverse}
use Rattle.std.proofs.lemmas.List.{reverse-append, take_all}
use Rattle.kernel_model.specs.Words.Orders.{entry, taken_from}
use Rattle.device_model.specs.Devices.Tables.{Link}
use Rattle.dev_layer.proofs.Handed.{passed_slot, taken_slot}

-- ---- by rising ID

rising_if : {P : Type 0} (step : P → ℕ → P) (slots : List (Option Link)) (d : ℕ) (now next all : P) (slot : Option Link) → entry slots d ≡ slot → d < length slots → next ≡ (if is_some slot then step now d else now) →
    fold step now (taken_from d (drop d slots)) ≡ all → fold step next (taken_from (d + 1) (drop (suc d) slots)) ≡ all
rising_if {P = P} step slots d now next all None there inside is left =
    ap (λ (p : P). fold step p (taken_from (d + 1) (drop (suc d) slots))) is ∙ ap (fold step now) (sym (passed_slot slots d d inside there)) ∙ left
rising_if {P = P} step slots d now next all (Some link) there inside is left =
    ap (λ (p : P). fold step p (taken_from (d + 1) (drop (suc d) slots))) is ∙ ap (fold step now) (sym (taken_slot slots d d (ap is_some there))) ∙ left

pub one_rising : {P : Type 0} (step : P → ℕ → P) (slots : List (Option Link)) (d : ℕ) (now next all : P) → d < length slots → next ≡ (if is_some (entry slots d) then step now d else now) →
    fold step now (taken_from d (drop d slots)) ≡ all → fold step next (taken_from (d + 1) (drop (d + 1) slots)) ≡ all
one_rising step slots d now next all inside is left =
    ap (λ n. fold step next (taken_from (d + 1) (drop n slots))) (add-one d) ∙ rising_if step slots d now next all (entry slots d) refl inside is left

beyond : {A : Type 0} (slots : List A) (n : ℕ) → length slots ≤ n → drop n slots ≡ []
beyond [] zero over = refl
beyond [] (suc n) over = refl
beyond (x ∷ slots) zero over = absurd (omega (arith, over))
beyond (x ∷ slots) (suc n) over = beyond slots n (omega (arith, over))

pub all_risen : {P : Type 0} (step : P → ℕ → P) (slots : List (Option Link)) (d : ℕ) (now all : P) → length slots ≤ d → fold step now (taken_from d (drop d slots)) ≡ all → now ≡ all
all_risen step slots d now all over left = ap (λ rest. fold step now (taken_from d rest)) (sym (beyond slots d over)) ∙ left

-- ---- by falling ID

-- those below an ID, from the first on
abbrev pub below : List (Option Link) → ℕ → List ℕ
below slots d = taken_from 1 (drop 1 (take d slots))

front_none : (slots : List (Option Link)) (id n : ℕ) → n < length slots → entry slots n ≡ None → taken_from id (take (suc n) slots) ≡ taken_from id (take n slots)
front_none [] id n inside none = absurd (omega (arith, inside))
front_none (None ∷ slots) id zero inside none = refl
front_none (Some link ∷ slots) id zero inside none = absurd (cc none)
front_none (None ∷ slots) id (suc n) inside none = front_none slots (id + 1) n (omega (arith, inside)) none
front_none (Some link ∷ slots) id (suc n) inside none = ap (λ ids. id ∷ ids) (front_none slots (id + 1) n (omega (arith, inside)) none)

front_some : (slots : List (Option Link)) (id n : ℕ) → is_some (entry slots n) ≡ true → taken_from id (take (suc n) slots) ≡ taken_from id (take n slots) ++ (id + n) ∷ []
front_some [] id n some = absurd (cc some)
front_some (None ∷ slots) id zero some = absurd (cc some)
front_some (Some link ∷ slots) id zero some = let same : id ≡ id + 0 = omega arith in ap (λ k. k ∷ []) same
front_some (None ∷ slots) id (suc n) some = let same : id + 1 + n ≡ id + suc n = omega arith in front_some slots (id + 1) n some ∙ ap (λ k. taken_from (id + 1) (take n slots) ++ k ∷ []) same
front_some (Some link ∷ slots) id (suc n) some =
    let same : id + 1 + n ≡ id + suc n = omega arith in
    ap (λ ids. id ∷ ids) (front_some slots (id + 1) n some ∙ ap (λ k. taken_from (id + 1) (take n slots) ++ k ∷ []) same)

below_none : (slots : List (Option Link)) (d : ℕ) → d < length slots → 1 ≤ d → entry slots d ≡ None → below slots (suc d) ≡ below slots d
below_none [] d inside low none = absurd (omega (arith, inside))
below_none (first ∷ slots) zero inside low none = absurd (omega (arith, low))
below_none (first ∷ slots) (suc d) inside low none = front_none slots 1 d (omega (arith, inside)) none

below_some : (slots : List (Option Link)) (d : ℕ) → 1 ≤ d → is_some (entry slots d) ≡ true → below slots (suc d) ≡ below slots d ++ d ∷ []
below_some [] d low some = absurd (cc some)
below_some (first ∷ slots) zero low some = absurd (omega (arith, low))
below_some (first ∷ slots) (suc d) low some = let same : 1 + d ≡ suc d = omega arith in front_some slots 1 d some ∙ ap (λ k. taken_from 1 (take d slots) ++ k ∷ []) same

falling_if : {P : Type 0} (step : P → ℕ → P) (slots : List (Option Link)) (d : ℕ) (now next all : P) (slot : Option Link) → entry slots d ≡ slot → d < length slots → 1 ≤ d → next ≡ (if is_some slot then step now d else now) →
    fold step now (reverse (below slots (suc d))) ≡ all → fold step next (reverse (below slots d)) ≡ all
falling_if {P = P} step slots d now next all None there inside low is left =
    ap (λ (p : P). fold step p (reverse (below slots d))) is ∙ ap (λ ids. fold step now (reverse ids)) (sym (below_none slots d inside low there)) ∙ left
falling_if {P = P} step slots d now next all (Some link) there inside low is left =
    ap (λ (p : P). fold step p (reverse (below slots d))) is
    ∙ ap (fold step now) (sym (reverse-append (below slots d) (d ∷ [])))
    ∙ ap (λ ids. fold step now (reverse ids)) (sym (below_some slots d low (ap is_some there))) ∙ left

pub one_falling : {P : Type 0} (step : P → ℕ → P) (slots : List (Option Link)) (d above : ℕ) (now next all : P) → above ≡ suc d → d < length slots → 1 ≤ d → next ≡ (if is_some (entry slots d) then step now d else now) →
    fold step now (reverse (below slots above)) ≡ all → fold step next (reverse (below slots d)) ≡ all
one_falling step slots d above now next all at inside low is left =
    falling_if step slots d now next all (entry slots d) refl inside low is (ap (λ n. fold step now (reverse (below slots n))) (sym at) ∙ left)

none_below : (slots : List (Option Link)) (d : ℕ) → d ≤ 1 → below slots d ≡ []
none_below [] zero low = refl
none_below [] (suc d) low = refl
none_below (first ∷ slots) zero low = refl
none_below (first ∷ slots) (suc zero) low = refl
none_below (first ∷ slots) (suc (suc d)) low = absurd (omega (arith, low))

pub all_fallen : {P : Type 0} (step : P → ℕ → P) (slots : List (Option Link)) (d : ℕ) (now all : P) → d ≤ 1 → fold step now (reverse (below slots d)) ≡ all → now ≡ all
all_fallen step slots d now all low left = ap (λ ids. fold step now (reverse ids)) (sym (none_below slots d low)) ∙ left

pub all_below : (slots : List (Option Link)) (d : ℕ) → length slots ≤ d → below slots d ≡ taken_from 1 (drop 1 slots)
all_below slots d over = ap (λ xs. taken_from 1 (drop 1 xs)) (take_all d slots over)
