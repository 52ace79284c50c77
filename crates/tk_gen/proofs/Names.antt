-- The names of the bodies of a generated script are names.
use Rattle.std.proofs.Common.{ℕ, zero, suc, ◌≡◌, ◌<◌, ◌+◌, ◌^◌, ◌++◌, Bool, true, false, ◌&&◌, refl, ap, sym, ◌∙◌, arith}
use Rattle.std.specs.Prelude.{codes, decimal}
use Rattle.std.specs.Fmt.{digits}
use Rattle.tk_types.specs.Names.{is_name_byte, name_at_most}

-- whether the names of so many tasks from this one on are names
unfoldable names_from : ℕ → ℕ → Bool
names_from zero k = true
names_from (suc left) k = name_at_most 16 (codes "w" ++ decimal k) && names_from left (k + 1)

all_named : names_from 256 0 ≡ true
unfolding names_from name_at_most is_name_byte digits
all_named = refl

first_true : (one other : Bool) → (one && other) ≡ true → one ≡ true
first_true true other is = refl
first_true false other is = absurd (cc is)

second_true : (one other : Bool) → (one && other) ≡ true → other ≡ true
second_true true other is = is
second_true false other is = absurd (cc is)

named_in : (left k i : ℕ) → names_from left k ≡ true → i < left → name_at_most 16 (codes "w" ++ decimal (k + i)) ≡ true
unfolding names_from
named_in zero k i all less = absurd (omega (arith, less))
named_in (suc left) k zero all less =
    let same : k + 0 ≡ k = omega arith in
    ap (λ (n : ℕ). name_at_most 16 (codes "w" ++ decimal n)) same ∙ first_true (name_at_most 16 (codes "w" ++ decimal k)) (names_from left (k + 1)) all
named_in (suc left) k (suc i) all less =
    let same : k + suc i ≡ (k + 1) + i = omega arith in
    ap (λ (n : ℕ). name_at_most 16 (codes "w" ++ decimal n)) same
    ∙ named_in left (k + 1) i (second_true (name_at_most 16 (codes "w" ++ decimal k)) (names_from left (k + 1)) all) (omega (arith, less))

-- `w` and the number of a task is a name
pub body_named : (k : ℕ) → k < 2 ^ 8 → name_at_most 16 (codes "w" ++ decimal k) ≡ true
body_named k less =
    let same : 0 + k ≡ k = omega arith in
    ap (λ (n : ℕ). name_at_most 16 (codes "w" ++ decimal n)) (sym same) ∙ named_in 256 0 k all_named (omega (arith, less))

pub main_named : name_at_most 16 (codes "main") ≡ true
unfolding name_at_most is_name_byte
main_named = refl

pub device_named : name_at_most 16 (codes "d1") ≡ true
unfolding name_at_most is_name_byte
device_named = refl
