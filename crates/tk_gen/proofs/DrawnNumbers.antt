-- Draws, one after another.
use Rattle.std.proofs.Common.{ℕ, suc, ◌+◌, ◌-◌, ◌<◌, ◌^◌, ◌≡◌, List, [], ◌∷◌, ◌++◌, refl, ap, sym, ◌∙◌, append_assoc, append-nil, arith}
use Rattle.std.specs.Prelude.{◌/◌}
use Rattle.machine_model.specs.Runs.Generator.{drawn, draws}

-- the number behind another has 31 bits
pub drawn_small : (x : ℕ) → drawn x < 2 ^ 31
drawn_small x = omega arith

one_draw : (left x : ℕ) → draws (suc left) x ≡ drawn x / 65536 ∷ draws left (drawn x)
unfolding draws
one_draw left x = refl

-- one more is drawn
pub next_draw : (before all : List ℕ) (count done x : ℕ) → done < count → before ++ draws (count - done) x ≡ all →
    (before ++ drawn x / 65536 ∷ []) ++ draws (count - (done + 1)) (drawn x) ≡ all
next_draw before all count done x more is =
    let left : count - done ≡ suc (count - (done + 1)) = omega (arith, more) in
    append_assoc before (drawn x / 65536 ∷ []) (draws (count - (done + 1)) (drawn x))
    ∙ (ap (λ (list : List ℕ). before ++ list) (sym (one_draw (count - (done + 1)) x))
    ∙ (ap (λ (n : ℕ). before ++ draws n x) (sym left) ∙ is))

none_drawn : (x : ℕ) → draws 0 x ≡ []
unfolding draws
none_drawn x = refl

-- all are drawn
pub last_draw : (before all : List ℕ) (count done x : ℕ) → done ≡ count → before ++ draws (count - done) x ≡ all → before ≡ all
last_draw before all count done x same is =
    let left : count - done ≡ 0 = omega (arith, same) in
    sym (append-nil before) ∙ (ap (λ (list : List ℕ). before ++ list) (sym (none_drawn x)) ∙ (ap (λ (n : ℕ). before ++ draws n x) (sym left) ∙ is))
