-- Chains, walked task by task.
use Rattle.std.proofs.Common.{◌≡◌, ℕ, zero, suc, ◌+◌, ◌-◌, ◌<◌, ◌≤◌, Bool, true, false, not, ◌&&◌, ◌||◌, refl, ap, sym, ◌∙◌, arith}
use Rattle.std.specs.Bool.{◌==◌}
use Rattle.std.proofs.lemmas.Bool.Decides.{nat_tests}
use Rattle.object_model.specs.Mutexes.Priority.{chain_has}

found_at : (next : ℕ → ℕ) (t n u : ℕ) (same : Bool) → (u == t) ≡ same → u ≡ t → chain_has next t n u ≡ true
unfolding chain_has
found_at next t zero u same at is = grind (arith, nat_tests, is)
found_at next t (suc n) u same at is = let here : (u == t) ≡ true = grind (arith, nat_tests, is) in ap (λ test. test || (not (next u == 0) && chain_has next t n (next u))) here

-- a task that is looked for stands where the walk has come to
pub chain_here : (next : ℕ → ℕ) (t n u : ℕ) (all : Bool) → u ≡ t → chain_has next t n u ≡ all → true ≡ all
chain_here next t n u all is left = sym (found_at next t n u (u == t) refl is) ∙ left

step_is : (next : ℕ → ℕ) (t n u : ℕ) → (u ≡ t → ⊥) → chain_has next t (suc n) u ≡ (not (next u == 0) && chain_has next t n (next u))
unfolding chain_has
step_is next t n u apart = let other : (u == t) ≡ false = grind (arith, nat_tests, apart) in ap (λ test. test || (not (next u == 0) && chain_has next t n (next u))) other

one_more : (next : ℕ → ℕ) (t passed u : ℕ) → passed < 255 → chain_has next t (255 - passed) u ≡ chain_has next t (suc (255 - (passed + 1))) u
one_more next t passed u few = let e : 255 - passed ≡ suc (255 - (passed + 1)) = omega arith in ap (λ n. chain_has next t n u) e

-- the chain ends before
pub chain_ends : (next : ℕ → ℕ) (t passed u after : ℕ) (all : Bool) → passed < 255 → (u ≡ t → ⊥) → after ≡ next u → after ≡ 0 → chain_has next t (255 - passed) u ≡ all → false ≡ all
chain_ends next t passed u after all few apart is none left =
    let stops : not (next u == 0) ≡ false = grind (arith, nat_tests, is, none) in
    sym (ap (λ test. test && chain_has next t (255 - (passed + 1)) (next u)) stops)
    ∙ sym (step_is next t (255 - (passed + 1)) u apart)
    ∙ sym (one_more next t passed u few)
    ∙ left

-- the chain goes on
pub chain_goes : (next : ℕ → ℕ) (t passed u after : ℕ) (all : Bool) → passed < 255 → (u ≡ t → ⊥) → after ≡ next u → (after ≡ 0 → ⊥) → chain_has next t (255 - passed) u ≡ all →
    chain_has next t (255 - (passed + 1)) after ≡ all
chain_goes next t passed u after all few apart is some left =
    let goes : not (next u == 0) ≡ true = grind (arith, nat_tests, is, some) in
    ap (chain_has next t (255 - (passed + 1))) is
    ∙ sym (ap (λ test. test && chain_has next t (255 - (passed + 1)) (next u)) goes)
    ∙ sym (step_is next t (255 - (passed + 1)) u apart)
    ∙ sym (one_more next t passed u few)
    ∙ left

last_is : (next : ℕ → ℕ) (t u : ℕ) → chain_has next t 0 u ≡ (u == t)
unfolding chain_has
last_is next t u = refl

-- the last task that is looked at
pub chain_last : (next : ℕ → ℕ) (t passed u : ℕ) (all : Bool) → 255 ≤ passed → chain_has next t (255 - passed) u ≡ all → (u == t) ≡ all
chain_last next t passed u all over left = let none : 255 - passed ≡ 0 = omega arith in sym (last_is next t u) ∙ sym (ap (λ n. chain_has next t n u) none) ∙ left
