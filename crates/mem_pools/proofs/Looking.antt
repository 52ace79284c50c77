-- What holds of each ID of a table, looked at one by one.
use Rattle.std.proofs.Common.{◌≡◌, ℕ, zero, suc, ◌+◌, ◌<◌, Bool, true, false, List, [], ◌∷◌, Option, Some, None, refl, subst, arith, length}
use Rattle.std.specs.Bool.{◌==◌}
use Rattle.std.specs.Option.{is_some}
use Rattle.std.proofs.lemmas.Bool.Decides.{nat_tests}
use Rattle.tk_types.specs.declared.task.Task.{Task}
use Rattle.kernel_model.specs.Words.Orders.{entry}
use Rattle.kernel_model.specs.Tasks.Base.{waiting_in}

next_if : (P : ℕ → Type 0) (n t : ℕ) (same : Bool) → (n == t) ≡ same → ((u : ℕ) → u < n → P u) → P n → t < n + 1 → P t
next_if P n t true is all one below = let itself : n ≡ t = grind (arith, nat_tests, is) in subst P itself one
next_if P n t false is all one below =
    all t (grind (arith, nat_tests, is, below))

-- one ID more
pub next_each : (P : ℕ → Type 0) (n : ℕ) → ((u : ℕ) → u < n → P u) → P n → (t : ℕ) → t < n + 1 → P t
next_each P n all one t below = next_if P n t (n == t) refl all one below

-- what stands in a slot stands inside the table
pub inside : {A : Type 0} (xs : List (Option A)) (t : ℕ) → is_some (entry xs t) ≡ true → t < length xs
inside [] t there = absurd (cc there)
inside (x ∷ xs) zero there = omega arith
inside (x ∷ xs) (suc t) there = let rest : t < length xs = inside xs t there in omega arith

waits_some : (object : ℕ) (slot : Option Task) → waiting_in object slot ≡ true → is_some slot ≡ true
waits_some object None there = absurd (cc there)
waits_some object (Some k) there = refl

-- a task that waits for an object has a slot
pub waits_inside : (tasks : List (Option Task)) (object t : ℕ) → waiting_in object (entry tasks t) ≡ true → t < length tasks
waits_inside tasks object t there = inside tasks t (waits_some object (entry tasks t) there)
