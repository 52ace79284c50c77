-- The first pool that can serve a waiter, looked for ID by ID.
use Rattle.std.proofs.Common.{◌≡◌, ℕ, zero, suc, ◌+◌, ◌<◌, ◌≤◌, true, false, List, [], ◌∷◌, Option, Some, None, refl, ap, sym, ◌∙◌, arith, drop, length, add-one}
use Rattle.std.specs.Option.{is_some, option_or}
use Rattle.std.specs.Prelude.{unwrap_or}
use Rattle.kernel_model.specs.Words.Orders.{entry, taken_from}
use Rattle.object_model.specs.Servings.{first_serving}
use Rattle.object_model.specs.Pools.Tables.{FixedPool, VariablePool, PoolParts, fixed_at, variable_at}
use Rattle.object_model.specs.Pools.Fixed.{serve_fixed, serve_fixed_at}
use Rattle.object_model.specs.Pools.Variable.{serve_variable, serve_variable_at}
use Rattle.mem_pools.specs.Tables.{AreFreeFrom}

-- ---- one ID

later_if : (serve : ℕ → Option PoolParts) (id : ℕ) (ids : List ℕ) → serve id ≡ None → first_serving serve (id ∷ ids) ≡ first_serving serve ids
unfolding first_serving
later_if serve id ids none = ap (λ one. option_or one (first_serving serve ids)) none

here_if : (serve : ℕ → Option PoolParts) (id : ℕ) (ids : List ℕ) (parts : PoolParts) → serve id ≡ Some parts → first_serving serve (id ∷ ids) ≡ Some parts
unfolding first_serving
here_if serve id ids parts is = ap (λ one. option_or one (first_serving serve ids)) is

slot_passed : {A : Type 0} (serve : ℕ → Option PoolParts) (id : ℕ) (slot : Option A) (rest : List (Option A)) → serve id ≡ None → first_serving serve (taken_from id (slot ∷ rest)) ≡ first_serving serve (taken_from (id + 1) rest)
slot_passed serve id None rest none = refl
slot_passed serve id (Some k) rest none = later_if serve id (taken_from (id + 1) rest) none

slot_found : {A : Type 0} (serve : ℕ → Option PoolParts) (id : ℕ) (slot : Option A) (rest : List (Option A)) (parts : PoolParts) → is_some slot ≡ true → serve id ≡ Some parts →
    first_serving serve (taken_from id (slot ∷ rest)) ≡ Some parts
slot_found serve id None rest parts there is = absurd (cc there)
slot_found serve id (Some k) rest parts there is = here_if serve id (taken_from (id + 1) rest) parts is

passed_at : {A : Type 0} (serve : ℕ → Option PoolParts) (slots : List (Option A)) (place id : ℕ) → place < length slots → serve id ≡ None →
    first_serving serve (taken_from id (drop place slots)) ≡ first_serving serve (taken_from (id + 1) (drop (suc place) slots))
passed_at serve [] place id inside none = absurd (omega arith)
passed_at serve (slot ∷ slots) zero id inside none = slot_passed serve id slot slots none
passed_at serve (slot ∷ slots) (suc place) id inside none = passed_at serve slots place id (omega arith) none

found_at : {A : Type 0} (serve : ℕ → Option PoolParts) (slots : List (Option A)) (place id : ℕ) (parts : PoolParts) → is_some (entry slots place) ≡ true → serve id ≡ Some parts →
    first_serving serve (taken_from id (drop place slots)) ≡ Some parts
found_at serve [] place id parts there is = absurd (cc there)
found_at serve (slot ∷ slots) zero id parts there is = slot_found serve id slot slots parts there is
found_at serve (slot ∷ slots) (suc place) id parts there is = found_at serve slots place id parts there is

free_at : {A : Type 0} (serve : ℕ → Option PoolParts) (slots : List (Option A)) (place id : ℕ) → ((n : ℕ) → place ≤ n → entry slots n ≡ None) → first_serving serve (taken_from id (drop place slots)) ≡ None
unfolding first_serving
free_at serve [] zero id free = refl
free_at serve [] (suc place) id free = refl
free_at serve (None ∷ slots) zero id free = free_at serve slots zero (id + 1) (λ n from. free (suc n) (omega arith))
free_at serve (Some k ∷ slots) zero id free = absurd (cc (free zero (omega arith)))
free_at serve (slot ∷ slots) (suc place) id free = free_at serve slots place id (λ n from. free (suc n) (omega (arith, from)))

-- ---- only a pool that exists serves

fixed_there_at : (p : PoolParts) (id : ℕ) (slot : Option FixedPool) (parts : PoolParts) → serve_fixed_at p id slot ≡ Some parts → is_some slot ≡ true
fixed_there_at p id None parts is = absurd (cc is)
fixed_there_at p id (Some k) parts is = refl

pub fixed_there : (p : PoolParts) (id : ℕ) (parts : PoolParts) → serve_fixed p id ≡ Some parts → is_some (entry p.table.fixed id) ≡ true
unfolding serve_fixed
fixed_there p id parts is = fixed_there_at p id (fixed_at p.table id) parts is

variable_there_at : (p : PoolParts) (id : ℕ) (slot : Option VariablePool) (parts : PoolParts) → serve_variable_at p id slot ≡ Some parts → is_some slot ≡ true
variable_there_at p id None parts is = absurd (cc is)
variable_there_at p id (Some k) parts is = refl

pub variable_there : (p : PoolParts) (id : ℕ) (parts : PoolParts) → serve_variable p id ≡ Some parts → is_some (entry p.table.variable id) ≡ true
unfolding serve_variable
variable_there p id parts is = variable_there_at p id (variable_at p.table id) parts is

-- ---- in the form of the loops

-- what is served of parts at an ID
abbrev pub at_parts : (PoolParts → ℕ → Option PoolParts) → ℕ → PoolParts → Option PoolParts
at_parts serve id parts = serve parts id

found_if : {A : Type 0} (serve : ℕ → Option PoolParts) (slots : List (Option A)) (id : ℕ) (one all : Option PoolParts) → ((parts : PoolParts) → serve id ≡ Some parts → is_some (entry slots id) ≡ true) →
    serve id ≡ one → true ≡ is_some one → first_serving serve (taken_from id (drop id slots)) ≡ all → one ≡ all
found_if serve slots id None all there is some left = absurd (cc some)
found_if serve slots id (Some parts) all there is some left = sym (found_at serve slots id id parts (there parts is) is) ∙ left

-- one that serves is the first, where those before don't
pub first_here : {A : Type 0} (serve : PoolParts → ℕ → Option PoolParts) (slots : List (Option A)) (id : ℕ) (old turn new : PoolParts) (all : Option PoolParts) →
    ((parts : PoolParts) → serve old id ≡ Some parts → is_some (entry slots id) ≡ true) →
    turn ≡ old → true ≡ is_some (serve turn id) → new ≡ unwrap_or (serve turn id) turn →
    first_serving (serve old) (taken_from id (drop id slots)) ≡ all →
    record { served : true ≡ is_some all; left : new ≡ unwrap_or all old }
first_here serve slots id old turn new all there same some moved left =
    let here : serve turn id ≡ serve old id = ap (at_parts serve id) same in
    let found : serve old id ≡ all = found_if (serve old) slots id (serve old id) all there refl (some ∙ ap is_some here) left in
    record {
      served = some ∙ ap is_some (here ∙ found);
      left = moved ∙ ap (λ one. unwrap_or one turn) (here ∙ found) ∙ ap (unwrap_or all) same;
    }

none_if : (one : Option PoolParts) → false ≡ is_some one → one ≡ None
none_if None is = refl
none_if (Some parts) is = absurd (cc is)

-- one that serves nobody changes nothing, and the first of the others is the first of all
pub first_further : {A : Type 0} (serve : PoolParts → ℕ → Option PoolParts) (slots : List (Option A)) (id : ℕ) (old turn new : PoolParts) (all : Option PoolParts) → id < length slots →
    turn ≡ old → false ≡ is_some (serve turn id) → new ≡ unwrap_or (serve turn id) turn →
    first_serving (serve old) (taken_from id (drop id slots)) ≡ all →
    record { all : first_serving (serve old) (taken_from (id + 1) (drop (id + 1) slots)) ≡ all; same : new ≡ old }
first_further serve slots id old turn new all inside same none moved left =
    let nobody : serve turn id ≡ None = none_if (serve turn id) none in
    let nobody_first : serve old id ≡ None = sym (ap (at_parts serve id) same) ∙ nobody in
    record {
      all =
          ap (λ n. first_serving (serve old) (taken_from (id + 1) (drop n slots))) (add-one id)
          ∙ sym (passed_at (serve old) slots id id inside nobody_first)
          ∙ left;
      same = moved ∙ ap (λ one. unwrap_or one turn) nobody ∙ same;
    }

-- no ID is left that is used
pub first_nowhere : {A : Type 0} (serve : ℕ → Option PoolParts) (slots : List (Option A)) (used id : ℕ) (old turn : PoolParts) (all : Option PoolParts) → AreFreeFrom used slots → used ≤ id →
    turn ≡ old → first_serving serve (taken_from id (drop id slots)) ≡ all →
    record { served : false ≡ is_some all; left : turn ≡ unwrap_or all old }
first_nowhere serve slots used id old turn all unused over same left =
    let none : None ≡ all = sym (free_at serve slots id id (λ n from. unused.free n (omega (arith, over, from)))) ∙ left in
    record { served = ap is_some none; left = same ∙ ap (λ one. unwrap_or one old) none }
