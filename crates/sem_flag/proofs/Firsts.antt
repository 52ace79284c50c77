-- The first object that can serve a waiter, looked for ID by ID.
use Rattle.std.proofs.Common.{◌≡◌, ℕ, zero, suc, ◌+◌, ◌<◌, ◌≤◌, true, false, List, [], ◌∷◌, Option, Some, None, refl, ap, sym, ◌∙◌, arith, drop, length, add-one}
use Rattle.std.specs.Option.{is_some}
use Rattle.std.specs.Prelude.{unwrap_or}
use Rattle.kernel_model.specs.declared.objects.Semaphore.{Semaphore}
use Rattle.kernel_model.specs.declared.objects.EventFlag.{EventFlag}
use Rattle.kernel_model.specs.Words.Orders.{entry}
use Rattle.kernel_model.specs.Tasks.Base.{Base}
use Rattle.kernel_model.specs.Words.Orders.{taken_from}
use Rattle.kernel_model.specs.SemFlags.Tables.{SemFlags, SemFlagParts, first_served, flag_at, or_else, sem_at, serve_flag, serve_flag_at, serve_sem, serve_sem_at}
use Rattle.sem_flag.specs.Tables.{AreFreeFrom}

-- ---- one ID

later_if : (serve : ℕ → Option SemFlagParts) (id : ℕ) (ids : List ℕ) → serve id ≡ None → first_served serve (id ∷ ids) ≡ first_served serve ids
unfolding first_served
later_if serve id ids none = ap (λ one. or_else one (first_served serve ids)) none

here_if : (serve : ℕ → Option SemFlagParts) (id : ℕ) (ids : List ℕ) (parts : SemFlagParts) → serve id ≡ Some parts → first_served serve (id ∷ ids) ≡ Some parts
unfolding first_served
here_if serve id ids parts is = ap (λ one. or_else one (first_served serve ids)) is

slot_passed : {A : Type 0} (serve : ℕ → Option SemFlagParts) (id : ℕ) (slot : Option A) (rest : List (Option A)) → serve id ≡ None → first_served serve (taken_from id (slot ∷ rest)) ≡ first_served serve (taken_from (id + 1) rest)
slot_passed serve id None rest none = refl
slot_passed serve id (Some k) rest none = later_if serve id (taken_from (id + 1) rest) none

slot_found : {A : Type 0} (serve : ℕ → Option SemFlagParts) (id : ℕ) (slot : Option A) (rest : List (Option A)) (parts : SemFlagParts) → is_some slot ≡ true → serve id ≡ Some parts →
    first_served serve (taken_from id (slot ∷ rest)) ≡ Some parts
slot_found serve id None rest parts there is = absurd (cc there)
slot_found serve id (Some k) rest parts there is = here_if serve id (taken_from (id + 1) rest) parts is

passed_at : {A : Type 0} (serve : ℕ → Option SemFlagParts) (slots : List (Option A)) (place id : ℕ) → place < length slots → serve id ≡ None →
    first_served serve (taken_from id (drop place slots)) ≡ first_served serve (taken_from (id + 1) (drop (suc place) slots))
passed_at serve [] place id inside none = absurd (omega arith)
passed_at serve (slot ∷ slots) zero id inside none = slot_passed serve id slot slots none
passed_at serve (slot ∷ slots) (suc place) id inside none = passed_at serve slots place id (omega arith) none

found_at : {A : Type 0} (serve : ℕ → Option SemFlagParts) (slots : List (Option A)) (place id : ℕ) (parts : SemFlagParts) → is_some (entry slots place) ≡ true → serve id ≡ Some parts →
    first_served serve (taken_from id (drop place slots)) ≡ Some parts
found_at serve [] place id parts there is = absurd (cc there)
found_at serve (slot ∷ slots) zero id parts there is = slot_found serve id slot slots parts there is
found_at serve (slot ∷ slots) (suc place) id parts there is = found_at serve slots place id parts there is

free_at : {A : Type 0} (serve : ℕ → Option SemFlagParts) (slots : List (Option A)) (place id : ℕ) → ((n : ℕ) → place ≤ n → entry slots n ≡ None) → first_served serve (taken_from id (drop place slots)) ≡ None
unfolding first_served
free_at serve [] zero id free = refl
free_at serve [] (suc place) id free = refl
free_at serve (None ∷ slots) zero id free = free_at serve slots zero (id + 1) (λ n from. free (suc n) (omega arith))
free_at serve (Some k ∷ slots) zero id free = absurd (cc (free zero (omega arith)))
free_at serve (slot ∷ slots) (suc place) id free = free_at serve slots place id (λ n from. free (suc n) (omega (arith, from)))

-- ---- only an object that exists serves

sem_there_at : (b : Base) (s : SemFlags) (id : ℕ) (slot : Option Semaphore) (parts : SemFlagParts) → serve_sem_at b s id slot ≡ Some parts → is_some slot ≡ true
sem_there_at b s id None parts is = absurd (cc is)
sem_there_at b s id (Some k) parts is = refl

pub sem_there : (b : Base) (s : SemFlags) (id : ℕ) (parts : SemFlagParts) → serve_sem b s id ≡ Some parts → is_some (entry s.sems id) ≡ true
unfolding serve_sem
sem_there b s id parts is = sem_there_at b s id (sem_at s id) parts is

flag_there_at : (b : Base) (s : SemFlags) (id : ℕ) (slot : Option EventFlag) (parts : SemFlagParts) → serve_flag_at b s id slot ≡ Some parts → is_some slot ≡ true
flag_there_at b s id None parts is = absurd (cc is)
flag_there_at b s id (Some k) parts is = refl

pub flag_there : (b : Base) (s : SemFlags) (id : ℕ) (parts : SemFlagParts) → serve_flag b s id ≡ Some parts → is_some (entry s.flags id) ≡ true
unfolding serve_flag
flag_there b s id parts is = flag_there_at b s id (flag_at s id) parts is

-- ---- in the form of the loops

-- what a base and a table serve at an ID
abbrev pub at_parts : (Base → SemFlags → ℕ → Option SemFlagParts) → ℕ → SemFlagParts → Option SemFlagParts
at_parts serve id parts = serve parts.base parts.table id

found_if : {A : Type 0} (serve : ℕ → Option SemFlagParts) (slots : List (Option A)) (id : ℕ) (one all : Option SemFlagParts) → ((parts : SemFlagParts) → serve id ≡ Some parts → is_some (entry slots id) ≡ true) →
    serve id ≡ one → true ≡ is_some one → first_served serve (taken_from id (drop id slots)) ≡ all → one ≡ all
found_if serve slots id None all there is some left = absurd (cc some)
found_if serve slots id (Some parts) all there is some left = sym (found_at serve slots id id parts (there parts is) is) ∙ left

-- one that serves is the first, where those before don't
pub first_here : {A : Type 0} (serve : Base → SemFlags → ℕ → Option SemFlagParts) (slots : List (Option A)) (id : ℕ) (old turn new : SemFlagParts) (all : Option SemFlagParts) →
    ((parts : SemFlagParts) → serve old.base old.table id ≡ Some parts → is_some (entry slots id) ≡ true) →
    turn ≡ old → true ≡ is_some (serve turn.base turn.table id) → new ≡ unwrap_or (serve turn.base turn.table id) turn →
    first_served (serve old.base old.table) (taken_from id (drop id slots)) ≡ all →
    record { served : true ≡ is_some all; left : new ≡ unwrap_or all old }
first_here serve slots id old turn new all there same some moved left =
    let here : serve turn.base turn.table id ≡ serve old.base old.table id = ap (at_parts serve id) same in
    let found : serve old.base old.table id ≡ all = found_if (serve old.base old.table) slots id (serve old.base old.table id) all there refl (some ∙ ap is_some here) left in
    record {
      served = some ∙ ap is_some (here ∙ found);
      left = moved ∙ ap (λ one. unwrap_or one turn) (here ∙ found) ∙ ap (unwrap_or all) same;
    }

none_if : (one : Option SemFlagParts) → false ≡ is_some one → one ≡ None
none_if None is = refl
none_if (Some parts) is = absurd (cc is)

-- one that serves nobody changes nothing, and the first of the others is the first of all
pub first_further : {A : Type 0} (serve : Base → SemFlags → ℕ → Option SemFlagParts) (slots : List (Option A)) (id : ℕ) (old turn new : SemFlagParts) (all : Option SemFlagParts) → id < length slots →
    turn ≡ old → false ≡ is_some (serve turn.base turn.table id) → new ≡ unwrap_or (serve turn.base turn.table id) turn →
    first_served (serve old.base old.table) (taken_from id (drop id slots)) ≡ all →
    record { all : first_served (serve old.base old.table) (taken_from (id + 1) (drop (id + 1) slots)) ≡ all; same : new ≡ old }
first_further serve slots id old turn new all inside same none moved left =
    let nobody : serve turn.base turn.table id ≡ None = none_if (serve turn.base turn.table id) none in
    let nobody_first : serve old.base old.table id ≡ None = sym (ap (at_parts serve id) same) ∙ nobody in
    record {
      all =
          ap (λ n. first_served (serve old.base old.table) (taken_from (id + 1) (drop n slots))) (add-one id)
          ∙ sym (passed_at (serve old.base old.table) slots id id inside nobody_first)
          ∙ left;
      same = moved ∙ ap (λ one. unwrap_or one turn) nobody ∙ same;
    }

-- no ID is left that is used
pub first_nowhere : {A : Type 0} (serve : ℕ → Option SemFlagParts) (slots : List (Option A)) (used id : ℕ) (old turn : SemFlagParts) (all : Option SemFlagParts) → AreFreeFrom used slots → used ≤ id →
    turn ≡ old → first_served serve (taken_from id (drop id slots)) ≡ all →
    record { served : false ≡ is_some all; left : turn ≡ unwrap_or all old }
first_nowhere serve slots used id old turn all unused over same left =
    let none : None ≡ all = sym (free_at serve slots id id (λ n from. unused.free n (omega (arith, over, from)))) ∙ left in
    record { served = ap is_some none; left = same ∙ ap (λ one. unwrap_or one old) none }
