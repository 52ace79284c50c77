-- The first mutex that can serve a waiter, looked for ID by ID.
use Rattle.std.proofs.Common.{◌≡◌, ℕ, zero, suc, ◌+◌, ◌<◌, ◌≤◌, true, false, List, [], ◌∷◌, Option, Some, None, refl, ap, sym, ◌∙◌, arith, drop, length, add-one}
use Rattle.std.specs.Option.{is_some, option_or}
use Rattle.std.specs.Prelude.{unwrap_or}
use Rattle.kernel_model.specs.Words.Orders.{entry, taken_from}
use Rattle.kernel_model.specs.Tasks.Base.{Base}
use Rattle.object_model.specs.declared.mutexes.Mutex.{Mutex}
use Rattle.object_model.specs.Mutexes.Tables.{MutexParts, Mutexes, mutex_at, serve_mutex, serve_mutex_at}
use Rattle.object_model.specs.Servings.{first_serving}
use Rattle.mutex_prio.specs.Tables.{AreFreeFrom}

-- ---- one ID

later_if : (serve : ℕ → Option MutexParts) (id : ℕ) (ids : List ℕ) → serve id ≡ None → first_serving serve (id ∷ ids) ≡ first_serving serve ids
unfolding first_serving
later_if serve id ids none = ap (λ one. option_or one (first_serving serve ids)) none

here_if : (serve : ℕ → Option MutexParts) (id : ℕ) (ids : List ℕ) (parts : MutexParts) → serve id ≡ Some parts → first_serving serve (id ∷ ids) ≡ Some parts
unfolding first_serving
here_if serve id ids parts is = ap (λ one. option_or one (first_serving serve ids)) is

slot_passed : (serve : ℕ → Option MutexParts) (id : ℕ) (slot : Option Mutex) (rest : List (Option Mutex)) → serve id ≡ None → first_serving serve (taken_from id (slot ∷ rest)) ≡ first_serving serve (taken_from (id + 1) rest)
slot_passed serve id None rest none = refl
slot_passed serve id (Some k) rest none = later_if serve id (taken_from (id + 1) rest) none

slot_found : (serve : ℕ → Option MutexParts) (id : ℕ) (slot : Option Mutex) (rest : List (Option Mutex)) (parts : MutexParts) → is_some slot ≡ true → serve id ≡ Some parts →
    first_serving serve (taken_from id (slot ∷ rest)) ≡ Some parts
slot_found serve id None rest parts there is = absurd (cc there)
slot_found serve id (Some k) rest parts there is = here_if serve id (taken_from (id + 1) rest) parts is

passed_at : (serve : ℕ → Option MutexParts) (slots : List (Option Mutex)) (place id : ℕ) → place < length slots → serve id ≡ None →
    first_serving serve (taken_from id (drop place slots)) ≡ first_serving serve (taken_from (id + 1) (drop (suc place) slots))
passed_at serve [] place id inside none = absurd (omega arith)
passed_at serve (slot ∷ slots) zero id inside none = slot_passed serve id slot slots none
passed_at serve (slot ∷ slots) (suc place) id inside none = passed_at serve slots place id (omega arith) none

found_at : (serve : ℕ → Option MutexParts) (slots : List (Option Mutex)) (place id : ℕ) (parts : MutexParts) → is_some (entry slots place) ≡ true → serve id ≡ Some parts →
    first_serving serve (taken_from id (drop place slots)) ≡ Some parts
found_at serve [] place id parts there is = absurd (cc there)
found_at serve (slot ∷ slots) zero id parts there is = slot_found serve id slot slots parts there is
found_at serve (slot ∷ slots) (suc place) id parts there is = found_at serve slots place id parts there is

free_at : (serve : ℕ → Option MutexParts) (slots : List (Option Mutex)) (place id : ℕ) → ((n : ℕ) → place ≤ n → entry slots n ≡ None) → first_serving serve (taken_from id (drop place slots)) ≡ None
unfolding first_serving
free_at serve [] zero id free = refl
free_at serve [] (suc place) id free = refl
free_at serve (None ∷ slots) zero id free = free_at serve slots zero (id + 1) (λ n from. free (suc n) (omega arith))
free_at serve (Some k ∷ slots) zero id free = absurd (cc (free zero (omega arith)))
free_at serve (slot ∷ slots) (suc place) id free = free_at serve slots place id (λ n from. free (suc n) (omega (arith, from)))

-- ---- only a mutex that exists serves

there_at : (b : Base) (m : Mutexes) (id : ℕ) (slot : Option Mutex) (parts : MutexParts) → serve_mutex_at b m id slot ≡ Some parts → is_some slot ≡ true
there_at b m id None parts is = absurd (cc is)
there_at b m id (Some k) parts is = refl

pub mutex_there : (b : Base) (m : Mutexes) (id : ℕ) (parts : MutexParts) → serve_mutex b m id ≡ Some parts → is_some (entry m.table id) ≡ true
unfolding serve_mutex
mutex_there b m id parts is = there_at b m id (mutex_at m id) parts is

-- ---- in the form of the loop

found_if : (b : Base) (m : Mutexes) (id : ℕ) (one all : Option MutexParts) → serve_mutex b m id ≡ one → true ≡ is_some one →
    first_serving (serve_mutex b m) (taken_from id (drop id m.table)) ≡ all → one ≡ all
found_if b m id None all is some left = absurd (cc some)
found_if b m id (Some parts) all is some left = sym (found_at (serve_mutex b m) m.table id id parts (mutex_there b m id parts is) is) ∙ left

abbrev at_parts : ℕ → MutexParts → Option MutexParts
at_parts id parts = serve_mutex parts.base parts.table id

-- one that serves is the first, where those before don't
pub first_here : (id : ℕ) (old turn new : MutexParts) (all : Option MutexParts) → turn ≡ old → true ≡ is_some (serve_mutex turn.base turn.table id) → new ≡ unwrap_or (serve_mutex turn.base turn.table id) turn →
    first_serving (serve_mutex old.base old.table) (taken_from id (drop id old.table.table)) ≡ all →
    record { served : true ≡ is_some all; left : new ≡ unwrap_or all old }
first_here id old turn new all same some moved left =
    let here : serve_mutex turn.base turn.table id ≡ serve_mutex old.base old.table id = ap (at_parts id) same in
    let found : serve_mutex old.base old.table id ≡ all = found_if old.base old.table id (serve_mutex old.base old.table id) all refl (some ∙ ap is_some here) left in
    record {
      served = some ∙ ap is_some (here ∙ found);
      left = moved ∙ ap (λ one. unwrap_or one turn) (here ∙ found) ∙ ap (unwrap_or all) same;
    }

none_if : (one : Option MutexParts) → false ≡ is_some one → one ≡ None
none_if None is = refl
none_if (Some parts) is = absurd (cc is)

-- one that serves nobody changes nothing, and the first of the others is the first of all
pub first_further : (id : ℕ) (old turn new : MutexParts) (all : Option MutexParts) → id < length old.table.table →
    turn ≡ old → false ≡ is_some (serve_mutex turn.base turn.table id) → new ≡ unwrap_or (serve_mutex turn.base turn.table id) turn →
    first_serving (serve_mutex old.base old.table) (taken_from id (drop id old.table.table)) ≡ all →
    record { all : first_serving (serve_mutex old.base old.table) (taken_from (id + 1) (drop (id + 1) old.table.table)) ≡ all; same : new ≡ old }
first_further id old turn new all inside same none moved left =
    let nobody : serve_mutex turn.base turn.table id ≡ None = none_if (serve_mutex turn.base turn.table id) none in
    let nobody_first : serve_mutex old.base old.table id ≡ None = sym (ap (at_parts id) same) ∙ nobody in
    record {
      all =
          ap (λ n. first_serving (serve_mutex old.base old.table) (taken_from (id + 1) (drop n old.table.table))) (add-one id)
          ∙ sym (passed_at (serve_mutex old.base old.table) old.table.table id id inside nobody_first)
          ∙ left;
      same = moved ∙ ap (λ one. unwrap_or one turn) nobody ∙ same;
    }

-- no ID is left that is used
pub first_nowhere : (used id : ℕ) (old turn : MutexParts) (all : Option MutexParts) → AreFreeFrom used old.table.table → used ≤ id →
    turn ≡ old → first_serving (serve_mutex old.base old.table) (taken_from id (drop id old.table.table)) ≡ all →
    record { served : false ≡ is_some all; left : turn ≡ unwrap_or all old }
first_nowhere used id old turn all unused over same left =
    let none : None ≡ all = sym (free_at (serve_mutex old.base old.table) old.table.table id id (λ n from. unused.free n (omega (arith, over, from)))) ∙ left in
    record { served = ap is_some none; left = same ∙ ap (λ one. unwrap_or one old) none }
