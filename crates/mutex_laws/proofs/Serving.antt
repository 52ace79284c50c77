-- What serving a mutex does, and which one is served.
use Rattle.std.proofs.Common.{◌≡◌, ℕ, suc, zero, ◌+◌, ◌≤◌, ◌<◌, ◌⊎◌, inl, inr, Bool, true, false, List, [], ◌∷◌, ◌++◌, Option, Some, None, refl, cond, ◌∙◌, ap, sym, subst, pos, arith}
use Rattle.std.specs.Prelude.{drop}
use Rattle.std.specs.Bool.{◌==◌}
use Rattle.std.specs.Option.{option_or}
use Rattle.std.proofs.lemmas.Bool.Decides.{nat_tests}
use Rattle.tk_types.specs.declared.task.Order.{Order}
use Rattle.kernel_model.specs.LawWords.Once.{times}
use Rattle.kernel_model.specs.Words.Checks.{plain}
use Rattle.kernel_model.specs.Words.Orders.{entry, taken_from, without}
use Rattle.kernel_model.specs.Tasks.Base.{Base, queue, release, waits_for}
use Rattle.call_lemmas.proofs.Serving.{queue_absent, waits_for_waits}
use Rattle.kernel_lemmas.proofs.Filters.{filter_back}
use Rattle.kernel_lemmas.proofs.Releases.{release_ends_one}
use Rattle.kernel_lemmas.proofs.Tables.{entry_other, entry_there, itself}
use Rattle.object_model.specs.declared.mutexes.Mutex.{Mutex}
use Rattle.object_model.specs.Servings.{first_serving}
use Rattle.object_model.specs.Mutexes.Tables.{MutexParts, Mutexes, held, locked, mutex_at, mutex_object, mutex_waiters, owner_in, owner_of, serve_mutex, serve_mutex_at, serve_mutex_of, serve_mutexes}
use Rattle.mutex_laws.specs.Owners.{IsFirstServed, IsServed}

-- ---- who is served

first_stands : (t : ℕ) (rest : List ℕ) → times t (t ∷ rest) ≡ 0 → ⊥
first_stands t rest none = let one : cond (t == t) 1 0 + times t rest ≡ 1 + times t rest = ap (λ (test : Bool). cond test 1 0 + times t rest) (itself t) in omega (arith, none, one)

by_waits : (order : Order) (b : Base) (t object : ℕ) (rest : List ℕ) (waits : Bool) → waits_for b object t ≡ waits → queue order b object ≡ t ∷ rest → waits_for b object t ≡ true
by_waits order b t object rest true is stands = is
by_waits order b t object rest false is stands = absurd (first_stands t rest (ap (times t) (sym stands) ∙ queue_absent order b t object is))

-- the first of a queue waits
pub first_waits : (order : Order) (b : Base) (t object : ℕ) (rest : List ℕ) → queue order b object ≡ t ∷ rest → waits_for b object t ≡ true
first_waits order b t object rest stands = by_waits order b t object rest (waits_for b object t) refl stands

-- ---- owners

pub row_locked : (m : Mutexes) (id t : ℕ) (k : Mutex) → mutex_at m id ≡ Some k → mutex_at (locked m id k t) id ≡ Some (record k { owner = t })
row_locked m id t k at = entry_there m.table id k (Some (record k { owner = t })) at

-- a mutex that is locked is the latest that its owner holds
pub held_locked : (m : Mutexes) (id t : ℕ) (k : Mutex) → mutex_at m id ≡ Some k → held (locked m id k t) t ≡ without id (held m t) ++ id ∷ []
held_locked m id t k at =
    filter_back (λ other. owner_of m other == t) (λ other. owner_of (locked m id k t) other == t) id m.locks
    (λ other apart. ap (λ o. owner_in o == t) (entry_other m.table id other (Some (record k { owner = t })) apart))
    (ap (λ o. owner_in o == t) (row_locked m id t k at) ∙ itself t)

-- ---- what serving does

served_of : (b : Base) (m : Mutexes) (id : ℕ) (k : Mutex) (waiters : List ℕ) (parts : MutexParts) → mutex_at m id ≡ Some k → k.owner ≡ 0 → mutex_waiters b k id ≡ waiters → serve_mutex_of b m id k waiters ≡ Some parts → IsServed b m id parts
served_of b m id k [] parts at free waits is = absurd (cc is)
served_of b m id k (t ∷ rest) parts at free waits is =
    let left : MutexParts = record { base = release b t (plain (pos 0)); table = locked m id k t } in
    let e : left ≡ parts = cc is in
    subst (IsServed b m id) e (record {
      row = k;
      there = at;
      free = ap owner_in at ∙ free;
      first = t;
      behind = rest;
      waited = waits;
      ended = refl;
      fewer = release_ends_one b t (plain (pos 0)) (waits_for_waits b t (mutex_object id) (first_waits k.order b t (mutex_object id) rest waits));
      handed = refl;
      owns = ap owner_in (row_locked m id t k at);
      holds = held_locked m id t k at;
      others = λ other apart. entry_other m.table id other (Some (record k { owner = t })) apart;
    })

served_if : (b : Base) (m : Mutexes) (id : ℕ) (k : Mutex) (parts : MutexParts) (free : Bool) → mutex_at m id ≡ Some k → (k.owner == 0) ≡ free → cond free (serve_mutex_of b m id k (mutex_waiters b k id)) None ≡ Some parts → IsServed b m id parts
served_if b m id k parts true at free is = served_of b m id k (mutex_waiters b k id) parts at (grind (arith, nat_tests, free)) refl is
served_if b m id k parts false at free is = absurd (cc is)

served_at : (b : Base) (m : Mutexes) (id : ℕ) (slot : Option Mutex) (parts : MutexParts) → mutex_at m id ≡ slot → serve_mutex_at b m id slot ≡ Some parts → IsServed b m id parts
served_at b m id None parts at is = absurd (cc is)
served_at b m id (Some k) parts at is = served_if b m id k parts (k.owner == 0) at refl is

pub serving_is : (b : Base) (m : Mutexes) (id : ℕ) (parts : MutexParts) → serve_mutex b m id ≡ Some parts → IsServed b m id parts
unfolding serve_mutex
serving_is b m id parts is = served_at b m id (mutex_at m id) parts refl is

-- ---- where nobody is served

none_if : (served : Option MutexParts) (free : Bool) → free ≡ false → cond free served None ≡ None
none_if served true owned = absurd (cc owned)
none_if served false owned = refl

owned_at : (b : Base) (m : Mutexes) (id : ℕ) (slot : Option Mutex) → (owner_in slot ≡ 0 → ⊥) → serve_mutex_at b m id slot ≡ None
owned_at b m id None owned = refl
owned_at b m id (Some k) owned = none_if (serve_mutex_of b m id k (mutex_waiters b k id)) (k.owner == 0) (grind (arith, nat_tests, owned))

-- a mutex that is owned serves nobody
pub owned_none : (b : Base) (m : Mutexes) (id : ℕ) → (owner_of m id ≡ 0 → ⊥) → serve_mutex b m id ≡ None
unfolding serve_mutex
owned_none b m id owned = owned_at b m id (mutex_at m id) owned

-- one that is free, and for which a task waits, serves
pub free_serves : (b : Base) (m : Mutexes) (id t : ℕ) (k : Mutex) (rest : List ℕ) → mutex_at m id ≡ Some k → k.owner ≡ 0 → mutex_waiters b k id ≡ t ∷ rest →
    serve_mutex b m id ≡ Some (record { base = release b t (plain (pos 0)); table = locked m id k t })
unfolding serve_mutex
free_serves b m id t k rest at free waits =
    let test : (k.owner == 0) ≡ true = grind (arith, nat_tests, free) in
    ap (serve_mutex_at b m id) at
    ∙ ap (λ (test : Bool). cond test (serve_mutex_of b m id k (mutex_waiters b k id)) None) test
    ∙ ap (serve_mutex_of b m id k) waits

-- ---- the first by ID

-- the first from an ID on at which one can be served
record IsFirst {A : Type 0} (serve : ℕ → Option A) (from : ℕ) (found : A) : Type 0 where
  id : ℕ
  low : from ≤ id
  serves : serve id ≡ Some found
  none_before : (other : ℕ) → from ≤ other → other < id → serve other ≡ None

or_case : {A : Type 0} → (first later : Option A) (found : A) → option_or first later ≡ Some found → (first ≡ Some found) ⊎ ((first ≡ None) × (later ≡ Some found))
or_case None later found is = inr (refl, is)
or_case (Some x) later found is = inl is

or_none : {A : Type 0} → (first later : Option A) → option_or first later ≡ None → (first ≡ None) × (later ≡ None)
or_none None later is = (refl, is)
or_none (Some x) later is = absurd (cc is)

from_or_later : {A : Type 0} → (serve : ℕ → Option A) (from id other : ℕ) (same : Bool) → (from == other) ≡ same → serve from ≡ None → ((v : ℕ) → from + 1 ≤ v → v < id → serve v ≡ None) → from ≤ other → other < id → serve other ≡ None
from_or_later serve from id other true at here later low high = let e : from ≡ other = grind (arith, nat_tests, at) in ap serve (sym e) ∙ here
from_or_later serve from id other false at here later low high = later other (above (λ e. grind (arith, nat_tests, at, e))) high
  where
    above : (from ≡ other → ⊥) → from + 1 ≤ other
    above apart = omega (arith, apart, low)

one_before : {A : Type 0} → (serve : ℕ → Option A) (from : ℕ) (found : A) → serve from ≡ None → IsFirst serve (from + 1) found → IsFirst serve from found
one_before serve from found here first = record {
  id = first.id;
  low = let low = first.low in omega (arith, low);
  serves = first.serves;
  none_before = λ other low high. from_or_later serve from first.id other (from == other) refl here first.none_before low high;
}

at_first : (n : ℕ) → n + 0 ≡ n
at_first n = omega arith

one_on : (n place : ℕ) → n + 1 + place ≡ n + suc place
one_on n place = omega arith

-- free slots serve nobody
abbrev ServeNone : {A B : Type 0} → (ℕ → Option A) → ℕ → List (Option B) → Type 0
ServeNone serve from slots = (place : ℕ) → entry slots place ≡ None → serve (from + place) ≡ None

behind_first : {A B : Type 0} → (serve : ℕ → Option A) (from : ℕ) (slot : Option B) (slots : List (Option B)) → ServeNone serve from (slot ∷ slots) → ServeNone serve (from + 1) slots
behind_first serve from slot slots empty = λ place none. ap serve (one_on from place) ∙ empty (suc place) none

by_first : {A : Type 0} → (serve : ℕ → Option A) (from : ℕ) (found : A) (later : Option A) → (later ≡ Some found → IsFirst serve (from + 1) found) → (serve from ≡ Some found) ⊎ ((serve from ≡ None) × (later ≡ Some found)) → IsFirst serve from found
by_first serve from found later rest (inl here) = record { id = from; low = omega arith; serves = here; none_before = λ other low high. absurd (omega (arith, low, high)) }
by_first serve from found later rest (inr behind) = one_before serve from found behind.0 (rest behind.1)

-- where free slots serve nobody, the first that serves is found
first_by : {A B : Type 0} → (serve : ℕ → Option A) (from : ℕ) (slots : List (Option B)) (found : A) → ServeNone serve from slots → first_serving serve (taken_from from slots) ≡ Some found → IsFirst serve from found
unfolding first_serving
first_by serve from [] found empty is = absurd (cc is)
first_by serve from (None ∷ slots) found empty is =
    one_before serve from found (ap serve (sym (at_first from)) ∙ empty 0 refl) (first_by serve (from + 1) slots found (behind_first serve from None slots empty) is)
first_by serve from (Some k ∷ slots) found empty is =
    by_first serve from found (first_serving serve (taken_from (from + 1) slots)) (first_by serve (from + 1) slots found (behind_first serve from (Some k) slots empty)) (or_case (serve from) (first_serving serve (taken_from (from + 1) slots)) found is)

-- and where none is found, none serves
none_by : {A B : Type 0} → (serve : ℕ → Option A) (from place : ℕ) (slots : List (Option B)) → ServeNone serve from slots → first_serving serve (taken_from from slots) ≡ None → serve (from + place) ≡ None
unfolding first_serving
none_by serve from place [] empty is = empty place refl
none_by serve from zero (None ∷ slots) empty is = empty zero refl
none_by serve from (suc place) (None ∷ slots) empty is = ap serve (sym (one_on from place)) ∙ none_by serve (from + 1) place slots (behind_first serve from None slots empty) is
none_by serve from zero (Some k ∷ slots) empty is = ap serve (at_first from) ∙ (or_none (serve from) (first_serving serve (taken_from (from + 1) slots)) is).0
none_by serve from (suc place) (Some k ∷ slots) empty is =
    ap serve (sym (one_on from place)) ∙ none_by serve (from + 1) place slots (behind_first serve from (Some k) slots empty) (or_none (serve from) (first_serving serve (taken_from (from + 1) slots)) is).1

free_slot : (b : Base) (m : Mutexes) (id : ℕ) → mutex_at m id ≡ None → serve_mutex b m id ≡ None
unfolding serve_mutex
free_slot b m id none = ap (serve_mutex_at b m id) none

behind_zero : (b : Base) (m : Mutexes) (slots : List (Option Mutex)) → m.table ≡ slots → (place : ℕ) → entry (drop 1 slots) place ≡ None → serve_mutex b m (1 + place) ≡ None
behind_zero b m [] is place none = free_slot b m (1 + place) (ap (λ table. entry table (1 + place)) is)
behind_zero b m (slot ∷ slots) is place none = free_slot b m (1 + place) (ap (λ table. entry table (1 + place)) is ∙ ap (entry (slot ∷ slots)) (next place) ∙ none)
  where
    next : (place : ℕ) → 1 + place ≡ suc place
    next place = omega arith

first_mutex_of : (b : Base) (m : Mutexes) (parts : MutexParts) → IsFirst (serve_mutex b m) 1 parts → IsFirstServed b m parts
first_mutex_of b m parts first = record { id = first.id; one = first.low; serves = first.serves; none_before = first.none_before }

-- the first mutex by ID that can serve a waiter serves one
pub first_mutex : (b : Base) (m : Mutexes) (parts : MutexParts) → serve_mutexes b m ≡ Some parts → IsFirstServed b m parts
unfolding serve_mutexes
first_mutex b m parts is = first_mutex_of b m parts (first_by (serve_mutex b m) 1 (drop 1 m.table) parts (behind_zero b m m.table refl) is)

-- and where none does, none can
pub no_mutex : (b : Base) (m : Mutexes) (id : ℕ) → serve_mutexes b m ≡ None → 1 ≤ id → serve_mutex b m id ≡ None
unfolding serve_mutexes
no_mutex b m zero is one = absurd (omega (arith, one))
no_mutex b m (suc place) is one = ap (serve_mutex b m) (next place) ∙ none_by (serve_mutex b m) 1 place (drop 1 m.table) (behind_zero b m m.table refl) is
  where
    next : (place : ℕ) → suc place ≡ 1 + place
    next place = omega arith
