-- A task that owns no mutex has the priority of its base, and no serving of another task makes it own one.
use Rattle.std.proofs.Common.{◌≡◌, ℕ, suc, zero, ◌≤◌, Bool, true, false, not, ◌&&◌, ◌||◌, List, [], ◌∷◌, Option, Some, None, refl, cond, ◌∙◌, ap, sym, subst, pos, arith}
use Rattle.std.specs.Prelude.{drop, filter, fold}
use Rattle.std.specs.Bool.{◌==◌}
use Rattle.std.specs.Option.{option_map}
use Rattle.std.proofs.lemmas.Bool.Decides.{nat_tests}
use Rattle.kernel_model.specs.Words.Checks.{plain}
use Rattle.kernel_model.specs.Words.Orders.{taken_from, to_back, without}
use Rattle.kernel_model.specs.Tasks.Base.{Base, base_of, is_ready, is_waiting, release, task_at, waits_for}
use Rattle.kernel_lemmas.proofs.Releases.{ready_idle}
use Rattle.kernel_lemmas.proofs.Tables.{entry_each, entry_same}
use Rattle.object_model.specs.declared.mutexes.Mutex.{Mutex}
use Rattle.object_model.specs.Mutexes.Tables.{Mutexes, MutexParts, awaited, freed, locked, mutex_at, mutex_object, mutex_waiters, owner_in, owner_of, serve_mutex, serve_mutex_at, serve_mutex_of, serve_mutexes, with_mutex}
use Rattle.object_model.specs.Mutexes.Priority.{capped, chain_has, current_of, heir_in, is_alive, lends_to, lowered, next_in_chain, own}
use Rattle.call_lemmas.proofs.Serving.{waits_for_waits}
use Rattle.machine_model.specs.States.Objects.{Parts, first_serving, kinds, serve_object, with_devices, with_mails, with_mutexes, with_pools, with_sem_flags}
use Rattle.machine_lemmas.proofs.Finding.{first_from, first_waits}
use Rattle.mutex_laws.proofs.Unowned.{either_way, least_same}

-- no mutex has the task as its owner
abbrev pub OwnsNone : ℕ → Mutexes → Type 0
OwnsNone t m = (id : ℕ) → owner_of m id ≡ t → ⊥

-- ---- the priority of a task that owns none

passed_if : (id : ℕ) (rest : List ℕ) (test : Bool) → (test ≡ true → ⊥) → cond test (id ∷ rest) rest ≡ rest
passed_if id rest true never = absurd (never refl)
passed_if id rest false never = refl

same_number : (a b : ℕ) → (a == b) ≡ true → a ≡ b
same_number a b is = grind (arith, nat_tests, is)

-- it holds none
held_none : (m : Mutexes) (t : ℕ) (ids : List ℕ) → OwnsNone t m → filter (λ id. owner_of m id == t) ids ≡ []
held_none m t [] none = refl
held_none m t (id ∷ ids) none = passed_if id _ (owner_of m id == t) (λ is. none id (same_number (owner_of m id) t is)) ∙ held_none m t ids none

-- the heir of a mutex is its owner or nobody
pub heir_if : (inherits : Bool) (owner t : ℕ) → 1 ≤ t → (owner ≡ t → ⊥) → cond inherits owner 0 ≡ t → ⊥
heir_if true owner t one none is = none is
heir_if false owner t one none is = omega (arith, one, is)

no_heir : (o : Option Mutex) (t : ℕ) → 1 ≤ t → (owner_in o ≡ t → ⊥) → heir_in o ≡ t → ⊥
no_heir None t one none is = none is
no_heir (Some k) t one none is = heir_if k.inherits k.owner t one none is

-- the second of two tests
pub second : (first second : Bool) → (first && second) ≡ true → second ≡ true
second true later is = is
second false later is = absurd (cc is)

same_unless : (u t : ℕ) (same goes later : Bool) → (u == t) ≡ same → (same || (goes && later)) ≡ true → (later ≡ true → ⊥) → u ≡ t
same_unless u t true goes later at is never = same_number u t at
same_unless u t false goes later at is never = absurd (never (second goes later is))

-- where no chain goes on with a task, only its own has it
pub chain_alone : (next : ℕ → ℕ) (t u n : ℕ) → ((v : ℕ) → next v ≡ t → ⊥) → chain_has next t n u ≡ true → u ≡ t
unfolding chain_has
chain_alone next t u zero none is = same_number u t is
chain_alone next t u (suc n) none is =
    same_unless u t (u == t) (not (next u == 0)) (chain_has next t n (next u)) refl is (λ later. none u (chain_alone next t (next u) n none later))

-- a task that owns no mutex has the priority of its base
pub current_owning_none : (b : Base) (m : Mutexes) (t : ℕ) → OwnsNone t m → 1 ≤ t → current_of b m t ≡ base_of b t
unfolding current_of
current_owning_none b m t none one =
    let alone : own b m t ≡ base_of b t = ap (fold (capped m) (base_of b t)) (held_none m t m.locks none) in
    let lent : (u : ℕ) → lends_to b m t u ≡ true → own b m u ≡ own b m t = λ u lends. ap (own b m)
    (chain_alone (next_in_chain b m) t u 255 (λ v. no_heir (mutex_at m (awaited b v)) t one (none (awaited b v))) (second (is_alive (task_at b u)) (chain_has (next_in_chain b m) t 255 u) lends)) in
    either_way (fold (lowered b m t) (own b m t) (taken_from 1 (drop 1 b.tasks))) (base_of b t) (is_alive (task_at b t))
    (least_same b m t (own b m t) (taken_from 1 (drop 1 b.tasks)) lent ∙ alone)

-- ---- what serving does to it

-- a task that is ready isn't one that waits
pub ready_apart : (b : Base) (t v object : ℕ) → is_ready b t ≡ true → waits_for b object v ≡ true → v ≡ t → ⊥
ready_apart b t v object ready waits same =
    let idle : is_waiting b t ≡ false = ready_idle (task_at b t) ready in
    let busy : is_waiting b t ≡ true = ap (is_waiting b) (sym same) ∙ waits_for_waits b v object waits in
    cc (idle, busy)

-- what a serving of another task leaves of the mutexes, and the end of another one's holding
pub record Passes (t : ℕ) (Q : Mutexes → Type 0) : Type 0 where
  pub locks : (m : Mutexes) (id : ℕ) (k : Mutex) (u : ℕ) → mutex_at m id ≡ Some k → k.owner ≡ 0 → (u ≡ t → ⊥) → Q m → Q (locked m id k u)
  pub frees : (m : Mutexes) (id u : ℕ) → owner_of m id ≡ u → (u ≡ t → ⊥) → Q m → Q (freed m id)

-- a slot that isn't this task's is written
pub written_none : (m : Mutexes) (t id : ℕ) (slot : Option Mutex) (locks : List ℕ) → OwnsNone t m → 1 ≤ t → (owner_in slot ≡ t → ⊥) →
    OwnsNone t (record (with_mutex m id slot) { locks = locks })
written_none m t id slot locks none one apart =
    entry_each (λ i o. owner_in o ≡ t → ⊥) m.table id slot (entry_same (λ o. owner_in o ≡ t → ⊥) m.table id slot apart (λ is. omega (arith, one, is))) (λ j differs. none j)

-- a mutex that is freed has no owner
pub freed_owner : (o : Option Mutex) (t : ℕ) → 1 ≤ t → owner_in (option_map {T = Mutex} (λ k. record k { owner = 0 }) o) ≡ t → ⊥
freed_owner None t one is = omega (arith, one, is)
freed_owner (Some k) t one is = omega (arith, one, is)

-- a task that owns none owns none then
pub none_passes : (t : ℕ) → 1 ≤ t → Passes t (OwnsNone t)
none_passes t one = record {
  locks = λ m id k u at free apart none. written_none m t id (Some (record k { owner = u })) (to_back id m.locks) none one apart;
  frees = λ m id u is apart none. written_none m t id (option_map {T = Mutex} (λ k. record k { owner = 0 }) (mutex_at m id))
      (without id m.locks) none one (freed_owner (mutex_at m id) t one);
}

-- ---- the serving of a mutex

of_waiter : (Q : Mutexes → Type 0) (t : ℕ) (b : Base) (m : Mutexes) (id : ℕ) (k : Mutex) (parts : MutexParts) (waiters : List ℕ) → Passes t Q → is_ready b t ≡ true →
    mutex_at m id ≡ Some k → k.owner ≡ 0 →
    mutex_waiters b k id ≡ waiters → serve_mutex_of b m id k waiters ≡ Some parts → Q m → Q parts.table
of_waiter Q t b m id k parts [] passes ready at free is served has = absurd (cc served)
of_waiter Q t b m id k parts (u ∷ rest) passes ready at free is served has =
    let e : record { base = release b u (plain (pos 0)); table = locked m id k u } ≡ parts = cc served in
    subst (λ (left : MutexParts). Q left.table) e
    (passes.locks m id k u at free (ready_apart b t u (mutex_object id) ready (first_waits k.order b (mutex_object id) u rest is)) has)

by_owner : (Q : Mutexes → Type 0) (parts : MutexParts) (k : Mutex) (free : Bool) (served : Option MutexParts) → (k.owner == 0) ≡ free →
    cond free served None ≡ Some parts → (k.owner ≡ 0 → served ≡ Some parts → Q parts.table) → Q parts.table
by_owner Q parts k true served at is by = by (same_number k.owner 0 at) is
by_owner Q parts k false served at is by = absurd (cc is)

of_slot : (Q : Mutexes → Type 0) (t : ℕ) (b : Base) (m : Mutexes) (id : ℕ) (parts : MutexParts) (slot : Option Mutex) → Passes t Q → is_ready b t ≡ true →
    mutex_at m id ≡ slot → serve_mutex_at b m id slot ≡ Some parts → Q m → Q parts.table
of_slot Q t b m id parts None passes ready at served has = absurd (cc served)
of_slot Q t b m id parts (Some k) passes ready at served has =
    by_owner Q parts k (k.owner == 0) (serve_mutex_of b m id k (mutex_waiters b k id)) refl served
    (λ free is. of_waiter Q t b m id k parts (mutex_waiters b k id) passes ready at free refl is has)

of_mutex : (Q : Mutexes → Type 0) (t : ℕ) (b : Base) (m : Mutexes) (id : ℕ) (parts : MutexParts) → Passes t Q → is_ready b t ≡ true → serve_mutex b m id ≡ Some parts →
    Q m → Q parts.table
unfolding serve_mutex
of_mutex Q t b m id parts passes ready served has = of_slot Q t b m id parts (mutex_at m id) passes ready refl served has

mutexes_pass : (Q : Mutexes → Type 0) (t : ℕ) (b : Base) (m : Mutexes) (parts : MutexParts) → Passes t Q → is_ready b t ≡ true → serve_mutexes b m ≡ Some parts → Q m →
    Q parts.table
unfolding serve_mutexes
mutexes_pass Q t b m parts passes ready is has = let from = first_from (serve_mutex b m) parts (drop 1 m.table) is in of_mutex Q t b m from.id parts passes ready from.at has

-- ---- any serving

mapped : {A : Type 0} → (P : Parts → Type 0) (q : Parts) (put : A → Parts) (served : Option A) → option_map put served ≡ Some q →
    ((left : A) → served ≡ Some left → P (put left)) → P q
mapped P q put None is serving = absurd (cc is)
mapped P q put (Some left) is serving = let e : put left ≡ q = cc is in subst P e (serving left refl)

Each : (Parts → Type 0) → List (Parts → Option Parts) → Parts → Parts → Type 0
Each P [] p q = Unit {0}
Each P (kind ∷ later) p q = (kind p ≡ Some q → P q) × Each P later p q

first_of_two : (P : Parts → Type 0) (p q : Parts) (here : Option Parts) (later : List (Parts → Option Parts)) →
    elim here as (λ _. Option Parts) [ Some served ↦ Some served | None ↦ first_serving later p ] ≡ Some q →
    (here ≡ Some q → P q) → (first_serving later p ≡ Some q → P q) → P q
first_of_two P p q (Some served) later is by rest = by is
first_of_two P p q None later is by rest = rest is

first_serves : (P : Parts → Type 0) (ks : List (Parts → Option Parts)) (p q : Parts) → first_serving ks p ≡ Some q → Each P ks p q → P q
unfolding first_serving Each
first_serves P [] p q is each = absurd (cc is)
first_serves P (kind ∷ later) p q is each = first_of_two P p q (kind p) later is each.0 (λ rest. first_serves P later p q rest each.1)

-- what passes on the mutexes through the serving of another task passes through any, where the task is ready
pub served_passes : (Q : Mutexes → Type 0) (t : ℕ) (p q : Parts) → Passes t Q → is_ready p.base t ≡ true → serve_object p ≡ Some q → Q p.objects.mutexes → Q q.objects.mutexes
unfolding serve_object Each
served_passes Q t p q passes ready is has =
    let P : Parts → Type 0 = λ left. Q left.objects.mutexes in
    first_serves P kinds p q is (
      λ found. mapped P q (with_sem_flags p) _ found (λ left at. has),
      (
        λ found. mapped P q (with_mails p) _ found (λ left at. has),
        (
          λ found. mapped P q (with_mutexes p) _ found (λ left at. mutexes_pass Q t p.base p.objects.mutexes left passes ready at has),
          (
            λ found. mapped P q (with_mails p) _ found (λ left at. has),
            (
              λ found. mapped P q (with_pools p) _ found (λ left at. has),
              (
                λ found. mapped P q (with_pools p) _ found (λ left at. has),
                (
                  λ found. mapped P q (with_devices p) _ found (λ left at. has),
                  (
                    λ found. mapped P q (with_devices p) _ found (λ left at. has),
                    (
                      λ found. mapped P q (with_devices p) _ found (λ left at. has),
                      (
                        λ found. mapped P q (with_devices p) _ found (λ left at. has),
                        tt,
                      ),
                    ),
                  ),
                ),
              ),
            ),
          ),
        ),
      ),
    )
