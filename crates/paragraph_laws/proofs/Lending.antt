-- Current priorities once a task has joined the waiters of a mutex that nobody owns, and once it owns that: all others' are as before.
use Rattle.std.proofs.Common.{◌≡◌, ℕ, zero, suc, ◌+◌, ◌≤◌, min, Bool, true, false, not, cond, ◌&&◌, ◌||◌, List, [], ◌∷◌, Option, Some, None, refl, ◌∙◌, ap, sym, arith}
use Rattle.std.specs.Bool.{◌==◌}
use Rattle.std.specs.Prelude.{drop, filter, fold}
use Rattle.std.proofs.lemmas.Bool.Decides.{nat_tests}
use Rattle.tk_types.specs.declared.task.Order.{Order}
use Rattle.tk_types.specs.declared.task.Order.TheVariants.{Fifo, Priority}
use Rattle.tk_types.specs.declared.task.Task.{Task}
use Rattle.kernel_model.specs.LawWords.Once.{times}
use Rattle.kernel_model.specs.Tasks.Base.{Base, base_of, current, current_in, queue, set_current, task_at, waits_for}
use Rattle.kernel_model.specs.Tasks.Waits.{HavePlaces}
use Rattle.kernel_model.specs.Words.Orders.{entry, taken_from}
use Rattle.kernel_lemmas.proofs.Filters.{filter_absent, filter_gone}
use Rattle.kernel_lemmas.proofs.ReadyLists.{times_filter_is}
use Rattle.kernel_lemmas.proofs.Sorting.{times_sort}
use Rattle.kernel_lemmas.proofs.Tables.{entry_cases, entry_each, entry_other, entry_there}
use Rattle.object_model.specs.declared.mutexes.Mutex.{Mutex}
use Rattle.object_model.specs.Mutexes.Priority.{capped, chain_has, current_of, heir_in, is_alive, lends_to, lowered, next_in_chain, own, refresh, resettle, under}
use Rattle.object_model.specs.Mutexes.Tables.{Mutexes, awaited, ceiling_in, ceiling_of, held, locked, mutex_at, mutex_object, mutex_waiters, owner_in, owner_of, serve_mutex, serve_mutex_at, serve_mutex_of}
use Rattle.mutex_laws.proofs.Alike.{IsLike, chain_alike, current_alike, set_current_like}
use Rattle.mutex_laws.proofs.Ceilings.{awaits_waits}

-- ---- what lends the same

-- for one task: those that lend to it, and what each of them has by itself, are the same
pub record LendsAlike (b c : Base) (m n : Mutexes) (t : ℕ) : Type 0 where
  pub lives : (u : ℕ) → is_alive (task_at c u) ≡ is_alive (task_at b u)
  pub base : base_of c t ≡ base_of b t
  pub nexts : (u : ℕ) → next_in_chain c n u ≡ next_in_chain b m u
  pub itself : own c n t ≡ own b m t
  pub others : (u : ℕ) → lends_to b m t u ≡ true → own c n u ≡ own b m u
  pub ids : taken_from 1 (drop 1 c.tasks) ≡ taken_from 1 (drop 1 b.tasks)

lends_same : (b c : Base) (m n : Mutexes) (t u : ℕ) → LendsAlike b c m n t → lends_to c n t u ≡ lends_to b m t u
lends_same b c m n t u is =
    ap (λ alive. alive && chain_has (next_in_chain c n) t 255 u) (is.lives u)
    ∙ ap (λ reaches. is_alive (task_at b u) && reaches) (chain_alike (next_in_chain c n) (next_in_chain b m) t 255 u is.nexts)

lowered_if : (one other least : ℕ) (lends : Bool) → (lends ≡ true → one ≡ other) → cond lends (min one least) least ≡ cond lends (min other least) least
lowered_if one other least true same = ap (λ it. min it least) (same refl)
lowered_if one other least false same = refl

least_alike : (b c : Base) (m n : Mutexes) (t least : ℕ) (ids : List ℕ) → LendsAlike b c m n t → fold (lowered c n t) least ids ≡ fold (lowered b m t) least ids
least_alike b c m n t least [] is = refl
least_alike b c m n t least (u ∷ ids) is =
    ap (λ lends. fold (lowered c n t) (cond lends (min (own c n u) least) least) ids) (lends_same b c m n t u is)
    ∙ ap (λ lower. fold (lowered c n t) lower ids) (lowered_if (own c n u) (own b m u) least (lends_to b m t u) (is.others u))
    ∙ least_alike b c m n t (lowered b m t least u) ids is

-- so is its current priority by definition
pub current_lent : (b c : Base) (m n : Mutexes) (t : ℕ) → LendsAlike b c m n t → current_of c n t ≡ current_of b m t
unfolding current_of
current_lent b c m n t is =
    ap (λ alive. cond alive (fold (lowered c n t) (own c n t) (taken_from 1 (drop 1 c.tasks))) (base_of c t)) (is.lives t)
    ∙ ap (λ base. cond (is_alive (task_at b t)) (fold (lowered c n t) (own c n t) (taken_from 1 (drop 1 c.tasks))) base) is.base
    ∙ ap (λ ids. cond (is_alive (task_at b t)) (fold (lowered c n t) (own c n t) ids) (base_of b t)) is.ids
    ∙ ap (λ least. cond (is_alive (task_at b t)) (fold (lowered c n t) least (taken_from 1 (drop 1 b.tasks))) (base_of b t)) is.itself
    ∙ ap (λ least. cond (is_alive (task_at b t)) least (base_of b t)) (least_alike b c m n t (own b m t) (taken_from 1 (drop 1 b.tasks)) is)

-- ---- nobody waits for a mutex that serves nobody

none_if : (b : Base) (m : Mutexes) (id : ℕ) (k : Mutex) (waiters : List ℕ) (free : Bool) → free ≡ true → cond free (serve_mutex_of b m id k waiters) None ≡ None → waiters ≡ []
none_if b m id k [] free is none = refl
none_if b m id k (v ∷ rest) true is none = absurd (cc none)
none_if b m id k (v ∷ rest) false is none = absurd (cc is)

-- a mutex that nobody owns and that serves nobody has no waiter
pub no_waiters : (b : Base) (m : Mutexes) (id : ℕ) (k : Mutex) → mutex_at m id ≡ Some k → k.owner ≡ 0 → serve_mutex b m id ≡ None → mutex_waiters b k id ≡ []
unfolding serve_mutex
no_waiters b m id k at free none =
    none_if b m id k (mutex_waiters b k id) (k.owner == 0) (grind (arith, nat_tests, free)) (ap (serve_mutex_at b m id) (sym at) ∙ none)

stands_in : (order : Order) (b : Base) (object v : ℕ) → HavePlaces b → waits_for b object v ≡ true → 1 ≤ times v (queue order b object)
stands_in Fifo b object v places waits =
    let all = times_filter_is (waits_for b object) v b.since in
    let here = ap (λ test. cond test (times v b.since) 0) waits in
    let stands = places.stands v object waits in
    omega (arith, all, here, stands)
stands_in Priority b object v places waits =
    let sorted = times_sort (current b) v (filter (waits_for b object) b.order) in
    let all = times_filter_is (waits_for b object) v b.order in
    let here = ap (λ test. cond test (times v b.order) 0) waits in
    let stands = places.ranks v object waits in
    omega (arith, sorted, all, here, stands)

pub nobody_awaits : (b : Base) (m : Mutexes) (id : ℕ) (k : Mutex) → mutex_at m id ≡ Some k → k.owner ≡ 0 → serve_mutex b m id ≡ None → HavePlaces b → 1 ≤ id → (v : ℕ) → awaited b v ≡ id → ⊥
nobody_awaits b m id k at free none places one v awaits =
    let stands : 1 ≤ times v (mutex_waiters b k id) = stands_in k.order b (mutex_object id) v places (awaits_waits b v id awaits one) in
    let nowhere : times v (mutex_waiters b k id) ≡ 0 = ap (times v) (no_waiters b m id k at free none) in
    omega (arith, stands, nowhere)

-- ---- a mutex is locked

-- a task that waits for no mutex lends to itself alone
alone_if : (u t : ℕ) (same goes later : Bool) → (u == t) ≡ same → goes ≡ false → (same || (goes && later)) ≡ true → u ≡ t
alone_if u t true goes later at stops is = grind (arith, nat_tests, at)
alone_if u t false true later at stops is = absurd (cc stops)
alone_if u t false false later at stops is = absurd (cc is)

chain_alone : (next : ℕ → ℕ) (t u n : ℕ) → next u ≡ 0 → chain_has next t n u ≡ true → u ≡ t
unfolding chain_has
chain_alone next t u zero none is = grind (arith, nat_tests, is)
chain_alone next t u (suc n) none is = alone_if u t (u == t) (not (next u == 0)) (chain_has next t n (next u)) refl (grind (arith, nat_tests, none)) is

first_true : (first second : Bool) → (first && second) ≡ true → first ≡ true
first_true true later is = refl
first_true false later is = absurd (cc is)

second_true : (first second : Bool) → (first && second) ≡ true → second ≡ true
second_true true later is = is
second_true false later is = absurd (cc is)

fold_alike : (f g : ℕ → ℕ → ℕ) (start : ℕ) (ids : List ℕ) → ((n id : ℕ) → f n id ≡ g n id) → fold f start ids ≡ fold g start ids
fold_alike f g start [] same = refl
fold_alike f g start (id ∷ ids) same = ap (λ n. fold f n ids) (same start id) ∙ fold_alike f g (g start id) ids same

ceiling_same : (m : Mutexes) (id t : ℕ) (k : Mutex) → mutex_at m id ≡ Some k → (other : ℕ) → ceiling_of (locked m id k t) other ≡ ceiling_of m other
ceiling_same m id t k at =
    entry_each (λ other slot. ceiling_in slot ≡ ceiling_of m other) m.table id (Some (record k { owner = t }))
    (ap ceiling_in (entry_there m.table id k (Some (record k { owner = t })) at) ∙ sym (ap ceiling_in at)) (λ other apart. refl)

held_same : (m : Mutexes) (id t u : ℕ) (k : Mutex) → mutex_at m id ≡ Some k → k.owner ≡ 0 → (u ≡ t → ⊥) → 1 ≤ u → held (locked m id k t) u ≡ held m u
held_same m id t u k at free apart one =
    let now : owner_of (locked m id k t) id ≡ t = ap owner_in (entry_there m.table id k (Some (record k { owner = t })) at) in
    let was : owner_of m id ≡ 0 = ap owner_in at ∙ free in
    let fails : (owner_of (locked m id k t) id == u) ≡ false = grind (arith, nat_tests, now, apart) in
    let failed : (owner_of m id == u) ≡ false = grind (arith, nat_tests, was, one) in
    filter_gone (λ other. owner_of m other == u) (λ other. owner_of (locked m id k t) other == u) id m.locks
    (λ other differs. ap (λ slot. owner_in slot == u) (entry_other m.table id other (Some (record k { owner = t })) differs)) fails
    ∙ filter_absent (λ other. owner_of m other == u) id m.locks failed

own_same : (b c : Base) (m : Mutexes) (id t u : ℕ) (k : Mutex) → base_of c u ≡ base_of b u → mutex_at m id ≡ Some k → k.owner ≡ 0 → (u ≡ t → ⊥) → 1 ≤ u →
    own c (locked m id k t) u ≡ own b m u
own_same b c m id t u k base at free apart one =
    ap (λ ids. fold (capped (locked m id k t)) (base_of c u) ids) (held_same m id t u k at free apart one)
    ∙ fold_alike (capped (locked m id k t)) (capped m) (base_of c u) (held m u) (λ n other. ap (λ ceiling. under ceiling n) (ceiling_same m id t k at other))
    ∙ ap (λ start. fold (capped m) start (held m u)) base

alive_one : (b : Base) (u : ℕ) → task_at b 0 ≡ None → is_alive (task_at b u) ≡ true → 1 ≤ u
alive_one b zero none alive = let dead = ap is_alive none in absurd (cc (alive, dead))
alive_one b (suc u) none alive = omega arith

lent_apart : (b : Base) (m : Mutexes) (t u v : ℕ) → next_in_chain b m t ≡ 0 → (u ≡ t → ⊥) → lends_to b m u v ≡ true → v ≡ t → ⊥
lent_apart b m t u v alone apart lends same =
    let stops : next_in_chain b m v ≡ 0 = ap (next_in_chain b m) same ∙ alone in
    apart (sym (chain_alone (next_in_chain b m) u v 255 stops (second_true (is_alive (task_at b v)) (chain_has (next_in_chain b m) u 255 v) lends)) ∙ same)

-- once a task owns a mutex for which nobody waits, no other task's current priority is another one
pub lock_lends : (b c : Base) (m : Mutexes) (id t u : ℕ) (k : Mutex) → IsLike b c → mutex_at m id ≡ Some k → k.owner ≡ 0 → task_at b 0 ≡ None → next_in_chain b m t ≡ 0 →
    ((v : ℕ) → awaited b v ≡ id → ⊥) → (u ≡ t → ⊥) → 1 ≤ u → current_of c (locked m id k t) u ≡ current_of b m u
lock_lends b c m id t u k like at free none alone nobody apart one = current_lent b c m (locked m id k t) u (record {
  lives = like.lives;
  base = like.bases u;
  nexts = λ v. ap (λ other. heir_in (mutex_at (locked m id k t) other)) (like.awaits v)
      ∙ ap heir_in (entry_other m.table id (awaited b v) (Some (record k { owner = t })) (nobody v));
  itself = own_same b c m id t u k (like.bases u) at free apart one;
  others = λ v lends. own_same b c m id t v k (like.bases v) at free (lent_apart b m t u v alone apart lends)
      (alive_one b v none (first_true (is_alive (task_at b v)) (chain_has (next_in_chain b m) u 255 v) lends));
  ids = like.ids;
})

-- ---- one priority is taken over

same_if : (b c : Base) (same : Bool) → same ≡ true → cond same b c ≡ b
same_if b c true is = refl
same_if b c false is = absurd (cc is)

fresh_one : (b : Base) (m : Mutexes) (u : ℕ) → current b u ≡ current_of b m u → refresh m b u ≡ b
fresh_one b m u same = same_if b (set_current b u (current_of b m u)) (current b u == current_of b m u) (grind (arith, nat_tests, same))

fresh_all : {A : Type 0} → (b : Base) (m : Mutexes) (from : ℕ) (slots : List (Option A)) → ((u : ℕ) → from ≤ u → current b u ≡ current_of b m u) → fold (refresh m) b (taken_from from slots) ≡ b
fresh_all b m from [] fresh = refl
fresh_all b m from (None ∷ slots) fresh = fresh_all b m (from + 1) slots (λ u least. fresh u (omega (arith, least)))
fresh_all b m from (Some k ∷ slots) fresh =
    ap (λ c. fold (refresh m) c (taken_from (from + 1) slots)) (fresh_one b m from (fresh from (omega arith)))
    ∙ fresh_all b m (from + 1) slots (λ u least. fresh u (omega (arith, least)))

-- those whose priority is that of its definition keep it when another one's is taken over
stays_fresh : (b : Base) (m : Mutexes) (t u : ℕ) (same : Bool) → (u ≡ t → ⊥) → current b u ≡ current_of b m u →
    current (cond same b (set_current b t (current_of b m t))) u ≡ current_of (cond same b (set_current b t (current_of b m t))) m u
stays_fresh b m t u true apart fresh = fresh
stays_fresh b m t u false apart fresh =
    let n : ℕ = current_of b m t in
    entry_cases (λ c. current c u ≡ current b u) (task_at b t) b _ refl (λ k at. ap current_in (entry_other b.tasks t u (Some (record k { current = n })) apart))
    ∙ fresh
    ∙ sym (current_alike b (set_current b t n) m u (set_current_like b t n))

one_taken : {A : Type 0} → (b : Base) (m : Mutexes) (from place : ℕ) (slots : List (Option A)) (k : A) → entry slots place ≡ Some k → 1 ≤ from →
    ((u : ℕ) → from ≤ u → (u ≡ from + place → ⊥) → current b u ≡ current_of b m u) → fold (refresh m) b (taken_from from slots) ≡ refresh m b (from + place)
one_taken b m from place [] k at one fresh = absurd (cc at)
one_taken b m from zero (None ∷ slots) k at one fresh = absurd (cc at)
one_taken b m from zero (Some other ∷ slots) k at one fresh =
    let here : from ≡ from + 0 = omega arith in
    ap (λ t. fold (refresh m) (refresh m b t) (taken_from (from + 1) slots)) here
    ∙ fresh_all (refresh m b (from + 0)) m (from + 1) slots
    (λ u least. stays_fresh b m (from + 0) u (current b (from + 0) == current_of b m (from + 0)) (λ e. omega (arith, e, least)) (fresh u (omega (arith, least)) (λ e. omega (arith, e, least))))
one_taken b m from (suc place) (None ∷ slots) k at one fresh =
    one_taken b m (from + 1) place slots k at (omega arith) (λ u least apart. fresh u (omega (arith, least)) (λ e. apart (omega (arith, e))))
    ∙ ap (refresh m b) (omega arith)
one_taken b m from (suc place) (Some other ∷ slots) k at one fresh =
    ap (λ c. fold (refresh m) c (taken_from (from + 1) slots)) (fresh_one b m from (fresh from (omega arith) (λ e. omega (arith, e))))
    ∙ one_taken b m (from + 1) place slots k at (omega arith) (λ u least apart. fresh u (omega (arith, least)) (λ e. apart (omega (arith, e))))
    ∙ ap (refresh m b) (omega arith)

dropped_at : {A : Type 0} → (slots : List (Option A)) (place : ℕ) (k : A) → entry slots (suc place) ≡ Some k → entry (drop 1 slots) place ≡ Some k
dropped_at [] place k at = at
dropped_at (slot ∷ slots) place k at = at

-- where one task's priority alone may not be that of its definition, taking over takes that one
pub resettled_one : (b : Base) (m : Mutexes) (t : ℕ) (k : Task) → task_at b t ≡ Some k → 1 ≤ t → ((u : ℕ) → 1 ≤ u → (u ≡ t → ⊥) → current b u ≡ current_of b m u) → resettle b m ≡ refresh m b t
unfolding resettle
resettled_one b m zero k at one fresh = absurd (omega (arith, one))
resettled_one b m (suc place) k at one fresh =
    one_taken b m 1 place (drop 1 b.tasks) k (dropped_at b.tasks place k at) (omega arith) (λ u least apart. fresh u least (λ e. apart (omega (arith, e))))
    ∙ ap (refresh m b) (omega arith)
