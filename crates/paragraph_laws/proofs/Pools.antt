-- A call that waits for a pool does what the paragraph says.
use Rattle.std.proofs.Common.{◌≡◌, ℕ, zero, suc, ◌≤◌, Bool, true, false, cond, List, [], ◌∷◌, Option, Some, None, refl, ◌∙◌, ap, sym, ℤ, pos, arith}
use Rattle.std.specs.Prelude.{slice_set}
use Rattle.std.specs.Option.{option_map}
use Rattle.std.proofs.lemmas.Bool.Decides.{nat_tests}
use Rattle.std.specs.Bool.{◌==◌}
use Rattle.std.specs.Ordering.{int_eq}
use Rattle.tk_types.specs.declared.error_code.Er.TheVariants as er
use Rattle.tk_types.specs.declared.answer.Answer.{Answer}
use Rattle.tk_types.specs.declared.answer.Outcome.TheVariants.{Returned, Blocked}
use Rattle.tk_types.specs.declared.run.Mode.{Mode}
use Rattle.kernel_model.specs.Words.Checks.{failed, plain}
use Rattle.kernel_model.specs.Words.Orders.{entry}
use Rattle.kernel_model.specs.SemFlags.Trial.{MayWait}
use Rattle.kernel_model.specs.Tasks.Base.{Base, current, make_wait, release}
use Rattle.kernel_lemmas.proofs.Filters.{apart_of}
use Rattle.kernel_lemmas.proofs.Tables.{entry_inside, entry_other, entry_there}
use Rattle.call_lemmas.proofs.Picks.{joined}
use Rattle.call_lemmas.proofs.Trial.{joined_waits, queue_joined}
use Rattle.mail_laws.proofs.Backs.{base_back, one_joined}
use Rattle.object_model.specs.Pools.Tables.{FixedPool, Pools, PoolParts, fixed_at, fixed_object}
use Rattle.object_model.specs.Pools.Fixed.{fixed_serves, fixed_waiters, free_block, serve_fixed, serve_fixed_at, serve_fixed_pools, with_block}
use Rattle.object_model.specs.Pools.Calls.{block_taken, got_from_fixed, pool_done}
use Rattle.machine_model.specs.Events.Settle.{settle}
use Rattle.machine_model.specs.States.Objects.{Parts, kinds, mail_parts, pool_parts, serve_object, with_pools}
use Rattle.machine_lemmas.proofs.HandingServes.{AllKinds, mapped_none}
use Rattle.machine_lemmas.proofs.Rest.{HasSettled}
use Rattle.table_lemmas.specs.Short.{AreShort}
use Rattle.paragraph_laws.specs.Paragraph.{IsSettled, after_settling, joins, paragraph, pool_waits}
use Rattle.paragraph_laws.proofs.Joined.{AwayFrom, IsNoMutex, joined_keeps, kept_up_to_date, queue_elsewhere, queue_rejoined, served_keeps}
use Rattle.paragraph_laws.proofs.OneKind.{NoneBut, NoneOf, boxes_beside, buffers_beside, devices_beside, mutexes_beside, none_of, only_kind, sem_flags_beside, variable_beside}
use Rattle.paragraph_laws.proofs.Settled.{given_still, has_settled, returns_once, waits_on}
use Rattle.paragraph_laws.proofs.Still.{SameQueue, fixed_still}
use Rattle.paragraph_laws.proofs.Tables.{alone_serves, none_serves, stands_none}

-- parts with another base and other pools
abbrev pub pools_to : Parts → Base → Pools → Parts
pools_to p c m = record p { base = c; objects = record p.objects { pools = m } }

-- ---- fixed pools

-- once a task has joined the waiters of a fixed pool, or was served by one, other kinds serve nobody
but_fixed : (p : Parts) (c : Base) (m : Pools) (id : ℕ) → AreShort p.objects → 1 ≤ id → id ≤ 64 → AwayFrom p.base c (fixed_object id) → m.variable ≡ p.objects.pools.variable →
    m.sizes ≡ p.objects.pools.sizes → NoneOf p → NoneBut 4 kinds (pools_to p c m)
unfolding NoneBut AllKinds
but_fixed p c m id short one most away variable sizes none =
    let q : Parts = pools_to p c m in
    let devices = devices_beside p c p.objects.mails (fixed_object id) away (omega (arith, most)) none in (
      mapped_none _ _ (sem_flags_beside p c (fixed_object id) short away (λ other least low e. omega (arith, one, low, e)) (λ other least low e. omega (arith, one, low, e)) none),
      (
        mapped_none _ _ (boxes_beside p (mail_parts q) (fixed_object id) refl short away (λ other least low e. omega (arith, one, low, e)) none),
        (
          mapped_none _ _ (mutexes_beside p c (fixed_object id) short away (λ other least low e. omega (arith, one, low, e)) none),
          (
            mapped_none _ _ (buffers_beside p (mail_parts q) (fixed_object id) refl refl short away (λ other least low e. omega (arith, one, low, e)) (λ other least low e. omega (arith, one, low, e)) none),
            (
              mapped_none _ _ (variable_beside p (pool_parts q) (fixed_object id) variable sizes short away (λ other least low e. omega (arith, most, least, e)) none),
              (mapped_none _ _ devices.0, (mapped_none _ _ devices.1.0, (mapped_none _ _ devices.1.1.0, (mapped_none _ _ devices.1.1.1, tt)))),
            ),
          ),
        ),
      ),
    )

-- so what is served first is what the pools serve
fixed_first : (p : Parts) (c : Base) (m : Pools) (id : ℕ) → AreShort p.objects → 1 ≤ id → id ≤ 64 → AwayFrom p.base c (fixed_object id) → m.variable ≡ p.objects.pools.variable →
    m.sizes ≡ p.objects.pools.sizes → NoneOf p →
    serve_object (pools_to p c m) ≡ option_map (with_pools (pools_to p c m)) (serve_fixed_pools (pool_parts (pools_to p c m)))
unfolding serve_object
fixed_first p c m id short one most away variable sizes none = only_kind 4 kinds (pools_to p c m) (but_fixed p c m id short one most away variable sizes none)

-- each fixed pool that stands in the table serves nobody
each_fixed : (p : PoolParts) (id : ℕ) → 1 ≤ id → serve_fixed_pools p ≡ None → (slot : Option FixedPool) → fixed_at p.table id ≡ slot → serve_fixed p id ≡ None
unfolding serve_fixed_pools serve_fixed
each_fixed p id one none None at = ap (serve_fixed_at p id) at
each_fixed p id one none (Some k) at = stands_none (serve_fixed p) id p.table.fixed k one at none

-- and what they serve is what the caller's pool does
fixed_alone : (p q : PoolParts) (id : ℕ) (k : FixedPool) → 1 ≤ id → fixed_at p.table id ≡ Some k → q.table.fixed ≡ p.table.fixed → AwayFrom p.base q.base (fixed_object id) →
    serve_fixed_pools p ≡ None → serve_fixed_pools q ≡ serve_fixed q id
unfolding serve_fixed_pools
fixed_alone p q id k one at same away none =
    alone_serves (serve_fixed q) id q.table.fixed k one (ap (λ table. entry table id) same ∙ at)
    (λ other in_it apart. fixed_still p q other (ap (λ table. entry table other) same) (away (fixed_object other) (λ e. apart (omega (arith, e)))) (each_fixed p other in_it.0 none (fixed_at p.table other) refl))

-- once the caller was served no fixed pool can serve anybody: of its own it took the last waiter away
fixed_done : (p q : PoolParts) (id : ℕ) (k : FixedPool) (number : ℕ) → q.table ≡ with_block p.table id k number true → ((other : ℕ) → SameQueue p.base q.base other) →
    fixed_waiters p.base k id ≡ [] → serve_fixed_pools p ≡ None → fixed_at p.table id ≡ Some k →
    serve_fixed_pools q ≡ None
unfolding serve_fixed_pools serve_fixed
fixed_done p q id k number is queues nobody none at =
    let taken : FixedPool = record k { out = slice_set k.out number true } in
    none_serves (serve_fixed q) q.table.fixed (λ other in_it. fixed_if p q id other k taken (other == id) refl
    (λ same. ap (λ (table : Pools). entry table.fixed other) is ∙ ap (entry (slice_set p.table.fixed id (Some taken))) same ∙ entry_there p.table.fixed id k (Some taken) at)
    (λ apart. ap (λ (table : Pools). entry table.fixed other) is ∙ entry_other p.table.fixed id other (Some taken) apart) (queues (fixed_object other))
    (queues (fixed_object id) k.order ∙ nobody) refl (each_fixed p other in_it.0 none (fixed_at p.table other) refl))
  where
    fixed_if : (p q : PoolParts) (id other : ℕ) (k taken : FixedPool) (same : Bool) → (other == id) ≡ same → (other ≡ id → fixed_at q.table other ≡ Some taken) →
        ((other ≡ id → ⊥) → fixed_at q.table other ≡ fixed_at p.table other) →
        SameQueue p.base q.base (fixed_object other) → fixed_waiters q.base k id ≡ [] → taken.order ≡ k.order → serve_fixed p other ≡ None → serve_fixed q other ≡ None
    fixed_if p q id other k taken true is own others queues nobody order none =
        let e : other ≡ id = grind (arith, nat_tests, is) in
        ap (serve_fixed_at q other) (own e)
        ∙ ap (λ it. fixed_serves q other taken (fixed_waiters q.base (record taken { order = it }) other) (free_block taken)) order
        ∙ ap (λ at. fixed_serves q other taken (fixed_waiters q.base k at) (free_block taken)) e
        ∙ ap (λ waiters. fixed_serves q other taken waiters (free_block taken)) nobody
    fixed_if p q id other k taken false is own others queues nobody order none = fixed_still p q other (others (apart_of other id is)) queues none

none_waits : (p : PoolParts) (id : ℕ) (k : FixedPool) (waiters : List ℕ) (before : ℕ) → fixed_serves p id k waiters (suc before) ≡ None → waiters ≡ []
none_waits p id k [] before none = refl
none_waits p id k (t ∷ waiters) before none = absurd (cc none)

nothing_free : (p : PoolParts) (id : ℕ) (k : FixedPool) (waiters : List ℕ) → fixed_serves p id k waiters zero ≡ None
nothing_free p id k [] = refl
nothing_free p id k (t ∷ waiters) = refl

-- a wait that isn't over at once is one of all parts
pub over_pool : (p : Parts) (c : Base) (m : Pools) (at_once : Bool) →
    cond at_once (record { parts = p; outcome = failed er.TmOut }) (record { parts = pools_to p c m; outcome = Blocked })
    ≡ pool_waits p (cond at_once (pool_done (pool_parts p) (failed er.TmOut)) (pool_done (record { base = c; table = m }) Blocked))
over_pool p c m true = refl
over_pool p c m false = refl

fixed_case : (mode : Mode) (p : Parts) (t id : ℕ) (timeout : ℤ) (k : FixedPool) (number : ℕ) → free_block k ≡ number → MayWait p.base t → AreShort p.objects → 1 ≤ id → id ≤ 64 →
    fixed_at p.objects.pools id ≡ Some k → HasSettled mode p →
    pool_waits p (block_taken (pool_parts p) t id timeout k number) ≡ after_settling p t timeout (settle mode (joins p t (fixed_object id) k.order timeout p.objects))
unfolding serve_fixed
fixed_case mode p t id timeout k zero free may short one most at settled =
    let c : Base = make_wait p.base t (fixed_object id) k.order timeout in
    let now : Parts = joins p t (fixed_object id) k.order timeout p.objects in
    let away : AwayFrom p.base c (fixed_object id) = queue_elsewhere p.base t (fixed_object id) k.order timeout may in
    let no_mutex : IsNoMutex (fixed_object id) = grind (arith, nat_tests, one) in
    let none = none_of p settled.unserved in
    let own : serve_fixed_pools (pool_parts now) ≡ None =
    fixed_alone (pool_parts p) (pool_parts now) id k one at refl away none.fixed
    ∙ ap (serve_fixed_at (pool_parts now) id) at
    ∙ ap (fixed_serves (pool_parts now) id k (fixed_waiters c k id)) free
    ∙ nothing_free (pool_parts now) id k (fixed_waiters c k id) in
    sym (waits_on mode p now t timeout
    (record {
      unserved = fixed_first p c p.objects.pools id short one most away refl refl none ∙ ap (option_map (with_pools now)) own;
      up_to_date = kept_up_to_date p.base c p.objects.mutexes (joined_keeps p.base t (fixed_object id) k.order timeout may no_mutex) settled.up_to_date;
      given = given_still mode p now refl (away 648 (λ e. omega (arith, e, most))) settled.given;
    })
    (joined_waits p.base t (fixed_object id) k.order timeout may)
    ∙ over_pool p c p.objects.pools (int_eq timeout (pos 0)))
fixed_case mode p t id timeout k (suc before) free may short one most at settled =
    let c : Base = make_wait p.base t (fixed_object id) k.order timeout in
    let now : Parts = joins p t (fixed_object id) k.order timeout p.objects in
    let result : Answer = plain (pos (suc before)) in
    let m : Pools = with_block p.objects.pools id k (suc before) true in
    let served : Parts = pools_to p (release c t result) m in
    let away : AwayFrom p.base c (fixed_object id) = queue_elsewhere p.base t (fixed_object id) k.order timeout may in
    let rejoined : (other : ℕ) → SameQueue p.base (release c t result) other = queue_rejoined p.base t (fixed_object id) k.order timeout result may in
    let no_mutex : IsNoMutex (fixed_object id) = grind (arith, nat_tests, one) in
    let none = none_of p settled.unserved in
    let nobody : fixed_waiters p.base k id ≡ [] =
    none_waits (pool_parts p) id k (fixed_waiters p.base k id) before
    (ap (fixed_serves (pool_parts p) id k (fixed_waiters p.base k id)) (sym free) ∙ ap (serve_fixed_at (pool_parts p) id) (sym at) ∙ each_fixed (pool_parts p) id one none.fixed (Some k) at) in
    let alone : fixed_waiters c k id ≡ t ∷ [] =
    queue_joined k.order p.base t (fixed_object id) k.order timeout may ∙ ap (joined k.order (current p.base) t) nobody ∙ one_joined k.order (current p.base) t in
    let own : serve_fixed_pools (pool_parts now) ≡ Some (record { base = release c t result; table = m }) =
    fixed_alone (pool_parts p) (pool_parts now) id k one at refl away none.fixed
    ∙ ap (serve_fixed_at (pool_parts now) id) at
    ∙ ap (λ waiters. fixed_serves (pool_parts now) id k waiters (free_block k)) alone
    ∙ ap (fixed_serves (pool_parts now) id k (t ∷ [])) free in
    let up = kept_up_to_date p.base c p.objects.mutexes (joined_keeps p.base t (fixed_object id) k.order timeout may no_mutex) settled.up_to_date in
    let done : serve_object served ≡ None =
    fixed_first p (release c t result) m id short one most (λ other apart. rejoined other) refl refl none
    ∙ ap (option_map (with_pools served)) (fixed_done (pool_parts p) (pool_parts served) id k (suc before) refl rejoined nobody none.fixed at) in
    sym (returns_once mode p now served t timeout result up
    (fixed_first p c p.objects.pools id short one most away refl refl none ∙ ap (option_map (with_pools now)) own)
    (record {
      unserved = done;
      up_to_date = kept_up_to_date c (release c t result) p.objects.mutexes (served_keeps p.base t (fixed_object id) k.order timeout result may no_mutex) up;
      given = given_still mode p served refl (rejoined 648) settled.given;
    })
    (joined_waits p.base t (fixed_object id) k.order timeout may) refl
    ∙ ap (λ base. record { parts = pools_to p base m; outcome = Returned result }) (base_back p.base t (fixed_object id) k.order timeout result may))

-- a call for a block of a fixed pool does what the paragraph says
pub fixed_call_is_paragraph : (mode : Mode) (p : Parts) (t id : ℕ) (timeout : ℤ) (k : FixedPool) → IsSettled mode p → MayWait p.base t → 1 ≤ id →
    fixed_at p.objects.pools id ≡ Some k →
    pool_waits p (got_from_fixed (pool_parts p) t id timeout (Some k)) ≡ paragraph mode p t (fixed_object id) k.order timeout p.objects
unfolding paragraph
fixed_call_is_paragraph mode p t id timeout k settled may one at =
    let few = settled.short.fixed in
    let inside = entry_inside p.objects.pools.fixed id k at in
    fixed_case mode p t id timeout k (free_block k) refl may settled.short one (omega (arith, few, inside)) at (has_settled mode p settled)
