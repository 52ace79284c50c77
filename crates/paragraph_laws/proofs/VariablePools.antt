-- A call that waits for a variable pool does what the paragraph says: a block more gives nobody a place that had none.
use Rattle.std.proofs.Common.{◌≡◌, ℕ, ◌<◌, ◌≤◌, length, Bool, true, false, cond, List, [], ◌∷◌, ◌++◌, Option, Some, None, refl, ◌∙◌, ap, sym, ℤ, pos, arith}
use Rattle.std.specs.Prelude.{nat_lt, slice_set}
use Rattle.std.specs.Bool.{◌==◌}
use Rattle.std.specs.Option.{option_map}
use Rattle.std.specs.Ordering.{int_eq}
use Rattle.std.proofs.lemmas.Bool.Decides.{nat_tests}
use Rattle.std.proofs.lemmas.List.{get_or-set_same, get_or-set_other}
use Rattle.tk_types.specs.declared.answer.Answer.{Answer}
use Rattle.tk_types.specs.declared.answer.Outcome.TheVariants.{Returned}
use Rattle.tk_types.specs.declared.run.Mode.{Mode}
use Rattle.tk_types.specs.declared.task.Order.{Order}
use Rattle.tk_types.specs.declared.task.Order.TheVariants.{Fifo, Priority}
use Rattle.kernel_model.specs.LawWords.Once.{times}
use Rattle.kernel_model.specs.Words.Checks.{plain}
use Rattle.kernel_model.specs.Words.Orders.{entry, insert_behind}
use Rattle.kernel_model.specs.SemFlags.Calls.{would_be_first}
use Rattle.kernel_model.specs.SemFlags.Trial.{MayWait}
use Rattle.kernel_model.specs.Tasks.Base.{Base, current, make_wait, queue, release, waits_for}
use Rattle.kernel_lemmas.proofs.Filters.{apart_of}
use Rattle.kernel_lemmas.proofs.Tables.{entry_inside, entry_other, entry_there}
use Rattle.call_lemmas.proofs.Picks.{apart_from_first, joined}
use Rattle.call_lemmas.proofs.Serving.{queue_absent}
use Rattle.call_lemmas.proofs.Trial.{joined_waits, queue_joined, ready_for_none}
use Rattle.mail_laws.proofs.Backs.{base_back}
use Rattle.object_model.specs.declared.pools.Block.{Block}
use Rattle.object_model.specs.Pools.Tables.{VariablePool, Pools, PoolParts, size_of, variable_at, variable_object}
use Rattle.object_model.specs.Pools.Variable.{block_given, insert_block, place_in, serve_variable, serve_variable_at, serve_variable_pools, variable_serves, variable_waiters, with_live}
use Rattle.object_model.specs.Pools.Calls.{got_from_variable, place_for, placed}
use Rattle.pool_laws.specs.Blocks.{AreApartFrom, LieApart}
use Rattle.pool_laws.specs.Trial.{asked_size}
use Rattle.pool_laws.proofs.Placing.{joined as lie_joined, pool_fits, pool_nowhere}
use Rattle.machine_model.specs.Events.Settle.{settle}
use Rattle.machine_model.specs.States.Objects.{Parts, kinds, mail_parts, pool_parts, serve_object, with_pools}
use Rattle.machine_lemmas.proofs.HandingServes.{AllKinds, mapped_none}
use Rattle.machine_lemmas.proofs.Rest.{HasSettled}
use Rattle.table_lemmas.specs.Short.{AreShort}
use Rattle.paragraph_laws.specs.Paragraph.{IsSettled, after_settling, joins, paragraph, pool_waits}
use Rattle.paragraph_laws.proofs.Joined.{AwayFrom, IsNoMutex, joined_keeps, kept_up_to_date, queue_elsewhere, queue_rejoined, served_keeps}
use Rattle.paragraph_laws.proofs.OneKind.{NoneBut, NoneOf, boxes_beside, buffers_beside, devices_beside, fixed_beside, mutexes_beside, none_of, only_kind, sem_flags_beside}
use Rattle.paragraph_laws.proofs.Pools.{over_pool, pools_to}
use Rattle.paragraph_laws.proofs.Settled.{given_still, has_settled, returns_once, waits_on}
use Rattle.paragraph_laws.proofs.Still.{SameQueue}
use Rattle.paragraph_laws.proofs.Tables.{alone_serves, none_serves, stands_none}

-- ---- the kinds

-- once a task has joined the waiters of a variable pool, or was served by one, other kinds serve nobody
but_variable : (p : Parts) (c : Base) (m : Pools) (id : ℕ) → AreShort p.objects → 1 ≤ id → id ≤ 64 → AwayFrom p.base c (variable_object id) → m.fixed ≡ p.objects.pools.fixed →
    NoneOf p → NoneBut 5 kinds (pools_to p c m)
unfolding NoneBut AllKinds
but_variable p c m id short one most away fixed none =
    let q : Parts = pools_to p c m in
    let devices = devices_beside p c p.objects.mails (variable_object id) away (omega (arith, most)) none in (
      mapped_none _ _ (sem_flags_beside p c (variable_object id) short away (λ other least low e. omega (arith, one, low, e)) (λ other least low e. omega (arith, one, low, e)) none),
      (
        mapped_none _ _ (boxes_beside p (mail_parts q) (variable_object id) refl short away (λ other least low e. omega (arith, one, low, e)) none),
        (
          mapped_none _ _ (mutexes_beside p c (variable_object id) short away (λ other least low e. omega (arith, one, low, e)) none),
          (
            mapped_none _ _ (buffers_beside p (mail_parts q) (variable_object id) refl refl short away (λ other least low e. omega (arith, one, low, e)) (λ other least low e. omega (arith, one, low, e)) none),
            (
              mapped_none _ _ (fixed_beside p (pool_parts q) (variable_object id) fixed short away (λ other least low e. omega (arith, one, low, e)) none),
              (mapped_none _ _ devices.0, (mapped_none _ _ devices.1.0, (mapped_none _ _ devices.1.1.0, (mapped_none _ _ devices.1.1.1, tt)))),
            ),
          ),
        ),
      ),
    )

-- so what is served first is what the variable pools serve
variable_first : (p : Parts) (c : Base) (m : Pools) (id : ℕ) → AreShort p.objects → 1 ≤ id → id ≤ 64 → AwayFrom p.base c (variable_object id) → m.fixed ≡ p.objects.pools.fixed →
    NoneOf p →
    serve_object (pools_to p c m) ≡ option_map (with_pools (pools_to p c m)) (serve_variable_pools (pool_parts (pools_to p c m)))
unfolding serve_object
variable_first p c m id short one most away fixed none = only_kind 5 kinds (pools_to p c m) (but_variable p c m id short one most away fixed none)

-- ---- places

apart_if : (offset n : ℕ) (block first : Block) (rest inserted : List Block) (test : Bool) → AreApartFrom offset n (cond test (block ∷ first ∷ rest) (first ∷ inserted)) →
    (AreApartFrom offset n inserted → AreApartFrom offset n rest) →
    AreApartFrom offset n (first ∷ rest)
apart_if offset n block first rest inserted true apart fewer = apart.1
apart_if offset n block first rest inserted false apart fewer = (apart.0, fewer apart.1)

apart_fewer : (offset n : ℕ) (block : Block) (blocks : List Block) → AreApartFrom offset n (insert_block block blocks) → AreApartFrom offset n blocks
apart_fewer offset n block [] apart = tt
apart_fewer offset n block (first ∷ rest) apart = apart_if offset n block first rest (insert_block block rest) (nat_lt block.offset first.offset) apart
    (apart_fewer offset n block rest)

-- a pool with a block more
abbrev fuller : VariablePool → Block → VariablePool
fuller k block = record k { blocks = insert_block block k.blocks }

nowhere_if : (k : VariablePool) (block : Block) (n : ℕ) (place : Option ℕ) → LieApart (fuller k block) → place_in (fuller k block) n ≡ place → place_in k n ≡ None → place ≡ None
nowhere_if k block n None lie is none = refl
nowhere_if k block n (Some offset) lie is none =
    let fit = pool_fits (fuller k block) n offset lie is in
    absurd (pool_nowhere k n offset none (record { inside = fit.inside; apart = apart_fewer offset n block k.blocks fit.apart }))

-- what had no place in a pool has none in it with a block more
still_nowhere : (k : VariablePool) (offset size n : ℕ) → LieApart k → 0 < size → place_in k size ≡ Some offset → place_in k n ≡ None →
    place_in (fuller k (record { offset = offset; size = size })) n ≡ None
still_nowhere k offset size n lie some placed_at none =
    let block : Block = record { offset = offset; size = size } in
    nowhere_if k block n (place_in (fuller k block) n) (lie_joined 0 k.size size offset k.blocks lie some placed_at) refl none

-- ---- a pool that could serve nobody

no_place : (p : PoolParts) (id : ℕ) (k : VariablePool) (t : ℕ) (place : Option ℕ) → block_given p id k t place ≡ None → place ≡ None
no_place p id k t None none = refl
no_place p id k t (Some offset) none = absurd (cc none)

-- what all tasks but one ask for is as before
abbrev OthersAsk : Pools → Pools → ℕ → Type 0
OthersAsk m now t = (u : ℕ) → (u ≡ t → ⊥) → size_of now u ≡ size_of m u

full_still : (p q : PoolParts) (t id : ℕ) (k now : VariablePool) (waiters : List ℕ) → times t waiters ≡ 0 → OthersAsk p.table q.table t →
    ((n : ℕ) → place_in k n ≡ None → place_in now n ≡ None) →
    variable_serves p id k waiters ≡ None → variable_serves q id now waiters ≡ None
full_still p q t id k now [] absent others fuller none = refl
full_still p q t id k now (first ∷ rest) absent others fuller none =
    ap (λ n. block_given q id now first (place_in now n)) (others first (apart_from_first t first rest absent))
    ∙ ap (block_given q id now first) (fuller (size_of p.table first) (no_place p id k first (place_in k (size_of p.table first)) none))

-- can't, with its queue as it stood and no more places, whatever a task asks for that doesn't wait for it
pool_still : (p q : PoolParts) (t id : ℕ) (k now : VariablePool) → now.order ≡ k.order → variable_at p.table id ≡ Some k → variable_at q.table id ≡ Some now →
    SameQueue p.base q.base (variable_object id) → waits_for p.base (variable_object id) t ≡ false →
    OthersAsk p.table q.table t → ((n : ℕ) → place_in k n ≡ None → place_in now n ≡ None) → serve_variable p id ≡ None → serve_variable q id ≡ None
unfolding serve_variable
pool_still p q t id k now order at then queues idle others fuller none =
    ap (serve_variable_at q id) then
    ∙ ap (λ by. variable_serves q id now (queue by q.base (variable_object id))) order
    ∙ ap (variable_serves q id now) (queues k.order)
    ∙ full_still p q t id k now (variable_waiters p.base k id) (queue_absent k.order p.base t (variable_object id) idle) others fuller
    (ap (serve_variable_at p id) (sym at) ∙ none)

slot_still : (p q : PoolParts) (t id : ℕ) (slot : Option VariablePool) → variable_at p.table id ≡ slot → variable_at q.table id ≡ slot →
    SameQueue p.base q.base (variable_object id) → waits_for p.base (variable_object id) t ≡ false →
    OthersAsk p.table q.table t → serve_variable p id ≡ None → serve_variable q id ≡ None
unfolding serve_variable
slot_still p q t id None at then queues idle others none = ap (serve_variable_at q id) then
slot_still p q t id (Some k) at then queues idle others none = pool_still p q t id k k refl at then queues idle others (λ n nowhere. nowhere) none

each_variable : (p : PoolParts) (id : ℕ) → 1 ≤ id → serve_variable_pools p ≡ None → (slot : Option VariablePool) → variable_at p.table id ≡ slot → serve_variable p id ≡ None
unfolding serve_variable_pools serve_variable
each_variable p id one none None at = ap (serve_variable_at p id) at
each_variable p id one none (Some k) at = stands_none (serve_variable p) id p.table.variable k one at none

-- once a task has joined the waiters of a variable pool, no other one serves anybody
variable_alone : (p q : PoolParts) (t id : ℕ) (k : VariablePool) → MayWait p.base t → 1 ≤ id → variable_at p.table id ≡ Some k → q.table.variable ≡ p.table.variable →
    OthersAsk p.table q.table t → AwayFrom p.base q.base (variable_object id) →
    serve_variable_pools p ≡ None → serve_variable_pools q ≡ serve_variable q id
unfolding serve_variable_pools
variable_alone p q t id k may one at same others away none =
    alone_serves (serve_variable q) id q.table.variable k one (ap (λ table. entry table id) same ∙ at)
    (λ other in_it apart. slot_still p q t other (variable_at p.table other) refl (ap (λ table. entry table other) same) (away (variable_object other) (λ e. apart (omega (arith, e)))) (ready_for_none p.base t (variable_object other) may) others
    (each_variable p other in_it.0 none (variable_at p.table other) refl))

done_if : (p q : PoolParts) (t id other : ℕ) (k now : VariablePool) (same : Bool) → (other == id) ≡ same → now.order ≡ k.order → variable_at p.table id ≡ Some k →
    variable_at q.table id ≡ Some now → ((other ≡ id → ⊥) → variable_at q.table other ≡ variable_at p.table other) →
    SameQueue p.base q.base (variable_object other) → waits_for p.base (variable_object other) t ≡ false → OthersAsk p.table q.table t →
    ((n : ℕ) → place_in k n ≡ None → place_in now n ≡ None) → serve_variable p other ≡ None → serve_variable q other ≡ None
done_if p q t id other k now true is order at then apart queues idle others fuller none =
    let e : other ≡ id = grind (arith, nat_tests, is) in
    pool_still p q t other k now order (ap (variable_at p.table) e ∙ at) (ap (variable_at q.table) e ∙ then) queues idle others fuller none
done_if p q t id other k now false is order at then apart queues idle others fuller none =
    slot_still p q t other (variable_at p.table other) refl (apart (apart_of other id is)) queues idle others none

-- and once it was served none does
variable_done : (p q : PoolParts) (t id : ℕ) (k now : VariablePool) → MayWait p.base t → variable_at p.table id ≡ Some k →
    q.table.variable ≡ slice_set p.table.variable id (Some now) → now.order ≡ k.order → OthersAsk p.table q.table t →
    ((other : ℕ) → SameQueue p.base q.base other) → ((n : ℕ) → place_in k n ≡ None → place_in now n ≡ None) → serve_variable_pools p ≡ None → serve_variable_pools q ≡ None
unfolding serve_variable_pools
variable_done p q t id k now may at is order others queues fuller none =
    none_serves (serve_variable q) q.table.variable (λ other in_it. done_if p q t id other k now (other == id) refl order at
    (ap (λ table. entry table id) is ∙ entry_there p.table.variable id k (Some now) at)
    (λ apart. ap (λ table. entry table other) is ∙ entry_other p.table.variable id other (Some now) apart)
    (queues (variable_object other)) (ready_for_none p.base t (variable_object other) may) others fuller (each_variable p other in_it.0 none (variable_at p.table other) refl))

-- ---- who is served once the task has joined

first_if : (p q : PoolParts) (t id n first : ℕ) (k : VariablePool) (rest behind : List ℕ) (before : Bool) → (first ≡ t → ⊥) → size_of q.table t ≡ n →
    OthersAsk p.table q.table t → variable_serves p id k (first ∷ rest) ≡ None →
    variable_serves q id k (cond before (t ∷ first ∷ rest) (first ∷ behind)) ≡ block_given q id k t (place_for before k n)
first_if p q t id n first k rest behind true apart asked others none = ap (λ size. block_given q id k t (place_in k size)) asked
first_if p q t id n first k rest behind false apart asked others none =
    ap (λ size. block_given q id k first (place_in k size)) (others first apart)
    ∙ ap (block_given q id k first) (no_place p id k first (place_in k (size_of p.table first)) none)

-- the task, if it would be the first and has a place
variable_joined : (order : Order) (p q : PoolParts) (t id n : ℕ) (k : VariablePool) (waiters : List ℕ) → times t waiters ≡ 0 → size_of q.table t ≡ n →
    OthersAsk p.table q.table t → variable_serves p id k waiters ≡ None →
    variable_serves q id k (joined order (current p.base) t waiters) ≡ block_given q id k t (place_for (would_be_first order p.base t waiters) k n)
variable_joined Fifo p q t id n k [] absent asked others none = ap (λ size. block_given q id k t (place_in k size)) asked
variable_joined Priority p q t id n k [] absent asked others none = ap (λ size. block_given q id k t (place_in k size)) asked
variable_joined Fifo p q t id n k (first ∷ rest) absent asked others none = first_if p q t id n first k rest (rest ++ t ∷ []) false
    (apart_from_first t first rest absent) asked others none
variable_joined Priority p q t id n k (first ∷ rest) absent asked others none =
    first_if p q t id n first k rest (insert_behind (current p.base) t rest) (nat_lt (current p.base t) (current p.base first))
    (apart_from_first t first rest absent) asked others none

has_place : (first : Bool) (k : VariablePool) (n offset : ℕ) → place_for first k n ≡ Some offset → place_in k n ≡ Some offset
has_place true k n offset is = is
has_place false k n offset is = absurd (cc is)

variable_case : (mode : Mode) (p : Parts) (t id n : ℕ) (timeout : ℤ) (k : VariablePool) (place : Option ℕ) → ((offset : ℕ) → place ≡ Some offset → place_in k n ≡ Some offset) →
    LieApart k → 0 < n → MayWait p.base t → AreShort p.objects → 1 ≤ id → id ≤ 64 →
    variable_at p.objects.pools id ≡ Some k → size_of (asked_size p.objects.pools t n) t ≡ n → OthersAsk p.objects.pools (asked_size p.objects.pools t n) t → HasSettled mode p →
    let c : Base = make_wait p.base t (variable_object id) k.order timeout in
    let asked : Pools = asked_size p.objects.pools t n in
    serve_variable_pools (record { base = c; table = asked }) ≡ block_given (record { base = c; table = asked }) id k t place →
    pool_waits p (placed (pool_parts p) t id n timeout k place) ≡ after_settling p t timeout
    (settle mode (joins p t (variable_object id) k.order timeout (record p.objects { pools = asked })))
variable_case mode p t id n timeout k None found lie some may short one most at asks others settled own =
    let c : Base = make_wait p.base t (variable_object id) k.order timeout in
    let asked : Pools = asked_size p.objects.pools t n in
    let now : Parts = pools_to p c asked in
    let away : AwayFrom p.base c (variable_object id) = queue_elsewhere p.base t (variable_object id) k.order timeout may in
    let no_mutex : IsNoMutex (variable_object id) = grind (arith, nat_tests, one) in
    sym (waits_on mode p now t timeout
    (record {
      unserved = variable_first p c asked id short one most away refl (none_of p settled.unserved) ∙ ap (option_map (with_pools now)) own;
      up_to_date = kept_up_to_date p.base c p.objects.mutexes (joined_keeps p.base t (variable_object id) k.order timeout may no_mutex) settled.up_to_date;
      given = given_still mode p now refl (away 648 (λ e. omega (arith, e, most))) settled.given;
    })
    (joined_waits p.base t (variable_object id) k.order timeout may)
    ∙ over_pool p c asked (int_eq timeout (pos 0)))
variable_case mode p t id n timeout k (Some offset) found lie some may short one most at asks others settled own =
    let c : Base = make_wait p.base t (variable_object id) k.order timeout in
    let asked : Pools = asked_size p.objects.pools t n in
    let now : Parts = pools_to p c asked in
    let result : Answer = plain (pos offset) in
    let d : Base = release c t result in
    let given : ℕ → Pools → Pools = λ size m. with_live m id k (record { offset = offset; size = size }) in
    let left : Pools = given (size_of asked t) asked in
    let served : Parts = pools_to p d left in
    let away : AwayFrom p.base c (variable_object id) = queue_elsewhere p.base t (variable_object id) k.order timeout may in
    let rejoined : (other : ℕ) → SameQueue p.base d other = queue_rejoined p.base t (variable_object id) k.order timeout result may in
    let no_mutex : IsNoMutex (variable_object id) = grind (arith, nat_tests, one) in
    let none = none_of p settled.unserved in
    let up = kept_up_to_date p.base c p.objects.mutexes (joined_keeps p.base t (variable_object id) k.order timeout may no_mutex) settled.up_to_date in
    let nowhere : (m : ℕ) → place_in k m ≡ None → place_in (fuller k (record { offset = offset; size = size_of asked t })) m ≡ None =
    λ m is. ap (λ size. place_in (fuller k (record { offset = offset; size = size })) m) asks ∙ still_nowhere k offset n m lie some (found offset refl) is in
    let done : serve_object served ≡ None =
    variable_first p d left id short one most (λ other apart. rejoined other) refl none
    ∙ ap (option_map (with_pools served))
    (variable_done (pool_parts p) (pool_parts served) t id k (fuller k (record { offset = offset; size = size_of asked t })) may at refl refl others rejoined nowhere none.variable) in
    sym (returns_once mode p now served t timeout result up
    (variable_first p c asked id short one most away refl none ∙ ap (option_map (with_pools now)) own)
    (record {
      unserved = done;
      up_to_date = kept_up_to_date c d p.objects.mutexes (served_keeps p.base t (variable_object id) k.order timeout result may no_mutex) up;
      given = given_still mode p served refl (rejoined 648) settled.given;
    })
    (joined_waits p.base t (variable_object id) k.order timeout may) refl
    ∙ ap (λ base. record { parts = pools_to p base (given (size_of asked t) p.objects.pools); outcome = Returned result })
    (base_back p.base t (variable_object id) k.order timeout result may)
    ∙ ap (λ size. record { parts = pools_to p p.base (given size p.objects.pools); outcome = Returned result }) asks)

-- a call for a block of a variable pool does what the paragraph says
pub variable_call_is_paragraph : (mode : Mode) (p : Parts) (t id n : ℕ) (timeout : ℤ) (k : VariablePool) → IsSettled mode p → MayWait p.base t → 1 ≤ id →
    variable_at p.objects.pools id ≡ Some k → LieApart k → 0 < n → t < length p.objects.pools.sizes →
    pool_waits p (got_from_variable (pool_parts p) t id n timeout (Some k)) ≡ paragraph mode p t (variable_object id) k.order timeout
    (record p.objects { pools = asked_size p.objects.pools t n })
unfolding paragraph serve_variable
variable_call_is_paragraph mode p t id n timeout k settled may one at lie some inside =
    let m : Pools = p.objects.pools in
    let c : Base = make_wait p.base t (variable_object id) k.order timeout in
    let asked : Pools = asked_size m t n in
    let q : PoolParts = record { base = c; table = asked } in
    let waiters : List ℕ = variable_waiters p.base k id in
    let few = settled.short.variable in
    let stands = entry_inside m.variable id k at in
    let none = none_of p settled.unserved in
    let asks : size_of asked t ≡ n = get_or-set_same m.sizes t n 0 inside in
    let others : OthersAsk m asked t = λ u apart. get_or-set_other m.sizes t u n 0 apart in
    variable_case mode p t id n timeout k (place_for (would_be_first k.order p.base t waiters) k n)
    (λ offset is. has_place (would_be_first k.order p.base t waiters) k n offset is)
    lie some may settled.short one (omega (arith, few, stands)) at asks others (has_settled mode p settled)
    (variable_alone (pool_parts p) q t id k may one at refl others (queue_elsewhere p.base t (variable_object id) k.order timeout may) none.variable
    ∙ ap (serve_variable_at q id) at
    ∙ ap (variable_serves q id k) (queue_joined k.order p.base t (variable_object id) k.order timeout may)
    ∙ variable_joined k.order (pool_parts p) q t id n k waiters
    (queue_absent k.order p.base t (variable_object id) (ready_for_none p.base t (variable_object id) may)) asks others
    (ap (serve_variable_at (pool_parts p) id) (sym at) ∙ each_variable (pool_parts p) id one none.variable (Some k) at))
