-- A call that waits at a pool decides as its trial does.
use Rattle.std.proofs.Common.{◌≡◌, ℕ, zero, suc, ◌<◌, Bool, true, false, List, [], ◌∷◌, ◌++◌, Option, Some, None, length, refl, cond, ◌∙◌, ap, sym, ℤ, pos}
use Rattle.std.specs.Prelude.{nat_lt}
use Rattle.std.specs.Option.{option_map_or}
use Rattle.std.proofs.lemmas.List.{get_or-set_same, get_or-set_other}
use Rattle.tk_types.specs.declared.answer.Answer.{Answer}
use Rattle.tk_types.specs.declared.answer.Outcome.TheVariants.{Returned}
use Rattle.tk_types.specs.declared.task.Order.{Order}
use Rattle.tk_types.specs.declared.task.Order.TheVariants.{Fifo, Priority}
use Rattle.kernel_model.specs.LawWords.Once.{times}
use Rattle.kernel_model.specs.SemFlags.Calls.{would_be_first}
use Rattle.kernel_model.specs.SemFlags.Trial.{MayWait, back_in}
use Rattle.kernel_model.specs.Tasks.Base.{Base, current, is_waiting, make_wait, release}
use Rattle.kernel_model.specs.Words.Checks.{plain}
use Rattle.kernel_model.specs.Words.Orders.{insert_behind}
use Rattle.call_lemmas.proofs.Picks.{joined, apart_from_first}
use Rattle.call_lemmas.proofs.Serving.{queue_absent}
use Rattle.call_lemmas.proofs.Trial.{joined_waits, queue_joined, ready_for_none}
use Rattle.object_model.specs.Pools.Tables.{FixedPool, VariablePool, Pools, PoolParts, fixed_object, variable_object, fixed_at, variable_at, size_of}
use Rattle.object_model.specs.Pools.Fixed.{free_block, with_block, fixed_waiters, fixed_serves, serve_fixed, serve_fixed_at}
use Rattle.object_model.specs.Pools.Variable.{place_in, with_live, variable_waiters, block_given, variable_serves, serve_variable, serve_variable_at}
use Rattle.object_model.specs.Pools.Calls.{PoolDone, pool_done, waits_or_ends, block_taken, got_from_fixed, placed, place_for, got_from_variable, table_changed}
use Rattle.mail_laws.proofs.Backs.{base_back, answered, one_joined}
use Rattle.pool_laws.specs.Trial.{fixed_trial, fixed_trial_of, asked_size, variable_trial, variable_trial_of}

-- ---- fixed pools

none_waits : (p : PoolParts) (id : ℕ) (k : FixedPool) (waiters : List ℕ) (before : ℕ) → fixed_serves p id k waiters (suc before) ≡ None → waiters ≡ []
none_waits p id k [] before none = refl
none_waits p id k (t ∷ waiters) before none = absurd (cc none)

nothing_free : (p : PoolParts) (id : ℕ) (k : FixedPool) (waiters : List ℕ) → fixed_serves p id k waiters zero ≡ None
nothing_free p id k [] = refl
nothing_free p id k (t ∷ waiters) = refl

-- the only waiter is served, and is back where it was
block_back : (p : PoolParts) (c : Base) (t id : ℕ) (timeout : ℤ) (k : FixedPool) (before : ℕ) → back_in p.base (release c t (plain (pos (suc before)))) t ≡ p.base → is_waiting c t ≡ true →
    table_changed p (with_block p.table id k (suc before) true) (pos (suc before)) ≡ fixed_trial_of p t id timeout k (fixed_serves (record p { base = c }) id k (t ∷ []) (suc before))
block_back p c t id timeout k before back waits =
    let table : Pools = with_block p.table id k (suc before) true in
    let returned : Answer → PoolDone = λ answer. pool_done (record { base = back_in p.base (release c t (plain (pos (suc before)))) t; table = table }) (Returned answer) in
    sym (ap (λ ended. option_map_or returned ended (waits_or_ends p t (fixed_object id) k.order timeout p.table)) (answered c t (plain (pos (suc before))) waits)
    ∙ ap (λ base. pool_done (record { base = base; table = table }) (Returned (plain (pos (suc before))))) back)

fixed_case : (p : PoolParts) (t id : ℕ) (timeout : ℤ) (k : FixedPool) (number : ℕ) → MayWait p.base t → fixed_serves p id k (fixed_waiters p.base k id) number ≡ None →
    let c : Base = make_wait p.base t (fixed_object id) k.order timeout in
    block_taken p t id timeout k number ≡ fixed_trial_of p t id timeout k (fixed_serves (record p { base = c }) id k (fixed_waiters c k id) number)
fixed_case p t id timeout k zero may none =
    let c : Base = make_wait p.base t (fixed_object id) k.order timeout in
    sym (ap (fixed_trial_of p t id timeout k) (nothing_free (record p { base = c }) id k (fixed_waiters c k id)))
fixed_case p t id timeout k (suc before) may none =
    let c : Base = make_wait p.base t (fixed_object id) k.order timeout in
    let alone : fixed_waiters c k id ≡ t ∷ [] =
    queue_joined k.order p.base t (fixed_object id) k.order timeout may
    ∙ ap (joined k.order (current p.base) t) (none_waits p id k (fixed_waiters p.base k id) before none)
    ∙ one_joined k.order (current p.base) t in
    block_back p c t id timeout k before (base_back p.base t (fixed_object id) k.order timeout (plain (pos (suc before))) may) (joined_waits p.base t (fixed_object id) k.order timeout may)
    ∙ ap (λ waiters. fixed_trial_of p t id timeout k (fixed_serves (record p { base = c }) id k waiters (suc before))) (sym alone)

pub fixed_call_is_trial : (p : PoolParts) (t id : ℕ) (timeout : ℤ) (k : FixedPool) → MayWait p.base t → fixed_at p.table id ≡ Some k → serve_fixed p id ≡ None →
    got_from_fixed p t id timeout (Some k) ≡ fixed_trial p t id timeout k
unfolding serve_fixed fixed_trial
fixed_call_is_trial p t id timeout k may at none =
    fixed_case p t id timeout k (free_block k) may (ap (serve_fixed_at p id) (sym at) ∙ none)
    ∙ ap (λ slot. fixed_trial_of p t id timeout k (serve_fixed_at (record p { base = make_wait p.base t (fixed_object id) k.order timeout }) id slot)) (sym at)

-- ---- variable pools

-- the caller is served, where its size has a place, and is back where it was
place_back : (p : PoolParts) (c : Base) (t id n : ℕ) (timeout : ℤ) (k : VariablePool) (place : Option ℕ) → ((answer : Answer) → back_in p.base (release c t answer) t ≡ p.base) → is_waiting c t ≡ true → size_of (asked_size p.table t n) t ≡ n →
    placed p t id n timeout k place ≡ variable_trial_of p t id n timeout k (block_given (record { base = c; table = asked_size p.table t n }) id k t place)
place_back p c t id n timeout k None back waits asked = refl
place_back p c t id n timeout k (Some offset) back waits asked =
    let given : ℕ → Pools = λ size. with_live p.table id k (record { offset = offset; size = size }) in
    let late : PoolDone = waits_or_ends p t (variable_object id) k.order timeout (asked_size p.table t n) in
    let returned : Answer → PoolDone = λ answer. pool_done (record { base = back_in p.base (release c t (plain (pos offset))) t; table = given (size_of (asked_size p.table t n) t) }) (Returned answer) in
    sym (ap (λ ended. option_map_or returned ended late) (answered c t (plain (pos offset)) waits)
    ∙ ap (λ base. pool_done (record { base = base; table = given (size_of (asked_size p.table t n) t) }) (Returned (plain (pos offset)))) (back (plain (pos offset)))
    ∙ ap (λ size. pool_done (record { base = p.base; table = given size }) (Returned (plain (pos offset)))) asked)

no_place : (p : PoolParts) (id : ℕ) (k : VariablePool) (t : ℕ) (place : Option ℕ) → block_given p id k t place ≡ None → place ≡ None
no_place p id k t None none = refl
no_place p id k t (Some offset) none = absurd (cc none)

nowhere : (p : PoolParts) (id : ℕ) (k : VariablePool) (t : ℕ) (place : Option ℕ) → place ≡ None → block_given p id k t place ≡ None
nowhere p id k t place none = ap (block_given p id k t) none

-- where somebody else stands first, nobody is served, as before
first_stays : (p : PoolParts) (c : Base) (t id n : ℕ) (timeout : ℤ) (k : VariablePool) (first : ℕ) → (first ≡ t → ⊥) → block_given p id k first (place_in k (size_of p.table first)) ≡ None →
    block_given (record { base = c; table = asked_size p.table t n }) id k first (place_in k (size_of (asked_size p.table t n) first)) ≡ None
first_stays p c t id n timeout k first apart none =
    nowhere (record { base = c; table = asked_size p.table t n }) id k first _
    (ap (place_in k) (get_or-set_other p.table.sizes t first n 0 apart) ∙ no_place p id k first (place_in k (size_of p.table first)) none)

joined_if : (p : PoolParts) (c : Base) (t id n : ℕ) (timeout : ℤ) (k : VariablePool) (first : ℕ) (rest behind : List ℕ) (before : Bool) → (first ≡ t → ⊥) →
    ((answer : Answer) → back_in p.base (release c t answer) t ≡ p.base) → is_waiting c t ≡ true → size_of (asked_size p.table t n) t ≡ n →
    block_given p id k first (place_in k (size_of p.table first)) ≡ None →
    placed p t id n timeout k (place_for before k n) ≡ variable_trial_of p t id n timeout k (variable_serves (record { base = c; table = asked_size p.table t n }) id k (cond before (t ∷ first ∷ rest) (first ∷ behind)))
joined_if p c t id n timeout k first rest behind true apart back waits asked none =
    place_back p c t id n timeout k (place_in k n) back waits asked
    ∙ ap (λ size. variable_trial_of p t id n timeout k (block_given (record { base = c; table = asked_size p.table t n }) id k t (place_in k size))) (sym asked)
joined_if p c t id n timeout k first rest behind false apart back waits asked none =
    sym (ap (variable_trial_of p t id n timeout k) (first_stays p c t id n timeout k first apart none))

alone_case : (p : PoolParts) (c : Base) (t id n : ℕ) (timeout : ℤ) (k : VariablePool) → ((answer : Answer) → back_in p.base (release c t answer) t ≡ p.base) → is_waiting c t ≡ true → size_of (asked_size p.table t n) t ≡ n →
    placed p t id n timeout k (place_in k n) ≡ variable_trial_of p t id n timeout k (variable_serves (record { base = c; table = asked_size p.table t n }) id k (t ∷ []))
alone_case p c t id n timeout k back waits asked =
    place_back p c t id n timeout k (place_in k n) back waits asked
    ∙ ap (λ size. variable_trial_of p t id n timeout k (block_given (record { base = c; table = asked_size p.table t n }) id k t (place_in k size))) (sym asked)

variable_case : (order : Order) (p : PoolParts) (c : Base) (t id n : ℕ) (timeout : ℤ) (k : VariablePool) (waiters : List ℕ) → times t waiters ≡ 0 →
    ((answer : Answer) → back_in p.base (release c t answer) t ≡ p.base) → is_waiting c t ≡ true → size_of (asked_size p.table t n) t ≡ n →
    variable_serves p id k waiters ≡ None →
    placed p t id n timeout k (place_for (would_be_first order p.base t waiters) k n) ≡ variable_trial_of p t id n timeout k (variable_serves (record { base = c; table = asked_size p.table t n }) id k (joined order (current p.base) t waiters))
variable_case Fifo p c t id n timeout k [] absent back waits asked none = alone_case p c t id n timeout k back waits asked
variable_case Priority p c t id n timeout k [] absent back waits asked none = alone_case p c t id n timeout k back waits asked
variable_case Fifo p c t id n timeout k (first ∷ rest) absent back waits asked none =
    joined_if p c t id n timeout k first rest (rest ++ t ∷ []) false (apart_from_first t first rest absent) back waits asked none
variable_case Priority p c t id n timeout k (first ∷ rest) absent back waits asked none =
    joined_if p c t id n timeout k first rest (insert_behind (current p.base) t rest) (nat_lt (current p.base t) (current p.base first)) (apart_from_first t first rest absent) back waits asked none

pub variable_call_is_trial : (p : PoolParts) (t id n : ℕ) (timeout : ℤ) (k : VariablePool) → MayWait p.base t → variable_at p.table id ≡ Some k → t < length p.table.sizes → serve_variable p id ≡ None →
    got_from_variable p t id n timeout (Some k) ≡ variable_trial p t id n timeout k
unfolding serve_variable variable_trial
variable_call_is_trial p t id n timeout k may at inside none =
    let c : Base = make_wait p.base t (variable_object id) k.order timeout in
    let joined_in : PoolParts = record { base = c; table = asked_size p.table t n } in
    variable_case k.order p c t id n timeout k (variable_waiters p.base k id) (queue_absent k.order p.base t (variable_object id) (ready_for_none p.base t (variable_object id) may))
    (λ answer. base_back p.base t (variable_object id) k.order timeout answer may) (joined_waits p.base t (variable_object id) k.order timeout may) (get_or-set_same p.table.sizes t n 0 inside)
    (ap (serve_variable_at p id) (sym at) ∙ none)
    ∙ ap (λ waiters. variable_trial_of p t id n timeout k (variable_serves joined_in id k waiters)) (sym (queue_joined k.order p.base t (variable_object id) k.order timeout may))
    ∙ ap (λ slot. variable_trial_of p t id n timeout k (serve_variable_at joined_in id slot)) (sym at)
