-- Each task that waits for a variable pool asks for some bytes, whatever is called and whoever is served.
use Rattle.std.proofs.Common.{◌≡◌, ℕ, zero, suc, ◌+◌, ◌≤◌, ◌<◌, ◌⊎◌, inl, inr, Bool, true, false, cond, List, [], ◌∷◌, Option, Some, None, length, refl, ◌∙◌, ap, sym, subst, ℤ, pos, negsuc, arith}
use Rattle.std.specs.Prelude.{slice_set, replicate}
use Rattle.std.specs.Bool.{◌==◌}
use Rattle.std.specs.Ordering.{int_eq}
use Rattle.std.proofs.lemmas.Bool.Decides.{nat_tests}
use Rattle.std.proofs.lemmas.List.{get_or-set_same, get_or-set_other, length-set}
use Rattle.tk_types.specs.declared.answer.Answer.{Answer}
use Rattle.tk_types.specs.declared.answer.Who.{Who}
use Rattle.tk_types.specs.declared.answer.Outcome.{Outcome}
use Rattle.tk_types.specs.declared.answer.Outcome.TheVariants.{Blocked}
use Rattle.tk_types.specs.declared.error_code.Er.{Er}
use Rattle.tk_types.specs.declared.error_code.Er.TheVariants as er
use Rattle.tk_types.specs.declared.calls.PoolCall.{PoolCall}
use Rattle.tk_types.specs.declared.calls.PoolCall.TheVariants as call
use Rattle.tk_types.specs.declared.task.Order.{Order}
use Rattle.tk_types.specs.declared.task.Order.TheVariants.{Fifo}
use Rattle.tk_types.specs.declared.task.Task.{Task}
use Rattle.tk_types.specs.declared.task.Phase.TheVariants.{Ready, Waiting}
use Rattle.kernel_model.specs.Words.Checks.{Check, first_error, natural, done, failed, plain, within}
use Rattle.kernel_model.specs.Words.Orders.{entry}
use Rattle.kernel_model.specs.Tasks.Base.{Base, task_at, waiting_in, waits_for, is_waiting, queue, make_wait, release, has_room, take_bytes, base_start}
use Rattle.kernel_model.specs.Tasks.Calls.{caller}
use Rattle.kernel_model.specs.SemFlags.Calls.{object_checks, would_be_first, end_first, first_ended}
use Rattle.kernel_lemmas.proofs.Tables.{entry_other, entry_there, entry_split, entry_each, entry_same}
use Rattle.kernel_lemmas.proofs.Releases.{release_others, release_over}
use Rattle.call_lemmas.proofs.Checked.{holds_at}
use Rattle.call_lemmas.proofs.Serving.{waits_for_waits}
use Rattle.object_model.specs.Pools.Tables.{FixedPool, VariablePool, Pools, PoolParts, pools_start, fixed_object, variable_object, fixed_at, variable_at, has_mpf, has_mpl, size_of, with_variable}
use Rattle.object_model.specs.Pools.Fixed.{free_block, fixed_waiters, fixed_serves, serve_fixed, serve_fixed_at, serve_fixed_pools}
use Rattle.object_model.specs.Pools.Variable.{block_size, place_in, variable_waiters, with_live, block_given, variable_serves, serve_variable, serve_variable_at, serve_variable_pools}
use Rattle.object_model.specs.Pools.Calls as Calls
use Rattle.object_model.specs.Pools.Calls.{PoolDone, pool_done, refused_with, pool_checked, pool_call, create_fixed, delete_fixed, get_fixed, release_fixed, refer_fixed, create_variable, delete_variable, get_variable, release_variable, refer_variable}
use Rattle.mail_laws.proofs.Waits.{of_first}
use Rattle.pool_laws.specs.Blocks.{AskForSome}
use Rattle.pool_laws.proofs.Apart.{some_bytes}

-- ---- who waits

-- nobody waits in a base who didn't in another one
WaitsFewer : Base → Base → Type 0
WaitsFewer b c = (object u : ℕ) → waits_for c object u ≡ true → waits_for b object u ≡ true

release_if : (b : Base) (t object u : ℕ) (result : Answer) (same : Bool) → (u == t) ≡ same → waits_for (release b t result) object u ≡ true → waits_for b object u ≡ true
release_if b t object u result true is waits =
    let e : u ≡ t = grind (arith, nat_tests, is) in
    let here : is_waiting (release b t result) u ≡ true = waits_for_waits (release b t result) u object waits in
    let over : is_waiting (release b t result) u ≡ false = ap (is_waiting (release b t result)) e ∙ release_over b t result in
    absurd (cc (here, over))
release_if b t object u result false is waits = sym (ap (waiting_in object) (release_others b t u result (λ e. grind (arith, nat_tests, is, e)))) ∙ waits

release_fewer : (b : Base) (t : ℕ) (result : Answer) → WaitsFewer b (release b t result)
unfolding WaitsFewer
release_fewer b t result object u waits = release_if b t object u result (u == t) refl waits

ended_fewer : (b : Base) (ids : List ℕ) → WaitsFewer b (first_ended ids b)
unfolding WaitsFewer
ended_fewer b [] object u waits = waits
ended_fewer b (t ∷ ids) object u waits = release_if b t object u _ (u == t) refl waits

ends_fewer : (left : ℕ) (order : Order) (of_object : ℕ) (b : Base) → WaitsFewer b (end_first left order of_object b)
unfolding WaitsFewer end_first
ends_fewer zero order of_object b object u waits = waits
ends_fewer (suc left) order of_object b object u waits = ended_fewer b (queue order b of_object) object u (ends_fewer left order of_object (first_ended (queue order b of_object) b) object u waits)

room_if : (b c : Base) (test : Bool) → WaitsFewer b c → WaitsFewer b (cond test c b)
unfolding WaitsFewer
room_if b c true fewer = fewer
room_if b c false fewer = λ object u waits. waits

taken_fewer : (b : Base) (n : ℕ) → WaitsFewer b (take_bytes b n)
unfolding WaitsFewer
taken_fewer b n = room_if b (record b { bytes = b.bytes + n }) (has_room b n) (λ object u waits. waits)

joined_if : (b : Base) (t object of_object u : ℕ) (k : Task) (order : Order) (same : Bool) → (u == t) ≡ same → task_at b t ≡ Some k →
    waiting_in object (entry (slice_set b.tasks t (Some (record k { phase = Waiting of_object; queue = order }))) u) ≡ true →
    ((u ≡ t) × (object ≡ of_object)) ⊎ (waits_for b object u ≡ true)
joined_if b t object of_object u k order true is at waits =
    let e : u ≡ t = grind (arith, nat_tests, is) in
    let row : entry (slice_set b.tasks t (Some (record k { phase = Waiting of_object; queue = order }))) u ≡ Some (record k { phase = Waiting of_object; queue = order }) =
    ap (entry (slice_set b.tasks t (Some (record k { phase = Waiting of_object; queue = order })))) e ∙ entry_there b.tasks t k (Some (record k { phase = Waiting of_object; queue = order })) at in
    let test : (of_object == object) ≡ true = sym (ap (waiting_in object) row) ∙ waits in
    inl (e, grind (arith, nat_tests, test))
joined_if b t object of_object u k order false is at waits =
    inr (sym (ap (waiting_in object) (entry_other b.tasks t u (Some (record k { phase = Waiting of_object; queue = order })) (λ e. grind (arith, nat_tests, is, e)))) ∙ waits)

-- who waits once a task has joined is that task, for its object, or waited before
joined_cases : (b : Base) (t of_object object u : ℕ) (order : Order) (timeout : ℤ) → waits_for (make_wait b t of_object order timeout) object u ≡ true →
    ((u ≡ t) × (object ≡ of_object)) ⊎ (waits_for b object u ≡ true)
joined_cases b t of_object object u order (pos n) waits =
    entry_split (λ c. waits_for c object u ≡ true → ((u ≡ t) × (object ≡ of_object)) ⊎ (waits_for b object u ≡ true)) (task_at b t) b _ (λ none now. inr now)
    (λ k at now. joined_if b t object of_object u k order (u == t) refl at now) waits
joined_cases b t of_object object u order (negsuc n) waits =
    entry_split (λ c. waits_for c object u ≡ true → ((u ≡ t) × (object ≡ of_object)) ⊎ (waits_for b object u ≡ true)) (task_at b t) b _ (λ none now. inr now)
    (λ k at now. joined_if b t object of_object u k order (u == t) refl at now) waits

-- ---- fewer that wait, with the sizes as they were

fewer_ask : (p : PoolParts) (b : Base) (m : Pools) → AskForSome p → WaitsFewer p.base b → m.sizes ≡ p.table.sizes → length m.variable ≤ length p.table.variable → AskForSome (record { base = b; table = m })
unfolding WaitsFewer
fewer_ask p b m ask fewer same slots id t least below waits =
    subst (λ (sizes : List ℕ). 0 < size_of (record m { sizes = sizes }) t) (sym same) (ask id t least (omega (arith, below, slots)) (fewer (variable_object id) t waits))

-- a slot that is written makes no table longer
pool_slots : (m : Pools) (id : ℕ) (slot : Option VariablePool) → length (with_variable m id slot).variable ≤ length m.variable
pool_slots m id slot = let same = length-set m.variable id slot in omega (arith, same)

AskIf : Option PoolParts → Type 0
AskIf None = Unit {0}
AskIf (Some q) = AskForSome q

of_some : (o : Option PoolParts) (q : PoolParts) → AskIf o → o ≡ Some q → AskForSome q
unfolding AskIf
of_some None q ask is = absurd (cc is)
of_some (Some now) q ask is = let same : now ≡ q = cc is in subst AskForSome same ask

-- ---- servings

given_ask : (p : PoolParts) (id : ℕ) (k : VariablePool) (t : ℕ) (place : Option ℕ) → AskForSome p → AskIf (block_given p id k t place)
unfolding AskIf
given_ask p id k t None ask = tt
given_ask p id k t (Some offset) ask =
    fewer_ask p (release p.base t (plain (pos offset))) (with_live p.table id k (record { offset = offset; size = size_of p.table t })) ask (release_fewer p.base t (plain (pos offset))) refl (pool_slots p.table id _)

variable_case : (p : PoolParts) (id : ℕ) (k : VariablePool) (waiters : List ℕ) → AskForSome p → AskIf (variable_serves p id k waiters)
unfolding AskIf
variable_case p id k [] ask = tt
variable_case p id k (t ∷ ts) ask = given_ask p id k t (place_in k (size_of p.table t)) ask

variable_slot : (p : PoolParts) (id : ℕ) (slot : Option VariablePool) → AskForSome p → AskIf (serve_variable_at p id slot)
unfolding AskIf
variable_slot p id None ask = tt
variable_slot p id (Some k) ask = variable_case p id k (variable_waiters p.base k id) ask

variable_one : (p q : PoolParts) (id : ℕ) → AskForSome p → serve_variable p id ≡ Some q → AskForSome q
unfolding serve_variable
variable_one p q id ask served = of_some (serve_variable_at p id (variable_at p.table id)) q (variable_slot p id (variable_at p.table id) ask) served

pub variable_asks : (p q : PoolParts) → AskForSome p → serve_variable_pools p ≡ Some q → AskForSome q
unfolding serve_variable_pools
variable_asks p q ask served = of_first AskForSome (serve_variable p) _ q (λ id. variable_one p q id ask) served

fixed_case : (p : PoolParts) (id : ℕ) (k : FixedPool) (waiters : List ℕ) (number : ℕ) → AskForSome p → AskIf (fixed_serves p id k waiters number)
unfolding AskIf
fixed_case p id k [] number ask = tt
fixed_case p id k (t ∷ ts) zero ask = tt
fixed_case p id k (t ∷ ts) (suc before) ask = fewer_ask p (release p.base t (plain (pos (suc before)))) p.table ask (release_fewer p.base t (plain (pos (suc before)))) refl (omega arith)

fixed_slot : (p : PoolParts) (id : ℕ) (slot : Option FixedPool) → AskForSome p → AskIf (serve_fixed_at p id slot)
unfolding AskIf
fixed_slot p id None ask = tt
fixed_slot p id (Some k) ask = fixed_case p id k (fixed_waiters p.base k id) (free_block k) ask

fixed_one : (p q : PoolParts) (id : ℕ) → AskForSome p → serve_fixed p id ≡ Some q → AskForSome q
unfolding serve_fixed
fixed_one p q id ask served = of_some (serve_fixed_at p id (fixed_at p.table id)) q (fixed_slot p id (fixed_at p.table id) ask) served

pub fixed_asks : (p q : PoolParts) → AskForSome p → serve_fixed_pools p ≡ Some q → AskForSome q
unfolding serve_fixed_pools
fixed_asks p q ask served = of_first AskForSome (serve_fixed p) _ q (λ id. fixed_one p q id ask) served

-- ---- calls

abbrev left_by : PoolDone → PoolParts
left_by result = record { base = result.base; table = result.table }

refused_or : (p : PoolParts) (error : Option Er) (effect : PoolDone) → AskForSome p → (error ≡ None → AskForSome (left_by effect)) → AskForSome (left_by (refused_with error p effect))
refused_or p (Some error) effect ask now = ask
refused_or p None effect ask now = now refl

checked : (p : PoolParts) (checks : List Check) (effect : PoolDone) → AskForSome p → (first_error checks ≡ None → AskForSome (left_by effect)) → AskForSome (left_by (pool_checked checks p effect))
checked p checks effect ask now = refused_or p (first_error checks) effect ask now

stays : (p : PoolParts) (m : Pools) (outcome : Outcome) → AskForSome p → m.sizes ≡ p.table.sizes → length m.variable ≤ length p.table.variable → AskForSome (left_by (pool_done (record p { table = m }) outcome))
unfolding WaitsFewer
stays p m outcome ask same slots = fewer_ask p p.base m ask (λ object u waits. waits) same slots

waits_if : (p : PoolParts) (base : Base) (asked : Pools) (over : Bool) → AskForSome p → AskForSome (record { base = base; table = asked }) →
    AskForSome (left_by (cond over (pool_done p (failed er.TmOut)) (pool_done (record { base = base; table = asked }) Blocked)))
waits_if p base asked true ask now = ask
waits_if p base asked false ask now = now

id_below : (id : ℤ) → within 1 64 id ≡ true → natural id ≤ 64
id_below (pos n) is = grind (arith, nat_tests, is)
id_below (negsuc n) is = omega arith

-- a wait for a fixed pool is none for a variable one
fixed_waits : (p : PoolParts) (t id : ℕ) (order : Order) (timeout : ℤ) → id ≤ 64 → AskForSome p → AskForSome (record { base = make_wait p.base t (fixed_object id) order timeout; table = p.table })
fixed_waits p t id order timeout most ask other u least below waits = elim (joined_cases p.base t (fixed_object id) (variable_object other) u order timeout waits) [
  | inl own ↦ absurd (let same : variable_object other ≡ fixed_object id = own.1 in omega (arith, same, most, least))
  | inr before ↦ ask other u least below before
]

-- the size of another task is as it was, and its own is some bytes
kept_size : (p : PoolParts) (t u n : ℕ) → 0 < n → t < length p.table.sizes → (same : Bool) → (u == t) ≡ same → 0 < size_of p.table u → 0 < size_of (record p.table { sizes = slice_set p.table.sizes t n }) u
kept_size p t u n some inside true is before =
    let e : u ≡ t = grind (arith, nat_tests, is) in
    let set : size_of (record p.table { sizes = slice_set p.table.sizes t n }) u ≡ n = ap (size_of (record p.table { sizes = slice_set p.table.sizes t n })) e ∙ get_or-set_same p.table.sizes t n 0 inside in omega (arith, set, some)
kept_size p t u n some inside false is before =
    let apart : u ≡ t → ⊥ = λ e. grind (arith, nat_tests, is, e) in
    let kept : size_of (record p.table { sizes = slice_set p.table.sizes t n }) u ≡ size_of p.table u = get_or-set_other p.table.sizes t u n 0 apart in omega (arith, kept, before)

-- a wait for a variable pool comes with its size
variable_waits : (p : PoolParts) (t id n : ℕ) (order : Order) (timeout : ℤ) → 0 < n → t < length p.table.sizes → AskForSome p →
    AskForSome (record { base = make_wait p.base t (variable_object id) order timeout; table = record p.table { sizes = slice_set p.table.sizes t n } })
variable_waits p t id n order timeout some inside ask other u least below waits = elim (joined_cases p.base t (variable_object id) (variable_object other) u order timeout waits) [
  | inl own ↦ (let set : size_of (record p.table { sizes = slice_set p.table.sizes t n }) u ≡ n = ap (size_of (record p.table { sizes = slice_set p.table.sizes t n })) own.0 ∙ get_or-set_same p.table.sizes t n 0 inside in omega (arith, set, some))
  | inr before ↦ kept_size p t u n some inside (u == t) refl (ask other u least below before)
]

block_asks : (p : PoolParts) (t id : ℕ) (timeout : ℤ) (k : FixedPool) (number : ℕ) → id ≤ 64 → AskForSome p → AskForSome (left_by (Calls.block_taken p t id timeout k number))
block_asks p t id timeout k zero most ask = waits_if p _ p.table (int_eq timeout (pos 0)) ask (fixed_waits p t id k.order timeout most ask)
block_asks p t id timeout k (suc before) most ask = ask

got_fixed : (p : PoolParts) (t id : ℕ) (timeout : ℤ) (slot : Option FixedPool) → id ≤ 64 → AskForSome p → AskForSome (left_by (Calls.got_from_fixed p t id timeout slot))
got_fixed p t id timeout None most ask = ask
got_fixed p t id timeout (Some k) most ask = block_asks p t id timeout k (free_block k) most ask

placed_asks : (p : PoolParts) (t id n : ℕ) (timeout : ℤ) (k : VariablePool) (place : Option ℕ) → 0 < n → t < length p.table.sizes → AskForSome p → AskForSome (left_by (Calls.placed p t id n timeout k place))
placed_asks p t id n timeout k None some inside ask = waits_if p _ _ (int_eq timeout (pos 0)) ask (variable_waits p t id n k.order timeout some inside ask)
placed_asks p t id n timeout k (Some offset) some inside ask =
    stays p (with_live p.table id k (record { offset = offset; size = n })) (done (pos offset)) ask refl (pool_slots p.table id _)

got_variable : (p : PoolParts) (t id n : ℕ) (timeout : ℤ) (slot : Option VariablePool) → 0 < n → t < length p.table.sizes → AskForSome p → AskForSome (left_by (Calls.got_from_variable p t id n timeout slot))
got_variable p t id n timeout None some inside ask = ask
got_variable p t id n timeout (Some k) some inside ask = placed_asks p t id n timeout k (Calls.place_for (would_be_first k.order p.base t (variable_waiters p.base k id)) k n) some inside ask

fixed_back : (m : Pools) (id number : ℕ) (slot : Option FixedPool) → (Calls.block_back m id number slot).sizes ≡ m.sizes
fixed_back m id number None = refl
fixed_back m id number (Some k) = refl

fixed_slots : (m : Pools) (id number : ℕ) (slot : Option FixedPool) → length (Calls.block_back m id number slot).variable ≤ length m.variable
fixed_slots m id number None = omega arith
fixed_slots m id number (Some k) = omega arith

freed_slots : (m : Pools) (id offset : ℕ) (slot : Option VariablePool) → length (Calls.block_freed m id offset slot).variable ≤ length m.variable
freed_slots m id offset None = omega arith
freed_slots m id offset (Some k) = pool_slots m id _

freed_same : (m : Pools) (id offset : ℕ) (slot : Option VariablePool) → (Calls.block_freed m id offset slot).sizes ≡ m.sizes
freed_same m id offset None = refl
freed_same m id offset (Some k) = refl

fixed_gone : (b : Base) (id : ℕ) (slot : Option FixedPool) → WaitsFewer b (Calls.fixed_ended b id slot)
unfolding WaitsFewer
fixed_gone b id None object u waits = waits
fixed_gone b id (Some k) object u waits = ends_fewer (length (queue k.order b (fixed_object id))) k.order (fixed_object id) b object u waits

variable_gone : (b : Base) (id : ℕ) (slot : Option VariablePool) → WaitsFewer b (Calls.variable_ended b id slot)
unfolding WaitsFewer
variable_gone b id None object u waits = waits
variable_gone b id (Some k) object u waits = ends_fewer (length (queue k.order b (variable_object id))) k.order (variable_object id) b object u waits

pub call_asks : (p : PoolParts) (who : Who) (c : PoolCall) → caller who < length p.table.sizes → AskForSome p → AskForSome (left_by (pool_call p who c))
unfolding pool_call create_fixed delete_fixed get_fixed release_fixed refer_fixed create_variable delete_variable get_variable release_variable refer_variable
call_asks p who (call.CreMpf attributes count size) inside ask = checked p (Calls.create_fixed_checks p attributes count size) _ ask (λ none. fewer_ask p _ p.table ask (taken_fewer p.base _) refl (omega arith))
call_asks p who (call.DelMpf id) inside ask = checked p (object_checks id (has_mpf p.table (natural id)) []) _ ask (λ none. fewer_ask p _ p.table ask (fixed_gone p.base (natural id) (fixed_at p.table (natural id))) refl (omega arith))
call_asks p who (call.GetMpf id timeout) inside ask = checked p (Calls.get_fixed_checks p who id timeout) _ ask
    (λ none. got_fixed p (caller who) (natural id) timeout (fixed_at p.table (natural id)) (id_below id (holds_at 0 (Calls.get_fixed_checks p who id timeout) none)) ask)
call_asks p who (call.RelMpf id block) inside ask = checked p (Calls.release_fixed_checks p id block) _ ask (λ none. stays p (Calls.block_back p.table (natural id) (natural block) (fixed_at p.table (natural id))) (done (pos 0)) ask (fixed_back p.table (natural id) (natural block) (fixed_at p.table (natural id))) (fixed_slots p.table (natural id) (natural block) (fixed_at p.table (natural id))))
call_asks p who (call.RefMpf id) inside ask = checked p (object_checks id (has_mpf p.table (natural id)) []) _ ask (λ none. ask)
call_asks p who (call.CreMpl attributes size) inside ask = checked p (Calls.create_variable_checks p attributes size) _ ask
    (λ none. fewer_ask p _ (with_variable p.table (Calls.free_variable p.table) (Some (Calls.new_variable attributes (block_size (natural size))))) ask (taken_fewer p.base _) refl (pool_slots p.table _ _))
call_asks p who (call.DelMpl id) inside ask = checked p (object_checks id (has_mpl p.table (natural id)) []) _ ask
    (λ none. fewer_ask p _ (with_variable p.table (natural id) None) ask (variable_gone p.base (natural id) (variable_at p.table (natural id))) refl (pool_slots p.table _ _))
call_asks p who (call.GetMpl id size timeout) inside ask = checked p (Calls.get_variable_checks p who id size timeout) _ ask
    (λ none. got_variable p (caller who) (natural id) (block_size (natural size)) timeout (variable_at p.table (natural id)) (some_bytes size (holds_at 1 (Calls.get_variable_checks p who id size timeout) none)) inside ask)
call_asks p who (call.RelMpl id offset) inside ask = checked p (Calls.release_variable_checks p id offset) _ ask (λ none. stays p (Calls.block_freed p.table (natural id) (natural offset) (variable_at p.table (natural id))) (done (pos 0)) ask (freed_same p.table (natural id) (natural offset) (variable_at p.table (natural id)))
    (freed_slots p.table (natural id) (natural offset) (variable_at p.table (natural id))))
call_asks p who (call.RefMpl id) inside ask = checked p (object_checks id (has_mpl p.table (natural id)) []) _ ask (λ none. ask)

-- ---- the start

none_there : (object n t : ℕ) → waiting_in object (entry (replicate {A = Option Task} n None) t) ≡ true → ⊥
none_there object zero t waits = absurd (cc waits)
none_there object (suc n) zero waits = absurd (cc waits)
none_there object (suc n) (suc t) waits = none_there object n t waits

first_task : ℕ → Task
first_task priority = record { phase = Ready; queue = Fifo; base = priority; initial = priority; current = priority; wakeups = 0; suspensions = 0; stack = 1024 }

-- at the start nobody waits
pub start_asks : (priority : ℕ) → AskForSome (record { base = base_start priority; table = pools_start })
unfolding first_task
start_asks priority id t least below waits = absurd (
    entry_each (λ j (o : Option Task). waiting_in (variable_object id) o ≡ true → ⊥) (replicate 256 None) 1 (Some (first_task priority))
    (entry_same (λ (o : Option Task). waiting_in (variable_object id) o ≡ true → ⊥) (replicate 256 None) 1 (Some (first_task priority)) (λ now. absurd (cc now)) (λ now. absurd (cc now)))
    (λ j apart. none_there (variable_object id) 256 j) t waits)
