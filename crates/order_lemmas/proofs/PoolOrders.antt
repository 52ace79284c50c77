-- Every call on memory pools leaves the tasks that wait in the order of what they wait for.
use Rattle.std.proofs.Common.{◌≡◌, ℕ, zero, suc, ◌≤◌, ◌*◌, Bool, true, false, cond, List, [], Option, Some, None, refl, ◌∙◌, ap, ℤ, pos}
use Rattle.std.specs.Prelude.{slice_set}
use Rattle.std.specs.Option.{option_map}
use Rattle.std.specs.Ordering.{int_eq}
use Rattle.tk_types.specs.declared.answer.Who.{Who}
use Rattle.tk_types.specs.declared.calls.PoolCall.{PoolCall}
use Rattle.tk_types.specs.declared.calls.PoolCall.TheVariants as call
use Rattle.tk_types.specs.declared.error_code.Er.{Er}
use Rattle.kernel_model.specs.Words.Checks.{Check, first_error, natural}
use Rattle.kernel_model.specs.Tasks.Base.{Base, make_wait, take_bytes}
use Rattle.kernel_model.specs.Tasks.Calls.{caller}
use Rattle.kernel_model.specs.Tasks.Waits.{HavePlaces}
use Rattle.kernel_model.specs.SemFlags.Calls.{end_waits, object_checks, would_be_first}
use Rattle.object_model.specs.Pools.Tables.{FixedPool, PoolParts, Pools, VariablePool, fixed_at, fixed_object, has_mpf, has_mpl, variable_at, variable_object, with_fixed, with_variable}
use Rattle.object_model.specs.Pools.Fixed.{free_block}
use Rattle.object_model.specs.Pools.Variable.{block_size, variable_waiters}
use Rattle.object_model.specs.Pools.Calls as calls
use Rattle.object_model.specs.Pools.Calls.{PoolDone, place_for, pool_call, pool_checked, refused_with}
use Rattle.machine_model.specs.States.Objects.{Objects}
use Rattle.machine_model.specs.States.Waits.{order_for}
use Rattle.call_lemmas.proofs.Checked.{holds_at}
use Rattle.order_lemmas.proofs.Rights.{AreRight, ended_fits, ended_idle, right_same, wait_fits}
use Rattle.order_lemmas.proofs.Ranges.{fixed_named, known_id, variable_named}
use Rattle.order_lemmas.proofs.TaskOrders.{taken_fits}
use Rattle.order_lemmas.proofs.Written.{fixed_free, fixed_idle, fixed_made, fixed_same, variable_free, variable_idle, variable_made, variable_same}

-- what holds of the base beside the tables of pools
abbrev pub PoolRight : Objects → Pools → Base → Type 0
PoolRight o m b = AreRight (order_for (record o { pools = m })) b

abbrev DoneRight : Objects → PoolDone → Type 0
DoneRight o done = PoolRight o done.table done.base

abbrev parts : Objects → Base → PoolParts
parts o b = record { base = b; table = o.pools }

refused_fits : (o : Objects) (error : Option Er) (b : Base) (effect : PoolDone) → PoolRight o o.pools b → (error ≡ None → DoneRight o effect) →
    DoneRight o (refused_with error (parts o b) effect)
refused_fits o (Some error) b effect all works = all
refused_fits o None b effect all works = works refl

checked_fits : (o : Objects) (checks : List Check) (b : Base) (effect : PoolDone) → PoolRight o o.pools b → (first_error checks ≡ None → DoneRight o effect) →
    DoneRight o (pool_checked checks (parts o b) effect)
checked_fits o checks b effect all works = refused_fits o (first_error checks) b effect all works

either_fits : (o : Objects) (test : Bool) (one other : PoolDone) → DoneRight o one → DoneRight o other → DoneRight o (cond {A = PoolDone} test one other)
either_fits o true one other first second = first
either_fits o false one other first second = second

-- ---- fixed pools

fixed_deleted : (o : Objects) (b : Base) (id : ℕ) (slot : Option FixedPool) → fixed_at o.pools id ≡ slot → HavePlaces b → AreRight (order_for o) b →
    PoolRight o (with_fixed o.pools id None) (calls.fixed_ended b id slot)
fixed_deleted o b id None at has all = fixed_free o b id None (λ least. at) all
fixed_deleted o b id (Some k) at has all =
    fixed_idle o (end_waits k.order (fixed_object id) b) id None (ended_idle k.order (fixed_object id) b has) (ended_fits (order_for o) k.order (fixed_object id) b all)

block_fits : (o : Objects) (b : Base) (t id : ℕ) (timeout : ℤ) (k : FixedPool) (number : ℕ) → fixed_at o.pools id ≡ Some k → 1 ≤ id → id ≤ 64 → AreRight (order_for o) b →
    DoneRight o (calls.block_taken (parts o b) t id timeout k number)
block_fits o b t id timeout k zero at least most all =
    either_fits o (int_eq timeout (pos 0)) _ _ all
    (wait_fits (order_for o) b t (fixed_object id) k.order timeout (fixed_named o id least most ∙ ap (option_map (λ k. k.order)) at) all)
block_fits o b t id timeout k (suc before) at least most all = fixed_same o b id k _ at refl all

fixed_got : (o : Objects) (b : Base) (t id : ℕ) (timeout : ℤ) (slot : Option FixedPool) → fixed_at o.pools id ≡ slot → 1 ≤ id → id ≤ 64 → AreRight (order_for o) b →
    DoneRight o (calls.got_from_fixed (parts o b) t id timeout slot)
fixed_got o b t id timeout None at least most all = all
fixed_got o b t id timeout (Some k) at least most all = block_fits o b t id timeout k (free_block k) at least most all

block_back : (o : Objects) (b : Base) (id number : ℕ) (slot : Option FixedPool) → fixed_at o.pools id ≡ slot → AreRight (order_for o) b →
    PoolRight o (calls.block_back o.pools id number slot) b
block_back o b id number None at all = all
block_back o b id number (Some k) at all = fixed_same o b id k _ at refl all

-- ---- variable pools

variable_deleted : (o : Objects) (b : Base) (id : ℕ) (slot : Option VariablePool) → variable_at o.pools id ≡ slot → HavePlaces b → AreRight (order_for o) b →
    PoolRight o (with_variable o.pools id None) (calls.variable_ended b id slot)
variable_deleted o b id None at has all = variable_free o b id None (λ least. at) all
variable_deleted o b id (Some k) at has all =
    variable_idle o (end_waits k.order (variable_object id) b) id None (ended_idle k.order (variable_object id) b has)
    (ended_fits (order_for o) k.order (variable_object id) b all)

-- the size that a task asked for says nothing of the orders
asked_fits : (o : Objects) (b : Base) (sizes : List ℕ) → AreRight (order_for o) b → PoolRight o (record o.pools { sizes = sizes }) b
asked_fits o b sizes all = right_same (order_for o) (order_for (record o { pools = record o.pools { sizes = sizes } })) b (λ object. refl) all

placed_fits : (o : Objects) (b : Base) (t id n : ℕ) (timeout : ℤ) (k : VariablePool) (place : Option ℕ) → variable_at o.pools id ≡ Some k → 1 ≤ id → id ≤ 64 →
    AreRight (order_for o) b → DoneRight o (calls.placed (parts o b) t id n timeout k place)
placed_fits o b t id n timeout k None at least most all =
    either_fits o (int_eq timeout (pos 0)) _ _ all
    (asked_fits o (make_wait b t (variable_object id) k.order timeout) (slice_set o.pools.sizes t n)
    (wait_fits (order_for o) b t (variable_object id) k.order timeout (variable_named o id least most ∙ ap (option_map (λ k. k.order)) at) all))
placed_fits o b t id n timeout k (Some offset) at least most all = variable_same o b id k _ at refl all

variable_got : (o : Objects) (b : Base) (t id n : ℕ) (timeout : ℤ) (slot : Option VariablePool) → variable_at o.pools id ≡ slot → 1 ≤ id → id ≤ 64 → AreRight (order_for o) b →
    DoneRight o (calls.got_from_variable (parts o b) t id n timeout slot)
variable_got o b t id n timeout None at least most all = all
variable_got o b t id n timeout (Some k) at least most all = placed_fits o b t id n timeout k
    (place_for (would_be_first k.order b t (variable_waiters b k id)) k n) at least most all

block_freed : (o : Objects) (b : Base) (id offset : ℕ) (slot : Option VariablePool) → variable_at o.pools id ≡ slot → AreRight (order_for o) b →
    PoolRight o (calls.block_freed o.pools id offset slot) b
block_freed o b id offset None at all = all
block_freed o b id offset (Some k) at all = variable_same o b id k _ at refl all

-- every call on memory pools leaves the tasks that wait in order
pub pool_calls_fit : (o : Objects) (b : Base) (who : Who) (c : PoolCall) → HavePlaces b → AreRight (order_for o) b →
    PoolRight o (pool_call (record { base = b; table = o.pools }) who c).table (pool_call (record { base = b; table = o.pools }) who c).base
unfolding pool_call calls.create_fixed calls.delete_fixed calls.get_fixed calls.release_fixed calls.refer_fixed calls.create_variable calls.delete_variable calls.get_variable calls.release_variable calls.refer_variable
pool_calls_fit o b who (call.CreMpf attributes count size) has all =
    checked_fits o (calls.create_fixed_checks (parts o b) attributes count size) b _ all
    (λ none. fixed_made o (take_bytes b (natural count * natural size)) (Some (calls.new_fixed attributes (natural count) (natural size)))
    (taken_fits (order_for o) b (natural count * natural size) all))
pool_calls_fit o b who (call.DelMpf id) has all =
    checked_fits o (object_checks id (has_mpf o.pools (natural id)) []) b _ all (λ none. fixed_deleted o b (natural id) (fixed_at o.pools (natural id)) refl has all)
pool_calls_fit o b who (call.GetMpf id timeout) has all =
    checked_fits o (calls.get_fixed_checks (parts o b) who id timeout) b _ all
    (λ none. let known = known_id 64 id (holds_at 0 (calls.get_fixed_checks (parts o b) who id timeout) none) in fixed_got o b (caller who) (natural id) timeout
    (fixed_at o.pools (natural id)) refl known.0 known.1 all)
pool_calls_fit o b who (call.RelMpf id block) has all =
    checked_fits o (calls.release_fixed_checks (parts o b) id block) b _ all (λ none. block_back o b (natural id) (natural block) (fixed_at o.pools (natural id)) refl all)
pool_calls_fit o b who (call.RefMpf id) has all = checked_fits o (object_checks id (has_mpf o.pools (natural id)) []) b _ all (λ none. all)
pool_calls_fit o b who (call.CreMpl attributes size) has all =
    checked_fits o (calls.create_variable_checks (parts o b) attributes size) b _ all
    (λ none. variable_made o (take_bytes b (block_size (natural size))) (Some (calls.new_variable attributes (block_size (natural size))))
    (taken_fits (order_for o) b (block_size (natural size)) all))
pool_calls_fit o b who (call.DelMpl id) has all =
    checked_fits o (object_checks id (has_mpl o.pools (natural id)) []) b _ all (λ none. variable_deleted o b (natural id) (variable_at o.pools (natural id)) refl has all)
pool_calls_fit o b who (call.GetMpl id size timeout) has all =
    checked_fits o (calls.get_variable_checks (parts o b) who id size timeout) b _ all
    (λ none. let known = known_id 64 id (holds_at 0 (calls.get_variable_checks (parts o b) who id size timeout) none) in
    variable_got o b (caller who) (natural id) (block_size (natural size)) timeout (variable_at o.pools (natural id)) refl known.0 known.1 all)
pool_calls_fit o b who (call.RelMpl id offset) has all =
    checked_fits o (calls.release_variable_checks (parts o b) id offset) b _ all (λ none. block_freed o b (natural id) (natural offset)
    (variable_at o.pools (natural id)) refl all)
pool_calls_fit o b who (call.RefMpl id) has all = checked_fits o (object_checks id (has_mpl o.pools (natural id)) []) b _ all (λ none. all)
