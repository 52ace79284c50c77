-- What each move of the base keeps, each call on memory pools keeps.
use Rattle.std.proofs.Common.{ℕ, zero, suc, ◌*◌, Bool, true, false, cond, List, [], Option, Some, None, ℤ, pos}
use Rattle.std.specs.Prelude.{slice_set}
use Rattle.std.specs.Ordering.{int_eq}
use Rattle.tk_types.specs.declared.answer.Who.{Who}
use Rattle.tk_types.specs.declared.answer.Outcome.TheVariants as outcomes
use Rattle.tk_types.specs.declared.calls.PoolCall.{PoolCall}
use Rattle.tk_types.specs.declared.calls.PoolCall.TheVariants as call
use Rattle.tk_types.specs.declared.error_code.Er.{Er}
use Rattle.tk_types.specs.declared.error_code.Er.TheVariants as er
use Rattle.tk_types.specs.declared.task.Order.{Order}
use Rattle.kernel_model.specs.Words.Checks.{Check, failed, first_error, natural}
use Rattle.kernel_model.specs.Tasks.Base.{Base, make_wait}
use Rattle.kernel_model.specs.Tasks.Calls.{caller}
use Rattle.kernel_model.specs.SemFlags.Calls.{end_waits, object_checks, would_be_first}
use Rattle.object_model.specs.Pools.Tables.{FixedPool, PoolParts, Pools, VariablePool, fixed_at, fixed_object, has_mpf, has_mpl, variable_at, variable_object}
use Rattle.object_model.specs.Pools.Fixed.{free_block}
use Rattle.object_model.specs.Pools.Variable.{block_size, variable_waiters}
use Rattle.object_model.specs.Pools.Calls as calls
use Rattle.object_model.specs.Pools.Calls.{PoolDone, place_for, pool_call, pool_checked, pool_done, refused_with, waits_or_ends}
use Rattle.call_walk.proofs.BaseMoves.{IsStillProof, end_waits_keeps}

refused_keeps : (P : Base → Type 0) (error : Option Er) (p : PoolParts) (effect : PoolDone) → P p.base → P effect.base → P (refused_with error p effect).base
refused_keeps P (Some error) p effect has works = has
refused_keeps P None p effect has works = works

-- a call is refused and leaves the base, or has its effect
checked_keeps : (P : Base → Type 0) (checks : List Check) (p : PoolParts) (effect : PoolDone) → P p.base → P effect.base → P (pool_checked checks p effect).base
checked_keeps P checks p effect has works = refused_keeps P (first_error checks) p effect has works

either_done : (P : Base → Type 0) (test : Bool) (one other : PoolDone) → P one.base → P other.base → P (cond {A = PoolDone} test one other).base
either_done P true one other first second = first
either_done P false one other first second = second

wait_keeps : (P : Base → Type 0) → IsStillProof P → (p : PoolParts) (t object : ℕ) (order : Order) (timeout : ℤ) (asked : Pools) → P p.base → P (waits_or_ends p t object order timeout asked).base
wait_keeps P is p t object order timeout asked has =
    either_done P (int_eq timeout (pos 0)) (pool_done p (failed er.TmOut)) (pool_done (record { base = make_wait p.base t object order timeout; table = asked }) outcomes.Blocked) has (is.waits p.base t object order timeout has)

-- ---- fixed pools

fixed_ended_keeps : (P : Base → Type 0) → IsStillProof P → (b : Base) (id : ℕ) (slot : Option FixedPool) → P b → P (calls.fixed_ended b id slot)
fixed_ended_keeps P is b id None has = has
fixed_ended_keeps P is b id (Some k) has = is.given (end_waits k.order (fixed_object id) b) k.bytes (end_waits_keeps P is k.order (fixed_object id) b has)

block_keeps : (P : Base → Type 0) → IsStillProof P → (p : PoolParts) (t id : ℕ) (timeout : ℤ) (k : FixedPool) (number : ℕ) → P p.base → P (calls.block_taken p t id timeout k number).base
block_keeps P is p t id timeout k zero has = wait_keeps P is p t (fixed_object id) k.order timeout p.table has
block_keeps P is p t id timeout k (suc before) has = has

fixed_keeps : (P : Base → Type 0) → IsStillProof P → (p : PoolParts) (t id : ℕ) (timeout : ℤ) (slot : Option FixedPool) → P p.base → P (calls.got_from_fixed p t id timeout slot).base
fixed_keeps P is p t id timeout None has = has
fixed_keeps P is p t id timeout (Some k) has = block_keeps P is p t id timeout k (free_block k) has

-- ---- variable pools

variable_ended_keeps : (P : Base → Type 0) → IsStillProof P → (b : Base) (id : ℕ) (slot : Option VariablePool) → P b → P (calls.variable_ended b id slot)
variable_ended_keeps P is b id None has = has
variable_ended_keeps P is b id (Some k) has = is.given (end_waits k.order (variable_object id) b) k.size (end_waits_keeps P is k.order (variable_object id) b has)

placed_keeps : (P : Base → Type 0) → IsStillProof P → (p : PoolParts) (t id n : ℕ) (timeout : ℤ) (k : VariablePool) (place : Option ℕ) → P p.base → P (calls.placed p t id n timeout k place).base
placed_keeps P is p t id n timeout k None has = wait_keeps P is p t (variable_object id) k.order timeout (record p.table { sizes = slice_set p.table.sizes t n }) has
placed_keeps P is p t id n timeout k (Some offset) has = has

variable_keeps : (P : Base → Type 0) → IsStillProof P → (p : PoolParts) (t id n : ℕ) (timeout : ℤ) (slot : Option VariablePool) → P p.base → P (calls.got_from_variable p t id n timeout slot).base
variable_keeps P is p t id n timeout None has = has
variable_keeps P is p t id n timeout (Some k) has = placed_keeps P is p t id n timeout k (place_for (would_be_first k.order p.base t (variable_waiters p.base k id)) k n) has

-- ---- all

pub pool_calls_keep : (P : Base → Type 0) → IsStillProof P → (p : PoolParts) (who : Who) (c : PoolCall) → P p.base → P (pool_call p who c).base
unfolding pool_call calls.create_fixed calls.delete_fixed calls.get_fixed calls.release_fixed calls.refer_fixed calls.create_variable calls.delete_variable calls.get_variable calls.release_variable calls.refer_variable
pool_calls_keep P is p who (call.CreMpf attributes count size) has = checked_keeps P (calls.create_fixed_checks p attributes count size) p _ has (is.taken p.base (natural count * natural size) has)
pool_calls_keep P is p who (call.DelMpf id) has =
    checked_keeps P (object_checks id (has_mpf p.table (natural id)) []) p _ has (fixed_ended_keeps P is p.base (natural id) (fixed_at p.table (natural id)) has)
pool_calls_keep P is p who (call.GetMpf id timeout) has =
    checked_keeps P (calls.get_fixed_checks p who id timeout) p _ has (fixed_keeps P is p (caller who) (natural id) timeout (fixed_at p.table (natural id)) has)
pool_calls_keep P is p who (call.RelMpf id block) has = checked_keeps P (calls.release_fixed_checks p id block) p _ has has
pool_calls_keep P is p who (call.RefMpf id) has = checked_keeps P (object_checks id (has_mpf p.table (natural id)) []) p _ has has
pool_calls_keep P is p who (call.CreMpl attributes size) has = checked_keeps P (calls.create_variable_checks p attributes size) p _ has (is.taken p.base (block_size (natural size)) has)
pool_calls_keep P is p who (call.DelMpl id) has =
    checked_keeps P (object_checks id (has_mpl p.table (natural id)) []) p _ has (variable_ended_keeps P is p.base (natural id) (variable_at p.table (natural id)) has)
pool_calls_keep P is p who (call.GetMpl id size timeout) has =
    checked_keeps P (calls.get_variable_checks p who id size timeout) p _ has
    (variable_keeps P is p (caller who) (natural id) (block_size (natural size)) timeout (variable_at p.table (natural id)) has)
pool_calls_keep P is p who (call.RelMpl id offset) has = checked_keeps P (calls.release_variable_checks p id offset) p _ has has
pool_calls_keep P is p who (call.RefMpl id) has = checked_keeps P (object_checks id (has_mpl p.table (natural id)) []) p _ has has
