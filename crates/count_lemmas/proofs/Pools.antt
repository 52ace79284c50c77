-- What each call on memory pools makes: a wait for a block may make one event.
use Rattle.std.proofs.Common.{ℕ, zero, suc, ◌*◌, Bool, true, false, cond, List, [], Option, Some, None, ℤ, pos}
use Rattle.std.specs.Prelude.{slice_set}
use Rattle.std.specs.Ordering.{int_eq}
use Rattle.tk_types.specs.declared.answer.Who.{Who}
use Rattle.tk_types.specs.declared.answer.Outcome.TheVariants as outcomes
use Rattle.tk_types.specs.declared.calls.PoolCall.{PoolCall}
use Rattle.tk_types.specs.declared.calls.PoolCall.TheVariants as call
use Rattle.tk_types.specs.declared.error_code.Er.{Er}
use Rattle.tk_types.specs.declared.error_code.Er.TheVariants as er
use Rattle.tk_types.specs.declared.task.Order.{Order}
use Rattle.kernel_model.specs.Words.Checks.{Check, failed, first_error, natural}
use Rattle.kernel_model.specs.Tasks.Base.{Base, make_wait}
use Rattle.kernel_model.specs.Tasks.Calls.{caller}
use Rattle.kernel_model.specs.SemFlags.Calls.{end_waits, object_checks, would_be_first}
use Rattle.object_model.specs.Pools.Tables.{FixedPool, PoolParts, Pools, VariablePool, fixed_at, fixed_object, has_mpf, has_mpl, variable_at, variable_object}
use Rattle.object_model.specs.Pools.Fixed.{free_block}
use Rattle.object_model.specs.Pools.Variable.{block_size, variable_waiters}
use Rattle.object_model.specs.Pools.Calls as calls
use Rattle.object_model.specs.Pools.Calls.{PoolDone, place_for, pool_call, pool_checked, pool_done, refused_with, waits_or_ends}
use Rattle.count_lemmas.proofs.Making.{IsMaking, IsQuiet, ends_quiet}

refused_quiet : (P : Base → Type 0) (error : Option Er) (p : PoolParts) (effect : PoolDone) → P p.base → P effect.base → P (refused_with error p effect).base
refused_quiet P (Some error) p effect has works = has
refused_quiet P None p effect has works = works

-- a call is refused and leaves the base, or has its effect
checked_quiet : (P : Base → Type 0) (checks : List Check) (p : PoolParts) (effect : PoolDone) → P p.base → P effect.base → P (pool_checked checks p effect).base
checked_quiet P checks p effect has works = refused_quiet P (first_error checks) p effect has works

either_done : (P : Base → Type 0) (test : Bool) (one other : PoolDone) → P one.base → P other.base → P (cond {A = PoolDone} test one other).base
either_done P true one other first second = first
either_done P false one other first second = second

wait_makes : (P Q : Base → Type 0) → IsMaking P Q → (p : PoolParts) (t object : ℕ) (order : Order) (timeout : ℤ) (asked : Pools) → P p.base → Q (waits_or_ends p t object order timeout asked).base
wait_makes P Q is p t object order timeout asked has =
    either_done Q (int_eq timeout (pos 0)) (pool_done p (failed er.TmOut)) (pool_done (record { base = make_wait p.base t object order timeout; table = asked }) outcomes.Blocked) (is.more _ has) (is.waits p.base t object order timeout has)

-- ---- fixed pools

fixed_ended_quiet : (P : Base → Type 0) → IsQuiet P → (b : Base) (id : ℕ) (slot : Option FixedPool) → P b → P (calls.fixed_ended b id slot)
fixed_ended_quiet P is b id None has = has
fixed_ended_quiet P is b id (Some k) has = is.given (end_waits k.order (fixed_object id) b) k.bytes (ends_quiet P is k.order (fixed_object id) b has)

block_makes : (P Q : Base → Type 0) → IsMaking P Q → (p : PoolParts) (t id : ℕ) (timeout : ℤ) (k : FixedPool) (number : ℕ) → P p.base → Q (calls.block_taken p t id timeout k number).base
block_makes P Q is p t id timeout k zero has = wait_makes P Q is p t (fixed_object id) k.order timeout p.table has
block_makes P Q is p t id timeout k (suc before) has = is.more _ has

fixed_makes : (P Q : Base → Type 0) → IsMaking P Q → (p : PoolParts) (t id : ℕ) (timeout : ℤ) (slot : Option FixedPool) → P p.base → Q (calls.got_from_fixed p t id timeout slot).base
fixed_makes P Q is p t id timeout None has = is.more _ has
fixed_makes P Q is p t id timeout (Some k) has = block_makes P Q is p t id timeout k (free_block k) has

-- ---- variable pools

variable_ended_quiet : (P : Base → Type 0) → IsQuiet P → (b : Base) (id : ℕ) (slot : Option VariablePool) → P b → P (calls.variable_ended b id slot)
variable_ended_quiet P is b id None has = has
variable_ended_quiet P is b id (Some k) has = is.given (end_waits k.order (variable_object id) b) k.size (ends_quiet P is k.order (variable_object id) b has)

placed_makes : (P Q : Base → Type 0) → IsMaking P Q → (p : PoolParts) (t id n : ℕ) (timeout : ℤ) (k : VariablePool) (place : Option ℕ) → P p.base → Q (calls.placed p t id n timeout k place).base
placed_makes P Q is p t id n timeout k None has = wait_makes P Q is p t (variable_object id) k.order timeout (record p.table { sizes = slice_set p.table.sizes t n }) has
placed_makes P Q is p t id n timeout k (Some offset) has = is.more _ has

variable_makes : (P Q : Base → Type 0) → IsMaking P Q → (p : PoolParts) (t id n : ℕ) (timeout : ℤ) (slot : Option VariablePool) → P p.base → Q (calls.got_from_variable p t id n timeout slot).base
variable_makes P Q is p t id n timeout None has = is.more _ has
variable_makes P Q is p t id n timeout (Some k) has = placed_makes P Q is p t id n timeout k (place_for (would_be_first k.order p.base t (variable_waiters p.base k id)) k n) has

-- ---- all

pub pool_calls_make : (P Q : Base → Type 0) → IsMaking P Q → (p : PoolParts) (who : Who) (c : PoolCall) → P p.base → Q (pool_call p who c).base
unfolding pool_call calls.create_fixed calls.delete_fixed calls.get_fixed calls.release_fixed calls.refer_fixed calls.create_variable calls.delete_variable calls.get_variable calls.release_variable calls.refer_variable
pool_calls_make P Q is p who (call.CreMpf attributes count size) has = is.more _ (checked_quiet P (calls.create_fixed_checks p attributes count size) p _ has (is.quiet.taken p.base (natural count * natural size) has))
pool_calls_make P Q is p who (call.DelMpf id) has = is.more _ (checked_quiet P (object_checks id (has_mpf p.table (natural id)) []) p _ has (fixed_ended_quiet P is.quiet p.base (natural id) (fixed_at p.table (natural id)) has))
pool_calls_make P Q is p who (call.GetMpf id timeout) has =
    checked_quiet Q (calls.get_fixed_checks p who id timeout) p _ (is.more _ has) (fixed_makes P Q is p (caller who) (natural id) timeout (fixed_at p.table (natural id)) has)
pool_calls_make P Q is p who (call.RelMpf id block) has = is.more _ (checked_quiet P (calls.release_fixed_checks p id block) p _ has has)
pool_calls_make P Q is p who (call.RefMpf id) has = is.more _ (checked_quiet P (object_checks id (has_mpf p.table (natural id)) []) p _ has has)
pool_calls_make P Q is p who (call.CreMpl attributes size) has = is.more _ (checked_quiet P (calls.create_variable_checks p attributes size) p _ has (is.quiet.taken p.base (block_size (natural size)) has))
pool_calls_make P Q is p who (call.DelMpl id) has = is.more _ (checked_quiet P (object_checks id (has_mpl p.table (natural id)) []) p _ has (variable_ended_quiet P is.quiet p.base (natural id) (variable_at p.table (natural id)) has))
pool_calls_make P Q is p who (call.GetMpl id size timeout) has =
    checked_quiet Q (calls.get_variable_checks p who id size timeout) p _ (is.more _ has)
    (variable_makes P Q is p (caller who) (natural id) (block_size (natural size)) timeout (variable_at p.table (natural id)) has)
pool_calls_make P Q is p who (call.RelMpl id offset) has = is.more _ (checked_quiet P (calls.release_variable_checks p id offset) p _ has has)
pool_calls_make P Q is p who (call.RefMpl id) has = is.more _ (checked_quiet P (object_checks id (has_mpl p.table (natural id)) []) p _ has has)
