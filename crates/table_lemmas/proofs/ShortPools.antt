-- Every call on memory pools, and every serving, leaves their tables short.
use Rattle.std.proofs.Common.{ℕ, zero, suc, ◌≤◌, length, Bool, true, false, cond, List, [], ◌∷◌, Option, Some, None, ℤ, pos}
use Rattle.std.specs.Prelude.{drop}
use Rattle.std.specs.Ordering.{int_eq}
use Rattle.tk_types.specs.declared.answer.Who.{Who}
use Rattle.tk_types.specs.declared.calls.PoolCall.{PoolCall}
use Rattle.tk_types.specs.declared.calls.PoolCall.TheVariants as call
use Rattle.tk_types.specs.declared.error_code.Er.{Er}
use Rattle.kernel_model.specs.Words.Checks.{Check, first_error, natural}
use Rattle.kernel_model.specs.Words.Orders.{taken_from}
use Rattle.kernel_model.specs.Tasks.Calls.{caller}
use Rattle.kernel_model.specs.SemFlags.Calls.{object_checks, would_be_first}
use Rattle.object_model.specs.Pools.Tables.{FixedPool, PoolParts, Pools, VariablePool, fixed_at, has_mpf, has_mpl, size_of, variable_at, with_fixed, with_variable}
use Rattle.object_model.specs.Pools.Fixed.{fixed_serves, fixed_waiters, free_block, serve_fixed, serve_fixed_at, serve_fixed_pools}
use Rattle.object_model.specs.Pools.Variable.{block_given, block_size, place_in, serve_variable, serve_variable_at, serve_variable_pools, variable_serves, variable_waiters}
use Rattle.object_model.specs.Pools.Calls as calls
use Rattle.object_model.specs.Pools.Calls.{PoolDone, place_for, pool_call, pool_checked, refused_with}
use Rattle.table_lemmas.proofs.Slots.{IfServed, first_kept, set_short}

-- the tables of pools have no more slots than pools have numbers
pub record PoolsShort (m : Pools) : Type 0 where
  pub fixed : length m.fixed ≤ 65
  pub variable : length m.variable ≤ 65

abbrev DoneShort : PoolDone → Type 0
DoneShort done = PoolsShort done.table

abbrev PartsShort : PoolParts → Type 0
PartsShort q = PoolsShort q.table

fixed_short : (m : Pools) (id : ℕ) (slot : Option FixedPool) → PoolsShort m → PoolsShort (with_fixed m id slot)
fixed_short m id slot has = record { fixed = set_short m.fixed id slot has.fixed; variable = has.variable }

variable_short : (m : Pools) (id : ℕ) (slot : Option VariablePool) → PoolsShort m → PoolsShort (with_variable m id slot)
variable_short m id slot has = record { fixed = has.fixed; variable = set_short m.variable id slot has.variable }

-- ---- calls

refused_short : (error : Option Er) (p : PoolParts) (effect : PoolDone) → PartsShort p → DoneShort effect → DoneShort (refused_with error p effect)
refused_short (Some error) p effect has works = has
refused_short None p effect has works = works

checked_short : (checks : List Check) (p : PoolParts) (effect : PoolDone) → PartsShort p → DoneShort effect → DoneShort (pool_checked checks p effect)
checked_short checks p effect has works = refused_short (first_error checks) p effect has works

either_short : (test : Bool) (one other : PoolDone) → DoneShort one → DoneShort other → DoneShort (cond {A = PoolDone} test one other)
either_short true one other first second = first
either_short false one other first second = second

block_short : (p : PoolParts) (t id : ℕ) (timeout : ℤ) (k : FixedPool) (number : ℕ) → PartsShort p → DoneShort (calls.block_taken p t id timeout k number)
block_short p t id timeout k zero has = either_short (int_eq timeout (pos 0)) _ _ has has
block_short p t id timeout k (suc before) has = fixed_short p.table id _ has

fixed_got : (p : PoolParts) (t id : ℕ) (timeout : ℤ) (slot : Option FixedPool) → PartsShort p → DoneShort (calls.got_from_fixed p t id timeout slot)
fixed_got p t id timeout None has = has
fixed_got p t id timeout (Some k) has = block_short p t id timeout k (free_block k) has

block_back : (m : Pools) (id number : ℕ) (slot : Option FixedPool) → PoolsShort m → PoolsShort (calls.block_back m id number slot)
block_back m id number None has = has
block_back m id number (Some k) has = fixed_short m id _ has

placed_short : (p : PoolParts) (t id n : ℕ) (timeout : ℤ) (k : VariablePool) (place : Option ℕ) → PartsShort p → DoneShort (calls.placed p t id n timeout k place)
placed_short p t id n timeout k None has = either_short (int_eq timeout (pos 0)) _ _ has (record { fixed = has.fixed; variable = has.variable })
placed_short p t id n timeout k (Some offset) has = variable_short p.table id _ has

variable_got : (p : PoolParts) (t id n : ℕ) (timeout : ℤ) (slot : Option VariablePool) → PartsShort p → DoneShort (calls.got_from_variable p t id n timeout slot)
variable_got p t id n timeout None has = has
variable_got p t id n timeout (Some k) has = placed_short p t id n timeout k (place_for (would_be_first k.order p.base t (variable_waiters p.base k id)) k n) has

block_freed : (m : Pools) (id offset : ℕ) (slot : Option VariablePool) → PoolsShort m → PoolsShort (calls.block_freed m id offset slot)
block_freed m id offset None has = has
block_freed m id offset (Some k) has = variable_short m id _ has

-- every call on memory pools leaves their tables short
pub pool_calls_short : (p : PoolParts) (who : Who) (c : PoolCall) → PoolsShort p.table → PoolsShort (pool_call p who c).table
unfolding pool_call calls.create_fixed calls.delete_fixed calls.get_fixed calls.release_fixed calls.refer_fixed calls.create_variable calls.delete_variable calls.get_variable calls.release_variable calls.refer_variable
pool_calls_short p who (call.CreMpf attributes count size) has = checked_short (calls.create_fixed_checks p attributes count size) p _ has (fixed_short p.table _ _ has)
pool_calls_short p who (call.DelMpf id) has = checked_short (object_checks id (has_mpf p.table (natural id)) []) p _ has (fixed_short p.table (natural id) None has)
pool_calls_short p who (call.GetMpf id timeout) has =
    checked_short (calls.get_fixed_checks p who id timeout) p _ has (fixed_got p (caller who) (natural id) timeout (fixed_at p.table (natural id)) has)
pool_calls_short p who (call.RelMpf id block) has =
    checked_short (calls.release_fixed_checks p id block) p _ has (block_back p.table (natural id) (natural block) (fixed_at p.table (natural id)) has)
pool_calls_short p who (call.RefMpf id) has = checked_short (object_checks id (has_mpf p.table (natural id)) []) p _ has has
pool_calls_short p who (call.CreMpl attributes size) has = checked_short (calls.create_variable_checks p attributes size) p _ has (variable_short p.table _ _ has)
pool_calls_short p who (call.DelMpl id) has = checked_short (object_checks id (has_mpl p.table (natural id)) []) p _ has (variable_short p.table (natural id) None has)
pool_calls_short p who (call.GetMpl id size timeout) has =
    checked_short (calls.get_variable_checks p who id size timeout) p _ has
    (variable_got p (caller who) (natural id) (block_size (natural size)) timeout (variable_at p.table (natural id)) has)
pool_calls_short p who (call.RelMpl id offset) has =
    checked_short (calls.release_variable_checks p id offset) p _ has (block_freed p.table (natural id) (natural offset) (variable_at p.table (natural id)) has)
pool_calls_short p who (call.RefMpl id) has = checked_short (object_checks id (has_mpl p.table (natural id)) []) p _ has has

-- ---- servings

fixed_of : (p : PoolParts) (id : ℕ) (k : FixedPool) (waiters : List ℕ) (number : ℕ) → PartsShort p → IfServed PartsShort (fixed_serves p id k waiters number)
fixed_of p id k [] number has = tt
fixed_of p id k (t ∷ waiters) zero has = tt
fixed_of p id k (t ∷ waiters) (suc before) has = fixed_short p.table id _ has

fixed_in : (p : PoolParts) (id : ℕ) (slot : Option FixedPool) → PartsShort p → IfServed PartsShort (serve_fixed_at p id slot)
fixed_in p id None has = tt
fixed_in p id (Some k) has = fixed_of p id k (fixed_waiters p.base k id) (free_block k) has

fixed_serving : (p : PoolParts) (id : ℕ) → PartsShort p → IfServed PartsShort (serve_fixed p id)
unfolding serve_fixed
fixed_serving p id has = fixed_in p id (fixed_at p.table id) has

-- a serving of a fixed pool leaves the tables of pools short
pub fixed_served_short : (p : PoolParts) → PoolsShort p.table → IfServed (λ (q : PoolParts). PoolsShort q.table) (serve_fixed_pools p)
unfolding serve_fixed_pools
fixed_served_short p has = first_kept PartsShort (serve_fixed p) (taken_from 1 (drop 1 p.table.fixed)) (λ id. fixed_serving p id has)

given_short : (p : PoolParts) (id : ℕ) (k : VariablePool) (t : ℕ) (place : Option ℕ) → PartsShort p → IfServed PartsShort (block_given p id k t place)
given_short p id k t None has = tt
given_short p id k t (Some offset) has = variable_short p.table id _ has

variable_of : (p : PoolParts) (id : ℕ) (k : VariablePool) (waiters : List ℕ) → PartsShort p → IfServed PartsShort (variable_serves p id k waiters)
variable_of p id k [] has = tt
variable_of p id k (t ∷ waiters) has = given_short p id k t (place_in k (size_of p.table t)) has

variable_in : (p : PoolParts) (id : ℕ) (slot : Option VariablePool) → PartsShort p → IfServed PartsShort (serve_variable_at p id slot)
variable_in p id None has = tt
variable_in p id (Some k) has = variable_of p id k (variable_waiters p.base k id) has

variable_serving : (p : PoolParts) (id : ℕ) → PartsShort p → IfServed PartsShort (serve_variable p id)
unfolding serve_variable
variable_serving p id has = variable_in p id (variable_at p.table id) has

-- a serving of a variable pool leaves the tables of pools short
pub variable_served_short : (p : PoolParts) → PoolsShort p.table → IfServed (λ (q : PoolParts). PoolsShort q.table) (serve_variable_pools p)
unfolding serve_variable_pools
variable_served_short p has = first_kept PartsShort (serve_variable p) (taken_from 1 (drop 1 p.table.variable)) (λ id. variable_serving p id has)
