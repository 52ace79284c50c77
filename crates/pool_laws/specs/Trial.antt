-- The paragraph on waiting calls, for pools, at the object alone: the caller joins the waiters of the pool, which then serves
-- one, if it can. If that ended the caller's wait, the call returns, and the caller has its old stamp again. If not, with a
-- time-out of 0 everything is as before the call, and the answer is E_TMOUT; else the task waits.
use Rattle.std.specs.Prelude.{ℕ, ℤ, Option, Some, None, slice_set}
use Rattle.std.specs.Option.{option_map_or}
use Rattle.tk_types.specs.declared.answer.Outcome.TheVariants.{Returned}
use Rattle.kernel_model.specs.SemFlags.Trial.{back_in}
use Rattle.kernel_model.specs.Tasks.Base.{make_wait}
use Rattle.object_model.specs.Pools.Tables.{FixedPool, VariablePool, Pools, PoolParts, fixed_object, variable_object}
use Rattle.object_model.specs.Pools.Fixed.{serve_fixed}
use Rattle.object_model.specs.Pools.Variable.{serve_variable}
use Rattle.object_model.specs.Pools.Calls.{PoolDone, pool_done, waits_or_ends}
use Rattle.mail_laws.specs.Trial.{ended_in}

abbrev pub fixed_trial_of : PoolParts → ℕ → ℕ → ℤ → FixedPool → Option PoolParts → PoolDone
fixed_trial_of p t id timeout k None = waits_or_ends p t (fixed_object id) k.order timeout p.table
fixed_trial_of p t id timeout k (Some q) =
    option_map_or (λ answer. pool_done (record { base = back_in p.base q.base t; table = q.table }) (Returned answer)) (ended_in t q.base)
    (waits_or_ends p t (fixed_object id) k.order timeout p.table)

-- a task joins the waiters of a fixed pool, which then serves one, if it can
unfoldable pub fixed_trial : PoolParts → ℕ → ℕ → ℤ → FixedPool → PoolDone
fixed_trial p t id timeout k = fixed_trial_of p t id timeout k (serve_fixed (record p { base = make_wait p.base t (fixed_object id) k.order timeout }) id)

-- the table with the size that a task asks for
abbrev pub asked_size : Pools → ℕ → ℕ → Pools
asked_size m t n = record m { sizes = slice_set m.sizes t n }

abbrev pub variable_trial_of : PoolParts → ℕ → ℕ → ℕ → ℤ → VariablePool → Option PoolParts → PoolDone
variable_trial_of p t id n timeout k None = waits_or_ends p t (variable_object id) k.order timeout (asked_size p.table t n)
variable_trial_of p t id n timeout k (Some q) =
    option_map_or (λ answer. pool_done (record { base = back_in p.base q.base t; table = record q.table { sizes = p.table.sizes } }) (Returned answer)) (ended_in t q.base)
    (waits_or_ends p t (variable_object id) k.order timeout (asked_size p.table t n))

-- a task joins the waiters of a variable pool, which then serves one, if it can
unfoldable pub variable_trial : PoolParts → ℕ → ℕ → ℕ → ℤ → VariablePool → PoolDone
variable_trial p t id n timeout k = variable_trial_of p t id n timeout k
    (serve_variable (record { base = make_wait p.base t (variable_object id) k.order timeout; table = asked_size p.table t n }) id)
