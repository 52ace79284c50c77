-- A call on pools that answers an error has changed nothing.
use Rattle.std.proofs.Common.{◌≡◌, ℕ, suc, zero, Bool, true, false, List, [], Option, Some, None, cond, ◌∙◌, ap, ℤ, pos, arith}
use Rattle.std.specs.Prelude.{nat_lt}
use Rattle.std.specs.Int.{is_negative}
use Rattle.std.specs.Ordering.{int_eq}
use Rattle.std.proofs.lemmas.Bool.Decides.{nat_tests}
use Rattle.tk_types.specs.declared.answer.Answer.{Answer}
use Rattle.tk_types.specs.declared.answer.Who.{Who}
use Rattle.tk_types.specs.declared.answer.Outcome.{Outcome}
use Rattle.tk_types.specs.declared.answer.Outcome.TheVariants.{Returned, Blocked}
use Rattle.tk_types.specs.declared.error_code.Er.{Er}
use Rattle.tk_types.specs.declared.error_code.Er.TheVariants as er
use Rattle.tk_types.specs.declared.calls.PoolCall.{PoolCall}
use Rattle.tk_types.specs.declared.calls.PoolCall.TheVariants as call
use Rattle.kernel_model.specs.Words.Checks.{Check, first_error, natural, failed, done}
use Rattle.kernel_model.specs.Tasks.Calls.{caller}
use Rattle.kernel_model.specs.SemFlags.Calls.{object_checks}
use Rattle.object_model.specs.Pools.Tables.{PoolParts, FixedPool, VariablePool, fixed_at, variable_at, has_mpf, has_mpl}
use Rattle.object_model.specs.Pools.Fixed.{free_block}
use Rattle.object_model.specs.Pools.Variable.{block_size}
use Rattle.object_model.specs.Pools.Calls as Calls
use Rattle.object_model.specs.Pools.Calls.{PoolDone, pool_done, refused_with, pool_checked, pool_call, create_fixed, delete_fixed, get_fixed, release_fixed, refer_fixed, create_variable, delete_variable, get_variable, release_variable, refer_variable}

-- where a call has answered an error, the base and the table are as they were
abbrev pub IsKept : PoolParts → PoolDone → Type 0
IsKept p result = (answer : Answer) → result.outcome ≡ Returned answer → is_negative answer.value ≡ true → result ≡ pool_done p (Returned answer)

abbrev value_in : Outcome → ℤ
value_in (Returned answer) = answer.value
value_in _ = pos 0

-- a number from 0 on is no error
no_error : (n : ℕ) (answer : Answer) → done (pos n) ≡ Returned answer → is_negative answer.value ≡ true → ⊥
no_error n answer is error = let none : nat_lt n 0 ≡ true = ap (λ outcome. is_negative (value_in outcome)) is ∙ error in grind (arith, nat_tests, none)

works : (p q : PoolParts) (n : ℕ) → IsKept p (pool_done q (done (pos n)))
works p q n answer is error = absurd (no_error n answer is error)

leaves : (p : PoolParts) (outcome : Outcome) → IsKept p (pool_done p outcome)
leaves p outcome answer is error = ap (pool_done p) is

waits : (p q : PoolParts) → IsKept p (pool_done q Blocked)
waits p q answer is error = absurd (cc is)

kept_or : (p : PoolParts) (error : Option Er) (effect : PoolDone) → IsKept p effect → IsKept p (refused_with error p effect)
kept_or p (Some error) effect kept = leaves p (failed error)
kept_or p None effect kept = kept

checked : (p : PoolParts) (checks : List Check) (effect : PoolDone) → IsKept p effect → IsKept p (pool_checked checks p effect)
checked p checks effect kept = kept_or p (first_error checks) effect kept

waits_if : (p q : PoolParts) (over : Bool) → IsKept p (cond {A = PoolDone} over (pool_done p (failed er.TmOut)) (pool_done q Blocked))
waits_if p q true = leaves p (failed er.TmOut)
waits_if p q false = waits p q

taken : (p : PoolParts) (t id : ℕ) (timeout : ℤ) (k : FixedPool) (number : ℕ) → IsKept p (Calls.block_taken p t id timeout k number)
taken p t id timeout k zero = waits_if p _ (int_eq timeout (pos 0))
taken p t id timeout k (suc before) = works p _ (suc before)

got_fixed : (p : PoolParts) (t id : ℕ) (timeout : ℤ) (slot : Option FixedPool) → IsKept p (Calls.got_from_fixed p t id timeout slot)
got_fixed p t id timeout None = leaves p (failed er.NoExs)
got_fixed p t id timeout (Some k) = taken p t id timeout k (free_block k)

placed : (p : PoolParts) (t id n : ℕ) (timeout : ℤ) (k : VariablePool) (place : Option ℕ) → IsKept p (Calls.placed p t id n timeout k place)
placed p t id n timeout k None = waits_if p _ (int_eq timeout (pos 0))
placed p t id n timeout k (Some offset) = works p _ offset

got_variable : (p : PoolParts) (t id n : ℕ) (timeout : ℤ) (slot : Option VariablePool) → IsKept p (Calls.got_from_variable p t id n timeout slot)
got_variable p t id n timeout None = leaves p (failed er.NoExs)
got_variable p t id n timeout (Some k) = placed p t id n timeout k _

-- a call on pools that answers an error has changed nothing
pub refused_call : (p : PoolParts) (who : Who) (c : PoolCall) → IsKept p (pool_call p who c)
unfolding pool_call create_fixed delete_fixed get_fixed release_fixed refer_fixed create_variable delete_variable get_variable release_variable refer_variable
refused_call p who (call.CreMpf attributes count size) = checked p (Calls.create_fixed_checks p attributes count size) _ (works p _ (Calls.free_fixed p.table))
refused_call p who (call.DelMpf id) = checked p (object_checks id (has_mpf p.table (natural id)) []) _ (works p _ 0)
refused_call p who (call.GetMpf id timeout) = checked p (Calls.get_fixed_checks p who id timeout) _ (got_fixed p (caller who) (natural id) timeout (fixed_at p.table (natural id)))
refused_call p who (call.RelMpf id block) = checked p (Calls.release_fixed_checks p id block) _ (works p _ 0)
refused_call p who (call.RefMpf id) = checked p (object_checks id (has_mpf p.table (natural id)) []) _ (leaves p _)
refused_call p who (call.CreMpl attributes size) = checked p (Calls.create_variable_checks p attributes size) _ (works p _ (Calls.free_variable p.table))
refused_call p who (call.DelMpl id) = checked p (object_checks id (has_mpl p.table (natural id)) []) _ (works p _ 0)
refused_call p who (call.GetMpl id size timeout) = checked p (Calls.get_variable_checks p who id size timeout) _ (got_variable p (caller who) (natural id) (block_size (natural size)) timeout (variable_at p.table (natural id)))
refused_call p who (call.RelMpl id offset) = checked p (Calls.release_variable_checks p id offset) _ (works p _ 0)
refused_call p who (call.RefMpl id) = checked p (object_checks id (has_mpl p.table (natural id)) []) _ (leaves p _)
