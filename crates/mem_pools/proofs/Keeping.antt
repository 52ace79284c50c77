-- Calls don't change the time, and make one event at most.
use Rattle.std.proofs.Common.{◌≡◌, ℕ, zero, suc, ◌+◌, ◌≤◌, Bool, true, false, cond, List, [], ◌∷◌, Option, Some, None, refl, ◌∙◌, subst, arith, ℤ, pos, negsuc}
use Rattle.std.specs.Ordering.{int_eq}
use Rattle.tk_types.specs.declared.task.Order.{Order}
use Rattle.tk_types.specs.declared.answer.Who.{Who}
use Rattle.tk_types.specs.declared.answer.Answer.{Answer}
use Rattle.tk_types.specs.declared.error_code.Er.{Er}
use Rattle.tk_types.specs.declared.error_code.Er.TheVariants as er
use Rattle.tk_types.specs.Codes.{code_of}
use Rattle.tk_types.specs.declared.calls.PoolCall.{PoolCall}
use Rattle.tk_types.specs.declared.calls.PoolCall.TheVariants as call
use Rattle.kernel_model.specs.Words.Checks.{first_error, natural, plain}
use Rattle.kernel_model.specs.Tasks.Base.{Base, give_bytes, has_room, is_waiting_phase, make_wait, queue, release, take_bytes, task_at}
use Rattle.kernel_model.specs.Tasks.Calls.{caller}
use Rattle.kernel_model.specs.SemFlags.Calls.{end_first, first_ended, would_be_first}
use Rattle.kernel_lemmas.proofs.Tables.{entry_cases}
use Rattle.object_model.specs.Pools.Tables.{FixedPool, VariablePool, Pools, PoolParts, fixed_at, variable_at}
use Rattle.object_model.specs.Pools.Fixed.{free_block}
use Rattle.object_model.specs.Pools.Variable.{block_size, variable_waiters}
use Rattle.object_model.specs.Pools.Calls.{PoolDone, block_taken, create_fixed, create_variable, delete_fixed, delete_variable, fixed_ended, get_fixed, get_fixed_checks, get_variable, get_variable_checks, got_from_fixed, got_from_variable, place_for, placed, pool_call, refer_fixed, refer_variable, refused_with, release_fixed, release_variable, variable_ended, waits_or_ends}

-- one event more at most, and the same time
pub record Kept (b c : Base) : Type 0 where
  pub made : c.made ≤ b.made + 1
  pub time : c.time ≡ b.time

-- the same events were made
record Same (b c : Base) : Type 0 where
  pub made : c.made ≡ b.made
  pub time : c.time ≡ b.time

same : (b : Base) → Same b b
same b = record { made = refl; time = refl }

of_same : (b c : Base) → Same b c → Kept b c
of_same b c is = let made : c.made ≡ b.made = is.made in record { made = omega (arith, made); time = is.time }

kept : (b : Base) → Kept b b
kept b = of_same b b (same b)

then_same : (b c d : Base) → Same b c → Same c d → Same b d
then_same b c d first second = record { made = second.made ∙ first.made; time = second.time ∙ first.time }

-- a call that is refused changes nothing
refused_or : (p : PoolParts) (effect : PoolDone) (error : Option Er) → Kept p.base effect.base → Kept p.base (refused_with error p effect).base
refused_or p effect None moved = moved
refused_or p effect (Some e) moved = kept p.base

-- ---- ends of waits

same_if : (b c d : Base) (test : Bool) → Same b c → Same b d → Same b (cond test c d)
same_if b c d true first second = first
same_if b c d false first second = second

release_same : (b : Base) (t : ℕ) (result : Answer) → Same b (release b t result)
release_same b t result = entry_cases (Same b) (task_at b t) b _ (same b) (λ k at. same_if b _ b (is_waiting_phase k.phase) (record { made = refl; time = refl }) (same b))

first_same : (waiters : List ℕ) (b : Base) → Same b (first_ended waiters b)
first_same [] b = same b
first_same (t ∷ rest) b = release_same b t (plain (code_of er.Dlt))

end_same : (left : ℕ) (order : Order) (object : ℕ) (b : Base) → Same b (end_first left order object b)
unfolding end_first
end_same zero order object b = same b
end_same (suc left) order object b =
    let first : Base = first_ended (queue order b object) b in
    then_same b first (end_first left order object first) (first_same (queue order b object) b) (end_same left order object first)

give_same : (b : Base) (n : ℕ) → Same b (give_bytes b n)
give_same b n = record { made = refl; time = refl }

take_same : (b : Base) (n : ℕ) → Same b (take_bytes b n)
take_same b n = same_if b _ b (has_room b n) (record { made = refl; time = refl }) (same b)

fixed_over : (b : Base) (id : ℕ) (slot : Option FixedPool) → Kept b (fixed_ended b id slot)
fixed_over b id None = kept b
fixed_over b id (Some k) = of_same b _ (then_same b _ _ (end_same _ k.order _ b) (give_same _ k.bytes))

variable_over : (b : Base) (id : ℕ) (slot : Option VariablePool) → Kept b (variable_ended b id slot)
variable_over b id None = kept b
variable_over b id (Some k) = of_same b _ (then_same b _ _ (end_same _ k.order _ b) (give_same _ k.size))

-- ---- waits

wait_kept : (b : Base) (t object : ℕ) (order : Order) (timeout : ℤ) → Kept b (make_wait b t object order timeout)
wait_kept b t object order (pos n) = entry_cases (Kept b) (task_at b t) b _ (kept b) (λ k at. record { made = omega arith; time = refl })
wait_kept b t object order (negsuc n) = entry_cases (Kept b) (task_at b t) b _ (kept b) (λ k at. record { made = omega arith; time = refl })

one_if : (b : Base) (done other : PoolDone) (test : Bool) → Kept b done.base → Kept b other.base → Kept b (cond test done other).base
one_if b done other true first second = first
one_if b done other false first second = second

ends_kept : (p : PoolParts) (t object : ℕ) (order : Order) (timeout : ℤ) (asked : Pools) → Kept p.base (waits_or_ends p t object order timeout asked).base
ends_kept p t object order timeout asked = one_if p.base _ _ (int_eq timeout (pos 0)) (kept p.base) (wait_kept p.base t object order timeout)

block_kept : (p : PoolParts) (t id : ℕ) (timeout : ℤ) (k : FixedPool) (number : ℕ) → Kept p.base (block_taken p t id timeout k number).base
block_kept p t id timeout k zero = ends_kept p t _ k.order timeout _
block_kept p t id timeout k (suc before) = kept p.base

fixed_got : (p : PoolParts) (t id : ℕ) (timeout : ℤ) (slot : Option FixedPool) → Kept p.base (got_from_fixed p t id timeout slot).base
fixed_got p t id timeout None = kept p.base
fixed_got p t id timeout (Some k) = block_kept p t id timeout k (free_block k)

placed_kept : (p : PoolParts) (t id n : ℕ) (timeout : ℤ) (k : VariablePool) (place : Option ℕ) → Kept p.base (placed p t id n timeout k place).base
placed_kept p t id n timeout k None = ends_kept p t _ k.order timeout _
placed_kept p t id n timeout k (Some offset) = kept p.base

variable_got : (p : PoolParts) (t id n : ℕ) (timeout : ℤ) (slot : Option VariablePool) → Kept p.base (got_from_variable p t id n timeout slot).base
variable_got p t id n timeout None = kept p.base
variable_got p t id n timeout (Some k) = placed_kept p t id n timeout k (place_for (would_be_first k.order p.base t (variable_waiters p.base k id)) k n)

-- ---- all calls

pub call_kept : (p : PoolParts) (who : Who) (c : PoolCall) → Kept p.base (pool_call p who c).base
unfolding pool_call create_fixed delete_fixed get_fixed release_fixed refer_fixed create_variable delete_variable get_variable release_variable refer_variable
call_kept p who (call.CreMpf attributes count size) = refused_or p _ _ (of_same p.base _ (take_same p.base _))
call_kept p who (call.DelMpf id) = refused_or p _ _ (fixed_over p.base _ _)
call_kept p who (call.GetMpf id timeout) =
    refused_or p (got_from_fixed p (caller who) (natural id) timeout (fixed_at p.table (natural id))) (first_error (get_fixed_checks p who id timeout))
    (fixed_got p (caller who) (natural id) timeout (fixed_at p.table (natural id)))
call_kept p who (call.RelMpf id block) = refused_or p _ _ (kept p.base)
call_kept p who (call.RefMpf id) = refused_or p _ _ (kept p.base)
call_kept p who (call.CreMpl attributes size) = refused_or p _ _ (of_same p.base _ (take_same p.base _))
call_kept p who (call.DelMpl id) = refused_or p _ _ (variable_over p.base _ _)
call_kept p who (call.GetMpl id size timeout) =
    refused_or p (got_from_variable p (caller who) (natural id) (block_size (natural size)) timeout (variable_at p.table (natural id))) (first_error (get_variable_checks p who id size timeout))
    (variable_got p (caller who) (natural id) (block_size (natural size)) timeout (variable_at p.table (natural id)))
call_kept p who (call.RelMpl id offset) = refused_or p _ _ (kept p.base)
call_kept p who (call.RefMpl id) = refused_or p _ _ (kept p.base)

-- in the form of a call's contract
pub after_call : (p : PoolParts) (who : Who) (c : PoolCall) (done : PoolDone) → pool_call p who c ≡ done → Kept p.base done.base
after_call p who c done is = subst (λ (d : PoolDone). Kept p.base d.base) is (call_kept p who c)
