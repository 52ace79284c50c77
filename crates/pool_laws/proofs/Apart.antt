-- Every call and every serving leaves the live blocks of all variable pools apart.
use Rattle.std.proofs.Common.{◌≡◌, ℕ, zero, suc, ◌+◌, ◌≤◌, ◌<◌, Bool, true, false, not, cond, List, [], ◌∷◌, Option, Some, None, inl, inr, drop, refl, sym, subst, ℤ, pos, negsuc, arith}
use Rattle.std.specs.Prelude.{int_le, replicate}
use Rattle.std.specs.Bool.{◌==◌}
use Rattle.std.specs.Ordering.{int_eq}
use Rattle.std.proofs.lemmas.Bool.Decides.{nat_tests}
use Rattle.tk_types.specs.declared.answer.Who.{Who}
use Rattle.tk_types.specs.declared.answer.Outcome.TheVariants.{Blocked}
use Rattle.tk_types.specs.declared.error_code.Er.{Er}
use Rattle.tk_types.specs.declared.error_code.Er.TheVariants as er
use Rattle.tk_types.specs.declared.calls.PoolCall.{PoolCall}
use Rattle.tk_types.specs.declared.calls.PoolCall.TheVariants as call
use Rattle.kernel_model.specs.Words.Checks.{Check, first_error, natural, failed}
use Rattle.kernel_model.specs.Words.Orders.{entry, taken_from}
use Rattle.kernel_model.specs.Tasks.Base.{Base}
use Rattle.kernel_model.specs.Tasks.Calls.{caller}
use Rattle.kernel_model.specs.SemFlags.Calls.{object_checks, would_be_first}
use Rattle.kernel_lemmas.proofs.Tables.{entry_each, entry_inside, entry_same}
use Rattle.call_lemmas.proofs.Checked.{holds_at}
use Rattle.object_model.specs.declared.pools.Block.{Block}
use Rattle.object_model.specs.Servings.{first_serving}
use Rattle.object_model.specs.Pools.Tables.{FixedPool, VariablePool, Pools, PoolParts, pools_start, variable_object, fixed_at, variable_at, has_mpf, has_mpl, with_variable, size_of}
use Rattle.object_model.specs.Pools.Fixed.{free_block, fixed_waiters, fixed_serves, serve_fixed, serve_fixed_at, serve_fixed_pools}
use Rattle.object_model.specs.Pools.Variable.{block_size, place_in, insert_block, variable_waiters, block_given, variable_serves, serve_variable, serve_variable_at, serve_variable_pools}
use Rattle.object_model.specs.Pools.Calls as Calls
use Rattle.object_model.specs.Pools.Calls.{PoolDone, pool_done, refused_with, pool_checked, pool_call, create_fixed, delete_fixed, get_fixed, release_fixed, refer_fixed, create_variable, delete_variable, get_variable, release_variable, refer_variable}
use Rattle.mail_laws.proofs.Waits.{first_waits, of_first, or_cases}
use Rattle.pool_laws.specs.Blocks.{LieApart, LieApartIn, AllLieApart, AskForSome}
use Rattle.pool_laws.proofs.Placing.{joined}
use Rattle.pool_laws.proofs.Freeing.{left_lie}

-- ---- a table

-- writing a pool whose blocks lie apart
written : (m : Pools) (id : ℕ) (slot : Option VariablePool) → AllLieApart m → LieApartIn slot → AllLieApart (with_variable m id slot)
written m id slot apart now = entry_each (λ j (o : Option VariablePool). LieApartIn o) m.variable id slot (entry_same LieApartIn m.variable id slot now tt) (λ j other. apart j)

apart_at : (m : Pools) (id : ℕ) (k : VariablePool) → AllLieApart m → variable_at m id ≡ Some k → LieApart k
apart_at m id k apart at = subst LieApartIn at (apart id)

placed_apart : (m : Pools) (id : ℕ) (k : VariablePool) (n offset : ℕ) → AllLieApart m → variable_at m id ≡ Some k → 0 < n → place_in k n ≡ Some offset →
    AllLieApart (with_variable m id (Some (record k { blocks = insert_block (record { offset = offset; size = n }) k.blocks })))
placed_apart m id k n offset apart at some is = written m id _ apart (joined 0 k.size n offset k.blocks (apart_at m id k apart at) some is)

none_there : (n id : ℕ) → entry (replicate {A = Option VariablePool} n None) id ≡ None
none_there zero id = refl
none_there (suc n) zero = refl
none_there (suc n) (suc id) = none_there n id

pub start_apart : AllLieApart pools_start
start_apart id = subst LieApartIn (sym (none_there 65 id)) tt

-- ---- servings

-- what holds of each serving with an ID from one on holds of that of the first object that can serve
of_first_from : {A B : Type 0} → (P : A → Type 0) (serve : ℕ → Option A) (from : ℕ) (slots : List (Option B)) (x : A) → 1 ≤ from → ((id : ℕ) → 1 ≤ id → serve id ≡ Some x → P x) → first_serving serve (taken_from from slots) ≡ Some x → P x
unfolding first_serving
of_first_from P serve from [] x least each is = absurd (cc is)
of_first_from P serve from (None ∷ slots) x least each is = of_first_from P serve (from + 1) slots x (omega (arith, least)) each is
of_first_from P serve from (Some slot ∷ slots) x least each is = elim (or_cases (serve from) (first_serving serve (taken_from (from + 1) slots)) x is) [
  | inl here ↦ each from least here
  | inr later ↦ of_first_from P serve (from + 1) slots x (omega (arith, least)) each later
]

ApartIf : Option PoolParts → Type 0
ApartIf None = Unit {0}
ApartIf (Some q) = AllLieApart q.table

of_some : (o : Option PoolParts) (q : PoolParts) → ApartIf o → o ≡ Some q → AllLieApart q.table
unfolding ApartIf
of_some None q apart is = absurd (cc is)
of_some (Some now) q apart is = let same : now ≡ q = cc is in subst (λ (parts : PoolParts). AllLieApart parts.table) same apart

given : (p : PoolParts) (id : ℕ) (k : VariablePool) (t : ℕ) (place : Option ℕ) → AllLieApart p.table → variable_at p.table id ≡ Some k → 0 < size_of p.table t → place_in k (size_of p.table t) ≡ place → ApartIf (block_given p id k t place)
unfolding ApartIf
given p id k t None apart at some is = tt
given p id k t (Some offset) apart at some is = placed_apart p.table id k (size_of p.table t) offset apart at some is

variable_case : (p : PoolParts) (id : ℕ) (k : VariablePool) (waiters : List ℕ) → AllLieApart p.table → AskForSome p → 1 ≤ id → variable_at p.table id ≡ Some k → variable_waiters p.base k id ≡ waiters → ApartIf (variable_serves p id k waiters)
unfolding ApartIf
variable_case p id k [] apart ask least at stand = tt
variable_case p id k (t ∷ ts) apart ask least at stand =
    given p id k t (place_in k (size_of p.table t)) apart at (ask id t least (entry_inside p.table.variable id k at) (first_waits k.order p.base (variable_object id) t ts stand)) refl

variable_slot : (p : PoolParts) (id : ℕ) (slot : Option VariablePool) → AllLieApart p.table → AskForSome p → 1 ≤ id → variable_at p.table id ≡ slot → ApartIf (serve_variable_at p id slot)
unfolding ApartIf
variable_slot p id None apart ask least at = tt
variable_slot p id (Some k) apart ask least at = variable_case p id k (variable_waiters p.base k id) apart ask least at refl

variable_one : (p q : PoolParts) (id : ℕ) → AllLieApart p.table → AskForSome p → 1 ≤ id → serve_variable p id ≡ Some q → AllLieApart q.table
unfolding serve_variable
variable_one p q id apart ask least served = of_some (serve_variable_at p id (variable_at p.table id)) q (variable_slot p id (variable_at p.table id) apart ask least refl) served

pub variable_apart : (p q : PoolParts) → AllLieApart p.table → AskForSome p → serve_variable_pools p ≡ Some q → AllLieApart q.table
unfolding serve_variable_pools
variable_apart p q apart ask served = of_first_from (λ (parts : PoolParts). AllLieApart parts.table) (serve_variable p) 1 (drop 1 p.table.variable) q (omega arith) (λ id. variable_one p q id apart ask) served

-- fixed pools leave the variable ones as they are
fixed_case : (p : PoolParts) (id : ℕ) (k : FixedPool) (waiters : List ℕ) (number : ℕ) → AllLieApart p.table → ApartIf (fixed_serves p id k waiters number)
unfolding ApartIf
fixed_case p id k [] number apart = tt
fixed_case p id k (t ∷ ts) zero apart = tt
fixed_case p id k (t ∷ ts) (suc before) apart = apart

fixed_slot : (p : PoolParts) (id : ℕ) (slot : Option FixedPool) → AllLieApart p.table → ApartIf (serve_fixed_at p id slot)
unfolding ApartIf
fixed_slot p id None apart = tt
fixed_slot p id (Some k) apart = fixed_case p id k (fixed_waiters p.base k id) (free_block k) apart

fixed_one : (p q : PoolParts) (id : ℕ) → AllLieApart p.table → serve_fixed p id ≡ Some q → AllLieApart q.table
unfolding serve_fixed
fixed_one p q id apart served = of_some (serve_fixed_at p id (fixed_at p.table id)) q (fixed_slot p id (fixed_at p.table id) apart) served

pub fixed_apart : (p q : PoolParts) → AllLieApart p.table → serve_fixed_pools p ≡ Some q → AllLieApart q.table
unfolding serve_fixed_pools
fixed_apart p q apart served = of_first (λ (parts : PoolParts). AllLieApart parts.table) (serve_fixed p) _ q (λ id. fixed_one p q id apart) served

-- ---- calls

refused_or : (p : PoolParts) (error : Option Er) (effect : PoolDone) → AllLieApart p.table → (error ≡ None → AllLieApart effect.table) → AllLieApart (refused_with error p effect).table
refused_or p (Some error) effect apart now = apart
refused_or p None effect apart now = now refl

checked : (p : PoolParts) (checks : List Check) (effect : PoolDone) → AllLieApart p.table → (first_error checks ≡ None → AllLieApart effect.table) → AllLieApart (pool_checked checks p effect).table
checked p checks effect apart now = refused_or p (first_error checks) effect apart now

waits_if : (p : PoolParts) (base : Base) (asked : Pools) (over : Bool) → AllLieApart p.table → AllLieApart asked →
    AllLieApart (cond over (pool_done p (failed er.TmOut)) (pool_done (record { base = base; table = asked }) Blocked)).table
waits_if p base asked true apart now = apart
waits_if p base asked false apart now = now

block_taken : (p : PoolParts) (t id : ℕ) (timeout : ℤ) (k : FixedPool) (number : ℕ) → AllLieApart p.table → AllLieApart (Calls.block_taken p t id timeout k number).table
block_taken p t id timeout k zero apart = waits_if p _ p.table (int_eq timeout (pos 0)) apart apart
block_taken p t id timeout k (suc before) apart = apart

got_fixed : (p : PoolParts) (t id : ℕ) (timeout : ℤ) (slot : Option FixedPool) → AllLieApart p.table → AllLieApart (Calls.got_from_fixed p t id timeout slot).table
got_fixed p t id timeout None apart = apart
got_fixed p t id timeout (Some k) apart = block_taken p t id timeout k (free_block k) apart

back_fixed : (m : Pools) (id number : ℕ) (slot : Option FixedPool) → AllLieApart m → AllLieApart (Calls.block_back m id number slot)
back_fixed m id number None apart = apart
back_fixed m id number (Some k) apart = apart

placed_call : (p : PoolParts) (t id n : ℕ) (timeout : ℤ) (k : VariablePool) (place : Option ℕ) → AllLieApart p.table → variable_at p.table id ≡ Some k → 0 < n → place_in k n ≡ place → AllLieApart (Calls.placed p t id n timeout k place).table
placed_call p t id n timeout k None apart at some is = waits_if p _ _ (int_eq timeout (pos 0)) apart apart
placed_call p t id n timeout k (Some offset) apart at some is = placed_apart p.table id k n offset apart at some is

placed_if : (p : PoolParts) (t id n : ℕ) (timeout : ℤ) (k : VariablePool) (is_first : Bool) → AllLieApart p.table → variable_at p.table id ≡ Some k → 0 < n → AllLieApart (Calls.placed p t id n timeout k (Calls.place_for is_first k n)).table
placed_if p t id n timeout k true apart at some = placed_call p t id n timeout k (place_in k n) apart at some refl
placed_if p t id n timeout k false apart at some = waits_if p _ _ (int_eq timeout (pos 0)) apart apart

got_variable : (p : PoolParts) (t id n : ℕ) (timeout : ℤ) (slot : Option VariablePool) → AllLieApart p.table → variable_at p.table id ≡ slot → 0 < n → AllLieApart (Calls.got_from_variable p t id n timeout slot).table
got_variable p t id n timeout None apart at some = apart
got_variable p t id n timeout (Some k) apart at some = placed_if p t id n timeout k (would_be_first k.order p.base t (variable_waiters p.base k id)) apart at some

freed : (m : Pools) (id offset : ℕ) (slot : Option VariablePool) → AllLieApart m → variable_at m id ≡ slot → AllLieApart (Calls.block_freed m id offset slot)
freed m id offset None apart at = apart
freed m id offset (Some k) apart at = written m id _ apart (left_lie 0 k.size (λ (block : Block). not (block.offset == offset)) k.blocks (apart_at m id k apart at))

-- a size from 1 on is some bytes
pub some_bytes : (size : ℤ) → int_le (pos 1) size ≡ true → 0 < block_size (natural size)
some_bytes (pos n) least = let one : 1 ≤ n = grind (arith, nat_tests, least) in omega (arith, one)
some_bytes (negsuc n) least = absurd (cc least)

pub call_apart : (p : PoolParts) (who : Who) (c : PoolCall) → AllLieApart p.table → AllLieApart (pool_call p who c).table
unfolding pool_call create_fixed delete_fixed get_fixed release_fixed refer_fixed create_variable delete_variable get_variable release_variable refer_variable
call_apart p who (call.CreMpf attributes count size) apart = checked p (Calls.create_fixed_checks p attributes count size) _ apart (λ none. apart)
call_apart p who (call.DelMpf id) apart = checked p (object_checks id (has_mpf p.table (natural id)) []) _ apart (λ none. apart)
call_apart p who (call.GetMpf id timeout) apart = checked p (Calls.get_fixed_checks p who id timeout) _ apart (λ none. got_fixed p (caller who) (natural id) timeout (fixed_at p.table (natural id)) apart)
call_apart p who (call.RelMpf id block) apart = checked p (Calls.release_fixed_checks p id block) _ apart (λ none. back_fixed p.table (natural id) (natural block) (fixed_at p.table (natural id)) apart)
call_apart p who (call.RefMpf id) apart = checked p (object_checks id (has_mpf p.table (natural id)) []) _ apart (λ none. apart)
call_apart p who (call.CreMpl attributes size) apart = checked p (Calls.create_variable_checks p attributes size) _ apart
    (λ none. written p.table (Calls.free_variable p.table) (Some (Calls.new_variable attributes (block_size (natural size)))) apart (omega arith))
call_apart p who (call.DelMpl id) apart = checked p (object_checks id (has_mpl p.table (natural id)) []) _ apart (λ none. written p.table (natural id) None apart tt)
call_apart p who (call.GetMpl id size timeout) apart = checked p (Calls.get_variable_checks p who id size timeout) _ apart
    (λ none. got_variable p (caller who) (natural id) (block_size (natural size)) timeout (variable_at p.table (natural id)) apart refl (some_bytes size (holds_at 1 (Calls.get_variable_checks p who id size timeout) none)))
call_apart p who (call.RelMpl id offset) apart = checked p (Calls.release_variable_checks p id offset) _ apart (λ none. freed p.table (natural id) (natural offset) (variable_at p.table (natural id)) apart refl)
call_apart p who (call.RefMpl id) apart = checked p (object_checks id (has_mpl p.table (natural id)) []) _ apart (λ none. apart)
