-- Every call on memory pools leaves what the tasks that wait have asked for, and a task that begins to wait for a variable pool has
-- asked for some bytes.
use Rattle.std.proofs.Common.{◌≡◌, ℕ, zero, suc, ◌+◌, ◌*◌, ◌≤◌, ◌<◌, length, Bool, true, false, cond, List, [], Option, Some, None, refl, ◌∙◌, sym, subst, arith, ℤ, pos, negsuc}
use Rattle.std.specs.Prelude.{int_le, nat_le, slice_set}
use Rattle.std.specs.Ordering.{int_eq}
use Rattle.std.proofs.lemmas.Bool.Decides.{nat_tests}
use Rattle.std.proofs.lemmas.List.{get_or-set_other, get_or-set_same}
use Rattle.tk_types.specs.declared.answer.Who.{Who}
use Rattle.tk_types.specs.declared.calls.PoolCall.{PoolCall}
use Rattle.tk_types.specs.declared.calls.PoolCall.TheVariants as call
use Rattle.tk_types.specs.declared.error_code.Er.{Er}
use Rattle.kernel_model.specs.Words.Checks.{Check, first_error, natural}
use Rattle.kernel_model.specs.Tasks.Base.{Base, make_wait, take_bytes}
use Rattle.kernel_model.specs.Tasks.Calls.{caller}
use Rattle.kernel_model.specs.SemFlags.Calls.{object_checks, would_be_first}
use Rattle.object_model.specs.Mails.Tables.{Mails}
use Rattle.object_model.specs.Pools.Tables.{FixedPool, PoolParts, Pools, VariablePool, fixed_at, fixed_object, has_mpf, has_mpl, variable_at, variable_object}
use Rattle.object_model.specs.Pools.Fixed.{free_block}
use Rattle.object_model.specs.Pools.Variable.{block_size, variable_waiters}
use Rattle.object_model.specs.Pools.Calls as calls
use Rattle.object_model.specs.Pools.Calls.{PoolDone, place_for, pool_call, pool_checked, refused_with}
use Rattle.call_lemmas.proofs.Checked.{holds_at}
use Rattle.machine_lemmas.proofs.Handing.{set_length}
use Rattle.order_lemmas.proofs.Ranges.{known_id}
use Rattle.ask_lemmas.proofs.Asked.{Asked, asked_quietly, quiet_fixed}
use Rattle.ask_lemmas.proofs.Asks.{AllAsk, ended_asks, taken_asks, wait_asks, wait_with}

-- what the tasks that wait have asked for, and a place for the size that each task asks for
pub record PoolHolds (m : Mails) (sizes : List ℕ) (b : Base) : Type 0 where
  pub asks : AllAsk (Asked m sizes) b
  pub many : length sizes ≡ 256

abbrev DoneHolds : Mails → PoolDone → Type 0
DoneHolds m done = PoolHolds m done.table.sizes done.base

abbrev parts : Base → Pools → PoolParts
parts b s = record { base = b; table = s }

refused_holds : (m : Mails) (error : Option Er) (b : Base) (s : Pools) (effect : PoolDone) → PoolHolds m s.sizes b → (error ≡ None → DoneHolds m effect) →
    DoneHolds m (refused_with error (parts b s) effect)
refused_holds m (Some error) b s effect has works = has
refused_holds m None b s effect has works = works refl

checked_holds : (m : Mails) (checks : List Check) (b : Base) (s : Pools) (effect : PoolDone) → PoolHolds m s.sizes b → (first_error checks ≡ None → DoneHolds m effect) →
    DoneHolds m (pool_checked checks (parts b s) effect)
checked_holds m checks b s effect has works = refused_holds m (first_error checks) b s effect has works

either_holds : (m : Mails) (test : Bool) (one other : PoolDone) → DoneHolds m one → DoneHolds m other → DoneHolds m (cond {A = PoolDone} test one other)
either_holds m true one other first second = first
either_holds m false one other first second = second

-- what the base becomes, where the sizes stay
based : (m : Mails) (sizes : List ℕ) (b now : Base) → PoolHolds m sizes b → AllAsk (Asked m sizes) now → PoolHolds m sizes now
based m sizes b now has asks = record { asks = asks; many = has.many }

-- ---- fixed pools

fixed_ended : (m : Mails) (sizes : List ℕ) (b : Base) (id : ℕ) (slot : Option FixedPool) → AllAsk (Asked m sizes) b → AllAsk (Asked m sizes) (calls.fixed_ended b id slot)
fixed_ended m sizes b id None all = all
fixed_ended m sizes b id (Some k) all = ended_asks (Asked m sizes) k.order (fixed_object id) b all

block_holds : (m : Mails) (b : Base) (s : Pools) (t id : ℕ) (timeout : ℤ) (k : FixedPool) (number : ℕ) → 1 ≤ id → id ≤ 64 → PoolHolds m s.sizes b →
    DoneHolds m (calls.block_taken (parts b s) t id timeout k number)
block_holds m b s t id timeout k zero least most has =
    let quiet = asked_quietly m s.sizes t (fixed_object id) (quiet_fixed (fixed_object id) (omega (arith, least)) (omega (arith, most))) in
    either_holds m (int_eq timeout (pos 0)) _ _ has
    (based m s.sizes b (make_wait b t (fixed_object id) k.order timeout) has (wait_asks (Asked m s.sizes) b t (fixed_object id) k.order timeout quiet has.asks))
block_holds m b s t id timeout k (suc before) least most has = based m s.sizes b b has has.asks

fixed_got : (m : Mails) (b : Base) (s : Pools) (t id : ℕ) (timeout : ℤ) (slot : Option FixedPool) → 1 ≤ id → id ≤ 64 → PoolHolds m s.sizes b →
    DoneHolds m (calls.got_from_fixed (parts b s) t id timeout slot)
fixed_got m b s t id timeout None least most has = has
fixed_got m b s t id timeout (Some k) least most has = block_holds m b s t id timeout k (free_block k) least most has

block_back : (m : Mails) (b : Base) (s : Pools) (id number : ℕ) (slot : Option FixedPool) → PoolHolds m s.sizes b → PoolHolds m (calls.block_back s id number slot).sizes b
block_back m b s id number None has = has
block_back m b s id number (Some k) has = has

-- ---- variable pools

variable_ended : (m : Mails) (sizes : List ℕ) (b : Base) (id : ℕ) (slot : Option VariablePool) → AllAsk (Asked m sizes) b → AllAsk (Asked m sizes) (calls.variable_ended b id slot)
variable_ended m sizes b id None all = all
variable_ended m sizes b id (Some k) all = ended_asks (Asked m sizes) k.order (variable_object id) b all

-- a task that waits for a variable pool asks for some bytes
asks_bytes : (m : Mails) (sizes : List ℕ) (t id n : ℕ) → 1 ≤ id → id ≤ 64 → 0 < n → t < length sizes → Asked m (slice_set sizes t n) t (variable_object id)
asks_bytes m sizes t id n least most some inside = record {
  sends = λ other k low high is at. absurd (let e : 511 + id ≡ 319 + other = is in omega (arith, high, e));
  receives = λ other k low high is at. absurd (let e : 511 + id ≡ 383 + other = is in omega (arith, least, high, e));
  bytes = λ other low high is. subst (λ (size : ℕ). 0 < size) (sym (get_or-set_same sizes t n 0 inside)) some;
}

-- and what others asked for stays
others_bytes : (m : Mails) (sizes : List ℕ) (t n u object : ℕ) → (u ≡ t → ⊥) → Asked m sizes u object → Asked m (slice_set sizes t n) u object
others_bytes m sizes t n u object apart asked = record {
  sends = asked.sends;
  receives = asked.receives;
  bytes = λ id least most is. subst (λ (size : ℕ). 0 < size) (sym (get_or-set_other sizes t u n 0 apart)) (asked.bytes id least most is);
}

placed_holds : (m : Mails) (b : Base) (s : Pools) (t id n : ℕ) (timeout : ℤ) (k : VariablePool) (place : Option ℕ) → 1 ≤ id → id ≤ 64 → 0 < n → length b.tasks ≡ 256 →
    PoolHolds m s.sizes b → DoneHolds m (calls.placed (parts b s) t id n timeout k place)
placed_holds m b s t id n timeout k None least most some slots has =
    let many = has.many in
    either_holds m (int_eq timeout (pos 0)) _ _ has (record {
      asks = wait_with (Asked m s.sizes) (Asked m (slice_set s.sizes t n)) b t (variable_object id) k.order timeout
          (λ inside. let there : t < length b.tasks = inside in asks_bytes m s.sizes t id n least most some (omega (arith, slots, many, there)))
          (λ u object apart asked. others_bytes m s.sizes t n u object apart asked) has.asks;
      many = set_length s.sizes t n ∙ has.many;
    })
placed_holds m b s t id n timeout k (Some offset) least most some slots has = based m s.sizes b b has has.asks

variable_got : (m : Mails) (b : Base) (s : Pools) (t id n : ℕ) (timeout : ℤ) (slot : Option VariablePool) → 1 ≤ id → id ≤ 64 → 0 < n → length b.tasks ≡ 256 →
    PoolHolds m s.sizes b → DoneHolds m (calls.got_from_variable (parts b s) t id n timeout slot)
variable_got m b s t id n timeout None least most some slots has = has
variable_got m b s t id n timeout (Some k) least most some slots has =
    placed_holds m b s t id n timeout k (place_for (would_be_first k.order b t (variable_waiters b k id)) k n) least most some slots has

block_freed : (m : Mails) (b : Base) (s : Pools) (id offset : ℕ) (slot : Option VariablePool) → PoolHolds m s.sizes b → PoolHolds m (calls.block_freed s id offset slot).sizes b
block_freed m b s id offset None has = has
block_freed m b s id offset (Some k) has = has

some_size : (size : ℤ) → int_le (pos 1) size ≡ true → 0 < block_size (natural size)
some_size (pos n) is = let test : nat_le 1 n ≡ true = is in let one : 1 ≤ n = grind (arith, nat_tests, test) in omega (arith, one)
some_size (negsuc n) is = absurd (cc is)

-- every call on memory pools
pub pool_calls_hold : (m : Mails) (b : Base) (s : Pools) (who : Who) (c : PoolCall) → length b.tasks ≡ 256 → PoolHolds m s.sizes b →
    PoolHolds m (pool_call (record { base = b; table = s }) who c).table.sizes (pool_call (record { base = b; table = s }) who c).base
unfolding pool_call calls.create_fixed calls.delete_fixed calls.get_fixed calls.release_fixed calls.refer_fixed calls.create_variable calls.delete_variable calls.get_variable calls.release_variable calls.refer_variable
pool_calls_hold m b s who (call.CreMpf attributes count size) slots has =
    checked_holds m (calls.create_fixed_checks (parts b s) attributes count size) b s _ has
    (λ none. based m s.sizes b (take_bytes b (natural count * natural size)) has (taken_asks (Asked m s.sizes) b (natural count * natural size) has.asks))
pool_calls_hold m b s who (call.DelMpf id) slots has =
    checked_holds m (object_checks id (has_mpf s (natural id)) []) b s _ has
    (λ none. based m s.sizes b (calls.fixed_ended b (natural id) (fixed_at s (natural id))) has (fixed_ended m s.sizes b (natural id) (fixed_at s (natural id)) has.asks))
pool_calls_hold m b s who (call.GetMpf id timeout) slots has =
    checked_holds m (calls.get_fixed_checks (parts b s) who id timeout) b s _ has
    (λ none. let known = known_id 64 id (holds_at 0 (calls.get_fixed_checks (parts b s) who id timeout) none) in
    fixed_got m b s (caller who) (natural id) timeout (fixed_at s (natural id)) known.0 known.1 has)
pool_calls_hold m b s who (call.RelMpf id block) slots has =
    checked_holds m (calls.release_fixed_checks (parts b s) id block) b s _ has (λ none. block_back m b s (natural id) (natural block) (fixed_at s (natural id)) has)
pool_calls_hold m b s who (call.RefMpf id) slots has = checked_holds m (object_checks id (has_mpf s (natural id)) []) b s _ has (λ none. has)
pool_calls_hold m b s who (call.CreMpl attributes size) slots has =
    checked_holds m (calls.create_variable_checks (parts b s) attributes size) b s _ has
    (λ none. based m s.sizes b (take_bytes b (block_size (natural size))) has (taken_asks (Asked m s.sizes) b (block_size (natural size)) has.asks))
pool_calls_hold m b s who (call.DelMpl id) slots has =
    checked_holds m (object_checks id (has_mpl s (natural id)) []) b s _ has
    (λ none. based m s.sizes b (calls.variable_ended b (natural id) (variable_at s (natural id))) has (variable_ended m s.sizes b (natural id) (variable_at s (natural id)) has.asks))
pool_calls_hold m b s who (call.GetMpl id size timeout) slots has =
    checked_holds m (calls.get_variable_checks (parts b s) who id size timeout) b s _ has
    (λ none.
    let checks : List Check = calls.get_variable_checks (parts b s) who id size timeout in
    let known = known_id 64 id (holds_at 0 checks none) in
    variable_got m b s (caller who) (natural id) (block_size (natural size)) timeout (variable_at s (natural id)) known.0 known.1 (some_size size (holds_at 1 checks none)) slots has)
pool_calls_hold m b s who (call.RelMpl id offset) slots has =
    checked_holds m (calls.release_variable_checks (parts b s) id offset) b s _ has (λ none. block_freed m b s (natural id) (natural offset) (variable_at s (natural id)) has)
pool_calls_hold m b s who (call.RefMpl id) slots has = checked_holds m (object_checks id (has_mpl s (natural id)) []) b s _ has (λ none. has)
