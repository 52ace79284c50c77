-- A serving of a pool ends one wait.
use Rattle.std.proofs.Common.{◌≡◌, ℕ, zero, suc, ◌+◌, List, [], ◌∷◌, Option, Some, None, refl, ◌∙◌, ap}
use Rattle.tk_types.specs.declared.answer.Answer.{Answer}
use Rattle.tk_types.specs.declared.task.Order.{Order}
use Rattle.kernel_model.specs.LawWords.Waiters.{waiting_count}
use Rattle.kernel_model.specs.Tasks.Base.{Base, queue, release}
use Rattle.kernel_lemmas.proofs.Releases.{release_ends_one}
use Rattle.call_lemmas.proofs.Serving.{waits_for_waits}
use Rattle.mail_laws.proofs.Waits.{first_waits, of_first}
use Rattle.object_model.specs.Pools.Tables.{PoolParts, FixedPool, VariablePool, fixed_object, variable_object, fixed_at, variable_at, size_of}
use Rattle.object_model.specs.Pools.Fixed.{serve_fixed, serve_fixed_at, fixed_serves, serve_fixed_pools, free_block, fixed_waiters}
use Rattle.object_model.specs.Pools.Variable.{serve_variable, serve_variable_at, variable_serves, block_given, serve_variable_pools, place_in, variable_waiters}

-- the release of the first of a queue ends one wait
pub first_ends : (order : Order) (b : Base) (object t : ℕ) (ts : List ℕ) (result : Answer) → queue order b object ≡ t ∷ ts → waiting_count b ≡ waiting_count (release b t result) + 1
first_ends order b object t ts result is = release_ends_one b t result (waits_for_waits b t object (first_waits order b object t ts is))

-- ---- pools

abbrev EndsOne : PoolParts → PoolParts → Type 0
EndsOne p q = waiting_count p.base ≡ waiting_count q.base + 1

ended : (p left q : PoolParts) → EndsOne p left → Some left ≡ Some q → EndsOne p q
ended p left q one served = let same : left ≡ q = cc served in one ∙ ap (λ (now : PoolParts). waiting_count now.base + 1) same

fixed_of : (p q : PoolParts) (id : ℕ) (k : FixedPool) (waiters : List ℕ) (number : ℕ) → fixed_waiters p.base k id ≡ waiters → fixed_serves p id k waiters number ≡ Some q → EndsOne p q
fixed_of p q id k [] number stand served = absurd (cc served)
fixed_of p q id k (t ∷ ts) zero stand served = absurd (cc served)
fixed_of p q id k (t ∷ ts) (suc before) stand served = ended p _ q (first_ends k.order p.base (fixed_object id) t ts _ stand) served

fixed_slot : (p q : PoolParts) (id : ℕ) (slot : Option FixedPool) → serve_fixed_at p id slot ≡ Some q → EndsOne p q
fixed_slot p q id None served = absurd (cc served)
fixed_slot p q id (Some k) served = fixed_of p q id k (fixed_waiters p.base k id) (free_block k) refl served

fixed_one : (p q : PoolParts) (id : ℕ) → serve_fixed p id ≡ Some q → EndsOne p q
unfolding serve_fixed
fixed_one p q id served = fixed_slot p q id (fixed_at p.table id) served

pub fixed_ends : (p q : PoolParts) → serve_fixed_pools p ≡ Some q → EndsOne p q
unfolding serve_fixed_pools
fixed_ends p q served = of_first (EndsOne p) (serve_fixed p) _ q (fixed_one p q) served

given_of : (p q : PoolParts) (id : ℕ) (k : VariablePool) (t : ℕ) (ts : List ℕ) (place : Option ℕ) → variable_waiters p.base k id ≡ t ∷ ts → block_given p id k t place ≡ Some q → EndsOne p q
given_of p q id k t ts None stand served = absurd (cc served)
given_of p q id k t ts (Some offset) stand served = ended p _ q (first_ends k.order p.base (variable_object id) t ts _ stand) served

variable_of : (p q : PoolParts) (id : ℕ) (k : VariablePool) (waiters : List ℕ) → variable_waiters p.base k id ≡ waiters → variable_serves p id k waiters ≡ Some q → EndsOne p q
variable_of p q id k [] stand served = absurd (cc served)
variable_of p q id k (t ∷ ts) stand served = given_of p q id k t ts (place_in k (size_of p.table t)) stand served

variable_slot : (p q : PoolParts) (id : ℕ) (slot : Option VariablePool) → serve_variable_at p id slot ≡ Some q → EndsOne p q
variable_slot p q id None served = absurd (cc served)
variable_slot p q id (Some k) served = variable_of p q id k (variable_waiters p.base k id) refl served

variable_one : (p q : PoolParts) (id : ℕ) → serve_variable p id ≡ Some q → EndsOne p q
unfolding serve_variable
variable_one p q id served = variable_slot p q id (variable_at p.table id) served

pub variable_ends : (p q : PoolParts) → serve_variable_pools p ≡ Some q → EndsOne p q
unfolding serve_variable_pools
variable_ends p q served = of_first (EndsOne p) (serve_variable p) _ q (variable_one p q) served
