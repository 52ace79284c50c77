-- What serving a mutex, freeing one, and a ceiling mean, in the words of the subject.
use Rattle.std.specs.Prelude.{ℕ, ◌+◌, ◌≡◌, ◌≤◌, ◌<◌, ◌⊎◌, pos, List, [], ◌∷◌, ◌++◌, None, Some}
use Rattle.tk_types.specs.declared.answer.Who.{Who}
use Rattle.tk_types.specs.declared.calls.MutexCall.{MutexCall}
use Rattle.tk_types.specs.declared.calls.MutexCall.TheVariants.{DelMtx, UnlMtx}
use Rattle.kernel_model.specs.LawWords.Once.{times}
use Rattle.kernel_model.specs.LawWords.Waiters.{waiting_count}
use Rattle.kernel_model.specs.Words.Checks.{natural, plain}
use Rattle.kernel_model.specs.Words.Orders.{without}
use Rattle.kernel_model.specs.Tasks.Calls.{caller}
use Rattle.kernel_model.specs.Tasks.Base.{Base, release}
use Rattle.object_model.specs.declared.mutexes.Mutex.{Mutex}
use Rattle.object_model.specs.Mutexes.Tables.{MutexParts, Mutexes, awaited, ceiling_of, held, locked, mutex_at, mutex_waiters, owner_of, serve_mutex}

-- one wait for a mutex that nobody owned has ended with 0, that of the first in its queue, who owns it now, as the latest that
-- it locked; and nothing else has changed
pub record IsServed (b : Base) (m : Mutexes) (id : ℕ) (parts : MutexParts) : Type 0 where
  pub row : Mutex
  pub there : mutex_at m id ≡ Some row
  pub free : owner_of m id ≡ 0
  pub first : ℕ
  pub behind : List ℕ
  pub waited : mutex_waiters b row id ≡ first ∷ behind
  pub ended : parts.base ≡ release b first (plain (pos 0))
  pub fewer : waiting_count b ≡ waiting_count parts.base + 1
  pub handed : parts.table ≡ locked m id row first
  pub owns : owner_of parts.table id ≡ first
  pub holds : held parts.table first ≡ without id (held m first) ++ id ∷ []
  pub others : (other : ℕ) → (other ≡ id → ⊥) → mutex_at parts.table other ≡ mutex_at m other

-- the mutex with that ID was served, and none with a lower one could be
pub record IsFirstServed (b : Base) (m : Mutexes) (parts : MutexParts) : Type 0 where
  pub id : ℕ
  pub one : 1 ≤ id
  pub serves : serve_mutex b m id ≡ Some parts
  pub none_before : (other : ℕ) → 1 ≤ other → other < id → serve_mutex b m other ≡ None

-- the mutex that a task locked last is free; it holds the others in their order, and each other task what it held
pub record IsLastFreed (m : Mutexes) (t : ℕ) (now : Mutexes) : Type 0 where
  pub id : ℕ
  pub left : List ℕ
  pub held_before : held m t ≡ left ++ id ∷ []
  pub free : owner_of now id ≡ 0
  pub held_now : held now t ≡ left
  pub others : (u : ℕ) → 1 ≤ u → (u ≡ t → ⊥) → held now u ≡ held m u
  pub rows : (other : ℕ) → (other ≡ id → ⊥) → mutex_at now other ≡ mutex_at m other

-- a task holds a mutex, or waits for it
abbrev pub HoldsOrAwaits : Base → Mutexes → ℕ → ℕ → Type 0
HoldsOrAwaits b m t id = (1 ≤ times id (held m t)) ⊎ (awaited b t ≡ id)

-- a priority is above the ceiling of a mutex that a task holds or waits for
pub record IsAboveCeiling (b : Base) (m : Mutexes) (t priority : ℕ) : Type 0 where
  pub id : ℕ
  pub ceiling : ℕ
  pub concerns : HoldsOrAwaits b m t id
  pub has : ceiling_of m id ≡ Some ceiling
  pub above : priority < ceiling

-- a call by which a mutex leaves its owner: the owner unlocks it, or it is deleted
abbrev pub GivesUp : Who → MutexCall → ℕ → ℕ → Type 0
GivesUp who (UnlMtx number) id owner = (natural number ≡ id) × (caller who ≡ owner)
GivesUp who (DelMtx number) id owner = natural number ≡ id
GivesUp who _ id owner = ⊥
