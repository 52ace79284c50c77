-- Mutexes: their table, who owns which, what a ceiling allows, and what serving does.
use Rattle.std.specs.Prelude.{ℕ, ◌+◌, ◌-◌, ◌==◌, Bool, true, ◌&&◌, nat_le, nat_lt, if◌then◌else◌, pos, List, [], ◌∷◌, Option, Some, None, filter, is_some, option_map, replicate, slice_set, drop}
use Rattle.std.specs.List.{last_or, list_all}
use Rattle.tk_types.specs.declared.task.Phase.{Phase}
use Rattle.tk_types.specs.declared.task.Phase.TheVariants.{Waiting}
use Rattle.tk_types.specs.declared.task.Task.{Task}
use Rattle.kernel_model.specs.Words.Checks.{plain}
use Rattle.kernel_model.specs.Words.Orders.{entry, taken_from, to_back, without}
use Rattle.kernel_model.specs.Tasks.Base.{Base, queue, release, task_at}
use Rattle.object_model.specs.declared.mutexes.Mutex.{Mutex}
use Rattle.object_model.specs.Servings.{first_serving}

pub record Mutexes : Type 0 where
  pub table : List (Option Mutex)  -- by ID, 65 slots
  pub locks : List ℕ  -- the mutexes that are owned, by whomever, the one locked first in front

-- a base and the table beside it
pub record MutexParts : Type 0 where
  pub base : Base
  pub table : Mutexes

-- the number of the object
abbrev pub mutex_object : ℕ → ℕ
mutex_object id = 255 + id

abbrev pub mutex_at : Mutexes → ℕ → Option Mutex
mutex_at m id = entry m.table id

abbrev pub has_mutex : Mutexes → ℕ → Bool
has_mutex m id = is_some (mutex_at m id)

abbrev pub with_mutex : Mutexes → ℕ → Option Mutex → Mutexes
with_mutex m id slot = record m { table = slice_set m.table id slot }

-- ---- owners

abbrev pub owner_in : Option Mutex → ℕ
owner_in None = 0
owner_in (Some k) = k.owner

-- the task that owns a mutex, or 0
abbrev pub owner_of : Mutexes → ℕ → ℕ
owner_of m id = owner_in (mutex_at m id)

-- the mutexes that a task holds, the one locked first in front
abbrev pub held : Mutexes → ℕ → List ℕ
held m t = filter (λ id. owner_of m id == t) m.locks

-- a task becomes the owner of a mutex, the latest that it locked
abbrev pub locked : Mutexes → ℕ → Mutex → ℕ → Mutexes
locked m id k t = record (with_mutex m id (Some (record k { owner = t }))) { locks = to_back id m.locks }

-- nobody owns a mutex any more
abbrev pub freed : Mutexes → ℕ → Mutexes
freed m id = record (with_mutex m id (option_map {T = Mutex} (λ k. record k { owner = 0 }) (mutex_at m id))) { locks = without id m.locks }

-- the mutex that a task locked last is free again, where it holds one
unfoldable pub free_last : Base → Mutexes → ℕ → Option Mutexes
free_last b m t = option_map (freed m) (last_or None (held m t))

-- ---- waiters

abbrev pub awaited_in_phase : Phase → ℕ
awaited_in_phase (Waiting object) = if nat_le 256 object && nat_lt object 320 then object - 255 else 0
awaited_in_phase _ = 0

abbrev pub awaited_in : Option Task → ℕ
awaited_in None = 0
awaited_in (Some k) = awaited_in_phase k.phase

-- the mutex that a task waits for, or 0, which is none
abbrev pub awaited : Base → ℕ → ℕ
awaited b t = awaited_in (task_at b t)

-- ---- ceilings

abbrev pub ceiling_in : Option Mutex → Option ℕ
ceiling_in None = None
ceiling_in (Some k) = k.ceiling

abbrev pub ceiling_of : Mutexes → ℕ → Option ℕ
ceiling_of m id = ceiling_in (mutex_at m id)

-- whether a priority isn't above a ceiling, where there is one: above means a smaller number
abbrev pub is_under : Option ℕ → ℕ → Bool
is_under None priority = true
is_under (Some ceiling) priority = nat_le ceiling priority

-- whether a priority isn't above the ceiling of a mutex that a task holds or waits for
unfoldable pub ceiling_allows : Base → Mutexes → ℕ → ℕ → Bool
ceiling_allows b m t priority = list_all (λ id. is_under (ceiling_of m id) priority) (awaited b t ∷ held m t)

-- ---- serving

abbrev pub mutex_waiters : Base → Mutex → ℕ → List ℕ
mutex_waiters b k id = queue k.order b (mutex_object id)

-- the first of the queue becomes the owner, and its wait ends with 0
abbrev pub serve_mutex_of : Base → Mutexes → ℕ → Mutex → List ℕ → Option MutexParts
serve_mutex_of b m id k [] = None
serve_mutex_of b m id k (t ∷ rest) = Some (record { base = release b t (plain (pos 0)); table = locked m id k t })

abbrev pub serve_mutex_at : Base → Mutexes → ℕ → Option Mutex → Option MutexParts
serve_mutex_at b m id None = None
serve_mutex_at b m id (Some k) = let served : Option MutexParts = serve_mutex_of b m id k (mutex_waiters b k id) in if k.owner == 0 then served else None

-- the first waiter of a mutex gets it, where nobody owns it
unfoldable pub serve_mutex : Base → Mutexes → ℕ → Option MutexParts
serve_mutex b m id = serve_mutex_at b m id (mutex_at m id)

-- the first mutex by ID that can serve a waiter serves one
unfoldable pub serve_mutexes : Base → Mutexes → Option MutexParts
serve_mutexes b m = first_serving (serve_mutex b m) (taken_from 1 (drop 1 m.table))

-- the start: no mutex
abbrev pub mutexes_start : Mutexes
mutexes_start = record { table = replicate 65 None; locks = [] }
