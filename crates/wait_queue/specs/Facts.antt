-- What always holds of the waiters.
use Rattle.std.specs.Prelude.{◌≡◌, ℕ, ◌<◌, ◌≤◌, List, [], ◌∷◌, nat_eq}
use Rattle.std.specs.List.{IsDistinct, AllByRecursion}
use Rattle.tk_types.specs.declared.task.Order.{Order}
use Rattle.tk_types.specs.declared.task.Order.TheVariants.{Fifo, Priority}
use Rattle.wait_queue.specs.declared.waiters.Waiter.{Waiter}
use Rattle.wait_queue.specs.Queues.{tasks_of}

-- each of these waiters stands in a queue of this order
abbrev pub AreOfOrder : Order → List Waiter → Type 0
AreOfOrder order list = AllByRecursion (λ waiter. waiter.order ≡ order) list

-- in a queue by priority the number of one that stands behind isn't less
abbrev pub IsInOrder : Order → ℕ → ℕ → Type 0
IsInOrder Fifo ahead behind = Unit {0}
IsInOrder Priority ahead behind = ahead ≤ behind

-- the priority numbers rise along these waiters, or stay equal
abbrev pub IsRising : List Waiter → Type 0
IsRising [] = Unit {0}
IsRising (first ∷ rest) = AllByRecursion (λ other. first.priority ≤ other.priority) rest × IsRising rest

-- two waiters of one object have one order, and stand in it
abbrev pub MayFollow : Waiter → Waiter → Type 0
MayFollow ahead behind = behind.object ≡ ahead.object → (behind.order ≡ ahead.order) × IsInOrder ahead.order ahead.priority behind.priority

-- the waiters of each object have one order and stand in it: a queue by priority rises, or stays equal
abbrev pub AreInOrder : List Waiter → Type 0
AreInOrder [] = Unit {0}
AreInOrder (first ∷ rest) = AllByRecursion (MayFollow first) rest × AreInOrder rest

-- each task waits at most once
abbrev pub EachOnce : List Waiter → Type 0
EachOnce list = IsDistinct nat_eq (tasks_of list)

-- the waiters of so many objects, in a memory that has room for so many waiters
pub record IsWaitTable (objects : ℕ) (list : List Waiter) (room : ℕ) : Type 0 where
  pub enough : 256 ≤ room
  pub known : AllByRecursion (λ waiter. waiter.object < objects) list
  pub ids : AllByRecursion (λ waiter. waiter.task < 256) list
  pub once : EachOnce list
  pub ordered : AreInOrder list
