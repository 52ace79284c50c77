-- The current priority of a task by the mutexes that it holds, and by those who wait for them; and the first half of settling,
-- in which changed ones are taken over.
use Rattle.std.specs.Prelude.{ℕ, zero, suc, ◌==◌, Bool, false, not, ◌&&◌, ◌||◌, if◌then◌else◌, min, Option, Some, None, fold, drop}
use Rattle.tk_types.specs.declared.task.Task.{Task}
use Rattle.kernel_model.specs.Words.Orders.{taken_from}
use Rattle.kernel_model.specs.Tasks.Base.{Base, task_at, base_of, current, is_dormant_phase, set_current}
use Rattle.object_model.specs.declared.mutexes.Mutex.{Mutex}
use Rattle.object_model.specs.Mutexes.Tables.{Mutexes, awaited, ceiling_of, held, mutex_at}

-- a priority under a ceiling, where there is one, is the higher of the two
abbrev pub under : Option ℕ → ℕ → ℕ
under None priority = priority
under (Some ceiling) priority = min ceiling priority

abbrev pub capped : Mutexes → ℕ → ℕ → ℕ
capped m priority id = under (ceiling_of m id) priority

-- the priority that a task has by itself: the highest of its base and of the ceilings of the mutexes that it holds
abbrev pub own : Base → Mutexes → ℕ → ℕ
own b m u = fold (capped m) (base_of b u) (held m u)

abbrev pub heir_in : Option Mutex → ℕ
heir_in None = 0
heir_in (Some k) = if k.inherits then k.owner else 0

-- the task that a waiting task's chain goes on with: the owner of the inheritance mutex that it waits for, or 0
abbrev pub next_in_chain : Base → Mutexes → ℕ → ℕ
next_in_chain b m u = heir_in (mutex_at m (awaited b u))

-- whether a task stands in the chain of another one, within so many tasks behind that one
unfoldable pub chain_has : (ℕ → ℕ) → ℕ → ℕ → ℕ → Bool
chain_has next t zero u = u == t
chain_has next t (suc n) u =
    let v : ℕ = next u in
    let later : Bool = chain_has next t n v in
    u == t || (not (v == 0) && later)

-- a task that exists and isn't DORMANT
abbrev pub is_alive : Option Task → Bool
is_alive None = false
is_alive (Some k) = not (is_dormant_phase k.phase)

-- whether a task lends its priority to another one: it is alive, and its chain has that one. No chain passes more than 255
-- tasks before it comes to one of them again
abbrev pub lends_to : Base → Mutexes → ℕ → ℕ → Bool
lends_to b m t u =
    let reaches : Bool = chain_has (next_in_chain b m) t 255 u in
    is_alive (task_at b u) && reaches

abbrev pub lowered : Base → Mutexes → ℕ → ℕ → ℕ → ℕ
lowered b m t least u =
    let lower : ℕ = min (own b m u) least in
    if lends_to b m t u then lower else least

-- the current priority by definition: the highest that a task has by itself, of all those that lend theirs to this one, itself
-- among them. A DORMANT task has its base
unfoldable pub current_of : Base → Mutexes → ℕ → ℕ
current_of b m t =
    let least : ℕ = fold (lowered b m t) (own b m t) (taken_from 1 (drop 1 b.tasks)) in
    if is_alive (task_at b t) then least else base_of b t

-- a task whose current priority isn't that of its definition takes that one, with a new stamp
abbrev pub refresh : Mutexes → Base → ℕ → Base
refresh m b t =
    let now : ℕ = current_of b m t in
    let changed : Base = set_current b t now in
    if current b t == now then b else changed

-- each changed current priority is taken over, in rising ID
unfoldable pub resettle : Base → Mutexes → Base
resettle b m = fold (refresh m) b (taken_from 1 (drop 1 b.tasks))
