-- Priorities by task, as they are lent along chains.
use Rattle.std.specs.Prelude.{ℕ, ◌≡◌, ◌≤◌, ◌<◌, ◌==◌, Bool, true, if◌then◌else◌, min, List, drop, fold, slice_index}
use Rattle.kernel_model.specs.Words.Orders.{taken_from}
use Rattle.kernel_model.specs.Tasks.Base.{Base, base_of, current, set_current, task_at}
use Rattle.object_model.specs.Mutexes.Priority.{chain_has, is_alive, lowered, own}
use Rattle.object_model.specs.Mutexes.Tables.{Mutexes}

-- what a task has after another one carried a priority along so many tasks of its chain
abbrev pub reached : (ℕ → ℕ) → ℕ → ℕ → ℕ → ℕ → ℕ → ℕ
reached next t n u priority old = if chain_has next t n u then min priority old else old

-- the least that is lent to a task, its own among it
abbrev pub least_lent : Base → Mutexes → ℕ → ℕ
least_lent b m t = fold (lowered b m t) (own b m t) (taken_from 1 (drop 1 b.tasks))

-- priorities that tasks may have
pub record AreFit (b : Base) (all : List ℕ) : Type 0 where
  pub low : (t : ℕ) → t < 256 → is_alive (task_at b t) ≡ true → 1 ≤ slice_index all t
  pub high : (t : ℕ) → t < 256 → slice_index all t ≤ 140

-- a task whose current priority isn't a given one takes that one
abbrev pub set_to : Base → ℕ → ℕ → Base
set_to b t priority = if current b t == priority then b else set_current b t priority

-- the least that is lent to a living task, and the base of another one
abbrev pub settled : Base → List ℕ → ℕ → ℕ
settled b all t = if is_alive (task_at b t) then slice_index all t else base_of b t
