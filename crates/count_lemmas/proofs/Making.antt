-- What a call makes. Each call makes one event at most: it is a chain of moves that make none, or the one that makes it comes
-- last. So it is enough to look at each move: one word on the base holds before the event, and another one behind it.
use Rattle.std.proofs.Common.{ℕ, zero, suc, Bool, true, false, cond, List, [], ◌∷◌, Option, Some, None, ℤ}
use Rattle.std.specs.Bool.{◌==◌}
use Rattle.std.specs.Prelude.{filter, length}
use Rattle.tk_types.specs.declared.answer.Answer.{Answer}
use Rattle.tk_types.specs.declared.error_code.Er.TheVariants as er
use Rattle.tk_types.specs.declared.task.DueEvent.{DueEvent}
use Rattle.tk_types.specs.declared.task.Event.{Event}
use Rattle.tk_types.specs.declared.task.Flags.{Flags}
use Rattle.tk_types.specs.declared.task.Order.{Order}
use Rattle.tk_types.specs.declared.task.Task.{Task}
use Rattle.tk_types.specs.Codes.{code_of}
use Rattle.kernel_model.specs.Words.Checks.{plain}
use Rattle.kernel_model.specs.Words.Orders.{to_back}
use Rattle.kernel_model.specs.Tasks.Base.{Base, add_event, back_if_any, create, current, delete, give_bytes, make_dormant, make_ready, make_wait, move_wait, queue, ready_of, release, resume, rotate, set_base, set_current, set_flags, set_wakeups, suspend, take_bytes, task_at, with_entry, with_task}
use Rattle.kernel_model.specs.Tasks.Calls.{rebased}
use Rattle.kernel_model.specs.SemFlags.Calls.{end_first, end_waits, first_ended}

-- each move that makes no event keeps the word
pub record IsQuiet (P : Base → Type 0) : Type 0 where
  -- tasks
  pub created : (b : Base) (t priority stack : ℕ) → P b → P (create b t priority stack)
  pub deleted : (b : Base) (t : ℕ) → P b → P (delete b t)
  pub readied : (b : Base) (t : ℕ) → P b → P (make_ready b t)
  pub ended : (b : Base) (t : ℕ) → P b → P (make_dormant b t)
  pub suspended : (b : Base) (t : ℕ) → P b → P (suspend b t)
  pub resumed : (b : Base) (t : ℕ) (all : Bool) → P b → P (resume b t all)
  pub based : (b : Base) (t priority : ℕ) → P b → P (set_base b t priority)
  pub refreshed : (b : Base) (t priority : ℕ) → P b → P (set_current b t priority)
  pub woken : (b : Base) (t n : ℕ) → P b → P (set_wakeups b t n)
  -- waits that end, or move
  pub released : (b : Base) (t : ℕ) (answer : Answer) → P b → P (release b t answer)
  pub moved : (b : Base) (t object : ℕ) (order : Order) → P b → P (move_wait b t object order)
  -- stamps: a task takes the last place
  pub placed : (b : Base) (t : ℕ) → P b → P (record b { order = to_back t b.order })
  -- bytes
  pub taken : (b : Base) (n : ℕ) → P b → P (take_bytes b n)
  pub given : (b : Base) (n : ℕ) → P b → P (give_bytes b n)
  -- those events alone are left that pass a test
  pub passed : (b : Base) (passes : DueEvent → Bool) → P b → P (record b { events = filter passes b.events })
  -- dispatching
  pub flagged : (b : Base) (flags : Flags) → P b → P (set_flags b flags)
  pub turned : (b : Base) (cur : Option ℕ) → P b → P (record b { cur = cur })
  pub emptied : (b : Base) → P b → P (record b { released = [] })

-- and the two moves that make one lead from this word to another, which is no stronger
pub record IsMaking (P Q : Base → Type 0) : Type 0 where
  pub quiet : IsQuiet P
  pub more : (b : Base) → P b → Q b
  pub waits : (b : Base) (t object : ℕ) (order : Order) (timeout : ℤ) → P b → Q (make_wait b t object order timeout)
  pub added : (b : Base) (time : ℕ) (what : Event) → P b → Q (add_event b time what)

-- ---- what is made of few moves that make no event

pub either_base : (P : Base → Type 0) (test : Bool) (one other : Base) → P one → P other → P (cond test one other)
either_base P true one other first second = first
either_base P false one other first second = second

behind_some : (P : Base → Type 0) → IsQuiet P → (b : Base) (ids : List ℕ) → P b → P (record b { order = back_if_any ids b.order })
behind_some P is b [] has = has
behind_some P is b (t ∷ ts) has = is.placed b t has

-- a rotation
pub rotation_quiet : (P : Base → Type 0) → IsQuiet P → (b : Base) (priority : ℕ) → P b → P (rotate b priority)
rotation_quiet P is b priority has = behind_some P is b (ready_of b priority) has

stamped : (P : Base → Type 0) → IsQuiet P → (b : Base) (t priority : ℕ) (slot : Option Task) → P (with_entry slot b (λ k. with_task b t (record k { base = priority }))) →
    P (record (with_entry slot b (λ k. with_task b t (record k { base = priority }))) { order = to_back t b.order })
stamped P is b t priority None has = is.placed b t has
stamped P is b t priority (Some k) has = is.placed (with_task b t (record k { base = priority })) t has

-- a base priority, with a new stamp where the current one stays
pub rebase_quiet : (P : Base → Type 0) → IsQuiet P → (b : Base) (t priority : ℕ) → P b → P (rebased b t priority)
rebase_quiet P is b t priority has =
    let changed : P (set_base b t priority) = is.based b t priority has in
    either_base P (current b t == priority) (record (set_base b t priority) { order = to_back t b.order }) (set_base b t priority) (stamped P is b t priority (task_at b t) changed) changed

first_quiet : (P : Base → Type 0) → IsQuiet P → (ids : List ℕ) (b : Base) → P b → P (first_ended ids b)
first_quiet P is [] b has = has
first_quiet P is (t ∷ ids) b has = is.released b t (plain (code_of er.Dlt)) has

each_quiet : (P : Base → Type 0) → IsQuiet P → (left : ℕ) (order : Order) (object : ℕ) (b : Base) → P b → P (end_first left order object b)
unfolding end_first
each_quiet P is zero order object b has = has
each_quiet P is (suc left) order object b has = each_quiet P is left order object (first_ended (queue order b object) b) (first_quiet P is (queue order b object) b has)

-- the ends of all waits for an object that is deleted
pub ends_quiet : (P : Base → Type 0) → IsQuiet P → (order : Order) (object : ℕ) (b : Base) → P b → P (end_waits order object b)
ends_quiet P is order object b has = each_quiet P is (length (queue order b object)) order object b has
