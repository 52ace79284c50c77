-- What holds of the base after every list of moves. A word on the base that each move keeps is kept by all that is made of
-- them: by every call, and by the changes of priorities in settling.
use Rattle.std.proofs.Common.{ℕ, zero, suc, Bool, true, false, cond, List, [], ◌∷◌, Option, Some, None, ℤ}
use Rattle.std.specs.Bool.{◌==◌}
use Rattle.std.specs.Prelude.{filter, length}
use Rattle.tk_types.specs.declared.answer.Answer.{Answer}
use Rattle.tk_types.specs.declared.error_code.Er.TheVariants as er
use Rattle.tk_types.specs.declared.task.DueEvent.{DueEvent}
use Rattle.tk_types.specs.declared.task.Event.{Event}
use Rattle.tk_types.specs.declared.task.Flags.{Flags}
use Rattle.tk_types.specs.declared.task.Order.{Order}
use Rattle.tk_types.specs.declared.task.Task.{Task}
use Rattle.tk_types.specs.Codes.{code_of}
use Rattle.kernel_model.specs.Words.Checks.{plain}
use Rattle.kernel_model.specs.Words.Orders.{to_back}
use Rattle.kernel_model.specs.Tasks.Base.{Base, add_event, advance, back_if_any, create, current, delete, give_bytes, make_dormant, make_ready, make_wait, move_wait, queue, ready_of, release, resume, rotate, set_base, set_current, set_flags, set_wakeups, suspend, take_bytes, take_due, task_at, with_entry, with_task}
use Rattle.kernel_model.specs.Tasks.Calls.{rebased}
use Rattle.kernel_model.specs.SemFlags.Calls.{end_first, end_waits, first_ended}

-- each move keeps the word
pub record IsBaseProof (P : Base → Type 0) : Type 0 where
  -- tasks
  pub created : (b : Base) (t priority stack : ℕ) → P b → P (create b t priority stack)
  pub deleted : (b : Base) (t : ℕ) → P b → P (delete b t)
  pub readied : (b : Base) (t : ℕ) → P b → P (make_ready b t)
  pub ended : (b : Base) (t : ℕ) → P b → P (make_dormant b t)
  pub suspended : (b : Base) (t : ℕ) → P b → P (suspend b t)
  pub resumed : (b : Base) (t : ℕ) (all : Bool) → P b → P (resume b t all)
  pub based : (b : Base) (t priority : ℕ) → P b → P (set_base b t priority)
  pub refreshed : (b : Base) (t priority : ℕ) → P b → P (set_current b t priority)
  pub woken : (b : Base) (t n : ℕ) → P b → P (set_wakeups b t n)
  -- waits
  pub waits : (b : Base) (t object : ℕ) (order : Order) (timeout : ℤ) → P b → P (make_wait b t object order timeout)
  pub moved : (b : Base) (t object : ℕ) (order : Order) → P b → P (move_wait b t object order)
  pub released : (b : Base) (t : ℕ) (answer : Answer) → P b → P (release b t answer)
  -- stamps: a task takes the last place
  pub placed : (b : Base) (t : ℕ) → P b → P (record b { order = to_back t b.order })
  -- bytes
  pub taken : (b : Base) (n : ℕ) → P b → P (take_bytes b n)
  pub given : (b : Base) (n : ℕ) → P b → P (give_bytes b n)
  -- events: one more, or those alone that pass a test
  pub added : (b : Base) (time : ℕ) (what : Event) → P b → P (add_event b time what)
  pub passed : (b : Base) (passes : DueEvent → Bool) → P b → P (record b { events = filter passes b.events })
  -- time
  pub advanced : (b : Base) → P b → P (advance b)
  pub due : (b : Base) → P b → P (take_due b)
  -- dispatching
  pub flagged : (b : Base) (flags : Flags) → P b → P (set_flags b flags)
  pub turned : (b : Base) (cur : Option ℕ) → P b → P (record b { cur = cur })
  pub emptied : (b : Base) → P b → P (record b { released = [] })

-- each move keeps it that neither sets events, nor takes them, nor makes time pass, beside the limits of waits
pub record IsStillProof (P : Base → Type 0) : Type 0 where
  -- tasks
  pub created : (b : Base) (t priority stack : ℕ) → P b → P (create b t priority stack)
  pub deleted : (b : Base) (t : ℕ) → P b → P (delete b t)
  pub readied : (b : Base) (t : ℕ) → P b → P (make_ready b t)
  pub ended : (b : Base) (t : ℕ) → P b → P (make_dormant b t)
  pub suspended : (b : Base) (t : ℕ) → P b → P (suspend b t)
  pub resumed : (b : Base) (t : ℕ) (all : Bool) → P b → P (resume b t all)
  pub based : (b : Base) (t priority : ℕ) → P b → P (set_base b t priority)
  pub refreshed : (b : Base) (t priority : ℕ) → P b → P (set_current b t priority)
  pub woken : (b : Base) (t n : ℕ) → P b → P (set_wakeups b t n)
  -- waits
  pub waits : (b : Base) (t object : ℕ) (order : Order) (timeout : ℤ) → P b → P (make_wait b t object order timeout)
  pub moved : (b : Base) (t object : ℕ) (order : Order) → P b → P (move_wait b t object order)
  pub released : (b : Base) (t : ℕ) (answer : Answer) → P b → P (release b t answer)
  -- stamps: a task takes the last place
  pub placed : (b : Base) (t : ℕ) → P b → P (record b { order = to_back t b.order })
  -- bytes
  pub taken : (b : Base) (n : ℕ) → P b → P (take_bytes b n)
  pub given : (b : Base) (n : ℕ) → P b → P (give_bytes b n)
  -- dispatching
  pub flagged : (b : Base) (flags : Flags) → P b → P (set_flags b flags)
  pub turned : (b : Base) (cur : Option ℕ) → P b → P (record b { cur = cur })
  pub emptied : (b : Base) → P b → P (record b { released = [] })

-- what every move keeps these keep
pub still : (P : Base → Type 0) → IsBaseProof P → IsStillProof P
still P moves = record {
  created = moves.created;
  deleted = moves.deleted;
  readied = moves.readied;
  ended = moves.ended;
  suspended = moves.suspended;
  resumed = moves.resumed;
  based = moves.based;
  refreshed = moves.refreshed;
  woken = moves.woken;
  waits = moves.waits;
  moved = moves.moved;
  released = moves.released;
  placed = moves.placed;
  taken = moves.taken;
  given = moves.given;
  flagged = moves.flagged;
  turned = moves.turned;
  emptied = moves.emptied;
}

-- ---- what is made of few moves

pub either_base : (P : Base → Type 0) (test : Bool) (one other : Base) → P one → P other → P (cond test one other)
either_base P true one other first second = first
either_base P false one other first second = second

back_keeps : (P : Base → Type 0) → IsStillProof P → (b : Base) (ids : List ℕ) → P b → P (record b { order = back_if_any ids b.order })
back_keeps P is b [] has = has
back_keeps P is b (t ∷ ts) has = is.placed b t has

-- a rotation
pub rotate_keeps : (P : Base → Type 0) → IsStillProof P → (b : Base) (priority : ℕ) → P b → P (rotate b priority)
rotate_keeps P is b priority has = back_keeps P is b (ready_of b priority) has

placed_keeps : (P : Base → Type 0) → IsStillProof P → (b : Base) (t priority : ℕ) (o : Option Task) → P (with_entry o b (λ k. with_task b t (record k { base = priority }))) →
    P (record (with_entry o b (λ k. with_task b t (record k { base = priority }))) { order = to_back t b.order })
placed_keeps P is b t priority None has = is.placed b t has
placed_keeps P is b t priority (Some k) has = is.placed (with_task b t (record k { base = priority })) t has

-- a base priority, with a new stamp where the current one stays
pub rebased_keeps : (P : Base → Type 0) → IsStillProof P → (b : Base) (t priority : ℕ) → P b → P (rebased b t priority)
rebased_keeps P is b t priority has =
    let now : P (set_base b t priority) = is.based b t priority has in
    either_base P (current b t == priority) (record (set_base b t priority) { order = to_back t b.order }) (set_base b t priority) (placed_keeps P is b t priority (task_at b t) now) now

first_keeps : (P : Base → Type 0) → IsStillProof P → (ids : List ℕ) (b : Base) → P b → P (first_ended ids b)
first_keeps P is [] b has = has
first_keeps P is (t ∷ ids) b has = is.released b t (plain (code_of er.Dlt)) has

ends_keep : (P : Base → Type 0) → IsStillProof P → (left : ℕ) (order : Order) (object : ℕ) (b : Base) → P b → P (end_first left order object b)
unfolding end_first
ends_keep P is zero order object b has = has
ends_keep P is (suc left) order object b has = ends_keep P is left order object (first_ended (queue order b object) b) (first_keeps P is (queue order b object) b has)

-- the ends of all waits for an object that is deleted
pub end_waits_keeps : (P : Base → Type 0) → IsStillProof P → (order : Order) (object : ℕ) (b : Base) → P b → P (end_waits order object b)
end_waits_keeps P is order object b has = ends_keep P is (length (queue order b object)) order object b has

-- ---- two words together

-- each move keeps two words that it keeps one by one
pub both_kept : (P Q : Base → Type 0) → IsBaseProof P → IsBaseProof Q → IsBaseProof (λ b. P b × Q b)
both_kept P Q one other = record {
  created = λ b t priority stack has. (one.created b t priority stack has.0, other.created b t priority stack has.1);
  deleted = λ b t has. (one.deleted b t has.0, other.deleted b t has.1);
  readied = λ b t has. (one.readied b t has.0, other.readied b t has.1);
  ended = λ b t has. (one.ended b t has.0, other.ended b t has.1);
  suspended = λ b t has. (one.suspended b t has.0, other.suspended b t has.1);
  resumed = λ b t all has. (one.resumed b t all has.0, other.resumed b t all has.1);
  based = λ b t priority has. (one.based b t priority has.0, other.based b t priority has.1);
  refreshed = λ b t priority has. (one.refreshed b t priority has.0, other.refreshed b t priority has.1);
  woken = λ b t n has. (one.woken b t n has.0, other.woken b t n has.1);
  waits = λ b t object order timeout has. (one.waits b t object order timeout has.0, other.waits b t object order timeout has.1);
  moved = λ b t object order has. (one.moved b t object order has.0, other.moved b t object order has.1);
  released = λ b t answer has. (one.released b t answer has.0, other.released b t answer has.1);
  placed = λ b t has. (one.placed b t has.0, other.placed b t has.1);
  taken = λ b n has. (one.taken b n has.0, other.taken b n has.1);
  given = λ b n has. (one.given b n has.0, other.given b n has.1);
  added = λ b time what has. (one.added b time what has.0, other.added b time what has.1);
  passed = λ b passes has. (one.passed b passes has.0, other.passed b passes has.1);
  advanced = λ b has. (one.advanced b has.0, other.advanced b has.1);
  due = λ b has. (one.due b has.0, other.due b has.1);
  flagged = λ b flags has. (one.flagged b flags has.0, other.flagged b flags has.1);
  turned = λ b cur has. (one.turned b cur has.0, other.turned b cur has.1);
  emptied = λ b has. (one.emptied b has.0, other.emptied b has.1);
}
