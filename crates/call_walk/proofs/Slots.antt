-- The table of tasks keeps its slots: what survives the writing of any slot survives every move.
use Rattle.std.proofs.Common.{◌≡◌, ℕ, ◌-◌, Bool, cond, List, Option, None, ◌∙◌, ℤ, pos, negsuc}
use Rattle.std.specs.Bool.{◌==◌}
use Rattle.std.specs.Prelude.{length, slice_set}
use Rattle.std.proofs.lemmas.List.{length-set}
use Rattle.tk_types.specs.declared.answer.Answer.{Answer}
use Rattle.tk_types.specs.declared.task.Order.{Order}
use Rattle.tk_types.specs.declared.task.Task.{Task}
use Rattle.kernel_model.specs.Tasks.Base.{Base, has_room, is_waiting_phase, limited, make_wait, move_wait, release, resume, resumed, take_bytes, task_at}
use Rattle.kernel_lemmas.proofs.Tables.{entry_cases}
use Rattle.call_walk.proofs.BaseMoves.{IsBaseProof, either_base}

-- what survives the writing of any slot
abbrev pub IsWritable : (List (Option Task) → Type 0) → Type 0
IsWritable T = (tasks : List (Option Task)) (t : ℕ) (slot : Option Task) → T tasks → T (slice_set tasks t slot)

-- it holds of the table of a base
abbrev pub OfTable : (List (Option Task) → Type 0) → Base → Type 0
OfTable T b = T b.tasks

limited_table : (T : List (Option Task) → Type 0) (timeout : ℤ) (t : ℕ) (b : Base) → OfTable T b → OfTable T (limited timeout t b)
limited_table T (pos n) t b has = has
limited_table T (negsuc n) t b has = has

wait_table : (T : List (Option Task) → Type 0) → IsWritable T → (b : Base) (t object : ℕ) (order : Order) (timeout : ℤ) → OfTable T b → OfTable T (make_wait b t object order timeout)
wait_table T write b t object order timeout has = entry_cases (OfTable T) (task_at b t) b _ has (λ k at. limited_table T timeout t _ (write b.tasks t _ has))

move_table : (T : List (Option Task) → Type 0) → IsWritable T → (b : Base) (t object : ℕ) (order : Order) → OfTable T b → OfTable T (move_wait b t object order)
move_table T write b t object order has = entry_cases (OfTable T) (task_at b t) b _ has (λ k at. either_base (OfTable T) (is_waiting_phase k.phase) _ b (write b.tasks t _ has) has)

release_table : (T : List (Option Task) → Type 0) → IsWritable T → (b : Base) (t : ℕ) (answer : Answer) → OfTable T b → OfTable T (release b t answer)
release_table T write b t answer has = entry_cases (OfTable T) (task_at b t) b _ has (λ k at. either_base (OfTable T) (is_waiting_phase k.phase) _ b (write b.tasks t _ has) has)

resume_table : (T : List (Option Task) → Type 0) → IsWritable T → (b : Base) (t : ℕ) (all : Bool) → OfTable T b → OfTable T (resume b t all)
resume_table T write b t all has = entry_cases (OfTable T) (task_at b t) b _ has
    (λ k at. either_base (OfTable T) (k.suspensions == 0) b (resumed b t (cond all 0 (k.suspensions - 1)) k) has (write b.tasks t _ has))

taken_table : (T : List (Option Task) → Type 0) (b : Base) (n : ℕ) → OfTable T b → OfTable T (take_bytes b n)
taken_table T b n has = either_base (OfTable T) (has_room b n) _ b has has

pub table_kept : (T : List (Option Task) → Type 0) → IsWritable T → IsBaseProof (OfTable T)
table_kept T write = record {
  created = λ b t priority stack has. write b.tasks t _ has;
  deleted = λ b t has. entry_cases (OfTable T) (task_at b t) b _ has (λ k at. write b.tasks t None has);
  readied = λ b t has. entry_cases (OfTable T) (task_at b t) b _ has (λ k at. write b.tasks t _ has);
  ended = λ b t has. entry_cases (OfTable T) (task_at b t) b _ has (λ k at. write b.tasks t _ has);
  suspended = λ b t has. entry_cases (OfTable T) (task_at b t) b _ has (λ k at. write b.tasks t _ has);
  resumed = resume_table T write;
  based = λ b t priority has. entry_cases (OfTable T) (task_at b t) b _ has (λ k at. write b.tasks t _ has);
  refreshed = λ b t priority has. entry_cases (OfTable T) (task_at b t) b _ has (λ k at. write b.tasks t _ has);
  woken = λ b t n has. entry_cases (OfTable T) (task_at b t) b _ has (λ k at. write b.tasks t _ has);
  waits = wait_table T write;
  moved = move_table T write;
  released = release_table T write;
  placed = λ b t has. has;
  taken = taken_table T;
  given = λ b n has. has;
  added = λ b time what has. has;
  passed = λ b passes has. has;
  advanced = λ b has. has;
  due = λ b has. has;
  flagged = λ b flags has. has;
  turned = λ b cur has. has;
  emptied = λ b has. has;
}

-- the number of slots stays
pub slots_kept : (n : ℕ) → IsBaseProof (λ b. length b.tasks ≡ n)
slots_kept n = table_kept (λ tasks. length tasks ≡ n) (λ tasks t slot has. length-set tasks t slot ∙ has)
