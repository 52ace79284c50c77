-- The stamps: what survives that an ID takes the last place, or is taken out, survives every move. So each task has one place
-- at most, by when it became ready and by when it began to wait.
use Rattle.std.proofs.Common.{ℕ, ◌-◌, Bool, true, false, not, cond, List, ℤ, pos, negsuc}
use Rattle.std.specs.Bool.{◌==◌}
use Rattle.tk_types.specs.declared.answer.Answer.{Answer}
use Rattle.tk_types.specs.declared.task.Order.{Order}
use Rattle.kernel_model.specs.LawWords.Once.{IsOnce}
use Rattle.kernel_model.specs.Words.Orders.{to_back, without}
use Rattle.kernel_model.specs.Tasks.Base.{Base, becomes_ready, has_room, is_waiting_phase, limited, make_wait, move_wait, release, resume, resumed, take_bytes, task_at}
use Rattle.kernel_lemmas.proofs.Once.{once_back, once_filter}
use Rattle.kernel_lemmas.proofs.Tables.{entry_cases}
use Rattle.call_walk.proofs.BaseMoves.{IsBaseProof, either_base}

-- what survives both
pub record AreStamps (T : List ℕ → Type 0) : Type 0 where
  pub back : (id : ℕ) (ids : List ℕ) → T ids → T (to_back id ids)
  pub out : (id : ℕ) (ids : List ℕ) → T ids → T (without id ids)

-- it holds of both orders of a base
abbrev pub OfStamps : (List ℕ → Type 0) → Base → Type 0
OfStamps T b = T b.order × T b.since

back_if : (T : List ℕ → Type 0) → AreStamps T → (test : Bool) (t : ℕ) (ids : List ℕ) → T ids → T (cond test (to_back t ids) ids)
back_if T are true t ids has = are.back t ids has
back_if T are false t ids has = has

limited_stamps : (T : List ℕ → Type 0) (timeout : ℤ) (t : ℕ) (b : Base) → OfStamps T b → OfStamps T (limited timeout t b)
limited_stamps T (pos n) t b has = has
limited_stamps T (negsuc n) t b has = has

wait_stamps : (T : List ℕ → Type 0) → AreStamps T → (b : Base) (t object : ℕ) (order : Order) (timeout : ℤ) → OfStamps T b → OfStamps T (make_wait b t object order timeout)
wait_stamps T are b t object order timeout has = entry_cases (OfStamps T) (task_at b t) b _ has (λ k at. limited_stamps T timeout t _ (are.back t b.order has.0, are.back t b.since has.1))

move_stamps : (T : List ℕ → Type 0) (b : Base) (t object : ℕ) (order : Order) → OfStamps T b → OfStamps T (move_wait b t object order)
move_stamps T b t object order has = entry_cases (OfStamps T) (task_at b t) b _ has (λ k at. either_base (OfStamps T) (is_waiting_phase k.phase) _ b has has)

release_stamps : (T : List ℕ → Type 0) → AreStamps T → (b : Base) (t : ℕ) (answer : Answer) → OfStamps T b → OfStamps T (release b t answer)
release_stamps T are b t answer has = entry_cases (OfStamps T) (task_at b t) b _ has
    (λ k at. either_base (OfStamps T) (is_waiting_phase k.phase) _ b (back_if T are (k.suspensions == 0) t b.order has.0, has.1) has)

resume_stamps : (T : List ℕ → Type 0) → AreStamps T → (b : Base) (t : ℕ) (all : Bool) → OfStamps T b → OfStamps T (resume b t all)
resume_stamps T are b t all has = entry_cases (OfStamps T) (task_at b t) b _ has
    (λ k at.
    let left : ℕ = cond all 0 (k.suspensions - 1) in
    either_base (OfStamps T) (k.suspensions == 0) b (resumed b t left k) has (back_if T are (becomes_ready k.phase left) t b.order has.0, has.1))

taken_stamps : (T : List ℕ → Type 0) (b : Base) (n : ℕ) → OfStamps T b → OfStamps T (take_bytes b n)
taken_stamps T b n has = either_base (OfStamps T) (has_room b n) _ b has has

pub stamps_kept : (T : List ℕ → Type 0) → AreStamps T → IsBaseProof (OfStamps T)
stamps_kept T are = record {
  created = λ b t priority stack has. (are.back t b.order has.0, are.back t b.since has.1);
  deleted = λ b t has. entry_cases (OfStamps T) (task_at b t) b _ has (λ k at. (are.out t b.order has.0, are.out t b.since has.1));
  readied = λ b t has. entry_cases (OfStamps T) (task_at b t) b _ has (λ k at. (are.back t b.order has.0, has.1));
  ended = λ b t has. entry_cases (OfStamps T) (task_at b t) b _ has (λ k at. has);
  suspended = λ b t has. entry_cases (OfStamps T) (task_at b t) b _ has (λ k at. has);
  resumed = resume_stamps T are;
  based = λ b t priority has. entry_cases (OfStamps T) (task_at b t) b _ has (λ k at. has);
  refreshed = λ b t priority has. entry_cases (OfStamps T) (task_at b t) b _ has (λ k at. (are.back t b.order has.0, has.1));
  woken = λ b t n has. entry_cases (OfStamps T) (task_at b t) b _ has (λ k at. has);
  waits = wait_stamps T are;
  moved = move_stamps T;
  released = release_stamps T are;
  placed = λ b t has. (are.back t b.order has.0, has.1);
  taken = taken_stamps T;
  given = λ b n has. has;
  added = λ b time what has. has;
  passed = λ b passes has. has;
  advanced = λ b has. has;
  due = λ b has. has;
  flagged = λ b flags has. has;
  turned = λ b cur has. has;
  emptied = λ b has. has;
}

-- each task has one place at most
pub once_kept : IsBaseProof (λ b. IsOnce b.order × IsOnce b.since)
once_kept = stamps_kept IsOnce (record { back = once_back; out = λ id ids once. once_filter (λ other. not (other == id)) ids once })
