-- Which task is the first to run, in the words of the subject: one that is ready, of the least priority number,
-- and of those the one that stands first in the order of stamps.
use Rattle.std.specs.Prelude.{◌≡◌, ℕ, ◌<◌, ◌≤◌, Bool, true, false, ◌==◌, List, [], ◌∷◌, ◌++◌}
use Rattle.tk_types.specs.declared.answer.Who.TheVariants as whos
use Rattle.tk_types.specs.declared.calls.TaskCall.{TaskCall}
use Rattle.tk_types.specs.declared.calls.TaskCall.TheVariants as call
use Rattle.kernel_model.specs.LawWords.Once.{times}
use Rattle.kernel_model.specs.Tasks.Base.{Base, is_ready, current}
use Rattle.kernel_model.specs.Tasks.Calls.{named}

-- of these tasks each that is ready has a lower priority than this number
abbrev pub AllLower : (ℕ → Bool) → (ℕ → ℕ) → ℕ → List ℕ → Type 0
AllLower ready priority p [] = Unit {0}
AllLower ready priority p (t ∷ ts) = (ready t ≡ true → p < priority t) × AllLower ready priority p ts

-- of these tasks none that is ready has a higher priority than this number
abbrev pub NoneHigher : (ℕ → Bool) → (ℕ → ℕ) → ℕ → List ℕ → Type 0
NoneHigher ready priority p [] = Unit {0}
NoneHigher ready priority p (t ∷ ts) = (ready t ≡ true → p ≤ priority t) × NoneHigher ready priority p ts

-- the task is ready; each ready one that stands before it has a lower priority, and none behind it a higher one
pub record IsFirst (ready : ℕ → Bool) (priority : ℕ → ℕ) (t : ℕ) (before behind : List ℕ) : Type 0 where
  pub may_run : ready t ≡ true
  pub ahead : AllLower ready priority (priority t) before
  pub after : NoneHigher ready priority (priority t) behind

-- the task is the first of the tasks in the order of their stamps
pub record Precedes (b : Base) (t : ℕ) : Type 0 where
  pub before : List ℕ
  pub behind : List ℕ
  pub stands : b.order ≡ before ++ t ∷ behind
  pub first : IsFirst (is_ready b) (current b) t before behind

-- none of these tasks is ready
abbrev pub NoneReady : (ℕ → Bool) → List ℕ → Type 0
NoneReady ready [] = Unit {0}
NoneReady ready (t ∷ ts) = (ready t ≡ true → ⊥) × NoneReady ready ts

-- each ready task that stands before this one has a lower priority: it is the first of its equals
pub record KeepsPlace (b : Base) (t : ℕ) : Type 0 where
  pub before : List ℕ
  pub behind : List ℕ
  pub stands : b.order ≡ before ++ t ∷ behind
  pub ahead : AllLower (is_ready b) (current b) (current b t) before

-- whether a call of a task gives its place away by what the call means: it rotates the ready tasks of a priority, or
-- it changes the caller's own priority
abbrev pub gives_place_away : ℕ → TaskCall → Bool
gives_place_away t (call.RotRdq priority) = true
gives_place_away t (call.ChgPri task priority) = named (whos.Task t) task == t
gives_place_away t _ = false

-- the task is ready and has the latest stamp: every other one that is ready stands before it
pub record StandsLast (b : Base) (t : ℕ) : Type 0 where
  pub may_run : is_ready b t ≡ true
  pub before : List ℕ
  pub stands : b.order ≡ before ++ t ∷ []
  pub others : times t before ≡ 0
