-- The paragraph on waiting calls, for semaphores and event flags, at the object alone: the caller joins the waiters of the
-- object, and the object serves one, if it can. If that ended the caller's wait, the call returns, and the caller has its
-- old stamp again. If not, with a time-out of 0 everything is as before the call, and the answer is E_TMOUT; else the task
-- waits. `SemFlagCalls` decides at the object without a trial; the law `a_waiting_call_is_its_trial` ties the two.
-- `Paragraph` has the same with the whole of settling.
use Rattle.std.specs.Prelude.{ℕ, ◌≡◌, ◌==◌, if◌then◌else◌, ℤ, Option, Some, None, slice_set}
use Rattle.std.specs.List.{find}
use Rattle.std.specs.Option.{option_map, option_map_or}
use Rattle.tk_types.specs.declared.answer.Answer.{Answer}
use Rattle.tk_types.specs.declared.answer.Outcome.TheVariants.{Returned}
use Rattle.tk_types.specs.declared.task.Task.{Task}
use Rattle.tk_types.specs.declared.task.Phase.TheVariants.{Ready}
use Rattle.kernel_model.specs.declared.objects.Semaphore.{Semaphore}
use Rattle.kernel_model.specs.declared.objects.EventFlag.{EventFlag}
use Rattle.kernel_model.specs.declared.objects.FlagWish.{FlagWish}
use Rattle.kernel_model.specs.Words.Events.{without_wait}
use Rattle.kernel_model.specs.Tasks.Base.{Base, task_at, is_waiting, make_wait}
use Rattle.kernel_model.specs.SemFlags.Tables.{SemFlags, SemFlagParts, sem_object, flag_object, serve_sem, serve_flag}
use Rattle.kernel_model.specs.SemFlags.Calls.{SemFlagDone, waits_or_ends}

-- the caller goes on as if it hadn't joined: its row, its places, who is current and what was released are as before. So
-- is the number of events made, which is no part of what is said of a waiting call. What is set for a time is what the
-- trial left: what the join had set, the end of the wait has dropped
abbrev pub back_in : Base → Base → ℕ → Base
back_in old new t = record new {
  tasks = slice_set new.tasks t (task_at old t);
  order = old.order;
  since = old.since;
  made = old.made;
  cur = old.cur;
  released = old.released;
}

-- the answer in the record that a serving left of the end of a task's wait; none where the task waits on
abbrev pub ended_with : ℕ → SemFlagParts → Option Answer
ended_with t parts =
    if is_waiting parts.base t then None else option_map (λ release. release.answer) (find (λ release. release.task == t) parts.base.released)

-- ---- semaphores

-- the table with the count that a task asks for
abbrev pub asked_count : SemFlags → ℕ → ℕ → SemFlags
asked_count s t n = record s { counts = slice_set s.counts t n }

abbrev pub sem_trial_of : Base → SemFlags → ℕ → ℕ → ℕ → ℤ → Semaphore → Option SemFlagParts → SemFlagDone
sem_trial_of b s t id n timeout k None = waits_or_ends b s t (sem_object id) k.order timeout (asked_count s t n)
sem_trial_of b s t id n timeout k (Some parts) =
    option_map_or (λ answer. record { base = back_in b parts.base t; table = record parts.table { counts = s.counts }; outcome = Returned answer }) (ended_with t parts)
    (waits_or_ends b s t (sem_object id) k.order timeout (asked_count s t n))

-- a task joins the waiters of a semaphore, which then serves one, if it can
unfoldable pub sem_trial : Base → SemFlags → ℕ → ℕ → ℕ → ℤ → Semaphore → SemFlagDone
sem_trial b s t id n timeout k =
    sem_trial_of b s t id n timeout k (serve_sem (make_wait b t (sem_object id) k.order timeout) (asked_count s t n) id)

-- ---- event flags

abbrev pub asked_wish : SemFlags → ℕ → FlagWish → SemFlags
asked_wish s t wish = record s { wishes = slice_set s.wishes t wish }

abbrev pub flag_trial_of : Base → SemFlags → ℕ → ℕ → FlagWish → ℤ → EventFlag → Option SemFlagParts → SemFlagDone
flag_trial_of b s t id wish timeout k None = waits_or_ends b s t (flag_object id) k.order timeout (asked_wish s t wish)
flag_trial_of b s t id wish timeout k (Some parts) =
    option_map_or (λ answer. record { base = back_in b parts.base t; table = record parts.table { wishes = s.wishes }; outcome = Returned answer }) (ended_with t parts)
    (waits_or_ends b s t (flag_object id) k.order timeout (asked_wish s t wish))

-- a task joins the waiters of an event flag, which then serves one, if it can
unfoldable pub flag_trial : Base → SemFlags → ℕ → ℕ → FlagWish → ℤ → EventFlag → SemFlagDone
flag_trial b s t id wish timeout k =
    flag_trial_of b s t id wish timeout k (serve_flag (make_wait b t (flag_object id) k.order timeout) (asked_wish s t wish) id)

-- ---- who may wait

-- a task that may wait: it is ready, and no end of a wait is set for it
pub record MayWait (b : Base) (t : ℕ) : Type 0 where
  pub row : Task
  pub there : task_at b t ≡ Some row
  pub ready : row.phase ≡ Ready
  pub unset : without_wait t b.events ≡ b.events
