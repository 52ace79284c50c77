-- The paragraph on waiting calls where settling may do more than end the caller's wait: a buffer that gave a message away may have
-- room for the next sender's, whose wait ends too, and the caller's current priority changes where it comes under the ceiling of a
-- mutex. It says the same: the caller joins the waiters of the object, and all settles. If that ended the caller's wait, the call
-- returns, and the caller has its old stamp again, or the new one that it took where its current priority changed. If not, with a
-- time-out of 0 everything is as before the call, and the answer is E_TMOUT; else the task waits.
--
-- Others take new stamps meanwhile. So that the caller's old place among the stamps is still to be found, 0, which is no task,
-- keeps it.
use Rattle.std.specs.Prelude.{◌≡◌, ℕ, ◌≤◌, ◌==◌, not, if◌then◌else◌, ℤ, length, Option, Some, None, filter, slice_set, []}
use Rattle.std.specs.Option.{option_map_or}
use Rattle.tk_types.specs.declared.answer.Answer.{Answer}
use Rattle.tk_types.specs.declared.answer.Outcome.TheVariants.{Returned}
use Rattle.tk_types.specs.declared.run.Mode.{Mode}
use Rattle.tk_types.specs.declared.task.Order.{Order}
use Rattle.tk_types.specs.declared.task.Task.{Task}
use Rattle.kernel_model.specs.LawWords.Once.{times}
use Rattle.kernel_model.specs.Words.Orders.{without}
use Rattle.kernel_model.specs.Tasks.Base.{Base, current, task_at}
use Rattle.kernel_model.specs.Tasks.Waits.{HavePlaces}
use Rattle.object_model.specs.Mutexes.Calls.{MutexDone}
use Rattle.object_model.specs.Mutexes.Tables.{mutex_at}
use Rattle.mail_laws.specs.BufferTrial.{place_back, joins as joins_queue}
use Rattle.mail_laws.specs.Trial.{ended_in}
use Rattle.machine_model.specs.Events.Settle.{settle}
use Rattle.machine_model.specs.States.Objects.{Objects, Parts}
use Rattle.paragraph_laws.specs.Paragraph.{WaitDone, asked_before, joins, over_or_waits}

-- ---- the paragraph

-- a task with another current priority
abbrev pub row_with : ℕ → Option Task → Option Task
row_with priority None = None
row_with priority (Some k) = Some (record k { current = priority })

-- the caller goes on as if it hadn't joined: its row, its place and who is current are as before, and of what was released the
-- others' waits are left. A current priority that changed stays, with the stamp that the change gave
abbrev pub goes_on : Base → Base → ℕ → Base
goes_on old new t = record new {
  tasks = slice_set new.tasks t (row_with (current new t) (task_at old t));
  order = if current new t == current old t then place_back t new.order else without 0 new.order;
  since = old.since;
  made = old.made;
  cur = old.cur;
  released = filter (λ release. not (release.task == t)) new.released;
}

-- settling ended the caller's wait: the call returns
abbrev pub goes_back : Parts → Parts → ℕ → Answer → WaitDone
goes_back old settled t answer = record {
  parts = record settled { base = goes_on old.base settled.base t; objects = asked_before old.objects settled.objects };
  outcome = Returned answer;
}

-- the caller has joined the waiters of an object, and 0 keeps its place
abbrev pub joins_kept : Parts → ℕ → ℕ → Order → ℤ → Objects → Parts
joins_kept p t object order timeout asked = record p { base = joins_queue p.base t object order timeout; objects = asked }

-- what settling left, by whether it ended the caller's wait, and what it leaves where no place is kept
abbrev pub after_kept : Parts → ℕ → ℤ → Parts → Parts → WaitDone
after_kept old t timeout kept settled = option_map_or (goes_back old kept t) (ended_in t kept.base) (over_or_waits old settled timeout)

-- a task joins the waiters of an object, and all settles
unfoldable pub kept_paragraph : Mode → Parts → ℕ → ℕ → Order → ℤ → Objects → WaitDone
kept_paragraph mode p t object order timeout asked =
    after_kept p t timeout (settle mode (joins_kept p t object order timeout asked)) (settle mode (joins p t object order timeout asked))

-- ---- what the call leaves

-- a call on mutexes, as one of all parts
abbrev pub mutex_waits : Parts → MutexDone → WaitDone
mutex_waits p done = record { parts = record p { base = done.base; objects = record p.objects { mutexes = done.table } }; outcome = done.outcome }

-- all settles after the call
abbrev pub settled_after : Mode → WaitDone → WaitDone
settled_after mode done = record done { parts = settle mode done.parts }

-- ---- where the law holds

-- At most eight devices, in a list that begins with a place that none takes, and 256 slots for tasks. No task and no mutex has the
-- number 0, and 0 has no place among the stamps; each task that waits has its places there; and no release is left to take.
pub record IsSound (p : Parts) : Type 0 where
  pub links : length p.objects.devices.links ≤ 9
  pub slots : length p.base.tasks ≤ 256
  pub no_task : task_at p.base 0 ≡ None
  pub no_place : times 0 p.base.order ≡ 0
  pub no_mutex : mutex_at p.objects.mutexes 0 ≡ None
  pub places : HavePlaces p.base
  pub none_left : p.base.released ≡ []
