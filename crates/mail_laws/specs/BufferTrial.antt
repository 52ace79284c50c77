-- The paragraph on waiting calls, for message buffers, at the object alone: the caller joins the senders or the receivers of the
-- buffer, which then serves once, if it can. If that ended the caller's wait, the call returns, and the caller has its old
-- stamp again. If not, with a time-out of 0 everything is as before the call, and the answer is E_TMOUT; else the task waits.
--
-- Such a serving may end another task's wait too, which takes the last place then. So that the caller's old place is still to
-- be found, 0, which is no task, keeps it meanwhile.
use Rattle.std.specs.Prelude.{ℕ, ◌≡◌, ◌==◌, not, if◌then◌else◌, ℤ, List, [], ◌∷◌, ◌++◌, Option, Some, None, map, filter, slice_set}
use Rattle.std.specs.Option.{option_map_or}
use Rattle.tk_types.specs.declared.answer.Outcome.TheVariants.{Returned}
use Rattle.tk_types.specs.declared.task.Order.{Order}
use Rattle.tk_types.specs.declared.task.Order.TheVariants.{Fifo}
use Rattle.kernel_model.specs.LawWords.Once.{times}
use Rattle.kernel_model.specs.SemFlags.Trial.{MayWait}
use Rattle.kernel_model.specs.Words.Orders.{without}
use Rattle.kernel_model.specs.Tasks.Base.{Base, make_wait, task_at}
use Rattle.object_model.specs.Mails.Tables.{MessageBuffer, MailParts, senders_object, receivers_object}
use Rattle.object_model.specs.Mails.Buffers.{serve_buffer}
use Rattle.object_model.specs.Mails.Calls.{MailDone, mail_done, waits_or_ends, asked_to_send, asked_into}
use Rattle.mail_laws.specs.Trial.{ended_in}

-- 0 keeps a task's place while the task waits, the last of all
abbrev pub place_kept : ℕ → List ℕ → List ℕ
place_kept t order = map (λ u. if u == t then 0 else u) order ++ t ∷ []

-- and the task has it again
abbrev pub place_back : ℕ → List ℕ → List ℕ
place_back t order = map (λ u. if u == 0 then t else u) (without t order)

-- a task joins the waiters of an object
abbrev pub joins : Base → ℕ → ℕ → Order → ℤ → Base
joins b t object order timeout = record (make_wait b t object order timeout) { order = place_kept t b.order }

-- the caller goes on as if it hadn't joined: its row, its place and who is current are as before, and of what was released the
-- others' waits are left
abbrev pub goes_on : Base → Base → ℕ → Base
goes_on old new t = record new {
  tasks = slice_set new.tasks t (task_at old t);
  order = place_back t new.order;
  since = old.since;
  made = old.made;
  cur = old.cur;
  released = filter (λ release. not (release.task == t)) new.released;
}

abbrev pub send_trial_of : MailParts → ℕ → ℕ → List ℕ → ℤ → MessageBuffer → Option MailParts → MailDone
send_trial_of p t id bytes timeout k None = waits_or_ends p t (senders_object id) k.order timeout (asked_to_send p.table t bytes)
send_trial_of p t id bytes timeout k (Some q) =
    option_map_or (λ answer. mail_done (record q { base = goes_on p.base q.base t; table = record q.table { sending = p.table.sending } }) (Returned answer)) (ended_in t q.base)
    (waits_or_ends p t (senders_object id) k.order timeout (asked_to_send p.table t bytes))

-- a task joins the senders of a buffer, which then serves once, if it can
unfoldable pub send_trial : MailParts → ℕ → ℕ → List ℕ → ℤ → MessageBuffer → MailDone
send_trial p t id bytes timeout k = send_trial_of p t id bytes timeout k
    (serve_buffer (record p { base = joins p.base t (senders_object id) k.order timeout; table = asked_to_send p.table t bytes }) id)

abbrev pub receive_trial_of : MailParts → ℕ → ℕ → ℕ → ℤ → Option MailParts → MailDone
receive_trial_of p t id address timeout None = waits_or_ends p t (receivers_object id) Fifo timeout (asked_into p.table t address)
receive_trial_of p t id address timeout (Some q) =
    option_map_or (λ answer. mail_done (record q { base = goes_on p.base q.base t; table = record q.table { into = p.table.into } }) (Returned answer)) (ended_in t q.base)
    (waits_or_ends p t (receivers_object id) Fifo timeout (asked_into p.table t address))

-- a task joins the receivers of a buffer, which then serves once, if it can
unfoldable pub receive_trial : MailParts → ℕ → ℕ → ℕ → ℤ → MailDone
receive_trial p t id address timeout = receive_trial_of p t id address timeout
    (serve_buffer (record p { base = joins p.base t (receivers_object id) Fifo timeout; table = asked_into p.table t address }) id)

-- a task that may try: it is ready, and no end of a wait is set for it; 0 is no task and has no place; and no release is left to
-- take
pub record MayTry (b : Base) (t : ℕ) : Type 0 where
  pub may : MayWait b t
  pub no_zero : task_at b 0 ≡ None
  pub no_place : times 0 b.order ≡ 0
  pub none_left : b.released ≡ []
