-- The paragraph on waiting calls, for mailboxes, at the object alone: the caller joins the waiters of the box, which then
-- serves one, if it can. If that ended the caller's wait, the call returns, and the caller has its old stamp again. If not,
-- with a time-out of 0 everything is as before the call, and the answer is E_TMOUT; else the task waits.
use Rattle.std.specs.Prelude.{ℕ, ◌==◌, if◌then◌else◌, ℤ, Option, Some, None}
use Rattle.std.specs.List.{find}
use Rattle.std.specs.Option.{option_map, option_map_or}
use Rattle.tk_types.specs.declared.answer.Answer.{Answer}
use Rattle.tk_types.specs.declared.answer.Outcome.TheVariants.{Returned}
use Rattle.kernel_model.specs.SemFlags.Trial.{back_in}
use Rattle.kernel_model.specs.Tasks.Base.{Base, is_waiting, make_wait}
use Rattle.object_model.specs.Mails.Tables.{Mailbox, MailParts, box_object}
use Rattle.object_model.specs.Mails.Boxes.{serve_box}
use Rattle.object_model.specs.Mails.Calls.{MailDone, mail_done, waits_or_ends}

-- the answer in the record that a serving left of the end of a task's wait; none where the task waits on
abbrev pub ended_in : ℕ → Base → Option Answer
ended_in t b = if is_waiting b t then None else option_map (λ release. release.answer) (find (λ release. release.task == t) b.released)

abbrev pub box_trial_of : MailParts → ℕ → ℕ → ℤ → Mailbox → Option MailParts → MailDone
box_trial_of p t id timeout k None = waits_or_ends p t (box_object id) k.order timeout p.table
box_trial_of p t id timeout k (Some q) =
    option_map_or (λ answer. mail_done (record q { base = back_in p.base q.base t }) (Returned answer)) (ended_in t q.base)
    (waits_or_ends p t (box_object id) k.order timeout p.table)

-- a task joins the waiters of a mailbox, which then serves one, if it can
unfoldable pub box_trial : MailParts → ℕ → ℕ → ℤ → Mailbox → MailDone
box_trial p t id timeout k = box_trial_of p t id timeout k (serve_box (record p { base = make_wait p.base t (box_object id) k.order timeout }) id)
