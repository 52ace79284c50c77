-- At the start nobody waits, and there is no message buffer.
use Rattle.std.proofs.Common.{◌≡◌, ℕ, Some, None, false, refl, sym, subst, ap, replicate}
use Rattle.tk_types.specs.declared.task.Order.TheVariants.{Fifo}
use Rattle.tk_types.specs.declared.task.Phase.TheVariants.{Ready}
use Rattle.tk_types.specs.declared.task.Task.{Task}
use Rattle.kernel_model.specs.Tasks.Base.{Base, base_start, waiting_in, waits_for}
use Rattle.kernel_lemmas.proofs.Tables.{entry_each, entry_same, none_there}
use Rattle.object_model.specs.Mails.Tables.{Mails, mails_start}
use Rattle.mail_buffer.proofs.Starting.{asked_at_start, queued_at_start as mails_queued}
use Rattle.dev_layer.specs.Parts.{AreFit, AreQueued}

-- no task waits
idle_start : (priority t object : ℕ) → waits_for (base_start priority) object t ≡ false
idle_start priority t object =
    entry_each (λ u now. waiting_in object now ≡ false) (replicate 256 None) 1 (Some boot)
    (entry_same (λ now. waiting_in object now ≡ false) (replicate 256 None) 1 (Some boot) refl refl)
    (λ u apart. ap (waiting_in object) (none_there 256 u)) t
  where
    boot : Task
    boot = record { phase = Ready; queue = Fifo; base = priority; initial = priority; current = priority; wakeups = 0; suspensions = 0; stack = 1024 }

-- nobody waits for a device
pub queued_at_start : (b : Base) (priority : ℕ) → b ≡ base_start priority → AreQueued b
queued_at_start b priority is = subst AreQueued (sym is) (record {
  waiters = λ object low high. record { alike = λ t waits. (let idle = idle_start priority t object in absurd (cc (idle, waits))) };
})

-- there is no message buffer for an event
pub fit_at_start : (b : Base) (m : Mails) → m ≡ mails_start → AreFit b m
fit_at_start b m is = record { queued = mails_queued b m is; asked = asked_at_start b m is }
