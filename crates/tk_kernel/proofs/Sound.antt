-- What the families ask of those who wait, and what they tell of their tables, in their own words, and what doesn't touch it.
use Rattle.std.proofs.Common.{◌≡◌, ◌≤◌, ◌+◌, ℕ, length, Option, Some, None, sym, subst}
use Rattle.kernel_model.specs.Tasks.Base.{Base, advance}
use Rattle.context_model.specs.Contexts.Tables.{Contexts}
use Rattle.device_model.specs.declared.rows.Opened.{Opened}
use Rattle.device_model.specs.declared.rows.Wish.{Wish}
use Rattle.device_model.specs.declared.rows.Wish.TheVariants as wish
use Rattle.device_model.specs.Devices.Tables.{Devices, link_at, opened_at, wish_of}
use Rattle.machine_lemmas.proofs.KnownDevices.{AreKnown, OpenFits, WishFits}
use Rattle.machine_model.specs.States.Objects.{Objects}
use Rattle.machine_model.specs.States.State.{State}
use Rattle.step_lemmas.specs.Known.{HasDevices}
use Rattle.step_lemmas.specs.Sound.{IsSound}
use Rattle.step_lemmas.proofs.Orders.{box_waiters, device_waiters, receiver_asks, receiver_waiters, sender_asks, sender_waiters}
use Rattle.mail_buffer.specs.Parts.{AreQueued, HaveAsked}
use Rattle.dev_layer.specs.Parts.{AreFit, AreQueued as DevicesQueued}
use Rattle.dev_layer.specs.Tables.{HasDescriptor, IsOpened}

sound_here : (here now : State) → here ≡ now → IsSound now.base now.objects → IsSound here.base here.objects
sound_here here now is = subst (λ (st : State). IsSound st.base st.objects) (sym is)

queued : (b : Base) (o : Objects) → IsSound b o → AreQueued b o.mails
queued b o sound = record {
  boxes = λ id k one last at. box_waiters b o id k sound one last at;
  senders = λ id k one last at. sender_waiters b o id k sound one last at;
  receivers = λ id k one last at. receiver_waiters b o id k sound one last at;
}

pub mails_queued : (here now : State) → here ≡ now → IsSound now.base now.objects → AreQueued here.base here.objects.mails
mails_queued here now is sound = queued here.base here.objects (sound_here here now is sound)

asked : (b : Base) (o : Objects) → IsSound b o → HaveAsked b o.mails
asked b o sound = record {
  senders = λ id t k one last at waits. sender_asks b o id t k sound one last at waits;
  receivers = λ id t k one last at waits. receiver_asks b o id t k sound one last at waits;
}

pub mails_asked : (here now : State) → here ≡ now → IsSound now.base now.objects → HaveAsked here.base here.objects.mails
mails_asked here now is sound = asked here.base here.objects (sound_here here now is sound)

-- the time is none of it
advanced : (b : Base) (o : Objects) → IsSound b o → IsSound (advance b) o
advanced b o sound = record {
  orderly = record { each = sound.orderly.each };
  asked = record { senders = sound.asked.senders; receivers = sound.asked.receivers; sizes = sound.asked.sizes };
}

pub advanced_sound : (here now : State) (after : Base) → here ≡ now → after ≡ advance here.base → IsSound now.base now.objects → IsSound after here.objects
advanced_sound here now after is passed sound = subst (λ (b : Base). IsSound b here.objects) (sym passed) (advanced here.base here.objects (sound_here here now is sound))

-- nor are handlers and services
abbrev pub with_contexts : Objects → Contexts → Objects
with_contexts o table = record { sem_flags = o.sem_flags; mutexes = o.mutexes; mails = o.mails; pools = o.pools; clocks = o.clocks; contexts = table; devices = o.devices }

beside : (b : Base) (o : Objects) (table : Contexts) → IsSound b o → IsSound b (with_contexts o table)
beside b o table sound = record {
  orderly = record { each = sound.orderly.each };
  asked = record { senders = sound.asked.senders; receivers = sound.asked.receivers; sizes = sound.asked.sizes };
}

pub contexts_sound : (here now : State) (table : Contexts) → here ≡ now → IsSound now.base now.objects → IsSound here.base (with_contexts here.objects table)
contexts_sound here now table is sound = beside here.base here.objects table (sound_here here now is sound)

-- ---- devices

devices_queued : (b : Base) (o : Objects) → IsSound b o → DevicesQueued b
devices_queued b o sound = record { waiters = λ object low high. device_waiters b o object sound low high }

pub devices_wait : (here now : State) → here ≡ now → IsSound now.base now.objects → DevicesQueued here.base
devices_wait here now is sound = devices_queued here.base here.objects (sound_here here now is sound)

pub devices_fit : (here now : State) → here ≡ now → IsSound now.base now.objects → AreFit here.base here.objects.mails
devices_fit here now is sound = record { queued = mails_queued here now is sound; asked = mails_asked here now is sound }

opened_fits : (slot : Option Opened) → IsOpened slot → OpenFits slot
opened_fits None is = tt
opened_fits (Some opened) is = is

wish_fits : (asked_for : Wish) → HasDescriptor asked_for → WishFits asked_for
wish_fits (wish.Acceptance transfer stays) is = is
wish_fits wish.Nothing is = tt
wish_fits (wish.Ending request serial own) is = tt
wish_fits wish.AnyEnding is = tt

known : (dv : Devices) → ((dd : ℕ) → IsOpened (opened_at dv dd)) → ((t : ℕ) → HasDescriptor (wish_of dv t)) → AreKnown dv
known dv opened wished = record { opened = λ dd. opened_fits (opened_at dv dd) (opened dd); wished = λ t. wish_fits (wish_of dv t) (wished t) }

-- what a table of devices says of itself
pub has_devices : (here now : State) → here ≡ now → length here.objects.devices.links ≤ 9 → link_at here.objects.devices 0 ≡ None → ((dd : ℕ) → IsOpened (opened_at here.objects.devices dd)) →
    ((t : ℕ) → HasDescriptor (wish_of here.objects.devices t)) → HasDevices now
has_devices here now is few unnamed opened wished =
    subst HasDevices is (record { few = few; unnamed = unnamed; known = known here.objects.devices opened wished })
