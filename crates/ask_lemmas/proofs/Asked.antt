-- What the tasks that wait for message buffers and variable pools have asked for, by their rows: whoever waits for any other
-- object asks for nothing of the kind, and a change of a buffer's messages leaves what fits.
use Rattle.std.proofs.Common.{◌≡◌, ℕ, ◌+◌, ◌≤◌, ◌<◌, length, true, ◌&&◌, List, [], Option, Some, None, refl, ◌∙◌, ap, sym, subst, arith}
use Rattle.std.specs.Prelude.{nat_le, slice_index, slice_index_or}
use Rattle.kernel_model.specs.Bodies.Statements.{memory_size}
use Rattle.kernel_model.specs.Tasks.Base.{Base, waits_for}
use Rattle.kernel_lemmas.proofs.Tables.{entry_each, entry_same}
use Rattle.object_model.specs.Mails.Tables.{Mailbox, Mails, MessageBuffer, buffer_at, bytes_of, place_of, receivers_object, senders_object, with_box, with_buffer}
use Rattle.object_model.specs.Mails.Buffers.{takes_length}
use Rattle.object_model.specs.Mails.Calls.{has_place}
use Rattle.object_model.specs.Pools.Tables.{variable_object}
use Rattle.machine_model.specs.States.Objects.{Objects}
use Rattle.ask_lemmas.specs.Asked.{HaveAsked}
use Rattle.ask_lemmas.proofs.Asks.{AllAsk, Asks}

-- what a task has to have asked for, to wait for an object
pub record Asked (m : Mails) (sizes : List ℕ) (t object : ℕ) : Type 0 where
  pub sends : (id : ℕ) (k : MessageBuffer) → 1 ≤ id → id ≤ 64 → object ≡ senders_object id → buffer_at m id ≡ Some k → takes_length (length (bytes_of m t)) k ≡ true
  pub receives : (id : ℕ) (k : MessageBuffer) → 1 ≤ id → id ≤ 64 → object ≡ receivers_object id → buffer_at m id ≡ Some k → has_place (place_of m t) k ≡ true
  pub bytes : (id : ℕ) → 1 ≤ id → id ≤ 64 → object ≡ variable_object id → 0 < slice_index sizes t

-- so it is with each task that waits
pub all_ask : (b : Base) (o : Objects) → HaveAsked b o → AllAsk (Asked o.mails o.pools.sizes) b
all_ask b o has = λ t object waits. record {
  sends = λ id k least most is at. has.senders id t k least most at (subst (λ (n : ℕ). waits_for b n t ≡ true) is waits);
  receives = λ id k least most is at. has.receivers id t k least most at (subst (λ (n : ℕ). waits_for b n t ≡ true) is waits);
  bytes = λ id least most is. has.sizes id t least most (subst (λ (n : ℕ). waits_for b n t ≡ true) is waits);
}

pub have_asked : (b : Base) (o : Objects) → AllAsk (Asked o.mails o.pools.sizes) b → HaveAsked b o
have_asked b o all = record {
  senders = λ id t k least most at waits. (all t (senders_object id) waits).sends id k least most refl at;
  receivers = λ id t k least most at waits. (all t (receivers_object id) waits).receives id k least most refl at;
  sizes = λ id t least most waits. (all t (variable_object id) waits).bytes id least most refl;
}

-- ---- objects that ask for nothing of the kind

pub record IsQuiet (object : ℕ) : Type 0 where
  pub sends : (id : ℕ) → 1 ≤ id → id ≤ 64 → object ≡ senders_object id → ⊥
  pub receives : (id : ℕ) → 1 ≤ id → id ≤ 64 → object ≡ receivers_object id → ⊥
  pub sizes : (id : ℕ) → 1 ≤ id → id ≤ 64 → object ≡ variable_object id → ⊥

-- tasks, semaphores, event flags, mailboxes and mutexes
pub quiet_low : (object : ℕ) → object ≤ 319 → IsQuiet object
quiet_low object low = record {
  sends = λ id least most is. absurd (let e : object ≡ 319 + id = is in omega (arith, low, least, e));
  receives = λ id least most is. absurd (let e : object ≡ 383 + id = is in omega (arith, low, least, e));
  sizes = λ id least most is. absurd (let e : object ≡ 511 + id = is in omega (arith, low, least, e));
}

-- fixed pools
pub quiet_fixed : (object : ℕ) → 448 ≤ object → object ≤ 511 → IsQuiet object
quiet_fixed object low high = record {
  sends = λ id least most is. absurd (let e : object ≡ 319 + id = is in omega (arith, low, most, e));
  receives = λ id least most is. absurd (let e : object ≡ 383 + id = is in omega (arith, low, most, e));
  sizes = λ id least most is. absurd (let e : object ≡ 511 + id = is in omega (arith, high, least, e));
}

-- devices
pub quiet_high : (object : ℕ) → 576 ≤ object → IsQuiet object
quiet_high object high = record {
  sends = λ id least most is. absurd (let e : object ≡ 319 + id = is in omega (arith, high, most, e));
  receives = λ id least most is. absurd (let e : object ≡ 383 + id = is in omega (arith, high, most, e));
  sizes = λ id least most is. absurd (let e : object ≡ 511 + id = is in omega (arith, high, most, e));
}

-- whoever waits for such an object has asked for what is due
abbrev pub Quietly : Asks → Type 0
Quietly asks = (t object : ℕ) → IsQuiet object → asks t object

pub asked_quietly : (m : Mails) (sizes : List ℕ) → Quietly (Asked m sizes)
asked_quietly m sizes t object quiet = record {
  sends = λ id k least most is at. absurd (quiet.sends id least most is);
  receives = λ id k least most is at. absurd (quiet.receives id least most is);
  bytes = λ id least most is. absurd (quiet.sizes id least most is);
}

-- ---- tables in which the same fits

-- a message buffer that took messages of the same lengths
pub record HadMost (m : Mails) (id most : ℕ) : Type 0 where
  pub old : MessageBuffer
  pub at : buffer_at m id ≡ Some old
  pub same : old.most ≡ most

-- each buffer that there is took messages of the same lengths before, and what tasks asked for stays
pub record IsAlike (m now : Mails) : Type 0 where
  pub buffers : (id : ℕ) (k : MessageBuffer) → buffer_at now id ≡ Some k → HadMost m id k.most
  pub sending : now.sending ≡ m.sending
  pub into : now.into ≡ m.into

pub alike_same : (m : Mails) → IsAlike m m
alike_same m = record { buffers = λ id k at. record { old = k; at = at; same = refl }; sending = refl; into = refl }

pub alike_then : (m then now : Mails) → IsAlike m then → IsAlike then now → IsAlike m now
alike_then m then now first second = record {
  buffers = λ id k at. let had = second.buffers id k at in let before = first.buffers id had.old had.at in
      record { old = before.old; at = before.at; same = before.same ∙ had.same };
  sending = second.sending ∙ first.sending;
  into = second.into ∙ first.into;
}

-- what fits in a table fits in one alike
pub alike_asked : (m now : Mails) (sizes : List ℕ) (t object : ℕ) → IsAlike m now → Asked m sizes t object → Asked now sizes t object
alike_asked m now sizes t object alike asked = record {
  sends = λ id k least most is at.
      let had = alike.buffers id k at in
      let before : takes_length (length (bytes_of m t)) had.old ≡ true = asked.sends id had.old least most is had.at in
      subst (λ (sending : List (List ℕ)). takes_length (length (slice_index_or sending t [])) k ≡ true) (sym alike.sending)
      (subst (λ (limit : ℕ). (nat_le 1 (length (bytes_of m t)) && nat_le (length (bytes_of m t)) limit) ≡ true) had.same before);
  receives = λ id k least most is at.
      let had = alike.buffers id k at in
      let before : has_place (place_of m t) had.old ≡ true = asked.receives id had.old least most is had.at in
      subst (λ (into : List ℕ). has_place (slice_index into t) k ≡ true) (sym alike.into)
      (subst (λ (limit : ℕ). nat_le (place_of m t + limit) memory_size ≡ true) had.same before);
  bytes = asked.bytes;
}

-- a mailbox is written
pub box_alike : (m : Mails) (id : ℕ) (slot : Option Mailbox) → IsAlike m (with_box m id slot)
box_alike m id slot = record { buffers = λ other k at. record { old = k; at = at; same = refl }; sending = refl; into = refl }

slot_alike : (m : Mails) (id : ℕ) (slot : Option MessageBuffer) → ((k : MessageBuffer) → slot ≡ Some k → HadMost m id k.most) → IsAlike m (with_buffer m id slot)
slot_alike m id slot written = record {
  buffers = entry_each (λ i now. (k : MessageBuffer) → now ≡ Some k → HadMost m i k.most) m.buffers id slot
      (entry_same (λ now. (k : MessageBuffer) → now ≡ Some k → HadMost m id k.most) m.buffers id slot written (λ k none. absurd (cc none)))
      (λ other apart k at. record { old = k; at = at; same = refl });
  sending = refl;
  into = refl;
}

-- a message buffer takes messages of the same lengths
pub buffer_alike : (m : Mails) (id : ℕ) (k now : MessageBuffer) → buffer_at m id ≡ Some k → k.most ≡ now.most → IsAlike m (with_buffer m id (Some now))
buffer_alike m id k now at same = slot_alike m id (Some now)
    (λ other is. let e : now ≡ other = cc is in record { old = k; at = at; same = same ∙ ap (λ (it : MessageBuffer). it.most) e })

-- a message buffer is gone
pub gone_alike : (m : Mails) (id : ℕ) → IsAlike m (with_buffer m id None)
gone_alike m id = slot_alike m id None (λ k none. absurd (cc none))
