-- A word on what the kernel keeps of each device. Where it survives that a request goes to the driver, and that its abort is asked,
-- every move on devices keeps it.
use Rattle.std.proofs.Common.{◌≡◌, ℕ, ◌+◌, ◌-◌, ◌≤◌, length, Bool, true, false, List, [], Option, Some, None, refl, ap, sym, subst, ◌∙◌, ◌⊎◌, inl, inr, arith}
use Rattle.std.specs.Prelude.{if◌then◌else◌, slice_set}
use Rattle.kernel_model.specs.Words.Orders.{entry, without}
use Rattle.kernel_lemmas.proofs.Tables.{entry_each, entry_there}
use Rattle.device_model.specs.declared.messages.Request.{Request}
use Rattle.device_model.specs.declared.rows.Life.TheVariants as life
use Rattle.device_model.specs.Units.Function.{IsWhole, Served}
use Rattle.device_model.specs.Devices.Tables.{Devices, Given, Link, Row, accepted, accepted_in, asked, asked_given, asked_link, dropped, dropped_in, first_queued, handed, handed_first, handed_given, handed_link, handed_row, is_at_driver, is_queued, link_asked, link_at, link_handed, request_of, row_at}
use Rattle.device_model.specs.Devices.Endings.{ended_at}
use Rattle.device_model.specs.Devices.MoveProofs.{IsMoveProof, IsNew}
use Rattle.device_laws.proofs.Follows.{first_waits, slot_of}
use Rattle.world_laws.proofs.Meets.{AreWhole, IsWholeRow}

-- what such a word survives; a request that goes to a driver is whole
pub record IsSlotProof (Q : ℕ → Option Link → Type 0) : Type 0 where
  pub hands : (d : ℕ) (link : Link) (request : Request) → link.given ≡ None → IsWhole request → Q d (Some link) → Q d (Some (link_handed d link request))
  pub asks : (d : ℕ) (link : Link) (given : Given) → link.given ≡ Some given → given.asked ≡ false → Q d (Some link) → Q d (Some (link_asked d link given))

-- it holds of each device, and each request that waits for its driver is whole
pub record OnEach (Q : ℕ → Option Link → Type 0) (dv : Devices) : Type 0 where
  pub slots : (d : ℕ) → Q d (link_at dv d)
  pub rows : AreWhole dv

-- another link takes the place of one
slot_set : (Q : ℕ → Option Link → Type 0) (dv : Devices) (d : ℕ) (link now : Link) → link_at dv d ≡ Some link → (Q d (Some link) → Q d (Some now)) → ((j : ℕ) → Q j (link_at dv j)) →
    (j : ℕ) → Q j (entry (slice_set dv.links d (Some now)) j)
slot_set Q dv d link now linked keeps each =
    entry_each Q dv.links d (Some now)
    (subst (Q d) (sym (entry_there dv.links d link (Some now) linked)) (keeps (subst (Q d) linked (each d))))
    (λ j apart. each j)

-- ---- requests that wait

room_of : (size : ℕ) (bytes : List ℕ) → bytes ≡ [] → size ≤ size - length bytes
room_of size bytes none = subst (λ (it : List ℕ). size ≤ size - length it) (sym none) (omega arith)

given_whole : (id number : ℕ) (row : Row) → IsWholeRow row → IsWhole (request_of id number row)
given_whole id number row whole = record { size = whole.size; none = whole.none; room = λ read. room_of row.size row.bytes (whole.none read) }

row_set : (rows : List (Option Row)) (i : ℕ) (slot : Option Row) → ((row : Row) → slot ≡ Some row → is_queued row.life ≡ true → IsWholeRow row) →
    ((id : ℕ) (row : Row) → entry rows id ≡ Some row → is_queued row.life ≡ true → IsWholeRow row) →
    (id : ℕ) (row : Row) → entry (slice_set rows i slot) id ≡ Some row → is_queued row.life ≡ true → IsWholeRow row
row_set rows i slot written before id row there waits = by_slot (slot_of rows i id slot row there)
  where
    by_slot : ((id ≡ i) × (slot ≡ Some row)) ⊎ (entry rows id ≡ Some row) → IsWholeRow row
    by_slot (inl both) = written row both.1 waits
    by_slot (inr old) = before id row old waits

-- a request that doesn't wait may take any place
not_waiting : (changed : Row) → is_queued changed.life ≡ false → (now : Row) → Some changed ≡ Some now → is_queued now.life ≡ true → IsWholeRow now
not_waiting changed not now same waits =
    let is : changed ≡ now = cc same in
    let queued : is_queued changed.life ≡ true = ap (λ (r : Row). is_queued r.life) is ∙ waits in
    absurd (cc (queued, not))

accepted_each : (Q : ℕ → Option Link → Type 0) (dv : Devices) (id : ℕ) (row : Row) (slot : Option Row) → IsNew row → OnEach Q dv → OnEach Q (accepted_in slot dv id row)
accepted_each Q dv id row (Some other) new each = each
accepted_each Q dv id row None new each = record {
  slots = each.slots;
  rows = row_set dv.rows id (Some (record row { serial = dv.serial }))
      (λ now same waits.
      let queued = subst (λ (r : Row). is_queued r.life ≡ true) (sym (some_is now same)) waits in
      subst IsWholeRow (some_is now same) (record { size = λ write. new.whole queued write; none = new.none })) each.rows;
}
  where
    some_is : (now : Row) → Some (record row { serial = dv.serial }) ≡ Some now → record row { serial = dv.serial } ≡ now
    some_is now same = cc same

dropped_by : (Q : ℕ → Option Link → Type 0) (dv : Devices) (id : ℕ) (queued over : List ℕ) (away : Bool) → OnEach Q dv →
    OnEach Q (if away then dv else record dv { rows = slice_set dv.rows id None; queued = queued; ended = over })
dropped_by Q dv id queued over true each = each
dropped_by Q dv id queued over false each = record { slots = each.slots; rows = row_set dv.rows id None (λ now same waits. absurd (cc same)) each.rows }

dropped_each : (Q : ℕ → Option Link → Type 0) (dv : Devices) (id : ℕ) (slot : Option Row) → OnEach Q dv → OnEach Q (dropped_in slot dv id)
dropped_each Q dv id None each = each
dropped_each Q dv id (Some row) each = dropped_by Q dv id (without id dv.queued) (without id dv.ended) (is_at_driver row.life) each

-- ---- requests that go to drivers

handed_by_row : (Q : ℕ → Option Link → Type 0) → IsSlotProof Q → (dv : Devices) (d : ℕ) (link : Link) (id : ℕ) → link_at dv d ≡ Some link → link.given ≡ None → first_queued dv d ≡ Some id →
    OnEach Q dv →
    (slot : Option Row) → row_at dv id ≡ slot → OnEach Q (handed_row dv d link id slot)
handed_by_row Q is dv d link id linked none first each None there = each
handed_by_row Q is dv d link id linked none first each (Some row) there = record {
  slots = slot_set Q dv d link (link_handed d link (request_of id (link.number + 1) row)) linked
      (is.hands d link (request_of id (link.number + 1) row) none (given_whole id (link.number + 1) row (each.rows id row there (first_waits dv d id row first there)))) each.slots;
  rows = row_set dv.rows id (Some (record row { bytes = []; life = life.AtDriver })) (not_waiting (record row { bytes = []; life = life.AtDriver }) refl) each.rows;
}

handed_by_first : (Q : ℕ → Option Link → Type 0) → IsSlotProof Q → (dv : Devices) (d : ℕ) (link : Link) → link_at dv d ≡ Some link → link.given ≡ None → OnEach Q dv →
    (first : Option ℕ) → first_queued dv d ≡ first → OnEach Q (handed_first dv d link first)
handed_by_first Q is dv d link linked none each None first = each
handed_by_first Q is dv d link linked none each (Some id) first = handed_by_row Q is dv d link id linked none first each (row_at dv id) refl

handed_by_given : (Q : ℕ → Option Link → Type 0) → IsSlotProof Q → (dv : Devices) (d : ℕ) (link : Link) → link_at dv d ≡ Some link → OnEach Q dv →
    (given : Option Given) → link.given ≡ given → OnEach Q (handed_given dv d link given)
handed_by_given Q is dv d link linked each (Some given) has = each
handed_by_given Q is dv d link linked each None has = handed_by_first Q is dv d link linked has each (first_queued dv d) refl

handed_by_link : (Q : ℕ → Option Link → Type 0) → IsSlotProof Q → (dv : Devices) (d : ℕ) → OnEach Q dv → (slot : Option Link) → link_at dv d ≡ slot → OnEach Q (handed_link dv d slot)
handed_by_link Q is dv d each None linked = each
handed_by_link Q is dv d each (Some link) linked = handed_by_given Q is dv d link linked each link.given refl

-- ---- aborts that are asked

asked_by : (Q : ℕ → Option Link → Type 0) → IsSlotProof Q → (dv : Devices) (d : ℕ) (link : Link) (given : Given) → link_at dv d ≡ Some link → link.given ≡ Some given → OnEach Q dv →
    (so : Bool) → given.asked ≡ so → OnEach Q (if so then dv else record dv { links = slice_set dv.links d (Some (link_asked d link given)) })
asked_by Q is dv d link given linked has each true so = each
asked_by Q is dv d link given linked has each false so = record {
  slots = slot_set Q dv d link (link_asked d link given) linked (is.asks d link given has so) each.slots;
  rows = each.rows;
}

asked_by_given : (Q : ℕ → Option Link → Type 0) → IsSlotProof Q → (dv : Devices) (d : ℕ) (link : Link) → link_at dv d ≡ Some link → OnEach Q dv →
    (given : Option Given) → link.given ≡ given → OnEach Q (asked_given dv d link given)
asked_by_given Q is dv d link linked each None has = each
asked_by_given Q is dv d link linked each (Some given) has = asked_by Q is dv d link given linked has each given.asked refl

asked_by_link : (Q : ℕ → Option Link → Type 0) → IsSlotProof Q → (dv : Devices) (d : ℕ) → OnEach Q dv → (slot : Option Link) → link_at dv d ≡ slot → OnEach Q (asked_link dv d slot)
asked_by_link Q is dv d each None linked = each
asked_by_link Q is dv d each (Some link) linked = asked_by_given Q is dv d link linked each link.given refl

-- ---- all moves

pub slot_moves : (Q : ℕ → Option Link → Type 0) → IsSlotProof Q → IsMoveProof (OnEach Q)
unfolding accepted dropped handed asked
slot_moves Q is = record {
  opens = λ dv dd slot each. record { slots = each.slots; rows = each.rows };
  wishes = λ dv t wish each. record { slots = each.slots; rows = each.rows };
  buffers = λ dv d id each. record { slots = each.slots; rows = each.rows };
  offs = λ dv off each. record { slots = each.slots; rows = each.rows };
  accepts = λ dv id row new each. accepted_each Q dv id row (row_at dv id) new each;
  drops = λ dv id each. dropped_each Q dv id (row_at dv id) each;
  hands = λ dv d each. handed_by_link Q is dv d each (link_at dv d) refl;
  asks = λ dv d each. asked_by_link Q is dv d each (link_at dv d) refl;
}

-- an ending arrives: another word may hold of its device then, where it holds of the other devices already
pub ended_each : (Q R : ℕ → Option Link → Type 0) (dv : Devices) (d : ℕ) (link : Link) (id : ℕ) (row : Row) (served : Served) → link_at dv d ≡ Some link →
    (Q d (Some link) → R d (Some (record link { store = served.store; given = None }))) → ((j : ℕ) (slot : Option Link) → (j ≡ d → ⊥) → Q j slot → R j slot) →
    OnEach Q dv → OnEach R (ended_at dv d link id row served)
ended_each Q R dv d link id row served linked ends others each = record {
  slots = entry_each R dv.links d (Some (record link { store = served.store; given = None }))
      (subst (R d) (sym (entry_there dv.links d link (Some (record link { store = served.store; given = None })) linked)) (ends (subst (Q d) linked (each.slots d))))
      (λ j apart. others j (link_at dv j) apart (each.slots j));
  rows = row_set dv.rows id (Some (record row { life = life.Ended served.size served.error })) (not_waiting (record row { life = life.Ended served.size served.error }) refl) each.rows;
}
