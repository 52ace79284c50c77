-- What is opened and wished for stays known, and no device has the ID 0, through requests that go to drivers and endings that
-- arrive.
use Rattle.std.proofs.Common.{◌≡◌, ℕ, suc, zero, Bool, true, false, cond, List, [], ◌∷◌, Option, Some, None, refl, ◌∙◌, ap, sym, subst}
use Rattle.std.specs.Prelude.{fold, if◌then◌else◌, slice_set}
use Rattle.device_model.specs.declared.messages.Ending.{Ending}
use Rattle.device_model.specs.declared.rows.Opened.{Opened}
use Rattle.device_model.specs.Units.Function.{Served}
use Rattle.kernel_model.specs.Tasks.Base.{Base, fifo_queue}
use Rattle.kernel_model.specs.Words.Orders.{entry}
use Rattle.device_model.specs.Devices.Tables.{Devices, Given, Link, Row, accepted, asked, asked_given, asked_link, device_ids, dropped, first_queued, handed, handed_first, handed_given, handed_link, handed_row, is_at_driver, link_asked, link_at, row_at}
use Rattle.device_model.specs.Devices.Handing.{emptied, hand_first, hand_over, handed_one, handed_unless, link_emptied, suspension_object}
use Rattle.device_model.specs.Devices.Endings as endings
use Rattle.device_model.specs.Devices.Endings.{DevParts, arrive, close_object}
use Rattle.device_model.specs.Devices.MoveProofs.{IsArrivalProof, IsMoveProof}
use Rattle.device_lemmas.proofs.Emptied.{emptied_at}
use Rattle.device_lemmas.proofs.Walk.{Kept}
use Rattle.machine_lemmas.proofs.DeviceServings.{accepted_links, dropped_links}
use Rattle.machine_lemmas.proofs.KnownDevices.{AreKnown, beside_known, dropped_beside, handed_beside, open_known}

-- ---- what is opened and wished for

each_known : (ids : List ℕ) (dv : Devices) → AreKnown dv → AreKnown (fold handed dv ids)
each_known [] dv known = known
each_known (d ∷ ids) dv known = each_known ids (handed dv d) (beside_known dv (handed dv d) (handed_beside dv d) known)

unless_known : (waiters : List ℕ) (dv : Devices) → AreKnown dv → AreKnown (handed_unless waiters dv)
unless_known [] dv known = each_known (device_ids dv) dv known
unless_known (t ∷ ts) dv known = known

-- requests go to drivers
pub over_known : (b : Base) (dv : Devices) → AreKnown dv → AreKnown (hand_over b dv)
unfolding hand_over
over_known b dv known = unless_known (fifo_queue b suspension_object) dv known

one_known : (first : Option ℕ) (dv : Devices) → AreKnown dv → AreKnown (handed_one first dv)
one_known None dv known = known
one_known (Some d) dv known = beside_known dv (handed dv d) (handed_beside dv d) known

-- a first request goes to its driver
pub first_known : (dv : Devices) → AreKnown dv → AreKnown (hand_first dv)
unfolding hand_first
first_known dv known = one_known _ dv known

-- messages to drivers are taken
pub emptied_known : (dv : Devices) → AreKnown dv → AreKnown (emptied dv)
unfolding emptied
emptied_known dv known = record { opened = known.opened; wished = known.wished }

free_known : (waiters : List ℕ) (dv : Devices) (dd : ℕ) → AreKnown dv → AreKnown (endings.free_unless waiters dv dd)
free_known [] dv dd known = open_known dv dd None tt known
free_known (t ∷ ts) dv dd known = known

either_known : (test : Bool) (one other : Devices) → AreKnown one → AreKnown other → AreKnown (cond test one other)
either_known true one other first second = first
either_known false one other first second = second

closed_known : (b : Base) (dv : Devices) (id dd : ℕ) (slot : Option Opened) → AreKnown dv → AreKnown (endings.closed_after b dv id dd slot)
closed_known b dv id dd None known = known
closed_known b dv id dd (Some opened) known = either_known opened.closing _ _ (free_known (fifo_queue b (close_object dd)) (dropped dv id) dd
    (beside_known dv (dropped dv id) (dropped_beside dv id) known)) known

row_known : (p : DevParts) (d : ℕ) (link : Link) (id : ℕ) (served : Served) (slot : Option Row) → AreKnown p.table → Kept AreKnown (endings.arrive_row p d link id served slot)
row_known p d link id served None known = tt
row_known p d link id served (Some row) known = by_life (is_at_driver row.life)
  where
    by_life : (away : Bool) → Kept AreKnown (if away then Some (endings.landed p d link id row served) else None)
    by_life true = closed_known p.base (endings.ended_at p.table d link id row served) id row.descriptor _ (record { opened = known.opened; wished = known.wished })
    by_life false = tt

fit_known : (fit : Bool) (p : DevParts) (ending : Ending) (link : Link) (given : Given) → AreKnown p.table → Kept AreKnown (endings.arrive_fit fit p ending link given)
fit_known false p ending link given known = tt
fit_known true p ending link given known =
    row_known p ending.device link given.request.id (endings.served_of link.kind link.store given.request ending.how) (row_at p.table given.request.id) known

given_known : (p : DevParts) (ending : Ending) (link : Link) (given : Option Given) → AreKnown p.table → Kept AreKnown (endings.arrive_given p ending link given)
given_known p ending link None known = tt
given_known p ending link (Some given) known = fit_known (endings.is_fit ending link given) p ending link given known

link_known : (p : DevParts) (ending : Ending) (link : Option Link) → AreKnown p.table → Kept AreKnown (endings.arrive_link p ending link)
link_known p ending None known = tt
link_known p ending (Some link) known = given_known p ending link link.given known

-- an ending arrives
pub arrived_known : (p : DevParts) (ending : Ending) → AreKnown p.table → Kept AreKnown (arrive p ending)
unfolding arrive
arrived_known p ending known = link_known p ending (link_at p.table ending.device) known

-- an ending that arrives leaves mailboxes and message buffers
abbrev LeavesMails : DevParts → Option DevParts → Type 0
LeavesMails p None = Unit {0}
LeavesMails p (Some q) = q.mails ≡ p.mails

row_mails : (p : DevParts) (d : ℕ) (link : Link) (id : ℕ) (served : Served) (slot : Option Row) → LeavesMails p (endings.arrive_row p d link id served slot)
row_mails p d link id served None = tt
row_mails p d link id served (Some row) = by_life (is_at_driver row.life)
  where
    by_life : (away : Bool) → LeavesMails p (if away then Some (endings.landed p d link id row served) else None)
    by_life true = refl
    by_life false = tt

fit_mails : (fit : Bool) (p : DevParts) (ending : Ending) (link : Link) (given : Given) → LeavesMails p (endings.arrive_fit fit p ending link given)
fit_mails false p ending link given = tt
fit_mails true p ending link given = row_mails p ending.device link given.request.id (endings.served_of link.kind link.store given.request ending.how)
    (row_at p.table given.request.id)

given_mails : (p : DevParts) (ending : Ending) (link : Link) (given : Option Given) → LeavesMails p (endings.arrive_given p ending link given)
given_mails p ending link None = tt
given_mails p ending link (Some given) = fit_mails (endings.is_fit ending link given) p ending link given

link_mails : (p : DevParts) (ending : Ending) (link : Option Link) → LeavesMails p (endings.arrive_link p ending link)
link_mails p ending None = tt
link_mails p ending (Some link) = given_mails p ending link link.given

leaves_mails : (p : DevParts) (ending : Ending) → LeavesMails p (arrive p ending)
unfolding arrive
leaves_mails p ending = link_mails p ending (link_at p.table ending.device)

mails_there : (p q : DevParts) (found : Option DevParts) → found ≡ Some q → LeavesMails p found → q.mails ≡ p.mails
mails_there p q None is leaves = absurd (cc is)
mails_there p q (Some other) is leaves = let same : other ≡ q = cc is in ap (λ (parts : DevParts). parts.mails) (sym same) ∙ leaves

-- so their table is as it was
pub arrive_mails : (p q : DevParts) (ending : Ending) → arrive p ending ≡ Some q → q.mails ≡ p.mails
arrive_mails p q ending is = mails_there p q (arrive p ending) is (leaves_mails p ending)

-- ---- no device has the ID 0

-- there is no link to a driver of a device 0
abbrev pub HasNoZero : Devices → Type 0
HasNoZero dv = link_at dv 0 ≡ None

-- a link that is there is written, and that of 0 isn't there
link_written : (dv : Devices) (d : ℕ) (link : Link) (now : Option Link) → link_at dv d ≡ Some link → HasNoZero dv → entry (slice_set dv.links d now) 0 ≡ None
link_written dv zero link now there none = absurd (cc (there, none))
link_written dv (suc d) link now there none = other_zero dv.links d now none
  where
    other_zero : (xs : List (Option Link)) (d : ℕ) (now : Option Link) → entry xs 0 ≡ None → entry (slice_set xs (suc d) now) 0 ≡ None
    other_zero [] d now none = none
    other_zero (x ∷ xs) d now none = none

handed_rows : (dv : Devices) (d : ℕ) (link : Link) (id : ℕ) (slot : Option Row) → link_at dv d ≡ Some link → HasNoZero dv → HasNoZero (handed_row dv d link id slot)
handed_rows dv d link id None there none = none
handed_rows dv d link id (Some row) there none = link_written dv d link _ there none

handed_firsts : (dv : Devices) (d : ℕ) (link : Link) (first : Option ℕ) → link_at dv d ≡ Some link → HasNoZero dv → HasNoZero (handed_first dv d link first)
handed_firsts dv d link None there none = none
handed_firsts dv d link (Some id) there none = handed_rows dv d link id (row_at dv id) there none

handed_gives : (dv : Devices) (d : ℕ) (link : Link) (given : Option Given) → link_at dv d ≡ Some link → HasNoZero dv → HasNoZero (handed_given dv d link given)
handed_gives dv d link (Some given) there none = none
handed_gives dv d link None there none = handed_firsts dv d link (first_queued dv d) there none

handed_links : (dv : Devices) (d : ℕ) (slot : Option Link) → link_at dv d ≡ slot → HasNoZero dv → HasNoZero (handed_link dv d slot)
handed_links dv d None there none = none
handed_links dv d (Some link) there none = handed_gives dv d link link.given there none

handed_zero : (dv : Devices) (d : ℕ) → HasNoZero dv → HasNoZero (handed dv d)
unfolding handed
handed_zero dv d none = handed_links dv d (link_at dv d) refl none

either_zero : (test : Bool) (one other : Devices) → HasNoZero one → HasNoZero other → HasNoZero (cond test one other)
either_zero true one other first second = first
either_zero false one other first second = second

asked_gives : (dv : Devices) (d : ℕ) (link : Link) (given : Option Given) → link_at dv d ≡ Some link → HasNoZero dv → HasNoZero (asked_given dv d link given)
asked_gives dv d link None there none = none
asked_gives dv d link (Some given) there none = either_zero given.asked dv (record dv { links = slice_set dv.links d (Some (link_asked d link given)) }) none
    (link_written dv d link _ there none)

asked_links : (dv : Devices) (d : ℕ) (slot : Option Link) → link_at dv d ≡ slot → HasNoZero dv → HasNoZero (asked_link dv d slot)
asked_links dv d None there none = none
asked_links dv d (Some link) there none = asked_gives dv d link link.given there none

asked_zero : (dv : Devices) (d : ℕ) → HasNoZero dv → HasNoZero (asked dv d)
unfolding asked
asked_zero dv d none = asked_links dv d (link_at dv d) refl none

same_zero : (dv now : Devices) → now.links ≡ dv.links → HasNoZero dv → HasNoZero now
same_zero dv now same none = subst (λ (links : List (Option Link)). entry links 0 ≡ None) (sym same) none

-- no move of the devices makes one with the ID 0
pub zero_moves : IsMoveProof HasNoZero
zero_moves = record {
  opens = λ now dd slot none. none;
  wishes = λ now t wish none. none;
  buffers = λ now d id none. none;
  offs = λ now off none. none;
  accepts = λ now id row new none. same_zero now (accepted now id row) (accepted_links now id row) none;
  drops = λ now id none. same_zero now (dropped now id) (dropped_links now id) none;
  hands = handed_zero;
  asks = asked_zero;
}

-- nor do messages that are taken
pub emptied_zero : (dv : Devices) → HasNoZero dv → HasNoZero (emptied dv)
emptied_zero dv none = emptied_at dv 0 ∙ ap link_emptied none

-- nor does an ending that arrives
pub zero_arrivals : IsArrivalProof HasNoZero
zero_arrivals = record {
  arrives = λ now d link given row how linked has there away fit none. link_written now d link _ linked none;
}
