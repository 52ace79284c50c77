-- How many requests haven't ended: an acceptance adds one at most, and no other move of the devices adds any; where an ending
-- arrives there is one less.
use Rattle.std.proofs.Common.{◌≡◌, ℕ, zero, suc, ◌+◌, ◌≤◌, Bool, true, false, cond, List, [], ◌∷◌, Option, Some, None, refl, ◌∙◌, ap, subst, arith}
use Rattle.std.specs.Bool.{◌==◌}
use Rattle.std.specs.Prelude.{◌&&◌, slice_set}
use Rattle.std.specs.List.{find}
use Rattle.std.specs.Option.{is_some}
use Rattle.kernel_model.specs.Words.Orders.{entry}
use Rattle.kernel_model.specs.Tasks.Base.{Base, fifo_queue}
use Rattle.device_model.specs.declared.messages.Ending.{Ending}
use Rattle.device_model.specs.declared.rows.Life.{Life}
use Rattle.device_model.specs.declared.rows.Life.TheVariants as lives
use Rattle.device_model.specs.declared.rows.Opened.{Opened}
use Rattle.device_model.specs.Units.Function.{Served}
use Rattle.device_model.specs.Devices.Tables.{Devices, Given, Link, Row, accepted, accepted_in, asked, asked_given, asked_link, device_ids, dropped, dropped_in, first_queued, handed, handed_first, handed_given, handed_link, handed_row, has_ended, is_at_driver, is_queued, link_at, opened_at, queues_on, row_at}
use Rattle.device_model.specs.Devices.Handing.{hand_first, hand_over, handed_all, handed_one, handed_unless, suspension_object}
use Rattle.device_model.specs.Devices.Endings.{DevParts, arrive, arrive_fit, arrive_given, arrive_link, arrive_row, close_object, closed_after, ended_at, free_unless, is_fit, landed, served_of}
use Rattle.machine_lemmas.proofs.HandingServes.{found_passes}
use Rattle.machine_lemmas.proofs.KnownDevices.{dropped_beside, handed_beside}
use Rattle.journal_laws.specs.Owed.{open_in, row_open}

-- a row that is written changes the count by its own
pub slot_open : (rows : List (Option Row)) (id : ℕ) (now : Option Row) → open_in (slice_set rows id now) + row_open (entry rows id) ≤ open_in rows + row_open now
slot_open [] id now = omega arith
slot_open (row ∷ rows) zero now = omega arith
slot_open (row ∷ rows) (suc id) now = let rest = slot_open rows id now in omega (arith, rest)

test_most : (test : Bool) → cond test 0 1 ≤ 1
test_most true = omega arith
test_most false = omega arith

open_most : (slot : Option Row) → row_open slot ≤ 1
open_most None = omega arith
open_most (Some row) = test_most (has_ended row.life)

-- as many requests, or fewer
abbrev pub NoMore : Devices → Devices → Type 0
NoMore dv now = open_in now.rows ≤ open_in dv.rows

no_more_if : (dv one other : Devices) (test : Bool) → NoMore dv one → NoMore dv other → NoMore dv (cond test one other)
no_more_if dv one other true first second = first
no_more_if dv one other false first second = second

-- ---- acceptance

accepted_cases : (dv : Devices) (id : ℕ) (row : Row) (slot : Option Row) → open_in (accepted_in slot dv id row).rows ≤ open_in dv.rows + row_open (Some row)
accepted_cases dv id row (Some other) = omega arith
accepted_cases dv id row None = let set = slot_open dv.rows id (Some (record row { serial = dv.serial })) in omega (arith, set)

pub accepted_open : (dv : Devices) (id : ℕ) (row : Row) → open_in (accepted dv id row).rows ≤ open_in dv.rows + 1
unfolding accepted
accepted_open dv id row = let one = accepted_cases dv id row (row_at dv id) in let most = open_most (Some row) in omega (arith, one, most)

-- ---- what is let go

dropped_cases : (dv : Devices) (id : ℕ) (slot : Option Row) → NoMore dv (dropped_in slot dv id)
dropped_cases dv id None = omega arith
dropped_cases dv id (Some row) = no_more_if dv dv _ (is_at_driver row.life) (omega arith) (let set = slot_open dv.rows id None in omega (arith, set))

pub dropped_open : (dv : Devices) (id : ℕ) → NoMore dv (dropped dv id)
unfolding dropped
dropped_open dv id = dropped_cases dv id (row_at dv id)

-- ---- what goes to a driver

queued_life : (life : Life) → is_queued life ≡ true → has_ended life ≡ false
queued_life lives.Queued is = refl
queued_life lives.AtDriver is = refl
queued_life (lives.Ended size error) is = absurd (cc is)

both_second : (one other : Bool) → (one && other) ≡ true → other ≡ true
both_second true other is = is
both_second false other is = absurd (cc is)

row_handed : (dv : Devices) (d : ℕ) (link : Link) (id : ℕ) (slot : Option Row) → row_at dv id ≡ slot → queues_on d slot ≡ true → NoMore dv (handed_row dv d link id slot)
row_handed dv d link id None at queues = omega arith
row_handed dv d link id (Some row) at queues =
    let waits : has_ended row.life ≡ false = queued_life row.life (both_second (row.device == d) (is_queued row.life) queues) in
    let one : row_open (Some row) ≡ 1 = ap (λ test. cond test 0 1) waits in
    let there : row_open (row_at dv id) ≡ row_open (Some row) = ap row_open at in
    let now : Option Row = Some (record row { bytes = []; life = lives.AtDriver }) in
    let set = slot_open dv.rows id now in
    omega (arith, set, there, one)

first_is_queued : (dv : Devices) (d : ℕ) (first : Option ℕ) (id : ℕ) → first_queued dv d ≡ first → first ≡ Some id → queues_on d (row_at dv id) ≡ true
unfolding first_queued
first_is_queued dv d first id at is = found_passes (λ other. queues_on d (row_at dv other)) dv.queued id (at ∙ is)

first_handed : (dv : Devices) (d : ℕ) (link : Link) (first : Option ℕ) → first_queued dv d ≡ first → NoMore dv (handed_first dv d link first)
first_handed dv d link None at = omega arith
first_handed dv d link (Some id) at = row_handed dv d link id (row_at dv id) refl (first_is_queued dv d (Some id) id at refl)

given_handed : (dv : Devices) (d : ℕ) (link : Link) (given : Option Given) → NoMore dv (handed_given dv d link given)
given_handed dv d link (Some given) = omega arith
given_handed dv d link None = first_handed dv d link (first_queued dv d) refl

link_handed : (dv : Devices) (d : ℕ) (slot : Option Link) → NoMore dv (handed_link dv d slot)
link_handed dv d None = omega arith
link_handed dv d (Some link) = given_handed dv d link link.given

pub handed_open : (dv : Devices) (d : ℕ) → NoMore dv (handed dv d)
unfolding handed
handed_open dv d = link_handed dv d (link_at dv d)

-- ---- what a driver is asked

given_asked : (dv : Devices) (d : ℕ) (link : Link) (given : Option Given) → NoMore dv (asked_given dv d link given)
given_asked dv d link None = omega arith
given_asked dv d link (Some given) = no_more_if dv dv _ given.asked (omega arith) (omega arith)

link_asked_open : (dv : Devices) (d : ℕ) (slot : Option Link) → NoMore dv (asked_link dv d slot)
link_asked_open dv d None = omega arith
link_asked_open dv d (Some link) = given_asked dv d link link.given

pub asked_open : (dv : Devices) (d : ℕ) → NoMore dv (asked dv d)
unfolding asked
asked_open dv d = link_asked_open dv d (link_at dv d)

-- ---- all that goes to drivers at once

each_open : (ids : List ℕ) (dv : Devices) → NoMore dv (handed_all ids dv)
each_open [] dv = omega arith
each_open (d ∷ ids) dv = let one = handed_open dv d in let rest = each_open ids (handed dv d) in omega (arith, one, rest)

each_beside : (ids : List ℕ) (dv : Devices) → (handed_all ids dv).wishes ≡ dv.wishes
each_beside [] dv = refl
each_beside (d ∷ ids) dv = each_beside ids (handed dv d) ∙ (handed_beside dv d).wishes

unless_open : (waiters : List ℕ) (dv : Devices) → NoMore dv (handed_unless waiters dv)
unless_open [] dv = each_open (device_ids dv) dv
unless_open (t ∷ ts) dv = omega arith

unless_beside : (waiters : List ℕ) (dv : Devices) → (handed_unless waiters dv).wishes ≡ dv.wishes
unless_beside [] dv = each_beside (device_ids dv) dv
unless_beside (t ∷ ts) dv = refl

pub hand_over_open : (b : Base) (dv : Devices) → NoMore dv (hand_over b dv)
unfolding hand_over
hand_over_open b dv = unless_open (fifo_queue b suspension_object) dv

pub hand_over_beside : (b : Base) (dv : Devices) → (hand_over b dv).wishes ≡ dv.wishes
unfolding hand_over
hand_over_beside b dv = unless_beside (fifo_queue b suspension_object) dv

one_open : (first : Option ℕ) (dv : Devices) → NoMore dv (handed_one first dv)
one_open None dv = omega arith
one_open (Some d) dv = handed_open dv d

one_beside : (first : Option ℕ) (dv : Devices) → (handed_one first dv).wishes ≡ dv.wishes
one_beside None dv = refl
one_beside (Some d) dv = (handed_beside dv d).wishes

pub hand_first_open : (dv : Devices) → NoMore dv (hand_first dv)
unfolding hand_first
hand_first_open dv = one_open (find (λ d. is_some (first_queued dv d)) (device_ids dv)) dv

pub hand_first_beside : (dv : Devices) → (hand_first dv).wishes ≡ dv.wishes
unfolding hand_first
hand_first_beside dv = one_beside (find (λ d. is_some (first_queued dv d)) (device_ids dv)) dv

-- ---- endings

-- a request that ends is one less, and no task asks for anything else then
pub ended_open : (dv : Devices) (d : ℕ) (link : Link) (id : ℕ) (row : Row) (served : Served) → row_at dv id ≡ Some row → is_at_driver row.life ≡ true → open_in (ended_at dv d link id row served).rows + 1 ≤ open_in dv.rows
ended_open dv d link id row served at away =
    let one : row_open (Some row) ≡ 1 = ap (λ test. cond test 0 1) (away_life row.life away) in
    let there : row_open (row_at dv id) ≡ row_open (Some row) = ap row_open at in
    let set = slot_open dv.rows id (Some (record row { life = lives.Ended served.size served.error })) in
    omega (arith, set, there, one)
  where
    away_life : (life : Life) → is_at_driver life ≡ true → has_ended life ≡ false
    away_life lives.Queued is = refl
    away_life lives.AtDriver is = refl
    away_life (lives.Ended size error) is = absurd (cc is)

-- a descriptor that is free again, and a request that is let go, leave no more
pub record IsLess (dv now : Devices) : Type 0 where
  pub rows : NoMore dv now
  pub wishes : now.wishes ≡ dv.wishes

free_less : (waiters : List ℕ) (dv now : Devices) (dd : ℕ) → IsLess dv now → IsLess dv (free_unless waiters now dd)
free_less [] dv now dd is = record { rows = is.rows; wishes = is.wishes }
free_less (t ∷ ts) dv now dd is = is

less_if : (dv one other : Devices) (test : Bool) → IsLess dv one → IsLess dv other → IsLess dv (cond test one other)
less_if dv one other true first second = first
less_if dv one other false first second = second

closed_less : (b : Base) (dv : Devices) (id dd : ℕ) (slot : Option Opened) → IsLess dv (closed_after b dv id dd slot)
closed_less b dv id dd None = record { rows = omega arith; wishes = refl }
closed_less b dv id dd (Some opened) =
    less_if dv _ dv opened.closing
    (free_less (fifo_queue b (close_object dd)) dv (dropped dv id) dd (record { rows = dropped_open dv id; wishes = (dropped_beside dv id).wishes }))
    (record { rows = omega arith; wishes = refl })

-- what an ending leaves that has arrived
pub record IsArrived (p q : DevParts) : Type 0 where
  pub base : q.base ≡ p.base
  pub rows : open_in q.table.rows + 1 ≤ open_in p.table.rows
  pub wishes : q.table.wishes ≡ p.table.wishes

landed_is : (p : DevParts) (d : ℕ) (link : Link) (id : ℕ) (row : Row) (served : Served) → row_at p.table id ≡ Some row → is_at_driver row.life ≡ true → IsArrived p (landed p d link id row served)
landed_is p d link id row served at away =
    let now : Devices = ended_at p.table d link id row served in
    let less = closed_less p.base now id row.descriptor (opened_at now row.descriptor) in
    let fewer = ended_open p.table d link id row served at away in
    let rows = less.rows in
    record { base = refl; rows = omega (arith, rows, fewer); wishes = less.wishes }

of_row : (p q : DevParts) (d : ℕ) (link : Link) (id : ℕ) (served : Served) (slot : Option Row) → row_at p.table id ≡ slot → arrive_row p d link id served slot ≡ Some q → IsArrived p q
of_row p q d link id served None at is = absurd (cc is)
of_row p q d link id served (Some row) at is = of_test (is_at_driver row.life) refl is
  where
    of_test : (away : Bool) → is_at_driver row.life ≡ away → cond away (Some (landed p d link id row served)) None ≡ Some q → IsArrived p q
    of_test true away same = let e : landed p d link id row served ≡ q = cc same in subst (IsArrived p) e (landed_is p d link id row served at away)
    of_test false away same = absurd (cc same)

of_fit : (p q : DevParts) (e : Ending) (link : Link) (given : Given) (fit : Bool) → arrive_fit fit p e link given ≡ Some q → IsArrived p q
of_fit p q e link given false is = absurd (cc is)
of_fit p q e link given true is = of_row p q e.device link given.request.id (served_of link.kind link.store given.request e.how) (row_at p.table given.request.id) refl is

of_given : (p q : DevParts) (e : Ending) (link : Link) (given : Option Given) → arrive_given p e link given ≡ Some q → IsArrived p q
of_given p q e link None is = absurd (cc is)
of_given p q e link (Some given) is = of_fit p q e link given (is_fit e link given) is

of_link : (p q : DevParts) (e : Ending) (slot : Option Link) → arrive_link p e slot ≡ Some q → IsArrived p q
of_link p q e None is = absurd (cc is)
of_link p q e (Some link) is = of_given p q e link link.given is

-- an ending that arrives leaves one request less that hasn't ended
pub arrived_open : (p q : DevParts) (e : Ending) → arrive p e ≡ Some q → IsArrived p q
unfolding arrive
arrived_open p q e is = of_link p q e (link_at p.table e.device) is
