-- Every device that is opened, or of which there is a request, has a driver: so it is from the start on, through all calls, servings,
-- hand-overs and endings.
use Rattle.std.proofs.Common.{◌≡◌, ℕ, zero, suc, ◌+◌, ◌≤◌, Bool, true, false, not, cond, List, [], ◌∷◌, Option, Some, None, ℤ, pos, negsuc, refl, ◌∙◌, ap, sym, subst, arith}
use Rattle.std.specs.Bool.{◌==◌}
use Rattle.std.specs.Prelude.{drop, fold, replicate, slice_get, slice_set}
use Rattle.std.specs.List.{find}
use Rattle.std.specs.Option.{is_some, option_flatten, option_or}
use Rattle.std.proofs.lemmas.Bool.Decides.{nat_tests}
use Rattle.std.specs.Ordering.{int_eq}
use Rattle.tk_types.specs.declared.answer.Who.{Who}
use Rattle.tk_types.specs.declared.calls.DeviceCall.{DeviceCall}
use Rattle.tk_types.specs.declared.calls.DeviceCall.TheVariants as call
use Rattle.tk_types.specs.declared.error_code.Er.{Er}
use Rattle.tk_types.specs.declared.error_code.Er.TheVariants as er
use Rattle.tk_types.specs.declared.modes.OpenMode.{OpenMode}
use Rattle.tk_types.specs.declared.modes.SuspendMode.{SuspendMode}
use Rattle.tk_types.specs.declared.script.Script.{Script}
use Rattle.kernel_model.specs.Words.Orders.{entry, free_from, taken_from, without}
use Rattle.kernel_model.specs.Words.Checks.{Check, ◌otherwise◌, failed, first_error, natural}
use Rattle.kernel_model.specs.Tasks.Base.{Base, fifo_queue}
use Rattle.kernel_model.specs.Tasks.Calls.{caller}
use Rattle.kernel_lemmas.proofs.Tables.{entry_each, entry_other, entry_same, entry_there}
use Rattle.kernel_model.specs.LawWords.Once.{times}
use Rattle.kernel_lemmas.proofs.Once.{times_append, times_filter, times_without}
use Rattle.call_lemmas.proofs.Checked.{holds_at}
use Rattle.context_laws.proofs.InPhase.{free_slot}
use Rattle.object_model.specs.Servings.{first_serving as first_of}
use Rattle.device_model.specs.declared.messages.Ending.{Ending}
use Rattle.device_model.specs.declared.rows.Life.{Life}
use Rattle.device_model.specs.declared.rows.Life.TheVariants as lives
use Rattle.device_model.specs.declared.rows.Opened.{Opened}
use Rattle.device_model.specs.declared.rows.Transfer.{Transfer}
use Rattle.device_model.specs.declared.rows.Wish.{Wish}
use Rattle.device_model.specs.declared.rows.Wish.TheVariants as wish
use Rattle.device_model.specs.Units.Function.{Served}
use Rattle.device_model.specs.Devices.Memory.{number_of, read_bytes}
use Rattle.device_model.specs.Devices.Tables.{Devices, Given, Link, Row, accepted, accepted_in, asked, asked_given, asked_link, device_ids, devices_start, dropped, dropped_in, first_queued, free_descriptor, free_request, handed, handed_first, handed_given, handed_link, handed_row, is_at_driver, is_queued, joined, link_asked, link_at, link_handed, opened_at, request_of, row_at, wish_of, with_buffer, with_open, with_wish}
use Rattle.device_model.specs.Devices.Handing as handing
use Rattle.device_model.specs.Devices.Endings as endings
use Rattle.device_model.specs.Devices.Endings.{DevParts, ended_at}
use Rattle.device_model.specs.Devices.Requests as requests
use Rattle.device_model.specs.Devices.Servings as servings
use Rattle.device_model.specs.Devices.Calls as calls
use Rattle.device_model.specs.Devices.Calls.{DevDone}
use Rattle.device_lemmas.proofs.Emptied.{emptied_at, emptied_there}
use Rattle.device_lemmas.proofs.Walk.{events_table}

-- ---- what is linked

abbrev pub Linked : List (Option Link) → ℕ → Type 0
Linked links d = is_some (entry links d) ≡ true

abbrev pub OpenLinked : List (Option Link) → Option Opened → Type 0
OpenLinked links None = Unit {0}
OpenLinked links (Some opened) = Linked links opened.device

abbrev pub RowLinked : List (Option Link) → Option Row → Type 0
RowLinked links None = Unit {0}
RowLinked links (Some row) = Linked links row.device

-- a request that waits for its driver
abbrev pub QueuedRow : Option Row → Type 0
QueuedRow None = ⊥
QueuedRow (Some row) = is_queued row.life ≡ true

-- there is no device 0; each device that is opened, or of which there is a request, has a link to its driver; and what queues for a
-- driver is a request that waits for it
pub record AreLinked (dv : Devices) : Type 0 where
  pub none : link_at dv 0 ≡ None
  pub opened : (dd : ℕ) → OpenLinked dv.links (opened_at dv dd)
  pub rows : (id : ℕ) → RowLinked dv.links (row_at dv id)
  pub queued : (id : ℕ) → 1 ≤ times id dv.queued → QueuedRow (row_at dv id)

-- a request is one of that device, as before
abbrev RowFrom : Option Row → Option Row → Type 0
RowFrom before None = Unit {0}
RowFrom None (Some row) = ⊥
RowFrom (Some old) (Some row) = row.device ≡ old.device

-- as many links as before
abbrev Still : List (Option Link) → List (Option Link) → Type 0
Still links now = (d : ℕ) → Linked links d → Linked now d

row_still : (links now : List (Option Link)) (before after : Option Row) → Still links now → RowFrom before after → RowLinked links before → RowLinked now after
row_still links now before None still from has = tt
row_still links now None (Some row) still from has = absurd from
row_still links now (Some old) (Some row) still from has = subst (Linked now) (sym from) (still old.device has)

open_still : (links now : List (Option Link)) (slot : Option Opened) → Still links now → OpenLinked links slot → OpenLinked now slot
open_still links now None still has = tt
open_still links now (Some opened) still has = still opened.device has

from_itself : (slot : Option Row) → RowFrom slot slot
from_itself None = tt
from_itself (Some row) = refl

-- a link that is written
set_still : (links : List (Option Link)) (d : ℕ) (link now : Link) → entry links d ≡ Some link → Still links (slice_set links d (Some now))
set_still links d link now at = entry_each (λ e o. Linked links e → is_some o ≡ true) links d (Some now) (λ before. ap is_some (entry_there links d link (Some now) at)) (λ e apart before. before)

set_none : (links : List (Option Link)) (d : ℕ) (link now : Link) → entry links d ≡ Some link → entry links 0 ≡ None → entry (slice_set links d (Some now)) 0 ≡ None
set_none links d link now at none = entry_other links d 0 (Some now) (λ e. let there : entry links 0 ≡ Some link = ap (entry links) e ∙ at in cc (none, there)) ∙ none

-- a row that is written no longer queues
out_queued : (rows : List (Option Row)) (queued : List ℕ) (id : ℕ) (slot : Option Row) → ((i : ℕ) → 1 ≤ times i queued → QueuedRow (entry rows i)) → (i : ℕ) → 1 ≤ times i (without id queued) → QueuedRow (entry (slice_set rows id slot) i)
out_queued rows queued id slot has i stands = by_test (i == id) refl
  where
    by_test : (same : Bool) → (i == id) ≡ same → QueuedRow (entry (slice_set rows id slot) i)
    by_test true at =
        let e : i ≡ id = grind (arith, nat_tests, at) in
        let none : times i (without id queued) ≡ 0 = ap (λ n. times n (without id queued)) e ∙ times_without id queued in
        absurd (omega (arith, none, stands))
    by_test false at =
        let fewer = times_filter (λ other. not (other == id)) i queued in
        subst QueuedRow (sym (entry_other rows id i slot (λ e. grind (arith, nat_tests, at, e)))) (has i (omega (arith, fewer, stands)))

-- a row that didn't queue is written
beside_queued : (rows : List (Option Row)) (queued : List ℕ) (id : ℕ) (row : Row) (slot : Option Row) → entry rows id ≡ Some row → is_queued row.life ≡ false → ((i : ℕ) → 1 ≤ times i queued → QueuedRow (entry rows i)) → (i : ℕ) → 1 ≤ times i queued → QueuedRow (entry (slice_set rows id slot) i)
beside_queued rows queued id row slot there away has i stands = by_test (i == id) refl
  where
    by_test : (same : Bool) → (i == id) ≡ same → QueuedRow (entry (slice_set rows id slot) i)
    by_test true at =
        let e : i ≡ id = grind (arith, nat_tests, at) in
        let waits : is_queued row.life ≡ true = subst QueuedRow (ap (entry rows) e ∙ there) (has i stands) in
        absurd (cc (waits, away))
    by_test false at = subst QueuedRow (sym (entry_other rows id i slot (λ e. grind (arith, nat_tests, at, e)))) (has i stands)

-- a place in a table that there is, where nothing is
abbrev IsFree : Devices → ℕ → Type 0
IsFree dv id = slice_get dv.rows id ≡ Some None

free_entry : {A : Type 0} → (slots : List (Option A)) (id : ℕ) → slice_get slots id ≡ Some None → entry slots id ≡ None
free_entry slots id free = ap option_flatten free

free_set : {A : Type 0} → (slots : List (Option A)) (id : ℕ) (now : Option A) → slice_get slots id ≡ Some None → entry (slice_set slots id now) id ≡ now
free_set [] id now free = absurd (cc free)
free_set (slot ∷ slots) zero now free = refl
free_set (slot ∷ slots) (suc id) now free = free_set slots id now free

-- a request that joins those that wait, where it does
joined_queued : (rows : List (Option Row)) (queued : List ℕ) (id : ℕ) (row : Row) (joins : Bool) → slice_get rows id ≡ Some None → is_queued row.life ≡ joins → ((i : ℕ) → 1 ≤ times i queued → QueuedRow (entry rows i)) →
    (i : ℕ) → 1 ≤ times i (joined joins id queued) → QueuedRow (entry (slice_set rows id (Some row)) i)
joined_queued rows queued id row joins free is has i stands = by_test (i == id) refl joins is stands
  where
    other_row : (i == id) ≡ false → 1 ≤ times i queued → QueuedRow (entry (slice_set rows id (Some row)) i)
    other_row at there = subst QueuedRow (sym (entry_other rows id i (Some row) (λ e. grind (arith, nat_tests, at, e)))) (has i there)

    by_test : (same : Bool) → (i == id) ≡ same → (joins : Bool) → is_queued row.life ≡ joins → 1 ≤ times i (joined joins id queued) → QueuedRow (entry (slice_set rows id (Some row)) i)
    by_test true at true is stands = let e : id ≡ i = grind (arith, nat_tests, at) in subst (λ n. QueuedRow (entry (slice_set rows id (Some row)) n)) e (subst QueuedRow (sym (free_set rows id (Some row) free)) is)
    by_test true at false is stands = let e : i ≡ id = grind (arith, nat_tests, at) in absurd (subst QueuedRow (ap (entry rows) e ∙ free_entry rows id free) (has i stands))
    by_test false at true is stands =
        let all = times_append i queued (id ∷ []) in
        let apart : (id == i) ≡ false = grind (arith, nat_tests, at) in
        let last : times i (id ∷ []) ≡ 0 = ap (λ test. cond test 1 0 + 0) apart in
        other_row at (omega (arith, all, last, stands))
    by_test false at false is stands = other_row at stands

-- ---- the moves

pub opens_linked : (dv : Devices) (dd : ℕ) (slot : Option Opened) → OpenLinked dv.links slot → AreLinked dv → AreLinked (with_open dv dd slot)
opens_linked dv dd slot fits has = record {
  none = has.none;
  opened = entry_each (λ i o. OpenLinked dv.links o) dv.opened dd slot (entry_same (OpenLinked dv.links) dv.opened dd slot fits tt) (λ i apart. has.opened i);
  rows = has.rows;
  queued = has.queued;
}

wished_linked : (dv : Devices) (t : ℕ) (asked_for : Wish) → AreLinked dv → AreLinked (with_wish dv t asked_for)
wished_linked dv t asked_for has = record { none = has.none; opened = has.opened; rows = has.rows; queued = has.queued }

accepted_cases : (dv : Devices) (id : ℕ) (row : Row) (slot : Option Row) → IsFree dv id → Linked dv.links row.device → AreLinked dv → AreLinked (accepted_in slot dv id row)
accepted_cases dv id row (Some other) free fits has = has
accepted_cases dv id row None free fits has = record {
  queued = joined_queued dv.rows dv.queued id (record row { serial = dv.serial }) (is_queued row.life) free refl has.queued;
  none = has.none;
  opened = has.opened;
  rows = entry_each (λ i o. RowLinked dv.links o) dv.rows id (Some (record row { serial = dv.serial })) (entry_same (RowLinked dv.links) dv.rows id (Some (record row { serial = dv.serial })) fits tt) (λ i apart. has.rows i);
}

accepted_linked : (dv : Devices) (id : ℕ) (row : Row) → IsFree dv id → Linked dv.links row.device → AreLinked dv → AreLinked (accepted dv id row)
unfolding accepted
accepted_linked dv id row free fits has = accepted_cases dv id row (row_at dv id) free fits has

linked_if : (dv now : Devices) (test : Bool) → AreLinked dv → AreLinked now → AreLinked (cond test dv now)
linked_if dv now true one other = one
linked_if dv now false one other = other

dropped_cases : (dv : Devices) (id : ℕ) (slot : Option Row) → AreLinked dv → AreLinked (dropped_in slot dv id)
dropped_cases dv id None has = has
dropped_cases dv id (Some row) has = linked_if dv _ (is_at_driver row.life) has (record {
  queued = out_queued dv.rows dv.queued id None has.queued;
  none = has.none;
  opened = has.opened;
  rows = entry_each (λ i o. RowLinked dv.links o) dv.rows id None (entry_same (RowLinked dv.links) dv.rows id None tt tt) (λ i apart. has.rows i);
})

pub dropped_linked : (dv : Devices) (id : ℕ) → AreLinked dv → AreLinked (dropped dv id)
unfolding dropped
dropped_linked dv id has = dropped_cases dv id (row_at dv id) has

-- a link and a request of it are written
both_linked : (dv : Devices) (d : ℕ) (link now : Link) (id : ℕ) (row after : Row) (queued ended : List ℕ) → link_at dv d ≡ Some link → row_at dv id ≡ Some row → after.device ≡ row.device →
    ((i : ℕ) → 1 ≤ times i queued → QueuedRow (entry (slice_set dv.rows id (Some after)) i)) → AreLinked dv →
    AreLinked (record dv { links = slice_set dv.links d (Some now); rows = slice_set dv.rows id (Some after); queued = queued; ended = ended })
both_linked dv d link now id row after queued ended at there same queues has =
    let still = set_still dv.links d link now at in
    record {
      queued = queues;
      none = set_none dv.links d link now at has.none;
      opened = λ dd. open_still dv.links (slice_set dv.links d (Some now)) (opened_at dv dd) still (has.opened dd);
      rows = λ i. row_still dv.links (slice_set dv.links d (Some now)) (row_at dv i) (entry (slice_set dv.rows id (Some after)) i) still
          (entry_each (λ i o. RowFrom (row_at dv i) o) dv.rows id (Some after) (subst (RowFrom (row_at dv id)) (sym (entry_there dv.rows id row (Some after) there)) (subst (λ o. RowFrom o (Some after)) (sym there) same)) (λ j apart. from_itself (row_at dv j)) i)
          (has.rows i);
    }

row_handed : (dv : Devices) (d : ℕ) (link : Link) (id : ℕ) (slot : Option Row) → link_at dv d ≡ Some link → row_at dv id ≡ slot → AreLinked dv → AreLinked (handed_row dv d link id slot)
row_handed dv d link id None at there has = has
row_handed dv d link id (Some row) at there has = both_linked dv d link (link_handed d link (request_of id (link.number + 1) row)) id row (record row { bytes = []; life = lives.AtDriver }) _ dv.ended at there refl (out_queued dv.rows dv.queued id (Some (record row { bytes = []; life = lives.AtDriver })) has.queued) has

first_handed : (dv : Devices) (d : ℕ) (link : Link) (first : Option ℕ) → link_at dv d ≡ Some link → AreLinked dv → AreLinked (handed_first dv d link first)
first_handed dv d link None at has = has
first_handed dv d link (Some id) at has = row_handed dv d link id (row_at dv id) at refl has

given_handed : (dv : Devices) (d : ℕ) (link : Link) (given : Option Given) → link_at dv d ≡ Some link → AreLinked dv → AreLinked (handed_given dv d link given)
given_handed dv d link (Some given) at has = has
given_handed dv d link None at has = first_handed dv d link (first_queued dv d) at has

link_handed_linked : (dv : Devices) (d : ℕ) (slot : Option Link) → link_at dv d ≡ slot → AreLinked dv → AreLinked (handed_link dv d slot)
link_handed_linked dv d None at has = has
link_handed_linked dv d (Some link) at has = given_handed dv d link link.given at has

pub handed_linked : (dv : Devices) (d : ℕ) → AreLinked dv → AreLinked (handed dv d)
unfolding handed
handed_linked dv d has = link_handed_linked dv d (link_at dv d) refl has

given_asked : (dv : Devices) (d : ℕ) (link : Link) (given : Option Given) → link_at dv d ≡ Some link → AreLinked dv → AreLinked (asked_given dv d link given)
given_asked dv d link None at has = has
given_asked dv d link (Some given) at has =
    let now : Link = link_asked d link given in
    linked_if dv _ given.asked has (record {
      queued = has.queued;
      none = set_none dv.links d link now at has.none;
      opened = λ dd. open_still dv.links (slice_set dv.links d (Some now)) (opened_at dv dd) (set_still dv.links d link now at) (has.opened dd);
      rows = λ i. row_still dv.links (slice_set dv.links d (Some now)) (row_at dv i) (row_at dv i) (set_still dv.links d link now at) (from_itself (row_at dv i)) (has.rows i);
    })

link_asked_linked : (dv : Devices) (d : ℕ) (slot : Option Link) → link_at dv d ≡ slot → AreLinked dv → AreLinked (asked_link dv d slot)
link_asked_linked dv d None at has = has
link_asked_linked dv d (Some link) at has = given_asked dv d link link.given at has

asked_linked : (dv : Devices) (d : ℕ) → AreLinked dv → AreLinked (asked dv d)
unfolding asked
asked_linked dv d has = link_asked_linked dv d (link_at dv d) refl has

-- ---- calls

abbrev Done : DevParts → DevDone → Type 0
Done p done = AreLinked done.parts.table

refused_done : (error : Option Er) (p : DevParts) (effect : DevDone) → AreLinked p.table → (error ≡ None → Done p effect) → Done p (calls.refused_with error p effect)
refused_done (Some error) p effect has works = has
refused_done None p effect has works = works refl

-- a call is refused, or has its effect where its checks hold
checked_done : (checks : List Check) (p : DevParts) (effect : DevDone) → AreLinked p.table → (first_error checks ≡ None → Done p effect) → Done p (calls.device_checked checks p effect)
checked_done checks p effect has works = refused_done (first_error checks) p effect has works

done_if : (p : DevParts) (test : Bool) (one other : DevDone) → Done p one → Done p other → Done p (cond {A = DevDone} test one other)
done_if p true one other first second = first
done_if p false one other first second = second

parts_if : (test : Bool) (one other : DevParts) → AreLinked one.table → AreLinked other.table → AreLinked (cond {A = DevParts} test one other).table
parts_if true one other first second = first
parts_if false one other first second = second

buffer_linked : (dv : Devices) (d id : ℕ) → AreLinked dv → AreLinked (with_buffer dv d id)
buffer_linked dv d id has = record { none = has.none; opened = has.opened; rows = has.rows; queued = has.queued }

event_linked : (p : DevParts) (d id : ℕ) (transfer : Transfer) → IsFree p.table id → Linked p.table.links d → AreLinked p.table → AreLinked (requests.accept_event p d id transfer).table
event_linked p d id transfer free fits has =
    parts_if (transfer.size == 0) _ _ (accepted_linked p.table id _ free fits has)
    (parts_if (transfer.size == requests.buffer_size) _ _
    (parts_if transfer.write _ _
    (parts_if (requests.may_be_buffer p (number_of (read_bytes requests.buffer_size transfer.address p.memory))) _ _
    (accepted_linked (with_buffer p.table d (number_of (read_bytes requests.buffer_size transfer.address p.memory))) id _ free fits (buffer_linked p.table d _ has))
    (accepted_linked p.table id _ free fits has))
    (accepted_linked p.table id _ free fits has))
    (accepted_linked p.table id _ free fits has))

from_linked : (start : Option ℕ) (p : DevParts) (d id : ℕ) (transfer : Transfer) → IsFree p.table id → Linked p.table.links d → AreLinked p.table → AreLinked (requests.accept_from start p d id transfer).table
from_linked None p d id transfer free fits has = event_linked p d id transfer free fits has
from_linked (Some start) p d id transfer free fits has = accepted_linked p.table id _ free fits has

accept_linked : (p : DevParts) (d id : ℕ) (transfer : Transfer) → IsFree p.table id → Linked p.table.links d → AreLinked p.table → AreLinked (requests.accept p d id transfer).table
unfolding requests.accept
accept_linked p d id transfer free fits has = from_linked transfer.start p d id transfer free fits has

wait_done : (p : DevParts) (t object : ℕ) (timeout : ℤ) (asked_for : Wish) → AreLinked p.table → Done p (calls.waits_or_ends p t object timeout (with_wish p.table t asked_for))
wait_done p t object timeout asked_for has =
    done_if p (int_eq timeout (pos 0)) (record { parts = p; outcome = failed er.TmOut }) (calls.waits p t object timeout (with_wish p.table t asked_for)) has (wished_linked p.table t asked_for has)

-- the ID of the next request is free, where there is one
next_free : (dv : Devices) → not (free_request dv == 0) ≡ true → IsFree dv (free_request dv)
unfolding free_request
next_free dv some = free_slot dv.rows (by_not (free_from 1 (drop 1 dv.rows) == 0) some)
  where
    by_not : (test : Bool) → not test ≡ true → test ≡ false
    by_not true is = absurd (cc is)
    by_not false is = refl

requested_done : (p : DevParts) (t d : ℕ) (transfer : Transfer) (timeout : ℤ) → IsFree p.table (free_request p.table) → Linked p.table.links d → AreLinked p.table → Done p (calls.requested p t d transfer timeout)
requested_done p t d transfer timeout free fits has =
    done_if p (requests.has_place p.table d) (calls.answers (requests.accept p d (free_request p.table) transfer) (pos (free_request p.table)))
    (calls.waits_or_ends p t (requests.acceptance_object d) timeout (with_wish p.table t (wish.Acceptance transfer false)))
    (accept_linked p d (free_request p.table) transfer free fits has) (wait_done p t (requests.acceptance_object d) timeout (wish.Acceptance transfer false) has)

-- the device of a descriptor that is open
open_device_linked : (links : List (Option Link)) (slot : Option Opened) → calls.stays_open slot ≡ true → OpenLinked links slot → Linked links (calls.device_in slot)
open_device_linked links None is has = absurd (cc is)
open_device_linked links (Some opened) is has = has

request_done : (p : DevParts) (who : Who) (write : Bool) (descriptor start address size timeout : ℤ) → AreLinked p.table → Done p (calls.request p who write descriptor start address size timeout)
unfolding calls.request
request_done p who write descriptor start address size timeout has =
    let checks : List Check = calls.request_checks p who descriptor write start address size timeout [] in
    checked_done checks p _ has
    (λ none. requested_done p (caller who) (calls.device_of p.table (natural descriptor)) (calls.transfer_of descriptor write start address size) timeout (next_free p.table (holds_at 7 checks none))
    (open_device_linked p.table.links (opened_at p.table (natural descriptor)) (holds_at 5 checks none) (has.opened (natural descriptor))) has)

stayed_done : (p : DevParts) (t d : ℕ) (transfer : Transfer) (start : Option ℕ) → IsFree p.table (free_request p.table) → Linked p.table.links d → AreLinked p.table → Done p (calls.stayed p t d transfer start)
stayed_done p t d transfer (Some start) free fits has = wished_linked p.table t (wish.Acceptance transfer true) has
stayed_done p t d transfer None free fits has =
    let id : ℕ = free_request p.table in
    done_if p (requests.has_place p.table d) (calls.claim (requests.accept p d id transfer) true id) (calls.stays p t d transfer)
    (dropped_linked (requests.accept p d id transfer).table id (accept_linked p d id transfer free fits has)) (wished_linked p.table t (wish.Acceptance transfer true) has)

whole_done : (p : DevParts) (who : Who) (write : Bool) (descriptor start address size : ℤ) → AreLinked p.table → Done p (calls.request_whole p who write descriptor start address size)
unfolding calls.request_whole
whole_done p who write descriptor start address size has =
    let checks : List Check = calls.request_checks p who descriptor write start address size (negsuc 0) ((not (calls.any_waits p (natural descriptor)) otherwise er.Obj) ∷ []) in
    checked_done checks p _ has
    (λ none. stayed_done p (caller who) (calls.device_of p.table (natural descriptor)) (calls.transfer_of descriptor write start address size) (calls.start_of start) (next_free p.table (holds_at 8 checks none))
    (open_device_linked p.table.links (opened_at p.table (natural descriptor)) (holds_at 5 checks none) (has.opened (natural descriptor))) has)

waited_done : (p : DevParts) (t dd : ℕ) (timeout : ℤ) (asked_for : Wish) (picked : Option ℕ) → AreLinked p.table → Done p (calls.ending_waited p t dd timeout asked_for picked)
waited_done p t dd timeout asked_for (Some id) has = dropped_linked p.table id has
waited_done p t dd timeout asked_for None has = wait_done p t (requests.ending_object dd) timeout asked_for has

wait_ending_done : (p : DevParts) (who : Who) (descriptor id timeout : ℤ) → AreLinked p.table → Done p (calls.wait_ending p who descriptor id timeout)
unfolding calls.wait_ending
wait_ending_done p who descriptor id timeout has =
    let asked_for : Wish = calls.ending_wish p.table (natural id) in
    checked_done (calls.wait_checks p who descriptor id timeout) p _ has
    (λ none. waited_done p (caller who) (natural descriptor) timeout asked_for (requests.picked p.table (natural descriptor) asked_for) has)

either_linked : (one other : Devices) (test : Bool) → AreLinked one → AreLinked other → AreLinked (cond test one other)
either_linked one other true first second = first
either_linked one other false first second = second

requests_linked : (dd : ℕ) (ids : List ℕ) (dv : Devices) → AreLinked dv → AreLinked (fold (calls.dropped_if dd) dv ids)
requests_linked dd [] dv has = has
requests_linked dd (id ∷ ids) dv has =
    requests_linked dd ids (calls.dropped_if dd dv id) (either_linked (dropped dv id) dv (servings.is_of_descriptor dd (row_at dv id)) (dropped_linked dv id has) has)

now_closing_linked : (links : List (Option Link)) (slot : Option Opened) → OpenLinked links slot → OpenLinked links (calls.now_closing slot)
now_closing_linked links None has = tt
now_closing_linked links (Some opened) has = has

closed_done : (begun : Bool) (p : DevParts) (t dd : ℕ) → AreLinked p.table → Done p (calls.closed_or_begun begun p t dd)
closed_done false p t dd has = opens_linked p.table dd None tt has
closed_done true p t dd has =
    asked_linked (with_open p.table dd (calls.now_closing (opened_at p.table dd))) (calls.device_of p.table dd)
    (opens_linked p.table dd (calls.now_closing (opened_at p.table dd)) (now_closing_linked p.table.links (opened_at p.table dd) (has.opened dd)) has)

close_done : (p : DevParts) (who : Who) (descriptor : ℤ) → AreLinked p.table → Done p (calls.close_device p who descriptor)
unfolding calls.close_device
close_done p who descriptor has =
    let dd : ℕ = natural descriptor in
    checked_done (calls.close_checks p who descriptor) p _ has
    (λ none. closed_done (servings.is_with_driver p.table dd) (calls.without_requests p dd) (caller who) dd (requests_linked dd (taken_from 1 (drop 1 p.table.rows)) p.table has))

suspended_done : (given : Bool) (p : DevParts) (t : ℕ) → AreLinked p.table → Done p (calls.suspended given p t)
suspended_done false p t has = subst AreLinked (sym (events_table p)) has
suspended_done true p t has = has

effect_done : (p : DevParts) (t : ℕ) (mode : SuspendMode) → AreLinked p.table → Done p (calls.suspend_effect p t mode)
effect_done p t mode has =
    done_if p mode.td_suspend _ _ (suspended_done (handing.any_given p.table) p t has)
    (done_if p mode.td_dissus _ _ (of_off p.table _ has) (done_if p mode.td_enasus _ _ (of_off p.table _ has) (of_off p.table _ has)))
  where
    of_off : (dv : Devices) (off : ℕ) → AreLinked dv → AreLinked (record dv { off = off })
    of_off dv off has = record { none = has.none; opened = has.opened; rows = has.rows; queued = has.queued }

suspend_done : (p : DevParts) (who : Who) (mode : SuspendMode) → AreLinked p.table → Done p (calls.suspend_devices p who mode)
unfolding calls.suspend_devices
suspend_done p who mode has = checked_done (calls.suspend_checks p who mode) p _ has (λ none. effect_done p (caller who) mode has)

open_done : (p : DevParts) (d : ℕ) (mode : OpenMode) → AreLinked p.table → Done p (calls.open_device p d mode)
unfolding calls.open_device
open_done p d mode has =
    checked_done (calls.open_checks p.table d mode) p _ has
    (λ none. opens_linked p.table (free_descriptor p.table) (calls.opened_for d mode) (holds_at 1 (calls.open_checks p.table d mode) none) has)

refer_done : (p : DevParts) (d : ℕ) → AreLinked p.table → Done p (calls.refer_device p d)
unfolding calls.refer_device
refer_done p d has = checked_done ((is_some (link_at p.table d) otherwise er.NoExs) ∷ []) p _ has (λ none. has)

-- every call leaves it so
pub calls_linked : (p : DevParts) (who : Who) (c : DeviceCall) → AreLinked p.table → AreLinked (calls.device_call p who c).parts.table
unfolding calls.device_call
calls_linked p who (call.OpnDev device mode) has = open_done p device mode has
calls_linked p who (call.ReaDev descriptor start address size timeout) has = request_done p who false descriptor start address size timeout has
calls_linked p who (call.WriDev descriptor start address size timeout) has = request_done p who true descriptor start address size timeout has
calls_linked p who (call.SreaDev descriptor start address size) has = whole_done p who false descriptor start address size has
calls_linked p who (call.SwriDev descriptor start address size) has = whole_done p who true descriptor start address size has
calls_linked p who (call.WaiDev descriptor id timeout) has = wait_ending_done p who descriptor id timeout has
calls_linked p who (call.ClsDev descriptor) has = close_done p who descriptor has
calls_linked p who (call.SusDev mode) has = suspend_done p who mode has
calls_linked p who (call.RefDev device) has = refer_done p device has

-- ---- servings

abbrev pub KeptLinked : Option DevParts → Type 0
KeptLinked None = Unit {0}
KeptLinked (Some q) = AreLinked q.table

either_kept : (one other : Option DevParts) → KeptLinked one → KeptLinked other → KeptLinked (option_or one other)
either_kept None other first second = second
either_kept (Some q) other first second = first

first_kept : (serve : ℕ → Option DevParts) (ids : List ℕ) → ((id : ℕ) → KeptLinked (serve id)) → KeptLinked (first_of serve ids)
unfolding first_of
first_kept serve [] each = tt
first_kept serve (id ∷ ids) each = either_kept (serve id) (first_of serve ids) (each id) (first_kept serve ids each)

-- each of the IDs that are taken has something
taken_kept : {A : Type 0} → (serve : ℕ → Option DevParts) (from : ℕ) (slots : List (Option A)) → ((i : ℕ) → is_some (entry slots i) ≡ true → KeptLinked (serve (from + i))) → KeptLinked (first_of serve (taken_from from slots))
unfolding first_of
taken_kept serve from [] each = tt
taken_kept serve from (None ∷ slots) each = taken_kept serve (from + 1) slots (λ i is. subst (λ n. KeptLinked (serve n)) (omega arith) (each (suc i) is))
taken_kept serve from (Some k ∷ slots) each =
    either_kept (serve from) (first_of serve (taken_from (from + 1) slots)) (subst (λ n. KeptLinked (serve n)) (omega arith) (each 0 refl))
    (taken_kept serve (from + 1) slots (λ i is. subst (λ n. KeptLinked (serve n)) (omega arith) (each (suc i) is)))

after_linked : (p : DevParts) (t dd id serial : ℕ) (stays : Bool) → AreLinked p.table → AreLinked (servings.after_acceptance p t dd id serial stays).table
after_linked p t dd id serial true has = wished_linked p.table t (wish.Ending id serial true) has
after_linked p t dd id serial false has = has

admitted_linked : (p : DevParts) (d t : ℕ) (transfer : Transfer) (stays : Bool) (id : ℕ) → free_request p.table ≡ id → Linked p.table.links d → AreLinked p.table → AreLinked (servings.admitted p d t transfer stays id).table
admitted_linked p d t transfer stays zero at fits has = has
admitted_linked p d t transfer stays (suc id) at fits has =
    let some : not (free_request p.table == 0) ≡ true = grind (arith, nat_tests, at) in
    after_linked (requests.accept p d (suc id) transfer) t transfer.descriptor (suc id) p.table.serial stays
    (accept_linked p d (suc id) transfer (subst (IsFree p.table) at (next_free p.table some)) fits has)

wish_linked : (p : DevParts) (d t : ℕ) (asked_for : Wish) → Linked p.table.links d → AreLinked p.table → KeptLinked (servings.admitted_wish p d t asked_for)
wish_linked p d t (wish.Acceptance transfer stays) fits has = admitted_linked p d t transfer stays (free_request p.table) refl fits has
wish_linked p d t wish.Nothing fits has = tt
wish_linked p d t (wish.Ending id serial own) fits has = tt
wish_linked p d t wish.AnyEnding fits has = tt

place_linked : (p : DevParts) (place : Bool) (d t : ℕ) → Linked p.table.links d → AreLinked p.table → KeptLinked (servings.admitted_if place p d t)
place_linked p false d t fits has = tt
place_linked p true d t fits has = wish_linked p d t (wish_of p.table t) fits has

waiters_linked : (p : DevParts) (d : ℕ) (waiters : List ℕ) → Linked p.table.links d → AreLinked p.table → KeptLinked (servings.acceptance_by p d waiters)
waiters_linked p d [] fits has = tt
waiters_linked p d (t ∷ ts) fits has = place_linked p (requests.has_place p.table d) d t fits has

dropped_at : (links : List (Option Link)) (i : ℕ) → is_some (entry (drop 1 links) i) ≡ true → Linked links (1 + i)
dropped_at [] i is = is
dropped_at (link ∷ links) i is = let same : suc i ≡ 1 + i = omega arith in subst (Linked (link ∷ links)) same is

pub acceptances_linked : (p : DevParts) → AreLinked p.table → KeptLinked (servings.serve_acceptances p)
unfolding servings.serve_acceptances servings.serve_acceptance
acceptances_linked p has = taken_kept (servings.serve_acceptance p) 1 (drop 1 p.table.links) (λ i is. waiters_linked p (1 + i) (fifo_queue p.base (requests.acceptance_object (1 + i))) (dropped_at p.table.links i is) has)

claimed_linked : (p : DevParts) (t : ℕ) (id : Option ℕ) → AreLinked p.table → KeptLinked (servings.ending_claimed p t id)
claimed_linked p t None has = tt
claimed_linked p t (Some id) has = dropped_linked p.table id has

found_linked : (p : DevParts) (dd : ℕ) (first : Option ℕ) → AreLinked p.table → KeptLinked (servings.ending_of_first p dd first)
found_linked p dd None has = tt
found_linked p dd (Some t) has = claimed_linked p t (requests.picked p.table dd (wish_of p.table t)) has

pub endings_linked : (p : DevParts) → AreLinked p.table → KeptLinked (servings.serve_endings p)
unfolding servings.serve_endings servings.serve_ending
endings_linked p has = first_kept (servings.serve_ending p) (servings.descriptors p.table) (λ dd. found_linked p dd (find (λ t. is_some (requests.picked p.table dd (wish_of p.table t))) (fifo_queue p.base (requests.ending_object dd))) has)

closed_linked : (p : DevParts) (away : Bool) (dd t : ℕ) → AreLinked p.table → KeptLinked (servings.closed_unless away p dd t)
closed_linked p true dd t has = tt
closed_linked p false dd t has = opens_linked p.table dd None tt has

closer_linked : (p : DevParts) (dd : ℕ) (waiters : List ℕ) → AreLinked p.table → KeptLinked (servings.close_by p dd waiters)
closer_linked p dd [] has = tt
closer_linked p dd (t ∷ ts) has = closed_linked p (servings.is_with_driver p.table dd) dd t has

pub closes_linked : (p : DevParts) → AreLinked p.table → KeptLinked (servings.serve_closes p)
unfolding servings.serve_closes servings.serve_close
closes_linked p has = first_kept (servings.serve_close p) (servings.descriptors p.table) (λ dd. closer_linked p dd (fifo_queue p.base (endings.close_object dd)) has)

-- ---- requests that go to drivers, and their endings

each_linked : (ids : List ℕ) (dv : Devices) → AreLinked dv → AreLinked (handing.handed_all ids dv)
each_linked [] dv has = has
each_linked (d ∷ ids) dv has = each_linked ids (handed dv d) (handed_linked dv d has)

unless_linked : (waiters : List ℕ) (dv : Devices) → AreLinked dv → AreLinked (handing.handed_unless waiters dv)
unless_linked [] dv has = each_linked (device_ids dv) dv has
unless_linked (t ∷ ts) dv has = has

pub hand_over_linked : (b : Base) (dv : Devices) → AreLinked dv → AreLinked (handing.hand_over b dv)
unfolding handing.hand_over
hand_over_linked b dv has = unless_linked (fifo_queue b handing.suspension_object) dv has

one_linked : (first : Option ℕ) (dv : Devices) → AreLinked dv → AreLinked (handing.handed_one first dv)
one_linked None dv has = has
one_linked (Some d) dv has = handed_linked dv d has

pub hand_first_linked : (dv : Devices) → AreLinked dv → AreLinked (handing.hand_first dv)
unfolding handing.hand_first
hand_first_linked dv has = one_linked (find (λ d. is_some (first_queued dv d)) (device_ids dv)) dv has

free_linked : (waiters : List ℕ) (dv : Devices) (dd : ℕ) → AreLinked dv → AreLinked (endings.free_unless waiters dv dd)
free_linked [] dv dd has = opens_linked dv dd None tt has
free_linked (t ∷ ts) dv dd has = has

closed_after_linked : (b : Base) (dv : Devices) (id dd : ℕ) (slot : Option Opened) → AreLinked dv → AreLinked (endings.closed_after b dv id dd slot)
closed_after_linked b dv id dd None has = has
closed_after_linked b dv id dd (Some opened) has = either_linked _ dv opened.closing (free_linked (fifo_queue b (endings.close_object dd)) (dropped dv id) dd (dropped_linked dv id has)) has

ended_linked : (dv : Devices) (d : ℕ) (link : Link) (id : ℕ) (row : Row) (served : Served) → link_at dv d ≡ Some link → row_at dv id ≡ Some row → is_at_driver row.life ≡ true → AreLinked dv → AreLinked (ended_at dv d link id row served)
ended_linked dv d link id row served at there away has =
    both_linked dv d link (record link { store = served.store; given = None }) id row (record row { life = lives.Ended served.size served.error }) dv.queued _ at there refl
    (beside_queued dv.rows dv.queued id row (Some (record row { life = lives.Ended served.size served.error })) there (away_life row.life away) has.queued) has
  where
    away_life : (life : Life) → is_at_driver life ≡ true → is_queued life ≡ false
    away_life lives.Queued is = absurd (cc is)
    away_life lives.AtDriver is = refl
    away_life (lives.Ended size error) is = absurd (cc is)

of_row : (p : DevParts) (d : ℕ) (link : Link) (id : ℕ) (served : Served) (slot : Option Row) → link_at p.table d ≡ Some link → row_at p.table id ≡ slot → AreLinked p.table → KeptLinked (endings.arrive_row p d link id served slot)
of_row p d link id served None at there has = tt
of_row p d link id served (Some row) at there has = by_life (is_at_driver row.life) refl
  where
    by_life : (away : Bool) → is_at_driver row.life ≡ away → KeptLinked (cond away (Some (endings.landed p d link id row served)) None)
    by_life true away = closed_after_linked p.base (ended_at p.table d link id row served) id row.descriptor (opened_at (ended_at p.table d link id row served) row.descriptor) (ended_linked p.table d link id row served at there away has)
    by_life false away = tt

of_fit : (p : DevParts) (e : Ending) (link : Link) (given : Given) (fit : Bool) → link_at p.table e.device ≡ Some link → AreLinked p.table → KeptLinked (endings.arrive_fit fit p e link given)
of_fit p e link given false at has = tt
of_fit p e link given true at has = of_row p e.device link given.request.id (endings.served_of link.kind link.store given.request e.how) (row_at p.table given.request.id) at refl has

of_given : (p : DevParts) (e : Ending) (link : Link) (given : Option Given) → link_at p.table e.device ≡ Some link → AreLinked p.table → KeptLinked (endings.arrive_given p e link given)
of_given p e link None at has = tt
of_given p e link (Some given) at has = of_fit p e link given (endings.is_fit e link given) at has

of_link : (p : DevParts) (e : Ending) (slot : Option Link) → link_at p.table e.device ≡ slot → AreLinked p.table → KeptLinked (endings.arrive_link p e slot)
of_link p e None at has = tt
of_link p e (Some link) at has = of_given p e link link.given at has

pub arrives_linked : (p : DevParts) (e : Ending) → AreLinked p.table → KeptLinked (endings.arrive p e)
unfolding endings.arrive
arrives_linked p e has = of_link p e (link_at p.table e.device) refl has

-- ---- the start

none_opened : (links : List (Option Link)) (n i : ℕ) → OpenLinked links (entry (replicate {A = Option Opened} n None) i)
none_opened links zero i = tt
none_opened links (suc n) zero = tt
none_opened links (suc n) (suc i) = none_opened links n i

no_rows_linked : (links : List (Option Link)) (n i : ℕ) → RowLinked links (entry (replicate {A = Option Row} n None) i)
no_rows_linked links zero i = tt
no_rows_linked links (suc n) zero = tt
no_rows_linked links (suc n) (suc i) = no_rows_linked links n i

pub start_linked : (script : Script) → AreLinked (devices_start script)
unfolding devices_start
start_linked script = record { none = refl; opened = none_opened (devices_start script).links 33; rows = no_rows_linked (devices_start script).links 65; queued = λ id stands. absurd (omega (arith, stands)) }

-- ---- messages that are taken

pub emptied_linked : (dv : Devices) → AreLinked dv → AreLinked (handing.emptied dv)
unfolding handing.emptied
emptied_linked dv is =
    let still : Still dv.links (handing.emptied dv).links = λ d has. emptied_there dv d ∙ has in
    record {
      none = emptied_at dv 0 ∙ ap handing.link_emptied is.none;
      opened = λ dd. open_still dv.links (handing.emptied dv).links (opened_at dv dd) still (is.opened dd);
      rows = λ id. row_still dv.links (handing.emptied dv).links (row_at dv id) (row_at dv id) still (from_itself (row_at dv id)) (is.rows id);
      queued = is.queued;
    }
