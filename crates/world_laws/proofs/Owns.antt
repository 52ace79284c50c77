-- What a call is told that stays for its own request, where that has ended as it was accepted.
use Rattle.std.proofs.Common.{◌≡◌, ℕ, suc, ◌+◌, ◌⊎◌, inl, inr, Bool, true, false, List, [], ◌∷◌, Option, Some, None, ℤ, negsuc, refl, ap, sym, subst, ◌∙◌, arith}
use Rattle.std.specs.Prelude.{◌==◌, not, if◌then◌else◌, drop, slice_set}
use Rattle.tk_types.specs.declared.answer.Answer.{Answer}
use Rattle.tk_types.specs.declared.answer.Outcome.{Outcome}
use Rattle.tk_types.specs.declared.answer.Outcome.TheVariants.{Blocked, Entered, Returned}
use Rattle.tk_types.specs.declared.answer.Who.{Who}
use Rattle.tk_types.specs.declared.calls.DeviceCall.TheVariants as call
use Rattle.tk_types.specs.declared.error_code.Er.{Er}
use Rattle.tk_types.specs.declared.error_code.Er.TheVariants as er
use Rattle.kernel_model.specs.Words.Checks.{Check, ◌otherwise◌, first_error, natural}
use Rattle.kernel_model.specs.Words.Orders.{entry, free_from}
use Rattle.kernel_model.specs.Tasks.Calls.{caller}
use Rattle.call_lemmas.proofs.Checked.{holds_at}
use Rattle.device_model.specs.declared.rows.Life.TheVariants.{Ended}
use Rattle.device_model.specs.declared.rows.Transfer.{Transfer}
use Rattle.device_model.specs.Devices.Memory.{number_of, read_bytes}
use Rattle.device_model.specs.Devices.Tables.{Devices, Row, accepted, accepted_in, free_request, row_at, with_buffer}
use Rattle.device_model.specs.Devices.Endings.{DevParts}
use Rattle.device_model.specs.Devices.Requests.{accept, accept_event, accept_from, buffer_size, claimed_row, has_place, may_be_buffer, row_of, set_buffer}
use Rattle.device_model.specs.Devices.Calls as calls
use Rattle.device_model.specs.Devices.Calls.{DevDone, device_call}
use Rattle.world_laws.specs.Requests.{HandsOutOwn}

-- ---- a free ID

record IsFree (rows : List (Option Row)) (id : ℕ) : Type 0 where
  none : entry rows id ≡ None
  fits : (slot : Option Row) → entry (slice_set rows id slot) id ≡ slot

free_in : (slots : List (Option Row)) (from : ℕ) → (not (free_from from slots == 0)) ≡ true → (k : ℕ) × (free_from from slots ≡ from + k) × IsFree slots k
unfolding free_from
free_in [] from some = absurd (cc some)
free_in (None ∷ slots) from some = (0, omega arith, record { none = refl; fits = λ slot. refl })
free_in (Some row ∷ slots) from some =
    let rest = free_in slots (from + 1) some in
    (suc rest.0, (let is = rest.1 in omega (arith, is)), record { none = rest.2.none; fits = rest.2.fits })

free_row : (rows : List (Option Row)) → (not (free_from 1 (drop 1 rows) == 0)) ≡ true → IsFree rows (free_from 1 (drop 1 rows))
unfolding free_from
free_row [] some = absurd (cc some)
free_row (row ∷ slots) some =
    let rest = free_in slots 1 some in
    let same : suc rest.0 ≡ free_from 1 slots = (let is = rest.1 in omega (arith, is)) in
    subst (IsFree (row ∷ slots)) same (record { none = rest.2.none; fits = rest.2.fits })

-- ---- its request

record HasOwn (p : DevParts) (d id : ℕ) (transfer : Transfer) (q : DevParts) : Type 0 where
  size : ℕ
  error : Er
  there : row_at q.table id ≡ Some (record (row_of d transfer [] (Ended size error)) { serial = p.table.serial })

accepted_there : (dv : Devices) (id : ℕ) (row : Row) → IsFree dv.rows id → row_at (accepted dv id row) id ≡ Some (record row { serial = dv.serial })
unfolding accepted
accepted_there dv id row free =
    subst (λ (slot : Option Row). row_at (accepted_in slot dv id row) id ≡ Some (record row { serial = dv.serial })) (sym free.none) (free.fits (Some (record row { serial = dv.serial })))

either_own : (p : DevParts) (d id : ℕ) (transfer : Transfer) (test : Bool) (one other : DevParts) → HasOwn p d id transfer one → HasOwn p d id transfer other → HasOwn p d id transfer (if test then one else other)
either_own p d id transfer true one other first second = first
either_own p d id transfer false one other first second = second

ends_so : (p : DevParts) (d id : ℕ) (transfer : Transfer) (size : ℕ) (error : Er) → IsFree p.table.rows id → HasOwn p d id transfer (record p { table = accepted p.table id (row_of d transfer [] (Ended size error)) })
ends_so p d id transfer size error free = record { size = size; error = error; there = accepted_there p.table id (row_of d transfer [] (Ended size error)) free }

buffer_set : (p : DevParts) (d id buffer : ℕ) (transfer : Transfer) → IsFree p.table.rows id → HasOwn p d id transfer (set_buffer p d id buffer transfer)
buffer_set p d id buffer transfer free =
    either_own p d id transfer (may_be_buffer p buffer) _ _
    (record { size = buffer_size; error = er.Ok; there = accepted_there (with_buffer p.table d buffer) id (row_of d transfer [] (Ended buffer_size er.Ok)) free })
    (ends_so p d id transfer 0 er.NoExs free)

event_own : (p : DevParts) (d id : ℕ) (transfer : Transfer) → IsFree p.table.rows id → HasOwn p d id transfer (accept_event p d id transfer)
event_own p d id transfer free =
    either_own p d id transfer (transfer.size == 0) _ _ (ends_so p d id transfer buffer_size er.Ok free)
    (either_own p d id transfer (transfer.size == buffer_size) _ _
    (either_own p d id transfer transfer.write _ _
    (buffer_set p d id (number_of (read_bytes buffer_size transfer.address p.memory)) transfer free)
    (record { size = buffer_size; error = er.Ok; there = accepted_there p.table id (row_of d transfer [] (Ended buffer_size er.Ok)) free }))
    (ends_so p d id transfer 0 er.Par free))

accept_own : (p : DevParts) (d id : ℕ) (transfer : Transfer) → transfer.start ≡ None → IsFree p.table.rows id → HasOwn p d id transfer (accept p d id transfer)
unfolding accept
accept_own p d id transfer event free = subst (λ (start : Option ℕ). HasOwn p d id transfer (accept_from start p d id transfer)) (sym event) (event_own p d id transfer free)

-- ---- what the call is told

abbrev answer_in : Outcome → Answer → Answer
answer_in (Returned answer) other = answer
answer_in Blocked other = other
answer_in (Entered body) other = other

claim_of : (p : DevParts) (d id : ℕ) (transfer : Transfer) (answer : Answer) → HasOwn p d id transfer (accept p d id transfer) → (calls.claim (accept p d id transfer) true id).outcome ≡ Returned answer →
    HandsOutOwn p transfer.descriptor answer (calls.claim (accept p d id transfer) true id).parts
claim_of p d id transfer answer own is = record {
  device = d;
  id = id;
  transfer = transfer;
  claim = record {
    row = record (row_of d transfer [] (Ended own.size own.error)) { serial = p.table.serial };
    size = own.size;
    error = own.error;
    there = own.there;
    descriptor = refl;
    over = refl;
    told = sym (ap (λ (o : Outcome). answer_in o answer) is) ∙ ap (λ (slot : Option Row). claimed_row true id slot) own.there;
    gone = refl;
  };
  very = refl;
}

told_by : (p : DevParts) (t d : ℕ) (transfer : Transfer) (answer : Answer) (place : Bool) → HasOwn p d (free_request p.table) transfer (accept p d (free_request p.table) transfer) →
    (if place then calls.claim (accept p d (free_request p.table) transfer) true (free_request p.table) else calls.stays p t d transfer).outcome ≡ Returned answer →
    HandsOutOwn p transfer.descriptor answer (if place then calls.claim (accept p d (free_request p.table) transfer) true (free_request p.table) else calls.stays p t d transfer).parts
told_by p t d transfer answer true own is = claim_of p d (free_request p.table) transfer answer own is
told_by p t d transfer answer false own is = absurd (cc is)

stayed_told : (p : DevParts) (t d : ℕ) (transfer : Transfer) (answer : Answer) (start : Option ℕ) → transfer.start ≡ start → IsFree p.table.rows (free_request p.table) →
    (calls.stayed p t d transfer start).outcome ≡ Returned answer → HandsOutOwn p transfer.descriptor answer (calls.stayed p t d transfer start).parts
stayed_told p t d transfer answer (Some place) event free is = absurd (cc is)
stayed_told p t d transfer answer None event free is = told_by p t d transfer answer (has_place p.table d) (accept_own p d (free_request p.table) transfer event free) is

unless_refused : (p : DevParts) (dd : ℕ) (answer : Answer) (error : Option Er) (effect : DevDone) → (error ≡ None → effect.outcome ≡ Returned answer → HandsOutOwn p dd answer effect.parts) →
    (calls.refused_with error p effect).outcome ≡ Returned answer → ((calls.refused_with error p effect).parts ≡ p) ⊎ HandsOutOwn p dd answer (calls.refused_with error p effect).parts
unless_refused p dd answer (Some error) effect works is = inl refl
unless_refused p dd answer None effect works is = inr (works refl is)

free_by : (dv : Devices) → (not (free_request dv == 0)) ≡ true → IsFree dv.rows (free_request dv)
unfolding free_request
free_by dv some = free_row dv.rows some

whole_hands_out : (p : DevParts) (who : Who) (write : Bool) (descriptor start address size : ℤ) (answer : Answer) → (calls.request_whole p who write descriptor start address size).outcome ≡ Returned answer →
    ((calls.request_whole p who write descriptor start address size).parts ≡ p) ⊎ HandsOutOwn p (natural descriptor) answer (calls.request_whole p who write descriptor start address size).parts
unfolding calls.request_whole
whole_hands_out p who write descriptor start address size answer is =
    let checks : List Check = calls.request_checks p who descriptor write start address size (negsuc 0) ((not (calls.any_waits p (natural descriptor)) otherwise er.Obj) ∷ []) in
    let transfer : Transfer = calls.transfer_of descriptor write start address size in
    unless_refused p (natural descriptor) answer (first_error checks) (calls.stayed p (caller who) (calls.device_of p.table (natural descriptor)) transfer (calls.start_of start))
    (λ none back. stayed_told p (caller who) (calls.device_of p.table (natural descriptor)) transfer answer (calls.start_of start) refl (free_by p.table (holds_at 8 checks none)) back) is

pub read_hands_out : (p : DevParts) (who : Who) (descriptor start address size : ℤ) (answer : Answer) → (device_call p who (call.SreaDev descriptor start address size)).outcome ≡ Returned answer →
    ((device_call p who (call.SreaDev descriptor start address size)).parts ≡ p) ⊎ HandsOutOwn p (natural descriptor) answer (device_call p who (call.SreaDev descriptor start address size)).parts
unfolding device_call
read_hands_out p who descriptor start address size answer is = whole_hands_out p who false descriptor start address size answer is

pub write_hands_out : (p : DevParts) (who : Who) (descriptor start address size : ℤ) (answer : Answer) → (device_call p who (call.SwriDev descriptor start address size)).outcome ≡ Returned answer →
    ((device_call p who (call.SwriDev descriptor start address size)).parts ≡ p) ⊎ HandsOutOwn p (natural descriptor) answer (device_call p who (call.SwriDev descriptor start address size)).parts
unfolding device_call
write_hands_out p who descriptor start address size answer is = whole_hands_out p who true descriptor start address size answer is
