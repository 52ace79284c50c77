-- While no driver has a request, calls and servings leave all that the kernel keeps of drivers as it is: an abort is asked of a
-- request that is with a driver alone. So in sync mode a step leaves it, and so does what follows an ending.
use Rattle.std.proofs.Common.{◌≡◌, ℕ, zero, suc, ◌≤◌, length, Bool, true, false, ◌||◌, List, [], ◌∷◌, Option, Some, None, ℤ, pos, refl, ap, sym, subst, ◌∙◌}
use Rattle.std.specs.Prelude.{drop, fold, if◌then◌else◌}
use Rattle.std.specs.List.{list_any}
use Rattle.std.specs.Option.{is_some}
use Rattle.std.specs.Ordering.{int_eq}
use Rattle.tk_types.specs.declared.answer.Who.{Who}
use Rattle.tk_types.specs.declared.calls.DeviceCall.{DeviceCall}
use Rattle.tk_types.specs.declared.calls.DeviceCall.TheVariants as call
use Rattle.tk_types.specs.declared.error_code.Er.{Er}
use Rattle.tk_types.specs.declared.error_code.Er.TheVariants as er
use Rattle.tk_types.specs.declared.modes.OpenMode.{OpenMode}
use Rattle.tk_types.specs.declared.modes.SuspendMode.{SuspendMode}
use Rattle.tk_types.specs.declared.run.Mode.TheVariants as modes
use Rattle.tk_types.specs.declared.script.Script.{Script}
use Rattle.kernel_model.specs.Words.Orders.{entry, taken_from}
use Rattle.kernel_model.specs.Tasks.Calls.{caller}
use Rattle.kernel_model.specs.Words.Checks.{◌otherwise◌, first_error, natural}
use Rattle.device_model.specs.declared.rows.Transfer.{Transfer}
use Rattle.device_model.specs.declared.rows.Wish.{Wish}
use Rattle.device_model.specs.declared.rows.Wish.TheVariants as wish
use Rattle.device_model.specs.Devices.Calls as calls
use Rattle.device_model.specs.Devices.Calls.{DevDone, device_call}
use Rattle.device_model.specs.Devices.Endings.{DevParts}
use Rattle.device_model.specs.Devices.Handing.{any_given, has_given}
use Rattle.device_model.specs.Devices.Requests as requests
use Rattle.device_model.specs.Devices.Servings as servings
use Rattle.device_model.specs.Devices.Tables.{Devices, Given, Link, asked, asked_given, asked_link, free_request, given_in, link_at, with_wish}
use Rattle.device_lemmas.proofs.Walk.{events_table}
use Rattle.machine_model.specs.States.Objects.{Parts, serve_object}
use Rattle.machine_model.specs.States.State.{State}
use Rattle.machine_model.specs.Events.Follow.{followed}
use Rattle.machine_model.specs.Runs.Step.{worked}
use Rattle.machine_lemmas.proofs.DeviceServings.{accept_leaves, dropped_links}
use Rattle.machine_lemmas.proofs.Servings.{serving}
use Rattle.way_lemmas.proofs.SyncWalk.{IsSyncProof, OfParts, sync_followed, sync_worked}

-- ---- no driver has a request

none_is : (given : Option Given) → is_some given ≡ false → given ≡ None
none_is None is = refl
none_is (Some given) is = absurd (cc is)

first_false : (one other : Bool) → (one || other) ≡ false → one ≡ false
first_false true other is = absurd (cc is)
first_false false other is = refl

second_false : (one other : Bool) → (one || other) ≡ false → other ≡ false
second_false true other is = absurd (cc is)
second_false false other is = is

none_in : (links : List (Option Link)) (d : ℕ) → list_any has_given links ≡ false → given_in (entry links d) ≡ None
none_in [] d is = refl
none_in (slot ∷ links) zero is = none_is (given_in slot) (first_false (has_given slot) (list_any has_given links) is)
none_in (slot ∷ links) (suc d) is = none_in links d (second_false (has_given slot) (list_any has_given links) is)

pub none_given : (dv : Devices) (d : ℕ) → any_given dv ≡ false → given_in (link_at dv d) ≡ None
none_given dv d is = none_in dv.links d is

none_asked : (dv : Devices) (d : ℕ) (slot : Option Link) → given_in slot ≡ None → asked_link dv d slot ≡ dv
none_asked dv d None none = refl
none_asked dv d (Some link) none = ap (asked_given dv d link) none

-- so no abort is asked
asked_same : (dv : Devices) (d : ℕ) → any_given dv ≡ false → asked dv d ≡ dv
unfolding asked
asked_same dv d none = none_asked dv d (link_at dv d) (none_given dv d none)

-- ---- calls

-- a call leaves the links
record Same (p : DevParts) (done : DevDone) : Type 0 where
  links : done.parts.table.links ≡ p.table.links

refused_same : (error : Option Er) (p : DevParts) (effect : DevDone) → Same p effect → Same p (calls.refused_with error p effect)
refused_same (Some error) p effect same = record { links = refl }
refused_same None p effect same = same

either_same : (p : DevParts) (test : Bool) (one other : DevDone) → Same p one → Same p other → Same p (if test then one else other)
either_same p true one other first second = first
either_same p false one other first second = second

ends_or_waits : (p : DevParts) (t object : ℕ) (timeout : ℤ) (asked_for : Wish) → Same p (calls.waits_or_ends p t object timeout (with_wish p.table t asked_for))
ends_or_waits p t object timeout asked_for = either_same p (int_eq timeout (pos 0)) _ _ (record { links = refl }) (record { links = refl })

request_same : (p : DevParts) (who : Who) (write : Bool) (descriptor start address size timeout : ℤ) → Same p (calls.request p who write descriptor start address size timeout)
unfolding calls.request
request_same p who write descriptor start address size timeout =
    let d : ℕ = calls.device_of p.table (natural descriptor) in
    let transfer : Transfer = calls.transfer_of descriptor write start address size in
    refused_same (first_error (calls.request_checks p who descriptor write start address size timeout [])) p _
    (either_same p (requests.has_place p.table d) _ _ (record { links = (accept_leaves p d (free_request p.table) transfer).links })
    (ends_or_waits p (caller who) (requests.acceptance_object d) timeout (wish.Acceptance transfer false)))

stayed_same : (p : DevParts) (t d : ℕ) (transfer : Transfer) (start : Option ℕ) → Same p (calls.stayed p t d transfer start)
stayed_same p t d transfer (Some start) = record { links = refl }
stayed_same p t d transfer None =
    either_same p (requests.has_place p.table d) _ _
    (record { links = dropped_links (requests.accept p d (free_request p.table) transfer).table (free_request p.table) ∙ (accept_leaves p d (free_request p.table) transfer).links })
    (record { links = refl })

whole_same : (p : DevParts) (who : Who) (write : Bool) (descriptor start address size : ℤ) → Same p (calls.request_whole p who write descriptor start address size)
unfolding calls.request_whole
whole_same p who write descriptor start address size =
    let d : ℕ = calls.device_of p.table (natural descriptor) in
    let transfer : Transfer = calls.transfer_of descriptor write start address size in
    refused_same _ p _ (stayed_same p (caller who) d transfer (calls.start_of start))

waited_same : (p : DevParts) (t dd : ℕ) (timeout : ℤ) (asked_for : Wish) (picked : Option ℕ) → Same p (calls.ending_waited p t dd timeout asked_for picked)
waited_same p t dd timeout asked_for (Some id) = record { links = dropped_links p.table id }
waited_same p t dd timeout asked_for None = ends_or_waits p t (requests.ending_object dd) timeout asked_for

wait_same : (p : DevParts) (who : Who) (descriptor id timeout : ℤ) → Same p (calls.wait_ending p who descriptor id timeout)
unfolding calls.wait_ending
wait_same p who descriptor id timeout =
    let asked_for : Wish = calls.ending_wish p.table (natural id) in
    refused_same (first_error (calls.wait_checks p who descriptor id timeout)) p _
    (waited_same p (caller who) (natural descriptor) timeout asked_for (requests.picked p.table (natural descriptor) asked_for))

if_dropped : (dv now : Devices) (test : Bool) → now.links ≡ dv.links → (if test then now else dv).links ≡ dv.links
if_dropped dv now true same = same
if_dropped dv now false same = refl

all_dropped : (dd : ℕ) (ids : List ℕ) (dv : Devices) → (fold (calls.dropped_if dd) dv ids).links ≡ dv.links
all_dropped dd [] dv = refl
all_dropped dd (id ∷ ids) dv = all_dropped dd ids (calls.dropped_if dd dv id) ∙ if_dropped dv _ _ (dropped_links dv id)

closed_same : (begun : Bool) (p q : DevParts) (t dd : ℕ) → any_given p.table ≡ false → q.table.links ≡ p.table.links → Same p (calls.closed_or_begun begun q t dd)
closed_same false p q t dd none same = record { links = same }
closed_same true p q t dd none same = record {
  links = ap (λ (dv : Devices). dv.links) (asked_same _ (calls.device_of q.table dd) (ap (λ (links : List (Option Link)). list_any has_given links) same ∙ none)) ∙ same;
}

close_same : (p : DevParts) (who : Who) (descriptor : ℤ) → any_given p.table ≡ false → Same p (calls.close_device p who descriptor)
unfolding calls.close_device
close_same p who descriptor none =
    let dd : ℕ = natural descriptor in
    refused_same (first_error (calls.close_checks p who descriptor)) p _
    (closed_same (servings.is_with_driver p.table dd) p (calls.without_requests p dd) (caller who) dd none (all_dropped dd (taken_from 1 (drop 1 p.table.rows)) p.table))

suspended_same : (given : Bool) (p : DevParts) (t : ℕ) → Same p (calls.suspended given p t)
suspended_same false p t = record { links = ap (λ (dv : Devices). dv.links) (events_table p) }
suspended_same true p t = record { links = refl }

effect_same : (p : DevParts) (t : ℕ) (mode : SuspendMode) → Same p (calls.suspend_effect p t mode)
effect_same p t mode =
    either_same p mode.td_suspend _ _ (suspended_same (any_given p.table) p t)
    (either_same p mode.td_dissus _ _ (record { links = refl })
    (either_same p mode.td_enasus _ _ (record { links = refl }) (record { links = refl })))

suspend_same : (p : DevParts) (who : Who) (mode : SuspendMode) → Same p (calls.suspend_devices p who mode)
unfolding calls.suspend_devices
suspend_same p who mode = refused_same (first_error (calls.suspend_checks p who mode)) p _ (effect_same p (caller who) mode)

open_same : (p : DevParts) (d : ℕ) (mode : OpenMode) → Same p (calls.open_device p d mode)
unfolding calls.open_device
open_same p d mode = refused_same (first_error (calls.open_checks p.table d mode)) p _ (record { links = refl })

refer_same : (p : DevParts) (d : ℕ) → Same p (calls.refer_device p d)
unfolding calls.refer_device
refer_same p d = refused_same (first_error ((is_some (link_at p.table d) otherwise er.NoExs) ∷ [])) p (calls.answers p (pos d)) (record { links = refl })

call_same : (p : DevParts) (who : Who) (c : DeviceCall) → any_given p.table ≡ false → Same p (device_call p who c)
unfolding device_call
call_same p who (call.OpnDev device mode) none = open_same p device mode
call_same p who (call.ReaDev descriptor start address size timeout) none = request_same p who false descriptor start address size timeout
call_same p who (call.WriDev descriptor start address size timeout) none = request_same p who true descriptor start address size timeout
call_same p who (call.SreaDev descriptor start address size) none = whole_same p who false descriptor start address size
call_same p who (call.SwriDev descriptor start address size) none = whole_same p who true descriptor start address size
call_same p who (call.WaiDev descriptor id timeout) none = wait_same p who descriptor id timeout
call_same p who (call.ClsDev descriptor) none = close_same p who descriptor none
call_same p who (call.SusDev mode) none = suspend_same p who mode
call_same p who (call.RefDev device) none = refer_same p device

-- ---- sync mode

-- the links are these
abbrev pub HasLinks : List (Option Link) → Devices → Type 0
HasLinks links dv = dv.links ≡ links

served_same : (links : List (Option Link)) (p : Parts) (found : Option Parts) → length links ≤ 9 → serve_object p ≡ found → p.objects.devices.links ≡ links → OfParts (HasLinks links) found
served_same links p None few is same = tt
served_same links p (Some q) few is same = (serving p q (subst (λ (it : List (Option Link)). length it ≤ 9) (sym same) few) is).links ∙ same

links_stay : (links : List (Option Link)) → length links ≤ 9 → list_any has_given links ≡ false → IsSyncProof (HasLinks links)
links_stay links few none = record {
  calls = λ p who c same. (call_same p who c (ap (λ (it : List (Option Link)). list_any has_given it) same ∙ none)).links ∙ same;
  serves = λ p same. served_same links p (serve_object p) few refl same;
}

-- what is done at a step, with all that follows it, leaves the links while no driver has a request
pub worked_links : (script : Script) (n : ℕ) (st : State) → length st.objects.devices.links ≤ 9 → any_given st.objects.devices ≡ false →
    (worked script modes.Sync n st).state.objects.devices.links ≡ st.objects.devices.links
worked_links script n st few none = sync_worked (HasLinks st.objects.devices.links) (links_stay st.objects.devices.links few none) script n st refl

-- and so does all that follows an ending
pub followed_links : (script : Script) (n : ℕ) (st : State) → length st.objects.devices.links ≤ 9 → any_given st.objects.devices ≡ false →
    (followed script modes.Sync n st).state.objects.devices.links ≡ st.objects.devices.links
followed_links script n st few none = sync_followed (HasLinks st.objects.devices.links) (links_stay st.objects.devices.links few none) script n st refl
