-- A script without devices: no descriptor is ever opened and no request is made, so a run of it never needs an ending.
use Rattle.std.proofs.Common.{◌≡◌, ◌≤◌, ℕ, zero, suc, ◌+◌, ◌-◌, Bool, true, false, not, ◌&&◌, ◌||◌, cond, List, [], ◌∷◌, ◌++◌, Option, Some, None, length, refl, sym, ◌∙◌, ap, subst, arith}
use Rattle.std.specs.Prelude.{drop, int_le, map, negsuc, pos, replicate, ℤ, ◌==◌}
use Rattle.std.specs.List.{find}
use Rattle.std.specs.Option.{is_some, option_map}
use Rattle.tk_types.specs.declared.answer.Who.{Who}
use Rattle.tk_types.specs.declared.calls.DeviceCall.{DeviceCall}
use Rattle.tk_types.specs.declared.calls.DeviceCall.TheVariants as call
use Rattle.tk_types.specs.declared.error_code.Er.{Er}
use Rattle.tk_types.specs.declared.error_code.Er.TheVariants as er
use Rattle.tk_types.specs.declared.modes.OpenMode.{OpenMode}
use Rattle.tk_types.specs.declared.modes.SuspendMode.{SuspendMode}
use Rattle.tk_types.specs.declared.run.Mode.{Mode}
use Rattle.tk_types.specs.declared.run.Mode.TheVariants as modes
use Rattle.tk_types.specs.declared.script.Device.{Device}
use Rattle.tk_types.specs.declared.script.Script.{Script}
use Rattle.kernel_model.specs.declared.marks.Mark.TheVariants.{MayWait}
use Rattle.kernel_model.specs.SemFlags.Tables.{serve_sem_flag}
use Rattle.kernel_model.specs.Tasks.Calls.{caller}
use Rattle.kernel_model.specs.Tasks.Marks.{allows}
use Rattle.kernel_model.specs.Words.Checks.{Check, ◌otherwise◌, natural, within}
use Rattle.kernel_model.specs.Words.Orders.{entry, taken_from}
use Rattle.object_model.specs.Mails.Boxes.{serve_mailboxes}
use Rattle.object_model.specs.Mails.Buffers.{serve_buffers}
use Rattle.object_model.specs.Mails.Calls.{is_inside}
use Rattle.object_model.specs.Mutexes.Tables.{serve_mutexes}
use Rattle.object_model.specs.Pools.Fixed.{serve_fixed_pools}
use Rattle.object_model.specs.Pools.Variable.{serve_variable_pools}
use Rattle.object_model.specs.Servings.{first_serving as first_of_ids}
use Rattle.device_model.specs.declared.messages.Ending.{Ending}
use Rattle.device_model.specs.declared.rows.Opened.{Opened}
use Rattle.device_model.specs.Devices.Calls as calls
use Rattle.device_model.specs.Devices.Calls.{DevDone, device_call, device_checked}
use Rattle.device_model.specs.Devices.Endings.{DevParts, arrive, arrive_link}
use Rattle.device_model.specs.Devices.Handing.{any_given, any_queued, emptied, hand_first, hand_over, handed_all, handed_one, handed_unless, link_emptied}
use Rattle.device_model.specs.Devices.Servings as servings
use Rattle.device_model.specs.Devices.Tables.{Devices, Link, device_ids, devices_start, first_queued, free_descriptor, free_request, link_at, link_start, opened_at, with_off, with_open}
use Rattle.device_model.specs.Devices.Requests.{with_table}
use Rattle.device_lemmas.proofs.Walk.{Kept, events_table, suspension_keeps}
use Rattle.machine_model.specs.States.Objects.{Parts, dev_parts, first_serving, mail_parts, pool_parts, serve_object, with_devices, with_mails, with_mutexes, with_pools, with_sem_flags}
use Rattle.machine_model.specs.States.State.{State, parts_of, state_start}
use Rattle.machine_model.specs.Events.Settle as settle
use Rattle.machine_model.specs.Runs.Step.{Ends, Needs, Pace, Went, any_unfinished, counted, ended_or_went, has_event, is_quiet, needed, needed_or, step, step_if}
use Rattle.machine_lemmas.proofs.Walk.{IsKept}

-- there is no device, nothing is opened, and no request waits for a driver
pub record HasNoDevice (dv : Devices) : Type 0 where
  pub links : dv.links ≡ None ∷ []
  pub opened : (dd : ℕ) → opened_at dv dd ≡ None
  pub queued : dv.queued ≡ []

abbrev pub HasNone : Parts → Type 0
HasNone p = HasNoDevice p.objects.devices

-- ---- reading

no_link : (d : ℕ) → entry {A = Link} (None ∷ []) d ≡ None
no_link zero = refl
no_link (suc d) = refl

unlinked : (dv : Devices) (d : ℕ) → HasNoDevice dv → link_at dv d ≡ None
unlinked dv d none = ap (λ links. entry links d) none.links ∙ no_link d

pub nothing_given : (dv : Devices) → HasNoDevice dv → any_given dv ≡ false
nothing_given dv none = rw none.links refl

pub nothing_queued : (dv : Devices) → HasNoDevice dv → any_queued dv ≡ false
nothing_queued dv none = rw none.queued refl

nobody : (dv : Devices) → HasNoDevice dv → device_ids dv ≡ []
nobody dv none = rw none.links refl

-- what changes neither devices nor descriptors nor what queues
same_none : (dv now : Devices) → now.links ≡ dv.links → now.opened ≡ dv.opened → now.queued ≡ dv.queued → HasNoDevice dv → HasNoDevice now
same_none dv now links opened queued none = record {
  links = links ∙ none.links;
  opened = λ dd. ap (λ slots. entry slots dd) opened ∙ none.opened dd;
  queued = queued ∙ none.queued;
}

-- ---- calls

passed_by : (holds : Bool) (error : Er) (rest : List Check) (p : DevParts) (effect : DevDone) → (device_checked rest p effect).parts ≡ p → (device_checked ((holds otherwise error) ∷ rest) p effect).parts ≡ p
passed_by true error rest p effect later = later
passed_by false error rest p effect later = refl

fails_here : (test : Bool) (error : Er) (rest : List Check) (p : DevParts) (effect : DevDone) → test ≡ false → (device_checked ((test otherwise error) ∷ rest) p effect).parts ≡ p
fails_here true error rest p effect fails = absurd (cc fails)
fails_here false error rest p effect fails = refl

-- a check that fails refuses the call, whatever stands before and behind it
refused_by : (front : List Check) (test : Bool) (error : Er) (rest : List Check) (p : DevParts) (effect : DevDone) → test ≡ false → (device_checked (front ++ (test otherwise error) ∷ rest) p effect).parts ≡ p
refused_by [] test error rest p effect fails = fails_here test error rest p effect fails
refused_by (check ∷ front) test error rest p effect fails = passed_by check.holds check.error (front ++ (test otherwise error) ∷ rest) p effect (refused_by front test error rest p effect fails)

refused_none : (p : DevParts) (done : DevDone) → done.parts ≡ p → HasNoDevice p.table → HasNoDevice done.parts.table
refused_none p done is none = subst (λ (q : DevParts). HasNoDevice q.table) (sym is) none

closed_to_all : (dv : Devices) (dd : ℕ) → HasNoDevice dv → calls.is_open dv dd ≡ false
closed_to_all dv dd none = ap calls.stays_open (none.opened dd)

not_there : (dv : Devices) (d : ℕ) → HasNoDevice dv → is_some (link_at dv d) ≡ false
not_there dv d none = ap is_some (unlinked dv d none)

opens_none : (p : DevParts) (d : ℕ) (mode : OpenMode) → HasNoDevice p.table → HasNoDevice (calls.open_device p d mode).parts.table
unfolding calls.open_device
opens_none p d mode none =
    let rest : List Check = (not (calls.is_busy p.table d mode) otherwise er.Busy) ∷ (not (free_descriptor p.table == 0) otherwise er.Limit) ∷ [] in
    let effect : DevDone = calls.answers (with_table p (with_open p.table (free_descriptor p.table) (calls.opened_for d mode))) (pos (free_descriptor p.table)) in
    refused_none p (device_checked (calls.open_checks p.table d mode) p effect)
    (refused_by ((calls.is_open_mode mode otherwise er.Par) ∷ []) (is_some (link_at p.table d)) er.NoExs rest p effect (not_there p.table d none)) none

refers_none : (p : DevParts) (d : ℕ) → HasNoDevice p.table → HasNoDevice (calls.refer_device p d).parts.table
unfolding calls.refer_device
refers_none p d none =
    let effect : DevDone = calls.answers p (pos d) in
    refused_none p (device_checked ((is_some (link_at p.table d) otherwise er.NoExs) ∷ []) p effect) (refused_by [] (is_some (link_at p.table d)) er.NoExs [] p effect (not_there p.table d none)) none

-- the checks of a request before that of its descriptor
abbrev number_checks : DevParts → Who → ℤ → ℤ → ℤ → ℤ → ℤ → List Check
number_checks p who descriptor start address size timeout =
    (within 1 32 descriptor otherwise er.Id)
    ∷ (int_le (negsuc 0) start otherwise er.Par)
    ∷ (is_inside address size otherwise er.Par)
    ∷ (int_le (negsuc 0) timeout otherwise er.Par)
    ∷ (allows p.base.flags who MayWait otherwise er.Ctx)
    ∷ []

asked_none : (p : DevParts) (who : Who) (write : Bool) (descriptor start address size timeout : ℤ) (own : List Check) (effect : DevDone) → HasNoDevice p.table →
    HasNoDevice (device_checked (calls.request_checks p who descriptor write start address size timeout own) p effect).parts.table
asked_none p who write descriptor start address size timeout own effect none =
    let rest : List Check = (calls.permits p.table (natural descriptor) write otherwise er.OaCv) ∷ (own ++ (not (free_request p.table == 0) otherwise er.Limit) ∷ []) in
    refused_none p (device_checked (calls.request_checks p who descriptor write start address size timeout own) p effect)
    (refused_by (number_checks p who descriptor start address size timeout) (calls.is_open p.table (natural descriptor)) er.Id rest p effect (closed_to_all p.table (natural descriptor) none)) none

requests_none : (p : DevParts) (who : Who) (write : Bool) (descriptor start address size timeout : ℤ) → HasNoDevice p.table → HasNoDevice (calls.request p who write descriptor start address size timeout).parts.table
unfolding calls.request
requests_none p who write descriptor start address size timeout none =
    asked_none p who write descriptor start address size timeout []
    (calls.requested p (caller who) (calls.device_of p.table (natural descriptor)) (calls.transfer_of descriptor write start address size) timeout) none

wholes_none : (p : DevParts) (who : Who) (write : Bool) (descriptor start address size : ℤ) → HasNoDevice p.table → HasNoDevice (calls.request_whole p who write descriptor start address size).parts.table
unfolding calls.request_whole
wholes_none p who write descriptor start address size none =
    asked_none p who write descriptor start address size (negsuc 0) ((not (calls.any_waits p (natural descriptor)) otherwise er.Obj) ∷ [])
    (calls.stayed p (caller who) (calls.device_of p.table (natural descriptor)) (calls.transfer_of descriptor write start address size) (calls.start_of start)) none

waits_none : (p : DevParts) (who : Who) (descriptor id timeout : ℤ) → HasNoDevice p.table → HasNoDevice (calls.wait_ending p who descriptor id timeout).parts.table
unfolding calls.wait_ending
waits_none p who descriptor id timeout none =
    let front : List Check = (within 1 32 descriptor otherwise er.Id) ∷ (within 0 64 id otherwise er.Id) ∷ (int_le (negsuc 0) timeout otherwise er.Par) ∷ (allows p.base.flags who MayWait otherwise er.Ctx) ∷ [] in
    let rest : List Check =
    (calls.names_request p.table (natural descriptor) (natural id) otherwise er.Id)
    ∷ (not (natural id == 0) || calls.has_request p.table (natural descriptor) otherwise er.NoExs)
    ∷ (not (calls.one_waits p (natural descriptor) (natural id)) otherwise er.Obj)
    ∷ (not (calls.any_waits p (natural descriptor)) otherwise er.Obj)
    ∷ (not (natural id == 0 && calls.somebody_waits p (natural descriptor)) otherwise er.Obj)
    ∷ []
    in
    let effect : DevDone = calls.waited p (caller who) (natural descriptor) timeout (calls.ending_wish p.table (natural id)) in
    refused_none p (device_checked (calls.wait_checks p who descriptor id timeout) p effect)
    (refused_by front (calls.is_open p.table (natural descriptor)) er.Id rest p effect (closed_to_all p.table (natural descriptor) none)) none

closes_none : (p : DevParts) (who : Who) (descriptor : ℤ) → HasNoDevice p.table → HasNoDevice (calls.close_device p who descriptor).parts.table
unfolding calls.close_device
closes_none p who descriptor none =
    let effect : DevDone = calls.closed_or_begun (servings.is_with_driver p.table (natural descriptor)) (calls.without_requests p (natural descriptor)) (caller who) (natural descriptor) in
    refused_none p (device_checked (calls.close_checks p who descriptor) p effect)
    (refused_by ((within 1 32 descriptor otherwise er.Id) ∷ (allows p.base.flags who MayWait otherwise er.Ctx) ∷ []) (calls.is_open p.table (natural descriptor)) er.Id [] p effect
    (closed_to_all p.table (natural descriptor) none)) none

-- the calls on suspensions change how often they are disabled alone
counts_none : (p : DevParts) (off : ℕ) → HasNoDevice p.table → HasNoDevice (calls.counted p off).parts.table
counts_none p off none = same_none p.table (with_off p.table off) refl refl refl none

suspended_none : (given : Bool) (p : DevParts) (t : ℕ) → HasNoDevice p.table → HasNoDevice (calls.suspended given p t).parts.table
suspended_none false p t none = subst HasNoDevice (sym (events_table p)) none
suspended_none true p t none = none

effect_none : (suspends disables enables : Bool) (given : Bool) (p : DevParts) (t : ℕ) → HasNoDevice p.table →
    HasNoDevice (cond suspends (calls.suspended given p t) (cond disables (calls.counted p (p.table.off + 1)) (cond enables (calls.counted p (p.table.off - 1)) (calls.counted p p.table.off)))).parts.table
effect_none true disables enables given p t none = suspended_none given p t none
effect_none false true enables given p t none = counts_none p (p.table.off + 1) none
effect_none false false true given p t none = counts_none p (p.table.off - 1) none
effect_none false false false given p t none = counts_none p p.table.off none

checked_none : (error : Option Er) (p : DevParts) (effect : DevDone) → HasNoDevice p.table → HasNoDevice effect.parts.table → HasNoDevice (calls.refused_with error p effect).parts.table
checked_none (Some error) p effect none after = none
checked_none None p effect none after = after

suspends_none : (p : DevParts) (who : Who) (mode : SuspendMode) → HasNoDevice p.table → HasNoDevice (calls.suspend_devices p who mode).parts.table
unfolding calls.suspend_devices
suspends_none p who mode none =
    checked_none _ p (calls.suspend_effect p (caller who) mode) none (effect_none mode.td_suspend mode.td_dissus mode.td_enasus (any_given p.table) p (caller who) none)

called_none : (p : DevParts) (who : Who) (c : DeviceCall) → HasNoDevice p.table → HasNoDevice (device_call p who c).parts.table
unfolding device_call
called_none p who (call.OpnDev device mode) none = opens_none p device mode none
called_none p who (call.ReaDev descriptor start address size timeout) none = requests_none p who false descriptor start address size timeout none
called_none p who (call.WriDev descriptor start address size timeout) none = requests_none p who true descriptor start address size timeout none
called_none p who (call.SreaDev descriptor start address size) none = wholes_none p who false descriptor start address size none
called_none p who (call.SwriDev descriptor start address size) none = wholes_none p who true descriptor start address size none
called_none p who (call.WaiDev descriptor id timeout) none = waits_none p who descriptor id timeout none
called_none p who (call.ClsDev descriptor) none = closes_none p who descriptor none
called_none p who (call.SusDev mode) none = suspends_none p who mode none
called_none p who (call.RefDev device) none = refers_none p device none

-- ---- servings

none_taken : (id : ℕ) (slots : List (Option Opened)) → ((dd : ℕ) → entry slots dd ≡ None) → taken_from id slots ≡ []
none_taken id [] none = refl
none_taken id (None ∷ slots) none = none_taken (id + 1) slots (λ dd. none (suc dd))
none_taken id (Some opened ∷ slots) none = absurd (cc (none 0))

behind_none : (slots : List (Option Opened)) → ((dd : ℕ) → entry slots dd ≡ None) → (dd : ℕ) → entry (drop 1 slots) dd ≡ None
behind_none [] none dd = none dd
behind_none (slot ∷ slots) none dd = none (suc dd)

no_descriptor : (dv : Devices) → HasNoDevice dv → servings.descriptors dv ≡ []
no_descriptor dv none = none_taken 1 (drop 1 dv.opened) (behind_none dv.opened none.opened)

none_first : {A : Type 0} → (serve : ℕ → Option A) (ids : List ℕ) → ids ≡ [] → first_of_ids serve ids ≡ None
unfolding first_of_ids
none_first serve ids is = rw is refl

none_accepted : (p : DevParts) → HasNoDevice p.table → servings.serve_acceptances p ≡ None
unfolding servings.serve_acceptances
none_accepted p none = none_first (servings.serve_acceptance p) (device_ids p.table) (nobody p.table none)

none_ended : (p : DevParts) → HasNoDevice p.table → servings.serve_endings p ≡ None
unfolding servings.serve_endings
none_ended p none = none_first (servings.serve_ending p) (servings.descriptors p.table) (no_descriptor p.table none)

none_closed : (p : DevParts) → HasNoDevice p.table → servings.serve_closes p ≡ None
unfolding servings.serve_closes
none_closed p none = none_first (servings.serve_close p) (servings.descriptors p.table) (no_descriptor p.table none)

abbrev IfNone : Option Parts → Type 0
IfNone None = Unit {0}
IfNone (Some q) = HasNone q

mapped_none : {A : Type 0} → (put : A → Parts) (served : Option A) → ((left : A) → HasNone (put left)) → IfNone (option_map put served)
mapped_none put None each = tt
mapped_none put (Some left) each = each left

unserved_none : (p : Parts) (served : Option DevParts) → served ≡ None → IfNone (option_map (with_devices p) served)
unserved_none p None is = tt
unserved_none p (Some q) is = absurd (cc is)

suspension_none : (p : Parts) (served : Option DevParts) → Kept HasNoDevice served → IfNone (option_map (with_devices p) served)
suspension_none p None kept = tt
suspension_none p (Some q) kept = kept

either_none : (here next : Option Parts) → IfNone here → IfNone next → IfNone (elim here as (λ _. Option Parts) [ Some served ↦ Some served | None ↦ next ])
either_none (Some served) next first later = first
either_none None next first later = later

serving_none : (p : Parts) → HasNone p → IfNone (serve_object p)
unfolding serve_object first_serving
serving_none p none =
    either_none _ _ (mapped_none (with_sem_flags p) (serve_sem_flag p.base p.objects.sem_flags) (λ left. none))
    (either_none _ _ (mapped_none (with_mails p) (serve_mailboxes (mail_parts p)) (λ left. none))
    (either_none _ _ (mapped_none (with_mutexes p) (serve_mutexes p.base p.objects.mutexes) (λ left. none))
    (either_none _ _ (mapped_none (with_mails p) (serve_buffers (mail_parts p)) (λ left. none))
    (either_none _ _ (mapped_none (with_pools p) (serve_fixed_pools (pool_parts p)) (λ left. none))
    (either_none _ _ (mapped_none (with_pools p) (serve_variable_pools (pool_parts p)) (λ left. none))
    (either_none _ _ (unserved_none p _ (none_accepted (dev_parts p) none))
    (either_none _ _ (unserved_none p _ (none_ended (dev_parts p) none))
    (either_none _ _ (unserved_none p _ (none_closed (dev_parts p) none))
    (either_none _ None (suspension_none p _ (suspension_keeps HasNoDevice (dev_parts p) none)) tt)))))))))

served_none : (q : Parts) (served : Option Parts) → served ≡ Some q → IfNone served → HasNone q
served_none q None is none = absurd (cc is)
served_none q (Some left) is none = let e : left ≡ q = cc is in subst HasNone e none

-- ---- requests that go to drivers, endings and messages

handed_over_none : (waiters : List ℕ) (dv : Devices) → HasNoDevice dv → handed_unless waiters dv ≡ dv
handed_over_none [] dv none = ap (λ ids. handed_all ids dv) (nobody dv none)
handed_over_none (t ∷ ts) dv none = refl

handing_none : (mode : Mode) (p : Parts) → HasNone p → HasNone (settle.handed mode p)
unfolding hand_over
handing_none modes.Sync p none = none
handing_none modes.Free p none = subst HasNoDevice (sym (handed_over_none _ p.objects.devices none)) none

first_handed_none : (dv : Devices) → HasNoDevice dv → HasNoDevice (hand_first dv)
unfolding hand_first
first_handed_none dv none = subst HasNoDevice (sym (ap (λ ids. handed_one (find (λ d. is_some (first_queued dv d)) ids) dv) (nobody dv none))) none

arrives_none : (p : DevParts) (e : Ending) (q : DevParts) → arrive p e ≡ Some q → HasNoDevice p.table → HasNoDevice q.table
unfolding arrive
arrives_none p e q is none = let never : arrive_link p e None ≡ Some q = ap (arrive_link p e) (sym (unlinked p.table e.device none)) ∙ is in absurd (cc never)

emptied_none : (dv : Devices) → HasNoDevice dv → HasNoDevice (emptied dv)
unfolding emptied
emptied_none dv none = record { links = ap (map link_emptied) none.links; opened = none.opened; queued = none.queued }

pub none_is_kept : IsKept HasNone
none_is_kept = record {
  few = λ p none. subst (λ (links : List (Option Link)). length links ≤ 9) (sym none.links) (omega arith);
  task_calls = λ p who c none. none;
  sem_flag_calls = λ p who c none. none;
  mutex_calls = λ p who c none. none;
  mail_calls = λ p who c none. none;
  pool_calls = λ p who c none. none;
  time_calls = λ p c none. none;
  context_calls = λ p who c none. none;
  device_calls = λ p who c none. called_none (dev_parts p) who c none;
  left = λ p t all none. none;
  freed = λ p t m is none. none;
  deleted = λ p t none. none;
  refreshed = λ p t priority none. none;
  served = λ p q few is none. served_none q (serve_object p) is (serving_none p none);
  handed = handing_none;
  handed_first = λ p none. first_handed_none p.objects.devices none;
  arrived = λ p e q is none. arrives_none (dev_parts p) e q is none;
  released = λ p t answer none. none;
  again = λ p what none. none;
  taken = λ p none. none;
  advanced = λ p none. none;
  flagged = λ p flags none. none;
  turned = λ p cur none. none;
  emptied = λ p none. none;
  written = λ p memory none. none;
  messages = λ p none. emptied_none p.objects.devices none;
}

-- ---- the start, and each step

none_opened : (n dd : ℕ) → entry (replicate {A = Option Opened} n None) dd ≡ None
none_opened zero dd = refl
none_opened (suc n) zero = refl
none_opened (suc n) (suc dd) = none_opened n dd

pub start_none : (script : Script) → script.devices ≡ [] → HasNone (parts_of (state_start script))
unfolding state_start devices_start
start_none script none = record {
  links = ap {A = List Device} (λ list. None ∷ map link_start list) none;
  opened = none_opened 33;
  queued = refl;
}

unneeded : (mode : Mode) (event : Bool) (st : State) → HasNone (parts_of st) → needed mode event st ≡ None
unneeded modes.Sync event st none = rw (nothing_given st.objects.devices none, nothing_queued st.objects.devices none) refl
unneeded modes.Free true st none = refl
unneeded modes.Free false st none = rw (nothing_given st.objects.devices none) refl

-- what comes of a step that needs no ending
abbrev pub NeedsNone : Pace → Type 0
NeedsNone (Needs waiting) = ⊥
NeedsNone (Went event over) = Unit {0}
NeedsNone Ends = Unit {0}

goes_or_ends : (test : Bool) (script : Script) (mode : Mode) (budget : ℕ) (st : State) → NeedsNone (ended_or_went test script mode budget st)
unfolding counted
goes_or_ends true script mode budget st = tt
goes_or_ends false script mode budget st = tt

quiet_or_not : (quiet event : Bool) (script : Script) (mode : Mode) (budget : ℕ) (st : State) → HasNone (parts_of st) → NeedsNone (cond quiet (needed_or (needed mode event st) event script mode budget st) (ended_or_went false script mode budget st))
quiet_or_not true event script mode budget st none =
    subst (λ (waiting : Option State). NeedsNone (needed_or waiting event script mode budget st)) (sym (unneeded mode event st none)) (goes_or_ends (not event && not (any_unfinished st.objects.devices)) script mode budget st)
quiet_or_not false event script mode budget st none = goes_or_ends false script mode budget st

by_quiet : (quiet : Bool) (script : Script) (mode : Mode) (budget : ℕ) (st : State) → HasNone (parts_of st) → NeedsNone (step_if quiet script mode budget st)
by_quiet true script mode budget st none = quiet_or_not true (has_event script (st.steps + 1) st) script mode budget st none
by_quiet false script mode budget st none = goes_or_ends false script mode budget st

-- where there is no device no step needs an ending
pub never_needs : (script : Script) (mode : Mode) (budget : ℕ) (st : State) → HasNone (parts_of st) → NeedsNone (step script mode budget st)
unfolding step
never_needs script mode budget st none = by_quiet (is_quiet st) script mode budget st none
