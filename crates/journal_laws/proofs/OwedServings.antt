-- How many endings may still come, through servings and settling: no more than before. A request that is accepted takes the place
-- of the wait for that.
use Rattle.std.proofs.Common.{◌≡◌, ℕ, zero, suc, ◌+◌, ◌≤◌, Bool, true, false, List, [], ◌∷◌, Option, Some, None, pos, refl, ◌∙◌, ap, subst, arith}
use Rattle.std.specs.List.{find}
use Rattle.std.specs.Option.{is_some, option_map, option_or}
use Rattle.tk_types.specs.declared.answer.Answer.{Answer}
use Rattle.tk_types.specs.declared.error_code.Er.TheVariants as er
use Rattle.tk_types.specs.declared.run.Mode.{Mode}
use Rattle.tk_types.specs.declared.run.Mode.TheVariants as modes
use Rattle.tk_types.specs.declared.task.Order.TheVariants.{Fifo}
use Rattle.tk_types.specs.declared.task.Phase.{Phase}
use Rattle.tk_types.specs.declared.task.Phase.TheVariants.{Dormant, Ready, Waiting}
use Rattle.tk_types.specs.declared.task.Task.{Task}
use Rattle.tk_types.specs.Codes.{code_of}
use Rattle.kernel_model.specs.Words.Checks.{plain}
use Rattle.kernel_model.specs.Tasks.Base.{Base, fifo_queue, is_waiting, is_waiting_phase, set_current, release, task_at, waiting_in, waits_in, waits_somewhere}
use Rattle.kernel_model.specs.SemFlags.Tables.{serve_sem_flag}
use Rattle.object_model.specs.Servings.{first_serving as first_of}
use Rattle.object_model.specs.Mutexes.Tables.{Mutexes, free_last, serve_mutexes}
use Rattle.object_model.specs.Mails.Boxes.{serve_mailboxes}
use Rattle.object_model.specs.Mails.Buffers.{serve_buffers}
use Rattle.object_model.specs.Pools.Fixed.{serve_fixed_pools}
use Rattle.object_model.specs.Pools.Variable.{serve_variable_pools}
use Rattle.device_model.specs.declared.messages.Ending.{Ending}
use Rattle.device_model.specs.declared.rows.Transfer.{Transfer}
use Rattle.device_model.specs.declared.rows.Wish.{Wish}
use Rattle.device_model.specs.declared.rows.Wish.TheVariants as wish
use Rattle.device_model.specs.Devices.Tables.{Devices, device_ids, dropped, free_request, wish_of}
use Rattle.device_model.specs.Devices.Handing.{any_given, hand_first, hand_over, suspension_object}
use Rattle.device_model.specs.Devices.Endings.{DevParts, arrive, close_object}
use Rattle.device_model.specs.Devices.Requests.{accept, acceptance_object, claimed, ending_object, has_place, is_own, picked}
use Rattle.device_model.specs.Devices.Servings as servings
use Rattle.device_model.specs.Devices.Servings.{descriptors, serve_acceptance, serve_acceptances, serve_close, serve_closes, serve_ending, serve_endings, serve_suspension}
use Rattle.machine_model.specs.States.Objects.{Parts, dev_parts, first_serving, mail_parts, pool_parts, serve_object, with_devices, with_mails, with_mutexes, with_pools, with_sem_flags}
use Rattle.machine_model.specs.Events.Settle.{freed_within, handed, refreshed, served_within, settle, with_freed}
use Rattle.machine_lemmas.proofs.Changes.{IsEnding, no_moves}
use Rattle.machine_lemmas.proofs.DeviceServings.{accept_leaves}
use Rattle.machine_lemmas.proofs.Finding.{first_waits}
use Rattle.machine_lemmas.proofs.ObjectServings.{boxes_serving, buffers_serving, fixed_pools_serving, mutexes_serving, sem_flag_serving, variable_pools_serving}
use Rattle.machine_lemmas.proofs.Settling.{next_served, refreshed_keeps}
use Rattle.journal_laws.specs.Owed.{asks_in, owed}
use Rattle.journal_laws.proofs.Asks.{Asks, asks_quiet, ended_asks, moved_asks, wish_in}
use Rattle.journal_laws.proofs.Unended.{arrived_open, hand_first_beside, hand_first_open, hand_over_beside, hand_over_open}
use Rattle.journal_laws.proofs.OwedDevices.{Owes, accept_asks, accept_open, dropped_less, events_owe, table_owes}

-- no more endings may come than before, where one was served
abbrev NoMoreLeft : DevParts → Option DevParts → Type 0
NoMoreLeft p None = Unit {0}
NoMoreLeft p (Some q) = Owes (owed p.base p.table) q

pub released_owes : (b : Base) (dv : Devices) (t : ℕ) (answer : Answer) → owed (release b t answer) dv ≤ owed b dv
released_owes b dv t answer = let few = (asks_quiet dv.wishes (asks_in dv.wishes b.tasks)).released b t answer (omega arith) in omega (arith, few)

-- ---- acceptance

in_phase : (object : ℕ) (phase : Phase) → waits_in object phase ≡ true → is_waiting_phase phase ≡ true
in_phase object Dormant is = absurd (cc is)
in_phase object Ready is = absurd (cc is)
in_phase object (Waiting other) is = refl

in_slot : (object : ℕ) (slot : Option Task) → waiting_in object slot ≡ true → waits_somewhere slot ≡ true
in_slot object None is = absurd (cc is)
in_slot object (Some k) is = in_phase object k.phase is

-- once its request is accepted a task no longer asks for that
after_owes : (q : DevParts) (t dd id serial : ℕ) (stays : Bool) (transfer : Transfer) (before : Bool) → wish_of q.table t ≡ wish.Acceptance transfer before → is_waiting q.base t ≡ true →
    owed (servings.after_acceptance q t dd id serial stays).base (servings.after_acceptance q t dd id serial stays).table + 1 ≤ owed q.base q.table
after_owes q t dd id serial true transfer before at waits =
    let fewer = moved_asks q.table.wishes q.base t (ending_object dd) Fifo transfer before (wish.Ending id serial true) at waits (λ slot. refl) in omega (arith, fewer)
after_owes q t dd id serial false transfer before at waits =
    let fewer = ended_asks q.table.wishes q.base t (plain (pos id)) transfer before at waits in omega (arith, fewer)

-- a request that is accepted takes the place of the wait for that
admitted_owes : (p : DevParts) (d t : ℕ) (transfer : Transfer) (stays : Bool) (id : ℕ) → wish_of p.table t ≡ wish.Acceptance transfer stays → is_waiting p.base t ≡ true → Owes (owed p.base p.table) (servings.admitted p d t transfer stays id)
admitted_owes p d t transfer stays zero at waits = released_owes p.base p.table t (plain (code_of er.Limit))
admitted_owes p d t transfer stays (suc id) at waits =
    let q : DevParts = accept p d (suc id) transfer in
    let leaves = accept_leaves p d (suc id) transfer in
    let at_q : wish_of q.table t ≡ wish.Acceptance transfer stays = ap (λ wishes. wish_in wishes t) leaves.beside.wishes ∙ at in
    let waits_q : is_waiting q.base t ≡ true = ap (λ (b : Base). is_waiting b t) leaves.base ∙ waits in
    let after = after_owes q t transfer.descriptor (suc id) p.table.serial stays transfer stays at_q waits_q in
    let more = accept_open p d (suc id) transfer in
    let same = accept_asks p d (suc id) transfer in
    omega (arith, after, more, same)

wished_left : (p : DevParts) (d t : ℕ) (asked_for : Wish) → wish_of p.table t ≡ asked_for → is_waiting p.base t ≡ true → NoMoreLeft p (servings.admitted_wish p d t asked_for)
wished_left p d t (wish.Acceptance transfer stays) at waits = admitted_owes p d t transfer stays (free_request p.table) at waits
wished_left p d t wish.Nothing at waits = tt
wished_left p d t (wish.Ending id serial own) at waits = tt
wished_left p d t wish.AnyEnding at waits = tt

place_left : (p : DevParts) (place : Bool) (d t : ℕ) → is_waiting p.base t ≡ true → NoMoreLeft p (servings.admitted_if place p d t)
place_left p false d t waits = tt
place_left p true d t waits = wished_left p d t (wish_of p.table t) refl waits

waiters_left : (p : DevParts) (d : ℕ) (waiters : List ℕ) → fifo_queue p.base (acceptance_object d) ≡ waiters → NoMoreLeft p (servings.acceptance_by p d waiters)
waiters_left p d [] is = tt
waiters_left p d (t ∷ ts) is = place_left p (has_place p.table d) d t (in_slot (acceptance_object d) (task_at p.base t) (first_waits Fifo p.base (acceptance_object d) t ts is))

either_left : (p : DevParts) (one other : Option DevParts) → NoMoreLeft p one → NoMoreLeft p other → NoMoreLeft p (option_or one other)
either_left p None other first second = second
either_left p (Some q) other first second = first

first_left : (p : DevParts) (serve : ℕ → Option DevParts) (ids : List ℕ) → ((id : ℕ) → NoMoreLeft p (serve id)) → NoMoreLeft p (first_of serve ids)
unfolding first_of
first_left p serve [] each = tt
first_left p serve (id ∷ ids) each = either_left p (serve id) (first_of serve ids) (each id) (first_left p serve ids each)

acceptances_left : (p : DevParts) → NoMoreLeft p (serve_acceptances p)
unfolding serve_acceptances serve_acceptance
acceptances_left p = first_left p (serve_acceptance p) (device_ids p.table) (λ d. waiters_left p d (fifo_queue p.base (acceptance_object d)) refl)

-- ---- endings, closes, the suspension

claimed_left : (p : DevParts) (t : ℕ) (id : Option ℕ) → NoMoreLeft p (servings.ending_claimed p t id)
claimed_left p t None = tt
claimed_left p t (Some id) =
    let now : Base = release p.base t (claimed p.table (is_own (wish_of p.table t)) id) in
    let base = released_owes p.base p.table t (claimed p.table (is_own (wish_of p.table t)) id) in
    let less = table_owes now p.table (dropped p.table id) (dropped_less p.table id) in
    omega (arith, base, less)

found_left : (p : DevParts) (dd : ℕ) (first : Option ℕ) → NoMoreLeft p (servings.ending_of_first p dd first)
found_left p dd None = tt
found_left p dd (Some t) = claimed_left p t (picked p.table dd (wish_of p.table t))

endings_left : (p : DevParts) → NoMoreLeft p (serve_endings p)
unfolding serve_endings serve_ending
endings_left p = first_left p (serve_ending p) (descriptors p.table) (λ dd. found_left p dd (find (λ t. is_some (picked p.table dd (wish_of p.table t))) (fifo_queue p.base (ending_object dd))))

closed_left : (p : DevParts) (away : Bool) (dd t : ℕ) → NoMoreLeft p (servings.closed_unless away p dd t)
closed_left p true dd t = tt
closed_left p false dd t = released_owes p.base p.table t (plain (pos 0))

closer_left : (p : DevParts) (dd : ℕ) (waiters : List ℕ) → NoMoreLeft p (servings.close_by p dd waiters)
closer_left p dd [] = tt
closer_left p dd (t ∷ ts) = closed_left p (servings.is_with_driver p.table dd) dd t

closes_left : (p : DevParts) → NoMoreLeft p (serve_closes p)
unfolding serve_closes serve_close
closes_left p = first_left p (serve_close p) (descriptors p.table) (λ dd. closer_left p dd (fifo_queue p.base (close_object dd)))

suspended_left : (p : DevParts) (busy : Bool) (t : ℕ) → NoMoreLeft p (servings.suspended_unless busy p t)
suspended_left p true t = tt
suspended_left p false t =
    let now : DevParts = record p { base = release p.base t (plain (pos p.table.off)) } in
    let base = released_owes p.base p.table t (plain (pos p.table.off)) in
    let sent = events_owe now in
    omega (arith, base, sent)

caller_left : (p : DevParts) (waiters : List ℕ) → NoMoreLeft p (servings.suspension_by p waiters)
caller_left p [] = tt
caller_left p (t ∷ ts) = suspended_left p (any_given p.table) t

suspension_left : (p : DevParts) → NoMoreLeft p (serve_suspension p)
unfolding serve_suspension
suspension_left p = caller_left p (fifo_queue p.base suspension_object)

-- ---- any serving

-- at most so many endings may still come
abbrev pub Within : ℕ → Parts → Type 0
Within n p = owed p.base p.objects.devices ≤ n

abbrev Left : Parts → Option Parts → Type 0
Left p None = Unit {0}
Left p (Some q) = Within (owed p.base p.objects.devices) q

-- what ends waits at other objects leaves the devices, and adds none
ends_few : (dv : Devices) (b c : Base) → IsEnding no_moves b c → owed c dv ≤ owed b dv
ends_few dv b c is =
    let n : ℕ = asks_in dv.wishes b.tasks in
    let quiet = asks_quiet dv.wishes n in
    let few = is.keeps (Asks dv.wishes n) (record {
      released = λ base t object answer above waits few. quiet.released base t answer few;
      moved = λ base t d dd least most moves waits few. absurd moves;
      given = λ base bytes few. few;
    }) (omega arith) in
    omega (arith, few)

mapped_left : {A : Type 0} → (p : Parts) (put : A → Parts) (served : Option A) → ((left : A) → served ≡ Some left → Within (owed p.base p.objects.devices) (put left)) → Left p (option_map put served)
mapped_left p put None each = tt
mapped_left p put (Some left) each = each left refl

devices_left : (p : Parts) (served : Option DevParts) → NoMoreLeft (dev_parts p) served → Left p (option_map (with_devices p) served)
devices_left p None is = tt
devices_left p (Some left) is = is

first_or_later : (p : Parts) (here next : Option Parts) → Left p here → Left p next → Left p (elim here as (λ _. Option Parts) [ Some served ↦ Some served | None ↦ next ])
first_or_later p (Some served) next first later = first
first_or_later p None next first later = later

serving_left : (p : Parts) → Left p (serve_object p)
unfolding serve_object first_serving
serving_left p =
    let dv : Devices = p.objects.devices in
    first_or_later p _ _ (mapped_left p (with_sem_flags p) (serve_sem_flag p.base p.objects.sem_flags) (λ left at. ends_few dv p.base left.base (sem_flag_serving p.base p.objects.sem_flags left at).ends))
    (first_or_later p _ _ (mapped_left p (with_mails p) (serve_mailboxes (mail_parts p)) (λ left at. ends_few dv p.base left.base (boxes_serving (mail_parts p) left at).ends))
    (first_or_later p _ _ (mapped_left p (with_mutexes p) (serve_mutexes p.base p.objects.mutexes) (λ left at. ends_few dv p.base left.base (mutexes_serving p.base p.objects.mutexes left at).ends))
    (first_or_later p _ _ (mapped_left p (with_mails p) (serve_buffers (mail_parts p)) (λ left at. ends_few dv p.base left.base (buffers_serving (mail_parts p) left at).ends))
    (first_or_later p _ _ (mapped_left p (with_pools p) (serve_fixed_pools (pool_parts p)) (λ left at. ends_few dv p.base left.base (fixed_pools_serving (pool_parts p) left at).ends))
    (first_or_later p _ _ (mapped_left p (with_pools p) (serve_variable_pools (pool_parts p)) (λ left at. ends_few dv p.base left.base (variable_pools_serving (pool_parts p) left at).ends))
    (first_or_later p _ _ (devices_left p _ (acceptances_left (dev_parts p)))
    (first_or_later p _ _ (devices_left p _ (endings_left (dev_parts p)))
    (first_or_later p _ _ (devices_left p _ (closes_left (dev_parts p)))
    (first_or_later p _ _ (devices_left p _ (suspension_left (dev_parts p))) tt)))))))))

-- ---- settling

left_of : (p q : Parts) (next : Option Parts) → Left p next → next ≡ Some q → Within (owed p.base p.objects.devices) q
left_of p q None left is = absurd (cc is)
left_of p q (Some served) left is = let same : served ≡ q = cc is in subst (Within (owed p.base p.objects.devices)) same left

serving_within : (n : ℕ) (p q : Parts) → serve_object p ≡ Some q → Within n p → Within n q
serving_within n p q is has = let less = left_of p q (serve_object p) (serving_left p) is in omega (arith, less, has)

handed_within : (n : ℕ) (mode : Mode) (p : Parts) → Within n p → Within n (handed mode p)
handed_within n modes.Sync p has = has
handed_within n modes.Free p has =
    let less = table_owes p.base p.objects.devices (hand_over p.base p.objects.devices) (record { rows = hand_over_open p.base p.objects.devices; wishes = hand_over_beside p.base p.objects.devices }) in
    omega (arith, less, has)

current_within : (n : ℕ) (p : Parts) (t priority : ℕ) → Within n p → Within n (record p { base = set_current p.base t priority })
current_within n p t priority has =
    let wishes : List Wish = p.objects.devices.wishes in
    let few = (asks_quiet wishes (asks_in wishes p.base.tasks)).refreshed p.base t priority (omega arith) in
    omega (arith, few, has)

next_within : (n left : ℕ) (p : Parts) (next : Option Parts) → serve_object p ≡ next → Within n p → ((q : Parts) → Within n q → Within n (served_within left q)) → Within n (next_served left p next)
next_within n left p None is has rest = has
next_within n left p (Some q) is has rest = rest (refreshed q) (refreshed_keeps (Within n) (current_within n) q (serving_within n p q is has))

each_within : (n left : ℕ) (p : Parts) → Within n p → Within n (served_within left p)
unfolding served_within
each_within n zero p has = has
each_within n (suc left) p has = next_within n left p (serve_object p) refl has (each_within n left)

-- settling adds none
pub settle_within : (n : ℕ) (mode : Mode) (p : Parts) → Within n p → Within n (settle mode p)
unfolding settle
settle_within n mode p has = handed_within n mode (served_within 512 (refreshed p)) (each_within n 512 (refreshed p) (refreshed_keeps (Within n) (current_within n) p has))

freed_next : (n left : ℕ) (mode : Mode) (t : ℕ) (p : Parts) (next : Option Mutexes) → Within n p → ((q : Parts) → Within n q → Within n (freed_within left mode t q)) →
    Within n (elim next as (λ _. Parts) [ None ↦ p | Some mutexes ↦ freed_within left mode t (settle mode (with_freed p mutexes)) ])
freed_next n left mode t p None has rest = has
freed_next n left mode t p (Some mutexes) has rest = rest (settle mode (with_freed p mutexes)) (settle_within n mode (with_freed p mutexes) has)

-- nor do the mutexes that a task frees which ended
pub freed_few : (n left : ℕ) (mode : Mode) (t : ℕ) (p : Parts) → Within n p → Within n (freed_within left mode t p)
unfolding freed_within
freed_few n zero mode t p has = has
freed_few n (suc left) mode t p has = freed_next n left mode t p (free_last p.base p.objects.mutexes t) has (freed_few n left mode t)

-- ---- requests that are handed out in sync mode

pub first_handed_within : (n : ℕ) (p : Parts) → Within n p → Within n (record p { objects = record p.objects { devices = hand_first p.objects.devices } })
first_handed_within n p has =
    let less = table_owes p.base p.objects.devices (hand_first p.objects.devices) (record { rows = hand_first_open p.objects.devices; wishes = hand_first_beside p.objects.devices }) in
    omega (arith, less, has)

-- an ending that arrives leaves one less
pub arrived_less : (p : Parts) (e : Ending) (q : DevParts) → arrive (dev_parts p) e ≡ Some q → owed q.base q.table + 1 ≤ owed p.base p.objects.devices
arrived_less p e q is =
    let comes = arrived_open (dev_parts p) q e is in
    let rows = comes.rows in
    let same : asks_in q.table.wishes q.base.tasks ≡ asks_in p.objects.devices.wishes p.base.tasks =
    ap (λ wishes. asks_in wishes q.base.tasks) comes.wishes ∙ ap (λ (b : Base). asks_in p.objects.devices.wishes b.tasks) comes.base in
    omega (arith, rows, same)
