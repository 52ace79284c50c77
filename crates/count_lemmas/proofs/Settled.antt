-- Settling makes no event: it changes priorities, and ends waits or moves them.
use Rattle.std.proofs.Common.{◌≡◌, ℕ, zero, suc, Bool, true, false, List, [], ◌∷◌, Option, Some, None, refl}
use Rattle.std.specs.Option.{option_map, option_or}
use Rattle.tk_types.specs.declared.run.Mode.{Mode}
use Rattle.tk_types.specs.declared.run.Mode.TheVariants as modes
use Rattle.kernel_model.specs.Tasks.Base.{Base, fifo_queue}
use Rattle.kernel_model.specs.SemFlags.Tables.{serve_sem_flag}
use Rattle.object_model.specs.Servings.{first_serving as first_of}
use Rattle.object_model.specs.Mutexes.Tables.{Mutexes, free_last, serve_mutexes}
use Rattle.object_model.specs.Mails.Boxes.{serve_mailboxes}
use Rattle.object_model.specs.Mails.Buffers.{serve_buffers}
use Rattle.object_model.specs.Pools.Fixed.{serve_fixed_pools}
use Rattle.object_model.specs.Pools.Variable.{serve_variable_pools}
use Rattle.device_model.specs.declared.rows.Transfer.{Transfer}
use Rattle.device_model.specs.declared.rows.Wish.{Wish}
use Rattle.device_model.specs.declared.rows.Wish.TheVariants as wish
use Rattle.device_model.specs.Devices.Endings.{DevParts}
use Rattle.device_model.specs.Devices.Requests.{accept, acceptance_object, has_place}
use Rattle.device_model.specs.Devices.Servings.{acceptance_by, admitted, admitted_if, admitted_wish, after_acceptance, serve_acceptance, serve_acceptances, serve_closes, serve_endings, serve_suspension}
use Rattle.device_model.specs.Devices.Tables.{device_ids, free_request, wish_of}
use Rattle.machine_model.specs.States.Objects.{Parts, dev_parts, first_serving, mail_parts, pool_parts, serve_object, with_devices, with_mails, with_mutexes, with_pools, with_sem_flags}
use Rattle.machine_model.specs.Events.Settle.{freed_within, handed, refreshed, served_within, settle, with_freed}
use Rattle.machine_lemmas.proofs.Changes.{Survives, no_moves}
use Rattle.machine_lemmas.proofs.DeviceServings.{closes_serving, endings_serving, suspension_serving}
use Rattle.machine_lemmas.proofs.KnownDevices.{IsWished}
use Rattle.machine_lemmas.proofs.ObjectServings.{boxes_serving, buffers_serving, fixed_pools_serving, mutexes_serving, sem_flag_serving, variable_pools_serving}
use Rattle.machine_lemmas.proofs.Settling.{refreshed_keeps}
use Rattle.count_lemmas.proofs.Making.{IsQuiet}
use Rattle.count_lemmas.proofs.Devices.{accept_quiet}

-- what survives every move that makes no event survives what servings do to the base
survives : (P : Base → Type 0) → IsQuiet P → (may : ℕ → Type 0) → Survives may P
survives P is may = record {
  released = λ b t object answer above waits has. is.released b t answer has;
  moved = λ b t d dd least most moved waits has. is.moved b t _ _ has;
  given = λ b n has. is.given b n has;
}

-- ---- requests that devices accept

-- it holds of the base that was left, where there was one
abbrev DevLeft : (Base → Type 0) → Option DevParts → Type 0
DevLeft P None = Unit {0}
DevLeft P (Some q) = P q.base

accepted_quiet : (P : Base → Type 0) → IsQuiet P → (p : DevParts) (t dd id serial : ℕ) (stays : Bool) → P p.base → P (after_acceptance p t dd id serial stays).base
accepted_quiet P is p t dd id serial true has = is.moved p.base t _ _ has
accepted_quiet P is p t dd id serial false has = is.released p.base t _ has

admitted_quiet : (P : Base → Type 0) → IsQuiet P → (p : DevParts) (d t : ℕ) (transfer : Transfer) (stays : Bool) (id : ℕ) → P p.base → P (admitted p d t transfer stays id).base
admitted_quiet P is p d t transfer stays zero has = is.released p.base t _ has
admitted_quiet P is p d t transfer stays (suc id) has =
    accepted_quiet P is (accept p d (suc id) transfer) t transfer.descriptor (suc id) p.table.serial stays (accept_quiet P p d (suc id) transfer has)

wish_quiet : (P : Base → Type 0) → IsQuiet P → (p : DevParts) (d t : ℕ) (asked : Wish) → P p.base → DevLeft P (admitted_wish p d t asked)
wish_quiet P is p d t (wish.Acceptance transfer stays) has = admitted_quiet P is p d t transfer stays (free_request p.table) has
wish_quiet P is p d t wish.Nothing has = tt
wish_quiet P is p d t (wish.Ending request serial own) has = tt
wish_quiet P is p d t wish.AnyEnding has = tt

place_quiet : (P : Base → Type 0) → IsQuiet P → (place : Bool) (p : DevParts) (d t : ℕ) → P p.base → DevLeft P (admitted_if place p d t)
place_quiet P is true p d t has = wish_quiet P is p d t (wish_of p.table t) has
place_quiet P is false p d t has = tt

waiters_quiet : (P : Base → Type 0) → IsQuiet P → (p : DevParts) (d : ℕ) (waiters : List ℕ) → P p.base → DevLeft P (acceptance_by p d waiters)
waiters_quiet P is p d [] has = tt
waiters_quiet P is p d (t ∷ ts) has = place_quiet P is (has_place p.table d) p d t has

either_left : (P : Base → Type 0) (one other : Option DevParts) → DevLeft P one → DevLeft P other → DevLeft P (option_or one other)
either_left P None other first second = second
either_left P (Some q) other first second = first

first_left : (P : Base → Type 0) (serve : ℕ → Option DevParts) (ids : List ℕ) → ((id : ℕ) → DevLeft P (serve id)) → DevLeft P (first_of serve ids)
unfolding first_of
first_left P serve [] each = tt
first_left P serve (id ∷ ids) each = either_left P (serve id) (first_of serve ids) (each id) (first_left P serve ids each)

acceptances_quiet : (P : Base → Type 0) → IsQuiet P → (p : DevParts) → P p.base → DevLeft P (serve_acceptances p)
unfolding serve_acceptances serve_acceptance
acceptances_quiet P is p has = first_left P (serve_acceptance p) (device_ids p.table) (λ d. waiters_quiet P is p d (fifo_queue p.base (acceptance_object d)) has)

-- ---- any serving

abbrev Left : (Base → Type 0) → Option Parts → Type 0
Left P None = Unit {0}
Left P (Some q) = P q.base

mapped_left : {A : Type 0} → (P : Base → Type 0) (put : A → Parts) (served : Option A) → ((left : A) → served ≡ Some left → P (put left).base) → Left P (option_map put served)
mapped_left P put None each = tt
mapped_left P put (Some left) each = each left refl

accepted_left : (P : Base → Type 0) (p : Parts) (served : Option DevParts) → DevLeft P served → Left P (option_map (with_devices p) served)
accepted_left P p None has = tt
accepted_left P p (Some left) has = has

first_or_later : (P : Base → Type 0) (here next : Option Parts) → Left P here → Left P next → Left P (elim here as (λ _. Option Parts) [ Some served ↦ Some served | None ↦ next ])
first_or_later P (Some served) next first later = first
first_or_later P None next first later = later

serving_left : (P : Base → Type 0) → IsQuiet P → (p : Parts) → P p.base → Left P (serve_object p)
unfolding serve_object first_serving
serving_left P is p has =
    first_or_later P _ _ (mapped_left P (with_sem_flags p) (serve_sem_flag p.base p.objects.sem_flags)
    (λ left at. (sem_flag_serving p.base p.objects.sem_flags left at).ends.keeps P (survives P is no_moves) has))
    (first_or_later P _ _ (mapped_left P (with_mails p) (serve_mailboxes (mail_parts p)) (λ left at. (boxes_serving (mail_parts p) left at).ends.keeps P (survives P is no_moves) has))
    (first_or_later P _ _ (mapped_left P (with_mutexes p) (serve_mutexes p.base p.objects.mutexes)
    (λ left at. (mutexes_serving p.base p.objects.mutexes left at).ends.keeps P (survives P is no_moves) has))
    (first_or_later P _ _ (mapped_left P (with_mails p) (serve_buffers (mail_parts p)) (λ left at. (buffers_serving (mail_parts p) left at).ends.keeps P (survives P is no_moves) has))
    (first_or_later P _ _ (mapped_left P (with_pools p) (serve_fixed_pools (pool_parts p)) (λ left at. (fixed_pools_serving (pool_parts p) left at).ends.keeps P (survives P is no_moves) has))
    (first_or_later P _ _ (mapped_left P (with_pools p) (serve_variable_pools (pool_parts p)) (λ left at. (variable_pools_serving (pool_parts p) left at).ends.keeps P (survives P is no_moves) has))
    (first_or_later P _ _ (accepted_left P p (serve_acceptances (dev_parts p)) (acceptances_quiet P is (dev_parts p) has))
    (first_or_later P _ _ (mapped_left P (with_devices p) (serve_endings (dev_parts p))
    (λ left at. (endings_serving (dev_parts p) left at).ends.keeps P (survives P is (IsWished p.objects.devices)) has))
    (first_or_later P _ _ (mapped_left P (with_devices p) (serve_closes (dev_parts p))
    (λ left at. (closes_serving (dev_parts p) left at).ends.keeps P (survives P is (IsWished p.objects.devices)) has))
    (first_or_later P _ None (mapped_left P (with_devices p) (serve_suspension (dev_parts p))
    (λ left at. (suspension_serving (dev_parts p) left at).ends.keeps P (survives P is (IsWished p.objects.devices)) has))
    tt)))))))))

-- ---- settling

refreshed_quiet : (P : Base → Type 0) → IsQuiet P → (p : Parts) → P p.base → P (refreshed p).base
refreshed_quiet P is p has = refreshed_keeps (λ (q : Parts). P q.base) (λ q t priority now. is.refreshed q.base t priority now) p has

next_quiet : (P : Base → Type 0) → IsQuiet P → (left : ℕ) (p : Parts) (next : Option Parts) → P p.base → Left P next → ((q : Parts) → P q.base → P (served_within left q).base) →
    P (elim next as (λ _. Parts) [ None ↦ p | Some served ↦ served_within left (refreshed served) ]).base
next_quiet P is left p None has there rest = has
next_quiet P is left p (Some served) has there rest = rest (refreshed served) (refreshed_quiet P is served there)

served_quiet : (P : Base → Type 0) → IsQuiet P → (left : ℕ) (p : Parts) → P p.base → P (served_within left p).base
unfolding served_within
served_quiet P is zero p has = has
served_quiet P is (suc left) p has = next_quiet P is left p (serve_object p) has (serving_left P is p has) (served_quiet P is left)

handed_quiet : (P : Base → Type 0) (mode : Mode) (p : Parts) → P p.base → P (handed mode p).base
handed_quiet P modes.Sync p has = has
handed_quiet P modes.Free p has = has

-- settling
pub settle_quiet : (P : Base → Type 0) → IsQuiet P → (mode : Mode) (p : Parts) → P p.base → P (settle mode p).base
unfolding settle
settle_quiet P is mode p has = handed_quiet P mode (served_within 512 (refreshed p)) (served_quiet P is 512 (refreshed p) (refreshed_quiet P is p has))

freed_next : (P : Base → Type 0) → IsQuiet P → (left : ℕ) (mode : Mode) (t : ℕ) (p : Parts) (next : Option Mutexes) → P p.base → ((q : Parts) → P q.base → P (freed_within left mode t q).base) →
    P (elim next as (λ _. Parts) [ None ↦ p | Some mutexes ↦ freed_within left mode t (settle mode (with_freed p mutexes)) ]).base
freed_next P is left mode t p None has rest = has
freed_next P is left mode t p (Some mutexes) has rest = rest (settle mode (with_freed p mutexes)) (settle_quiet P is mode (with_freed p mutexes) has)

-- a task that ended frees its mutexes, and all settles after each
pub freed_quiet : (P : Base → Type 0) → IsQuiet P → (left : ℕ) (mode : Mode) (t : ℕ) (p : Parts) → P p.base → P (freed_within left mode t p).base
unfolding freed_within
freed_quiet P is zero mode t p has = has
freed_quiet P is (suc left) mode t p has = freed_next P is left mode t p (free_last p.base p.objects.mutexes t) has (freed_quiet P is left mode t)
