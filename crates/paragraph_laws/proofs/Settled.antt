-- What settling comes to: nothing, where nobody can be served, and one serving, where nobody can be served after it.
use Rattle.std.proofs.Common.{◌≡◌, ℕ, zero, suc, Bool, true, false, cond, Option, Some, None, refl, ◌∙◌, ap, sym, ℤ}
use Rattle.std.specs.Option.{option_map_or}
use Rattle.tk_types.specs.declared.answer.Answer.{Answer}
use Rattle.tk_types.specs.declared.run.Mode.{Mode}
use Rattle.tk_types.specs.declared.run.Mode.TheVariants as modes
use Rattle.tk_types.specs.declared.task.Order.TheVariants.{Fifo}
use Rattle.kernel_model.specs.SemFlags.Trial.{MayWait}
use Rattle.kernel_model.specs.Tasks.Base.{fifo_queue, is_waiting, release}
use Rattle.device_model.specs.Devices.Handing.{hand_over, handed_unless, suspension_object}
use Rattle.device_model.specs.Devices.Tables.{Devices}
use Rattle.mail_laws.specs.BufferTrial.{MayTry}
use Rattle.mail_laws.specs.Trial.{ended_in}
use Rattle.mail_laws.proofs.Backs.{answered}
use Rattle.machine_model.specs.Events.Rest.{AreUpToDate, IsAtRest}
use Rattle.machine_model.specs.Events.Settle.{handed, refreshed, served_within, settle}
use Rattle.machine_model.specs.States.Objects.{Parts, serve_object}
use Rattle.machine_model.specs.States.State.{State, parts_of}
use Rattle.machine_lemmas.proofs.Rest.{HasSettled}
use Rattle.machine_lemmas.proofs.Settling.{next_served, settled_none}
use Rattle.mutex_laws.proofs.Resettled.{resettled_same}
use Rattle.table_lemmas.specs.Short.{AreShort}
use Rattle.paragraph_laws.specs.Kept.{IsSound}
use Rattle.paragraph_laws.specs.Paragraph.{IsSettled, after_settling, over_or_waits, returns_to}
use Rattle.paragraph_laws.proofs.Still.{SameQueue}

-- what has settled, in the words of the lemmas on settling
pub has_settled : (mode : Mode) (p : Parts) → IsSettled mode p → HasSettled mode p
has_settled mode p is = record { unserved = is.unserved; up_to_date = is.up_to_date; given = is.given }

-- so have the parts of a state at rest
pub rest_settled : (mode : Mode) (st : State) → IsAtRest mode st → AreShort st.objects → IsSettled mode (parts_of st)
rest_settled mode st rest short = record { unserved = rest.unserved; up_to_date = rest.up_to_date; given = rest.given; short = short }

-- a task that may wait may try, as 0 is no task and no release is left
pub may_try : (p : Parts) (t : ℕ) → IsSound p → MayWait p.base t → MayTry p.base t
may_try p t is may = record { may = may; no_zero = is.no_task; no_place = is.no_place; none_left = is.none_left }

-- ---- requests that were handed

-- where requests have gone to their drivers, they still have with the same devices and the same waiters of the suspension
pub given_still : (mode : Mode) (p q : Parts) → q.objects.devices ≡ p.objects.devices → SameQueue p.base q.base suspension_object → handed mode p ≡ p → handed mode q ≡ q
unfolding hand_over
given_still modes.Sync p q same queues is = refl
given_still modes.Free p q same queues is =
    let now : handed_unless (fifo_queue q.base suspension_object) q.objects.devices ≡ q.objects.devices =
    ap (λ waiters. handed_unless waiters q.objects.devices) (queues Fifo)
    ∙ ap (handed_unless (fifo_queue p.base suspension_object)) same
    ∙ ap (λ (parts : Parts). parts.objects.devices) is
    ∙ sym same in
    ap (λ (devices : Devices). record q { objects = record q.objects { devices = devices } }) now

-- ---- settling that serves nobody, and one

pub refreshed_none : (p : Parts) → AreUpToDate p.base p.objects.mutexes → refreshed p ≡ p
refreshed_none p is = ap (λ base. record p { base = base }) (resettled_same p.base p.objects.mutexes (λ t least. is.each t least))

-- where nobody can be served no serving is done
pub served_none : (left : ℕ) (p : Parts) → serve_object p ≡ None → served_within left p ≡ p
unfolding served_within
served_none zero p none = refl
served_none (suc left) p none = ap (λ next. next_served left p next) none

-- and where somebody can, one is
pub served_once : (left : ℕ) (p q : Parts) → serve_object p ≡ Some q → served_within (suc left) p ≡ served_within left (refreshed q)
unfolding served_within
served_once left p q is = ap (λ next. next_served left p next) is

-- where a serving leaves what has settled, that is what comes of settling
pub settled_once : (mode : Mode) (p q : Parts) → AreUpToDate p.base p.objects.mutexes → serve_object p ≡ Some q → HasSettled mode q → settle mode p ≡ q
unfolding settle
settled_once mode p q up is after =
    ap (λ parts. handed mode (served_within 512 parts)) (refreshed_none p up)
    ∙ ap (handed mode) (served_once 511 p q is)
    ∙ ap (λ parts. handed mode (served_within 511 parts)) (refreshed_none q after.up_to_date)
    ∙ ap (handed mode) (served_none 511 q after.unserved)
    ∙ after.given

-- ---- what the paragraph comes to

still_waits : (old settled : Parts) (t : ℕ) (timeout : ℤ) (ended : Option Answer) (waits : Bool) → waits ≡ true →
    option_map_or (returns_to old settled t) (cond waits None ended) (over_or_waits old settled timeout) ≡ over_or_waits old settled timeout
still_waits old settled t timeout ended true is = refl
still_waits old settled t timeout ended false is = absurd (cc is)

-- where nobody is served the caller's wait goes on, or was over at once
pub waits_on : (mode : Mode) (old now : Parts) (t : ℕ) (timeout : ℤ) → HasSettled mode now → is_waiting now.base t ≡ true →
    after_settling old t timeout (settle mode now) ≡ over_or_waits old now timeout
waits_on mode old now t timeout settled waits =
    ap (after_settling old t timeout) (settled_none mode now settled.up_to_date settled.unserved settled.given)
    ∙ still_waits old now t timeout _ (is_waiting now.base t) waits

-- where the caller alone is served its call returns
pub returns_once : (mode : Mode) (old now served : Parts) (t : ℕ) (timeout : ℤ) (result : Answer) → AreUpToDate now.base now.objects.mutexes → serve_object now ≡ Some served →
    HasSettled mode served → is_waiting now.base t ≡ true →
    ended_in t served.base ≡ ended_in t (release now.base t result) → after_settling old t timeout (settle mode now) ≡ returns_to old served t result
returns_once mode old now served t timeout result up is settled waits same =
    ap (after_settling old t timeout) (settled_once mode now served up is settled)
    ∙ ap (λ ended. option_map_or (returns_to old served t) ended (over_or_waits old served timeout)) (same ∙ answered now.base t result waits)
