-- A call that waits for a message of a mailbox does what the paragraph says.
use Rattle.std.proofs.Common.{◌≡◌, ℕ, ◌≤◌, Bool, true, false, cond, List, [], ◌∷◌, Option, Some, None, refl, ◌∙◌, ap, sym, ℤ, pos, arith}
use Rattle.std.specs.Prelude.{slice_set}
use Rattle.std.specs.Bool.{◌==◌}
use Rattle.std.specs.Option.{option_map}
use Rattle.std.specs.Ordering.{int_eq}
use Rattle.std.proofs.lemmas.Bool.Decides.{nat_tests}
use Rattle.tk_types.specs.declared.answer.Answer.{Answer}
use Rattle.tk_types.specs.declared.answer.Outcome.TheVariants.{Returned, Blocked}
use Rattle.tk_types.specs.declared.error_code.Er.TheVariants as er
use Rattle.tk_types.specs.declared.run.Mode.{Mode}
use Rattle.tk_types.specs.declared.task.Order.TheVariants.{Fifo, Priority}
use Rattle.kernel_model.specs.Words.Checks.{failed}
use Rattle.kernel_model.specs.Words.Orders.{entry}
use Rattle.kernel_model.specs.SemFlags.Trial.{MayWait}
use Rattle.kernel_model.specs.Tasks.Base.{Base, current, give_bytes, make_wait, release}
use Rattle.kernel_lemmas.proofs.Filters.{apart_of}
use Rattle.kernel_lemmas.proofs.Tables.{entry_inside, entry_other, entry_there}
use Rattle.call_lemmas.proofs.Picks.{joined}
use Rattle.call_lemmas.proofs.Trial.{joined_waits, queue_joined}
use Rattle.mail_laws.proofs.Backs.{base_back, one_joined}
use Rattle.object_model.specs.declared.mails.Message.{Message}
use Rattle.object_model.specs.Mails.Tables.{Mailbox, Mails, MailParts, box_at, box_object, with_box}
use Rattle.object_model.specs.Mails.Boxes.{box_serves, box_waiters, message_answer, message_bytes, serve_box, serve_box_at, serve_mailboxes}
use Rattle.object_model.specs.Mails.Calls.{mail_done, received_from_box, taken_from_box}
use Rattle.machine_model.specs.Events.Settle.{settle}
use Rattle.machine_model.specs.States.Objects.{Parts, kinds, mail_parts, pool_parts, serve_object, with_mails}
use Rattle.machine_lemmas.proofs.HandingServes.{AllKinds, mapped_none}
use Rattle.machine_lemmas.proofs.Rest.{HasSettled}
use Rattle.table_lemmas.specs.Short.{AreShort}
use Rattle.paragraph_laws.specs.Paragraph.{IsSettled, after_settling, joins, mail_waits, paragraph}
use Rattle.paragraph_laws.proofs.Joined.{AwayFrom, IsNoMutex, given_keeps, joined_keeps, kept_then, kept_up_to_date, queue_elsewhere, queue_rejoined, served_keeps}
use Rattle.paragraph_laws.proofs.OneKind.{NoneBut, NoneOf, buffers_beside, devices_beside, fixed_beside, mutexes_beside, none_of, only_kind, sem_flags_beside, variable_beside}
use Rattle.paragraph_laws.proofs.Settled.{given_still, has_settled, returns_once, waits_on}
use Rattle.paragraph_laws.proofs.Still.{SameQueue, box_still}
use Rattle.paragraph_laws.proofs.Tables.{alone_serves, none_serves, stands_none}

-- parts with another base and other mails
abbrev mails_to : Parts → Base → Mails → Parts
mails_to p c m = record p { base = c; objects = record p.objects { mails = m } }

-- once a task has joined the waiters of a mailbox, or was served by one, other kinds serve nobody
but_boxes : (p : Parts) (c : Base) (m : Mails) (id : ℕ) → AreShort p.objects → 1 ≤ id → id ≤ 64 → AwayFrom p.base c (box_object id) → m.buffers ≡ p.objects.mails.buffers →
    m.sending ≡ p.objects.mails.sending → NoneOf p → NoneBut 1 kinds (mails_to p c m)
unfolding NoneBut AllKinds
but_boxes p c m id short one most away buffers sending none =
    let q : Parts = mails_to p c m in
    let devices = devices_beside p c m (box_object id) away (omega (arith, most)) none in (
      mapped_none _ _ (sem_flags_beside p c (box_object id) short away (λ other least low e. omega (arith, one, low, e)) (λ other least low e. omega (arith, one, low, e)) none),
      (
        mapped_none _ _ (mutexes_beside p c (box_object id) short away (λ other least low e. omega (arith, most, least, e)) none),
        (
          mapped_none _ _ (buffers_beside p (mail_parts q) (box_object id) buffers sending short away (λ other least low e. omega (arith, most, least, e)) (λ other least low e. omega (arith, most, least, e)) none),
          (
            mapped_none _ _ (fixed_beside p (pool_parts q) (box_object id) refl short away (λ other least low e. omega (arith, most, least, e)) none),
            (
              mapped_none _ _ (variable_beside p (pool_parts q) (box_object id) refl refl short away (λ other least low e. omega (arith, most, least, e)) none),
              (mapped_none _ _ devices.0, (mapped_none _ _ devices.1.0, (mapped_none _ _ devices.1.1.0, (mapped_none _ _ devices.1.1.1, tt)))),
            ),
          ),
        ),
      ),
    )

-- so what is served first is what the mailboxes serve
boxes_first : (p : Parts) (c : Base) (m : Mails) (id : ℕ) → AreShort p.objects → 1 ≤ id → id ≤ 64 → AwayFrom p.base c (box_object id) → m.buffers ≡ p.objects.mails.buffers →
    m.sending ≡ p.objects.mails.sending → NoneOf p →
    serve_object (mails_to p c m) ≡ option_map (with_mails (mails_to p c m)) (serve_mailboxes (mail_parts (mails_to p c m)))
unfolding serve_object
boxes_first p c m id short one most away buffers sending none = only_kind 1 kinds (mails_to p c m) (but_boxes p c m id short one most away buffers sending none)

-- each mailbox that stands in the table serves nobody
each_box : (p : MailParts) (id : ℕ) → 1 ≤ id → serve_mailboxes p ≡ None → (slot : Option Mailbox) → box_at p.table id ≡ slot → serve_box p id ≡ None
unfolding serve_mailboxes serve_box
each_box p id one none None at = ap (serve_box_at p id) at
each_box p id one none (Some k) at = stands_none (serve_box p) id p.table.boxes k one at none

-- and what they serve is what the caller's mailbox does
box_alone : (p q : MailParts) (id : ℕ) (k : Mailbox) → 1 ≤ id → box_at p.table id ≡ Some k → q.table.boxes ≡ p.table.boxes → AwayFrom p.base q.base (box_object id) →
    serve_mailboxes p ≡ None → serve_mailboxes q ≡ serve_box q id
unfolding serve_mailboxes
box_alone p q id k one at same away none =
    alone_serves (serve_box q) id q.table.boxes k one (ap (λ table. entry table id) same ∙ at)
    (λ other in_it apart. box_still p q other (ap (λ table. entry table other) same) (away (box_object other) (λ e. apart (omega (arith, e)))) (each_box p other in_it.0 none (box_at p.table other) refl))

-- once the caller was served no mailbox can serve anybody: of its own it took the last waiter away
box_done : (p q : MailParts) (id : ℕ) (k : Mailbox) (rest : List Message) → q.table ≡ with_box p.table id (Some (record k { messages = rest })) →
    ((other : ℕ) → SameQueue p.base q.base other) → box_waiters p.base k id ≡ [] →
    serve_mailboxes p ≡ None → box_at p.table id ≡ Some k → serve_mailboxes q ≡ None
unfolding serve_mailboxes serve_box
box_done p q id k rest is queues nobody none at =
    let taken : Mailbox = record k { messages = rest } in
    none_serves (serve_box q) q.table.boxes (λ other in_it. box_if p q id other k taken (other == id) refl
    (λ same. ap (λ (table : Mails). entry table.boxes other) is ∙ ap (entry (slice_set p.table.boxes id (Some taken))) same ∙ entry_there p.table.boxes id k (Some taken) at)
    (λ apart. ap (λ (table : Mails). entry table.boxes other) is ∙ entry_other p.table.boxes id other (Some taken) apart) (queues (box_object other))
    (queues (box_object id) k.order ∙ nobody) refl (each_box p other in_it.0 none (box_at p.table other) refl))
  where
    box_if : (p q : MailParts) (id other : ℕ) (k taken : Mailbox) (same : Bool) → (other == id) ≡ same → (other ≡ id → box_at q.table other ≡ Some taken) →
        ((other ≡ id → ⊥) → box_at q.table other ≡ box_at p.table other) →
        SameQueue p.base q.base (box_object other) → box_waiters q.base k id ≡ [] → taken.order ≡ k.order → serve_box p other ≡ None → serve_box q other ≡ None
    box_if p q id other k taken true is own others queues nobody order none =
        let e : other ≡ id = grind (arith, nat_tests, is) in
        ap (serve_box_at q other) (own e)
        ∙ ap (λ it. box_serves q other taken (box_waiters q.base (record taken { order = it }) other) taken.messages) order
        ∙ ap (λ at. box_serves q other taken (box_waiters q.base k at) taken.messages) e
        ∙ ap (λ waiters. box_serves q other taken waiters taken.messages) nobody
    box_if p q id other k taken false is own others queues nobody order none = box_still p q other (others (apart_of other id is)) queues none

none_waits : (p : MailParts) (id : ℕ) (k : Mailbox) (waiters : List ℕ) (first : Message) (rest : List Message) → box_serves p id k waiters (first ∷ rest) ≡ None → waiters ≡ []
none_waits p id k [] first rest none = refl
none_waits p id k (t ∷ waiters) first rest none = absurd (cc none)

nothing_there : (p : MailParts) (id : ℕ) (k : Mailbox) (waiters : List ℕ) → box_serves p id k waiters [] ≡ None
nothing_there p id k [] = refl
nothing_there p id k (t ∷ waiters) = refl

-- a wait that isn't over at once is one of all parts
over_mail : (p : Parts) (c : Base) (m : Mails) (at_once : Bool) →
    cond at_once (record { parts = p; outcome = failed er.TmOut }) (record { parts = mails_to p c m; outcome = Blocked })
    ≡ mail_waits p (cond at_once (mail_done (mail_parts p) (failed er.TmOut)) (mail_done (record { base = c; table = m; memory = p.memory }) Blocked))
over_mail p c m true = refl
over_mail p c m false = refl

-- bytes that are given back are nothing that a queue looks at
given_queue : (b : Base) (n object : ℕ) → SameQueue b (give_bytes b n) object
given_queue b n object Fifo = refl
given_queue b n object Priority = refl

box_case : (mode : Mode) (p : Parts) (t id : ℕ) (timeout : ℤ) (k : Mailbox) (messages : List Message) → k.messages ≡ messages → MayWait p.base t → AreShort p.objects → 1 ≤ id →
    id ≤ 64 → box_at p.objects.mails id ≡ Some k → HasSettled mode p →
    mail_waits p (taken_from_box (mail_parts p) t id timeout k messages) ≡ after_settling p t timeout (settle mode (joins p t (box_object id) k.order timeout p.objects))
unfolding serve_box
box_case mode p t id timeout k [] there may short one most at settled =
    let c : Base = make_wait p.base t (box_object id) k.order timeout in
    let now : Parts = joins p t (box_object id) k.order timeout p.objects in
    let away : AwayFrom p.base c (box_object id) = queue_elsewhere p.base t (box_object id) k.order timeout may in
    let no_mutex : IsNoMutex (box_object id) = grind (arith, nat_tests, most) in
    let none = none_of p settled.unserved in
    let own : serve_mailboxes (mail_parts now) ≡ None =
    box_alone (mail_parts p) (mail_parts now) id k one at refl away none.boxes
    ∙ ap (serve_box_at (mail_parts now) id) at
    ∙ ap (box_serves (mail_parts now) id k (box_waiters c k id)) there
    ∙ nothing_there (mail_parts now) id k (box_waiters c k id) in
    sym (waits_on mode p now t timeout
    (record {
      unserved = boxes_first p c p.objects.mails id short one most away refl refl none ∙ ap (option_map (with_mails now)) own;
      up_to_date = kept_up_to_date p.base c p.objects.mutexes (joined_keeps p.base t (box_object id) k.order timeout may no_mutex) settled.up_to_date;
      given = given_still mode p now refl (away 648 (λ e. omega (arith, e, most))) settled.given;
    })
    (joined_waits p.base t (box_object id) k.order timeout may)
    ∙ over_mail p c p.objects.mails (int_eq timeout (pos 0)))
box_case mode p t id timeout k (first ∷ rest) there may short one most at settled =
    let c : Base = make_wait p.base t (box_object id) k.order timeout in
    let now : Parts = joins p t (box_object id) k.order timeout p.objects in
    let result : Answer = message_answer first in
    let m : Mails = with_box p.objects.mails id (Some (record k { messages = rest })) in
    let left : Base = give_bytes (release c t result) message_bytes in
    let served : Parts = mails_to p left m in
    let away : AwayFrom p.base c (box_object id) = queue_elsewhere p.base t (box_object id) k.order timeout may in
    let rejoined : (other : ℕ) →
    SameQueue p.base left other = λ other order. given_queue (release c t result) message_bytes other order ∙ queue_rejoined p.base t (box_object id) k.order timeout result may other order in
    let no_mutex : IsNoMutex (box_object id) = grind (arith, nat_tests, most) in
    let none = none_of p settled.unserved in
    let nobody : box_waiters p.base k id ≡ [] =
    none_waits (mail_parts p) id k (box_waiters p.base k id) first rest
    (ap (box_serves (mail_parts p) id k (box_waiters p.base k id)) (sym there) ∙ ap (serve_box_at (mail_parts p) id) (sym at) ∙ each_box (mail_parts p) id one none.boxes (Some k) at) in
    let alone : box_waiters c k id ≡ t ∷ [] =
    queue_joined k.order p.base t (box_object id) k.order timeout may ∙ ap (joined k.order (current p.base) t) nobody ∙ one_joined k.order (current p.base) t in
    let own : serve_mailboxes (mail_parts now) ≡ Some (record { base = left; table = m; memory = p.memory }) =
    box_alone (mail_parts p) (mail_parts now) id k one at refl away none.boxes
    ∙ ap (serve_box_at (mail_parts now) id) at
    ∙ ap (λ waiters. box_serves (mail_parts now) id k waiters k.messages) alone
    ∙ ap (box_serves (mail_parts now) id k (t ∷ [])) there in
    let up = kept_up_to_date p.base c p.objects.mutexes (joined_keeps p.base t (box_object id) k.order timeout may no_mutex) settled.up_to_date in
    let done : serve_object served ≡ None =
    boxes_first p left m id short one most (λ other apart. rejoined other) refl refl none
    ∙ ap (option_map (with_mails served)) (box_done (mail_parts p) (mail_parts served) id k rest refl rejoined nobody none.boxes at) in
    sym (returns_once mode p now served t timeout result up
    (boxes_first p c p.objects.mails id short one most away refl refl none ∙ ap (option_map (with_mails now)) own)
    (record {
      unserved = done;
      up_to_date = kept_up_to_date c left p.objects.mutexes
          (kept_then c (release c t result) left (served_keeps p.base t (box_object id) k.order timeout result may no_mutex) (given_keeps (release c t result) message_bytes)) up;
      given = given_still mode p served refl (rejoined 648) settled.given;
    })
    (joined_waits p.base t (box_object id) k.order timeout may) refl
    ∙ ap (λ base. record { parts = mails_to p (give_bytes base message_bytes) m; outcome = Returned result }) (base_back p.base t (box_object id) k.order timeout result may))

-- a call for a message of a mailbox does what the paragraph says
pub box_call_is_paragraph : (mode : Mode) (p : Parts) (t id : ℕ) (timeout : ℤ) (k : Mailbox) → IsSettled mode p → MayWait p.base t → 1 ≤ id → box_at p.objects.mails id ≡ Some k →
    mail_waits p (received_from_box (mail_parts p) t id timeout (Some k)) ≡ paragraph mode p t (box_object id) k.order timeout p.objects
unfolding paragraph
box_call_is_paragraph mode p t id timeout k settled may one at =
    let few = settled.short.boxes in
    let inside = entry_inside p.objects.mails.boxes id k at in
    box_case mode p t id timeout k k.messages refl may settled.short one (omega (arith, few, inside)) at (has_settled mode p settled)
