-- One message buffer alone can serve, where all had settled before its senders and receivers changed, and its servings leave that so.
use Rattle.std.proofs.Common.{◌≡◌, ℕ, ◌+◌, ◌-◌, ◌≤◌, ◌⊎◌, inl, inr, Bool, true, false, cond, length, List, [], ◌∷◌, ◌++◌, Option, Some, None, refl, ◌∙◌, ap, sym, subst, pos, arith}
use Rattle.std.specs.Option.{option_map}
use Rattle.std.proofs.lemmas.Bool.Decides.{nat_tests}
use Rattle.tk_types.specs.declared.answer.Answer.{Answer}
use Rattle.tk_types.specs.declared.task.Order.TheVariants.{Fifo}
use Rattle.tk_types.specs.declared.task.Phase.{Phase}
use Rattle.tk_types.specs.declared.task.Phase.TheVariants.{Dormant, Ready, Waiting}
use Rattle.tk_types.specs.declared.task.Task.{Task}
use Rattle.kernel_model.specs.SemFlags.Trial.{MayWait}
use Rattle.kernel_model.specs.Words.Checks.{plain}
use Rattle.kernel_model.specs.Words.Orders.{without}
use Rattle.kernel_model.specs.Tasks.Base.{Base, is_dormant_phase, is_waiting_phase, release, task_at, waiting_in, waits_for, waits_in}
use Rattle.kernel_lemmas.proofs.Queues.{queue_release}
use Rattle.kernel_lemmas.proofs.Releases.{release_others}
use Rattle.kernel_lemmas.proofs.Tables.{entry_cases, entry_other, entry_split, entry_there}
use Rattle.call_lemmas.proofs.Trial.{ready_for_none}
use Rattle.object_model.specs.Mails.Buffers.{buffer_serves, delivered, first_of, has_space, message_stored, receivers, sender_ended, senders, serve_buffer, serve_buffer_at, serve_buffers, with_messages}
use Rattle.object_model.specs.Mails.Bytes.{with_bytes}
use Rattle.object_model.specs.Mails.Tables.{MailParts, MessageBuffer, buffer_at, bytes_of, place_of, receivers_object, senders_object}
use Rattle.object_model.specs.Mutexes.Tables.{awaited_in_phase}
use Rattle.mail_laws.proofs.Waits.{first_of_waits}
use Rattle.machine_model.specs.States.Objects.{Parts, dev_parts, kinds, mail_parts, pool_parts, serve_object, with_mails}
use Rattle.machine_lemmas.proofs.Handing.{set_length}
use Rattle.machine_lemmas.proofs.HandingServes.{AllKinds, mapped_none}
use Rattle.table_lemmas.specs.Short.{AreShort}
use Rattle.paragraph_laws.proofs.Joined.{IsNoMutex, KeepsPriorities, absent_of, kept_then, written_keeps}
use Rattle.paragraph_laws.proofs.OneKind.{NoneBut, NoneOf, only_kind}
use Rattle.paragraph_laws.proofs.Still.{SameQueue, acceptances_still, boxes_still, closes_still, endings_still, fixed_pools_still, mutexes_still, sem_flags_still, suspension_still, variable_pools_still}
use Rattle.paragraph_laws.proofs.Tables.{alone_serves, stands_none}

-- ---- a task that waits

-- its row
pub record IsWaiter (b : Base) (v : ℕ) : Type 0 where
  pub row : Task
  pub there : task_at b v ≡ Some row
  pub waits : is_waiting_phase row.phase ≡ true

phase_waits : (object : ℕ) (phase : Phase) → waits_in object phase ≡ true → is_waiting_phase phase ≡ true
phase_waits object Ready is = absurd (cc is)
phase_waits object Dormant is = absurd (cc is)
phase_waits object (Waiting other) is = refl

waiter_in : (b : Base) (v object : ℕ) (o : Option Task) → task_at b v ≡ o → waiting_in object o ≡ true → IsWaiter b v
waiter_in b v object None at waits = absurd (cc waits)
waiter_in b v object (Some k) at waits = record { row = k; there = at; waits = phase_waits object k.phase waits }

pub waiter_of : (b : Base) (v object : ℕ) → waits_for b object v ≡ true → IsWaiter b v
waiter_of b v object waits = waiter_in b v object (task_at b v) refl waits

one_phase : (object other : ℕ) (phase : Phase) → waits_in object phase ≡ true → (other ≡ object → ⊥) → waits_in other phase ≡ false
one_phase object other Ready here apart = absurd (cc here)
one_phase object other Dormant here apart = absurd (cc here)
one_phase object other (Waiting third) here apart = grind (arith, nat_tests, here, apart)

one_row : (object other : ℕ) (o : Option Task) → waiting_in object o ≡ true → (other ≡ object → ⊥) → waiting_in other o ≡ false
one_row object other None here apart = absurd (cc here)
one_row object other (Some k) here apart = one_phase object other k.phase here apart

-- it waits for nothing else
pub waits_once : (b : Base) (v object other : ℕ) → waits_for b object v ≡ true → (other ≡ object → ⊥) → waits_for b other v ≡ false
waits_once b v object other here apart = one_row object other (task_at b v) here apart

-- a task that waits for nothing is another one
pub waits_apart : (b : Base) (t v object : ℕ) → waits_for b object t ≡ false → waits_for b object v ≡ true → v ≡ t → ⊥
waits_apart b t v object idle waits same = let other : waits_for b object v ≡ false = ap (waits_for b object) same ∙ idle in cc (waits, other)

-- ---- the end of its wait

-- what holds of what a test chooses
pub cond_true : {A : Type 0} → (P : A → Type 0) (test : Bool) (x y : A) → test ≡ true → P x → P (cond test x y)
cond_true P true x y is has = has
cond_true P false x y is has = absurd (cc is)

cond_both : {A : Type 0} → (P : A → Type 0) (test : Bool) (x y : A) → P x → P y → P (cond test x y)
cond_both P true x y first second = first
cond_both P false x y first second = second

alive_phase : (object : ℕ) (phase : Phase) → waits_in object phase ≡ true → is_dormant_phase phase ≡ false
alive_phase object Ready is = refl
alive_phase object Dormant is = absurd (cc is)
alive_phase object (Waiting other) is = refl

awaits_none : (object : ℕ) (phase : Phase) → waits_in object phase ≡ true → IsNoMutex object → awaited_in_phase phase ≡ 0
awaits_none object Ready is none = refl
awaits_none object Dormant is none = refl
awaits_none object (Waiting other) is none =
    let same : other ≡ object = grind (arith, nat_tests, is) in
    ap (λ it. awaited_in_phase (Waiting it)) same ∙ ap (λ test. cond test (object - 255) 0) none

-- it changes no priority, where the wait was for no mutex
pub release_keeps : (b : Base) (v object : ℕ) (answer : Answer) → waits_for b object v ≡ true → IsNoMutex object → KeepsPriorities b (release b v answer)
release_keeps b v object answer waits none =
    entry_split (KeepsPriorities b) (task_at b v) b _ (λ free. let idle = ap (waiting_in object) free in absurd (cc (idle, waits)))
    (λ k at.
    let here : waits_in object k.phase ≡ true = ap (waiting_in object) (sym at) ∙ waits in
    cond_true (KeepsPriorities b) (is_waiting_phase k.phase) _ b (phase_waits object k.phase here)
    (written_keeps b _ v k (record k { phase = Ready }) refl at (sym (alive_phase object k.phase here)) refl refl (sym (awaits_none object k.phase here none))))

release_since : (b : Base) (v : ℕ) (answer : Answer) → (release b v answer).since ≡ b.since
release_since b v answer = entry_cases (λ c. c.since ≡ b.since) (task_at b v) b _ refl (λ k at. cond_both (λ c. c.since ≡ b.since) (is_waiting_phase k.phase) _ b refl refl)

-- ---- what has changed but for one buffer

-- all but the queues of one buffer, its messages, and what one task has asked for, is as in parts that had settled
pub record IsNear (p : Parts) (t id : ℕ) (q : MailParts) : Type 0 where
  pub away : (object : ℕ) → (object ≡ senders_object id → ⊥) → (object ≡ receivers_object id → ⊥) → SameQueue p.base q.base object
  pub boxes : q.table.boxes ≡ p.objects.mails.boxes
  pub many : length q.table.buffers ≡ length p.objects.mails.buffers
  pub others : (other : ℕ) → (other ≡ id → ⊥) → buffer_at q.table other ≡ buffer_at p.objects.mails other
  pub row : MessageBuffer
  pub at : buffer_at q.table id ≡ Some row
  pub sending : (u : ℕ) → (u ≡ t → ⊥) → bytes_of q.table u ≡ bytes_of p.objects.mails u
  pub places : (u : ℕ) → (u ≡ t → ⊥) → place_of q.table u ≡ place_of p.objects.mails u
  pub keeps : KeepsPriorities p.base q.base
  pub zero : task_at q.base 0 ≡ None
  pub since : without t q.base.since ≡ without t p.base.since

-- one of the two objects of the buffer
abbrev pub IsOwn : ℕ → ℕ → Type 0
IsOwn id object = (object ≡ senders_object id) ⊎ (object ≡ receivers_object id)

-- neither is a mutex
pub own_no_mutex : (id object : ℕ) → 1 ≤ id → IsOwn id object → IsNoMutex object
own_no_mutex id object one (inl sends) = grind (arith, nat_tests, sends, one)
own_no_mutex id object one (inr receives) = grind (arith, nat_tests, receives, one)

-- an object that is neither is another one
pub not_own : (id object other : ℕ) → IsOwn id object → (other ≡ senders_object id → ⊥) → (other ≡ receivers_object id → ⊥) → other ≡ object → ⊥
not_own id object other (inl sends) apart beyond same = apart (same ∙ sends)
not_own id object other (inr receives) apart beyond same = beyond (same ∙ receives)

zero_apart : (b : Base) (v object : ℕ) → task_at b 0 ≡ None → waits_for b object v ≡ true → v ≡ 0 → ⊥
zero_apart b v object none waits = waits_apart b 0 v object (ap (waiting_in object) none) waits

-- the wait of one of its waiters ends
pub near_released : (p : Parts) (t id v object : ℕ) (answer : Answer) (q : MailParts) → 1 ≤ id → IsOwn id object → waits_for q.base object v ≡ true → IsNear p t id q →
    IsNear p t id (record q { base = release q.base v answer })
near_released p t id v object answer q one own waits near = record {
  away = λ other apart beyond by.
      queue_release by q.base v other answer
      ∙ absent_of by q.base v other (waits_once q.base v object other waits (not_own id object other own apart beyond))
      ∙ near.away other apart beyond by;
  boxes = near.boxes;
  many = near.many;
  others = near.others;
  row = near.row;
  at = near.at;
  sending = near.sending;
  places = near.places;
  keeps = kept_then p.base q.base (release q.base v answer) near.keeps (release_keeps q.base v object answer waits (own_no_mutex id object one own));
  zero = release_others q.base v 0 answer (λ e. zero_apart q.base v object near.zero waits (sym e)) ∙ near.zero;
  since = ap (without t) (release_since q.base v answer) ∙ near.since;
}

-- its messages change
near_stored : (p : Parts) (t id : ℕ) (q : MailParts) (near : IsNear p t id q) (messages : List (List ℕ)) → IsNear p t id (with_messages q id near.row messages)
near_stored p t id q near messages = record {
  away = near.away;
  boxes = near.boxes;
  many = set_length q.table.buffers id (Some (record near.row { messages = messages })) ∙ near.many;
  others = λ other apart. entry_other q.table.buffers id other (Some (record near.row { messages = messages })) apart ∙ near.others other apart;
  row = record near.row { messages = messages };
  at = entry_there q.table.buffers id near.row (Some (record near.row { messages = messages })) near.at;
  sending = near.sending;
  places = near.places;
  keeps = near.keeps;
  zero = near.zero;
  since = near.since;
}

-- bytes go into memory
near_written : (p : Parts) (t id : ℕ) (q : MailParts) (memory : List ℕ) → IsNear p t id q → IsNear p t id (record q { memory = memory })
near_written p t id q memory near = record {
  away = near.away;
  boxes = near.boxes;
  many = near.many;
  others = near.others;
  row = near.row;
  at = near.at;
  sending = near.sending;
  places = near.places;
  keeps = near.keeps;
  zero = near.zero;
  since = near.since;
}

-- a message is delivered to a receiver
pub near_delivered : (p : Parts) (t id r : ℕ) (bytes : List ℕ) (q : MailParts) → 1 ≤ id → waits_for q.base (receivers_object id) r ≡ true → IsNear p t id q → IsNear p t id (delivered q r bytes)
near_delivered p t id r bytes q one waits near =
    near_written p t id (record q { base = release q.base r (plain (pos (length bytes))) }) (with_bytes q.memory (place_of q.table r) bytes)
    (near_released p t id r (receivers_object id) (plain (pos (length bytes))) q one (inr refl) waits near)

-- a sender's wait ends
pub near_sent : (p : Parts) (t id s : ℕ) (q : MailParts) → 1 ≤ id → waits_for q.base (senders_object id) s ≡ true → IsNear p t id q → IsNear p t id (sender_ended q s)
near_sent p t id s q one waits near = near_released p t id s (senders_object id) (plain (pos 0)) q one (inl refl) waits near

-- the sender waits still when the receiver's wait has ended
pub sender_waits : (b : Base) (id r s : ℕ) (answer : Answer) → waits_for b (receivers_object id) r ≡ true → waits_for b (senders_object id) s ≡ true →
    waits_for (release b r answer) (senders_object id) s ≡ true
sender_waits b id r s answer receives sends =
    ap (waiting_in (senders_object id)) (release_others b r s answer
    (waits_apart b r s (senders_object id) (waits_once b r (receivers_object id) (senders_object id) receives (λ e. omega (arith, e))) sends))
    ∙ sends

stored_near : (p : Parts) (t id s : ℕ) (q left : MailParts) (near : IsNear p t id q) (fits : Bool) → 1 ≤ id → waits_for q.base (senders_object id) s ≡ true →
    cond fits (Some (sender_ended (message_stored q id near.row (bytes_of q.table s)) s)) None ≡ Some left → IsNear p t id left
stored_near p t id s q left near true one waits served =
    let e : sender_ended (message_stored q id near.row (bytes_of q.table s)) s ≡ left = cc served in
    subst (IsNear p t id) e (near_sent p t id s (message_stored q id near.row (bytes_of q.table s)) one waits (near_stored p t id q near (near.row.messages ++ bytes_of q.table s ∷ [])))
stored_near p t id s q left near false one waits served = absurd (cc served)

near_by : (p : Parts) (t id : ℕ) (q left : MailParts) (near : IsNear p t id q) (receiver sender : Option ℕ) (messages : List (List ℕ)) → 1 ≤ id →
    first_of (receivers q.base id) ≡ receiver → first_of (senders q.base near.row id) ≡ sender → buffer_serves q id near.row receiver sender messages ≡ Some left →
    IsNear p t id left
near_by p t id q left near (Some r) sender (oldest ∷ later) one receives sends served =
    let e : delivered (with_messages q id near.row later) r oldest ≡ left = cc served in
    subst (IsNear p t id) e (near_delivered p t id r oldest (with_messages q id near.row later) one (first_of_waits Fifo q.base (receivers_object id) r receives) (near_stored p t id q near later))
near_by p t id q left near (Some r) (Some s) [] one receives sends served =
    let e : sender_ended (delivered q r (bytes_of q.table s)) s ≡ left = cc served in
    let waits_in = first_of_waits Fifo q.base (receivers_object id) r receives in
    let waits_out = first_of_waits near.row.order q.base (senders_object id) s sends in
    subst (IsNear p t id) e
    (near_sent p t id s (delivered q r (bytes_of q.table s)) one (sender_waits q.base id r s (plain (pos (length (bytes_of q.table s)))) waits_in waits_out)
    (near_delivered p t id r (bytes_of q.table s) q one waits_in near))
near_by p t id q left near (Some r) None [] one receives sends served = absurd (cc served)
near_by p t id q left near None (Some s) messages one receives sends served =
    stored_near p t id s q left near (has_space near.row (bytes_of q.table s)) one (first_of_waits near.row.order q.base (senders_object id) s sends) served
near_by p t id q left near None None messages one receives sends served = absurd (cc served)

-- any serving of the buffer
pub near_served : (p : Parts) (t id : ℕ) (q left : MailParts) → 1 ≤ id → IsNear p t id q → serve_buffer q id ≡ Some left → IsNear p t id left
unfolding serve_buffer
near_served p t id q left one near served =
    near_by p t id q left near (first_of (receivers q.base id)) (first_of (senders q.base near.row id)) near.row.messages one refl refl (ap (serve_buffer_at q id) (sym near.at) ∙ served)

-- ---- no other object serves

each_buffer : (p : MailParts) (id : ℕ) → 1 ≤ id → serve_buffers p ≡ None → (slot : Option MessageBuffer) → buffer_at p.table id ≡ slot → serve_buffer p id ≡ None
unfolding serve_buffers serve_buffer
each_buffer p id one none None at = ap (serve_buffer_at p id) at
each_buffer p id one none (Some k) at = stands_none (serve_buffer p) id p.table.buffers k one at none

space_if : (fits now : Bool) (one other : MailParts) → now ≡ fits → cond fits (Some one) None ≡ None → cond now (Some other) None ≡ None
space_if true now one other same is = absurd (cc is)
space_if false true one other same is = absurd (cc same)
space_if false false one other same is = refl

other_by : (p q : MailParts) (id : ℕ) (k : MessageBuffer) (receiver sender : Option ℕ) (messages : List (List ℕ)) → ((s : ℕ) → sender ≡ Some s → bytes_of q.table s ≡ bytes_of p.table s) →
    buffer_serves p id k receiver sender messages ≡ None → buffer_serves q id k receiver sender messages ≡ None
other_by p q id k (Some receiver) sender (oldest ∷ later) bytes is = absurd (cc is)
other_by p q id k (Some receiver) (Some sender) [] bytes is = absurd (cc is)
other_by p q id k (Some receiver) None [] bytes is = refl
other_by p q id k None (Some sender) messages bytes is =
    space_if (has_space k (bytes_of p.table sender)) (has_space k (bytes_of q.table sender)) _ _ (ap (has_space k) (bytes sender refl)) is
other_by p q id k None None messages bytes is = refl

other_in : (p q : MailParts) (t id : ℕ) (slot : Option MessageBuffer) → SameQueue p.base q.base (senders_object id) → SameQueue p.base q.base (receivers_object id) →
    waits_for p.base (senders_object id) t ≡ false → ((u : ℕ) → (u ≡ t → ⊥) → bytes_of q.table u ≡ bytes_of p.table u) →
    serve_buffer_at p id slot ≡ None → serve_buffer_at q id slot ≡ None
other_in p q t id None sends receives idle bytes is = refl
other_in p q t id (Some k) sends receives idle bytes is =
    ap (λ waiters. buffer_serves q id k (first_of (receivers q.base id)) (first_of waiters) k.messages) (sends k.order)
    ∙ ap (λ waiters. buffer_serves q id k (first_of waiters) (first_of (senders p.base k id)) k.messages) (receives Fifo)
    ∙ other_by p q id k (first_of (receivers p.base id)) (first_of (senders p.base k id)) k.messages
    (λ s first. bytes s (waits_apart p.base t s (senders_object id) idle (first_of_waits k.order p.base (senders_object id) s first))) is

other_none : (p : Parts) (t id other : ℕ) (q : MailParts) → MayWait p.base t → 1 ≤ id → 1 ≤ other → other ≤ 64 → id ≤ 64 → (other ≡ id → ⊥) → serve_buffers (mail_parts p) ≡ None → IsNear p t id q →
    serve_buffer q other ≡ None
unfolding serve_buffer
other_none p t id other q may least one most bound apart none near =
    ap (serve_buffer_at q other) (near.others other apart)
    ∙ other_in (mail_parts p) q t other (buffer_at p.objects.mails other)
    (near.away (senders_object other) (λ e. apart (omega (arith, e))) (λ e. omega (arith, e, most, least)))
    (near.away (receivers_object other) (λ e. omega (arith, e, bound, one)) (λ e. apart (omega (arith, e))))
    (ready_for_none p.base t (senders_object other) may) near.sending
    (each_buffer (mail_parts p) other one none (buffer_at p.objects.mails other) refl)

buffers_alone : (p : Parts) (t id : ℕ) (q : MailParts) → AreShort p.objects → MayWait p.base t → 1 ≤ id → id ≤ 64 → serve_buffers (mail_parts p) ≡ None → IsNear p t id q →
    serve_buffers q ≡ serve_buffer q id
unfolding serve_buffers
buffers_alone p t id q short may one bound none near =
    let few = short.buffers in
    let many = near.many in
    alone_serves (serve_buffer q) id q.table.buffers near.row one near.at
    (λ other in_it apart. let low = in_it.1 in other_none p t id other q may one in_it.0 (omega (arith, low, few, many)) bound apart none near)

but_buffers : (p : Parts) (t id : ℕ) (q : MailParts) → AreShort p.objects → 1 ≤ id → id ≤ 64 → NoneOf p → IsNear p t id q → NoneBut 3 kinds (with_mails p q)
unfolding NoneBut AllKinds
but_buffers p t id q short one most none near =
    let sems = short.sems in
    let flags = short.flags in
    let boxes = short.boxes in
    let mutexes = short.mutexes in
    let away = near.away in (
      mapped_none _ _ (sem_flags_still p.base q.base p.objects.sem_flags
          (λ i in_it. let low = in_it.1 in away (63 + i) (λ e. omega (arith, e, low, sems)) (λ e. omega (arith, e, low, sems)))
          (λ i in_it. let low = in_it.1 in away (127 + i) (λ e. omega (arith, e, low, flags)) (λ e. omega (arith, e, low, flags))) none.sem_flags),
      (
        mapped_none _ _ (boxes_still (mail_parts p) q near.boxes (λ i in_it. let low = in_it.1 in away (191 + i) (λ e. omega (arith, e, low, boxes)) (λ e. omega (arith, e, low, boxes))) none.boxes),
        (
          mapped_none _ _ (mutexes_still p.base q.base p.objects.mutexes (λ i in_it. let low = in_it.1 in away (255 + i) (λ e. omega (arith, e, low, mutexes, one)) (λ e. omega (arith, e, low, mutexes, one))) none.mutexes),
          (
            mapped_none _ _ (fixed_pools_still (pool_parts p) (pool_parts (with_mails p q)) refl (λ i in_it. let least = in_it.0 in away (447 + i) (λ e. omega (arith, e, most, least)) (λ e. omega (arith, e, most, least))) none.fixed),
            (
              mapped_none _ _ (variable_pools_still (pool_parts p) (pool_parts (with_mails p q)) refl refl (λ i in_it. away (511 + i) (λ e. omega (arith, e, most)) (λ e. omega (arith, e, most))) none.variable),
              (
                mapped_none _ _ (acceptances_still (dev_parts p) q (λ d least. away (575 + d) (λ e. omega (arith, e, most)) (λ e. omega (arith, e, most))) none.acceptances),
                (
                  mapped_none _ _ (endings_still (dev_parts p) q (λ dd least. away (584 + (dd - 1)) (λ e. omega (arith, e, most)) (λ e. omega (arith, e, most))) none.endings),
                  (
                    mapped_none _ _ (closes_still (dev_parts p) q (λ dd least. away (616 + (dd - 1)) (λ e. omega (arith, e, most)) (λ e. omega (arith, e, most))) none.closes),
                    (mapped_none _ _ (suspension_still (dev_parts p) q (away 648 (λ e. omega (arith, e, most)) (λ e. omega (arith, e, most))) none.suspension), tt),
                  ),
                ),
              ),
            ),
          ),
        ),
      ),
    )

-- so what is served first is what the buffer serves
pub buffer_first : (p : Parts) (t id : ℕ) (q : MailParts) → AreShort p.objects → MayWait p.base t → 1 ≤ id → id ≤ 64 → NoneOf p → IsNear p t id q →
    serve_object (with_mails p q) ≡ option_map (with_mails p) (serve_buffer q id)
unfolding serve_object
buffer_first p t id q short may one most none near =
    only_kind 3 kinds (with_mails p q) (but_buffers p t id q short one most none near)
    ∙ ap (option_map (with_mails p)) (buffers_alone p t id q short may one most none.buffers near)
