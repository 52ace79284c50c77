-- Once the caller of a buffer was served, all that settles comes to servings of this buffer alone, and to the same whether the caller
-- has gone on before them or goes on after them.
use Rattle.std.proofs.Common.{◌≡◌, ℕ, zero, suc, ◌≤◌, Bool, true, false, cond, length, List, [], ◌∷◌, Option, Some, None, refl, ◌∙◌, ap, sym, subst, pos}
use Rattle.std.specs.Option.{option_map}
use Rattle.std.specs.Prelude.{slice_set}
use Rattle.tk_types.specs.declared.answer.Answer.{Answer}
use Rattle.tk_types.specs.declared.task.Order.TheVariants.{Fifo}
use Rattle.tk_types.specs.declared.task.Phase.TheVariants.{Ready}
use Rattle.tk_types.specs.declared.task.Task.{Task}
use Rattle.kernel_model.specs.SemFlags.Trial.{MayWait}
use Rattle.kernel_model.specs.Words.Checks.{plain}
use Rattle.kernel_model.specs.Words.Orders.{entry}
use Rattle.kernel_model.specs.Tasks.Base.{base_in, current_in, is_dormant_phase, release, task_at, waiting_in, waits_for, waits_in}
use Rattle.kernel_lemmas.proofs.Releases.{release_others}
use Rattle.call_lemmas.proofs.Trial.{ready_for_none}
use Rattle.object_model.specs.Mails.Buffers.{buffer_serves, delivered, first_of, has_space, message_stored, receivers, sender_ended, senders, serve_buffer, serve_buffer_at, with_messages}
use Rattle.object_model.specs.Mails.Bytes.{with_bytes}
use Rattle.object_model.specs.Mails.Tables.{MailParts, MessageBuffer, bytes_of, place_of, receivers_object, senders_object}
use Rattle.object_model.specs.Mutexes.Tables.{awaited_in_phase}
use Rattle.mail_laws.specs.BufferTrial.{goes_on}
use Rattle.mail_laws.specs.Trial.{ended_in}
use Rattle.mail_laws.proofs.Waits.{first_of_waits}
use Rattle.machine_model.specs.States.Objects.{Parts}
use Rattle.paragraph_laws.proofs.Goings.{IsIdle, ended_kept, goes_queue, goes_released}
use Rattle.paragraph_laws.proofs.Joined.{KeepsPriorities, kept_then, written_keeps}
use Rattle.paragraph_laws.proofs.NearBuffer.{IsNear, near_delivered, sender_waits, waiter_of, waits_apart}

-- ---- the caller was served

-- its wait is over with an answer, and it is ready
pub record IsServed (t : ℕ) (answer : Answer) (q : MailParts) : Type 0 where
  pub row : Task
  pub there : task_at q.base t ≡ Some row
  pub ready : row.phase ≡ Ready
  pub ended : ended_in t q.base ≡ Some answer

served_idle : (t object : ℕ) (answer : Answer) (q : MailParts) → IsServed t answer q → waits_for q.base object t ≡ false
served_idle t object answer q is = ap (waiting_in object) is.there ∙ ap (waits_in object) is.ready

-- who waits is another task
served_apart : (t v object : ℕ) (answer : Answer) (q : MailParts) → IsServed t answer q → waits_for q.base object v ≡ true → v ≡ t → ⊥
served_apart t v object answer q is waits = waits_apart q.base t v object (served_idle t object answer q is) waits

-- so it stays when another one's wait ends
pub stays_released : (t v object : ℕ) (answer result : Answer) (q : MailParts) → waits_for q.base object v ≡ true → IsServed t answer q →
    IsServed t answer (record q { base = release q.base v result })
stays_released t v object answer result q waits is =
    let apart = served_apart t v object answer q is waits in
    record {
      row = is.row;
      there = release_others q.base v t result (λ e. apart (sym e)) ∙ is.there;
      ready = is.ready;
      ended = ended_kept q.base t v result apart ∙ is.ended;
    }

-- the base alone tells it
served_seen : (t : ℕ) (answer : Answer) (q left : MailParts) → left.base ≡ q.base → IsServed t answer q → IsServed t answer left
served_seen t answer q left same is = record {
  row = is.row;
  there = ap (λ base. task_at base t) same ∙ is.there;
  ready = is.ready;
  ended = ap (ended_in t) same ∙ is.ended;
}

stays_stored : (t id s : ℕ) (answer : Answer) (q left : MailParts) (k : MessageBuffer) (fits : Bool) → waits_for q.base (senders_object id) s ≡ true → IsServed t answer q →
    cond fits (Some (sender_ended (message_stored q id k (bytes_of q.table s)) s)) None ≡ Some left → IsServed t answer left
stays_stored t id s answer q left k true waits is served =
    let e : sender_ended (message_stored q id k (bytes_of q.table s)) s ≡ left = cc served in
    subst (IsServed t answer) e (served_seen t answer (record q { base = release q.base s (plain (pos 0)) }) _ refl (stays_released t s (senders_object id) answer (plain (pos 0)) q waits is))
stays_stored t id s answer q left k false waits is served = absurd (cc served)

stays_by : (t id : ℕ) (answer : Answer) (q left : MailParts) (k : MessageBuffer) (receiver sender : Option ℕ) (messages : List (List ℕ)) →
    first_of (receivers q.base id) ≡ receiver → first_of (senders q.base k id) ≡ sender → buffer_serves q id k receiver sender messages ≡ Some left → IsServed t answer q →
    IsServed t answer left
stays_by t id answer q left k (Some r) sender (oldest ∷ later) receives sends served is =
    let e : delivered (with_messages q id k later) r oldest ≡ left = cc served in
    subst (IsServed t answer) e (served_seen t answer (record q { base = release q.base r (plain (pos (length oldest))) }) _ refl
    (stays_released t r (receivers_object id) answer (plain (pos (length oldest))) q (first_of_waits Fifo q.base (receivers_object id) r receives) is))
stays_by t id answer q left k (Some r) (Some s) [] receives sends served is =
    let result : Answer = plain (pos (length (bytes_of q.table s))) in
    let first : MailParts = record q { base = release q.base r result } in
    let waits_in = first_of_waits Fifo q.base (receivers_object id) r receives in
    let waits_out = first_of_waits k.order q.base (senders_object id) s sends in
    let e : sender_ended (delivered q r (bytes_of q.table s)) s ≡ left = cc served in
    subst (IsServed t answer) e (served_seen t answer (record first { base = release first.base s (plain (pos 0)) }) _ refl
    (stays_released t s (senders_object id) answer (plain (pos 0)) first (sender_waits q.base id r s result waits_in waits_out)
    (stays_released t r (receivers_object id) answer result q waits_in is)))
stays_by t id answer q left k (Some r) None [] receives sends served is = absurd (cc served)
stays_by t id answer q left k None (Some s) messages receives sends served is =
    stays_stored t id s answer q left k (has_space k (bytes_of q.table s)) (first_of_waits k.order q.base (senders_object id) s sends) is served
stays_by t id answer q left k None None messages receives sends served is = absurd (cc served)

-- and when the buffer serves others
pub served_stays : (p : Parts) (t id : ℕ) (answer : Answer) (q left : MailParts) → IsNear p t id q → serve_buffer q id ≡ Some left → IsServed t answer q → IsServed t answer left
unfolding serve_buffer
served_stays p t id answer q left near served is =
    stays_by t id answer q left near.row (first_of (receivers q.base id)) (first_of (senders q.base near.row id)) near.row.messages refl refl
    (ap (serve_buffer_at q id) (sym near.at) ∙ served) is

-- ---- the caller goes on

-- as if it hadn't joined
abbrev pub on : Parts → ℕ → MailParts → MailParts
on p t q = record {
  base = goes_on p.base q.base t;
  table = record q.table { sending = p.objects.mails.sending; into = p.objects.mails.into };
  memory = q.memory;
}

idle_then : (p : Parts) (t id : ℕ) (answer : Answer) (q : MailParts) → MayWait p.base t → IsNear p t id q → IsServed t answer q → IsIdle p.base q.base t
idle_then p t id answer q may near is = record {
  before = λ object. ready_for_none p.base t object may;
  now = λ object. served_idle t object answer q is;
  none = λ object. ap (waiting_in object) near.zero;
  since = near.since;
}

-- a wait that ends
ends_on : (p : Parts) (t id v object : ℕ) (answer result : Answer) (q : MailParts) → IsNear p t id q → IsServed t answer q → waits_for q.base object v ≡ true →
    release (goes_on p.base q.base t) v result ≡ goes_on p.base (release q.base v result) t
ends_on p t id v object answer result q near is waits =
    let waiter = waiter_of q.base v object waits in
    sym (goes_released p.base q.base t v result waiter.row (served_apart t v object answer q is waits)
    (waits_apart q.base 0 v object (ap (waiting_in object) near.zero) waits) waiter.there waiter.waits)

delivered_on : (p : Parts) (t id r : ℕ) (answer : Answer) (bytes : List ℕ) (q : MailParts) → IsNear p t id q → IsServed t answer q → waits_for q.base (receivers_object id) r ≡ true →
    delivered (on p t q) r bytes ≡ on p t (delivered q r bytes)
delivered_on p t id r answer bytes q near is waits =
    ap (λ base. record (on p t q) { base = base; memory = with_bytes q.memory (place_of p.objects.mails r) bytes })
    (ends_on p t id r (receivers_object id) answer (plain (pos (length bytes))) q near is waits)
    ∙ ap (λ place. record (on p t q) { base = goes_on p.base (release q.base r (plain (pos (length bytes)))) t; memory = with_bytes q.memory place bytes })
    (sym (near.places r (served_apart t r (receivers_object id) answer q is waits)))

sent_on : (p : Parts) (t id s : ℕ) (answer : Answer) (q : MailParts) → IsNear p t id q → IsServed t answer q → waits_for q.base (senders_object id) s ≡ true →
    sender_ended (on p t q) s ≡ on p t (sender_ended q s)
sent_on p t id s answer q near is waits = ap (λ base. record (on p t q) { base = base }) (ends_on p t id s (senders_object id) answer (plain (pos 0)) q near is waits)

stored_on : (p : Parts) (t id s : ℕ) (answer : Answer) (q : MailParts) (k : MessageBuffer) (bytes : List ℕ) (fits : Bool) → IsNear p t id q → IsServed t answer q →
    waits_for q.base (senders_object id) s ≡ true →
    cond fits (Some (sender_ended (message_stored (on p t q) id k bytes) s)) None ≡ option_map (on p t) (cond fits (Some (sender_ended (message_stored q id k bytes) s)) None)
stored_on p t id s answer q k bytes true near is waits =
    ap (λ base. Some (record (on p t (message_stored q id k bytes)) { base = base })) (ends_on p t id s (senders_object id) answer (plain (pos 0)) q near is waits)
stored_on p t id s answer q k bytes false near is waits = refl

bytes_on : (p : Parts) (t id s : ℕ) (answer : Answer) (q : MailParts) → IsNear p t id q → IsServed t answer q → waits_for q.base (senders_object id) s ≡ true →
    bytes_of p.objects.mails s ≡ bytes_of q.table s
bytes_on p t id s answer q near is waits = sym (near.sending s (served_apart t s (senders_object id) answer q is waits))

on_by : (p : Parts) (t id : ℕ) (answer : Answer) (q : MailParts) (k : MessageBuffer) (receiver sender : Option ℕ) (messages : List (List ℕ)) → 1 ≤ id → IsNear p t id q → IsServed t answer q →
    first_of (receivers q.base id) ≡ receiver → first_of (senders q.base k id) ≡ sender →
    buffer_serves (on p t q) id k receiver sender messages ≡ option_map (on p t) (buffer_serves q id k receiver sender messages)
on_by p t id answer q k (Some r) sender (oldest ∷ later) one near is receives sends =
    let waits = first_of_waits Fifo q.base (receivers_object id) r receives in
    ap (λ (left : MailParts). Some (with_messages left id k later)) (delivered_on p t id r answer oldest q near is waits)
on_by p t id answer q k (Some r) (Some s) [] one near is receives sends =
    let waits_in = first_of_waits Fifo q.base (receivers_object id) r receives in
    let waits_out = first_of_waits k.order q.base (senders_object id) s sends in
    let bytes : List ℕ = bytes_of q.table s in
    let result : Answer = plain (pos (length bytes)) in
    let first : MailParts = delivered q r bytes in
    ap (λ it. Some (sender_ended (delivered (on p t q) r it) s)) (bytes_on p t id s answer q near is waits_out)
    ∙ ap (λ left. Some (sender_ended left s)) (delivered_on p t id r answer bytes q near is waits_in)
    ∙ ap Some
    (sent_on p t id s answer first (near_delivered p t id r bytes q one waits_in near)
    (served_seen t answer (record q { base = release q.base r result }) first refl (stays_released t r (receivers_object id) answer result q waits_in is))
    (sender_waits q.base id r s result waits_in waits_out))
on_by p t id answer q k (Some r) None [] one near is receives sends = refl
on_by p t id answer q k None (Some s) messages one near is receives sends =
    let waits = first_of_waits k.order q.base (senders_object id) s sends in
    ap (λ it. cond (has_space k it) (Some (sender_ended (message_stored (on p t q) id k it) s)) None) (bytes_on p t id s answer q near is waits)
    ∙ stored_on p t id s answer q k (bytes_of q.table s) (has_space k (bytes_of q.table s)) near is waits
on_by p t id answer q k None None messages one near is receives sends = refl

-- the buffer serves the same before and after
pub on_served : (p : Parts) (t id : ℕ) (answer : Answer) (q : MailParts) → MayWait p.base t → 1 ≤ id → IsNear p t id q → IsServed t answer q →
    serve_buffer (on p t q) id ≡ option_map (on p t) (serve_buffer q id)
unfolding serve_buffer
on_served p t id answer q may one near is =
    let idle = idle_then p t id answer q may near is in
    let k : MessageBuffer = near.row in
    ap (serve_buffer_at (on p t q) id) near.at
    ∙ ap (λ waiters. buffer_serves (on p t q) id k (first_of (receivers (on p t q).base id)) (first_of waiters) k.messages) (goes_queue p.base q.base t (senders_object id) idle k.order)
    ∙ ap (λ waiters. buffer_serves (on p t q) id k (first_of waiters) (first_of (senders q.base k id)) k.messages) (goes_queue p.base q.base t (receivers_object id) idle Fifo)
    ∙ on_by p t id answer q k (first_of (receivers q.base id)) (first_of (senders q.base k id)) k.messages one near is refl refl
    ∙ ap (λ slot. option_map (on p t) (serve_buffer_at q id slot)) (sym near.at)

zero_in : (xs : List (Option Task)) (t : ℕ) (slot : Option Task) → entry xs 0 ≡ None → (t ≡ 0 → slot ≡ None) → entry (slice_set xs t slot) 0 ≡ None
zero_in [] t slot none here = refl
zero_in (x ∷ xs) zero slot none here = here refl
zero_in (x ∷ xs) (suc t) slot none here = none

-- what has changed since is as little where the caller has gone on
pub near_on : (p : Parts) (t id : ℕ) (answer : Answer) (q : MailParts) → MayWait p.base t → IsNear p t id q → IsServed t answer q → task_at p.base 0 ≡ None → IsNear p t id (on p t q)
near_on p t id answer q may near is none = record {
  away = λ object apart beyond by. goes_queue p.base q.base t object (idle_then p t id answer q may near is) by ∙ near.away object apart beyond by;
  boxes = near.boxes;
  many = near.many;
  others = near.others;
  row = near.row;
  at = near.at;
  sending = λ u apart. refl;
  places = λ u apart. refl;
  keeps = kept_then p.base q.base (goes_on p.base q.base t) near.keeps (goes_keeps p t id answer q may near is);
  zero = zero_row p t q may near.zero none;
  since = refl;
}
  where
    zero_row : (p : Parts) (t : ℕ) (q : MailParts) → MayWait p.base t → task_at q.base 0 ≡ None → task_at p.base 0 ≡ None → task_at (goes_on p.base q.base t) 0 ≡ None
    zero_row p t q may now none = zero_in q.base.tasks t (task_at p.base t) now (λ e. ap (task_at p.base) e ∙ none)

    goes_keeps : (p : Parts) (t id : ℕ) (answer : Answer) (q : MailParts) → MayWait p.base t → IsNear p t id q → IsServed t answer q → KeepsPriorities q.base (goes_on p.base q.base t)
    goes_keeps p t id answer q may near is =
        written_keeps q.base (goes_on p.base q.base t) t is.row may.row (ap (slice_set q.base.tasks t) may.there) is.there
        (ap is_dormant_phase (may.ready ∙ sym is.ready))
        (ap base_in (sym may.there) ∙ sym (near.keeps.0.bases t) ∙ ap base_in is.there)
        (ap current_in (sym may.there) ∙ sym (near.keeps.1 t) ∙ ap current_in is.there)
        (ap awaited_in_phase (may.ready ∙ sym is.ready))
