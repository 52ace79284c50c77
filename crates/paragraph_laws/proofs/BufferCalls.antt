-- A send to a message buffer, and a receive from one, do what the paragraph says, with all that settles after them.
use Rattle.std.proofs.Common.{◌≡◌, ℕ, ◌<◌, ◌≤◌, inl, inr, Bool, true, false, not, append-nil, cond, length, List, [], ◌∷◌, ◌++◌, Option, Some, None, refl, ◌∙◌, ap, sym, subst, ℤ, pos, negsuc, arith}
use Rattle.std.specs.Bool.{◌==◌}
use Rattle.std.specs.Option.{option_map_or}
use Rattle.std.specs.Ordering.{int_eq}
use Rattle.std.specs.Prelude.{nat_lt}
use Rattle.std.proofs.lemmas.List.{get_or-set_other}
use Rattle.std.proofs.lemmas.List.Elements.{filter-append}
use Rattle.tk_types.specs.declared.answer.Answer.{Answer}
use Rattle.tk_types.specs.declared.answer.Outcome.TheVariants.{Blocked, Returned}
use Rattle.tk_types.specs.declared.error_code.Er.TheVariants as er
use Rattle.tk_types.specs.declared.run.Mode.{Mode}
use Rattle.tk_types.specs.declared.task.Order.{Order}
use Rattle.tk_types.specs.declared.task.Order.TheVariants.{Fifo, Priority}
use Rattle.tk_types.specs.declared.task.Phase.TheVariants.{Ready}
use Rattle.tk_types.specs.declared.task.Task.{Task}
use Rattle.kernel_model.specs.LawWords.Once.{times}
use Rattle.kernel_model.specs.Words.Checks.{failed, plain}
use Rattle.kernel_model.specs.Words.Orders.{entry, insert_behind, to_back, without}
use Rattle.kernel_model.specs.Tasks.Base.{Base, current, is_waiting, is_waiting_phase, make_wait, release, task_at, waiting_in, waits_for, waits_somewhere}
use Rattle.kernel_model.specs.SemFlags.Trial.{MayWait}
use Rattle.kernel_lemmas.proofs.Filters.{left_out}
use Rattle.kernel_lemmas.proofs.Releases.{release_others}
use Rattle.kernel_lemmas.proofs.Sorting.{not_here}
use Rattle.kernel_lemmas.proofs.Tables.{entry_at, entry_cases, entry_inside, entry_there, itself}
use Rattle.call_lemmas.proofs.Picks.{apart_from_first, joined}
use Rattle.call_lemmas.proofs.Serving.{queue_absent}
use Rattle.call_lemmas.proofs.Trial.{joined_waits, ready_for_none}
use Rattle.object_model.specs.Mails.Buffers.{buffer_serves, delivered, first_of, has_space, message_stored, receivers, sender_ended, senders, serve_buffer, serve_buffer_at, serve_buffers, with_messages}
use Rattle.object_model.specs.Mails.Calls.{MailDone, asked_into, asked_to_send, mail_done, received_from_buffer, sent_to_buffer, waits_or_ends}
use Rattle.object_model.specs.Mails.Tables.{MailParts, Mails, MessageBuffer, buffer_at, bytes_of, place_of, receivers_object, senders_object}
use Rattle.mail_laws.specs.BufferTrial.{MayTry, goes_on, joins as joins_queue, receive_trial, receive_trial_of, send_trial, send_trial_of}
use Rattle.mail_laws.specs.Trial.{ended_in}
use Rattle.mail_laws.proofs.Backs.{answered}
use Rattle.mail_laws.proofs.BufferTrials.{receive_is_trial, send_is_trial}
use Rattle.mail_laws.proofs.Returns.{joins_others, queue_elsewhere, queue_with}
use Rattle.mail_laws.proofs.Waits.{first_of_waits}
use Rattle.machine_model.specs.Events.Settle.{settle}
use Rattle.machine_model.specs.States.Objects.{Parts, mail_parts, with_mails}
use Rattle.machine_lemmas.proofs.Handing.{set_length}
use Rattle.machine_lemmas.proofs.Settling.{settled_none}
use Rattle.paragraph_laws.specs.Kept.{IsSound, after_kept, goes_back, kept_paragraph, settled_after}
use Rattle.paragraph_laws.specs.Paragraph.{IsSettled, WaitDone, joins, mail_waits, over_or_waits}
use Rattle.paragraph_laws.proofs.BufferLoop.{IsServed, on, stays_released}
use Rattle.paragraph_laws.proofs.BufferSettles.{HasRoom, IsBegun, settles_none, settles_same}
use Rattle.paragraph_laws.proofs.Goings.{same_stamp}
use Rattle.paragraph_laws.proofs.Joined.{joined_keeps}
use Rattle.paragraph_laws.proofs.NearBuffer.{IsNear, IsOwn, IsWaiter, cond_true, not_own, own_no_mutex, waits_apart}
use Rattle.paragraph_laws.proofs.OneKind.{none_of}
use Rattle.paragraph_laws.proofs.Settled.{may_try}
use Rattle.paragraph_laws.proofs.Tables.{stands_none}

-- ---- the caller has joined

-- what tasks ask for may have changed for the caller alone
pub record IsAsked (old now : Mails) (t : ℕ) : Type 0 where
  pub boxes : now.boxes ≡ old.boxes
  pub buffers : now.buffers ≡ old.buffers
  pub sending : (u : ℕ) → (u ≡ t → ⊥) → bytes_of now u ≡ bytes_of old u
  pub places : (u : ℕ) → (u ≡ t → ⊥) → place_of now u ≡ place_of old u

abbrev joined_parts : Parts → ℕ → ℕ → Order → ℤ → Mails → MailParts
joined_parts p t object order timeout asked = record { base = joins_queue p.base t object order timeout; table = asked; memory = p.memory }

back_gone : (t : ℕ) (ids : List ℕ) → without t (to_back t ids) ≡ without t ids
back_gone t ids =
    filter-append (λ u. not (u == t)) (without t ids) (t ∷ [])
    ∙ ap (λ last. without t (without t ids) ++ last) (not_here (not (t == t)) t [] (ap not (itself t)))
    ∙ append-nil (without t (without t ids))
    ∙ left_out (λ u. not (u == t)) t ids (ap not (itself t))

joined_since : (b : Base) (t object : ℕ) (order : Order) (timeout : ℤ) → MayTry b t → without t (make_wait b t object order timeout).since ≡ without t b.since
joined_since b t object order (pos n) try = entry_at (λ c. without t c.since ≡ without t b.since) (task_at b t) try.may.row b _ try.may.there (back_gone t b.since)
joined_since b t object order (negsuc n) try = entry_at (λ c. without t c.since ≡ without t b.since) (task_at b t) try.may.row b _ try.may.there (back_gone t b.since)

joined_slots : (b : Base) (t object : ℕ) (order : Order) (timeout : ℤ) → length (make_wait b t object order timeout).tasks ≡ length b.tasks
joined_slots b t object order (pos n) = entry_cases (λ c. length c.tasks ≡ length b.tasks) (task_at b t) b _ refl (λ k at. set_length b.tasks t _)
joined_slots b t object order (negsuc n) = entry_cases (λ c. length c.tasks ≡ length b.tasks) (task_at b t) b _ refl (λ k at. set_length b.tasks t _)

no_zero : (b : Base) (t : ℕ) → MayTry b t → 0 ≡ t → ⊥
no_zero b t try same = let here : task_at b 0 ≡ Some try.may.row = ap (task_at b) same ∙ try.may.there in let none = try.no_zero in cc (here, none)

-- little has changed once it has joined
near_joined : (p : Parts) (t id object : ℕ) (order : Order) (timeout : ℤ) (k : MessageBuffer) (asked : Mails) → MayTry p.base t → 1 ≤ id → IsOwn id object →
    buffer_at p.objects.mails id ≡ Some k → IsAsked p.objects.mails asked t → IsNear p t id (joined_parts p t object order timeout asked)
near_joined p t id object order timeout k asked try one own at is =
    let keeps = joined_keeps p.base t object order timeout try.may (own_no_mutex id object one own) in
    record {
      away = λ other apart beyond by. queue_elsewhere by p.base t object other order timeout (not_own id object other own apart beyond) try;
      boxes = is.boxes;
      many = ap length is.buffers;
      others = λ other apart. ap (λ table. entry table other) is.buffers;
      row = k;
      at = ap (λ table. entry table id) is.buffers ∙ at;
      sending = is.sending;
      places = is.places;
      keeps = (record { lives = keeps.0.lives; bases = keeps.0.bases; awaits = keeps.0.awaits; ids = keeps.0.ids }, keeps.1);
      zero = joins_others p.base t 0 object order timeout try (no_zero p.base t try) ∙ try.no_zero;
      since = joined_since p.base t object order timeout try;
    }

-- ---- the caller was served

waiter_by : (b : Base) (t : ℕ) (o : Option Task) → task_at b t ≡ o → waits_somewhere o ≡ true → IsWaiter b t
waiter_by b t None at waits = absurd (cc waits)
waiter_by b t (Some k) at waits = record { row = k; there = at; waits = waits }

-- its own wait ended
own_served : (t : ℕ) (answer : Answer) (b : Base) (q : MailParts) → q.base ≡ release b t answer → is_waiting b t ≡ true → IsServed t answer q
own_served t answer b q same waits =
    let waiter = waiter_by b t (task_at b t) refl waits in
    let now : Option Task = Some (record waiter.row { phase = Ready }) in
    let there : task_at (release b t answer) t ≡ now =
    entry_at (λ c. task_at c t ≡ now) (task_at b t) waiter.row b _ waiter.there
    (cond_true (λ (c : Base). task_at c t ≡ now) (is_waiting_phase waiter.row.phase) _ b waiter.waits (entry_there b.tasks t waiter.row now waiter.there)) in
    record {
      row = record waiter.row { phase = Ready };
      there = ap (λ base. task_at base t) same ∙ there;
      ready = refl;
      ended = ap (ended_in t) same ∙ answered b t answer waits;
    }

-- ---- what the call comes to

-- where it was served
served_case : (mode : Mode) (p : Parts) (t id : ℕ) (timeout : ℤ) (answer : Answer) (now q : MailParts) (plainly : Parts) → IsBegun mode p t id → HasRoom p now → IsNear p t id now →
    serve_buffer now id ≡ Some q → IsServed t answer q →
    settled_after mode (record { parts = with_mails p (on p t q); outcome = Returned answer }) ≡ after_kept p t timeout (settle mode (with_mails p now)) plainly
served_case mode p t id timeout answer now q plainly begun room near is served =
    let same = settles_same mode p t id answer now q begun room near is served in
    ap (λ parts. record { parts = parts; outcome = Returned answer }) same.gone
    ∙ sym (ap (λ kept. after_kept p t timeout kept plainly) same.kept
    ∙ ap (λ found. option_map_or (goes_back p (with_mails p same.last) t) found (over_or_waits p plainly timeout)) same.served.ended
    ∙ ap (λ base. record { parts = record (with_mails p (on p t same.last)) { base = base }; outcome = Returned answer }) (same_stamp p.base same.last.base t (same.near.keeps.1 t)))

over_if : (mode : Mode) (p : Parts) (t object : ℕ) (order : Order) (timeout : ℤ) (asked : Mails) (at_once : Bool) → settle mode p ≡ p →
    settled_after mode (mail_waits p (cond {A = MailDone} at_once (mail_done (mail_parts p) (failed er.TmOut))
    (mail_done (record (mail_parts p) { base = make_wait p.base t object order timeout; table = asked }) Blocked)))
    ≡ cond {A = WaitDone} at_once (record { parts = p; outcome = failed er.TmOut })
    (record { parts = settle mode (joins p t object order timeout (record p.objects { mails = asked })); outcome = Blocked })
over_if mode p t object order timeout asked true still = ap (λ parts. record { parts = parts; outcome = failed er.TmOut }) still
over_if mode p t object order timeout asked false still = refl

still_waits : (old settled : Parts) (t : ℕ) (ended : Option Answer) (over : WaitDone) (waits : Bool) → waits ≡ true → option_map_or (goes_back old settled t) (cond waits None ended) over ≡ over
still_waits old settled t ended over true is = refl
still_waits old settled t ended over false is = absurd (cc is)

-- where nobody was served
unserved_case : (mode : Mode) (p : Parts) (t id object : ℕ) (order : Order) (timeout : ℤ) (asked : Mails) → IsBegun mode p t id → settle mode p ≡ p →
    IsNear p t id (joined_parts p t object order timeout asked) → serve_buffer (joined_parts p t object order timeout asked) id ≡ None →
    settled_after mode (mail_waits p (waits_or_ends (mail_parts p) t object order timeout asked))
    ≡ after_kept p t timeout (settle mode (with_mails p (joined_parts p t object order timeout asked))) (settle mode (joins p t object order timeout (record p.objects { mails = asked })))
unserved_case mode p t id object order timeout asked begun still near none =
    let now : MailParts = joined_parts p t object order timeout asked in
    let plainly : Parts = settle mode (joins p t object order timeout (record p.objects { mails = asked })) in
    over_if mode p t object order timeout asked (int_eq timeout (pos 0)) still
    ∙ sym (ap (λ kept. after_kept p t timeout kept plainly) (settles_none mode p t id now begun near none)
    ∙ still_waits p (with_mails p now) t _ (over_or_waits p plainly timeout) (is_waiting now.base t) (joined_waits p.base t object order timeout begun.may))

-- a serving leaves what tasks ask for
record LeavesAsked (q left : MailParts) : Type 0 where
  sending : left.table.sending ≡ q.table.sending
  into : left.table.into ≡ q.table.into

leaves_if : (q left : MailParts) (id : ℕ) (k : MessageBuffer) (s : ℕ) (fits : Bool) →
    cond fits (Some (sender_ended (message_stored q id k (bytes_of q.table s)) s)) None ≡ Some left → LeavesAsked q left
leaves_if q left id k s true served =
    let e : sender_ended (message_stored q id k (bytes_of q.table s)) s ≡ left = cc served in
    subst (LeavesAsked q) e (record { sending = refl; into = refl })
leaves_if q left id k s false served = absurd (cc served)

leaves_by : (q left : MailParts) (id : ℕ) (k : MessageBuffer) (receiver sender : Option ℕ) (messages : List (List ℕ)) → buffer_serves q id k receiver sender messages ≡ Some left → LeavesAsked q left
leaves_by q left id k (Some r) sender (oldest ∷ later) served =
    let e : delivered (with_messages q id k later) r oldest ≡ left = cc served in
    subst (LeavesAsked q) e (record { sending = refl; into = refl })
leaves_by q left id k (Some r) (Some s) [] served =
    let e : sender_ended (delivered q r (bytes_of q.table s)) s ≡ left = cc served in
    subst (LeavesAsked q) e (record { sending = refl; into = refl })
leaves_by q left id k (Some r) None [] served = absurd (cc served)
leaves_by q left id k None (Some s) messages served = leaves_if q left id k s (has_space k (bytes_of q.table s)) served
leaves_by q left id k None None messages served = absurd (cc served)

leaves_in : (q left : MailParts) (id : ℕ) (slot : Option MessageBuffer) → serve_buffer_at q id slot ≡ Some left → LeavesAsked q left
leaves_in q left id None served = absurd (cc served)
leaves_in q left id (Some k) served = leaves_by q left id k (first_of (receivers q.base id)) (first_of (senders q.base k id)) k.messages served

leaves_asked : (q left : MailParts) (id : ℕ) → serve_buffer q id ≡ Some left → LeavesAsked q left
unfolding serve_buffer
leaves_asked q left id served = leaves_in q left id (buffer_at q.table id) served

-- what a call begins with
begun_of : (mode : Mode) (p : Parts) (t id : ℕ) (k : MessageBuffer) → IsSettled mode p → MayTry p.base t → 1 ≤ id → buffer_at p.objects.mails id ≡ Some k → IsBegun mode p t id
begun_of mode p t id k settled try one at =
    let few = settled.short.buffers in
    let stands = entry_inside p.objects.mails.buffers id k at in
    record { settled = settled; may = try.may; none = try.no_zero; least = one; most = omega (arith, few, stands) }

room_of : (p : Parts) (t object : ℕ) (order : Order) (timeout : ℤ) (asked : Mails) → IsSound p → HasRoom p (joined_parts p t object order timeout asked)
room_of p t object order timeout asked sound = record {
  links = sound.links;
  slots = subst (λ (n : ℕ). n ≤ 256) (sym (joined_slots p.base t object order timeout)) sound.slots;
}

-- ---- a test that fails

fails_if : (test : Bool) (q : MailParts) → cond test (Some q) None ≡ None → test ≡ false
fails_if true q none = absurd (cc none)
fails_if false q none = refl

never_if : (test : Bool) (q left : MailParts) → test ≡ false → cond test (Some q) None ≡ Some left → ⊥
never_if true q left fails served = cc fails
never_if false q left fails served = cc served

-- ---- a send

send_now : Parts → ℕ → ℕ → List ℕ → ℤ → MessageBuffer → MailParts
send_now p t id bytes timeout k = joined_parts p t (senders_object id) k.order timeout (asked_to_send p.objects.mails t bytes)

asked_send : (p : Parts) (t : ℕ) (bytes : List ℕ) → IsAsked p.objects.mails (asked_to_send p.objects.mails t bytes) t
asked_send p t bytes = record {
  boxes = refl;
  buffers = refl;
  sending = λ u apart. get_or-set_other p.objects.mails.sending t u bytes [] apart;
  places = λ u apart. refl;
}

stored_served : (p : Parts) (t id : ℕ) (bytes own : List ℕ) (timeout : ℤ) (k : MessageBuffer) (left : MailParts) (fits : Bool) → MayTry p.base t →
    cond fits (Some (sender_ended (message_stored (send_now p t id bytes timeout k) id k own) t)) None ≡ Some left → IsServed t (plain (pos 0)) left
unfolding send_now
stored_served p t id bytes own timeout k left true try served =
    let now : MailParts = send_now p t id bytes timeout k in
    let e : sender_ended (message_stored now id k own) t ≡ left = cc served in
    subst (IsServed t (plain (pos 0))) e (own_served t (plain (pos 0)) now.base (sender_ended (message_stored now id k own) t) refl (joined_waits p.base t (senders_object id) k.order timeout try.may))
stored_served p t id bytes own timeout k left false try served = absurd (cc served)

passed_served : (p : Parts) (t id r : ℕ) (bytes own : List ℕ) (timeout : ℤ) (k : MessageBuffer) (left : MailParts) → MayTry p.base t → (r ≡ t → ⊥) →
    Some (sender_ended (delivered (send_now p t id bytes timeout k) r own) t) ≡ Some left → IsServed t (plain (pos 0)) left
unfolding send_now
passed_served p t id r bytes own timeout k left try apart served =
    let now : MailParts = send_now p t id bytes timeout k in
    let e : sender_ended (delivered now r own) t ≡ left = cc served in
    subst (IsServed t (plain (pos 0))) e
    (own_served t (plain (pos 0)) (release now.base r (plain (pos (length own)))) (sender_ended (delivered now r own) t) refl
    (ap waits_somewhere (release_others now.base r t (plain (pos (length own))) (λ e. apart (sym e))) ∙ joined_waits p.base t (senders_object id) k.order timeout try.may))

-- where somebody else stands first, its message doesn't fit, as before
first_never : (p : Parts) (t id first : ℕ) (bytes : List ℕ) (timeout : ℤ) (k : MessageBuffer) (messages : List (List ℕ)) (left : MailParts) → (first ≡ t → ⊥) →
    buffer_serves (mail_parts p) id k None (Some first) messages ≡ None → buffer_serves (send_now p t id bytes timeout k) id k None (Some first) messages ≡ Some left → ⊥
unfolding send_now
first_never p t id first bytes timeout k messages left apart none served =
    never_if (has_space k (bytes_of (asked_to_send p.objects.mails t bytes) first)) _ left
    (ap (has_space k) ((asked_send p t bytes).sending first apart) ∙ fails_if (has_space k (bytes_of p.objects.mails first)) _ none) served

first_if : (p : Parts) (t id first : ℕ) (rest behind : List ℕ) (bytes : List ℕ) (timeout : ℤ) (k : MessageBuffer) (messages : List (List ℕ)) (left : MailParts) (before : Bool) → MayTry p.base t →
    (first ≡ t → ⊥) → buffer_serves (mail_parts p) id k None (Some first) messages ≡ None →
    buffer_serves (send_now p t id bytes timeout k) id k None (first_of (cond before (t ∷ first ∷ rest) (first ∷ behind))) messages ≡ Some left → IsServed t (plain (pos 0)) left
unfolding send_now
first_if p t id first rest behind bytes timeout k messages left true try apart none served = stored_served p t id bytes _ timeout k left (has_space k (bytes_of (asked_to_send p.objects.mails t bytes) t)) try served
first_if p t id first rest behind bytes timeout k messages left false try apart none served = absurd (first_never p t id first bytes timeout k messages left apart none served)

-- whom the buffer serves then is the caller
send_served : (by : Order) (p : Parts) (t id : ℕ) (bytes : List ℕ) (timeout : ℤ) (k : MessageBuffer) (receiver : Option ℕ) (waiting : List ℕ) (messages : List (List ℕ)) (left : MailParts) →
    MayTry p.base t → times t waiting ≡ 0 → first_of (receivers p.base id) ≡ receiver → buffer_serves (mail_parts p) id k receiver (first_of waiting) messages ≡ None →
    buffer_serves (send_now p t id bytes timeout k) id k receiver (first_of (joined by (current p.base) t waiting)) messages ≡ Some left → IsServed t (plain (pos 0)) left
unfolding send_now
send_served by p t id bytes timeout k (Some r) waiting (oldest ∷ later) left try absent stand none served = absurd (cc none)
send_served by p t id bytes timeout k (Some r) (first ∷ rest) [] left try absent stand none served = absurd (cc none)
send_served Fifo p t id bytes timeout k (Some r) [] [] left try absent stand none served =
    passed_served p t id r bytes _ timeout k left try (waits_apart p.base t r (receivers_object id) (ready_for_none p.base t (receivers_object id) try.may) (first_of_waits Fifo p.base (receivers_object id) r stand)) served
send_served Priority p t id bytes timeout k (Some r) [] [] left try absent stand none served =
    passed_served p t id r bytes _ timeout k left try (waits_apart p.base t r (receivers_object id) (ready_for_none p.base t (receivers_object id) try.may) (first_of_waits Fifo p.base (receivers_object id) r stand)) served
send_served Fifo p t id bytes timeout k None [] messages left try absent stand none served =
    stored_served p t id bytes _ timeout k left (has_space k (bytes_of (asked_to_send p.objects.mails t bytes) t)) try served
send_served Priority p t id bytes timeout k None [] messages left try absent stand none served =
    stored_served p t id bytes _ timeout k left (has_space k (bytes_of (asked_to_send p.objects.mails t bytes) t)) try served
send_served Fifo p t id bytes timeout k None (first ∷ rest) messages left try absent stand none served =
    first_if p t id first rest (rest ++ t ∷ []) bytes timeout k messages left false try (apart_from_first t first rest absent) none served
send_served Priority p t id bytes timeout k None (first ∷ rest) messages left try absent stand none served =
    first_if p t id first rest (insert_behind (current p.base) t rest) bytes timeout k messages left (nat_lt (current p.base t) (current p.base first)) try (apart_from_first t first rest absent) none served

send_answers : (mode : Mode) (p : Parts) (t id : ℕ) (bytes : List ℕ) (timeout : ℤ) (k : MessageBuffer) (left : MailParts) → IsBegun mode p t id → MayTry p.base t →
    buffer_at p.objects.mails id ≡ Some k → serve_buffer (mail_parts p) id ≡ None → serve_buffer (send_now p t id bytes timeout k) id ≡ Some left → IsServed t (plain (pos 0)) left
unfolding serve_buffer send_now
send_answers mode p t id bytes timeout k left begun try at none served =
    let now : MailParts = send_now p t id bytes timeout k in
    send_served k.order p t id bytes timeout k (first_of (receivers p.base id)) (senders p.base k id) k.messages left try
    (queue_absent k.order p.base t (senders_object id) (ready_for_none p.base t (senders_object id) try.may)) refl (ap (serve_buffer_at (mail_parts p) id) (sym at) ∙ none)
    (ap (λ ids. buffer_serves now id k (first_of (receivers p.base id)) (first_of ids) k.messages) (sym (queue_with p.base t (senders_object id) k.order timeout try))
    ∙ ap (λ ids. buffer_serves now id k (first_of ids) (first_of (senders now.base k id)) k.messages)
    (sym (queue_elsewhere Fifo p.base t (senders_object id) (receivers_object id) k.order timeout (λ same. omega (arith, same)) try))
    ∙ ap (serve_buffer_at now id) (sym at)
    ∙ served)

send_case : (mode : Mode) (p : Parts) (t id : ℕ) (bytes : List ℕ) (timeout : ℤ) (k : MessageBuffer) (next : Option MailParts) → serve_buffer (send_now p t id bytes timeout k) id ≡ next →
    IsBegun mode p t id → IsSound p → MayTry p.base t → buffer_at p.objects.mails id ≡ Some k → serve_buffer (mail_parts p) id ≡ None → settle mode p ≡ p →
    settled_after mode (mail_waits p (send_trial_of (mail_parts p) t id bytes timeout k next))
    ≡ after_kept p t timeout (settle mode (with_mails p (send_now p t id bytes timeout k)))
    (settle mode (joins p t (senders_object id) k.order timeout (record p.objects { mails = asked_to_send p.objects.mails t bytes })))
unfolding send_now
send_case mode p t id bytes timeout k None is begun sound try at none still =
    unserved_case mode p t id (senders_object id) k.order timeout (asked_to_send p.objects.mails t bytes) begun still
    (near_joined p t id (senders_object id) k.order timeout k (asked_to_send p.objects.mails t bytes) try begun.least (inl refl) at (asked_send p t bytes)) is
send_case mode p t id bytes timeout k (Some q) is begun sound try at none still =
    let now : MailParts = send_now p t id bytes timeout k in
    let plainly : Parts = settle mode (joins p t (senders_object id) k.order timeout (record p.objects { mails = asked_to_send p.objects.mails t bytes })) in
    let late : MailDone = waits_or_ends (mail_parts p) t (senders_object id) k.order timeout (asked_to_send p.objects.mails t bytes) in
    let returned : Answer → MailDone = λ answer. mail_done (record q { base = goes_on p.base q.base t; table = record q.table { sending = p.objects.mails.sending } }) (Returned answer) in
    let served = send_answers mode p t id bytes timeout k q begun try at none is in
    ap (λ found. settled_after mode (mail_waits p (option_map_or returned found late))) served.ended
    ∙ ap (λ into. settled_after mode (record { parts = with_mails p (record (on p t q) { table = record q.table { sending = p.objects.mails.sending; into = into } }); outcome = Returned (plain (pos 0)) }))
    (leaves_asked now q id is).into
    ∙ served_case mode p t id timeout (plain (pos 0)) now q plainly begun (room_of p t (senders_object id) k.order timeout (asked_to_send p.objects.mails t bytes) sound)
    (near_joined p t id (senders_object id) k.order timeout k (asked_to_send p.objects.mails t bytes) try begun.least (inl refl) at (asked_send p t bytes)) is served

each_buffer : (p : MailParts) (id : ℕ) (k : MessageBuffer) → 1 ≤ id → serve_buffers p ≡ None → buffer_at p.table id ≡ Some k → serve_buffer p id ≡ None
unfolding serve_buffers
each_buffer p id k one none at = stands_none (serve_buffer p) id p.table.buffers k one at none

-- what has settled settles to itself
settled_still : (mode : Mode) (p : Parts) → IsSettled mode p → settle mode p ≡ p
settled_still mode p is = settled_none mode p is.up_to_date is.unserved is.given

-- a send to a message buffer, with all that settles after it, does what the paragraph says
pub send_call_is_paragraph : (mode : Mode) (p : Parts) (t id : ℕ) (bytes : List ℕ) (timeout : ℤ) (k : MessageBuffer) → IsSettled mode p → IsSound p → MayWait p.base t → 1 ≤ id →
    buffer_at p.objects.mails id ≡ Some k → t < length p.objects.mails.sending →
    settled_after mode (mail_waits p (sent_to_buffer (mail_parts p) t id bytes timeout (Some k)))
    ≡ kept_paragraph mode p t (senders_object id) k.order timeout (record p.objects { mails = asked_to_send p.objects.mails t bytes })
unfolding kept_paragraph send_trial send_now
send_call_is_paragraph mode p t id bytes timeout k settled sound may one at inside =
    let try = may_try p t sound may in
    let none = each_buffer (mail_parts p) id k one (none_of p settled.unserved).buffers at in
    ap (λ done. settled_after mode (mail_waits p done)) (send_is_trial (mail_parts p) t id bytes timeout k try at inside none)
    ∙ send_case mode p t id bytes timeout k (serve_buffer (send_now p t id bytes timeout k) id) refl (begun_of mode p t id k settled try one at) sound try at none (settled_still mode p settled)

-- ---- a receive

receive_now : Parts → ℕ → ℕ → ℕ → ℤ → MailParts
receive_now p t id address timeout = joined_parts p t (receivers_object id) Fifo timeout (asked_into p.objects.mails t address)

asked_receive : (p : Parts) (t address : ℕ) → IsAsked p.objects.mails (asked_into p.objects.mails t address) t
asked_receive p t address = record {
  boxes = refl;
  buffers = refl;
  sending = λ u apart. refl;
  places = λ u apart. get_or-set_other p.objects.mails.into t u address 0 apart;
}

-- the caller was served, with some answer
record IsAnswered (t : ℕ) (q : MailParts) : Type 0 where
  answer : Answer
  served : IsServed t answer q

oldest_served : (p : Parts) (t id address : ℕ) (timeout : ℤ) (k : MessageBuffer) (oldest : List ℕ) (later : List (List ℕ)) (left : MailParts) → MayTry p.base t →
    Some (delivered (with_messages (receive_now p t id address timeout) id k later) t oldest) ≡ Some left → IsAnswered t left
unfolding receive_now
oldest_served p t id address timeout k oldest later left try served =
    let now : MailParts = receive_now p t id address timeout in
    let result : Answer = plain (pos (length oldest)) in
    let e : delivered (with_messages now id k later) t oldest ≡ left = cc served in
    record {
      answer = result;
      served = subst (IsServed t result) e
          (own_served t result now.base (delivered (with_messages now id k later) t oldest) refl (joined_waits p.base t (receivers_object id) Fifo timeout try.may));
    }

sender_served : (p : Parts) (t id s address : ℕ) (timeout : ℤ) (k : MessageBuffer) (bytes : List ℕ) (left : MailParts) → MayTry p.base t → waits_for p.base (senders_object id) s ≡ true →
    Some (sender_ended (delivered (receive_now p t id address timeout) t bytes) s) ≡ Some left → IsAnswered t left
unfolding receive_now
sender_served p t id s address timeout k bytes left try waits served =
    let now : MailParts = receive_now p t id address timeout in
    let result : Answer = plain (pos (length bytes)) in
    let first : MailParts = delivered now t bytes in
    let apart : s ≡ t → ⊥ = waits_apart p.base t s (senders_object id) (ready_for_none p.base t (senders_object id) try.may) waits in
    let still : waits_for first.base (senders_object id) s ≡ true =
    ap (waiting_in (senders_object id)) (release_others now.base t s result apart ∙ joins_others p.base t s (receivers_object id) Fifo timeout try apart) ∙ waits in
    let e : sender_ended first s ≡ left = cc served in
    record {
      answer = result;
      served = subst (IsServed t result) e (stays_released t s (senders_object id) result (plain (pos 0)) first still
          (own_served t result now.base first refl (joined_waits p.base t (receivers_object id) Fifo timeout try.may)));
    }

-- whom the buffer serves then is the caller
receive_served : (p : Parts) (t id address : ℕ) (timeout : ℤ) (k : MessageBuffer) (waiting : List ℕ) (sender : Option ℕ) (messages : List (List ℕ)) (left : MailParts) → MayTry p.base t →
    first_of (senders p.base k id) ≡ sender → buffer_serves (mail_parts p) id k (first_of waiting) sender messages ≡ None →
    buffer_serves (receive_now p t id address timeout) id k (first_of (waiting ++ t ∷ [])) sender messages ≡ Some left → IsAnswered t left
unfolding receive_now
receive_served p t id address timeout k (first ∷ rest) sender (oldest ∷ later) left try stand none served = absurd (cc none)
receive_served p t id address timeout k (first ∷ rest) (Some s) [] left try stand none served = absurd (cc none)
receive_served p t id address timeout k (first ∷ rest) None [] left try stand none served = absurd (cc served)
receive_served p t id address timeout k [] sender (oldest ∷ later) left try stand none served = oldest_served p t id address timeout k oldest later left try served
receive_served p t id address timeout k [] (Some s) [] left try stand none served =
    sender_served p t id s address timeout k _ left try (first_of_waits k.order p.base (senders_object id) s stand) served
receive_served p t id address timeout k [] None [] left try stand none served = absurd (cc served)

receive_answers : (mode : Mode) (p : Parts) (t id address : ℕ) (timeout : ℤ) (k : MessageBuffer) (left : MailParts) → MayTry p.base t →
    buffer_at p.objects.mails id ≡ Some k → serve_buffer (mail_parts p) id ≡ None → serve_buffer (receive_now p t id address timeout) id ≡ Some left → IsAnswered t left
unfolding serve_buffer receive_now
receive_answers mode p t id address timeout k left try at none served =
    let now : MailParts = receive_now p t id address timeout in
    receive_served p t id address timeout k (receivers p.base id) (first_of (senders p.base k id)) k.messages left try refl (ap (serve_buffer_at (mail_parts p) id) (sym at) ∙ none)
    (ap (λ ids. buffer_serves now id k (first_of ids) (first_of (senders p.base k id)) k.messages) (sym (queue_with p.base t (receivers_object id) Fifo timeout try))
    ∙ ap (λ ids. buffer_serves now id k (first_of (receivers now.base id)) (first_of ids) k.messages)
    (sym (queue_elsewhere k.order p.base t (receivers_object id) (senders_object id) Fifo timeout (λ same. omega (arith, same)) try))
    ∙ ap (serve_buffer_at now id) (sym at)
    ∙ served)

receive_case : (mode : Mode) (p : Parts) (t id address : ℕ) (timeout : ℤ) (k : MessageBuffer) (next : Option MailParts) → serve_buffer (receive_now p t id address timeout) id ≡ next →
    IsBegun mode p t id → IsSound p → MayTry p.base t → buffer_at p.objects.mails id ≡ Some k → serve_buffer (mail_parts p) id ≡ None → settle mode p ≡ p →
    settled_after mode (mail_waits p (receive_trial_of (mail_parts p) t id address timeout next))
    ≡ after_kept p t timeout (settle mode (with_mails p (receive_now p t id address timeout)))
    (settle mode (joins p t (receivers_object id) Fifo timeout (record p.objects { mails = asked_into p.objects.mails t address })))
unfolding receive_now
receive_case mode p t id address timeout k None is begun sound try at none still =
    unserved_case mode p t id (receivers_object id) Fifo timeout (asked_into p.objects.mails t address) begun still
    (near_joined p t id (receivers_object id) Fifo timeout k (asked_into p.objects.mails t address) try begun.least (inr refl) at (asked_receive p t address)) is
receive_case mode p t id address timeout k (Some q) is begun sound try at none still =
    let now : MailParts = receive_now p t id address timeout in
    let plainly : Parts = settle mode (joins p t (receivers_object id) Fifo timeout (record p.objects { mails = asked_into p.objects.mails t address })) in
    let late : MailDone = waits_or_ends (mail_parts p) t (receivers_object id) Fifo timeout (asked_into p.objects.mails t address) in
    let returned : Answer → MailDone = λ answer. mail_done (record q { base = goes_on p.base q.base t; table = record q.table { into = p.objects.mails.into } }) (Returned answer) in
    let is_answered = receive_answers mode p t id address timeout k q try at none is in
    let answer : Answer = is_answered.answer in
    ap (λ found. settled_after mode (mail_waits p (option_map_or returned found late))) is_answered.served.ended
    ∙ ap (λ sending. settled_after mode (record { parts = with_mails p (record (on p t q) { table = record q.table { sending = sending; into = p.objects.mails.into } }); outcome = Returned answer }))
    (leaves_asked now q id is).sending
    ∙ served_case mode p t id timeout answer now q plainly begun (room_of p t (receivers_object id) Fifo timeout (asked_into p.objects.mails t address) sound)
    (near_joined p t id (receivers_object id) Fifo timeout k (asked_into p.objects.mails t address) try begun.least (inr refl) at (asked_receive p t address)) is is_answered.served

-- a receive from a message buffer, with all that settles after it, does what the paragraph says
pub receive_call_is_paragraph : (mode : Mode) (p : Parts) (t id address : ℕ) (timeout : ℤ) (k : MessageBuffer) → IsSettled mode p → IsSound p → MayWait p.base t → 1 ≤ id →
    buffer_at p.objects.mails id ≡ Some k → t < length p.objects.mails.into →
    settled_after mode (mail_waits p (received_from_buffer (mail_parts p) t id address timeout (Some k)))
    ≡ kept_paragraph mode p t (receivers_object id) Fifo timeout (record p.objects { mails = asked_into p.objects.mails t address })
unfolding kept_paragraph receive_trial receive_now
receive_call_is_paragraph mode p t id address timeout k settled sound may one at inside =
    let try = may_try p t sound may in
    let none = each_buffer (mail_parts p) id k one (none_of p settled.unserved).buffers at in
    ap (λ done. settled_after mode (mail_waits p done)) (receive_is_trial (mail_parts p) t id address timeout k try at inside none)
    ∙ receive_case mode p t id address timeout k (serve_buffer (receive_now p t id address timeout) id) refl (begun_of mode p t id k settled try one at) sound try at none (settled_still mode p settled)
