-- A send to a message buffer, and a receive from one, decide as their trials do.
use Rattle.std.proofs.Common.{◌≡◌, ℕ, ◌<◌, Bool, true, false, List, [], ◌∷◌, ◌++◌, Option, Some, None, length, refl, cond, ◌∙◌, ap, sym, ℤ, pos, arith}
use Rattle.std.specs.Prelude.{nat_lt}
use Rattle.std.specs.Option.{option_map_or}
use Rattle.std.proofs.lemmas.List.{get_or-set_same, get_or-set_other}
use Rattle.tk_types.specs.declared.answer.Answer.{Answer}
use Rattle.tk_types.specs.declared.answer.Outcome.TheVariants.{Returned}
use Rattle.tk_types.specs.declared.task.Order.{Order}
use Rattle.tk_types.specs.declared.task.Order.TheVariants.{Fifo, Priority}
use Rattle.tk_types.specs.declared.task.Task.{Task}
use Rattle.kernel_model.specs.LawWords.Once.{times}
use Rattle.kernel_model.specs.SemFlags.Calls.{would_be_first}
use Rattle.kernel_model.specs.Words.Checks.{done, plain}
use Rattle.kernel_model.specs.Words.Orders.{insert_behind}
use Rattle.kernel_model.specs.Tasks.Base.{Base, current, is_waiting, is_waiting_phase, release, task_at, waits_for, waits_somewhere}
use Rattle.kernel_lemmas.proofs.Releases.{release_others}
use Rattle.call_lemmas.proofs.Picks.{joined, apart_from_first}
use Rattle.call_lemmas.proofs.Serving.{queue_absent, waits_for_waits}
use Rattle.call_lemmas.proofs.Trial.{joined_waits, ready_for_none}
use Rattle.object_model.specs.Mails.Tables.{MessageBuffer, MailParts, senders_object, receivers_object, buffer_at, bytes_of, place_of}
use Rattle.object_model.specs.Mails.Bytes.{with_bytes}
use Rattle.object_model.specs.Mails.Buffers.{buffer_serves, delivered, first_of, has_space, message_stored, receivers, senders, sender_ended, sent_at_once, serve_buffer, serve_buffer_at, with_messages}
use Rattle.object_model.specs.Mails.Calls.{MailDone, asked_into, asked_to_send, mail_done, received, received_from_buffer, sent_or_waits, sent_to_buffer, taken_by_caller, waits_or_ends}
use Rattle.mail_laws.specs.BufferTrial.{MayTry, goes_on, joins, receive_trial, receive_trial_of, send_trial, send_trial_of}
use Rattle.mail_laws.proofs.Backs.{answered}
use Rattle.mail_laws.proofs.Returns.{alone, answered_before, before, beside, joins_others, joins_released, queue_elsewhere, queue_with}
use Rattle.mail_laws.proofs.Waits.{first_of_waits}

-- ---- rows of those that wait

record IsRow (b : Base) (u : ℕ) : Type 0 where
  row : Task
  there : task_at b u ≡ Some row
  waits : is_waiting_phase row.phase ≡ true

row_in : (b : Base) (u : ℕ) (o : Option Task) → task_at b u ≡ o → waits_somewhere o ≡ true → IsRow b u
row_in b u None at waits = absurd (cc waits)
row_in b u (Some k) at waits = record { row = k; there = at; waits = waits }

row_of : (b : Base) (u object : ℕ) → waits_for b object u ≡ true → IsRow b u
row_of b u object waits = row_in b u (task_at b u) refl (waits_for_waits b u object waits)

-- who waits isn't the caller, who is ready
not_caller : (b : Base) (t u object : ℕ) → MayTry b t → waits_for b object u ≡ true → u ≡ t → ⊥
not_caller b t u object try waits same =
    let idle : waits_for b object t ≡ false = ready_for_none b t object try.may in
    let here : waits_for b object t ≡ true = ap (waits_for b object) (sym same) ∙ waits in
    absurd (cc (idle, here))

-- ---- a send

send_parts : MailParts → ℕ → ℕ → List ℕ → ℤ → MessageBuffer → MailParts
send_parts p t id bytes timeout k = record p { base = joins p.base t (senders_object id) k.order timeout; table = asked_to_send p.table t bytes }

-- the bytes that were asked for are those that are sent
sent_bytes : (p : MailParts) (t : ℕ) (bytes : List ℕ) → t < length p.table.sending → bytes_of (asked_to_send p.table t bytes) t ≡ bytes
sent_bytes p t bytes inside = get_or-set_same p.table.sending t bytes [] inside

stored_back : (p : MailParts) (t id : ℕ) (bytes : List ℕ) (timeout : ℤ) (k : MessageBuffer) (test : Bool) → MayTry p.base t →
    sent_or_waits p t id k timeout bytes (cond test (Some (message_stored p id k bytes)) None)
    ≡ send_trial_of p t id bytes timeout k (cond test (Some (sender_ended (message_stored (send_parts p t id bytes timeout k) id k bytes) t)) None)
unfolding send_parts
stored_back p t id bytes timeout k true try =
    let c : Base = joins p.base t (senders_object id) k.order timeout in
    let q : MailParts = sender_ended (message_stored (send_parts p t id bytes timeout k) id k bytes) t in
    let late : MailDone = waits_or_ends p t (senders_object id) k.order timeout (asked_to_send p.table t bytes) in
    let returned : Answer → MailDone = λ answer. mail_done (record q { base = goes_on p.base q.base t; table = record q.table { sending = p.table.sending } }) (Returned answer) in
    sym (ap (λ end. option_map_or returned end late) (answered c t (plain (pos 0)) (joined_waits p.base t (senders_object id) k.order timeout try.may))
    ∙ ap (λ base. mail_done (record (message_stored p id k bytes) { base = base }) (Returned (plain (pos 0)))) (alone p.base t (senders_object id) k.order timeout (plain (pos 0)) try))
stored_back p t id bytes timeout k false try = refl

-- the caller's message goes in where it fits
stored_case : (p : MailParts) (t id : ℕ) (bytes : List ℕ) (timeout : ℤ) (k : MessageBuffer) (messages : List (List ℕ)) → MayTry p.base t → t < length p.table.sending →
    sent_or_waits p t id k timeout bytes (cond (has_space k bytes) (Some (message_stored p id k bytes)) None)
    ≡ send_trial_of p t id bytes timeout k (buffer_serves (send_parts p t id bytes timeout k) id k None (Some t) messages)
unfolding send_parts
stored_case p t id bytes timeout k messages try inside =
    stored_back p t id bytes timeout k (has_space k bytes) try
    ∙ ap (λ own. send_trial_of p t id bytes timeout k (cond (has_space k own) (Some (sender_ended (message_stored (send_parts p t id bytes timeout k) id k own) t)) None)) (sym (sent_bytes p t bytes inside))

-- it goes past the buffer to a receiver
passed_back : (p : MailParts) (t id : ℕ) (bytes : List ℕ) (timeout : ℤ) (k : MessageBuffer) (receiver : ℕ) → MayTry p.base t → waits_for p.base (receivers_object id) receiver ≡ true →
    mail_done (delivered p receiver bytes) (done (pos 0)) ≡ send_trial_of p t id bytes timeout k (Some (sender_ended (delivered (send_parts p t id bytes timeout k) receiver bytes) t))
unfolding send_parts
passed_back p t id bytes timeout k receiver try waits =
    let c : Base = joins p.base t (senders_object id) k.order timeout in
    let ru : Answer = plain (pos (length bytes)) in
    let q : MailParts = sender_ended (delivered (send_parts p t id bytes timeout k) receiver bytes) t in
    let late : MailDone = waits_or_ends p t (senders_object id) k.order timeout (asked_to_send p.table t bytes) in
    let returned : Answer → MailDone = λ answer. mail_done (record q { base = goes_on p.base q.base t; table = record q.table { sending = p.table.sending } }) (Returned answer) in
    let is = row_of p.base receiver (receivers_object id) waits in
    let apart = not_caller p.base t receiver (receivers_object id) try waits in
    let on : is_waiting (release c receiver ru) t ≡ true =
    ap waits_somewhere (release_others c receiver t ru (λ e. apart (sym e))) ∙ joined_waits p.base t (senders_object id) k.order timeout try.may in
    sym (ap (λ end. option_map_or returned end late) (answered (release c receiver ru) t (plain (pos 0)) on)
    ∙ ap (λ base. mail_done (record (delivered p receiver bytes) { base = base }) (Returned (plain (pos 0)))) (beside p.base t receiver (senders_object id) k.order timeout ru (plain (pos 0)) is.row try apart is.there is.waits))

passed_case : (p : MailParts) (t id : ℕ) (bytes : List ℕ) (timeout : ℤ) (k : MessageBuffer) (receiver : ℕ) → MayTry p.base t → t < length p.table.sending → waits_for p.base (receivers_object id) receiver ≡ true →
    mail_done (delivered p receiver bytes) (done (pos 0)) ≡ send_trial_of p t id bytes timeout k (buffer_serves (send_parts p t id bytes timeout k) id k (Some receiver) (Some t) [])
unfolding send_parts
passed_case p t id bytes timeout k receiver try inside waits =
    passed_back p t id bytes timeout k receiver try waits
    ∙ ap (λ own. send_trial_of p t id bytes timeout k (Some (sender_ended (delivered (send_parts p t id bytes timeout k) receiver own) t))) (sym (sent_bytes p t bytes inside))

-- where somebody else stands first, its message doesn't fit, as before
no_space : (p : MailParts) (id : ℕ) (k : MessageBuffer) (first : ℕ) (test : Bool) (q : MailParts) → cond test (Some q) None ≡ None → test ≡ false
no_space p id k first true q none = absurd (cc none)
no_space p id k first false q none = refl

none_if : (test : Bool) (q : MailParts) → test ≡ false → cond test (Some q) None ≡ None
none_if true q fails = absurd (cc fails)
none_if false q fails = refl

first_stays : (p : MailParts) (t id : ℕ) (bytes : List ℕ) (timeout : ℤ) (k : MessageBuffer) (first : ℕ) (messages : List (List ℕ)) → (first ≡ t → ⊥) → buffer_serves p id k None (Some first) messages ≡ None →
    buffer_serves (send_parts p t id bytes timeout k) id k None (Some first) messages ≡ None
unfolding send_parts
first_stays p t id bytes timeout k first messages apart none =
    let same : bytes_of (asked_to_send p.table t bytes) first ≡ bytes_of p.table first = get_or-set_other p.table.sending t first bytes [] apart in
    none_if (has_space k (bytes_of (asked_to_send p.table t bytes) first)) _ (ap (has_space k) same ∙ no_space p id k first (has_space k (bytes_of p.table first)) _ none)

first_if : (p : MailParts) (t id : ℕ) (bytes : List ℕ) (timeout : ℤ) (k : MessageBuffer) (first : ℕ) (rest behind : List ℕ) (messages : List (List ℕ)) (before_it : Bool) → MayTry p.base t → t < length p.table.sending → (first ≡ t → ⊥) →
    buffer_serves p id k None (Some first) messages ≡ None →
    sent_or_waits p t id k timeout bytes (sent_at_once p id k before_it None messages bytes)
    ≡ send_trial_of p t id bytes timeout k (buffer_serves (send_parts p t id bytes timeout k) id k None (first_of (cond before_it (t ∷ first ∷ rest) (first ∷ behind))) messages)
first_if p t id bytes timeout k first rest behind messages true try inside apart none = stored_case p t id bytes timeout k messages try inside
first_if p t id bytes timeout k first rest behind messages false try inside apart none = sym (ap (send_trial_of p t id bytes timeout k) (first_stays p t id bytes timeout k first messages apart none))

send_case : (by : Order) (p : MailParts) (t id : ℕ) (bytes : List ℕ) (timeout : ℤ) (k : MessageBuffer) (receiver : Option ℕ) (waiting : List ℕ) (messages : List (List ℕ)) → MayTry p.base t → t < length p.table.sending → times t waiting ≡ 0 →
    first_of (receivers p.base id) ≡ receiver → buffer_serves p id k receiver (first_of waiting) messages ≡ None →
    sent_or_waits p t id k timeout bytes (sent_at_once p id k (would_be_first by p.base t waiting) receiver messages bytes)
    ≡ send_trial_of p t id bytes timeout k (buffer_serves (send_parts p t id bytes timeout k) id k receiver (first_of (joined by (current p.base) t waiting)) messages)
send_case by p t id bytes timeout k (Some receiver) waiting (oldest ∷ later) try inside absent stand none = absurd (cc none)
send_case by p t id bytes timeout k (Some receiver) (first ∷ rest) [] try inside absent stand none = absurd (cc none)
send_case Fifo p t id bytes timeout k (Some receiver) [] [] try inside absent stand none = passed_case p t id bytes timeout k receiver try inside (first_of_waits Fifo p.base (receivers_object id) receiver stand)
send_case Priority p t id bytes timeout k (Some receiver) [] [] try inside absent stand none = passed_case p t id bytes timeout k receiver try inside (first_of_waits Fifo p.base (receivers_object id) receiver stand)
send_case Fifo p t id bytes timeout k None [] messages try inside absent stand none = stored_case p t id bytes timeout k messages try inside
send_case Priority p t id bytes timeout k None [] messages try inside absent stand none = stored_case p t id bytes timeout k messages try inside
send_case Fifo p t id bytes timeout k None (first ∷ rest) messages try inside absent stand none =
    first_if p t id bytes timeout k first rest (rest ++ t ∷ []) messages false try inside (apart_from_first t first rest absent) none
send_case Priority p t id bytes timeout k None (first ∷ rest) messages try inside absent stand none =
    first_if p t id bytes timeout k first rest (insert_behind (current p.base) t rest) messages (nat_lt (current p.base t) (current p.base first)) try inside (apart_from_first t first rest absent) none

pub send_is_trial : (p : MailParts) (t id : ℕ) (bytes : List ℕ) (timeout : ℤ) (k : MessageBuffer) → MayTry p.base t → buffer_at p.table id ≡ Some k → t < length p.table.sending → serve_buffer p id ≡ None →
    sent_to_buffer p t id bytes timeout (Some k) ≡ send_trial p t id bytes timeout k
unfolding serve_buffer send_trial send_parts
send_is_trial p t id bytes timeout k try at inside none =
    let joined_in : MailParts = send_parts p t id bytes timeout k in
    send_case k.order p t id bytes timeout k (first_of (receivers p.base id)) (senders p.base k id) k.messages try inside
    (queue_absent k.order p.base t (senders_object id) (ready_for_none p.base t (senders_object id) try.may)) refl (ap (serve_buffer_at p id) (sym at) ∙ none)
    ∙ ap (λ ids. send_trial_of p t id bytes timeout k (buffer_serves joined_in id k (first_of (receivers p.base id)) (first_of ids) k.messages)) (sym (queue_with p.base t (senders_object id) k.order timeout try))
    ∙ ap (λ ids. send_trial_of p t id bytes timeout k (buffer_serves joined_in id k (first_of ids) (first_of (senders joined_in.base k id)) k.messages))
    (sym (queue_elsewhere Fifo p.base t (senders_object id) (receivers_object id) k.order timeout (λ same. omega (arith, same)) try))
    ∙ ap (λ slot. send_trial_of p t id bytes timeout k (serve_buffer_at joined_in id slot)) (sym at)

-- ---- a receive

receive_parts : MailParts → ℕ → ℕ → ℕ → ℤ → MailParts
receive_parts p t id address timeout = record p { base = joins p.base t (receivers_object id) Fifo timeout; table = asked_into p.table t address }

-- the oldest message goes to the caller's address
oldest_back : (p : MailParts) (t id address place : ℕ) (timeout : ℤ) (k : MessageBuffer) (oldest : List ℕ) (later : List (List ℕ)) → MayTry p.base t → place ≡ address →
    received (with_messages p id k later) address oldest
    ≡ receive_trial_of p t id address timeout (Some (record (with_messages (receive_parts p t id address timeout) id k later) {
      base = release (joins p.base t (receivers_object id) Fifo timeout) t (plain (pos (length oldest)));
      memory = with_bytes p.memory place oldest;
    }))
unfolding receive_parts
oldest_back p t id address place timeout k oldest later try same =
    let c : Base = joins p.base t (receivers_object id) Fifo timeout in
    let result : Answer = plain (pos (length oldest)) in
    let q : MailParts = record (with_messages (receive_parts p t id address timeout) id k later) { base = release c t result; memory = with_bytes p.memory place oldest } in
    let late : MailDone = waits_or_ends p t (receivers_object id) Fifo timeout (asked_into p.table t address) in
    let returned : Answer → MailDone = λ answer. mail_done (record q { base = goes_on p.base q.base t; table = record q.table { into = p.table.into } }) (Returned answer) in
    sym (ap (λ end. option_map_or returned end late) (answered c t result (joined_waits p.base t (receivers_object id) Fifo timeout try.may))
    ∙ ap (λ base. mail_done (record (with_messages p id k later) { base = base; memory = with_bytes p.memory place oldest }) (Returned result)) (alone p.base t (receivers_object id) Fifo timeout result try)
    ∙ ap (λ at. mail_done (record (with_messages p id k later) { memory = with_bytes p.memory at oldest }) (Returned result)) same)

-- the first sender's message goes to it
sender_back : (p : MailParts) (t id address place : ℕ) (timeout : ℤ) (sender : ℕ) (bytes : List ℕ) → MayTry p.base t → waits_for p.base (senders_object id) sender ≡ true → place ≡ address →
    received (sender_ended p sender) address bytes
    ≡ receive_trial_of p t id address timeout (Some (record (receive_parts p t id address timeout) {
      base = release (release (joins p.base t (receivers_object id) Fifo timeout) t (plain (pos (length bytes)))) sender (plain (pos 0));
      memory = with_bytes p.memory place bytes;
    }))
unfolding receive_parts
sender_back p t id address place timeout sender bytes try waits same =
    let c : Base = joins p.base t (receivers_object id) Fifo timeout in
    let result : Answer = plain (pos (length bytes)) in
    let q : MailParts = record (receive_parts p t id address timeout) { base = release (release c t result) sender (plain (pos 0)); memory = with_bytes p.memory place bytes } in
    let late : MailDone = waits_or_ends p t (receivers_object id) Fifo timeout (asked_into p.table t address) in
    let returned : Answer → MailDone = λ answer. mail_done (record q { base = goes_on p.base q.base t; table = record q.table { into = p.table.into } }) (Returned answer) in
    let is = row_of p.base sender (senders_object id) waits in
    let apart = not_caller p.base t sender (senders_object id) try waits in
    let on : is_waiting (release c t result) sender ≡ true =
    ap waits_somewhere (release_others c t sender result apart ∙ joins_others p.base t sender (receivers_object id) Fifo timeout try apart) ∙ waits_for_waits p.base sender (senders_object id) waits in
    sym (ap (λ end. option_map_or returned end late) (answered_before c t sender (plain (pos 0)) result (joins_released p.base t (receivers_object id) Fifo timeout try) apart (joined_waits p.base t (receivers_object id) Fifo timeout try.may) on)
    ∙ ap (λ base. mail_done (record p { base = base; memory = with_bytes p.memory place bytes }) (Returned result)) (before p.base t sender (receivers_object id) Fifo timeout (plain (pos 0)) result is.row try apart is.there is.waits)
    ∙ ap (λ at. mail_done (record (sender_ended p sender) { memory = with_bytes p.memory at bytes }) (Returned result)) same)

-- what the caller asked for is where its message goes
asked_place : (p : MailParts) (t address : ℕ) → t < length p.table.into → place_of (asked_into p.table t address) t ≡ address
asked_place p t address inside = get_or-set_same p.table.into t address 0 inside

receive_case : (p : MailParts) (t id address : ℕ) (timeout : ℤ) (k : MessageBuffer) (waiting : List ℕ) (sender : Option ℕ) (messages : List (List ℕ)) → MayTry p.base t → t < length p.table.into →
    first_of (senders p.base k id) ≡ sender → buffer_serves p id k (first_of waiting) sender messages ≡ None →
    taken_by_caller p t id k address timeout (first_of waiting) sender messages
    ≡ receive_trial_of p t id address timeout (buffer_serves (receive_parts p t id address timeout) id k (first_of (waiting ++ t ∷ [])) sender messages)
unfolding receive_parts
receive_case p t id address timeout k (first ∷ rest) sender (oldest ∷ later) try inside stand none = absurd (cc none)
receive_case p t id address timeout k (first ∷ rest) (Some sender) [] try inside stand none = absurd (cc none)
receive_case p t id address timeout k (first ∷ rest) None [] try inside stand none = refl
receive_case p t id address timeout k [] sender (oldest ∷ later) try inside stand none =
    oldest_back p t id address (place_of (asked_into p.table t address) t) timeout k oldest later try (asked_place p t address inside)
receive_case p t id address timeout k [] (Some sender) [] try inside stand none =
    sender_back p t id address (place_of (asked_into p.table t address) t) timeout sender (bytes_of p.table sender) try (first_of_waits k.order p.base (senders_object id) sender stand) (asked_place p t address inside)
receive_case p t id address timeout k [] None [] try inside stand none = refl

pub receive_is_trial : (p : MailParts) (t id address : ℕ) (timeout : ℤ) (k : MessageBuffer) → MayTry p.base t → buffer_at p.table id ≡ Some k → t < length p.table.into → serve_buffer p id ≡ None →
    received_from_buffer p t id address timeout (Some k) ≡ receive_trial p t id address timeout
unfolding serve_buffer receive_trial receive_parts
receive_is_trial p t id address timeout k try at inside none =
    let joined_in : MailParts = receive_parts p t id address timeout in
    receive_case p t id address timeout k (receivers p.base id) (first_of (senders p.base k id)) k.messages try inside refl (ap (serve_buffer_at p id) (sym at) ∙ none)
    ∙ ap (λ ids. receive_trial_of p t id address timeout (buffer_serves joined_in id k (first_of ids) (first_of (senders p.base k id)) k.messages)) (sym (queue_with p.base t (receivers_object id) Fifo timeout try))
    ∙ ap (λ ids. receive_trial_of p t id address timeout (buffer_serves joined_in id k (first_of (receivers joined_in.base id)) (first_of ids) k.messages))
    (sym (queue_elsewhere k.order p.base t (receivers_object id) (senders_object id) Fifo timeout (λ same. omega (arith, same)) try))
    ∙ ap (λ slot. receive_trial_of p t id address timeout (serve_buffer_at joined_in id slot)) (sym at)
