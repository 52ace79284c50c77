-- Where what leaves a message buffer goes: into memory, and nowhere else.
use Rattle.std.proofs.Common.{◌≡◌, ℕ, ◌+◌, ◌≤◌, Bool, true, false, not, cond, List, [], ◌∷◌, ◌++◌, take, drop, length, length-drop, length-append, length-take-le, get_or, get_or-take, get_or-drop, ◌-◌, ◌<◌, Option, Some, None, refl, ◌∙◌, ap, sym, subst, ℤ, pos, arith}
use Rattle.std.specs.Prelude.{unwrap_or, nat_lt}
use Rattle.std.specs.Int.{is_negative}
use Rattle.std.specs.Option.{is_some}
use Rattle.std.specs.Ordering.{int_eq}
use Rattle.std.proofs.lemmas.Bool.Decides.{nat_tests}
use Rattle.std.proofs.Math.Seq.{take-append_seam, drop-append_seam, get_or-append_right}
use Rattle.std.proofs.Math.ListN.{get_or-append}
use Rattle.std.proofs.lemmas.List.{append_assoc}
use Rattle.tk_types.specs.declared.error_code.Er.TheVariants as er
use Rattle.tk_types.specs.declared.task.Order.{Order}
use Rattle.tk_types.specs.declared.task.Order.TheVariants.{Fifo}
use Rattle.tk_types.specs.declared.answer.Outcome.TheVariants.{Blocked}
use Rattle.tk_types.specs.Codes.{code_of}
use Rattle.kernel_model.specs.Words.Checks.{failed, done}
use Rattle.kernel_model.specs.Tasks.Base.{make_wait}
use Rattle.kernel_model.specs.SemFlags.Calls.{would_be_first}
use Rattle.object_model.specs.Mails.Tables.{MessageBuffer, Mails, MailParts, senders_object, receivers_object, buffer_at, bytes_of, place_of}
use Rattle.object_model.specs.Mails.Bytes.{bytes_at, with_bytes}
use Rattle.object_model.specs.Mails.Buffers.{first_of, senders, serve_buffer, serve_buffer_at, buffer_serves, post, posted, sent_at_once, has_space, takes_length, none_waits, message_stored, sender_ended}
use Rattle.object_model.specs.Mails.Calls.{MailDone, sent_to_buffer, sent_or_waits, received_from_buffer, taken_by_caller, waits_or_ends, mail_done, asked_to_send, asked_into}
use Rattle.mail_laws.specs.Flows.{Flow, messages_in, Step, Serve, Send, Receive, Post, left_by, after, succeeded, sent_flow, taken_flow, first_bytes, served_flow, flow_if, first_receiver, senders_of, flow_of, written, place_in, place_of_step, TellsLength}

-- ---- what is written is read again

front_length : (memory : List ℕ) (address n : ℕ) → address + n ≤ length memory → length (take address memory) ≡ address
front_length memory address n inside = length-take-le address memory (omega (arith, inside))

pub read_again : (memory : List ℕ) (address : ℕ) (bytes : List ℕ) → address + length bytes ≤ length memory → bytes_at (with_bytes memory address bytes) address (length bytes) ≡ bytes
read_again memory address bytes inside =
    let front : length (take address memory) ≡ address = front_length memory address (length bytes) inside in
    let rest : List ℕ = drop (address + length bytes) memory in
    ap (λ whole. take (length bytes) (drop address whole)) (append_assoc (take address memory) bytes rest)
    ∙ ap (λ n. take (length bytes) (drop n (take address memory ++ (bytes ++ rest)))) (sym front)
    ∙ ap (take (length bytes)) (drop-append_seam (take address memory) (bytes ++ rest))
    ∙ take-append_seam bytes rest

-- memory keeps its length, and all in front of what is written and behind it is as it was
pub same_length : (memory : List ℕ) (address : ℕ) (bytes : List ℕ) → address + length bytes ≤ length memory → length (with_bytes memory address bytes) ≡ length memory
same_length memory address bytes inside =
    let front : length (take address memory) ≡ address = front_length memory address (length bytes) inside in
    let rest : length (drop (address + length bytes) memory) ≡ length memory - (address + length bytes) = length-drop (address + length bytes) memory in
    let both : length (take address memory ++ bytes) ≡ length (take address memory) + length bytes = length-append (take address memory) bytes in
    let all : length (take address memory ++ bytes ++ drop (address + length bytes) memory) ≡ length (take address memory ++ bytes) + length (drop (address + length bytes) memory) = length-append (take address memory ++ bytes) (drop (address + length bytes) memory) in
    omega (arith, front, rest, both, all, inside)

pub in_front_same : (memory : List ℕ) (address : ℕ) (bytes : List ℕ) (i : ℕ) → address + length bytes ≤ length memory → i < address → get_or (with_bytes memory address bytes) i 0 ≡ get_or memory i 0
in_front_same memory address bytes i inside before =
    let front : length (take address memory) ≡ address = front_length memory address (length bytes) inside in
    let both : length (take address memory ++ bytes) ≡ length (take address memory) + length bytes = length-append (take address memory) bytes in
    get_or-append (take address memory ++ bytes) (drop (address + length bytes) memory) 0 i (omega (arith, front, both, before))
    ∙ get_or-append (take address memory) bytes 0 i (omega (arith, front, before))
    ∙ get_or-take address memory i 0 before

pub behind_same : (memory : List ℕ) (address : ℕ) (bytes : List ℕ) (i : ℕ) → address + length bytes ≤ length memory → address + length bytes ≤ i → get_or (with_bytes memory address bytes) i 0 ≡ get_or memory i 0
behind_same memory address bytes i inside after =
    let front : length (take address memory) ≡ address = front_length memory address (length bytes) inside in
    let both : length (take address memory ++ bytes) ≡ length (take address memory) + length bytes = length-append (take address memory) bytes in
    let whole : length (take address memory ++ bytes) ≡ address + length bytes = omega (arith, front, both) in
    get_or-append_right (take address memory ++ bytes) (drop (address + length bytes) memory) i 0 (omega (arith, whole, after))
    ∙ ap (λ n. get_or (drop (address + length bytes) memory) (i - n) 0) whole
    ∙ get_or-drop (address + length bytes) memory (i - (address + length bytes)) 0
    ∙ ap (λ n. get_or memory n 0) (omega (arith, after))

-- ---- what a step writes

stored_if : (p : MailParts) (id : ℕ) (k : MessageBuffer) (sender place : ℕ) (test : Bool) →
    let o : Option MailParts = cond test (Some (sender_ended (message_stored p id k (bytes_of p.table sender)) sender)) None in
    (unwrap_or o p).memory ≡ written p.memory place (flow_if (is_some o) (record { entered = bytes_of p.table sender ∷ []; left = [] })).left
stored_if p id k sender place true = refl
stored_if p id k sender place false = refl

served_case : (p : MailParts) (id : ℕ) (k : MessageBuffer) (receiver sender : Option ℕ) (messages : List (List ℕ)) →
    (unwrap_or (buffer_serves p id k receiver sender messages) p).memory
    ≡ written p.memory (place_in p.table receiver) (flow_if (is_some (buffer_serves p id k receiver sender messages)) (served_flow p.table receiver sender messages)).left
served_case p id k (Some receiver) sender (oldest ∷ later) = refl
served_case p id k (Some receiver) (Some sender) [] = refl
served_case p id k (Some receiver) None [] = refl
served_case p id k None (Some sender) messages = stored_if p id k sender 0 (has_space k (bytes_of p.table sender))
served_case p id k None None messages = refl

served_slot : (p : MailParts) (id : ℕ) (slot : Option MessageBuffer) →
    (unwrap_or (serve_buffer_at p id slot) p).memory
    ≡ written p.memory (place_in p.table (first_receiver p id)) (flow_if (is_some (serve_buffer_at p id slot)) (served_flow p.table (first_receiver p id) (first_of (senders_of p id slot)) (messages_in slot))).left
served_slot p id None = refl
served_slot p id (Some k) = served_case p id k (first_receiver p id) (first_of (senders p.base k id)) k.messages

-- a call that waits or is over writes nothing
waits_still : (p : MailParts) (t object place : ℕ) (order : Order) (asked : Mails) (timeout : ℤ) (flow : Flow) (over : Bool) →
    let done : MailDone = cond over (mail_done p (failed er.TmOut)) (mail_done (record p { base = make_wait p.base t object order timeout; table = asked }) Blocked) in
    (left_by done).memory ≡ written p.memory place (flow_if (succeeded done.outcome) flow).left
unfolding code_of
waits_still p t object place order asked timeout flow true = refl
waits_still p t object place order asked timeout flow false = refl

waits_flow : (p : MailParts) (t id place : ℕ) (k : MessageBuffer) (timeout : ℤ) (bytes : List ℕ) (flow : Flow) →
    let done : MailDone = sent_or_waits p t id k timeout bytes None in
    (left_by done).memory ≡ written p.memory place (flow_if (succeeded done.outcome) flow).left
waits_flow p t id place k timeout bytes flow = waits_still p t (senders_object id) place k.order (asked_to_send p.table t bytes) timeout flow (int_eq timeout (pos 0))

room_case : (p : MailParts) (t id place : ℕ) (k : MessageBuffer) (timeout : ℤ) (bytes : List ℕ) (test : Bool) →
    let done : MailDone = sent_or_waits p t id k timeout bytes (cond test (Some (message_stored p id k bytes)) None) in
    (left_by done).memory ≡ written p.memory place (flow_if (succeeded done.outcome) (sent_flow None bytes)).left
room_case p t id place k timeout bytes true = refl
room_case p t id place k timeout bytes false = waits_flow p t id place k timeout bytes (sent_flow None bytes)

sent_case : (p : MailParts) (t id : ℕ) (k : MessageBuffer) (timeout : ℤ) (bytes : List ℕ) (is_first : Bool) (receiver : Option ℕ) (messages : List (List ℕ)) →
    let done : MailDone = sent_or_waits p t id k timeout bytes (sent_at_once p id k is_first receiver messages bytes) in
    (left_by done).memory ≡ written p.memory (place_in p.table receiver) (flow_if (succeeded done.outcome) (sent_flow receiver bytes)).left
sent_case p t id k timeout bytes false receiver messages = waits_flow p t id (place_in p.table receiver) k timeout bytes (sent_flow receiver bytes)
sent_case p t id k timeout bytes true (Some receiver) (oldest ∷ later) = waits_flow p t id (place_of p.table receiver) k timeout bytes (sent_flow (Some receiver) bytes)
sent_case p t id k timeout bytes true (Some receiver) [] = refl
sent_case p t id k timeout bytes true None messages = room_case p t id 0 k timeout bytes (has_space k bytes)

sent_slot : (p : MailParts) (t id : ℕ) (timeout : ℤ) (bytes : List ℕ) (slot : Option MessageBuffer) →
    let done : MailDone = sent_to_buffer p t id bytes timeout slot in
    (left_by done).memory ≡ written p.memory (place_in p.table (first_receiver p id)) (flow_if (succeeded done.outcome) (sent_flow (first_receiver p id) bytes)).left
unfolding code_of
sent_slot p t id timeout bytes None = refl
sent_slot p t id timeout bytes (Some k) = sent_case p t id k timeout bytes (would_be_first k.order p.base t (senders p.base k id)) (first_receiver p id) k.messages

receiver_waits : (p : MailParts) (t id address : ℕ) (timeout : ℤ) (flow : Flow) →
    let done : MailDone = waits_or_ends p t (receivers_object id) Fifo timeout (asked_into p.table t address) in
    (left_by done).memory ≡ written p.memory address (flow_if (succeeded done.outcome) flow).left
receiver_waits p t id address timeout flow = waits_still p t (receivers_object id) address Fifo (asked_into p.table t address) timeout flow (int_eq timeout (pos 0))

no_error : (n : ℕ) → not (is_negative (pos n)) ≡ true
no_error n = let least : nat_lt n 0 ≡ false = grind (arith, nat_tests) in ap not least

moved : (memory : List ℕ) (address n : ℕ) (bytes : List ℕ) (flow : Flow) → flow.left ≡ bytes ∷ [] → with_bytes memory address bytes ≡ written memory address (flow_if (not (is_negative (pos n))) flow).left
moved memory address n bytes flow is =
    subst (λ (test : Bool). with_bytes memory address bytes ≡ written memory address (flow_if test flow).left) (sym (no_error n)) (ap (written memory address) (sym is))

taken_case : (p : MailParts) (t id address : ℕ) (k : MessageBuffer) (timeout : ℤ) (receiver sender : Option ℕ) (messages : List (List ℕ)) →
    let done : MailDone = taken_by_caller p t id k address timeout receiver sender messages in
    (left_by done).memory ≡ written p.memory address (flow_if (succeeded done.outcome) (taken_flow (first_bytes p.table sender) messages)).left
taken_case p t id address k timeout (Some receiver) sender messages = receiver_waits p t id address timeout (taken_flow (first_bytes p.table sender) messages)
taken_case p t id address k timeout None sender (oldest ∷ later) = moved p.memory address (length oldest) oldest (taken_flow (first_bytes p.table sender) (oldest ∷ later)) refl
taken_case p t id address k timeout None (Some sender) [] = moved p.memory address (length (bytes_of p.table sender)) (bytes_of p.table sender) (taken_flow (bytes_of p.table sender) []) refl
taken_case p t id address k timeout None None [] = receiver_waits p t id address timeout (taken_flow [] [])

received_slot : (p : MailParts) (t id address : ℕ) (timeout : ℤ) (slot : Option MessageBuffer) →
    let done : MailDone = received_from_buffer p t id address timeout slot in
    (left_by done).memory ≡ written p.memory address (flow_if (succeeded done.outcome) (taken_flow (first_bytes p.table (first_of (senders_of p id slot))) (messages_in slot))).left
unfolding code_of
received_slot p t id address timeout None = refl
received_slot p t id address timeout (Some k) = taken_case p t id address k timeout (first_receiver p id) (first_of (senders p.base k id)) k.messages

fits_case : (p : MailParts) (id place : ℕ) (k : MessageBuffer) (bytes : List ℕ) (test : Bool) →
    let o : Option MailParts = cond test (Some (message_stored p id k bytes)) None in
    (unwrap_or o p).memory ≡ written p.memory place (flow_if (is_some o) (sent_flow None bytes)).left
fits_case p id place k bytes true = refl
fits_case p id place k bytes false = refl

at_once_case : (p : MailParts) (id : ℕ) (k : MessageBuffer) (bytes : List ℕ) (is_first : Bool) (receiver : Option ℕ) (messages : List (List ℕ)) →
    let o : Option MailParts = sent_at_once p id k is_first receiver messages bytes in
    (unwrap_or o p).memory ≡ written p.memory (place_in p.table receiver) (flow_if (is_some o) (sent_flow receiver bytes)).left
at_once_case p id k bytes false receiver messages = refl
at_once_case p id k bytes true (Some receiver) (oldest ∷ later) = refl
at_once_case p id k bytes true (Some receiver) [] = refl
at_once_case p id k bytes true None messages = fits_case p id 0 k bytes (has_space k bytes)

length_case : (p : MailParts) (place : ℕ) (o : Option MailParts) (flow : Flow) (test : Bool) →
    (unwrap_or o p).memory ≡ written p.memory place (flow_if (is_some o) flow).left →
    (unwrap_or (cond test o None) p).memory ≡ written p.memory place (flow_if (is_some (cond test o None)) flow).left
length_case p place o flow true lands = lands
length_case p place o flow false lands = refl

posted_slot : (p : MailParts) (id : ℕ) (bytes : List ℕ) (slot : Option MessageBuffer) →
    (unwrap_or (posted p id bytes slot) p).memory ≡ written p.memory (place_in p.table (first_receiver p id)) (flow_if (is_some (posted p id bytes slot)) (sent_flow (first_receiver p id) bytes)).left
posted_slot p id bytes None = refl
posted_slot p id bytes (Some k) =
    length_case p (place_in p.table (first_receiver p id)) (sent_at_once p id k (none_waits (senders p.base k id)) (first_receiver p id) k.messages bytes) (sent_flow (first_receiver p id) bytes) (takes_length (length bytes) k)
    (at_once_case p id k bytes (none_waits (senders p.base k id)) (first_receiver p id) k.messages)

-- a step writes what leaves in it, to where that goes, and nothing else
pub step_lands : (id : ℕ) (p : MailParts) (step : Step) → (after id p step).memory ≡ written p.memory (place_of_step id p step) (flow_of id p step).left
unfolding serve_buffer post
step_lands id p Serve = served_slot p id (buffer_at p.table id)
step_lands id p (Send t bytes timeout) = sent_slot p t id timeout bytes (buffer_at p.table id)
step_lands id p (Receive t address timeout) = received_slot p t id address timeout (buffer_at p.table id)
step_lands id p (Post bytes) = posted_slot p id bytes (buffer_at p.table id)

-- ---- a receive answers the length

silent : (p : MailParts) (timeout : ℤ) (t object : ℕ) (order : Order) (asked : Mails) (flow : Flow) (over : Bool) →
    let done : MailDone = cond over (mail_done p (failed er.TmOut)) (mail_done (record p { base = make_wait p.base t object order timeout; table = asked }) Blocked) in
    TellsLength done.outcome (flow_if (succeeded done.outcome) flow).left
unfolding code_of
silent p timeout t object order asked flow true = tt
silent p timeout t object order asked flow false = tt

tells : (n : ℕ) (bytes : List ℕ) (flow : Flow) → flow.left ≡ bytes ∷ [] → n ≡ length bytes → TellsLength (done (pos n)) (flow_if (not (is_negative (pos n))) flow).left
tells n bytes flow is same =
    subst (λ (test : Bool). TellsLength (done (pos n)) (flow_if test flow).left) (sym (no_error n))
    (subst (λ (left : List (List ℕ)). TellsLength (done (pos n)) left) (sym is) (ap (λ m. done (pos m)) same))

taken_tells : (p : MailParts) (t id address : ℕ) (k : MessageBuffer) (timeout : ℤ) (receiver sender : Option ℕ) (messages : List (List ℕ)) →
    let done : MailDone = taken_by_caller p t id k address timeout receiver sender messages in
    TellsLength done.outcome (flow_if (succeeded done.outcome) (taken_flow (first_bytes p.table sender) messages)).left
taken_tells p t id address k timeout (Some receiver) sender messages = silent p timeout t (receivers_object id) Fifo (asked_into p.table t address) (taken_flow (first_bytes p.table sender) messages) (int_eq timeout (pos 0))
taken_tells p t id address k timeout None sender (oldest ∷ later) = tells (length oldest) oldest (taken_flow (first_bytes p.table sender) (oldest ∷ later)) refl refl
taken_tells p t id address k timeout None (Some sender) [] = tells (length (bytes_of p.table sender)) (bytes_of p.table sender) (taken_flow (bytes_of p.table sender) []) refl refl
taken_tells p t id address k timeout None None [] = silent p timeout t (receivers_object id) Fifo (asked_into p.table t address) (taken_flow [] []) (int_eq timeout (pos 0))

slot_tells : (p : MailParts) (t id address : ℕ) (timeout : ℤ) (slot : Option MessageBuffer) →
    let done : MailDone = received_from_buffer p t id address timeout slot in
    TellsLength done.outcome (flow_if (succeeded done.outcome) (taken_flow (first_bytes p.table (first_of (senders_of p id slot))) (messages_in slot))).left
unfolding code_of
slot_tells p t id address timeout None = tt
slot_tells p t id address timeout (Some k) = taken_tells p t id address k timeout (first_receiver p id) (first_of (senders p.base k id)) k.messages

pub receive_tells : (id : ℕ) (p : MailParts) (t address : ℕ) (timeout : ℤ) →
    TellsLength (received_from_buffer p t id address timeout (buffer_at p.table id)).outcome (flow_of id p (Receive t address timeout)).left
receive_tells id p t address timeout = slot_tells p t id address timeout (buffer_at p.table id)
