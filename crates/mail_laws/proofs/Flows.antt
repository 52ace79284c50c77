-- What moves through a message buffer: nothing is lost, nothing comes twice, and the order stays.
use Rattle.std.proofs.Common.{◌≡◌, ℕ, Bool, true, false, not, cond, List, [], ◌∷◌, ◌++◌, append-nil, Option, Some, None, length, refl, ◌∙◌, ap, sym, subst, ℤ, pos, arith}
use Rattle.std.specs.Prelude.{unwrap_or, nat_lt}
use Rattle.std.specs.Int.{is_negative}
use Rattle.std.proofs.lemmas.Bool.Decides.{nat_tests}
use Rattle.std.proofs.lemmas.List.{append_assoc}
use Rattle.std.specs.Option.{is_some}
use Rattle.std.specs.Ordering.{int_eq}
use Rattle.tk_types.specs.declared.error_code.Er.TheVariants as er
use Rattle.tk_types.specs.declared.task.Order.{Order}
use Rattle.tk_types.specs.declared.task.Order.TheVariants.{Fifo}
use Rattle.tk_types.specs.declared.answer.Outcome.TheVariants.{Blocked}
use Rattle.kernel_model.specs.Words.Orders.{entry}
use Rattle.kernel_model.specs.Words.Checks.{failed}
use Rattle.kernel_model.specs.Tasks.Base.{make_wait}
use Rattle.kernel_model.specs.SemFlags.Calls.{would_be_first}
use Rattle.tk_types.specs.Codes.{code_of}
use Rattle.kernel_lemmas.proofs.Tables.{entry_there}
use Rattle.object_model.specs.Mails.Tables.{MessageBuffer, Mails, MailParts, senders_object, receivers_object, buffer_at, with_buffer, bytes_of}
use Rattle.object_model.specs.Mails.Buffers.{first_of, senders, serve_buffer, serve_buffer_at, buffer_serves, post, posted, sent_at_once, has_space, takes_length, none_waits, message_stored, sender_ended}
use Rattle.object_model.specs.Mails.Calls.{MailDone, sent_to_buffer, sent_or_waits, received_from_buffer, taken_by_caller, waits_or_ends, mail_done, asked_to_send, asked_into}
use Rattle.mail_laws.specs.Flows.{Flow, IsFlow, no_flow, then_flow, messages_in, messages_at, Step, Serve, Send, Receive, Post, left_by, after, succeeded, sent_flow, taken_flow, first_bytes, served_flow, flow_if, first_receiver, senders_of, flow_of, after_all, flow_of_all}

-- ---- flows

-- nothing moves
still : (before : List (List ℕ)) → IsFlow before before no_flow
still before = append-nil before

-- one flow and then another are a flow
pub flows_then : (before between after : List (List ℕ)) (first second : Flow) → IsFlow before between first → IsFlow between after second → IsFlow before after (then_flow first second)
flows_then before between after first second one two =
    sym (append_assoc before first.entered second.entered)
    ∙ ap (λ front. front ++ second.entered) one
    ∙ append_assoc first.left between second.entered
    ∙ ap (λ behind. first.left ++ behind) two
    ∙ sym (append_assoc first.left second.left after)

-- ---- a serving

-- what a buffer that there is has, after it was written
now_there : (m : Mails) (id : ℕ) (k now : MessageBuffer) → buffer_at m id ≡ Some k → messages_at (with_buffer m id (Some now)) id ≡ now.messages
now_there m id k now at = ap messages_in (entry_there m.buffers id k (Some now) at)

stored_if : (p : MailParts) (id : ℕ) (k : MessageBuffer) (sender : ℕ) (test : Bool) → buffer_at p.table id ≡ Some k →
    let o : Option MailParts = cond test (Some (sender_ended (message_stored p id k (bytes_of p.table sender)) sender)) None in
    IsFlow k.messages (messages_at (unwrap_or o p).table id) (flow_if (is_some o) (record { entered = bytes_of p.table sender ∷ []; left = [] }))
stored_if p id k sender true at = sym (now_there p.table id k _ at)
stored_if p id k sender false at = still k.messages ∙ ap messages_in (sym at)

served_case : (p : MailParts) (id : ℕ) (k : MessageBuffer) (receiver sender : Option ℕ) (messages : List (List ℕ)) → buffer_at p.table id ≡ Some k → k.messages ≡ messages →
    IsFlow k.messages (messages_at (unwrap_or (buffer_serves p id k receiver sender messages) p).table id)
    (flow_if (is_some (buffer_serves p id k receiver sender messages)) (served_flow p.table receiver sender messages))
served_case p id k (Some receiver) sender (oldest ∷ later) at lie = append-nil k.messages ∙ lie ∙ ap (λ more. oldest ∷ more) (sym (now_there p.table id k (record k { messages = later }) at))
served_case p id k (Some receiver) (Some sender) [] at lie =
    ap (λ front. front ++ bytes_of p.table sender ∷ []) lie ∙ ap (λ more. bytes_of p.table sender ∷ more) (sym (ap messages_in at ∙ lie))
served_case p id k (Some receiver) None [] at lie = still k.messages ∙ ap messages_in (sym at)
served_case p id k None (Some sender) messages at lie = stored_if p id k sender (has_space k (bytes_of p.table sender)) at
served_case p id k None None messages at lie = still k.messages ∙ ap messages_in (sym at)

served_slot : (p : MailParts) (id : ℕ) (slot : Option MessageBuffer) → buffer_at p.table id ≡ slot →
    IsFlow (messages_in slot) (messages_at (unwrap_or (serve_buffer_at p id slot) p).table id)
    (flow_if (is_some (serve_buffer_at p id slot)) (served_flow p.table (first_receiver p id) (first_of (senders_of p id slot)) (messages_in slot)))
served_slot p id None at = ap messages_in (sym at)
served_slot p id (Some k) at = served_case p id k (first_receiver p id) (first_of (senders p.base k id)) k.messages at refl

-- ---- a send

-- a call that waits or is over moves nothing
waits_still : (p : MailParts) (id t object : ℕ) (order : Order) (asked : Mails) (timeout : ℤ) (flow : Flow) (over : Bool) → asked.buffers ≡ p.table.buffers →
    let done : MailDone = cond over (mail_done p (failed er.TmOut)) (mail_done (record p { base = make_wait p.base t object order timeout; table = asked }) Blocked) in
    IsFlow (messages_at p.table id) (messages_at (left_by done).table id) (flow_if (succeeded done.outcome) flow)
unfolding code_of
waits_still p id t object order asked timeout flow true same = still (messages_at p.table id)
waits_still p id t object order asked timeout flow false same = still (messages_at p.table id) ∙ ap (λ buffers. messages_in (entry buffers id)) (sym same)

waits_flow : (p : MailParts) (t id : ℕ) (k : MessageBuffer) (timeout : ℤ) (bytes : List ℕ) (flow : Flow) → buffer_at p.table id ≡ Some k →
    let done : MailDone = sent_or_waits p t id k timeout bytes None in
    IsFlow k.messages (messages_at (left_by done).table id) (flow_if (succeeded done.outcome) flow)
waits_flow p t id k timeout bytes flow at =
    subst (λ (o : Option MessageBuffer). IsFlow (messages_in o) (messages_at (left_by (sent_or_waits p t id k timeout bytes None)).table id) (flow_if (succeeded (sent_or_waits p t id k timeout bytes None).outcome) flow)) at
    (waits_still p id t (senders_object id) k.order (asked_to_send p.table t bytes) timeout flow (int_eq timeout (pos 0)) refl)

room_case : (p : MailParts) (t id : ℕ) (k : MessageBuffer) (timeout : ℤ) (bytes : List ℕ) (test : Bool) → buffer_at p.table id ≡ Some k →
    let done : MailDone = sent_or_waits p t id k timeout bytes (cond test (Some (message_stored p id k bytes)) None) in
    IsFlow k.messages (messages_at (left_by done).table id) (flow_if (succeeded done.outcome) (sent_flow None bytes))
room_case p t id k timeout bytes true at = sym (now_there p.table id k _ at)
room_case p t id k timeout bytes false at = waits_flow p t id k timeout bytes (sent_flow None bytes) at

sent_case : (p : MailParts) (t id : ℕ) (k : MessageBuffer) (timeout : ℤ) (bytes : List ℕ) (is_first : Bool) (receiver : Option ℕ) (messages : List (List ℕ)) → buffer_at p.table id ≡ Some k → k.messages ≡ messages →
    let done : MailDone = sent_or_waits p t id k timeout bytes (sent_at_once p id k is_first receiver messages bytes) in
    IsFlow k.messages (messages_at (left_by done).table id) (flow_if (succeeded done.outcome) (sent_flow receiver bytes))
sent_case p t id k timeout bytes false receiver messages at lie = waits_flow p t id k timeout bytes (sent_flow receiver bytes) at
sent_case p t id k timeout bytes true (Some receiver) (oldest ∷ later) at lie = waits_flow p t id k timeout bytes (sent_flow (Some receiver) bytes) at
sent_case p t id k timeout bytes true (Some receiver) [] at lie =
    ap (λ front. front ++ bytes ∷ []) lie ∙ ap (λ more. bytes ∷ more) (sym (ap messages_in at ∙ lie))
sent_case p t id k timeout bytes true None messages at lie = room_case p t id k timeout bytes (has_space k bytes) at

sent_slot : (p : MailParts) (t id : ℕ) (timeout : ℤ) (bytes : List ℕ) (slot : Option MessageBuffer) → buffer_at p.table id ≡ slot →
    let done : MailDone = sent_to_buffer p t id bytes timeout slot in
    IsFlow (messages_in slot) (messages_at (left_by done).table id) (flow_if (succeeded done.outcome) (sent_flow (first_receiver p id) bytes))
unfolding code_of
sent_slot p t id timeout bytes None at = ap messages_in (sym at)
sent_slot p t id timeout bytes (Some k) at =
    sent_case p t id k timeout bytes (would_be_first k.order p.base t (senders p.base k id)) (first_receiver p id) k.messages at refl

-- ---- a receive

receiver_waits : (p : MailParts) (t id address : ℕ) (k : MessageBuffer) (timeout : ℤ) (flow : Flow) → buffer_at p.table id ≡ Some k →
    let done : MailDone = waits_or_ends p t (receivers_object id) Fifo timeout (asked_into p.table t address) in
    IsFlow k.messages (messages_at (left_by done).table id) (flow_if (succeeded done.outcome) flow)
receiver_waits p t id address k timeout flow at =
    subst (λ (o : Option MessageBuffer). IsFlow (messages_in o) (messages_at (left_by (waits_or_ends p t (receivers_object id) Fifo timeout (asked_into p.table t address))).table id) (flow_if (succeeded (waits_or_ends p t (receivers_object id) Fifo timeout (asked_into p.table t address)).outcome) flow)) at
    (waits_still p id t (receivers_object id) Fifo (asked_into p.table t address) timeout flow (int_eq timeout (pos 0)) refl)

-- a length is no error
no_error : (n : ℕ) → not (is_negative (pos n)) ≡ true
no_error n = let least : nat_lt n 0 ≡ false = grind (arith, nat_tests) in ap not least

moved : (before now : List (List ℕ)) (flow : Flow) (n : ℕ) → IsFlow before now flow → IsFlow before now (flow_if (not (is_negative (pos n))) flow)
moved before now flow n flows = subst (λ (test : Bool). IsFlow before now (flow_if test flow)) (sym (no_error n)) flows

taken_case : (p : MailParts) (t id address : ℕ) (k : MessageBuffer) (timeout : ℤ) (receiver sender : Option ℕ) (messages : List (List ℕ)) → buffer_at p.table id ≡ Some k → k.messages ≡ messages →
    let done : MailDone = taken_by_caller p t id k address timeout receiver sender messages in
    IsFlow k.messages (messages_at (left_by done).table id) (flow_if (succeeded done.outcome) (taken_flow (first_bytes p.table sender) messages))
taken_case p t id address k timeout (Some receiver) sender messages at lie = receiver_waits p t id address k timeout (taken_flow (first_bytes p.table sender) messages) at
taken_case p t id address k timeout None sender (oldest ∷ later) at lie =
    moved k.messages (messages_at (with_buffer p.table id (Some (record k { messages = later }))) id) (taken_flow (first_bytes p.table sender) (oldest ∷ later)) (length oldest)
    (append-nil k.messages ∙ lie ∙ ap (λ more. oldest ∷ more) (sym (now_there p.table id k (record k { messages = later }) at)))
taken_case p t id address k timeout None (Some sender) [] at lie =
    moved k.messages (messages_at p.table id) (taken_flow (bytes_of p.table sender) []) (length (bytes_of p.table sender))
    (ap (λ front. front ++ bytes_of p.table sender ∷ []) lie ∙ ap (λ more. bytes_of p.table sender ∷ more) (sym (ap messages_in at ∙ lie)))
taken_case p t id address k timeout None None [] at lie = receiver_waits p t id address k timeout (taken_flow [] []) at

received_slot : (p : MailParts) (t id address : ℕ) (timeout : ℤ) (slot : Option MessageBuffer) → buffer_at p.table id ≡ slot →
    let done : MailDone = received_from_buffer p t id address timeout slot in
    IsFlow (messages_in slot) (messages_at (left_by done).table id) (flow_if (succeeded done.outcome) (taken_flow (first_bytes p.table (first_of (senders_of p id slot))) (messages_in slot)))
unfolding code_of
received_slot p t id address timeout None at = ap messages_in (sym at)
received_slot p t id address timeout (Some k) at =
    taken_case p t id address k timeout (first_receiver p id) (first_of (senders p.base k id)) k.messages at refl

-- ---- a send by the kernel itself

fits_case : (p : MailParts) (id : ℕ) (k : MessageBuffer) (bytes : List ℕ) (test : Bool) → buffer_at p.table id ≡ Some k →
    let o : Option MailParts = cond test (Some (message_stored p id k bytes)) None in
    IsFlow k.messages (messages_at (unwrap_or o p).table id) (flow_if (is_some o) (sent_flow None bytes))
fits_case p id k bytes true at = sym (now_there p.table id k _ at)
fits_case p id k bytes false at = still k.messages ∙ ap messages_in (sym at)

at_once_case : (p : MailParts) (id : ℕ) (k : MessageBuffer) (bytes : List ℕ) (is_first : Bool) (receiver : Option ℕ) (messages : List (List ℕ)) → buffer_at p.table id ≡ Some k → k.messages ≡ messages →
    let o : Option MailParts = sent_at_once p id k is_first receiver messages bytes in
    IsFlow k.messages (messages_at (unwrap_or o p).table id) (flow_if (is_some o) (sent_flow receiver bytes))
at_once_case p id k bytes false receiver messages at lie = still k.messages ∙ ap messages_in (sym at)
at_once_case p id k bytes true (Some receiver) (oldest ∷ later) at lie = still k.messages ∙ ap messages_in (sym at)
at_once_case p id k bytes true (Some receiver) [] at lie = ap (λ front. front ++ bytes ∷ []) lie ∙ ap (λ more. bytes ∷ more) (sym (ap messages_in at ∙ lie))
at_once_case p id k bytes true None messages at lie = fits_case p id k bytes (has_space k bytes) at

length_case : (p : MailParts) (id : ℕ) (k : MessageBuffer) (o : Option MailParts) (flow : Flow) (test : Bool) → buffer_at p.table id ≡ Some k →
    IsFlow k.messages (messages_at (unwrap_or o p).table id) (flow_if (is_some o) flow) →
    IsFlow k.messages (messages_at (unwrap_or (cond test o None) p).table id) (flow_if (is_some (cond test o None)) flow)
length_case p id k o flow true at flows = flows
length_case p id k o flow false at flows = still k.messages ∙ ap messages_in (sym at)

posted_slot : (p : MailParts) (id : ℕ) (bytes : List ℕ) (slot : Option MessageBuffer) → buffer_at p.table id ≡ slot →
    IsFlow (messages_in slot) (messages_at (unwrap_or (posted p id bytes slot) p).table id) (flow_if (is_some (posted p id bytes slot)) (sent_flow (first_receiver p id) bytes))
posted_slot p id bytes None at = ap messages_in (sym at)
posted_slot p id bytes (Some k) at =
    length_case p id k (sent_at_once p id k (none_waits (senders p.base k id)) (first_receiver p id) k.messages bytes) (sent_flow (first_receiver p id) bytes) (takes_length (length bytes) k) at
    (at_once_case p id k bytes (none_waits (senders p.base k id)) (first_receiver p id) k.messages at refl)

-- ---- a step, and many

pub step_flows : (id : ℕ) (p : MailParts) (step : Step) → IsFlow (messages_at p.table id) (messages_at (after id p step).table id) (flow_of id p step)
unfolding serve_buffer post
step_flows id p Serve = served_slot p id (buffer_at p.table id) refl
step_flows id p (Send t bytes timeout) = sent_slot p t id timeout bytes (buffer_at p.table id) refl
step_flows id p (Receive t address timeout) = received_slot p t id address timeout (buffer_at p.table id) refl
step_flows id p (Post bytes) = posted_slot p id bytes (buffer_at p.table id) refl

pub steps_flow : (id : ℕ) (p : MailParts) (steps : List Step) → IsFlow (messages_at p.table id) (messages_at (after_all id p steps).table id) (flow_of_all id p steps)
steps_flow id p [] = still (messages_at p.table id)
steps_flow id p (step ∷ steps) =
    flows_then (messages_at p.table id) (messages_at (after id p step).table id) (messages_at (after_all id (after id p step) steps).table id) (flow_of id p step) (flow_of_all id (after id p step) steps)
    (step_flows id p step) (steps_flow id (after id p step) steps)

-- from an empty buffer on, what entered is what left, and then what lies there
pub all_that_entered : (id : ℕ) (p : MailParts) (steps : List Step) → messages_at p.table id ≡ [] →
    (flow_of_all id p steps).entered ≡ (flow_of_all id p steps).left ++ messages_at (after_all id p steps).table id
all_that_entered id p steps empty = ap (λ before. before ++ (flow_of_all id p steps).entered) (sym empty) ∙ steps_flow id p steps
