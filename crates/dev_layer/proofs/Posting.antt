-- What is sent to message buffers leaves them and their waiters fit.
use Rattle.std.proofs.Common.{◌≡◌, ℕ, zero, suc, ◌≤◌, ◌<◌, Bool, true, false, cond, List, [], ◌∷◌, ◌++◌, Option, Some, None, refl, ap, sym, ◌∙◌, subst, arith, length}
use Rattle.std.specs.Bool.{◌==◌}
use Rattle.std.specs.Prelude.{unwrap_or, ◌%◌, ◌/◌}
use Rattle.std.proofs.lemmas.Bool.Decides.{nat_tests}
use Rattle.tk_types.specs.declared.answer.Answer.{Answer}
use Rattle.tk_types.specs.declared.task.Order.TheVariants.{Fifo}
use Rattle.kernel_model.specs.Words.Orders.{entry}
use Rattle.kernel_model.specs.Tasks.Base.{Base, release, waiting_in, waits_for}
use Rattle.kernel_model.specs.Tasks.Queues.{AreOfOrder}
use Rattle.kernel_lemmas.proofs.Releases.{release_others, release_over}
use Rattle.kernel_lemmas.proofs.Tables.{entry_each, entry_same}
use Rattle.object_model.specs.Mails.Buffers.{first_of, has_space, message_stored, none_waits, post, posted, receivers, senders, sent_at_once, takes_length}
use Rattle.object_model.specs.Mails.Calls.{has_place}
use Rattle.std.specs.Option.{is_some}
use Rattle.device_model.specs.Devices.Endings.{DevParts}
use Rattle.device_model.specs.Devices.Suspension.{after_post, event_bytes, event_sent, mail_parts}
use Rattle.device_model.specs.Devices.Memory.{four_bytes}
use Rattle.device_model.specs.Devices.Tables.{buffer_of}
use Rattle.object_model.specs.Mails.Tables.{MailParts, Mails, MessageBuffer, buffer_at, bytes_of, has_mbf, place_of, receivers_object, senders_object, with_buffer}
use Rattle.mail_buffer.specs.Tables.{AreNamed}
use Rattle.mail_buffer.proofs.Ending.{release_alike}
use Rattle.dev_layer.specs.Parts.{AreFit, parts_of}
use Rattle.dev_layer.proofs.Aborting.{idle_for}

-- ---- a wait ends

before_if : (b : Base) (t : ℕ) (result : Answer) (object u : ℕ) (same : Bool) → (u == t) ≡ same → waits_for (release b t result) object u ≡ true → waits_for b object u ≡ true
before_if b t result object u true is waits =
    let itself : u ≡ t = grind (arith, nat_tests, is) in
    let idle : waits_for (release b t result) object u ≡ false = subst (λ (v : ℕ). waits_for (release b t result) object v ≡ false) (sym itself) (idle_for (release b t result) object t (release_over b t result)) in
    absurd (cc (waits, idle))
before_if b t result object u false is waits =
    ap (waiting_in object) (sym (release_others b t u result (λ same. grind (arith, nat_tests, is, same)))) ∙ waits

waits_before : (b : Base) (t : ℕ) (result : Answer) (object u : ℕ) → waits_for (release b t result) object u ≡ true → waits_for b object u ≡ true
waits_before b t result object u waits = before_if b t result object u (u == t) refl waits

pub released_fit : (b : Base) (m : Mails) (t : ℕ) (result : Answer) → AreFit b m → AreFit (release b t result) m
released_fit b m t result fit = record {
  queued = record {
    boxes = λ id k low high there. release_alike k.order b t _ result (fit.queued.boxes id k low high there);
    senders = λ id k low high there. release_alike k.order b t _ result (fit.queued.senders id k low high there);
    receivers = λ id k low high there. release_alike Fifo b t _ result (fit.queued.receivers id k low high there);
  };
  asked = record {
    senders = λ id u k low high there waits. fit.asked.senders id u k low high there (waits_before b t result (senders_object id) u waits);
    receivers = λ id u k low high there waits. fit.asked.receivers id u k low high there (waits_before b t result (receivers_object id) u waits);
  };
}

-- ---- a message is stored

-- what holds of each buffer holds where one has another message, if it doesn't look at messages
each_kept : (P : ℕ → MessageBuffer → Type 0) (m : Mails) (id : ℕ) (k : MessageBuffer) (messages : List (List ℕ)) → ((n : ℕ) → (j : MessageBuffer) → buffer_at m n ≡ Some j → P n j) → buffer_at m id ≡ Some k →
    (P id k → P id (record k { messages = messages })) → (n : ℕ) → (j : MessageBuffer) → buffer_at (with_buffer m id (Some (record k { messages = messages }))) n ≡ Some j → P n j
each_kept P m id k messages all there same = entry_each (λ n slot. (j : MessageBuffer) → slot ≡ Some j → P n j) m.buffers id (Some (record k { messages = messages }))
    (entry_same (λ slot. (j : MessageBuffer) → slot ≡ Some j → P id j) m.buffers id (Some (record k { messages = messages }))
    (λ j is. (let itself : record k { messages = messages } ≡ j = cc is in subst (P id) itself (same (all id k there)))) (λ j is. absurd (cc is)))
    (λ n apart. all n)

stored_fit : (b : Base) (m : Mails) (id : ℕ) (k : MessageBuffer) (messages : List (List ℕ)) → buffer_at m id ≡ Some k → AreFit b m → AreFit b (with_buffer m id (Some (record k { messages = messages })))
stored_fit b m id k messages there fit = record {
  queued = record {
    boxes = fit.queued.boxes;
    senders = λ n j least most is. each_kept (λ n j. 1 ≤ n → n ≤ 64 → AreOfOrder j.order b (senders_object n)) m id k messages (λ n j is least most. fit.queued.senders n j least most is) there (λ was. was) n j is least most;
    receivers = λ n j least most is. each_kept (λ n j. 1 ≤ n → n ≤ 64 → AreOfOrder Fifo b (receivers_object n)) m id k messages (λ n j is least most. fit.queued.receivers n j least most is) there (λ was. was) n j is least most;
  };
  asked = record {
    senders = λ n u j least most is waits. each_kept (λ n j. 1 ≤ n → n ≤ 64 → waits_for b (senders_object n) u ≡ true → takes_length (length (bytes_of m u)) j ≡ true) m id k messages
        (λ n j is least most waits. fit.asked.senders n u j least most is waits) there (λ was. was) n j is least most waits;
    receivers = λ n u j least most is waits. each_kept (λ n j. 1 ≤ n → n ≤ 64 → waits_for b (receivers_object n) u ≡ true → has_place (place_of m u) j ≡ true) m id k messages
        (λ n j is least most waits. fit.asked.receivers n u j least most is waits) there (λ was. was) n j is least most waits;
  };
}

-- ---- a send

abbrev FitAfter : Option MailParts → Type 0
FitAfter None = Unit {0}
FitAfter (Some q) = AreFit q.base q.table

space_fit : (p : MailParts) (id : ℕ) (k : MessageBuffer) (bytes : List ℕ) (room : Bool) → buffer_at p.table id ≡ Some k → AreFit p.base p.table → FitAfter (cond room (Some (message_stored p id k bytes)) None)
space_fit p id k bytes true there fit = stored_fit p.base p.table id k (k.messages ++ bytes ∷ []) there fit
space_fit p id k bytes false there fit = tt

at_once_fit : (p : MailParts) (id : ℕ) (k : MessageBuffer) (alone : Bool) (receiver : Option ℕ) (messages : List (List ℕ)) (bytes : List ℕ) → buffer_at p.table id ≡ Some k → AreFit p.base p.table →
    FitAfter (sent_at_once p id k alone receiver messages bytes)
at_once_fit p id k false receiver messages bytes there fit = tt
at_once_fit p id k true (Some receiver) (oldest ∷ later) bytes there fit = tt
at_once_fit p id k true (Some receiver) [] bytes there fit = released_fit p.base p.table receiver _ fit
at_once_fit p id k true None messages bytes there fit = space_fit p id k bytes (has_space k bytes) there fit

takes_fit : (p : MailParts) (id : ℕ) (k : MessageBuffer) (bytes : List ℕ) (takes : Bool) → buffer_at p.table id ≡ Some k → AreFit p.base p.table →
    FitAfter (cond takes (sent_at_once p id k (none_waits (senders p.base k id)) (first_of (receivers p.base id)) k.messages bytes) None)
takes_fit p id k bytes true there fit = at_once_fit p id k (none_waits (senders p.base k id)) (first_of (receivers p.base id)) k.messages bytes there fit
takes_fit p id k bytes false there fit = tt

posted_fit : (p : MailParts) (id : ℕ) (bytes : List ℕ) (slot : Option MessageBuffer) → buffer_at p.table id ≡ slot → AreFit p.base p.table → FitAfter (posted p id bytes slot)
posted_fit p id bytes None there fit = tt
posted_fit p id bytes (Some k) there fit = takes_fit p id k bytes (takes_length (length bytes) k) there fit

post_fit : (p : MailParts) (id : ℕ) (bytes : List ℕ) → AreFit p.base p.table → FitAfter (post p id bytes)
unfolding post
post_fit p id bytes fit = posted_fit p id bytes (buffer_at p.table id) refl fit

after_fit : (p : MailParts) (sent : Option MailParts) → AreFit p.base p.table → FitAfter sent → AreFit (unwrap_or sent p).base (unwrap_or sent p).table
after_fit p None fit more = fit
after_fit p (Some q) fit more = more

-- a send of the kernel leaves what it asks for
pub sent_fit : (p q : MailParts) (id : ℕ) (bytes : List ℕ) → AreFit p.base p.table → q ≡ unwrap_or (post p id bytes) p → AreFit q.base q.table
sent_fit p q id bytes fit is = subst (λ (r : MailParts). AreFit r.base r.table) (sym is) (after_fit p (post p id bytes) fit (post_fit p id bytes fit))

-- without a buffer nothing is sent
pub nothing_posted : (p : MailParts) (id : ℕ) (bytes : List ℕ) → buffer_at p.table id ≡ None → post p id bytes ≡ None
unfolding post
nothing_posted p id bytes none = ap (posted p id bytes) none

there_small : (slots : List (Option MessageBuffer)) (n : ℕ) → is_some (entry slots n) ≡ true → n < length slots
there_small [] n some = absurd (cc some)
there_small (x ∷ slots) zero some = omega arith
there_small (x ∷ slots) (suc n) some = let rest : n < length slots = there_small slots n some in omega (arith, rest)

-- the ID of a message buffer is from 1 to 64
pub id_high : (m : Mails) (id : ℕ) → AreNamed m → has_mbf m id ≡ true → id ≤ 64
id_high m id named some = let inside : id < length m.buffers = there_small m.buffers id some in let few : length m.buffers ≤ 65 = named.few in omega (arith, inside, few)

pub id_low : (m : Mails) (id : ℕ) → AreNamed m → has_mbf m id ≡ true → 1 ≤ id
id_low m zero named some = absurd (cc (some, named.unnamed))
id_low m (suc id) named some = omega arith

after_is : (p : DevParts) (sent : Option MailParts) → after_post p sent ≡ parts_of (unwrap_or sent (mail_parts p)).base p.table (unwrap_or sent (mail_parts p)).table (unwrap_or sent (mail_parts p)).memory
after_is p None = refl
after_is p (Some q) = refl

-- an event goes to the event buffer of a device
pub event_goes : (p : DevParts) (event d id : ℕ) (q : MailParts) → id ≡ buffer_of p.table d → q ≡ unwrap_or (post (mail_parts p) id (event_bytes event d)) (mail_parts p) → parts_of q.base p.table q.table q.memory ≡ event_sent event p d
event_goes p event d id q buffer is =
    ap (λ (r : MailParts). parts_of r.base p.table r.table r.memory) is
    ∙ sym (after_is p (post (mail_parts p) id (event_bytes event d)))
    ∙ ap (λ (n : ℕ). after_post p (post (mail_parts p) n (event_bytes event d))) buffer

pub event_dropped : (p : DevParts) (event d id : ℕ) → id ≡ buffer_of p.table d → buffer_at p.mails id ≡ None → p ≡ event_sent event p d
event_dropped p event d id buffer none =
    ap (after_post p) (sym (nothing_posted (mail_parts p) id (event_bytes event d) none))
    ∙ ap (λ (n : ℕ). after_post p (post (mail_parts p) n (event_bytes event d))) buffer

four_small : (n : ℕ) → n < 256 → four_bytes n ≡ n ∷ 0 ∷ 0 ∷ 0 ∷ []
four_small n small =
    let one : n % 256 ≡ n = grind (arith, small) in
    let two : n / 256 ≡ 0 = grind (arith, small) in
    let three : n / 65536 ≡ 0 = grind (arith, small) in
    let four : n / 16777216 ≡ 0 = grind (arith, small) in
    rw (one, two, three, four) refl

pub bytes_are : (event d : ℕ) → event < 256 → d < 256 → (event ∷ 0 ∷ 0 ∷ 0 ∷ d ∷ 0 ∷ 0 ∷ 0 ∷ 0 ∷ 0 ∷ 0 ∷ 0 ∷ []) ≡ event_bytes event d
bytes_are event d small small_too =
    ap (λ xs. event ∷ 0 ∷ 0 ∷ 0 ∷ (xs ++ (0 ∷ 0 ∷ 0 ∷ 0 ∷ []))) (sym (four_small d small_too)) ∙ ap (λ xs. xs ++ (four_bytes d ++ four_bytes 0)) (sym (four_small event small))
