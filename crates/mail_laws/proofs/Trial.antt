-- A call that waits at a mailbox decides as its trial does.
use Rattle.std.proofs.Common.{◌≡◌, ℕ, true, List, [], ◌∷◌, Some, None, refl, ◌∙◌, ap, sym, ℤ}
use Rattle.std.specs.Option.{option_map_or}
use Rattle.tk_types.specs.declared.answer.Answer.{Answer}
use Rattle.tk_types.specs.declared.answer.Outcome.TheVariants.{Returned}
use Rattle.kernel_model.specs.SemFlags.Trial.{MayWait, back_in}
use Rattle.kernel_model.specs.Tasks.Base.{Base, current, give_bytes, is_waiting, make_wait, release}
use Rattle.call_lemmas.proofs.Picks.{joined}
use Rattle.call_lemmas.proofs.Trial.{joined_waits, queue_joined}
use Rattle.object_model.specs.declared.mails.Message.{Message}
use Rattle.object_model.specs.Mails.Tables.{Mailbox, MailParts, box_object, box_at}
use Rattle.object_model.specs.Mails.Boxes.{message_answer, message_bytes, box_waiters, left_in_box, box_serves, serve_box, serve_box_at}
use Rattle.object_model.specs.Mails.Calls.{MailDone, mail_done, waits_or_ends, taken_from_box, received_from_box}
use Rattle.mail_laws.specs.Trial.{box_trial, box_trial_of}
use Rattle.mail_laws.proofs.Backs.{base_back, answered, one_joined}

none_waits : (p : MailParts) (id : ℕ) (k : Mailbox) (waiters : List ℕ) (first : Message) (rest : List Message) → box_serves p id k waiters (first ∷ rest) ≡ None → waiters ≡ []
none_waits p id k [] first rest none = refl
none_waits p id k (t ∷ waiters) first rest none = absurd (cc none)

nothing_there : (p : MailParts) (id : ℕ) (k : Mailbox) (waiters : List ℕ) → box_serves p id k waiters [] ≡ None
nothing_there p id k [] = refl
nothing_there p id k (t ∷ waiters) = refl

joined_parts : MailParts → ℕ → ℕ → ℤ → Mailbox → MailParts
joined_parts p t id timeout k = record p { base = make_wait p.base t (box_object id) k.order timeout }

-- the only waiter is served, and is back where it was
served_back : (p : MailParts) (c : Base) (t id : ℕ) (timeout : ℤ) (k : Mailbox) (first : Message) (rest : List Message) → back_in p.base (release c t (message_answer first)) t ≡ p.base → is_waiting c t ≡ true →
    mail_done (left_in_box p id k rest) (Returned (message_answer first)) ≡ box_trial_of p t id timeout k (box_serves (record p { base = c }) id k (t ∷ []) (first ∷ rest))
served_back p c t id timeout k first rest back waits =
    let q : MailParts = left_in_box (record p { base = release c t (message_answer first) }) id k rest in
    let returned : Answer → MailDone = λ answer. mail_done (record q { base = back_in p.base q.base t }) (Returned answer) in
    sym (ap (λ ended. option_map_or returned ended (waits_or_ends p t (box_object id) k.order timeout p.table)) (answered c t (message_answer first) waits)
    ∙ ap (λ base. mail_done (record q { base = give_bytes base message_bytes }) (Returned (message_answer first))) back)

trial_case : (p : MailParts) (t id : ℕ) (timeout : ℤ) (k : Mailbox) (messages : List Message) → MayWait p.base t → box_serves p id k (box_waiters p.base k id) messages ≡ None →
    taken_from_box p t id timeout k messages ≡ box_trial_of p t id timeout k (box_serves (joined_parts p t id timeout k) id k (box_waiters (joined_parts p t id timeout k).base k id) messages)
unfolding joined_parts
trial_case p t id timeout k [] may none =
    sym (ap (box_trial_of p t id timeout k) (nothing_there (joined_parts p t id timeout k) id k (box_waiters (joined_parts p t id timeout k).base k id)))
trial_case p t id timeout k (first ∷ rest) may none =
    let c : Base = make_wait p.base t (box_object id) k.order timeout in
    let alone : box_waiters c k id ≡ t ∷ [] =
    queue_joined k.order p.base t (box_object id) k.order timeout may
    ∙ ap (joined k.order (current p.base) t) (none_waits p id k (box_waiters p.base k id) first rest none)
    ∙ one_joined k.order (current p.base) t in
    served_back p c t id timeout k first rest (base_back p.base t (box_object id) k.order timeout (message_answer first) may) (joined_waits p.base t (box_object id) k.order timeout may)
    ∙ ap (λ waiters. box_trial_of p t id timeout k (box_serves (record p { base = c }) id k waiters (first ∷ rest))) (sym alone)

pub box_call_is_trial : (p : MailParts) (t id : ℕ) (timeout : ℤ) (k : Mailbox) → MayWait p.base t → box_at p.table id ≡ Some k → serve_box p id ≡ None →
    received_from_box p t id timeout (Some k) ≡ box_trial p t id timeout k
unfolding serve_box box_trial joined_parts
box_call_is_trial p t id timeout k may at none =
    trial_case p t id timeout k k.messages may (ap (serve_box_at p id) (sym at) ∙ none)
    ∙ ap (λ slot. box_trial_of p t id timeout k (serve_box_at (joined_parts p t id timeout k) id slot)) (sym at)
