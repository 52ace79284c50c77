-- From a statement that is no call, no return and no end of a body nothing follows: nobody can be served who couldn't before,
-- since servings only write the script's memory.
use Rattle.std.proofs.Common.{◌≡◌, ℕ, ◌+◌, Bool, true, false, cond, List, [], ◌∷◌, ◌++◌, Option, Some, None, refl, sym, ◌∙◌, ap, subst, drop, append_assoc, append-nil}
use Rattle.tk_types.specs.declared.line.Line.{Line}
use Rattle.tk_types.specs.declared.run.Frame.{Frame}
use Rattle.tk_types.specs.declared.run.Mode.{Mode}
use Rattle.tk_types.specs.declared.run.Mode.TheVariants as modes
use Rattle.tk_types.specs.declared.script.Script.{Script}
use Rattle.kernel_model.specs.Words.Orders.{taken_from}
use Rattle.kernel_model.specs.Tasks.Base.{fifo_queue}
use Rattle.object_model.specs.declared.mails.Message.{Message}
use Rattle.object_model.specs.Mails.Tables.{Mailbox, MailParts, MessageBuffer, box_at, buffer_at, bytes_of}
use Rattle.object_model.specs.Mails.Boxes.{box_serves, box_waiters, serve_box, serve_box_at, serve_mailboxes}
use Rattle.object_model.specs.Mails.Buffers.{buffer_serves, first_of, has_space, receivers, senders, serve_buffer, serve_buffer_at, serve_buffers}
use Rattle.device_model.specs.Devices.Endings.{DevParts}
use Rattle.device_model.specs.Devices.Handing.{any_given, suspension_object}
use Rattle.device_model.specs.declared.rows.Wish.{Wish}
use Rattle.device_model.specs.declared.rows.Wish.TheVariants as wish
use Rattle.device_model.specs.Devices.Endings.{close_object}
use Rattle.device_model.specs.Devices.Requests.{acceptance_object, ending_object, has_place, picked}
use Rattle.device_model.specs.Devices.Servings.{acceptance_by, admitted_if, admitted_wish, close_by, closed_unless, descriptors, ending_claimed, ending_of_first, is_with_driver, serve_acceptance, serve_acceptances, serve_close, serve_closes, serve_ending, serve_endings, serve_suspension, suspended_unless, suspension_by}
use Rattle.device_model.specs.Devices.Tables.{device_ids, wish_of}
use Rattle.std.specs.List.{find}
use Rattle.std.specs.Option.{is_some}
use Rattle.machine_model.specs.States.Objects.{Parts, dev_parts, kinds, mail_parts, serve_object}
use Rattle.machine_model.specs.States.State.{State, parts_of}
use Rattle.machine_model.specs.Events.Follow.{Event, behind, followed}
use Rattle.machine_model.specs.Events.Rest.{IsAtRest}
use Rattle.machine_model.specs.Events.Settle.{handed}
use Rattle.machine_model.specs.Runs.Step.{is_paced, made_pending, worked}
use Rattle.machine_model.specs.Events.Handlers.{insert_once, requested, with_requests}
use Rattle.context_model.specs.Contexts.Tables.{handler_of}
use Rattle.tk_types.specs.declared.script.Interrupt.{Interrupt}
use Rattle.std.specs.Bool.{◌==◌}
use Rattle.std.specs.Prelude.{filter, fold}
use Rattle.machine_model.specs.Runs.Turns.{done_turn, turn_of}
use Rattle.machine_lemmas.proofs.HandingServes.{AllKinds, each_kind, first_none_by, mapped_none, no_kind, unmapped}
use Rattle.machine_lemmas.proofs.Rest.{followed_none}
use Rattle.machine_model.specs.declared.turns.Turn.{Turn}
use Rattle.kernel_model.specs.Tasks.Waits.{HavePlaces}
use Rattle.ask_lemmas.proofs.ReachedAsked.{HasAsked, asks_are_kept}
use Rattle.ask_lemmas.proofs.WholeWalk.{kept_first}
use Rattle.step_lemmas.specs.Sound.{IsSound, IsWhole}
use Rattle.step_lemmas.proofs.Sound.{asked_of, sound_of}
use Rattle.step_lemmas.specs.Known.{HasDevices}

abbrev with_memory : MailParts → List ℕ → MailParts
with_memory p memory = record p { memory = memory }

box_by : (p : MailParts) (memory : List ℕ) (id : ℕ) (k : Mailbox) (waiters : List ℕ) (messages : List Message) → box_serves p id k waiters messages ≡ None → box_serves (with_memory p memory) id k waiters messages ≡ None
box_by p memory id k [] messages is = refl
box_by p memory id k (t ∷ waiters) [] is = refl
box_by p memory id k (t ∷ waiters) (first ∷ rest) is = absurd (cc is)

box_in : (p : MailParts) (memory : List ℕ) (id : ℕ) (slot : Option Mailbox) → serve_box_at p id slot ≡ None → serve_box_at (with_memory p memory) id slot ≡ None
box_in p memory id None is = refl
box_in p memory id (Some k) is = box_by p memory id k (box_waiters p.base k id) k.messages is

boxes_none : (p : MailParts) (memory : List ℕ) → serve_mailboxes p ≡ None → serve_mailboxes (with_memory p memory) ≡ None
unfolding serve_mailboxes serve_box
boxes_none p memory is =
    first_none_by (serve_box p) (serve_box (with_memory p memory)) (taken_from 1 (drop 1 p.table.boxes)) (taken_from 1 (drop 1 p.table.boxes)) refl (λ id none. box_in p memory id (box_at p.table id) none) is

space_if : (fits : Bool) (one other : MailParts) → cond fits (Some one) None ≡ None → cond fits (Some other) None ≡ None
space_if true one other is = absurd (cc is)
space_if false one other is = refl

buffer_by : (p : MailParts) (memory : List ℕ) (id : ℕ) (k : MessageBuffer) (receiver sender : Option ℕ) (messages : List (List ℕ)) → buffer_serves p id k receiver sender messages ≡ None → buffer_serves (with_memory p memory) id k receiver sender messages ≡ None
buffer_by p memory id k (Some receiver) sender (oldest ∷ later) is = absurd (cc is)
buffer_by p memory id k (Some receiver) (Some sender) [] is = absurd (cc is)
buffer_by p memory id k (Some receiver) None [] is = refl
buffer_by p memory id k None (Some sender) messages is = space_if (has_space k (bytes_of p.table sender)) _ _ is
buffer_by p memory id k None None messages is = refl

buffer_in : (p : MailParts) (memory : List ℕ) (id : ℕ) (slot : Option MessageBuffer) → serve_buffer_at p id slot ≡ None → serve_buffer_at (with_memory p memory) id slot ≡ None
buffer_in p memory id None is = refl
buffer_in p memory id (Some k) is = buffer_by p memory id k (first_of (receivers p.base id)) (first_of (senders p.base k id)) k.messages is

buffers_none : (p : MailParts) (memory : List ℕ) → serve_buffers p ≡ None → serve_buffers (with_memory p memory) ≡ None
unfolding serve_buffers serve_buffer
buffers_none p memory is =
    first_none_by (serve_buffer p) (serve_buffer (with_memory p memory)) (taken_from 1 (drop 1 p.table.buffers)) (taken_from 1 (drop 1 p.table.buffers)) refl (λ id none. buffer_in p memory id (buffer_at p.table id) none) is

-- waits at devices: whether one can be served doesn't hang on the memory
abbrev remembering : DevParts → List ℕ → DevParts
remembering p memory = record p { memory = memory }

wish_admits : (p : DevParts) (memory : List ℕ) (d t : ℕ) (asked : Wish) → admitted_wish p d t asked ≡ None → admitted_wish (remembering p memory) d t asked ≡ None
wish_admits p memory d t (wish.Acceptance transfer stays) is = absurd (cc is)
wish_admits p memory d t wish.Nothing is = refl
wish_admits p memory d t (wish.Ending request serial own) is = refl
wish_admits p memory d t wish.AnyEnding is = refl

place_admits : (place : Bool) (p : DevParts) (memory : List ℕ) (d t : ℕ) → admitted_if place p d t ≡ None → admitted_if place (remembering p memory) d t ≡ None
place_admits false p memory d t is = refl
place_admits true p memory d t is = wish_admits p memory d t (wish_of p.table t) is

accepted_by : (p : DevParts) (memory : List ℕ) (d : ℕ) (waiters : List ℕ) → acceptance_by p d waiters ≡ None → acceptance_by (remembering p memory) d waiters ≡ None
accepted_by p memory d [] is = refl
accepted_by p memory d (t ∷ ts) is = place_admits (has_place p.table d) p memory d t is

acceptances_none : (p : DevParts) (memory : List ℕ) → serve_acceptances p ≡ None → serve_acceptances (remembering p memory) ≡ None
unfolding serve_acceptances serve_acceptance
acceptances_none p memory is =
    first_none_by (serve_acceptance p) (serve_acceptance (remembering p memory)) (device_ids p.table) (device_ids p.table) refl
    (λ d none. accepted_by p memory d (fifo_queue p.base (acceptance_object d)) none) is

claimed_by : (p : DevParts) (memory : List ℕ) (t : ℕ) (found : Option ℕ) → ending_claimed p t found ≡ None → ending_claimed (remembering p memory) t found ≡ None
claimed_by p memory t None is = refl
claimed_by p memory t (Some id) is = absurd (cc is)

ended_by : (p : DevParts) (memory : List ℕ) (dd : ℕ) (first : Option ℕ) → ending_of_first p dd first ≡ None → ending_of_first (remembering p memory) dd first ≡ None
ended_by p memory dd None is = refl
ended_by p memory dd (Some t) is = claimed_by p memory t (picked p.table dd (wish_of p.table t)) is

endings_none : (p : DevParts) (memory : List ℕ) → serve_endings p ≡ None → serve_endings (remembering p memory) ≡ None
unfolding serve_endings serve_ending
endings_none p memory is =
    first_none_by (serve_ending p) (serve_ending (remembering p memory)) (descriptors p.table) (descriptors p.table) refl
    (λ dd none. ended_by p memory dd (find (λ t. is_some (picked p.table dd (wish_of p.table t))) (fifo_queue p.base (ending_object dd))) none) is

closed_if : (with_driver : Bool) (p : DevParts) (memory : List ℕ) (dd t : ℕ) → closed_unless with_driver p dd t ≡ None → closed_unless with_driver (remembering p memory) dd t ≡ None
closed_if true p memory dd t is = refl
closed_if false p memory dd t is = absurd (cc is)

closed_by : (p : DevParts) (memory : List ℕ) (dd : ℕ) (waiters : List ℕ) → close_by p dd waiters ≡ None → close_by (remembering p memory) dd waiters ≡ None
closed_by p memory dd [] is = refl
closed_by p memory dd (t ∷ ts) is = closed_if (is_with_driver p.table dd) p memory dd t is

closes_none : (p : DevParts) (memory : List ℕ) → serve_closes p ≡ None → serve_closes (remembering p memory) ≡ None
unfolding serve_closes serve_close
closes_none p memory is =
    first_none_by (serve_close p) (serve_close (remembering p memory)) (descriptors p.table) (descriptors p.table) refl
    (λ dd none. closed_by p memory dd (fifo_queue p.base (close_object dd)) none) is

suspended_by : (any : Bool) (p : DevParts) (memory : List ℕ) (t : ℕ) → suspended_unless any p t ≡ None → suspended_unless any (record p { memory = memory }) t ≡ None
suspended_by true p memory t is = refl
suspended_by false p memory t is = absurd (cc is)

suspension_in : (p : DevParts) (memory : List ℕ) (waiters : List ℕ) → suspension_by p waiters ≡ None → suspension_by (record p { memory = memory }) waiters ≡ None
suspension_in p memory [] is = refl
suspension_in p memory (t ∷ ts) is = suspended_by (any_given p.table) p memory t is

suspension_none : (p : DevParts) (memory : List ℕ) → serve_suspension p ≡ None → serve_suspension (record p { memory = memory }) ≡ None
unfolding serve_suspension
suspension_none p memory is = suspension_in p memory (fifo_queue p.base suspension_object) is

-- where nobody can be served, nobody can be with another memory
pub memory_unserved : (p : Parts) (memory : List ℕ) → serve_object p ≡ None → serve_object (record p { memory = memory }) ≡ None
unfolding serve_object AllKinds
memory_unserved p memory is =
    let all = each_kind kinds p is in
    let now : Parts = record p { memory = memory } in
    no_kind kinds now (
      mapped_none _ _ (unmapped _ _ all.0),
      (
        mapped_none _ _ (boxes_none (mail_parts p) memory (unmapped _ _ all.1.0)),
        (
          mapped_none _ _ (unmapped _ _ all.1.1.0),
          (
            mapped_none _ _ (buffers_none (mail_parts p) memory (unmapped _ _ all.1.1.1.0)),
            (
              mapped_none _ _ (unmapped _ _ all.1.1.1.1.0),
              (
                mapped_none _ _ (unmapped _ _ all.1.1.1.1.1.0),
                (
                  mapped_none _ _ (acceptances_none (dev_parts p) memory (unmapped _ _ all.1.1.1.1.1.1.0)),
                  (
                    mapped_none _ _ (endings_none (dev_parts p) memory (unmapped _ _ all.1.1.1.1.1.1.1.0)),
                    (mapped_none _ _ (closes_none (dev_parts p) memory (unmapped _ _ all.1.1.1.1.1.1.1.1.0)), (mapped_none _ _ (suspension_none (dev_parts p) memory (unmapped _ _ all.1.1.1.1.1.1.1.1.1.0)), tt)),
                  ),
                ),
              ),
            ),
          ),
        ),
      ),
    )

given_still : (mode : Mode) (p : Parts) (memory : List ℕ) → handed mode p ≡ p → handed mode (record p { memory = memory }) ≡ record p { memory = memory }
given_still modes.Sync p memory is = refl
given_still modes.Free p memory is = ap (λ (q : Parts). record q { memory = memory }) is

-- a state at rest stays so when its frames and the script's memory change
pub still_rest : (mode : Mode) (st : State) (frames : List Frame) (memory : List ℕ) → IsAtRest mode st → IsAtRest mode (record st { frames = frames; memory = memory })
still_rest mode st frames memory rest = record {
  unserved = memory_unserved (parts_of st) memory rest.unserved;
  up_to_date = rest.up_to_date;
  given = given_still mode (parts_of st) memory rest.given;
  followed = rest.followed;
  dispatched = rest.dispatched;
}

-- the same in the form of the code
pub still_at_rest : (mode : Mode) (view st now : State) (frames : List Frame) (memory : List ℕ) → view ≡ st → IsAtRest mode st → now ≡ record view { frames = frames; memory = memory } → IsAtRest mode now
still_at_rest mode view st now frames memory same rest moved =
    let here : now ≡ record st { frames = frames; memory = memory } = moved ∙ ap (λ (s : State). record s { frames = frames; memory = memory }) same in
    subst (IsAtRest mode) (sym here) (still_rest mode st frames memory rest)

-- each task that waits stands in its order after what is done at a step
pub done_sound : (script : Script) (mode : Mode) (n : ℕ) (old ready now : State) (turn : Turn) → HavePlaces old.base → IsWhole old → HasDevices old → IsSound old.base old.objects → ready ≡ made_pending script n old → turn ≡ turn_of ready → now ≡ (done_turn script mode n ready turn).state → IsSound now.base now.objects
done_sound script mode n old ready now turn places whole none all at_ready at_turn at_now =
    let has : HasAsked (parts_of old) = asked_of old places whole none all in
    let here : now ≡ (done_turn script mode n (made_pending script n old) (turn_of (made_pending script n old))).state =
    at_now ∙ ap (λ (t : Turn). (done_turn script mode n ready t).state) at_turn ∙ ap (λ (s : State). (done_turn script mode n s (turn_of s)).state) at_ready in
    subst (λ (s : State). IsSound s.base s.objects) (sym here) (sound_of _ (kept_first HasAsked asks_are_kept script mode n old has))

-- where what was done at a step leaves the state at rest, nothing follows
rest_is_all : (script : Script) (mode : Mode) (n : ℕ) (old ready now : State) → IsAtRest mode now → ready ≡ made_pending script n old → now ≡ (done_turn script mode n ready (turn_of ready)).state →
    worked script mode n old ≡ record { state = now; lines = (done_turn script mode n ready (turn_of ready)).lines ++ [] }
unfolding worked
rest_is_all script mode n old ready now rest at_ready at_now =
    ap (λ (st : State). behind (done_turn script mode n st (turn_of st)).lines (followed script mode n (done_turn script mode n st (turn_of st)).state)) (sym at_ready)
    ∙ ap (λ (st : State). behind (done_turn script mode n ready (turn_of ready)).lines (followed script mode n st)) (sym at_now)
    ∙ ap (λ (event : Event). behind (done_turn script mode n ready (turn_of ready)).lines event) (followed_none script mode n now rest)

pub rest_state : (script : Script) (mode : Mode) (n : ℕ) (old ready now : State) (turn : Turn) → IsAtRest mode now → ready ≡ made_pending script n old → turn ≡ turn_of ready → now ≡ (done_turn script mode n ready turn).state → now ≡ (worked script mode n old).state
rest_state script mode n old ready now turn rest at_ready at_turn at_now =
    sym (ap (λ (event : Event). event.state) (rest_is_all script mode n old ready now rest at_ready (at_now ∙ ap (λ (t : Turn). (done_turn script mode n ready t).state) at_turn)))

pub rest_lines : (script : Script) (mode : Mode) (n : ℕ) (old ready now : State) (turn : Turn) (before after : List Line) → IsAtRest mode now → ready ≡ made_pending script n old → turn ≡ turn_of ready → now ≡ (done_turn script mode n ready turn).state →
    after ≡ before ++ (done_turn script mode n ready turn).lines → after ≡ before ++ (worked script mode n old).lines
rest_lines script mode n old ready now turn before after rest at_ready at_turn at_now written =
    written
    ∙ ap (λ (t : Turn). before ++ (done_turn script mode n ready t).lines) at_turn
    ∙ ap (λ (lines : List Line). before ++ lines)
    (sym (append-nil (done_turn script mode n ready (turn_of ready)).lines) ∙ sym (ap (λ (event : Event). event.lines) (rest_is_all script mode n old ready now rest at_ready (at_now ∙ ap (λ (t : Turn). (done_turn script mode n ready t).state) at_turn))))

-- where something follows, all of it is what the definition says
pub work_state : (script : Script) (mode : Mode) (n : ℕ) (old ready mid now : State) (turn : Turn) → ready ≡ made_pending script n old → turn ≡ turn_of ready → mid ≡ (done_turn script mode n ready turn).state → now ≡ (followed script mode n mid).state → now ≡ (worked script mode n old).state
unfolding worked
work_state script mode n old ready mid now turn at_ready at_turn at_mid at_now =
    at_now
    ∙ ap (λ (s : State). (followed script mode n s).state) (at_mid ∙ ap (λ (t : Turn). (done_turn script mode n ready t).state) at_turn)
    ∙ ap (λ (s : State). (followed script mode n (done_turn script mode n s (turn_of s)).state).state) at_ready

pub work_lines : (script : Script) (mode : Mode) (n : ℕ) (old ready mid : State) (turn : Turn) (before between after : List Line) → ready ≡ made_pending script n old → turn ≡ turn_of ready → mid ≡ (done_turn script mode n ready turn).state →
    between ≡ before ++ (done_turn script mode n ready turn).lines → after ≡ between ++ (followed script mode n mid).lines → after ≡ before ++ (worked script mode n old).lines
unfolding worked
work_lines script mode n old ready mid turn before between after at_ready at_turn at_mid said told =
    told
    ∙ ap (λ (ls : List Line). ls ++ (followed script mode n mid).lines) (said ∙ ap (λ (t : Turn). before ++ (done_turn script mode n ready t).lines) at_turn)
    ∙ append_assoc before (done_turn script mode n ready (turn_of ready)).lines (followed script mode n mid).lines
    ∙ ap (λ (s : State). before ++ ((done_turn script mode n ready (turn_of ready)).lines ++ (followed script mode n s).lines)) (at_mid ∙ ap (λ (t : Turn). (done_turn script mode n ready t).state) at_turn)
    ∙ ap (λ (s : State). before ++ ((done_turn script mode n s (turn_of s)).lines ++ (followed script mode n (done_turn script mode n s (turn_of s)).state).lines)) at_ready

-- ---- what a step makes pending

requested_if : (st : State) (test : Bool) (more : List ℕ) → cond test st (record st { pending = more }) ≡ record st { pending = (cond test st (record st { pending = more })).pending }
requested_if st true more = refl
requested_if st false more = refl

requested_each : (st : State) (irqs : List Interrupt) → fold (λ before irq. requested before irq.number) st irqs ≡ record st { pending = (fold (λ before irq. requested before irq.number) st irqs).pending }
requested_each st [] = refl
requested_each st (irq ∷ irqs) =
    let one : State = requested st irq.number in
    let same : one ≡ record st { pending = one.pending } = requested_if st (handler_of st.objects.contexts irq.number == 0) (insert_once irq.number st.pending) in
    requested_each one irqs ∙ ap (λ (s : State). record s { pending = (fold (λ before irq. requested before irq.number) one irqs).pending }) same

paced_same : (script : Script) (n : ℕ) (st : State) (test : Bool) → cond test (record st { ticks = st.ticks + 1 }) st ≡ record st { ticks = (cond test (record st { ticks = st.ticks + 1 }) st).ticks }
paced_same script n st true = refl
paced_same script n st false = refl

-- it changes nothing but what is pending
pub pending_same : (script : Script) (n : ℕ) (st : State) → made_pending script n st ≡ record st { pending = (made_pending script n st).pending; ticks = (made_pending script n st).ticks }
unfolding with_requests
pending_same script n st =
    let irqs : List Interrupt = filter (λ irq. irq.step == n) script.irqs in
    let now : State = fold (λ before irq. requested before irq.number) st irqs in
    let ticked : made_pending script n st ≡ record now { ticks = (made_pending script n st).ticks } = paced_same script n now (is_paced script.pace n) in
    ticked
    ∙ ap (λ (s : State). record s { ticks = (made_pending script n st).ticks }) (requested_each st irqs)
    ∙ ap (λ (pending : List ℕ). record st { pending = pending; ticks = (made_pending script n st).ticks }) (sym (ap (λ (s : State). s.pending) ticked))

pending_rest : (mode : Mode) (st : State) (pending : List ℕ) (ticks : ℕ) → IsAtRest mode st → IsAtRest mode (record st { pending = pending; ticks = ticks })
pending_rest mode st pending ticks rest = record { unserved = rest.unserved; up_to_date = rest.up_to_date; given = rest.given; followed = rest.followed; dispatched = rest.dispatched }

-- so from a state at rest nothing follows either once something is pending
pub pending_at_rest : (script : Script) (mode : Mode) (n : ℕ) (st now : State) → IsAtRest mode st → now ≡ made_pending script n st → IsAtRest mode now
pending_at_rest script mode n st now rest is =
    subst (IsAtRest mode) (sym (is ∙ pending_same script n st)) (pending_rest mode st (made_pending script n st).pending (made_pending script n st).ticks rest)

pub pending_base : (script : Script) (n : ℕ) (st now : State) → now ≡ made_pending script n st → now.base ≡ st.base
pending_base script n st now is = ap (λ (s : State). s.base) (is ∙ pending_same script n st)

pub pending_objects : (script : Script) (n : ℕ) (st now : State) → now ≡ made_pending script n st → now.objects ≡ st.objects
pending_objects script n st now is = ap (λ (s : State). s.objects) (is ∙ pending_same script n st)

pub pending_sound : (script : Script) (n : ℕ) (st now : State) → IsSound st.base st.objects → now ≡ made_pending script n st → IsSound now.base now.objects
pending_sound script n st now all is = subst (λ (s : State). IsSound s.base s.objects) (sym (is ∙ pending_same script n st)) all

-- the ticks that are pending stay as they are where only interrupts are requested
pub requested_ticks : (script : Script) (n : ℕ) (st now : State) → now ≡ with_requests script n st → now.ticks ≡ st.ticks
unfolding with_requests
requested_ticks script n st now is = ap (λ (s : State). s.ticks) (is ∙ requested_each st (filter (λ irq. irq.step == n) script.irqs))
