-- A driver cuts off a request only where it has taken an Abort of it.
use Rattle.std.proofs.Common.{◌≡◌, ℕ, ◌+◌, Bool, true, false, List, [], ◌∷◌, ◌++◌, Option, Some, None, refl, ap, sym, subst, ◌∙◌}
use Rattle.std.specs.Prelude.{◌==◌, if◌then◌else◌}
use Rattle.std.specs.Option.{option_map}
use Rattle.std.proofs.lemmas.Bool.Decides.{Decides-eqb}
use Rattle.std.proofs.lemmas.List.{append_assoc}
use Rattle.tk_types.specs.declared.script.Kind.{Kind}
use Rattle.device_model.specs.declared.messages.Ending.{Ending}
use Rattle.device_model.specs.declared.messages.Message.{Message}
use Rattle.device_model.specs.declared.messages.Message.TheVariants as message
use Rattle.device_model.specs.declared.messages.Request.{Request}
use Rattle.driver_model.specs.Cores.{Core, aborted, after_block, after_ending, after_message, can_take, cut_off, done, ending_out, heard, is_empty_turn, next_block, turned, went_on, worked}
use Rattle.driver_model.specs.Drives.{Block, Driving, End, Event, Take, driver_step, driving_start, ran}
use Rattle.driver_laws.specs.Words.{HasTaken, is_cut}

-- ---- messages that were taken stay taken

more_taken : (messages : List Message) (m : Message) (number : ℕ) → HasTaken number messages → HasTaken number (messages ++ m ∷ [])
more_taken messages m number has = record {
  front = has.front;
  device = has.device;
  later = has.later ++ m ∷ [];
  is = ap (λ (xs : List Message). xs ++ m ∷ []) has.is ∙ append_assoc has.front (message.Abort has.device number ∷ has.later) (m ∷ []);
}

-- ---- an ending that is ready

-- where it is cut off, its Abort was taken
abbrev IsAsked : List Message → Option Ending → Type 0
IsAsked messages None = Unit {0}
IsAsked messages (Some e) = is_cut e.how ≡ true → HasTaken e.number messages

asked_more : (messages : List Message) (m : Message) (slot : Option Ending) → IsAsked messages slot → IsAsked (messages ++ m ∷ []) slot
asked_more messages m None asked = tt
asked_more messages m (Some e) asked = λ cut. more_taken messages m e.number (asked cut)

either_ready : (messages : List Message) (test : Bool) (one other : Core) → IsAsked messages one.ready → IsAsked messages other.ready → IsAsked messages (if test then one else other).ready
either_ready messages true one other first second = first
either_ready messages false one other first second = second

named_by : (messages : List Message) (d number : ℕ) (request : Request) (c : Core) (same : Bool) → (request.number == number) ≡ same → IsAsked messages c.ready →
    IsAsked (messages ++ message.Abort d number ∷ []) (if same then cut_off c request else c).ready
named_by messages d number request c false is asked = asked_more messages (message.Abort d number) c.ready asked
named_by messages d number request c true is asked = λ cut. record {
  front = messages;
  device = d;
  later = [];
  is = ap (λ (n : ℕ). messages ++ message.Abort d n ∷ []) (sym ((Decides-eqb request.number number).0 is));
}

heard_asked : (messages : List Message) (c : Core) (m : Message) → IsAsked messages c.ready → IsAsked (messages ++ m ∷ []) (heard c m).ready
heard_asked messages c (message.Serve d request) asked = asked_more messages (message.Serve d request) c.ready asked
heard_asked messages c (message.Stop d) asked = asked_more messages (message.Stop d) c.ready asked
heard_asked messages c (message.Abort d number) asked = by_slot c.given
  where
    by_slot : (slot : Option Request) → IsAsked (messages ++ message.Abort d number ∷ []) (aborted number c slot).ready
    by_slot None = asked_more messages (message.Abort d number) c.ready asked
    by_slot (Some request) = named_by messages d number request c (request.number == number) refl asked

turned_asked : (messages : List Message) (c : Core) (slot : Option Request) → IsAsked messages c.ready → IsAsked messages (turned c slot).ready
turned_asked messages c None asked = asked
turned_asked messages c (Some request) asked =
    either_ready messages (is_empty_turn c request) (record c { turns = c.turns + 1 }) (worked c request) asked
    (either_ready messages _ (done c request (next_block c request)) (went_on c (next_block c request)) (λ cut. absurd (cc cut)) asked)

-- ---- events

abbrev IsAskedOf : Driving → Type 0
IsAskedOf d = IsAsked d.taken d.core.ready

taken_asked : (d : Driving) (m : Message) (may : Bool) → IsAskedOf d → IsAskedOf (if may then record d { core = after_message d.core m; taken = d.taken ++ m ∷ [] } else d)
unfolding after_message
taken_asked d m false asked = asked
taken_asked d m true asked = heard_asked d.taken d.core m asked

step_asked : (d : Driving) (e : Event) → IsAskedOf d → IsAskedOf (driver_step d e)
unfolding driver_step after_block after_ending
step_asked d (Take m) asked = taken_asked d m (can_take d.core m) asked
step_asked d Block asked = either_ready d.taken d.core.stopped d.core (turned d.core d.core.given) asked (turned_asked d.taken d.core d.core.given asked)
step_asked d End asked = either_ready d.taken d.core.stopped d.core (record d.core { ready = None }) asked tt

runs : (events : List Event) (d : Driving) → IsAskedOf d → IsAskedOf (ran d events)
unfolding ran
runs [] d asked = asked
runs (e ∷ events) d asked = runs events (driver_step d e) (step_asked d e asked)

out_asked : (messages : List Message) (c : Core) (stopped : Bool) (slot : Option Ending) (e : Ending) → (if stopped then None else option_map (λ (it : Ending). record it { taken = c.taken }) slot) ≡ Some e →
    IsAsked messages slot → is_cut e.how ≡ true → HasTaken e.number messages
out_asked messages c true slot e is asked cut = absurd (cc is)
out_asked messages c false None e is asked cut = absurd (cc is)
out_asked messages c false (Some ready) e is asked cut =
    let same : record ready { taken = c.taken } ≡ e = cc is in
    subst (λ (it : Ending). HasTaken it.number messages) same (asked (ap (λ (it : Ending). is_cut it.how) same ∙ cut))

-- an ending that is cut off and given out
pub cut_was_taken : (d : ℕ) (kind : Kind) (events : List Event) (e : Ending) → ending_out (ran (driving_start d kind) events).core ≡ Some e → is_cut e.how ≡ true →
    HasTaken e.number (ran (driving_start d kind) events).taken
unfolding ending_out
cut_was_taken d kind events e is cut =
    let now : Driving = ran (driving_start d kind) events in
    out_asked now.taken now.core now.core.stopped now.core.ready e is (runs events (driving_start d kind) tt) cut
