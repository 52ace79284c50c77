-- What a driver has taken and sent grows by its events; it counts the messages that it has taken; and an ending tells at least how many
-- these were before.
use Rattle.std.proofs.Common.{◌≡◌, ◌+◌, ◌≤◌, Bool, true, false, List, [], ◌∷◌, ◌++◌, Option, Some, None, refl, ap, sym, subst, ◌∙◌, arith}
use Rattle.std.specs.Prelude.{if◌then◌else◌}
use Rattle.std.specs.Option.{option_map}
use Rattle.std.proofs.lemmas.List.{append-nil, append_assoc}
use Rattle.device_model.specs.declared.messages.Ending.{Ending}
use Rattle.device_model.specs.declared.messages.Message.{Message}
use Rattle.device_model.specs.declared.messages.Request.{Request}
use Rattle.driver_model.specs.Cores.{Core, after_block, after_ending, after_message, can_take, done, ending_out, is_empty_turn, next_block, turned, went_on, worked}
use Rattle.driver_model.specs.Drives.{Block, Driving, End, Event, Take, driver_step, listed, ran}
use Rattle.fleet_laws.proofs.Gathers.{behind_same, never_longer}

-- ---- the count

either_core : {A : Type 0} (field : Core → A) (test : Bool) (one other : Core) (x : A) → field one ≡ x → field other ≡ x → field (if test then one else other) ≡ x
either_core field true one other x first second = first
either_core field false one other x first second = second

turned_taken : (c : Core) (slot : Option Request) → (turned c slot).taken ≡ c.taken
turned_taken c None = refl
turned_taken c (Some request) =
    either_core (λ (it : Core). it.taken) (is_empty_turn c request) (record c { turns = c.turns + 1 }) (worked c request) c.taken refl
    (either_core (λ (it : Core). it.taken) _ (done c request (next_block c request)) (went_on c (next_block c request)) c.taken refl refl)

-- a turn leaves it
pub block_taken : (c : Core) → (after_block c).taken ≡ c.taken
unfolding after_block
block_taken c = either_core (λ (it : Core). it.taken) c.stopped c (turned c c.given) c.taken refl (turned_taken c c.given)

-- so does an ending
pub ending_taken : (c : Core) → (after_ending c).taken ≡ c.taken
unfolding after_ending
ending_taken c = either_core (λ (it : Core). it.taken) c.stopped c (record c { ready = None }) c.taken refl refl

-- a message counts one
pub message_taken : (c : Core) (m : Message) → (after_message c m).taken ≡ c.taken + 1
unfolding after_message
message_taken c m = refl

-- ---- an ending that doesn't go out

none_by : (c : Core) (stopped : Bool) → c.stopped ≡ stopped → (slot : Option Ending) → c.ready ≡ slot → (if stopped then None else option_map (λ (e : Ending). record e { taken = c.taken }) slot) ≡ None →
    (if stopped then c else record c { ready = None }) ≡ c
none_by c true is slot has none = refl
none_by c false is None has none = ap (λ (slot : Option Ending). let it : Core = record c { ready = slot } in it) (sym has)
none_by c false is (Some e) has none = absurd (cc none)

-- a driver that gives out no ending stays as it is
pub none_stays : (c : Core) → ending_out c ≡ None → after_ending c ≡ c
unfolding ending_out after_ending
none_stays c none = none_by c c.stopped refl c.ready refl none

out_by : (c : Core) (stopped : Bool) (slot : Option Ending) (e : Ending) → (if stopped then None else option_map (λ (it : Ending). record it { taken = c.taken }) slot) ≡ Some e → e.taken ≡ c.taken
out_by c true slot e is = absurd (cc is)
out_by c false None e is = absurd (cc is)
out_by c false (Some ready) e is = let same : record ready { taken = c.taken } ≡ e = cc is in ap (λ (it : Ending). it.taken) (sym same)

-- one that it gives out tells the count
pub out_tells : (c : Core) (e : Ending) → ending_out c ≡ Some e → e.taken ≡ c.taken
unfolding ending_out
out_tells c e is = out_by c c.stopped c.ready e is

-- ---- growing

pub record Grows (before after : Driving) : Type 0 where
  pub messages : List Message
  pub endings : List Ending
  pub taken : after.taken ≡ before.taken ++ messages
  pub sent : after.sent ≡ before.sent ++ endings

grows_none : (d : Driving) → Grows d d
grows_none d = record { messages = []; endings = []; taken = sym (append-nil d.taken); sent = sym (append-nil d.sent) }

grows_by : (d : Driving) (m : Message) (may : Bool) → Grows d (if may then record d { core = after_message d.core m; taken = d.taken ++ m ∷ [] } else d)
grows_by d m true = record { messages = m ∷ []; endings = []; taken = refl; sent = sym (append-nil d.sent) }
grows_by d m false = grows_none d

step_grows : (d : Driving) (e : Event) → Grows d (driver_step d e)
unfolding driver_step
step_grows d (Take m) = grows_by d m (can_take d.core m)
step_grows d Block = record { messages = []; endings = []; taken = sym (append-nil d.taken); sent = sym (append-nil d.sent) }
step_grows d End = record { messages = []; endings = listed (ending_out d.core); taken = sym (append-nil d.taken); sent = refl }

grows_then : (before now after : Driving) → Grows before now → Grows now after → Grows before after
grows_then before now after first second = record {
  messages = first.messages ++ second.messages;
  endings = first.endings ++ second.endings;
  taken = second.taken ∙ ap (λ (xs : List Message). xs ++ second.messages) first.taken ∙ append_assoc before.taken first.messages second.messages;
  sent = second.sent ∙ ap (λ (xs : List Ending). xs ++ second.endings) first.sent ∙ append_assoc before.sent first.endings second.endings;
}

pub ran_grows : (events : List Event) (d : Driving) → Grows d (ran d events)
unfolding ran
ran_grows [] d = grows_none d
ran_grows (e ∷ events) d = grows_then d (driver_step d e) (ran (driver_step d e) events) (step_grows d e) (ran_grows events (driver_step d e))

-- ---- what an ending that is sent later tells

later_take : (d : Driving) (m : Message) (events : List Event) (e : Ending) (more : List Ending) → ((now : Driving) → (ran now events).sent ≡ now.sent ++ (e ∷ more) → now.core.taken ≤ e.taken) → (may : Bool) →
    (ran (if may then record d { core = after_message d.core m; taken = d.taken ++ m ∷ [] } else d) events).sent ≡ d.sent ++ (e ∷ more) → d.core.taken ≤ e.taken
later_take d m events e more rest true is =
    let most = rest (record d { core = after_message d.core m; taken = d.taken ++ m ∷ [] }) is in
    let one = message_taken d.core m in
    omega (arith, most, one)
later_take d m events e more rest false is = rest d is

-- the ending of an event, where there is one, is the first that is sent
later_end : (d : Driving) (events : List Event) (e : Ending) (more : List Ending) → ((now : Driving) → (ran now events).sent ≡ now.sent ++ (e ∷ more) → now.core.taken ≤ e.taken) → (out : Option Ending) → ending_out d.core ≡ out →
    (ran (record d { core = after_ending d.core; sent = d.sent ++ listed out }) events).sent ≡ d.sent ++ (e ∷ more) → d.core.taken ≤ e.taken
later_end d events e more rest None gives is =
    let now : Driving = record d { core = after_ending d.core; sent = d.sent ++ [] } in
    let most = rest now (is ∙ ap (λ (xs : List Ending). xs ++ (e ∷ more)) (sym (append-nil d.sent))) in
    let same = ending_taken d.core in
    omega (arith, most, same)
later_end d events e more rest (Some first) gives is =
    let now : Driving = record d { core = after_ending d.core; sent = d.sent ++ first ∷ [] } in
    let grows = ran_grows events now in
    let same : first ∷ grows.endings ≡ e ∷ more = behind_same d.sent (first ∷ grows.endings) (e ∷ more) (sym (append_assoc d.sent (first ∷ []) grows.endings) ∙ sym grows.sent ∙ is) in
    let one : first ≡ e = cc same in
    let told = out_tells d.core first gives in
    subst (λ (it : Ending). d.core.taken ≤ it.taken) one (omega (arith, told))

pub later_tells : (events : List Event) (d : Driving) (e : Ending) (more : List Ending) → (ran d events).sent ≡ d.sent ++ (e ∷ more) → d.core.taken ≤ e.taken
unfolding ran driver_step
later_tells [] d e more is = absurd (never_longer d.sent e more is)
later_tells (Take m ∷ events) d e more is = later_take d m events e more (λ now. later_tells events now e more) (can_take d.core m) is
later_tells (Block ∷ events) d e more is =
    let most = later_tells events (record d { core = after_block d.core }) e more is in
    let same = block_taken d.core in
    omega (arith, most, same)
later_tells (End ∷ events) d e more is = later_end d events e more (λ now. later_tells events now e more) (ending_out d.core) refl is
