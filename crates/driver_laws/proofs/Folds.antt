-- What holds of a driver after every list of events.
use Rattle.std.proofs.Common.{◌≡◌, ℕ, ◌+◌, Bool, true, false, List, [], ◌∷◌, ◌++◌, length, Option, Some, None, refl, ap, sym, ◌∙◌, arith}
use Rattle.std.specs.Prelude.{◌==◌, ◌&&◌, not, if◌then◌else◌}
use Rattle.std.specs.Option.{option_map}
use Rattle.std.proofs.lemmas.List.{length-append}
use Rattle.tk_types.specs.declared.script.Kind.{Kind}
use Rattle.device_model.specs.declared.messages.Ending.{Ending}
use Rattle.device_model.specs.declared.messages.Message.{Message}
use Rattle.device_model.specs.declared.messages.Message.TheVariants as message
use Rattle.device_model.specs.declared.messages.Request.{Request}
use Rattle.driver_model.specs.Cores.{Core, aborted, after_block, after_ending, after_message, can_take, cut_off, done, ending_out, heard, is_empty_turn, may_begin, next_block, turned, went_on, worked}
use Rattle.driver_model.specs.Drives.{Block, Driving, End, Event, Take, driver_step, driving_start, ran}
use Rattle.driver_laws.specs.Words.{EndsWithStop}

either_core : {A : Type 0} (field : Core → A) (test : Bool) (one other : Core) (x : A) → field one ≡ x → field other ≡ x → field (if test then one else other) ≡ x
either_core field true one other x first second = first
either_core field false one other x first second = second

-- ---- how many messages it has taken, and whether it was stopped, through each event

heard_taken : (c : Core) (m : Message) → (heard c m).taken ≡ c.taken
heard_taken c (message.Serve d request) = refl
heard_taken c (message.Abort d number) = by_slot c.given
  where
    by_slot : (slot : Option Request) → (aborted number c slot).taken ≡ c.taken
    by_slot None = refl
    by_slot (Some request) = either_core (λ (it : Core). it.taken) (request.number == number) (cut_off c request) c c.taken refl refl
heard_taken c (message.Stop d) = refl

turned_taken : (c : Core) (slot : Option Request) → (turned c slot).taken ≡ c.taken
turned_taken c None = refl
turned_taken c (Some request) =
    either_core (λ (it : Core). it.taken) (is_empty_turn c request) (record c { turns = c.turns + 1 }) (worked c request) c.taken refl
    (either_core (λ (it : Core). it.taken) _ (done c request (next_block c request)) (went_on c (next_block c request)) c.taken refl refl)

block_taken : (c : Core) → (after_block c).taken ≡ c.taken
unfolding after_block
block_taken c = either_core (λ (it : Core). it.taken) c.stopped c (turned c c.given) c.taken refl (turned_taken c c.given)

ending_taken : (c : Core) → (after_ending c).taken ≡ c.taken
unfolding after_ending
ending_taken c = either_core (λ (it : Core). it.taken) c.stopped c (record c { ready = None }) c.taken refl refl

turned_stopped : (c : Core) (slot : Option Request) → (turned c slot).stopped ≡ c.stopped
turned_stopped c None = refl
turned_stopped c (Some request) =
    either_core (λ (it : Core). it.stopped) (is_empty_turn c request) (record c { turns = c.turns + 1 }) (worked c request) c.stopped refl
    (either_core (λ (it : Core). it.stopped) _ (done c request (next_block c request)) (went_on c (next_block c request)) c.stopped refl refl)

block_stopped : (c : Core) → (after_block c).stopped ≡ c.stopped
unfolding after_block
block_stopped c = either_core (λ (it : Core). it.stopped) c.stopped c (turned c c.given) c.stopped refl (turned_stopped c c.given)

ending_stopped : (c : Core) → (after_ending c).stopped ≡ c.stopped
unfolding after_ending
ending_stopped c = either_core (λ (it : Core). it.stopped) c.stopped c (record c { ready = None }) c.stopped refl refl

-- ---- both, of what it has taken

record IsRun (d : Driving) : Type 0 where
  counted : d.core.taken ≡ length d.taken
  stops : d.core.stopped ≡ true → EndsWithStop d.taken

one_behind : (taken : List Message) (m : Message) (n : ℕ) → n ≡ length taken → n + 1 ≡ length (taken ++ m ∷ [])
one_behind taken m n is = let sum = length-append taken (m ∷ []) in omega (arith, is, sum)

-- a driver that wasn't stopped before is stopped by a Stop alone
stopped_by : (c : Core) (m : Message) (taken : List Message) → c.stopped ≡ false → (heard c m).stopped ≡ true → EndsWithStop (taken ++ m ∷ [])
stopped_by c (message.Serve d request) taken no_stop is = absurd (cc (no_stop, is))
stopped_by c (message.Abort d number) taken no_stop is = absurd (cc (by_slot c.given, no_stop, is))
  where
    by_slot : (slot : Option Request) → (aborted number c slot).stopped ≡ c.stopped
    by_slot None = refl
    by_slot (Some request) = either_core (λ (it : Core). it.stopped) (request.number == number) (cut_off c request) c c.stopped refl refl
stopped_by c (message.Stop d) taken no_stop is = record { front = taken; device = d; is = refl }

goes_on : (stopped : Bool) (may : Bool) → (not stopped && may) ≡ true → stopped ≡ false
goes_on true may is = absurd (cc is)
goes_on false may is = refl

taken_run : (d : Driving) (m : Message) (may : Bool) → can_take d.core m ≡ may → IsRun d → IsRun (if may then record d { core = after_message d.core m; taken = d.taken ++ m ∷ [] } else d)
unfolding can_take after_message
taken_run d m false is run = run
taken_run d m true is run = record {
  counted = one_behind d.taken m d.core.taken run.counted;
  stops = λ stopped. stopped_by d.core m d.taken (goes_on d.core.stopped (may_begin m d.core) is) stopped;
}

step_run : (d : Driving) (e : Event) → IsRun d → IsRun (driver_step d e)
unfolding driver_step
step_run d (Take m) run = taken_run d m (can_take d.core m) refl run
step_run d Block run = record { counted = block_taken d.core ∙ run.counted; stops = λ stopped. run.stops (sym (block_stopped d.core) ∙ stopped) }
step_run d End run = record { counted = ending_taken d.core ∙ run.counted; stops = λ stopped. run.stops (sym (ending_stopped d.core) ∙ stopped) }

runs : (events : List Event) (d : Driving) → IsRun d → IsRun (ran d events)
unfolding ran
runs [] d run = run
runs (e ∷ events) d run = runs events (driver_step d e) (step_run d e run)

all_run : (d : ℕ) (kind : Kind) (events : List Event) → IsRun (ran (driving_start d kind) events)
all_run d kind events = runs events (driving_start d kind) (record { counted = refl; stops = λ is. absurd (cc is) })

-- a driver counts the messages that it has taken
pub counts : (d : ℕ) (kind : Kind) (events : List Event) → (ran (driving_start d kind) events).core.taken ≡ length (ran (driving_start d kind) events).taken
counts d kind events = (all_run d kind events).counted

-- the last message that a stopped driver has taken is a Stop
pub stopped_ends : (d : ℕ) (kind : Kind) (events : List Event) → (ran (driving_start d kind) events).core.stopped ≡ true → EndsWithStop (ran (driving_start d kind) events).taken
stopped_ends d kind events = (all_run d kind events).stops

abbrev taken_or : Option Ending → ℕ → ℕ
taken_or None n = n
taken_or (Some e) n = e.taken

told : (c : Core) (stopped : Bool) (slot : Option Ending) (e : Ending) → (if stopped then None else option_map (λ (it : Ending). record it { taken = c.taken }) slot) ≡ Some e → e.taken ≡ c.taken
told c true slot e is = absurd (cc is)
told c false None e is = absurd (cc is)
told c false (Some ready) e is = sym (ap (λ (o : Option Ending). taken_or o c.taken) is)

-- an ending tells how many messages were taken before it
pub ending_counts : (d : ℕ) (kind : Kind) (events : List Event) (e : Ending) → ending_out (ran (driving_start d kind) events).core ≡ Some e → e.taken ≡ length (ran (driving_start d kind) events).taken
unfolding ending_out
ending_counts d kind events e is =
    let c : Core = (ran (driving_start d kind) events).core in
    told c c.stopped c.ready e is ∙ counts d kind events
