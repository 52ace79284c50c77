-- What passes between the kernel and the drivers in the run of a trace: the messages that the kernel gives, and the endings that
-- it takes in, in their order. Each turn here is the turn of the trace in `Runs.Trace` of the machine, with what passes in it for
-- what is written in it.
use Rattle.std.specs.Prelude.{ℕ, zero, suc, ◌+◌, ◌==◌, nat_le, if◌then◌else◌, List, [], ◌∷◌, ◌++◌, length, map, Option, Some, None}
use Rattle.tk_types.specs.declared.line.Entry.{Entry}
use Rattle.tk_types.specs.declared.run.End.{End}
use Rattle.tk_types.specs.declared.run.Mode.{Mode}
use Rattle.tk_types.specs.declared.run.Mode.TheVariants as modes
use Rattle.tk_types.specs.declared.script.Script.{Script}
use Rattle.device_model.specs.declared.messages.Ending.{Ending}
use Rattle.device_model.specs.declared.messages.Message.{Message}
use Rattle.device_model.specs.Devices.Handing.{messages}
use Rattle.machine_model.specs.States.State.{State, taken}
use Rattle.machine_model.specs.Events.Follow.{Event}
use Rattle.machine_model.specs.Runs.Step.{Pace, Ends, Needs, Went, step}
use Rattle.machine_model.specs.Runs.Trace.{entered, is_next_by, named_ending, start}
use Rattle.fleet_model.specs.Fleets.{device_of}

pub data Passing : Type 0 where
  Gives : (message : Message) → Passing
  Takes : (ending : Ending) → Passing

-- the messages that stand in a state are given
abbrev pub gives : State → List Passing
gives st = map Gives (messages st.objects.devices)

-- what passes in the rest of a run
abbrev pub Rest : Type 0
Rest = State → List Entry → List Passing

-- ---- turns

-- an ending is taken in, where it is fit
abbrev pub entered_passed : Rest → List Entry → Option Ending → Option Event → List Passing
entered_passed next later (Some ending) (Some event) = Takes ending ∷ (gives event.state ++ next (taken event.state) later)
entered_passed next later _ _ = []

-- a step was done
abbrev pub went_passed : Rest → List Entry → Event → Option End → List Passing
went_passed next entries event None = gives event.state ++ next (taken event.state) entries
went_passed next entries event (Some end) = gives event.state

abbrev pub free_pace : Rest → List Entry → Pace → List Passing
free_pace next entries (Went event over) = went_passed next entries event over
free_pace next entries (Needs waiting) = gives waiting
free_pace next entries Ends = []

abbrev pub free_turn : Rest → Script → ℕ → State → List Entry → List Passing
free_turn next script budget st [] = free_pace next [] (step script modes.Free budget st)
free_turn next script budget st (entry ∷ later) =
    if nat_le entry.place (st.steps + 1)
    then entered_passed next later (named_ending st entry) (entered script modes.Free st entry)
    else free_pace next (entry ∷ later) (step script modes.Free budget st)

abbrev pub sync_pace : Rest → Script → State → List Entry → Pace → List Passing
sync_pace next script st entries (Went event over) = if is_next_by (st.steps + 1) entries then [] else went_passed next entries event over
sync_pace next script st [] (Needs waiting) = gives waiting
sync_pace next script st (entry ∷ later) (Needs waiting) =
    gives waiting ++ entered_passed next later (named_ending (taken waiting) entry) (entered script modes.Sync (taken waiting) entry)
sync_pace next script st entries Ends = []

abbrev pub turn : Rest → Script → Mode → ℕ → State → List Entry → List Passing
turn next script modes.Free budget st entries = free_turn next script budget st entries
turn next script modes.Sync budget st entries = sync_pace next script st entries (step script modes.Sync budget st)

-- ---- a run

-- from a state on, by at most so many turns
unfoldable pub passed : ℕ → Script → Mode → ℕ → State → List Entry → List Passing
passed zero script mode budget st entries = []
passed (suc left) script mode budget st entries = turn (λ now later. passed left script mode budget now later) script mode budget st entries

-- in the run whose trace is fed with the endings of a journal
unfoldable pub passings : Script → Mode → ℕ → List Entry → List Passing
passings script mode budget entries = passed (budget + (length entries + 1)) script mode budget (start script).state entries

-- ---- of one device

unfoldable pub messages_to : ℕ → List Passing → List Message
messages_to d [] = []
messages_to d (Gives m ∷ later) = if device_of m == d then m ∷ messages_to d later else messages_to d later
messages_to d (Takes ending ∷ later) = messages_to d later

unfoldable pub endings_of : ℕ → List Passing → List Ending
endings_of d [] = []
endings_of d (Gives m ∷ later) = endings_of d later
endings_of d (Takes ending ∷ later) = if ending.device == d then ending ∷ endings_of d later else endings_of d later

-- at each of these endings, how many messages the device had been given, with so many before the first of these passings
unfoldable pub given_from : ℕ → ℕ → List Passing → List ℕ
given_from n d [] = []
given_from n d (Gives m ∷ later) = given_from (if device_of m == d then n + 1 else n) d later
given_from n d (Takes ending ∷ later) = if ending.device == d then n ∷ given_from n d later else given_from n d later

abbrev pub given_at : ℕ → List Passing → List ℕ
given_at d passings = given_from 0 d passings
