-- What the record of a fleet tells of a run.
use Rattle.std.specs.Prelude.{◌≡◌, ◌⊎◌, ◌≤◌, ℕ, ◌+◌, List, [], ◌∷◌, ◌++◌, length, map}
use Rattle.tk_types.specs.declared.line.Entry.{Entry}
use Rattle.tk_types.specs.declared.run.Mode.{Mode}
use Rattle.tk_types.specs.declared.script.Device.{Device}
use Rattle.tk_types.specs.declared.script.Script.{Script}
use Rattle.device_model.specs.declared.messages.Ending.{Ending}
use Rattle.device_model.specs.declared.messages.Message.TheVariants as message
use Rattle.machine_model.specs.Runs.Trace.{trace}
use Rattle.fleet_model.specs.Fleets.{most_counted}
use Rattle.fleet_model.specs.Records.{Joined, Record}
use Rattle.run_model.specs.Passings.{Passing, endings_of, given_at, messages_to, passings}

-- an ending without what no journal holds: how many messages its driver had taken, and the spare room of its bytes
abbrev pub untold : Ending → Ending
untold ending = record ending { taken = 0; bytes = record { items = ending.bytes.items; room = 0 } }

-- as many, and each of them at most the other
unfoldable pub EachAtMost : List ℕ → List ℕ → Type 0
EachAtMost [] [] = Unit {0}
EachAtMost (n ∷ ns) (most ∷ mosts) = (n ≤ most) × EachAtMost ns mosts
EachAtMost _ _ = ⊥

-- the endings that a run takes in from a device are a front of those that were received from it, in order; and what each of them
-- tells that its driver had taken is no more than what the device had been given by then
pub record IsTakenIn (d : ℕ) (run : List Passing) (received : List Ending) : Type 0 where
  pub front : List Ending
  pub rest : List Ending
  pub all : received ≡ front ++ rest
  pub same : map untold front ≡ map untold (endings_of d run)
  pub given : EachAtMost (map (λ (e : Ending). e.taken) front) (given_at d run)

-- the messages that were handed to a device are those that the run gives it, and then a Stop
abbrev pub IsGiven : ℕ → List Passing → Joined → Type 0
IsGiven d run channel = channel.handed ≡ messages_to d run ++ message.Stop d ∷ []

-- of a device
pub record TellsOf (d : ℕ) (run : List Passing) (channel : Joined) : Type 0 where
  pub handed : IsGiven d run channel
  pub taken_in : IsTakenIn d run channel.received

-- of all devices, the first of which has this number
abbrev pub TellOf : ℕ → List Passing → List Joined → Type 0
TellOf d run [] = Unit {0}
TellOf d run (channel ∷ channels) = TellsOf d run channel × TellOf (d + 1) run channels

-- how many endings were received in all
unfoldable pub all_received : List Joined → ℕ
all_received [] = 0
all_received (channel ∷ channels) = length channel.received + all_received channels

-- the record tells of the run of a script that was fed with these entries: it has a channel for each device; what went over each of
-- them is what passed in the run; all endings that were received and not taken in were dropped, unless that is more than can be
-- counted; and there were at least as many polls as steps
pub record Tells (script : Script) (mode : Mode) (budget : ℕ) (entries : List Entry) (closed : Record) : Type 0 where
  pub kinds : map (λ (c : Joined). c.kind) closed.channels ≡ map (λ (device : Device). device.kind) script.devices
  pub channels : TellOf 1 (passings script mode budget entries) closed.channels
  pub dropped : (closed.dropped + length entries ≡ all_received closed.channels) ⊎ (closed.dropped ≡ most_counted)
  pub polls : (trace script mode budget entries).steps ≤ closed.polls
