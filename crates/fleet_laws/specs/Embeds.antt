-- The record of a fleet that was closed is what becomes of a world: the sentence of the law.
use Rattle.std.specs.Prelude.{◌≡◌, ℕ, List, ◌++◌, map, Some}
use Rattle.tk_types.specs.declared.line.Entry.{Entry}
use Rattle.tk_types.specs.declared.line.Line.{Line}
use Rattle.tk_types.specs.declared.run.End.{End}
use Rattle.tk_types.specs.declared.run.Mode.{Mode}
use Rattle.tk_types.specs.declared.script.Device.{Device}
use Rattle.tk_types.specs.declared.script.Script.{Script}
use Rattle.device_model.specs.declared.messages.Ending.{Ending}
use Rattle.device_model.specs.declared.messages.Message.{Message}
use Rattle.machine_model.specs.Runs.Trace.{last_of, start, trace}
use Rattle.world_model.specs.Roads.{Road}
use Rattle.world_model.specs.Worlds.{Step, road_at, world_after, world_start}
use Rattle.fleet_model.specs.Records.{AreJoined, Joined, joined_in}
use Rattle.run_model.specs.Passings.{Gives, Passing, Takes, endings_of, passings}
use Rattle.run_model.specs.Told.{TellOf, untold}
use Rattle.fleet_laws.specs.Doings.{gathered, passes_at, sends_at, takes_at, writes_at}

-- what passes, without what no journal holds of an ending
abbrev pub plain : Passing → Passing
plain (Gives m) = Gives m
plain (Takes ending) = Takes (untold ending)

-- what passed in the world after these steps, and what the driver of a device did there
abbrev pub world_passings : Script → Mode → ℕ → List Step → List Passing
world_passings script mode budget steps = gathered passes_at (world_start script mode budget) steps

abbrev pub world_taken : Script → Mode → ℕ → List Step → ℕ → List Message
world_taken script mode budget steps d = gathered (takes_at d) (world_start script mode budget) steps

abbrev pub world_sent : Script → Mode → ℕ → List Step → ℕ → List Ending
world_sent script mode budget steps d = gathered (sends_at d) (world_start script mode budget) steps

-- all lines of the run, from the start on
abbrev pub world_lines : Script → Mode → ℕ → List Step → List Line
world_lines script mode budget steps = (start script).lines ++ gathered writes_at (world_start script mode budget) steps

-- the world after these steps is over, after as many steps of the kernel as the trace counts, and by the end that its last line names
pub record IsOver (script : Script) (mode : Mode) (budget : ℕ) (entries : List Entry) (steps : List Step) : Type 0 where
  pub end : End
  pub over : (world_after script mode budget steps).over ≡ Some end
  pub last : last_of end ≡ (trace script mode budget entries).last
  pub counted : (world_after script mode budget steps).state.steps ≡ (trace script mode budget entries).steps

-- of a device, what its record says: its driver took the messages that were taken, and sent the endings that were sent; what was handed
-- beyond these waits on its road, and what was sent beyond the endings that the kernel took in stands in its outbox
pub record IsDriven (script : Script) (mode : Mode) (budget : ℕ) (steps : List Step) (d : ℕ) (channel : Joined) : Type 0 where
  pub road : Road
  pub there : road_at (world_after script mode budget steps) d ≡ Some road
  pub taken : world_taken script mode budget steps d ≡ channel.taken
  pub sent : world_sent script mode budget steps d ≡ channel.sent
  pub waiting : channel.handed ≡ channel.taken ++ (road.inbox ++ road.waiting)
  pub outbox : channel.sent ≡ endings_of d (world_passings script mode budget steps) ++ road.outbox

-- some steps of the world make all that the record of a fleet tells of a run that is over: the lines of its trace are written, what
-- passed in the run passes, and each driver does what its record says
pub record IsOfWorld (script : Script) (mode : Mode) (budget : ℕ) (entries : List Entry) (channels : List Joined) : Type 0 where
  pub steps : List Step
  pub over : IsOver script mode budget entries steps
  pub written : world_lines script mode budget steps ≡ (trace script mode budget entries).lines
  pub passed : map plain (world_passings script mode budget steps) ≡ map plain (passings script mode budget entries)
  pub driven : (d : ℕ) (channel : Joined) → joined_in channels d ≡ Some channel → IsDriven script mode budget steps d channel

-- what is asked of the record of a fleet that was closed: it has a channel for each device, with what a close promises of it; and it
-- tells of the run
pub record IsRecord (script : Script) (mode : Mode) (budget : ℕ) (entries : List Entry) (channels : List Joined) : Type 0 where
  pub kinds : map (λ (c : Joined). c.kind) channels ≡ map (λ (device : Device). device.kind) script.devices
  pub joined : AreJoined 1 channels
  pub told : TellOf 1 (passings script mode budget entries) channels
