-- A machine with the fleet that follows it, while a run with drivers goes on, and when it ends.
use Rattle.std.specs.Prelude.{◌≡◌, ◌⊎◌, ◌≤◌, ℕ, ◌+◌, Bool, true, false, List, [], ◌++◌, length, map, Option, Some, None, Result, Ok, Err}
use Rattle.tk_types.specs.declared.line.Entry.{Entry}
use Rattle.tk_types.specs.declared.line.Line.{Line}
use Rattle.tk_types.specs.declared.memory.OutOfMemory.{OutOfMemory}
use Rattle.tk_types.specs.declared.run.End.{End}
use Rattle.tk_types.specs.declared.run.Mode.{Mode}
use Rattle.tk_types.specs.declared.run.Mode.TheVariants as modes
use Rattle.tk_types.specs.declared.script.Device.{Device}
use Rattle.tk_types.specs.declared.script.Script.{Script}
use Rattle.kernel_model.specs.Bodies.Statements.{IsRunnable}
use Rattle.device_model.specs.declared.messages.Ending.{Ending}
use Rattle.device_model.specs.declared.messages.Message.{Message}
use Rattle.device_model.specs.Devices.Tables.{Devices}
use Rattle.fleet_model.specs.Fleets.{Fleet, after_drop, may_accept}
use Rattle.machine_model.specs.States.State.{State}
use Rattle.machine_model.specs.Runs.Machine.{Machine, after_arrive}
use Rattle.machine_model.specs.Runs.SyncTrace.{sync_trace}
use Rattle.machine_model.specs.Runs.Trace.{last_of, lines_of, trace}
use Rattle.run_model.specs.Passings.{Passing, passings}
use Rattle.run_model.specs.SoFar.{IsSoFar, SoFar}
use Rattle.fleet_lemmas.specs.Follows.{Follows, kinds_of}
use Rattle.way_lemmas.specs.Ways.{EachWayWith, IsGoodMessage}
use Rattle.world_laws.specs.Sound.{Each}
use Rattle.tk_model.specs.Journal.{journal_of}

-- ---- an ending is offered to the machine

-- it is taken in exactly where the fleet lets it through and it is fit, and else dropped
abbrev pub OfferAnswers : Fleet → Fleet → Machine → Machine → Ending → Result Bool OutOfMemory → Type 0
OfferAnswers old new machine machine_new e (Ok true) = (may_accept old e ≡ true) × (after_arrive machine e ≡ Some machine_new) × (new ≡ old)
OfferAnswers old new machine machine_new e (Ok false) = ((may_accept old e ≡ false) ⊎ (after_arrive machine e ≡ None)) × (machine_new ≡ machine) × (new ≡ after_drop old e.device)
OfferAnswers old new machine machine_new e (Err error) = (new ≡ old) × (machine_new.failed ≡ true)

-- ---- messages are handed

-- what waits at each channel leaves place for all of these messages, which are for devices that there are, and whole
pub record MayHand (fleet : Fleet) (ms : List Message) : Type 0 where
  pub devices : Devices
  pub ways : EachWayWith devices fleet.channels ms
  pub good : Each (IsGoodMessage (length fleet.channels)) ms

-- of these messages all were handed but those that are left
pub record Hands (old : Fleet) (ms : List Message) (new : Fleet) (left : List Message) : Type 0 where
  pub follows : (run : List Passing) (count : ℕ) (pending : Option Ending) → Follows run count ms pending old → Follows run count left pending new
  pub ways : (dv : Devices) → EachWayWith dv old.channels ms → EachWayWith dv new.channels left
  pub kinds : kinds_of new.channels ≡ kinds_of old.channels
  pub polls : new.polls ≡ old.polls

-- ---- a run on its way

-- a machine that goes on, of which everything was taken
abbrev pub going : Script → Mode → ℕ → State → Machine
going script mode budget st = record { script = script; mode = mode; budget = budget; state = st; over = None; failed = false; lines = []; messages = [] }

-- a machine has come so far. Of what it keeps these lines weren't written yet, and these messages weren't handed; an ending may have
-- come out that wasn't decided yet. The fleet follows it, and was polled more often than it did steps by so many times
pub record Coming (script : Script) (mode : Mode) (budget : ℕ) (so : SoFar) (lines : List Line) (ms : List Message) (pending : Option Ending) (more : ℕ) (machine : Machine) (fleet : Fleet) : Type 0 where
  pub so_far : IsSoFar script mode budget so
  pub machine_is : machine ≡ record (going script mode budget so.state) { lines = lines; messages = ms }
  pub follows : Follows so.passings (length so.entries) ms pending fleet
  pub ways : EachWayWith so.state.objects.devices fleet.channels ms
  pub good : Each (IsGoodMessage (length fleet.channels)) ms
  pub kinds : kinds_of fleet.channels ≡ map (λ (device : Device). device.kind) script.devices
  pub many : length fleet.channels ≡ length script.devices
  pub polls : so.state.steps + more ≤ fleet.polls

-- the same where everything was taken
abbrev pub Going : Script → Mode → ℕ → SoFar → Option Ending → ℕ → Machine → Fleet → Type 0
Going script mode budget so pending more machine fleet = Coming script mode budget so [] [] pending more machine fleet

-- a script that can be run, with devices, and a budget that a run may have
pub record IsFleetRun (script : Script) (budget : ℕ) : Type 0 where
  pub runnable : IsRunnable script
  pub low : 1 ≤ budget
  pub high : budget ≤ 1000000
  pub some : 1 ≤ length script.devices

-- some run, which has come so far
pub record IsGoing (script : Script) (mode : Mode) (budget : ℕ) (pending : Option Ending) (more : ℕ) (machine : Machine) (fleet : Fleet) : Type 0 where
  pub run : IsFleetRun script budget
  pub so : SoFar
  pub going : Going script mode budget so pending more machine fleet

-- ---- what it comes to

-- these are the first lines of a trace that its own J lines define, and in sync mode of the one that is determined
pub record IsFrontOf (script : Script) (mode : Mode) (budget : ℕ) (lines : List Line) : Type 0 where
  pub entries : List Entry
  pub rest : List Line
  pub is : lines_of (trace script mode budget entries) ≡ lines ++ rest
  pub own : journal_of (lines_of (trace script mode budget entries)) ≡ entries
  pub sync : mode ≡ modes.Sync → (later : List Line) × (lines_of (sync_trace script budget) ≡ lines ++ later)

-- a run is over with these lines: they are a whole trace, and the fleet follows its run, but for messages that are left
pub record IsOver (script : Script) (mode : Mode) (budget : ℕ) (lines : List Line) (end : End) (ms : List Message) (fleet : Fleet) : Type 0 where
  pub entries : List Entry
  pub is : lines_of (trace script mode budget entries) ≡ lines
  pub own : journal_of (lines_of (trace script mode budget entries)) ≡ entries
  pub sync : mode ≡ modes.Sync → trace script mode budget entries ≡ sync_trace script budget
  pub last : (trace script mode budget entries).last ≡ last_of end
  pub follows : Follows (passings script mode budget entries) (length entries) ms None fleet
  pub devices : Devices
  pub ways : EachWayWith devices fleet.channels ms
  pub good : Each (IsGoodMessage (length fleet.channels)) ms
  pub kinds : kinds_of fleet.channels ≡ map (λ (device : Device). device.kind) script.devices
  pub polls : (trace script mode budget entries).steps ≤ fleet.polls
