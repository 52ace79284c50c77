-- How a run whose one device is served inline stands between its turns, and what a turn comes to.
use Rattle.std.specs.Prelude.{ℕ, suc, ◌≡◌, ◌≤◌, ◌+◌, false, List, [], ◌∷◌, Option, Some, None, count_by}
use Rattle.tk_types.specs.declared.line.Line.{Line}
use Rattle.tk_types.specs.declared.run.End.{End}
use Rattle.tk_types.specs.declared.run.Mode.TheVariants as modes
use Rattle.tk_types.specs.declared.script.Script.{Script}
use Rattle.device_model.specs.declared.messages.Ending.{Ending}
use Rattle.device_model.specs.declared.messages.Message.TheVariants as message
use Rattle.device_model.specs.declared.messages.Request.{Request}
use Rattle.device_model.specs.Devices.Tables.{Given, Link}
use Rattle.device_model.specs.Units.Function.{IsWhole}
use Rattle.driver_model.specs.Cores.{Core, empty_turns}
use Rattle.machine_model.specs.States.State.{State, taken}
use Rattle.machine_model.specs.Events.Arrivals.{arrived}
use Rattle.machine_model.specs.Events.Follow.{Event}
use Rattle.machine_model.specs.Runs.Machine.{Machine}
use Rattle.machine_model.specs.Runs.SyncTrace.{needed_ending, sync_runs}
use Rattle.machine_model.specs.Runs.Trace.{after, last_of}
use Rattle.way_lemmas.proofs.Sounds.{Sound}
use Rattle.way_lemmas.proofs.Sync.{SyncSound}
use Rattle.tk_gen.specs.Counts.{counted_on, is_call, is_ending, is_tick, is_wait}
use Rattle.tk_gen.specs.declared.running.ServedRun.{ServedRun}

-- a driver that wasn't stopped has neither a request nor an ending, and it makes no empty turns
pub record IsFree (core : Core) : Type 0 where
  pub given : core.given ≡ None
  pub blocks : core.blocks ≡ 0
  pub turns : core.turns ≡ 0
  pub content : core.content ≡ []
  pub ready : core.ready ≡ None
  pub going : core.stopped ≡ false
  pub quick : empty_turns core.kind ≡ 0

-- what the kernel has to do with the driver, which may have a request; no message waits to be taken
abbrev pub link_of : Core → ℕ → Option Given → Link
link_of core number given = record { kind = core.kind; store = core.store; given = given; number = number; out = [] }

-- there is one device
abbrev pub links_of : Link → List (Option Link)
links_of link = None ∷ Some link ∷ []

-- a state of sync mode, whose one device has this driver, which is free; with the driver is this request, if any
pub record IsServedBy (script : Script) (st : State) (core : Core) (given : Option Given) : Type 0 where
  pub syncs : SyncSound st
  pub sound : Sound script st.objects.devices
  pub number : ℕ
  pub links : st.objects.devices.links ≡ links_of (link_of core number given)
  pub device : core.device ≡ 1
  pub free : IsFree core

-- a machine of which all was taken, and that isn't over
abbrev pub going : Script → ℕ → State → Machine
going script budget st = record { script = script; mode = modes.Sync; budget = budget; state = st; over = None; failed = false; lines = []; messages = [] }

-- between turns no request is with the driver
pub record IsBetweenTurns (script : Script) (budget : ℕ) (run : ServedRun) : Type 0 where
  pub machine_is : run.machine ≡ going script budget run.machine.state
  pub served : IsServedBy script run.machine.state run.driver None

-- a request waits to be taken
pub record HasRequest (script : Script) (budget : ℕ) (run : ServedRun) : Type 0 where
  pub request : Request
  pub whole : IsWhole request
  pub machine_is : run.machine ≡ record (going script budget run.machine.state) { messages = message.Serve 1 request ∷ [] }
  pub served : IsServedBy script run.machine.state run.driver (Some (record { request = request; asked = false }))

-- two of these lines at most are of each kind
pub record AreFew (lines : List Line) : Type 0 where
  pub calls : count_by is_call lines ≤ 2
  pub waits : count_by is_wait lines ≤ 2
  pub ticks : count_by is_tick lines ≤ 2
  pub endings : count_by is_ending lines ≤ 2

-- the ending that is needed has arrived
pub record HasServed (script : Script) (budget : ℕ) (old new : ServedRun) : Type 0 where
  pub ending : Ending
  pub event : Event
  pub needed : needed_ending old.machine.state ≡ Some ending
  pub arrives : arrived script modes.Sync old.machine.state ending ≡ Some event
  pub few : AreFew event.lines
  pub between : IsBetweenTurns script budget new
  pub state : new.machine.state ≡ taken event.state
  pub counts : new.counts ≡ counted_on old.counts event.lines
  pub taken_more : new.driver.taken ≤ old.driver.taken + 1

-- a turn behind which the run goes on
pub record GoesOn (script : Script) (budget : ℕ) (old new : ServedRun) : Type 0 where
  pub lines : List Line
  pub few : AreFew lines
  pub between : IsBetweenTurns script budget new
  pub counts : new.counts ≡ counted_on old.counts lines
  pub taken_more : new.driver.taken ≤ old.driver.taken + 1
  pub turn : (left : ℕ) → (sync_runs (suc left) script budget old.machine.state).trace ≡ after lines (sync_runs left script budget new.machine.state).trace

-- the last turn
pub record IsOver (script : Script) (budget : ℕ) (old new : ServedRun) (end : End) : Type 0 where
  pub lines : List Line
  pub counts : new.counts ≡ counted_on old.counts lines
  pub turn : (left : ℕ) → (sync_runs (suc left) script budget old.machine.state).trace ≡ record { lines = lines; steps = new.machine.state.steps; last = last_of end }

abbrev pub TurnGives : Script → ℕ → ServedRun → ServedRun → Option End → Type 0
TurnGives script budget old new None = GoesOn script budget old new
TurnGives script budget old new (Some end) = IsOver script budget old new end
