-- One turn of a run that is fed with a journal: what it comes to, and the lines that it has.
use Rattle.std.specs.Prelude.{◌≡◌, ℕ, ◌+◌, ◌≤◌, ◌<◌, Bool, true, false, nat_le, if◌then◌else◌, List, [], ◌∷◌, ◌++◌, ◌-◌, length, take, Option, Some, None}
use Rattle.tk_types.specs.declared.line.Entry.{Entry}
use Rattle.tk_types.specs.declared.line.LastLine.{LastLine}
use Rattle.tk_types.specs.declared.line.LastLine.TheVariants as lasts
use Rattle.tk_types.specs.declared.line.Line.{Line}
use Rattle.tk_types.specs.declared.line.Line.TheVariants as lines
use Rattle.tk_types.specs.declared.run.End.{End}
use Rattle.tk_types.specs.declared.run.End.TheVariants as ends
use Rattle.tk_types.specs.declared.run.Mode.{Mode}
use Rattle.tk_types.specs.declared.run.Mode.TheVariants as modes
use Rattle.tk_types.specs.declared.script.Script.{Script}
use Rattle.machine_model.specs.States.State.{State, taken}
use Rattle.machine_model.specs.Events.Follow.{Event}
use Rattle.machine_model.specs.Runs.Machine.{Machine, with_event}
use Rattle.machine_model.specs.Runs.Step.{Pace, Ends, Needs, Went, step}
use Rattle.machine_model.specs.Runs.Trace.{entered, is_next_by, last_line, without_ending}
use Rattle.tk_run.specs.declared.replay_turn.Fate.{Fate}
use Rattle.tk_run.specs.declared.replay_turn.Fate.TheVariants as fates
use Rattle.tk_run.specs.declared.replay_turn.FedTurn.{FedTurn}

-- what a turn leaves: its lines, with the last one where the run is over, what it came to, and the state
pub record Course : Type 0 where
  pub lines : List Line
  pub fate : Fate
  pub state : State

-- the run is over in a state, with these lines before the last one
abbrev pub over_at : List Line → State → LastLine → Course
over_at front st last = record { lines = front ++ lines.End st.steps last ∷ []; fate = fates.Over last; state = st }

-- an entry was taken, or it isn't fit
abbrev pub fed : State → ℕ → Option Event → Course
fed st k None = over_at [] st (lasts.Unfit k)
fed st k (Some event) = record { lines = event.lines; fate = fates.Fed; state = taken event.state }

-- a step was done
abbrev pub stepped : ℕ → List Entry → Event → Option End → Course
stepped k entries event None = record { lines = event.lines; fate = fates.Went; state = taken event.state }
stepped k entries event (Some end) = over_at event.lines event.state (last_line end k entries)

-- the next entry is taken, whose place has come or whose ending is needed; where there is none, the run is starved
abbrev pub fed_next : Script → Mode → State → ℕ → List Entry → Course
fed_next script mode st k [] = over_at [] st lasts.Starved
fed_next script mode st k (entry ∷ later) = fed st k (entered script mode st entry)

-- in free mode, where the next entry's place hasn't come
abbrev pub free_stepped : State → ℕ → List Entry → Pace → Course
free_stepped st k entries (Went event over) = stepped k entries event over
free_stepped st k entries (Needs waiting) = over_at [] (taken waiting) (without_ending k entries)
free_stepped st k entries Ends = over_at [] st (last_line ends.Idle k entries)

abbrev pub free_course : Script → ℕ → State → ℕ → List Entry → Course
free_course script budget st k entries =
    if is_next_by (st.steps + 1) entries then fed_next script modes.Free st k entries
    else free_stepped st k entries (step script modes.Free budget st)

-- in sync mode an entry is taken only where an ending is needed; one whose place has come and that isn't needed isn't fit
abbrev pub sync_stepped : Script → State → ℕ → List Entry → Pace → Course
sync_stepped script st k entries (Went event over) = if is_next_by (st.steps + 1) entries then over_at [] st (lasts.Unfit k) else stepped k entries event over
sync_stepped script st k entries (Needs waiting) = fed_next script modes.Sync (taken waiting) k entries
sync_stepped script st k entries Ends = if is_next_by (st.steps + 1) entries then over_at [] st (lasts.Unfit k) else over_at [] st (last_line ends.Idle k entries)

-- a turn: an entry is taken, or a step is done; `k` is the number of the next entry
abbrev pub course : Script → Mode → ℕ → State → ℕ → List Entry → Course
course script modes.Free budget st k entries = free_course script budget st k entries
course script modes.Sync budget st k entries = sync_stepped script st k entries (step script modes.Sync budget st)

-- the turn that a machine does next
abbrev pub next_course : Machine → ℕ → List Entry → Course
next_course m k entries = course m.script m.mode m.budget m.state k entries

-- the turn of a machine that takes the next entry
abbrev pub fed_by : Machine → ℕ → List Entry → Course
fed_by m k entries = fed_next m.script m.mode m.state k entries

-- a machine in another state, whose lines and messages were taken
abbrev pub settled : Machine → State → Machine
settled m st = record m { state = st; lines = []; messages = [] }

-- where the run goes on, the machine is that of the turn
abbrev pub GoesOn : Machine → Machine → Course → Fate → Type 0
GoesOn old new course (fates.Over last) = Unit {0}
GoesOn old new course fate = new ≡ settled old course.state

-- a machine before a turn: the run goes on, and its lines and messages were taken
pub record IsReady (m : Machine) : Type 0 where
  pub going : m.over ≡ None
  pub lines : m.lines ≡ []
  pub below : m.state.steps < m.budget
  pub limit : m.budget ≤ 1000000

-- what a turn gives
pub record TurnGives (old new : Machine) (course : Course) (turn : FedTurn) : Type 0 where
  pub lines : turn.lines.items ≡ course.lines
  pub fate : turn.fate ≡ course.fate
  pub steps : turn.steps ≡ course.state.steps
  pub next : GoesOn old new course turn.fate

-- lines without the last one
abbrev pub without_last : List Line → List Line
without_last list = take (length list - 1) list

-- what taking an entry gives
abbrev pub Enters : Machine → Machine → Entry → Bool → Type 0
Enters old new entry true = (event : Event) × (entered old.script old.mode old.state entry ≡ Some event) × (new ≡ with_event old event)
Enters old new entry false = (entered old.script old.mode old.state entry ≡ None) × (new ≡ old)
