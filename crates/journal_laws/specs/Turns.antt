-- Runs by their turns alone, without a number of them: a turn ends the run, whatever would come behind it, or the rest of the run
-- comes behind it.
use Rattle.std.specs.Prelude.{◌≡◌, ℕ, List}
use Rattle.tk_types.specs.declared.line.Entry.{Entry}
use Rattle.tk_types.specs.declared.run.Mode.{Mode}
use Rattle.tk_types.specs.declared.run.Mode.TheVariants as modes
use Rattle.tk_types.specs.declared.script.Script.{Script}
use Rattle.machine_model.specs.States.State.{State}
use Rattle.machine_model.specs.Runs.Step.{step}
use Rattle.machine_model.specs.Runs.Trace.{Trace, run_turn, start}
use Rattle.machine_model.specs.Runs.SyncTrace.{SyncRun, sync_turn}

-- what comes of turns from a place on. A turn says what comes of a place, by what would come of the places behind it
pub data IsRun {S T : Type 0} (turn : (S → T) → S → T) : S → T → Type 0 where
  over : {place : S} {all : T} → ((next : S → T) → turn next place ≡ all) → IsRun turn place all
  goes_on : {place now : S} {rest : T} (put : T → T) → ((next : S → T) → turn next place ≡ put (next now)) → IsRun turn now rest → IsRun turn place (put rest)

-- a place in a run that is fed with entries: its state, and the entries that are left, the first of which has a number
pub record Place : Type 0 where
  pub state : State
  pub number : ℕ
  pub left : List Entry

-- a turn of such a run
abbrev pub fed_turn : Script → Mode → ℕ → (Place → Trace) → Place → Trace
fed_turn script mode budget next at =
    run_turn (λ st k entries. next (record { state = st; number = k; left = entries })) script mode budget at.state at.number at.left

-- a turn of a run in which each ending that is needed is that of a request done whole
abbrev pub whole_turn : Script → ℕ → (State → SyncRun) → State → SyncRun
whole_turn script budget next st = sync_turn next script st (step script modes.Sync budget st)

-- where both begin
abbrev pub first_place : Script → List Entry → Place
first_place script entries = record { state = (start script).state; number = 1; left = entries }
