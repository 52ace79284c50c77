-- A run in sync mode, in which each ending that is needed is that of a request done whole, goes on by its turns, however many are
-- given: each turn does a step, or takes an ending, and no more endings come than calls were made.
use Rattle.std.proofs.Common.{◌≡◌, ℕ, zero, suc, ◌+◌, ◌*◌, ◌≤◌, ◌<◌, length, List, [], ◌∷◌, Option, Some, None, refl, ◌∙◌, ap, subst, sym, arith}
use Rattle.std.specs.Prelude.{replicate}
use Rattle.tk_types.specs.declared.line.LastLine.TheVariants as lasts
use Rattle.tk_types.specs.declared.run.End.{End}
use Rattle.tk_types.specs.declared.run.End.TheVariants as ends
use Rattle.tk_types.specs.declared.run.Mode.TheVariants as modes
use Rattle.tk_types.specs.declared.script.Script.{Script}
use Rattle.tk_types.specs.declared.task.Task.{Task}
use Rattle.device_model.specs.declared.messages.Ending.{Ending}
use Rattle.device_model.specs.declared.rows.Wish.TheVariants.{Nothing}
use Rattle.device_model.specs.Devices.Handing.{emptied}
use Rattle.device_model.specs.Devices.Tables.{Row, devices_start}
use Rattle.machine_model.specs.States.State.{State, parts_of, state_start, taken}
use Rattle.machine_model.specs.Events.Follow.{Event}
use Rattle.machine_model.specs.Events.Arrivals.{arrived}
use Rattle.machine_model.specs.Runs.Step.{Ends, Needs, Pace, Went, step}
use Rattle.machine_model.specs.Runs.Trace.{last_of, start}
use Rattle.machine_model.specs.Runs.SyncTrace.{SyncRun, entry_of, needed_ending, sync_after, sync_arrived, sync_ending, sync_over, sync_run, sync_runs, sync_turn, with_entry}
use Rattle.machine_lemmas.proofs.Reached.{start_has}
use Rattle.count_lemmas.proofs.Steps.{start_unstepped}
use Rattle.journal_laws.specs.Owed.{asks_in, open_in, owed}
use Rattle.journal_laws.specs.Turns.{IsRun, goes_on, over, whole_turn}
use Rattle.journal_laws.proofs.OwedServings.{Within}
use Rattle.journal_laws.proofs.Paces.{IsFed, IsStepped, arrived_fed, step_needs, step_went}

-- how many endings may still come in a state
abbrev due : State → ℕ
due st = owed st.base st.objects.devices

-- as many where messages are taken
taken_due : (st : State) → due (taken st) ≡ due st
unfolding emptied
taken_due st = refl

-- ---- one turn

-- no more entries than the endings that may come, and the calls of the steps that are done
abbrev AreFew : State → SyncRun → Type 0
AreFew st run = length run.entries + st.steps ≤ due st + run.trace.steps

-- a turn ends the run, with the budget as its end only at the last step of that; or it goes on, and fewer turns are left to come
data Comes (budget : ℕ) (turn : (State → SyncRun) → SyncRun) (st : State) : Type 0 where
  Over : (all : SyncRun) → ((next : State → SyncRun) → turn next ≡ all) → (all.trace.last ≡ lasts.Budget → all.trace.steps ≡ budget) → AreFew st all → Comes budget turn st
  GoesOn : (put : SyncRun → SyncRun) (now : State) → ((next : State → SyncRun) → turn next ≡ put (next now)) → now.steps < budget → due now + 2 * st.steps + 1 ≤ due st + 2 * now.steps →
      ((rest : SyncRun) → (rest.trace.last ≡ lasts.Budget → rest.trace.steps ≡ budget) → (put rest).trace.last ≡ lasts.Budget → (put rest).trace.steps ≡ budget) →
      ((rest : SyncRun) → AreFew now rest → AreFew st (put rest)) → Comes budget turn st

last_is : (end : End) → last_of end ≡ lasts.Budget → end ≡ ends.Budget
last_is ends.Idle is = absurd (cc is)
last_is ends.Halt is = absurd (cc is)
last_is ends.Budget is = refl

-- a step was done
went_comes : (script : Script) (budget : ℕ) (st : State) (event : Event) (end : Option End) → st.steps < budget → IsStepped budget st event end → Comes budget (λ next. sync_turn next script st (Went event end)) st
went_comes script budget st event None below is =
    let steps = is.steps in
    let owes = is.owes in
    let same = taken_due event.state in
    GoesOn (sync_after event.lines) (taken event.state) (λ next. refl) (is.goes refl below) (omega (arith, steps, owes, same)) (λ rest reaches. reaches) (λ rest few. omega (arith, steps, owes, same, few))
went_comes script budget st event (Some end) below is =
    let steps = is.steps in
    Over (sync_after event.lines (sync_over event.state end)) (λ next. refl) (λ last. is.reaches (ap (λ (e : End). Some e) (last_is end last))) (omega (arith, steps))

-- an ending arrived, or didn't
arrived_comes : (script : Script) (budget : ℕ) (st now : State) (e : Ending) (some : Option Event) → st.steps < budget → now.steps ≡ st.steps → due now ≤ due st → ((event : Event) → some ≡ Some event → IsFed now event) →
    Comes budget (λ next. sync_arrived next now e some) st
arrived_comes script budget st now e None below same owes fed = Over (sync_over now ends.Idle) (λ next. refl) (λ last. absurd (cc last)) (omega (arith, same))
arrived_comes script budget st now e (Some event) below same owes fed =
    let is = fed event refl in
    let steps = is.steps in
    let less = is.owes in
    let as_many = taken_due event.state in
    GoesOn (λ rest. with_entry (entry_of (now.steps + 1) e) (sync_after event.lines rest)) (taken event.state) (λ next. refl) (omega (arith, steps, same, below)) (omega (arith, steps, same, less, owes, as_many))
    (λ rest reaches. reaches) (λ rest few. omega (arith, steps, same, less, owes, as_many, few))

ending_comes : (script : Script) (budget : ℕ) (st now : State) (some : Option Ending) → st.steps < budget → now.steps ≡ st.steps → due now ≤ due st → Comes budget (λ next. sync_ending next script now some) st
ending_comes script budget st now None below same owes = Over (sync_over now ends.Idle) (λ next. refl) (λ last. absurd (cc last)) (omega (arith, same))
ending_comes script budget st now (Some e) below same owes =
    arrived_comes script budget st now e (arrived script modes.Sync now e) below same owes (λ event is. arrived_fed script modes.Sync now e event is)

pace_comes : (script : Script) (budget : ℕ) (st : State) (pace : Pace) → step script modes.Sync budget st ≡ pace → st.steps < budget → Comes budget (λ next. sync_turn next script st pace) st
pace_comes script budget st (Went event end) is below = went_comes script budget st event end below (step_went script modes.Sync budget st event end is)
pace_comes script budget st (Needs waiting) is below =
    let waits = step_needs script modes.Sync budget st waiting is in
    let owes = waits.owes in
    let same = taken_due waiting in
    ending_comes script budget st (taken waiting) (needed_ending (taken waiting)) below waits.steps (omega (arith, owes, same))
pace_comes script budget st Ends is below = Over (sync_over st ends.Idle) (λ next. refl) (λ last. absurd (cc last)) (omega arith)

-- ---- all turns

-- what is known of a run with a number of turns
record IsLed (script : Script) (budget turns : ℕ) (st : State) : Type 0 where
  pub by_turns : IsRun (whole_turn script budget) st (sync_runs turns script budget st)
  pub more : (all : ℕ) → turns ≤ all → sync_runs all script budget st ≡ sync_runs turns script budget st
  pub reaches : (sync_runs turns script budget st).trace.last ≡ lasts.Budget → (sync_runs turns script budget st).trace.steps ≡ budget
  pub few : AreFew st (sync_runs turns script budget st)

longer : (script : Script) (budget turns : ℕ) (st : State) → ((others : ℕ) → turns ≤ others → sync_runs (suc others) script budget st ≡ sync_runs (suc turns) script budget st) →
    (all : ℕ) → suc turns ≤ all → sync_runs all script budget st ≡ sync_runs (suc turns) script budget st
longer script budget turns st same zero most = absurd (omega (arith, most))
longer script budget turns st same (suc others) most = same others (omega (arith, most))

turn_led : (script : Script) (budget turns : ℕ) (st : State) → due st + 2 * budget ≤ suc turns + 2 * st.steps → ((now : State) → now.steps < budget → due now + 2 * budget ≤ turns + 2 * now.steps → IsLed script budget turns now) →
    Comes budget (λ next. whole_turn script budget next st) st → IsLed script budget (suc turns) st
unfolding sync_runs
turn_led script budget turns st enough rest (Over all is reaches few) =
    let mine = is (λ now. sync_runs turns script budget now) in
    record {
      by_turns = over (λ next. is next ∙ sym mine);
      more = longer script budget turns st (λ others most. is (λ now. sync_runs others script budget now) ∙ sym mine);
      reaches = subst (λ (run : SyncRun). run.trace.last ≡ lasts.Budget → run.trace.steps ≡ budget) (sym mine) reaches;
      few = subst (AreFew st) (sym mine) few;
    }
turn_led script budget turns st enough rest (GoesOn put now is below fewer reaches few) =
    let later : IsLed script budget turns now = rest now below (omega (arith, enough, fewer)) in
    let mine = is (λ after. sync_runs turns script budget after) in
    record {
      by_turns = subst (IsRun (whole_turn script budget) st) (sym mine) (goes_on put is later.by_turns);
      more = longer script budget turns st (λ others most. is (λ now. sync_runs others script budget now) ∙ ap put (later.more others most) ∙ sym mine);
      reaches = subst (λ (run : SyncRun). run.trace.last ≡ lasts.Budget → run.trace.steps ≡ budget) (sym mine) (reaches (sync_runs turns script budget now) later.reaches);
      few = subst (AreFew st) (sym mine) (few (sync_runs turns script budget now) later.few);
    }

runs_led : (script : Script) (budget turns : ℕ) (st : State) → st.steps < budget → due st + 2 * budget ≤ turns + 2 * st.steps → IsLed script budget turns st
runs_led script budget zero st below enough = absurd (omega (arith, below, enough))
runs_led script budget (suc turns) st below enough =
    turn_led script budget turns st enough (λ now. runs_led script budget turns now) (pace_comes script budget st (step script modes.Sync budget st) refl below)

-- ---- the start

no_rows : (n : ℕ) → open_in (replicate {A = Option Row} n None) ≡ 0
no_rows zero = refl
no_rows (suc n) = let rest = no_rows n in omega (arith, rest)

no_asks : (n : ℕ) (slots : List (Option Task)) → asks_in (replicate n Nothing) slots ≡ 0
no_asks zero slots = refl
no_asks (suc n) [] = refl
no_asks (suc n) (slot ∷ slots) = let rest = no_asks n slots in omega (arith, rest)

first_due : (script : Script) → Within 0 (parts_of (state_start script))
unfolding state_start devices_start
first_due script = let rows = no_rows 65 in let asks = no_asks 256 (state_start script).base.tasks in omega (arith, rows, asks)

-- no ending may come before a call is made
start_due : (script : Script) → due (start script).state ≤ 0
start_due script = start_has (Within 0) (λ p cur is. is) script (first_due script)

pub start_owes : (script : Script) → due (start script).state ≡ 0
start_owes script = let none = start_due script in omega (arith, none)

whole_run : (script : Script) (budget turns : ℕ) → 1 ≤ budget → 2 * budget ≤ turns → IsLed script budget turns (start script).state
whole_run script budget turns least enough =
    let none = start_unstepped script in
    let first = start_due script in
    runs_led script budget turns (start script).state (omega (arith, none, least)) (omega (arith, first, enough))

-- the run is made by its turns alone
pub sync_by_turns : (script : Script) (budget : ℕ) → 1 ≤ budget → (rest : SyncRun) × IsRun (whole_turn script budget) (start script).state rest × (sync_run script budget ≡ sync_after (start script).lines rest)
unfolding sync_run
sync_by_turns script budget least = (sync_runs (2 * budget + 1) script budget (start script).state, (whole_run script budget (2 * budget + 1) least (omega arith)).by_turns, refl)

-- more turns make no difference
pub sync_with_more : (script : Script) (budget turns : ℕ) → 1 ≤ budget → 2 * budget ≤ turns → sync_after (start script).lines (sync_runs turns script budget (start script).state) ≡ sync_run script budget
unfolding sync_run
sync_with_more script budget turns least enough =
    let led = whole_run script budget (2 * budget) least (omega arith) in
    ap (sync_after (start script).lines) (led.more turns enough ∙ sym (led.more (2 * budget + 1) (omega arith)))

-- the budget ends a run at its last step alone
pub sync_reaches : (script : Script) (budget : ℕ) → 1 ≤ budget → (sync_run script budget).trace.last ≡ lasts.Budget → (sync_run script budget).trace.steps ≡ budget
unfolding sync_run
sync_reaches script budget least = (whole_run script budget (2 * budget + 1) least (omega arith)).reaches

-- no more endings arrive than steps are done
pub sync_endings : (script : Script) (budget : ℕ) → 1 ≤ budget → length (sync_run script budget).entries ≤ (sync_run script budget).trace.steps
unfolding sync_run
sync_endings script budget least =
    let few = (whole_run script budget (2 * budget + 1) least (omega arith)).few in
    let first = start_due script in
    omega (arith, few, first)
