-- A step of the machine: what becomes pending at it, what is done, and all that follows; and what the machine does where
-- nothing is left to do.
use Rattle.std.specs.Prelude.{ℕ, ◌+◌, ◌%◌, Bool, true, false, not, ◌==◌, ◌&&◌, ◌||◌, nat_lt, nat_le, if◌then◌else◌, length, List, [], ◌∷◌, Option, Some, None}
use Rattle.std.specs.List.{list_any}
use Rattle.tk_types.specs.declared.script.Script.{Script}
use Rattle.tk_types.specs.declared.run.Mode.{Mode}
use Rattle.tk_types.specs.declared.run.Mode.TheVariants as modes
use Rattle.tk_types.specs.declared.run.End.{End}
use Rattle.tk_types.specs.declared.run.End.TheVariants as ends
use Rattle.kernel_model.specs.Tasks.Base.{chosen}
use Rattle.device_model.specs.Devices.Tables.{Devices}
use Rattle.device_model.specs.Devices.Handing.{any_given, any_queued, hand_first}
use Rattle.machine_model.specs.States.State.{State}
use Rattle.machine_model.specs.Events.Follow.{Event, behind, followed}
use Rattle.machine_model.specs.Events.Handlers.{with_requests}
use Rattle.machine_model.specs.Runs.Turns.{done_turn, turn_of}

-- ---- what becomes pending

-- whether a tick becomes pending at a step: the script's pace divides its number
abbrev pub is_paced : Option ℕ → ℕ → Bool
is_paced None n = false
is_paced (Some pace) n = nat_lt 0 pace && n % pace == 0

-- a tick becomes pending where the step is one of the pace
abbrev pub paced : Script → ℕ → State → State
paced script n st = if is_paced script.pace n then record st { ticks = st.ticks + 1 } else st

-- what a step makes pending: its interrupts, and a tick
abbrev pub made_pending : Script → ℕ → State → State
made_pending script n st = paced script n (with_requests script n st)

-- ---- what is done

abbrev pub followed_by : Script → Mode → ℕ → Event → Event
followed_by script mode n first = behind first.lines (followed script mode n first.state)

-- what is done at a step, with all that follows it
unfoldable pub worked : Script → Mode → ℕ → State → Event
worked script mode n st =
    let pending : State = made_pending script n st in
    followed_by script mode n (done_turn script mode n pending (turn_of pending))

-- the end after a step: `halt` comes before the budget
abbrev pub end_after : Bool → Bool → Option End
end_after true at_budget = Some ends.Halt
end_after false true = Some ends.Budget
end_after false false = None

-- ---- where nothing is left to do

-- no handler runs or is due, no tick and no interrupt is pending, and no task is ready
abbrev pub is_quiet : State → Bool
is_quiet st = not st.base.flags.handler && (length st.due == 0 && (st.ticks == 0 && (length st.pending == 0 && chosen st.base == 0)))

-- something is set for a time, or an interrupt of this step or a later one is to come
abbrev pub has_event : Script → ℕ → State → Bool
has_event script n st = not (length st.base.events == 0) || list_any (λ irq. nat_le n irq.step) script.irqs

-- in sync mode the first queued request of the least device goes to its driver, one at a time
abbrev pub with_first_handed : State → State
with_first_handed st = record st { objects = record st.objects { devices = hand_first st.objects.devices } }

abbrev pub needs_if : Bool → State → Option State
needs_if true st = Some st
needs_if false st = None

abbrev pub handed_if : Bool → State → Option State
handed_if true st = Some (with_first_handed st)
handed_if false st = None

abbrev pub needed_sync : Bool → State → Option State
needed_sync true st = Some st
needed_sync false st = handed_if (any_queued st.objects.devices) st

-- a quiet machine needs an ending: in sync mode where a request is queued, or with a driver already; in free mode where
-- there is no event and a request is with a driver
abbrev pub needed : Mode → Bool → State → Option State
needed modes.Sync event st = needed_sync (any_given st.objects.devices) st
needed modes.Free event st = needs_if (not event && any_given st.objects.devices) st

-- whether a request hasn't ended yet
abbrev pub any_unfinished : Devices → Bool
any_unfinished devices = any_given devices || any_queued devices

-- ---- a step

-- what comes of a step: it is done, and the run may be over with it; an ending has to arrive first; or nothing is left to do
pub data Pace : Type 0 where
  Went : (event : Event) → (over : Option End) → Pace
  Needs : (state : State) → Pace
  Ends : Pace

-- the step is counted, and the one whose number is the budget is the last
unfoldable pub counted : ℕ → ℕ → Event → Pace
counted budget n event = Went (record event { state = record event.state { steps = n } }) (end_after event.state.halted (n == budget))

abbrev pub went : Script → Mode → ℕ → State → Pace
went script mode budget st = counted budget (st.steps + 1) (worked script mode (st.steps + 1) st)

abbrev pub ended_or_went : Bool → Script → Mode → ℕ → State → Pace
ended_or_went true script mode budget st = Ends
ended_or_went false script mode budget st = went script mode budget st

abbrev pub needed_or : Option State → Bool → Script → Mode → ℕ → State → Pace
needed_or (Some waiting) event script mode budget st = Needs waiting
needed_or None event script mode budget st = ended_or_went (not event && not (any_unfinished st.objects.devices)) script mode budget st

abbrev pub quiet_step : Bool → Script → Mode → ℕ → State → Pace
quiet_step event script mode budget st = needed_or (needed mode event st) event script mode budget st

abbrev pub step_if : Bool → Script → Mode → ℕ → State → Pace
step_if true script mode budget st = quiet_step (has_event script (st.steps + 1) st) script mode budget st
step_if false script mode budget st = went script mode budget st

-- a step: where the machine is quiet it may need an ending, or end; else what is done at it
unfoldable pub step : Script → Mode → ℕ → State → Pace
step script mode budget st = step_if (is_quiet st) script mode budget st
