-- Every state that a machine comes to is at rest.
use Rattle.std.proofs.Common.{◌≡◌, ℕ, zero, suc, ◌+◌, true, ◌||◌, List, [], ◌∷◌, Option, Some, None, refl, ◌∙◌, ap, sym, arith}
use Rattle.std.specs.Prelude.{replicate, slice_set}
use Rattle.std.specs.Option.{option_map}
use Rattle.tk_types.specs.declared.run.Mode.{Mode}
use Rattle.tk_types.specs.declared.run.Mode.TheVariants as modes
use Rattle.tk_types.specs.declared.script.Script.{Script}
use Rattle.tk_types.specs.declared.task.Order.TheVariants.{Fifo}
use Rattle.tk_types.specs.declared.task.Phase.TheVariants.{Ready}
use Rattle.tk_types.specs.declared.task.Task.{Task}
use Rattle.kernel_model.specs.Words.Orders.{entry}
use Rattle.kernel_model.specs.Tasks.Base.{base_in, base_of, base_start, chosen, current, current_in}
use Rattle.kernel_model.specs.Tasks.Views.{is_current}
use Rattle.kernel_model.specs.Bodies.Statements.{IsRunnable}
use Rattle.object_model.specs.declared.mutexes.Mutex.{Mutex}
use Rattle.object_model.specs.Mutexes.Tables.{mutexes_start, owner_in}
use Rattle.device_model.specs.declared.messages.Ending.{Ending}
use Rattle.device_model.specs.Devices.Endings.{DevParts, arrive}
use Rattle.device_model.specs.Devices.Tables.{Devices, devices_start}
use Rattle.machine_model.specs.States.Objects.{Parts, dev_parts, serve_object, with_devices}
use Rattle.machine_model.specs.States.State.{State, parts_of, state_start, with_parts}
use Rattle.machine_model.specs.Events.Settle.{handed}
use Rattle.machine_model.specs.Events.Follow.{delays, dispatched}
use Rattle.machine_model.specs.Events.Arrivals.{after_arrival, arrived}
use Rattle.machine_model.specs.Events.Rest.{AreUpToDate, IsAtRest}
use Rattle.machine_model.specs.Runs.Step.{made_pending, with_first_handed, worked}
use Rattle.machine_model.specs.Runs.Trace.{start}
use Rattle.machine_model.specs.Runs.Turns.{done_turn, turn_of}
use Rattle.machine_model.specs.Runs.Reached.{Move, Steps, Arrives, after_move, after_offer, state_after}
use Rattle.kernel_lemmas.proofs.Tables.{entry_each, entry_same, none_there}
use Rattle.mutex_laws.proofs.Unowned.{current_unowned}
use Rattle.machine_lemmas.specs.Weights.{weight}
use Rattle.machine_lemmas.proofs.BaseKept.{HasSlots, slots_are_kept, start_slots}
use Rattle.machine_lemmas.proofs.HandedTwice.{hand_over_none}
use Rattle.machine_lemmas.proofs.HandingServes.{handed_first_none}
use Rattle.machine_lemmas.proofs.Reached.{reached_has, start_has, step_is}
use Rattle.machine_lemmas.proofs.Rest.{HasSettled, followed_rest, turned_dispatched, turned_settled, turned_taken}
use Rattle.machine_lemmas.proofs.Settling.{none_waiting}
use Rattle.machine_lemmas.proofs.Taken.{taken_rest}
use Rattle.machine_lemmas.proofs.Walk.{kept_first, of_kept}

-- ---- the start

-- no task waits
start_weighs : (priority : ℕ) → weight (base_start priority) ≡ 0
start_weighs priority = refl

start_unserved : (script : Script) → IsRunnable script → serve_object (parts_of (state_start script)) ≡ None
unfolding state_start
start_unserved script runnable =
    let none = start_weighs script.boot.priority in
    let p : Parts = parts_of (state_start script) in
    none_waiting p (serve_object p) refl (start_slots script runnable).few (omega (arith, none))

nothing_current : (n t : ℕ) → current_in (entry (replicate {A = Option Task} n None) t) ≡ base_in (entry (replicate {A = Option Task} n None) t)
nothing_current n t = let none = none_there n t in ap current_in none ∙ sym (ap base_in none)

-- a table with one task, which has the priority of its base
alone_current : (k : Task) (t : ℕ) → k.current ≡ k.base →
    current_in (entry (slice_set (replicate {A = Option Task} 256 None) 1 (Some k)) t) ≡ base_in (entry (slice_set (replicate {A = Option Task} 256 None) 1 (Some k)) t)
alone_current k t same =
    entry_each (λ i slot. current_in slot ≡ base_in slot) (replicate {A = Option Task} 256 None) 1 (Some k)
    (entry_same (λ slot. current_in slot ≡ base_in slot) (replicate {A = Option Task} 256 None) 1 (Some k) same refl) (λ j apart. nothing_current 256 j) t

start_current : (priority t : ℕ) → current (base_start priority) t ≡ base_of (base_start priority) t
start_current priority t =
    alone_current (record { phase = Ready; queue = Fifo; base = priority; initial = priority; current = priority; wakeups = 0; suspensions = 0; stack = 1024 }) t refl

no_mutex : (n id : ℕ) → owner_in (entry (replicate {A = Option Mutex} n None) id) ≡ 0
no_mutex zero id = refl
no_mutex (suc n) zero = refl
no_mutex (suc n) (suc id) = no_mutex n id

start_up_to_date : (priority : ℕ) → AreUpToDate (base_start priority) mutexes_start
start_up_to_date priority = record {
  each = λ t least. start_current priority t ∙ sym (current_unowned (base_start priority) mutexes_start t (no_mutex 65) least);
}

-- no request waits for a driver
start_given : (script : Script) (mode : Mode) → handed mode (parts_of (state_start script)) ≡ parts_of (state_start script)
unfolding state_start devices_start
start_given script modes.Sync = refl
start_given script modes.Free =
    let p : Parts = parts_of (state_start script) in
    ap (λ (now : Devices). record p { objects = record p.objects { devices = now } }) (hand_over_none p.base p.objects.devices refl)

start_settled : (script : Script) (mode : Mode) → IsRunnable script → HasSettled mode (parts_of (state_start script))
unfolding state_start
start_settled script mode runnable = record {
  unserved = start_unserved script runnable;
  up_to_date = start_up_to_date script.boot.priority;
  given = start_given script mode;
}

dispatched_settled : (script : Script) (mode : Mode) → IsRunnable script → HasSettled mode (parts_of (start script).state)
dispatched_settled script mode runnable = start_has (HasSettled mode) (λ p cur is. turned_settled mode p cur p.base.released is) script (start_settled script mode runnable)

start_taken : (script : Script) → (start script).state.base.released ≡ []
unfolding start dispatched state_start
start_taken script = turned_taken (delays (state_start script) || is_current (chosen (state_start script).base) (state_start script).base.cur) 0 (state_start script) refl

start_dispatched : (script : Script) → (delays (start script).state || is_current (chosen (start script).state.base) (start script).state.base.cur) ≡ true
unfolding start dispatched
start_dispatched script = turned_dispatched (delays (state_start script) || is_current (chosen (state_start script).base) (state_start script).base.cur) 0 (state_start script) refl

-- the start is at rest
pub start_rest : (script : Script) (mode : Mode) → IsRunnable script → IsAtRest mode (start script).state
start_rest script mode runnable =
    let has = dispatched_settled script mode runnable in
    record {
      unserved = has.unserved;
      up_to_date = has.up_to_date;
      given = has.given;
      followed = start_taken script;
      dispatched = start_dispatched script;
    }

-- ---- a step

-- what is done at a step comes to rest, where the table has its 256 slots and the devices are at most eight
pub worked_rest : (script : Script) (mode : Mode) (n : ℕ) (st : State) → HasSlots (parts_of st) → IsAtRest mode (worked script mode n st).state
unfolding worked
worked_rest script mode n st slots =
    let now : State = made_pending script n st in
    let first = kept_first HasSlots (of_kept HasSlots slots_are_kept) script mode n st slots in
    let room = first.base in
    followed_rest script mode n (done_turn script mode n now (turn_of now)).state first.few (omega (arith, room))

-- the number of the step says nothing of it
counted_rest : (mode : Mode) (st : State) (n : ℕ) → IsAtRest mode st → IsAtRest mode (record st { steps = n })
counted_rest mode st n rest = record {
  unserved = rest.unserved;
  up_to_date = rest.up_to_date;
  given = rest.given;
  followed = rest.followed;
  dispatched = rest.dispatched;
}

-- a machine that needs an ending in sync mode, and hands out a request for it, stays at rest
pub first_handed_rest : (st : State) → IsAtRest modes.Sync st → IsAtRest modes.Sync (with_first_handed st)
first_handed_rest st rest = record {
  unserved = handed_first_none (parts_of st) rest.unserved;
  up_to_date = rest.up_to_date;
  given = refl;
  followed = rest.followed;
  dispatched = rest.dispatched;
}

-- ---- moves

first_rest : (mode : Mode) (st : State) → IsAtRest mode st → mode ≡ modes.Sync → IsAtRest mode (with_first_handed st)
first_rest modes.Sync st rest is = first_handed_rest st rest
first_rest modes.Free st rest is = absurd (cc is)

offered_rest : (script : Script) (mode : Mode) (st : State) (e : Ending) (parts : Option DevParts) → arrive (dev_parts (parts_of st)) e ≡ parts → HasSlots (parts_of st) → IsAtRest mode st →
    IsAtRest mode (after_offer st (option_map (after_arrival script mode (st.steps + 1) st e) parts))
offered_rest script mode st e None is slots rest = rest
offered_rest script mode st e (Some q) is slots rest =
    let now = slots_are_kept.arrived (parts_of st) e q is slots in
    let room = now.base in
    taken_rest mode _ (followed_rest script mode (st.steps + 1) (with_parts st (with_devices (parts_of st) q)) now.few (omega (arith, room)))

-- from a state at rest a machine comes to rest, whether it steps or an ending is offered to it
pub moved_rest : (script : Script) (mode : Mode) (budget : ℕ) (st : State) (move : Move) → HasSlots (parts_of st) → IsAtRest mode st → IsAtRest mode (after_move script mode budget st move)
unfolding arrived
moved_rest script mode budget st Steps slots rest =
    step_is (IsAtRest mode) (λ now. taken_rest mode now) script mode budget st rest (first_rest mode st rest)
    (counted_rest mode (worked script mode (st.steps + 1) st).state (st.steps + 1) (worked_rest script mode (st.steps + 1) st slots))
moved_rest script mode budget st (Arrives e) slots rest = offered_rest script mode st e (arrive (dev_parts (parts_of st)) e) refl slots rest

-- every state that a machine comes to has 256 slots for tasks, and at most eight devices
pub reached_slots : (script : Script) (mode : Mode) (budget : ℕ) (moves : List Move) → IsRunnable script → HasSlots (parts_of (state_after script mode budget moves))
reached_slots script mode budget moves runnable = reached_has HasSlots slots_are_kept script mode budget moves (start_slots script runnable)

-- and is at rest
pub reached_rest : (script : Script) (mode : Mode) (budget : ℕ) (moves : List Move) → IsRunnable script → IsAtRest mode (state_after script mode budget moves)
unfolding state_after
reached_rest script mode budget [] runnable = start_rest script mode runnable
reached_rest script mode budget (move ∷ before) runnable =
    moved_rest script mode budget (state_after script mode budget before) move (reached_slots script mode budget before runnable) (reached_rest script mode budget before runnable)
