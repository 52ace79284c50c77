-- Interrupts that are pending stand in strictly rising order, each once, in every state that a machine comes to.
use Rattle.std.proofs.Common.{◌≡◌, ℕ, ◌+◌, ◌<◌, Bool, true, false, cond, not, ◌||◌, List, [], ◌∷◌, Option, Some, None, refl, arith}
use Rattle.std.specs.Bool.{◌==◌}
use Rattle.std.specs.Prelude.{filter, fold, nat_lt}
use Rattle.std.specs.Option.{option_map}
use Rattle.std.proofs.lemmas.Bool.Decides.{nat_tests}
use Rattle.tk_types.specs.declared.run.Mode.{Mode}
use Rattle.tk_types.specs.declared.script.Interrupt.{Interrupt}
use Rattle.tk_types.specs.declared.script.Script.{Script}
use Rattle.kernel_model.specs.Words.Orders.{without}
use Rattle.kernel_model.specs.Tasks.Base.{chosen}
use Rattle.kernel_model.specs.Tasks.Views.{is_current}
use Rattle.context_model.specs.Contexts.Tables.{handler_of}
use Rattle.device_model.specs.declared.messages.Ending.{Ending}
use Rattle.device_model.specs.Devices.Endings.{DevParts, arrive}
use Rattle.machine_model.specs.States.Objects.{dev_parts, with_devices}
use Rattle.machine_model.specs.States.State.{State, parts_of, state_start, with_parts}
use Rattle.machine_model.specs.Events.Follow.{delays, dispatched, turned}
use Rattle.machine_model.specs.Events.Arrivals.{after_arrival, arrived}
use Rattle.machine_model.specs.Events.Handlers.{insert_once, requested, with_requests}
use Rattle.machine_model.specs.Runs.Step.{is_paced, made_pending, step, worked}
use Rattle.machine_model.specs.Runs.Trace.{start}
use Rattle.machine_model.specs.Runs.Reached.{Move, Steps, Arrives, after_move, after_offer, after_pace, state_after}
use Rattle.machine_lemmas.specs.Strict.{AllAbove, IsStrict}
use Rattle.machine_lemmas.proofs.Pending.{IsOfPending, followed_of, worked_of}
use Rattle.machine_lemmas.proofs.Reached.{step_is}

-- ---- lists

above_less : (low high : ℕ) (xs : List ℕ) → low < high → AllAbove high xs → AllAbove low xs
above_less low high [] less all = tt
above_less low high (x ∷ xs) less all = let first = all.0 in (omega (arith, less, first), above_less low high xs less all.1)

above_kept : (low number x : ℕ) (xs : List ℕ) (kept : Bool) → low < x → AllAbove low (without number xs) → AllAbove low (cond kept (x ∷ without number xs) (without number xs))
above_kept low number x xs true less all = (less, all)
above_kept low number x xs false less all = all

above_without : (low number : ℕ) (xs : List ℕ) → AllAbove low xs → AllAbove low (without number xs)
above_without low number [] all = tt
above_without low number (x ∷ xs) all = above_kept low number x xs (not (x == number)) all.0 (above_without low number xs all.1)

strict_kept : (number x : ℕ) (xs : List ℕ) (kept : Bool) → AllAbove x (without number xs) → IsStrict (without number xs) → IsStrict (cond kept (x ∷ without number xs) (without number xs))
strict_kept number x xs true above strict = (above, strict)
strict_kept number x xs false above strict = strict

-- a number that is taken out leaves the order
pub strict_without : (number : ℕ) (xs : List ℕ) → IsStrict xs → IsStrict (without number xs)
strict_without number [] strict = tt
strict_without number (x ∷ xs) strict = strict_kept number x xs (not (x == number)) (above_without x number xs strict.0) (strict_without number xs strict.1)

above_two : (low number first : ℕ) (rest later : List ℕ) (same before : Bool) → low < number → low < first → AllAbove low rest → AllAbove low later → AllAbove low (cond same (first ∷ rest) (cond before (number ∷ first ∷ rest) (first ∷ later)))
above_two low number first rest later true before less next all put = (next, all)
above_two low number first rest later false true less next all put = (less, (next, all))
above_two low number first rest later false false less next all put = (next, put)

above_inserted : (low number : ℕ) (xs : List ℕ) → low < number → AllAbove low xs → AllAbove low (insert_once number xs)
unfolding insert_once
above_inserted low number [] less all = (less, tt)
above_inserted low number (first ∷ rest) less all =
    above_two low number first rest (insert_once number rest) (number == first) (nat_lt number first) less all.0 all.1 (above_inserted low number rest less all.1)

strict_two : (number first : ℕ) (rest later : List ℕ) (same before : Bool) → (number == first) ≡ same → nat_lt number first ≡ before → AllAbove first rest → IsStrict rest → (first < number → AllAbove first later) → IsStrict later →
    IsStrict (cond same (first ∷ rest) (cond before (number ∷ first ∷ rest) (first ∷ later)))
strict_two number first rest later true before is less above strict put inserted = (above, strict)
strict_two number first rest later false true is less above strict put inserted =
    let smaller : number < first = grind (arith, nat_tests, less) in
    ((smaller, above_less number first rest smaller above), (above, strict))
strict_two number first rest later false false is less above strict put inserted = (put (grind (arith, nat_tests, is, less)), inserted)

-- and so does one that is put in its place, unless it stands there
pub strict_inserted : (number : ℕ) (xs : List ℕ) → IsStrict xs → IsStrict (insert_once number xs)
unfolding insert_once
strict_inserted number [] strict = (tt, tt)
strict_inserted number (first ∷ rest) strict =
    strict_two number first rest (insert_once number rest) (number == first) (nat_lt number first) refl refl strict.0 strict.1
    (λ less. above_inserted first number rest less strict.0) (strict_inserted number rest strict.1)

-- ---- steps

abbrev Once : ℕ → List ℕ → Type 0
Once ticks pending = IsStrict pending

once_pending : IsOfPending Once
once_pending = record { taken_back = λ ticks number pending strict. strict_without number pending strict }

pending_if : (test : Bool) (a b : State) → IsStrict a.pending → IsStrict b.pending → IsStrict (cond test a b).pending
pending_if true a b first second = first
pending_if false a b first second = second

requests_once : (irqs : List Interrupt) (st : State) → IsStrict st.pending → IsStrict (fold (λ before (irq : Interrupt). requested before irq.number) st irqs).pending
requests_once [] st strict = strict
requests_once (irq ∷ later) st strict =
    requests_once later (requested st irq.number)
    (pending_if (handler_of st.objects.contexts irq.number == 0) st (record st { pending = insert_once irq.number st.pending }) strict (strict_inserted irq.number st.pending strict))

made_once : (script : Script) (n : ℕ) (st : State) → IsStrict st.pending → IsStrict (made_pending script n st).pending
unfolding with_requests
made_once script n st strict =
    let asked = requests_once (filter (λ irq. irq.step == n) script.irqs) st strict in
    pending_if (is_paced script.pace n) (record (with_requests script n st) { ticks = (with_requests script n st).ticks + 1 }) (with_requests script n st) asked asked

worked_once : (script : Script) (mode : Mode) (n : ℕ) (st : State) → IsStrict st.pending → IsStrict (worked script mode n st).state.pending
worked_once script mode n st strict = worked_of Once once_pending script mode n st (made_once script n st strict)

step_once : (script : Script) (mode : Mode) (budget : ℕ) (st : State) → IsStrict st.pending → IsStrict (after_pace st (step script mode budget st)).pending
step_once script mode budget st strict =
    step_is (λ (now : State). IsStrict now.pending) (λ now is. is) script mode budget st strict (λ sync. strict) (worked_once script mode (st.steps + 1) st strict)

offered_once : (script : Script) (mode : Mode) (st : State) (e : Ending) (parts : Option DevParts) → IsStrict st.pending → IsStrict (after_offer st (option_map (after_arrival script mode (st.steps + 1) st e) parts)).pending
offered_once script mode st e None strict = strict
offered_once script mode st e (Some q) strict = followed_of Once script mode (st.steps + 1) (with_parts st (with_devices (parts_of st) q)) strict

move_once : (script : Script) (mode : Mode) (budget : ℕ) (st : State) (move : Move) → IsStrict st.pending → IsStrict (after_move script mode budget st move).pending
unfolding arrived
move_once script mode budget st Steps strict = step_once script mode budget st strict
move_once script mode budget st (Arrives e) strict = offered_once script mode st e (arrive (dev_parts (parts_of st)) e) strict

turned_once : (same : Bool) (n : ℕ) (st : State) → IsStrict st.pending → IsStrict (turned same n st).state.pending
turned_once true n st strict = strict
turned_once false n st strict = strict

start_once : (script : Script) → IsStrict (start script).state.pending
unfolding start dispatched state_start
start_once script = turned_once (delays (state_start script) || is_current (chosen (state_start script).base) (state_start script).base.cur) 0 (state_start script) tt

-- in every state that a machine comes to each pending interrupt stands once
pub reached_once : (script : Script) (mode : Mode) (budget : ℕ) (moves : List Move) → IsStrict (state_after script mode budget moves).pending
unfolding state_after
reached_once script mode budget [] = start_once script
reached_once script mode budget (move ∷ before) = move_once script mode budget (state_after script mode budget before) move (reached_once script mode budget before)
