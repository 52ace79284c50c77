-- Whose turn it is while a handler runs, and where one is due.
use Rattle.std.proofs.Common.{◌≡◌, ℕ, Bool, true, false, not, ◌||◌, List, [], ◌∷◌, length, ◌∙◌, ap}
use Rattle.std.specs.Bool.{◌==◌}
use Rattle.tk_types.specs.declared.task.Event.{Event as DueKind}
use Rattle.kernel_model.specs.Tasks.Base.{chosen}
use Rattle.kernel_model.specs.Tasks.Views.{is_current}
use Rattle.machine_model.specs.declared.turns.Turn.TheVariants as turns
use Rattle.machine_model.specs.Events.Follow.{dispatched, turned}
use Rattle.machine_model.specs.Runs.Turns.{turn_of, turn_of_due, turn_unless_handler}
use Rattle.machine_model.specs.States.State.{State}

-- while a handler runs, the turn is its own
pub handler_next : (st : State) → st.base.flags.handler ≡ true → turn_of st ≡ turns.Handler
unfolding turn_of
handler_next st runs = ap (λ (handler : Bool). turn_unless_handler handler st) runs

-- else the first handler that is due has the turn
pub due_next : (st : State) (what : DueKind) (later : List DueKind) → st.base.flags.handler ≡ false → st.due ≡ what ∷ later → turn_of st ≡ turns.Due what
unfolding turn_of
due_next st what later none due = ap (λ (handler : Bool). turn_unless_handler handler st) none ∙ ap (λ (handlers : List DueKind). turn_of_due handlers st) due

-- while a handler runs, no task is dispatched
pub dispatch_waits : (n : ℕ) (st : State) → st.base.flags.handler ≡ true → dispatched n st ≡ record { state = st; lines = [] }
unfolding dispatched
dispatch_waits n st runs =
    ap (λ (handler : Bool). turned ((handler || (not (length st.due == 0) || (st.base.flags.dispatch_off || st.base.flags.di))) || is_current (chosen st.base) st.base.cur) n st) runs
