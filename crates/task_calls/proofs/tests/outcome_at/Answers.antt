-- At the start no task waits.
use Rattle.std.proofs.Common.{◌≡◌, ℕ, true, Option, Some, None, refl, sym, ◌∙◌, ap, subst}
use Rattle.std.specs.Prelude.{replicate}
use Rattle.tk_types.specs.declared.task.Task.{Task}
use Rattle.tk_types.specs.declared.task.Order.TheVariants.{Fifo}
use Rattle.tk_types.specs.declared.task.Phase.TheVariants.{Ready}
use Rattle.kernel_model.specs.Tasks.Base.{Base, base_start, dispatch, waiting_in}
use Rattle.kernel_model.specs.Words.Orders.{entry}
use Rattle.kernel_model.specs.Tasks.Queues.{AreOfOrder, queue_in}
use Rattle.kernel_lemmas.proofs.Tables.{entry_each, entry_same}
use Rattle.kernel_lemmas.proofs.Tables.{none_there}
use Rattle.task_calls.proofs.tests.outcome_at.Goals as goal

-- a row of a task that waits for the object queues by the beginning of its wait
abbrev Fits : ℕ → Option Task → Type 0
Fits object slot = waiting_in object slot ≡ true → queue_in slot ≡ Fifo

abbrev first_row : Option Task
first_row = Some (record { phase = Ready; queue = Fifo; base = 10; initial = 10; current = 10; wakeups = 0; suspensions = 0; stack = 1024 })

free_fits : (object : ℕ) → Fits object None
free_fits object waits = refl

first_fits : (object : ℕ) → Fits object first_row
first_fits object waits = refl

row_fits : (object t : ℕ) → Fits object (entry (base_start 10).tasks t)
row_fits object = entry_each (λ u slot. Fits object slot) (replicate 256 None) 1 first_row
    (entry_same (Fits object) (replicate 256 None) 1 first_row (first_fits object) (free_fits object))
    (λ u apart. subst (Fits object) (sym (none_there 256 u)) (free_fits object))

at_start : (object : ℕ) → AreOfOrder Fifo (dispatch (base_start 10)) object
at_start object = record { alike = row_fits object }

of_start : (object : ℕ) (b after : Base) → b ≡ base_start 10 → after ≡ dispatch b → AreOfOrder Fifo after object
of_start object b after start moved = subst (λ now. AreOfOrder Fifo now object) (sym (moved ∙ ap dispatch start)) (at_start object)

pub set_stage-requires-clause-sleepers : goal.set_stage-requires-clause-sleepers
set_stage-requires-clause-sleepers c = of_start 0 c.in_ok-base.base c.dispatch.new.self c.in_ok-base.ensures c.dispatch.ensures.moved

pub set_stage-requires-clause-delayed : goal.set_stage-requires-clause-delayed
set_stage-requires-clause-delayed c = of_start 1 c.in_ok-base.base c.dispatch.new.self c.in_ok-base.ensures c.dispatch.ensures.moved
