use Rattle.std.proofs.Common.{◌≡◌, ℤ, ◌∙◌, ap}
use Rattle.tk_types.specs.declared.calls.Call.{Call}
use Rattle.tk_types.specs.declared.calls.Call.TheVariants as calls
use Rattle.tk_types.specs.declared.calls.MutexCall.TheVariants as mutexes
use Rattle.tk_types.specs.declared.calls.TaskCall.TheVariants as tasks
use Rattle.machine_model.specs.States.State.{parts_of}
use Rattle.machine_model.specs.Events.Calls.{called}
use Rattle.machine_laws.proofs.Levels.{IsSteady, called_free, free_of, free_up_to_date}
use Rattle.machine_laws.proofs.priorities.two_calls_change_priorities.Goals as goal

-- the call is neither of the two
steady : (call : Call) → ((task priority : ℤ) → call ≡ calls.Task (tasks.ChgPri task priority) → ⊥) → ((id timeout : ℤ) → call ≡ calls.Mutex (mutexes.LocMtx id timeout) → ⊥) →
    IsSteady call
steady call no_change no_lock = record {
  no_change = λ it is task priority same. no_change task priority (is ∙ ap calls.Task same);
  no_lock = λ it is id timeout same. no_lock id timeout (is ∙ ap calls.Mutex same);
}

pub returns-clause-kept : goal.returns-clause-kept
returns-clause-kept c = λ mode n st caller call no_change no_lock none is.
    free_up_to_date (parts_of (called mode n st caller call).state) (called_free mode n st caller call (steady call no_change no_lock) (free_of (parts_of st) none is))

pub returns-clause-still_unowned : goal.returns-clause-still_unowned
returns-clause-still_unowned c = λ mode n st caller call no_change no_lock none is.
    (called_free mode n st caller call (steady call no_change no_lock) (free_of (parts_of st) none is)).unowned
