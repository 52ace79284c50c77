-- What a task shows of itself, in one record.
use Rattle.std.specs.Prelude.{ℕ, ◌==◌, Option, position}
use Rattle.std.specs.Option.{option_map}
use Rattle.tk_types.specs.declared.task.Task.{Task}
use Rattle.kernel_model.specs.Tasks.Base.{Base, task_at}
use Rattle.kernel_model.specs.Words.Events.{limit_of}
use Rattle.kernel_model.specs.Tasks.Views.{object_in, state_in}
use Rattle.kernel_base.specs.declared.view.TaskView.{TaskView}

abbrev pub view_in : Base → ℕ → Task → TaskView
view_in b t k = record {
  state = state_in b t k;
  current = k.current;
  base = k.base;
  initial = k.initial;
  wakeups = k.wakeups;
  suspensions = k.suspensions;
  obj = object_in k.phase;
  since = position (λ other. other == t) b.since;
  due = limit_of t b.events;
}

-- what the task with an ID shows, where it exists
abbrev pub view_of : Base → ℕ → Option TaskView
view_of b t = option_map (view_in b t) (task_at b t)
