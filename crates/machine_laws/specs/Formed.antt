-- What holds of the parts in every state that a machine comes to, and through each of its events: tables have their sizes, and 0 is
-- no task, has no place among the stamps, and is no mutex.
use Rattle.std.specs.Prelude.{◌≡◌, ◌≤◌, length, None}
use Rattle.kernel_model.specs.LawWords.Once.{times}
use Rattle.kernel_model.specs.Tasks.Base.{task_at}
use Rattle.object_model.specs.Mutexes.Tables.{mutex_at}
use Rattle.machine_model.specs.States.Objects.{Parts}
use Rattle.table_lemmas.specs.Short.{AreShort}

pub record IsFormed (p : Parts) : Type 0 where
  pub devices : length p.objects.devices.links ≤ 9
  pub slots : length p.base.tasks ≡ 256
  pub short : AreShort p.objects
  pub task : task_at p.base 0 ≡ None
  pub place : times 0 p.base.order ≡ 0
  pub mutex : mutex_at p.objects.mutexes 0 ≡ None
