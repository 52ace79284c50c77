-- How long the tables of objects are.
use Rattle.std.specs.Prelude.{◌≤◌, length}
use Rattle.machine_model.specs.States.Objects.{Objects}

-- no table of objects has more slots than its objects have numbers
pub record AreShort (o : Objects) : Type 0 where
  pub sems : length o.sem_flags.sems ≤ 65
  pub flags : length o.sem_flags.flags ≤ 65
  pub boxes : length o.mails.boxes ≤ 65
  pub mutexes : length o.mutexes.table ≤ 65
  pub buffers : length o.mails.buffers ≤ 65
  pub fixed : length o.pools.fixed ≤ 65
  pub variable : length o.pools.variable ≤ 65
