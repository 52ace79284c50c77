-- The hooks that are set, and what the calls on lists and queues look at.
use Rattle.std.specs.Prelude.{false}
use Rattle.kernel_model.specs.Tasks.Base.{Base}
use Rattle.kernel_model.specs.SemFlags.Tables.{SemFlags}
use Rattle.object_model.specs.Mutexes.Tables.{Mutexes}
use Rattle.object_model.specs.Mails.Tables.{Mails}
use Rattle.object_model.specs.Pools.Tables.{Pools}
use Rattle.context_model.specs.declared.hook_set.HookSet.{HookSet}
use Rattle.context_model.specs.Clocks.Tables.{Clocks}
use Rattle.context_model.specs.Contexts.Tables.{Contexts}

-- which hooks are set
abbrev pub Hooks : Type 0
Hooks = HookSet

-- the start: none
abbrev pub hooks_start : Hooks
hooks_start = record { svc = false; dsp = false; int = false }

-- the base, and the tables of all objects that have a list or a queue
pub record Views : Type 0 where
  pub base : Base
  pub sem_flags : SemFlags
  pub mutexes : Mutexes
  pub mails : Mails
  pub pools : Pools
  pub clocks : Clocks
  pub contexts : Contexts
