-- The objects of all families beside the base, and serving over them.
use Rattle.std.specs.Prelude.{ℕ, List, [], ◌∷◌, Option, Some, None}
use Rattle.std.specs.Option.{option_map}
use Rattle.tk_types.specs.declared.script.Script.{Script}
use Rattle.kernel_model.specs.Tasks.Base.{Base}
use Rattle.kernel_model.specs.SemFlags.Tables.{SemFlags, SemFlagParts, sem_flags_start, serve_sem_flag}
use Rattle.object_model.specs.Mutexes.Tables.{Mutexes, MutexParts, mutexes_start, serve_mutexes}
use Rattle.object_model.specs.Mails.Tables.{Mails, MailParts, mails_start}
use Rattle.object_model.specs.Mails.Boxes.{serve_mailboxes}
use Rattle.object_model.specs.Mails.Buffers.{serve_buffers}
use Rattle.object_model.specs.Pools.Tables.{Pools, PoolParts, pools_start}
use Rattle.object_model.specs.Pools.Fixed.{serve_fixed_pools}
use Rattle.object_model.specs.Pools.Variable.{serve_variable_pools}
use Rattle.context_model.specs.Clocks.Tables.{Clocks, clocks_start}
use Rattle.context_model.specs.Contexts.Tables.{Contexts, contexts_start}
use Rattle.device_model.specs.Devices.Tables.{Devices, devices_start}
use Rattle.device_model.specs.Devices.Endings.{DevParts}
use Rattle.device_model.specs.Devices.Servings.{serve_acceptances, serve_endings, serve_closes, serve_suspension}

pub record Objects : Type 0 where
  pub sem_flags : SemFlags  -- semaphores and event flags
  pub mutexes : Mutexes
  pub mails : Mails  -- mailboxes and message buffers
  pub pools : Pools  -- fixed and variable memory pools
  pub clocks : Clocks  -- system time, cyclic and alarm handlers
  pub contexts : Contexts  -- interrupt handlers, subsystems, nesting of services
  pub devices : Devices

-- what settling may change: the base, the objects, and the script's memory
pub record Parts : Type 0 where
  pub base : Base
  pub objects : Objects
  pub memory : List ℕ

-- at the start there are the script's devices, and no other object
abbrev pub objects_start : Script → Objects
objects_start script = record {
  sem_flags = sem_flags_start;
  mutexes = mutexes_start;
  mails = mails_start;
  pools = pools_start;
  clocks = clocks_start;
  contexts = contexts_start;
  devices = devices_start script;
}

-- ---- a family's part of it all, and back

abbrev pub with_sem_flags : Parts → SemFlagParts → Parts
with_sem_flags p done = record p { base = done.base; objects = record p.objects { sem_flags = done.table } }

abbrev pub with_mutexes : Parts → MutexParts → Parts
with_mutexes p done = record p { base = done.base; objects = record p.objects { mutexes = done.table } }

abbrev pub mail_parts : Parts → MailParts
mail_parts p = record { base = p.base; table = p.objects.mails; memory = p.memory }

abbrev pub with_mails : Parts → MailParts → Parts
with_mails p done = record { base = done.base; objects = record p.objects { mails = done.table }; memory = done.memory }

abbrev pub pool_parts : Parts → PoolParts
pool_parts p = record { base = p.base; table = p.objects.pools }

abbrev pub with_pools : Parts → PoolParts → Parts
with_pools p done = record p { base = done.base; objects = record p.objects { pools = done.table } }

abbrev pub dev_parts : Parts → DevParts
dev_parts p = record { base = p.base; table = p.objects.devices; mails = p.objects.mails; memory = p.memory }

abbrev pub with_devices : Parts → DevParts → Parts
with_devices p done = record {
  base = done.base;
  objects = record p.objects { mails = done.mails; devices = done.table };
  memory = done.memory;
}

-- ---- serving

-- one waiter of the first object of a kind that can serve one is served, for each kind that has waiters, in their order
abbrev pub kinds : List (Parts → Option Parts)
kinds =
    (λ p. option_map (with_sem_flags p) (serve_sem_flag p.base p.objects.sem_flags))
    ∷ (λ p. option_map (with_mails p) (serve_mailboxes (mail_parts p)))
    ∷ (λ p. option_map (with_mutexes p) (serve_mutexes p.base p.objects.mutexes))
    ∷ (λ p. option_map (with_mails p) (serve_buffers (mail_parts p)))
    ∷ (λ p. option_map (with_pools p) (serve_fixed_pools (pool_parts p)))
    ∷ (λ p. option_map (with_pools p) (serve_variable_pools (pool_parts p)))
    ∷ (λ p. option_map (with_devices p) (serve_acceptances (dev_parts p)))
    ∷ (λ p. option_map (with_devices p) (serve_endings (dev_parts p)))
    ∷ (λ p. option_map (with_devices p) (serve_closes (dev_parts p)))
    ∷ (λ p. option_map (with_devices p) (serve_suspension (dev_parts p)))
    ∷ []

-- the first of these servings that finds a waiter
unfoldable pub first_serving : List (Parts → Option Parts) → Parts → Option Parts
first_serving [] p = None
first_serving (kind ∷ later) p =
    elim (kind p) as (λ _. Option Parts) [
      | Some served ↦ Some served
      | None ↦ first_serving later p
    ]

-- the first object by kind and ID that can serve a waiter serves one
unfoldable pub serve_object : Parts → Option Parts
serve_object p = first_serving kinds p
