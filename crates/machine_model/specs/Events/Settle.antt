-- Settling, which follows each event: changed priorities are taken over, and waiters are served, until none can be.
use Rattle.std.specs.Prelude.{ℕ, zero, suc, Option, Some, None}
use Rattle.tk_types.specs.declared.run.Mode.{Mode}
use Rattle.tk_types.specs.declared.run.Mode.TheVariants as modes
use Rattle.object_model.specs.Mutexes.Tables.{Mutexes, free_last}
use Rattle.object_model.specs.Mutexes.Priority.{resettle}
use Rattle.device_model.specs.Devices.Handing.{hand_over}
use Rattle.machine_model.specs.States.Objects.{Parts, serve_object}

-- changed priorities are taken over
abbrev pub refreshed : Parts → Parts
refreshed p = record p { base = resettle p.base p.objects.mutexes }

-- waiters are served one after another, at most so many, and after each one changed priorities are taken over
unfoldable pub served_within : ℕ → Parts → Parts
served_within zero p = p
served_within (suc left) p =
    elim (serve_object p) as (λ _. Parts) [
      | None ↦ p
      | Some served ↦ served_within left (refreshed served)
    ]

-- in free mode requests go to the drivers that have none
abbrev pub handed : Mode → Parts → Parts
handed modes.Sync p = p
handed modes.Free p = record p { objects = record p.objects { devices = hand_over p.base p.objects.devices } }

-- settling: changed priorities are taken over, and waiters are served until none can be; then requests go to drivers. Each
-- serving ends a wait, or moves one from the acceptance of a request to its ending, and no more tasks wait than have a slot;
-- so twice as many servings are enough
unfoldable pub settle : Mode → Parts → Parts
settle mode p = handed mode (served_within 512 (refreshed p))

-- a mutex was freed: the table takes it
abbrev pub with_freed : Parts → Mutexes → Parts
with_freed p mutexes = record p { objects = record p.objects { mutexes = mutexes } }

-- a task that ended frees its mutexes, the one locked last first, at most so many, and all settles after each
unfoldable pub freed_within : ℕ → Mode → ℕ → Parts → Parts
freed_within zero mode t p = p
freed_within (suc left) mode t p =
    elim (free_last p.base p.objects.mutexes t) as (λ _. Parts) [
      | None ↦ p
      | Some mutexes ↦ freed_within left mode t (settle mode (with_freed p mutexes))
    ]

-- a task that ended frees all of its mutexes; there are no more than 64
abbrev pub freed : Mode → ℕ → Parts → Parts
freed mode t p = freed_within 64 mode t p
