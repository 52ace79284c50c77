-- Interrupt handlers, and subsystems with their services: the bodies by number, and how deep each task is in nested services.
use Rattle.std.specs.Prelude.{ℕ, ◌+◌, ◌-◌, ◌==◌, Bool, not, if◌then◌else◌, List, replicate, slice_set, slice_index}

pub record Contexts : Type 0 where
  pub handlers : List ℕ  -- by interrupt number, 256 slots: the body of its handler, or 0
  pub services : List ℕ  -- by the number of the subsystem, 256 slots: the body of its service, or 0
  pub depths : List ℕ  -- by task, 256 slots: how many services it has entered that haven't returned

-- the start: no handler and no service
abbrev pub contexts_start : Contexts
contexts_start = record { handlers = replicate 256 0; services = replicate 256 0; depths = replicate 256 0 }

-- the most services that a task may be in at once
abbrev pub most_nestings : ℕ
most_nestings = 8

-- the body of the handler of an interrupt, or 0
abbrev pub handler_of : Contexts → ℕ → ℕ
handler_of c number = slice_index c.handlers number

abbrev pub with_handler : Contexts → ℕ → ℕ → Contexts
with_handler c number body = record c { handlers = slice_set c.handlers number body }

-- the body of the service of a subsystem, or 0
abbrev pub service_of : Contexts → ℕ → ℕ
service_of c number = slice_index c.services number

abbrev pub with_service : Contexts → ℕ → ℕ → Contexts
with_service c number body = record c { services = slice_set c.services number body }

-- whether a subsystem is defined
abbrev pub has_ssy : Contexts → ℕ → Bool
has_ssy c number = not (service_of c number == 0)

-- how many services a task is in
abbrev pub depth_in : Contexts → ℕ → ℕ
depth_in c t = slice_index c.depths t

abbrev pub with_depth : Contexts → ℕ → ℕ → Contexts
with_depth c t depth = record c { depths = slice_set c.depths t depth }

-- a task enters one service more
abbrev pub deeper : Contexts → ℕ → Contexts
deeper c t = with_depth c t (depth_in c t + 1)

-- a task leaves the service that it entered last, or all of them
unfoldable pub left : Contexts → ℕ → Bool → Contexts
left c t all = with_depth c t (if all then 0 else depth_in c t - 1)
