-- The kinds of objects that can serve waiters, each by its name, and what a serving leaves.
use Rattle.std.specs.Prelude.{◌≡◌, Bool, List, [], ◌∷◌, Option, unwrap_or}
use Rattle.std.specs.Option.{is_some, option_map}
use Rattle.kernel_model.specs.SemFlags.Tables.{serve_sem_flag}
use Rattle.object_model.specs.Mutexes.Tables.{serve_mutexes}
use Rattle.object_model.specs.Mails.Boxes.{serve_mailboxes}
use Rattle.object_model.specs.Mails.Buffers.{serve_buffers}
use Rattle.object_model.specs.Pools.Fixed.{serve_fixed_pools}
use Rattle.object_model.specs.Pools.Variable.{serve_variable_pools}
use Rattle.device_model.specs.Devices.Endings.{DevParts}
use Rattle.device_model.specs.Devices.Servings.{serve_acceptances, serve_closes, serve_endings, serve_suspension}
use Rattle.machine_model.specs.States.Objects.{Parts, dev_parts, mail_parts, pool_parts, with_devices, with_mails, with_mutexes, with_pools, with_sem_flags}
use Rattle.machine_model.specs.States.State.{State, parts_of, with_parts}

abbrev pub sem_flags : Parts → Option Parts
sem_flags p = option_map (with_sem_flags p) (serve_sem_flag p.base p.objects.sem_flags)

abbrev pub mailboxes : Parts → Option Parts
mailboxes p = option_map (with_mails p) (serve_mailboxes (mail_parts p))

abbrev pub mutexes : Parts → Option Parts
mutexes p = option_map (with_mutexes p) (serve_mutexes p.base p.objects.mutexes)

abbrev pub buffers : Parts → Option Parts
buffers p = option_map (with_mails p) (serve_buffers (mail_parts p))

abbrev pub fixed_pools : Parts → Option Parts
fixed_pools p = option_map (with_pools p) (serve_fixed_pools (pool_parts p))

abbrev pub variable_pools : Parts → Option Parts
variable_pools p = option_map (with_pools p) (serve_variable_pools (pool_parts p))

abbrev pub of_devices : (DevParts → Option DevParts) → Parts → Option Parts
of_devices serve p = option_map (with_devices p) (serve (dev_parts p))

abbrev pub acceptances : Parts → Option Parts
acceptances = of_devices serve_acceptances

abbrev pub endings : Parts → Option Parts
endings = of_devices serve_endings

abbrev pub closes : Parts → Option Parts
closes = of_devices serve_closes

abbrev pub suspension : Parts → Option Parts
suspension = of_devices serve_suspension

-- the kinds of waits at devices, in the order in which settling looks at them
abbrev pub at_devices : List (Parts → Option Parts)
at_devices = acceptances ∷ endings ∷ closes ∷ suspension ∷ []

-- the kinds behind message buffers
abbrev pub behind_buffers : List (Parts → Option Parts)
behind_buffers = fixed_pools ∷ variable_pools ∷ at_devices

-- and those behind mailboxes
abbrev pub behind_boxes : List (Parts → Option Parts)
behind_boxes = mutexes ∷ buffers ∷ behind_buffers

-- the state after a serving of a kind, or as it was
abbrev pub served_by : (Parts → Option Parts) → State → State
served_by kind st = with_parts st (unwrap_or (kind (parts_of st)) (parts_of st))

-- a kind served one where it can, and else changed nothing
pub record Serves (kind : Parts → Option Parts) (old now : State) (some : Bool) : Type 0 where
  pub served : some ≡ is_some (kind (parts_of old))
  pub left : now ≡ served_by kind old
