-- Lists of IDs: which objects of a kind there are, and how a list stands in the script's memory.
use Rattle.std.specs.Prelude.{ℕ, Bool, List, filter, take}
use Rattle.std.specs.Int.{w32, to_le_bytes}
use Rattle.std.specs.List.{flat_map, range_with_len}
use Rattle.std.specs.Option.{is_some}
use Rattle.kernel_model.specs.Tasks.Base.{Base, task_at}
use Rattle.kernel_model.specs.SemFlags.Tables.{SemFlags, sem_at, flag_at}
use Rattle.object_model.specs.Mails.Bytes.{with_bytes}

-- the IDs that exist, of those from 1 to the greatest, in rising order
abbrev pub existing : (ℕ → Bool) → ℕ → List ℕ
existing exists greatest = filter exists (range_with_len 1 greatest)

abbrev pub has_task : Base → ℕ → Bool
has_task b t = is_some (task_at b t)

abbrev pub has_sem : SemFlags → ℕ → Bool
has_sem s id = is_some (sem_at s id)

abbrev pub has_flag : SemFlags → ℕ → Bool
has_flag s id = is_some (flag_at s id)

-- IDs one behind the other, each as four bytes, the least first
abbrev pub id_bytes : List ℕ → List ℕ
id_bytes ids = flat_map (to_le_bytes w32) ids

-- the memory with the first IDs of a list written from an address on, at most so many
abbrev pub with_ids : List ℕ → ℕ → ℕ → List ℕ → List ℕ
with_ids memory address most ids = with_bytes memory address (id_bytes (take most ids))
