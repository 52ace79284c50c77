-- How much is left to serve: each wait weighs one, and a wait for the acceptance of a request two, since its task may have to
-- be served again once the request has ended.
use Rattle.std.specs.Prelude.{ℕ, ◌+◌, nat_le, nat_lt, ◌&&◌, if◌then◌else◌, List, [], ◌∷◌, Option, Some, None}
use Rattle.tk_types.specs.declared.task.Phase.{Phase}
use Rattle.tk_types.specs.declared.task.Phase.TheVariants.{Waiting}
use Rattle.tk_types.specs.declared.task.Task.{Task}
use Rattle.kernel_model.specs.Tasks.Base.{Base}

-- the weight of a wait for an object; those of acceptances stand in a row
abbrev pub weight_of : ℕ → ℕ
weight_of object = if nat_le 576 object && nat_lt object 584 then 2 else 1

abbrev pub phase_weight : Phase → ℕ
phase_weight (Waiting object) = weight_of object
phase_weight _ = 0

abbrev pub row_weight : Option Task → ℕ
row_weight None = 0
row_weight (Some k) = phase_weight k.phase

-- the weight of a table of tasks
abbrev pub weights : List (Option Task) → ℕ
weights [] = 0
weights (slot ∷ slots) = row_weight slot + weights slots

abbrev pub weight : Base → ℕ
weight b = weights b.tasks
