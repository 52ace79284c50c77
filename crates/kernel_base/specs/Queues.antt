-- Who stands behind whom.
use Rattle.std.specs.Prelude.{ℕ, ◌==◌, if◌then◌else◌, List, [], ◌∷◌, Option, filter, slice_get}
use Rattle.kernel_model.specs.Tasks.Base.{Base, current, is_ready_with}

-- the IDs that stand behind one in an order
abbrev pub behind : ℕ → List ℕ → List ℕ
behind id [] = []
behind id (first ∷ rest) = if first == id then rest else behind id rest

-- the ready task behind one among those of its priority
abbrev pub next_ready : Base → ℕ → Option ℕ
next_ready b t = slice_get (filter (is_ready_with b (current b t)) (behind t b.order)) 0
