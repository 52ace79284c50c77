use Rattle.std.proofs.Common.{◌≡◌, ◌++◌, vec_capacity, take}
use Rattle.device_model.proofs.bytes.append.Given as goal

-- the bytes so far stand behind those of the list
abbrev pub invariant-bytes : goal.invariant-bytes
invariant-bytes l =
    (l.list.items ≡ l.fn.list.items ++ take l.place l.bytes) × (vec_capacity l.list ≡ vec_capacity l.fn.list)
