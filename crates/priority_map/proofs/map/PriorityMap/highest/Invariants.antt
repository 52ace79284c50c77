use Rattle.std.proofs.Common.{◌≡◌, ◌+◌}
use Rattle.priority_map.proofs.Flagged.{NoneBefore}
use Rattle.priority_map.proofs.map.PriorityMap.highest.Given as goal

abbrev pub invariant-words : goal.invariant-words
invariant-words g l = NoneBefore l.self-inside.words l.index × (l.steps ≡ l.initial.steps + l.index)
