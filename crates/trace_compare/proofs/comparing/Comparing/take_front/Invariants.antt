-- So many bytes of the piece were taken, and none where it was over.
use Rattle.std.proofs.Common.{◌≡◌, ◌++◌, take}
use Rattle.trace_compare.specs.Comparisons.{IsOver}
use Rattle.trace_compare.proofs.comparing.Comparing.take_front.Given as goal

abbrev pub invariant-loop-at : goal.invariant-loop-at
invariant-loop-at l = record {
  front : l.self ≡ record l.fn.self { taken = l.fn.self.taken ++ take l.at l.piece; short = l.self.short };
  over : IsOver l.fn.self → (l.at ≡ 0) × IsOver l.self;
}
