use Rattle.std.proofs.Common.{◌≡◌, ◌≤◌, [], length, drop}
use Rattle.tk_script.specs.Resolving.{labels_from}
use Rattle.tk_script.proofs.lines.labels_of.Given as goal

abbrev pub invariant-lines : goal.invariant-lines
invariant-lines l = record {
  left : labels_from l.place (drop l.item-index l.items) l.labels ≡ labels_from 0 l.items [];
  low : l.place ≤ l.item-index;
  within : length l.labels ≤ l.item-index;
}
