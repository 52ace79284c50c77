-- What is there already, and what is left, give all labels.
use Rattle.tk_script.proofs.Loops.{labels_go_on, labels_end, labels_grow, places_grow}
use Rattle.tk_script.proofs.lines.labels_of.Goals as goal

pub lines-preserved : goal.lines-preserved
lines-preserved c = record {
  left = rw c.place_behind-place.ensures (labels_go_on _ _ _ _ _ _ _ c.lines-test.true c.item-item.is c.lines.invariant.left c.in_ok-labels.ensures);
  low = rw c.place_behind-place.ensures (places_grow _ _ _ c.lines.invariant.low);
  within = labels_grow _ _ _ _ _ c.in_ok-labels.ensures c.lines.invariant.within;
}

pub returns-clause-value : goal.returns-clause-value
returns-clause-value c = labels_end _ _ _ _ _ c.lines-test.false c.lines.invariant.left
