-- The place of the new label's name, unless it stood there before.
use Rattle.std.proofs.Common.{subst, List, ℕ}
use Rattle.tk_script.specs.LabelPlaces.{TakesName}
use Rattle.tk_script.proofs.LabelPlaces.{label_held}
use Rattle.tk_script.proofs.labels.Labels.with_label.Goals as goal

pub invariant_of-result : goal.invariant_of-result
invariant_of-result c = label_held c.self.inside.places c.in_ok-places.places c.self.inside.labels c.push.new.self c.args.label c.len-place.result c.self.invariant (subst (λ (w : List ℕ). TakesName c.self.inside.places w c.len-place.result c.in_ok-places.places) c.as_bytes.ensures.value c.in_ok-places.ensures) c.len-place.ensures c.in_ok-push.ensures.grown
