-- The set of labels beside the body with one more label.
use Rattle.std.proofs.Common.{◌∙◌}
use Rattle.tk_raw.proofs.OpenBodies.{label_held}
use Rattle.tk_raw.proofs.open_body.OpenBody.with_label.Goals as goal

pub invariant_of-result : goal.invariant_of-result
invariant_of-result c =
    label_held c.self.inside.labels c.insert.new.self c.in_ok-bytes.bytes c.args.name c.self.inside.body.items c.push.new.self c.self.invariant c.in_ok-insert.ensures.updates (c.in_ok-bytes.ensures.items_if_clones_equal (λ x y same. same) ∙ c.as_bytes.ensures.value) c.in_ok-push.ensures.grown
