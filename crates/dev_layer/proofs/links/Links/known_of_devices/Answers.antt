use Rattle.std.proofs.Common.{◌≡◌, ◌≤◌, ℕ, ap, length, subst, sym, ◌∙◌}
use Rattle.std.specs.Prelude.{filter}
use Rattle.kernel_model.specs.Words.Orders.{entry}
use Rattle.dev_layer.specs.Messages.{LinkTable, is_for, with_out}
use Rattle.dev_layer.proofs.Attached.{entry_attached, length_attached}
use Rattle.dev_layer.proofs.links.Links.known_of_devices.Goals as goal

pub returns-clause-few : goal.returns-clause-few
returns-clause-few c =
    let all : length c.self.inside.slots.items ≡ length c.args.self.now.links = sym (length_attached c.self.inside.slots.items 0 c.self.inside.out.items) ∙ ap (λ (l : LinkTable). length l.links) c.self.view_is in
    subst (λ (n : ℕ). n ≤ 9) all c.self.invariant.few

pub returns-clause-unnamed : goal.returns-clause-unnamed
returns-clause-unnamed c =
    ap (λ (l : LinkTable). entry l.links 0) (sym c.self.view_is)
    ∙ entry_attached c.self.inside.slots.items 0 c.self.inside.out.items 0
    ∙ ap (with_out (filter (is_for 0) c.self.inside.out.items)) c.self.invariant.unnamed
