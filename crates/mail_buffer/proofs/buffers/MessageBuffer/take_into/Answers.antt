use Rattle.std.proofs.Common.{◌≡◌, ◌-◌, Some, subst, sym, ◌∙◌}
use Rattle.std.specs.Prelude.{slice_get}
use Rattle.mail_buffer.specs.Cuts.{IsBuffer}
use Rattle.mail_buffer.proofs.Rings.{popped}
use Rattle.mail_buffer.proofs.buffers.MessageBuffer.take_into.Goals as goal

pub invariant_of-self-2 : goal.invariant_of-self-2
invariant_of-self-2 c =
    let first : slice_get c.self.inside.lengths.items 0 ≡ Some c.in-Some.length = sym c.pop_front.ensures.value ∙ c.in-Some.is in
    subst (λ s. IsBuffer c.self.inside.size c.self.inside.most (c.self.inside.taken - s) c.read_out.new.ring c.pop_front.new.self) (sym c.space_of.ensures)
    (popped c.self.inside.size c.self.inside.most c.self.inside.taken c.in-Some.length c.self.inside.bytes c.self.inside.lengths c.read_out.new.ring c.pop_front.new.self
    c.self.invariant first c.read_out.ensures.left c.pop_front.ensures.items)
