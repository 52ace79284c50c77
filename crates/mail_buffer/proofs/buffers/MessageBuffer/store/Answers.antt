use Rattle.std.proofs.Common.{◌≡◌, ◌+◌, ◌∷◌, ◌++◌, ◌≤◌, [], ap, arith, length, subst, sym, ◌∙◌}
use Rattle.object_model.specs.Mails.Tables.{MessageBuffer}
use Rattle.object_model.specs.Mails.Buffers.{space_of, space_taken}
use Rattle.mail_buffer.specs.Cuts.{IsBuffer, MayEnter, cut, space_by}
use Rattle.mail_buffer.proofs.Rings.{enters, space_of_cut, stored}
use Rattle.mail_buffer.proofs.buffers.MessageBuffer.store.Goals as goal

pub invariant_of-self : goal.invariant_of-self
invariant_of-self c =
    let k : MessageBuffer = record { order = c.self.inside.order; size = c.self.inside.size; most = c.self.inside.most; messages = cut c.self.inside.lengths.items c.self.inside.bytes.items } in
    let may : MayEnter k c.args.bytes.now = subst (λ (b : MessageBuffer). MayEnter b c.args.bytes.now) (sym c.self.view_is) c.requires in
    let fit = enters k c.args.bytes.now may in
    let space : space_taken k.messages ≡ space_by c.self.inside.lengths.items = space_of_cut c.self.inside.lengths.items c.self.inside.bytes.items c.self.invariant.all in
    let taken : space_by c.self.inside.lengths.items ≡ c.self.inside.taken = c.self.invariant.space in
    let room : space_taken k.messages + space_of (length c.args.bytes.now) ≤ k.size = fit.room in
    let done = stored c.self.inside.size c.self.inside.most c.self.inside.taken c.fill_from_slice.result c.self.inside.bytes c.self.inside.lengths c.fill_from_slice.new.self c.push_back.new.self c.args.bytes.now
    c.self.invariant fit.some fit.short (omega (arith, space, taken, room)) c.fill_from_slice.ensures.count c.fill_from_slice.ensures.items c.push_back.ensures.items in
    subst (λ s. IsBuffer c.self.inside.size c.self.inside.most (c.self.inside.taken + s) c.fill_from_slice.new.self c.push_back.new.self) (sym c.space_of.ensures) done.fits

pub returns : goal.returns
returns c =
    let k : MessageBuffer = record { order = c.self.inside.order; size = c.self.inside.size; most = c.self.inside.most; messages = cut c.self.inside.lengths.items c.self.inside.bytes.items } in
    let may : MayEnter k c.args.bytes.now = subst (λ (b : MessageBuffer). MayEnter b c.args.bytes.now) (sym c.self.view_is) c.requires in
    let fit = enters k c.args.bytes.now may in
    let space : space_taken k.messages ≡ space_by c.self.inside.lengths.items = space_of_cut c.self.inside.lengths.items c.self.inside.bytes.items c.self.invariant.all in
    let taken : space_by c.self.inside.lengths.items ≡ c.self.inside.taken = c.self.invariant.space in
    let room : space_taken k.messages + space_of (length c.args.bytes.now) ≤ k.size = fit.room in
    let done = stored c.self.inside.size c.self.inside.most c.self.inside.taken c.fill_from_slice.result c.self.inside.bytes c.self.inside.lengths c.fill_from_slice.new.self c.push_back.new.self c.args.bytes.now
    c.self.invariant fit.some fit.short (omega (arith, space, taken, room)) c.fill_from_slice.ensures.count c.fill_from_slice.ensures.items c.push_back.ensures.items in
    ap (λ messages. record k { messages = messages }) done.cuts ∙ ap (λ (b : MessageBuffer). record b { messages = b.messages ++ c.args.bytes.now ∷ [] }) c.self.view_is
