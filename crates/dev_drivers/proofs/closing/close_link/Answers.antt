use Rattle.dev_drivers.specs.Links.{of_device}
use Rattle.std.proofs.Common.{◌∙◌, ap, length, map, refl, rules, subst, sym, List, ◌≡◌, ◌++◌, arith}
use Rattle.rtrb.specs.Ring.{known_items, received}
use Rattle.device_model.specs.declared.messages.Message.{Message}
use Rattle.device_model.specs.declared.messages.Ending.{Ending}
use Rattle.fleet_model.specs.Fleets.{counted}
use Rattle.rtrb.specs.Ring.{sent}
use Rattle.std.proofs.lemmas.List.{append-nil}
use Rattle.dev_drivers.proofs.Closes.{counted_all, counted_few, ended_by, taken_count}
use Rattle.dev_drivers.proofs.closing.close_link.Goals as goal

pub invariant_of-result : goal.invariant_of-result
invariant_of-result c =
    let taken = c.taken_so_far-taken.ensures ∙ (taken_count c.args.link c.args.log c.requires.ended ∙ ap (λ (l : List Message). length l) (sym c.slots_beside-left.ensures.looked.1)) in
    let few = counted_few c.taken_so_far-taken.result (omega arith) ∙ ap (λ n. counted n) taken in
    record {
      handed = counted_all _ _ _ (received c.slots_beside-left.new.self) (known_items c.slots_beside-left.new.self) _ (search rules) c.slots_beside-left.ensures.value few c.slots_beside-left.ensures.fifo;
      taken = few;
      sent = counted_all _ _ _ (received c.slots_beside-unseen.new.self) (known_items c.slots_beside-unseen.new.self) _ (search rules) c.slots_beside-unseen.ensures.value
          (c.args.link.counted ∙ ap (λ (l : List Ending). counted (length l)) (sym c.slots_beside-unseen.ensures.looked.1)) c.slots_beside-unseen.ensures.fifo;
      received = c.args.link.counted ∙ ap (λ (l : List Ending). counted (length l)) (sym c.slots_beside-unseen.ensures.looked.1);
    }

pub returns : goal.returns
returns c = record {
  kind = refl;
  handed = c.slots_beside-left.ensures.producer.1 ∙ (sym (append-nil (sent c.args.link.to)) ∙ ap (λ (l : List Message). sent c.args.link.to ++ l) (sym c.requires.none));
  received = ap (λ (l : List Ending). map (of_device c.args.link.device) l) c.slots_beside-unseen.ensures.looked.1;
  ended = ended_by c.args.link.device c.args.link.kind c.args.link c.args.log _ _ _ _ _ _ c.requires.ended refl refl
      c.slots_beside-left.ensures.looked.1 c.slots_beside-left.ensures.fifo c.slots_beside-unseen.ensures.producer.1 c.slots_beside-unseen.ensures.fifo;
}
