use Rattle.std.proofs.Common.{false, true, ap, refl, ◌∙◌, length}
use Rattle.fleet_model.specs.Fleets.{Fleet}
use Rattle.way_lemmas.proofs.Fleets.{drop_many}
use Rattle.tk_run.proofs.FleetTurns.{drop_breaks, dropped_goes_on, offer_fails, offer_taken, offered, still_served, taken_answers, taken_may}
use Rattle.tk_run.proofs.fleet_turn.DrivenRun.take_in.Goals as goal

pub pass_on-requires-clause-places : goal.pass_on-requires-clause-places
pass_on-requires-clause-places g c =
    let r = c.requires.going in
    let is = offered _ _ _ _ _ _ _ true c.offer.ensures c.in-Ok-true.is c.in-Ok-true.field-0-test in
    taken_may _ _ _ r.so _ _ (offer_taken _ _ _ r.so _ _ _ _ c.args.ending r.run r.going is)

pub returns-in-Ok-true-clause-answers : goal.returns-in-Ok-true-clause-answers
returns-in-Ok-true-clause-answers g c = λ so going.
    let run = c.requires.going.run in
    let is = offered _ _ _ _ _ _ _ true c.offer.ensures c.in-Ok-true.is c.in-Ok-true.field-0-test in
    taken_answers _ _ _ so c.offer.new.machine _ c.offer.new.fleet _ _ _ c.pass_on.result run (offer_taken _ _ _ so _ _ _ _ c.args.ending run going is) c.pass_on.ensures.written c.pass_on.ensures.machine c.pass_on.ensures.hands
    c.pass_on.ensures.unhanded

pub returns-in-Ok-false-clause-answers : goal.returns-in-Ok-false-clause-answers
returns-in-Ok-false-clause-answers g c = λ so going.
    let is = offered _ _ _ _ _ _ _ false c.offer.ensures c.in-Ok-false.is c.in-Ok-false.field-0-test in
    dropped_goes_on _ _ _ so _ _ _ _ c.args.ending _ going is.1 is.2

pub returns-in-Ok-false-clause-served : goal.returns-in-Ok-false-clause-served
returns-in-Ok-false-clause-served g c =
    let is = offered _ _ _ _ _ _ _ false c.offer.ensures c.in-Ok-false.is c.in-Ok-false.field-0-test in
    still_served c.args.self.now.served _ c.args.self.now.fleet c.offer.new.fleet c.requires.served refl
    (ap (λ (f : Fleet). length f.channels) is.2 ∙ drop_many c.args.self.now.fleet c.args.ending.device)

pub returns-in-Err-clause-answers : goal.returns-in-Err-clause-answers
returns-in-Err-clause-answers g c = λ so going.
    drop_breaks _ _ _ so _ c.args.self.now.fleet _ c.args.ending _ c.requires.going.run going (offer_fails _ _ _ _ _ _ c.in-Err.field-0 c.offer.ensures c.in-Err.is)
