use Rattle.std.proofs.Common.{Err, None, Ok, Some, refl}
use Rattle.run_model.specs.SoFar.{after_need}
use Rattle.turn_lemmas.proofs.Moves.{polls_going}
use Rattle.way_lemmas.proofs.Fleets.{polled_many, waited_many}
use Rattle.tk_run.proofs.FleetTurns.{breaks_here, breaks_so, own_going, own_step, step_breaks, step_ends, step_goes_on, step_waits, stepped, stepped_may, still_served, waited_going, waits_breaks, waits_on}
use Rattle.tk_run.proofs.fleet_turn.DrivenRun.turn.Goals as goal

-- ---- an ending was there

pub take_in-requires-clause-going : goal.take_in-requires-clause-going
take_in-requires-clause-going g c =
    let r = c.requires.going in
    record { run = r.run; so = r.so; going = polls_going _ _ _ r.so _ _ _ (Some c.in-Some.ending) c.in-Some.ensures.polled c.in-Some.ensures.of_fleet r.run.low r.run.high r.going }

pub take_in-requires-clause-served : goal.take_in-requires-clause-served
take_in-requires-clause-served g c =
    still_served c.args.self.now.served _ c.args.self.now.fleet c.poll.new.self c.requires.served refl (polled_many _ _ (Some c.in-Some.ending) c.in-Some.ensures.polled)

pub returns-in_err-take_in-clause-answers : goal.returns-in_err-take_in-clause-answers
returns-in_err-take_in-clause-answers g c = λ so going.
    let run = c.requires.going.run in
    breaks_so _ _ _ so _ _ _ _ _ c.from_residual.result c.from_residual.ensures.1
    (c.in_err-take_in.ensures.answers so (polls_going _ _ _ so _ _ _ (Some c.in-Some.ending) c.in-Some.ensures.polled c.in-Some.ensures.of_fleet run.low run.high going))

pub returns-in-Some-clause-answers : goal.returns-in-Some-clause-answers
returns-in-Some-clause-answers g c = λ so going.
    let run = c.requires.going.run in
    c.in_ok-take_in.ensures.answers so (polls_going _ _ _ so _ _ _ (Some c.in-Some.ending) c.in-Some.ensures.polled c.in-Some.ensures.of_fleet run.low run.high going)

-- ---- a step was done

pub returns-in_default-step-clause-answers : goal.returns-in_default-step-clause-answers
returns-in_default-step-clause-answers g c = λ so going.
    let run = c.requires.going.run in
    breaks_here _ _ _ so None 1 c.args.self.now.machine c.poll.new.self _ run (polls_going _ _ _ so _ _ _ None c.in_default.ensures.polled c.in_default.ensures.of_fleet run.low run.high going)

pub returns-in_default-step-clause-served : goal.returns-in_default-step-clause-served
returns-in_default-step-clause-served g c = still_served c.args.self.now.served _ c.args.self.now.fleet c.poll.new.self c.requires.served refl (polled_many _ _ None c.in_default.ensures.polled)

pub pass_on-requires-clause-places : goal.pass_on-requires-clause-places
pass_on-requires-clause-places g c =
    let r = c.requires.going in
    let polled = polls_going _ _ _ r.so _ _ _ None c.in_default.ensures.polled c.in_default.ensures.of_fleet r.run.low r.run.high r.going in
    stepped_may _ _ _ r.so _ _ _ (stepped _ _ _ r.so c.args.self.now.machine c.step.new.self c.poll.new.self c.in-Ok.pace r.run polled c.in-Ok.ensures.stepped c.in-Ok.ensures.pace)

pub pass_on-requires-clause-served : goal.pass_on-requires-clause-served
pass_on-requires-clause-served g c = still_served c.args.self.now.served _ c.args.self.now.fleet c.poll.new.self c.requires.served refl (polled_many _ _ None c.in_default.ensures.polled)

pub returns-in_err-pass_on-clause-answers : goal.returns-in_err-pass_on-clause-answers
returns-in_err-pass_on-clause-answers g c = λ so going.
    let run = c.requires.going.run in
    let polled = polls_going _ _ _ so _ _ _ None c.in_default.ensures.polled c.in_default.ensures.of_fleet run.low run.high going in
    let step = stepped _ _ _ so c.args.self.now.machine c.step.new.self c.poll.new.self c.in-Ok.pace run polled c.in-Ok.ensures.stepped c.in-Ok.ensures.pace in
    breaks_so _ _ _ so _ _ _ _ _ c.from_residual-in_err-pass_on.result c.from_residual-in_err-pass_on.ensures.1
    (step_breaks _ _ _ so c.step.new.self c.poll.new.self c.pass_on.new.self.fleet c.in-Ok.pace _ _ _ run step c.in_err-pass_on.ensures.written c.in_err-pass_on.ensures.unhanded)

pub returns-in-Went-clause-answers : goal.returns-in-Went-clause-answers
returns-in-Went-clause-answers g c = λ so going.
    let run = c.requires.going.run in
    let polled = polls_going _ _ _ so _ _ _ None c.in_default.ensures.polled c.in_default.ensures.of_fleet run.low run.high going in
    let step = stepped _ _ _ so c.args.self.now.machine c.step.new.self c.poll.new.self c.in-Ok.pace run polled c.in-Ok.ensures.stepped c.in-Ok.ensures.pace in
    step_goes_on _ _ _ so c.step.new.self _ c.poll.new.self _ c.in-Ok.pace _ _ step c.in_ok-pass_on.ensures.written c.in_ok-pass_on.ensures.hands c.in_ok-pass_on.ensures.machine c.in-Went.is

pub returns-in-Over-clause-answers : goal.returns-in-Over-clause-answers
returns-in-Over-clause-answers g c = λ so going.
    let run = c.requires.going.run in
    let polled = polls_going _ _ _ so _ _ _ None c.in_default.ensures.polled c.in_default.ensures.of_fleet run.low run.high going in
    let step = stepped _ _ _ so c.args.self.now.machine c.step.new.self c.poll.new.self c.in-Ok.pace run polled c.in-Ok.ensures.stepped c.in-Ok.ensures.pace in
    step_ends _ _ _ so c.step.new.self c.poll.new.self _ c.in-Ok.pace c.in-Over.end _ _ step c.in_ok-pass_on.ensures.written c.in_ok-pass_on.ensures.hands c.in-Over.is

-- ---- an ending is needed, and was waited for

pub take_in-requires-in-NeedsEnding-clause-going : goal.take_in-requires-in-NeedsEnding-clause-going
take_in-requires-in-NeedsEnding-clause-going g c =
    let r = c.requires.going in
    let polled = polls_going _ _ _ r.so _ _ _ None c.in_default.ensures.polled c.in_default.ensures.of_fleet r.run.low r.run.high r.going in
    let step = stepped _ _ _ r.so c.args.self.now.machine c.step.new.self c.poll.new.self c.in-Ok.pace r.run polled c.in-Ok.ensures.stepped c.in-Ok.ensures.pace in
    let w = step_waits _ _ _ r.so c.step.new.self _ c.poll.new.self _ c.in-Ok.pace _ _ step c.in_ok-pass_on.ensures.written c.in_ok-pass_on.ensures.hands c.in_ok-pass_on.ensures.machine c.in-NeedsEnding.is in
    own_going _ _ _ (after_need r.so w.waiting) (Some c.wait-ending.result) 1 c.wait-ending.new.self.machine c.wait-ending.new.self.fleet r.run
    (waited_going _ _ _ (after_need r.so w.waiting) _ _ _ _ _ w.going c.wait-ending.ensures.waited c.wait-ending.ensures.of_fleet c.wait-ending.ensures.machine)

pub take_in-requires-in-NeedsEnding-clause-served : goal.take_in-requires-in-NeedsEnding-clause-served
take_in-requires-in-NeedsEnding-clause-served g c =
    still_served c.pass_on.new.self.served _ c.pass_on.new.self.fleet c.wait-ending.new.self.fleet c.pass_on.ensures.served c.wait-ending.ensures.served (waited_many _ _ (Some c.wait-ending.result) c.wait-ending.ensures.waited)

pub returns-in_err-take_in-in-NeedsEnding-clause-answers : goal.returns-in_err-take_in-in-NeedsEnding-clause-answers
returns-in_err-take_in-in-NeedsEnding-clause-answers g c = λ so going.
    let run = c.requires.going.run in
    let polled = polls_going _ _ _ so _ _ _ None c.in_default.ensures.polled c.in_default.ensures.of_fleet run.low run.high going in
    let step = stepped _ _ _ so c.args.self.now.machine c.step.new.self c.poll.new.self c.in-Ok.pace run polled c.in-Ok.ensures.stepped c.in-Ok.ensures.pace in
    let w = step_waits _ _ _ so c.step.new.self _ c.poll.new.self _ c.in-Ok.pace _ _ step c.in_ok-pass_on.ensures.written c.in_ok-pass_on.ensures.hands c.in_ok-pass_on.ensures.machine c.in-NeedsEnding.is in
    let next = waited_going _ _ _ (after_need so w.waiting) _ _ _ _ _ w.going c.wait-ending.ensures.waited c.wait-ending.ensures.of_fleet c.wait-ending.ensures.machine in
    breaks_so _ _ _ so c.take_in-in-NeedsEnding.new.self.machine _ _ _ c.in_err-take_in-in-NeedsEnding.field-0.0 c.from_residual-in_err-take_in-in-NeedsEnding.result c.from_residual-in_err-take_in-in-NeedsEnding.ensures.1
    (waits_breaks _ _ _ so w.waiting c.in_err-take_in-in-NeedsEnding.field-0.0 _ _ _ _ w.written
    (own_step _ _ _ (after_need so w.waiting) c.wait-ending.result c.wait-ending.new.self.machine c.take_in-in-NeedsEnding.new.self.machine c.wait-ending.new.self.fleet _ _ _ (Err c.in_err-take_in-in-NeedsEnding.field-0.0) next
    (λ on. c.in_err-take_in-in-NeedsEnding.ensures.answers (after_need so w.waiting) on)))

pub returns-in_ok-take_in-in-NeedsEnding-clause-answers : goal.returns-in_ok-take_in-in-NeedsEnding-clause-answers
returns-in_ok-take_in-in-NeedsEnding-clause-answers g c = λ so going.
    let run = c.requires.going.run in
    let polled = polls_going _ _ _ so _ _ _ None c.in_default.ensures.polled c.in_default.ensures.of_fleet run.low run.high going in
    let step = stepped _ _ _ so c.args.self.now.machine c.step.new.self c.poll.new.self c.in-Ok.pace run polled c.in-Ok.ensures.stepped c.in-Ok.ensures.pace in
    let w = step_waits _ _ _ so c.step.new.self _ c.poll.new.self _ c.in-Ok.pace _ _ step c.in_ok-pass_on.ensures.written c.in_ok-pass_on.ensures.hands c.in_ok-pass_on.ensures.machine c.in-NeedsEnding.is in
    let next = waited_going _ _ _ (after_need so w.waiting) _ _ _ _ _ w.going c.wait-ending.ensures.waited c.wait-ending.ensures.of_fleet c.wait-ending.ensures.machine in
    waits_on _ _ _ so w.waiting _ _ _ _ _ w.written
    (own_step _ _ _ (after_need so w.waiting) c.wait-ending.result c.wait-ending.new.self.machine c.take_in-in-NeedsEnding.new.self.machine c.wait-ending.new.self.fleet _ _ _ (Ok tt) next
    (λ on. c.in_ok-take_in-in-NeedsEnding.ensures.answers (after_need so w.waiting) on))
