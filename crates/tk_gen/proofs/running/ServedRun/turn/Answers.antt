use Rattle.std.proofs.Common.{refl, ap, sym, ◌∙◌}
use Rattle.machine_model.specs.Runs.Machine.{Machine, after_step}
use Rattle.tk_kernel.specs.Pace.{pace_after}
use Rattle.tk_gen.proofs.Turns.{needs_request, over_is, pace_fits, served_goes, went_goes}
use Rattle.tk_gen.proofs.running.ServedRun.turn.Goals as goal

pub count_lines-requires : goal.count_lines-requires
count_lines-requires c =
    pace_fits c.args.self.now.machine.script c.args.self.now.machine.budget c.args.self.now.machine.state c.args.self.now.counts c.step.new.self _ c.requires.room refl
    (c.in_ok-step.ensures.stepped ∙ ap (λ (m : Machine). after_step m) c.requires.between.machine_is)

pub count_lines-requires-in-Over : goal.count_lines-requires-in-Over
count_lines-requires-in-Over c =
    pace_fits c.args.self.now.machine.script c.args.self.now.machine.budget c.args.self.now.machine.state c.args.self.now.counts c.step.new.self _ c.requires.room refl
    (c.in_ok-step.ensures.stepped ∙ ap (λ (m : Machine). after_step m) c.requires.between.machine_is)

pub serve-requires-clause-waits : goal.serve-requires-clause-waits
serve-requires-clause-waits c =
    needs_request c.args.self.now.machine.script c.args.self.now.machine.budget c.args.self.now c.step.new.self _ c.requires.between refl
    (c.in_ok-step.ensures.stepped ∙ ap (λ (m : Machine). after_step m) c.requires.between.machine_is)
    (sym c.in-NeedsEnding.is ∙ (c.in_ok-step.ensures.pace ∙ ap (λ (m : Machine). pace_after m) c.requires.between.machine_is))

pub returns-in-Went : goal.returns-in-Went
returns-in-Went c =
    went_goes c.args.self.now.machine.script c.args.self.now.machine.budget c.args.self.now c.count_lines.new.self c.step.new.self _ c.requires.between refl
    (c.in_ok-step.ensures.stepped ∙ ap (λ (m : Machine). after_step m) c.requires.between.machine_is)
    (sym c.in-Went.is ∙ (c.in_ok-step.ensures.pace ∙ ap (λ (m : Machine). pace_after m) c.requires.between.machine_is))
    c.count_lines.ensures.machine c.count_lines.ensures.driver c.count_lines.ensures.counts

pub returns-in-Over : goal.returns-in-Over
returns-in-Over c =
    over_is c.args.self.now.machine.script c.args.self.now.machine.budget c.args.self.now c.count_lines-in-Over.new.self c.step.new.self c.in-Over.end _ refl
    (c.in_ok-step.ensures.stepped ∙ ap (λ (m : Machine). after_step m) c.requires.between.machine_is)
    (sym c.in-Over.is ∙ (c.in_ok-step.ensures.pace ∙ ap (λ (m : Machine). pace_after m) c.requires.between.machine_is))
    c.count_lines-in-Over.ensures.machine c.count_lines-in-Over.ensures.counts

pub returns-in_ok-serve-in-NeedsEnding : goal.returns-in_ok-serve-in-NeedsEnding
returns-in_ok-serve-in-NeedsEnding c =
    served_goes c.args.self.now.machine.script c.args.self.now.machine.budget c.args.self.now c.serve.new.self c.step.new.self _ refl
    (c.in_ok-step.ensures.stepped ∙ ap (λ (m : Machine). after_step m) c.requires.between.machine_is)
    (sym c.in-NeedsEnding.is ∙ (c.in_ok-step.ensures.pace ∙ ap (λ (m : Machine). pace_after m) c.requires.between.machine_is))
    c.in_ok-serve-in-NeedsEnding.ensures
