use Rattle.std.proofs.Common.{◌≡◌, ◌*◌, ap, sym, subst, ◌∙◌}
use Rattle.device_model.specs.Units.Function.{block_size}
use Rattle.driver_model.specs.Cores.{Core, aborted}
use Rattle.dev_units.specs.Cores.{Progress, has_number}
use Rattle.dev_units.specs.contracts.driver.DriverCore.{the_view}
use Rattle.dev_units.proofs.Drivers.{named_there}
use Rattle.dev_units.proofs.driver.DriverCore.abort.Goals as goal

pub returns : goal.returns
returns c =
    subst (λ (core : Core). c.finish.new.self ≡ aborted c.args.number core core.given) c.self.view_is
    (c.finish.ensures
    ∙ named_there (the_view c.self.inside) c.args.number c.self.inside.serving c.in-Some.serving c.ended-ending.result (block_size * c.serving.inside.blocks)
    (let taken = c.take.ensures.value in let is = c.in-Some.is in cc (taken, is))
    (ap (λ (core : Core). has_number c.args.number core.given) c.self.view_is ∙ (sym c.works_on.ensures ∙ c.if-not-works_on.false))
    (ap (λ (it : Progress). block_size * it.blocks) c.serving.view_is) c.ended-ending.ensures)
