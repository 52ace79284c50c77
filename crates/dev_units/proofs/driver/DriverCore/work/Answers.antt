use Rattle.std.proofs.Common.{◌≡◌, Some, sym, subst, ◌∙◌}
use Rattle.driver_model.specs.Cores.{Core, worked}
use Rattle.dev_units.specs.Cores.{Progress, holding}
use Rattle.dev_units.specs.contracts.driver.DriverCore.{the_view}
use Rattle.dev_units.proofs.Drivers.{finished_so, went_so}
use Rattle.dev_units.proofs.driver.DriverCore.work.Goals as goal

pub returns-in-More : goal.returns-in-More
returns-in-More c =
    subst (λ (core : Core). c.keep.new.self ≡ worked (holding core (Some c.args.serving)) c.args.serving.request) c.self.view_is
    (subst (λ (it : Progress). c.keep.new.self ≡ worked (holding (the_view c.self.inside) (Some it)) it.request) c.serving.view_is
    (c.keep.ensures
    ∙ went_so (the_view c.self.inside) c.serving.inside.request c.serving.inside.out c.serve_block.new.out c.serving.inside.blocks c.serving.inside.turns
    c.serve_block.new.self.kind c.serve_block.new.self.store c.serve_block.ensures.kind c.serve_block.ensures.served (sym c.in-More.is ∙ c.serve_block.ensures.result) c.serve_block.ensures.room))

pub returns-in-Ended : goal.returns-in-Ended
returns-in-Ended c =
    subst (λ (core : Core). c.finish.new.self ≡ worked (holding core (Some c.args.serving)) c.args.serving.request) c.self.view_is
    (subst (λ (it : Progress). c.finish.new.self ≡ worked (holding (the_view c.self.inside) (Some it)) it.request) c.serving.view_is
    (c.finish.ensures
    ∙ finished_so (the_view c.self.inside) c.serving.inside.request c.serving.inside.out c.serve_block.new.out c.serving.inside.blocks c.serving.inside.turns
    c.serve_block.new.self.kind c.serve_block.new.self.store c.in-Ended.size c.in-Ended.error c.ending.result c.serve_block.ensures.kind c.serve_block.ensures.served
    (sym c.in-Ended.is ∙ c.serve_block.ensures.result) c.serve_block.ensures.room c.ending.ensures))
