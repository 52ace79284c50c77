use Rattle.std.proofs.Common.{sym, ◌∙◌}
use Rattle.tk_gen.proofs.Drivings.{begins, gives, leaves, works_less, works_on}
use Rattle.tk_gen.proofs.driving.served.Goals as goal

pub turns-init : goal.turns-init
turns-init c = begins c.args.driver.now c.message.new.self c.args.request c.requires.free c.message.ensures

pub turns-smaller : goal.turns-smaller
turns-smaller c =
    works_less c.args.driver.now c.args.request c.turns.driver c.block.new.self c.requires.free c.requires.whole c.turns.invariant
    (sym c.turns-test.true ∙ c.block.ensures.result) c.block.ensures.core

pub turns-preserved : goal.turns-preserved
turns-preserved c =
    works_on c.args.driver.now c.args.request c.turns.driver c.block.new.self c.requires.free c.requires.whole c.turns.invariant
    (sym c.turns-test.true ∙ c.block.ensures.result) c.block.ensures.core

-- the driver has no turn to make
pub unreachable-requires : goal.unreachable-requires
unreachable-requires c =
    let out = gives c.args.driver.now c.args.request c.turns.driver c.block.new.self c.ending.result c.requires.free c.turns.invariant
    (sym c.turns-test.false ∙ c.block.ensures.result) c.block.ensures.core c.ending.ensures.result
    in
    c.in_default.not-Some _ out

pub returns-clause-ending : goal.returns-clause-ending
returns-clause-ending c =
    let out = gives c.args.driver.now c.args.request c.turns.driver c.block.new.self c.ending.result c.requires.free c.turns.invariant
    (sym c.turns-test.false ∙ c.block.ensures.result) c.block.ensures.core c.ending.ensures.result
    in
    cc (sym c.in-Some.is ∙ out)

pub returns-clause-driver : goal.returns-clause-driver
returns-clause-driver c =
    leaves c.args.driver.now c.args.request c.turns.driver c.block.new.self c.ending.new.self c.requires.free c.turns.invariant
    (sym c.turns-test.false ∙ c.block.ensures.result) c.block.ensures.core c.ending.ensures.core
