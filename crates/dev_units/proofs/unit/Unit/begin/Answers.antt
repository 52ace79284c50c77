use Rattle.std.proofs.Common.{subst, arith, rules, []}
use Rattle.std.proofs.lemmas.Bool.Decides.{nat_tests}
use Rattle.device_model.specs.Units.Stores.{Store}
use Rattle.dev_units.specs.Progress.{IsUnderWay}
use Rattle.dev_units.proofs.Progress.{under_way_of_none, under_way_of_some}
use Rattle.dev_units.proofs.unit.Unit.begin.Goals as goal

pub returns-then-request-eq0-clause-under_way : goal.returns-then-request-eq0-clause-under_way
returns-then-request-eq0-clause-under_way c = under_way_of_none c.args.self.now.kind c.args.self.now.store c.args.request.now (grind (arith, nat_tests, c.if-request-eq0.true))

pub returns-clause-under_way : goal.returns-clause-under_way
returns-clause-under_way c =
    subst (λ (begun : Store). IsUnderWay c.args.self.now.kind c.args.self.now.store c.args.request.now 0 begun [])
    (search (rules, c.self.view_is, c.next.ensures))
    (under_way_of_some c.args.self.now.kind c.args.self.now.store c.args.request.now (grind (arith, nat_tests, c.if-request-eq0.false)))
