use Rattle.dev_units.proofs.Progress.{came_to}
use Rattle.dev_units.proofs.unit.Unit.serve_block.Goals as goal

pub returns-clause-came_to : goal.returns-clause-came_to
returns-clause-came_to c found whole way =
    came_to c.args.self.now.kind found c.args.self.now.store c.move_block.new.self.store c.args.request.now c.args.block c.args.out.now.items c.move_block.new.out.items c.end_of-end.result
    whole c.move_block.ensures.served c.end_of-end.ensures.end way
