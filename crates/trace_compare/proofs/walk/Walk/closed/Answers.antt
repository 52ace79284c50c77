-- The line feed that isn't there changes nothing.
use Rattle.std.proofs.Common.{◌∙◌, rules, []}
use Rattle.trace_compare.proofs.WalkLaws.{walk_closed}
use Rattle.trace_compare.proofs.walk.Walk.closed.Goals as goal

pub returns-clause-same : goal.returns-clause-same
returns-clause-same c = c.end_line.ensures.taken [] ∙ walk_closed c.args.self c.requires c.if-walk.false (search rules)
