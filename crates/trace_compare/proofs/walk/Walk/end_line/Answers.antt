-- The line is the given one, or it isn't.
use Rattle.trace_compare.proofs.LineLaws.{line_differs, line_missing, line_passed}
use Rattle.std.proofs.Common.{rules}
use Rattle.trace_compare.proofs.walk.Walk.end_line.Goals as goal
use Rattle.trace_compare.proofs.walk.Walk.end_line.Goals.{in_default-via-in-Some+else-is_same, in_default-via-in_default}

pub returns-in-Some-clause-taken : goal.returns-in-Some-clause-taken
returns-in-Some-clause-taken c = λ more.
    rw (c.requires.going, c.clear.ensures.items)
    (line_passed c.args.self.now.number c.args.self.now.line.items c.in-Some.have.now c.args.self.now.left.now c.in-Some.rest.now more c.requires.fair.open_line c.in-Some.ensures.lines (search rules))

pub returns-in_default-clause-taken : goal.returns-in_default-clause-taken
returns-in_default-clause-taken c = λ more. rw (c.requires.going)
    (elim c.in_default.branch [
      | in_default-via-in-Some+else-is_same w ↦
          line_differs c.args.self.now.number c.args.self.now.line.items w.in-Some.have.now c.args.self.now.left.now w.in-Some.rest.now more c.requires.fair.open_line w.in-Some.ensures.lines (search rules)
      | in_default-via-in_default w ↦ line_missing c.args.self.now.number c.args.self.now.line.items c.args.self.now.left.now more c.requires.fair.open_line (search rules)
    ])
