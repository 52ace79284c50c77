-- One line after another.
use Rattle.std.proofs.Common.{ap, sym, subst, rules, ◌≡◌, ◌<◌, ◌≤◌, ◌+◌, length, ℕ, List}
use Rattle.std.specs.Option.{option_copied}
use Rattle.tk_raw.specs.Lines.{text_lines}
use Rattle.tk_raw.proofs.TextLoops.{next_line, passed_here, refused_here, at_end, room_behind}
use Rattle.tk_raw.proofs.reading.read_lines.Goals as goal

pub returns-in-Err : goal.returns-in-Err
returns-in-Err c =
    let some : 0 < length c.lines.left.now = search rules in
    refused_here _ _ _ _ _ _ c.in-Err.error _ _ (next_line _ _ (option_copied c.cut.result.1) some c.cut.ensures.parts c.cut.ensures.room) c.in-Err.is c.read_line.ensures c.in_line.ensures c.lines.invariant.same

pub lines-preserved : goal.lines-preserved
lines-preserved c =
    let some : 0 < length c.lines.left.now = search rules in
    record {
      same = passed_here _ _ _ _ _ _ _ _ _ (next_line _ _ (option_copied c.cut.result.1) some c.cut.ensures.parts c.cut.ensures.room) c.in-Ok.is c.read_line.ensures (ap text_lines c.behind-left.ensures) c.lines.invariant.same;
      room = subst (λ (bytes : List ℕ). c.lines.number + 1 + length bytes ≤ 1048578) (sym c.behind-left.ensures) (room_behind _ _ _ (option_copied c.cut.result.1) some c.cut.ensures.room c.lines.invariant.room);
    }

pub returns : goal.returns
returns c =
    let none : length c.lines.left.now ≡ 0 = search rules in
    at_end _ _ _ _ _ none c.ended_at.ensures c.lines.invariant.same
