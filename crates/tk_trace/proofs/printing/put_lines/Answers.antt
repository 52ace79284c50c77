-- One more line, or what a failed one leaves.
use Rattle.std.proofs.Common.{rules, ◌≡◌, length, take}
use Rattle.tk_trace.proofs.Growth.{front_kept, line_more, no_lines}
use Rattle.tk_trace.proofs.printing.put_lines.Goals as goal

pub lines-init : goal.lines-init
lines-init c = no_lines _

pub returns-in_err-put_whole_line-clause-front : goal.returns-in_err-put_whole_line-clause-front
returns-in_err-put_whole_line-clause-front c =
    let front : take (length c.args.out.now.items) c.put_whole_line.new.out.items ≡ c.args.out.now.items = front_kept _ _ _ _ c.lines.invariant c.in_err-put_whole_line.ensures.front in
    search rules

pub lines-preserved : goal.lines-preserved
lines-preserved c = line_more _ _ _ _ _ _ c.lines-test.true c.line-item.is c.lines.invariant c.in_ok-put_whole_line.ensures.grown
