use Rattle.std.proofs.Common.{rules, sym, ◌∙◌}
use Rattle.sem_flag.proofs.Waiting.{flag_waited}
use Rattle.sem_flag.proofs.flag_waits.wait_flag.Goals as goal

pub returns : goal.returns
returns c =
    flag_waited c.args.base.now c.args.table.now c.args.who c.args.id c.args.bits c.args.timeout c.args.mode c.in-Some.id c.in-Some-flag.row
    (search rules) (search rules) (search rules) (search rules) (search rules) (sym c.flag.ensures ∙ c.in-Some-flag.is) (search rules) ∙ search rules
