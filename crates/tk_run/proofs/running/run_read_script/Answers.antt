use Rattle.std.proofs.Common.{sym, ◌∙◌}
use Rattle.tk_run.proofs.RunHeadlines.{alone_script, none_there}
use Rattle.tk_run.proofs.running.run_read_script.Goals as goal

pub returns-then-is_empty-clause-answers : goal.returns-then-is_empty-clause-answers
returns-then-is_empty-clause-answers g c =
    let none = none_there c.args.script.devices (sym c.is_empty.ensures ∙ c.if-is_empty.true) in
    alone_script c.args.script c.args.mode c.args.budget _ _ c.run_script.result c.requires.runs.runnable c.requires.steps.0 none c.run_script.ensures.outcome
