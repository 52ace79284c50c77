use Rattle.tk_run.specs.Readings.{reading_of}
use Rattle.tk_run.proofs.RunHeadlines.{nothing_read}
use Rattle.tk_run.proofs.running.run_text.Goals as goal

pub returns-in_default-clause-answers : goal.returns-in_default-clause-answers
returns-in_default-clause-answers g c = nothing_read c.args.mode c.args.budget (reading_of c.args.text.now) _ c.requires.steps.0
