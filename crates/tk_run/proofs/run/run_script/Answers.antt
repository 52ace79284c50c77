use Rattle.std.proofs.Common.{[]}
use Rattle.machine_model.specs.Runs.Trace.{trace}
use Rattle.step_lemmas.proofs.Unstarved.{trace_ends}
use Rattle.tk_run.proofs.Alone.{alone_answers, fed_nothing, none_out_of_range}
use Rattle.tk_run.proofs.run.run_script.Goals as goal

pub replay_script-requires-clause-devices : goal.replay_script-requires-clause-devices
replay_script-requires-clause-devices g c = none_out_of_range _ c.requires.alone.devices

pub returns-clause-outcome : goal.returns-clause-outcome
returns-clause-outcome g c =
    alone_answers (trace c.args.script c.args.mode c.args.budget []) _ _ _ (trace_ends c.args.script c.args.mode c.args.budget c.requires.alone.devices) c.replay_script.ensures.past_session
    (fed_nothing c.args.script c.args.mode c.args.budget _ _ _ _ c.new.ensures c.replay_script.ensures.outcome)
