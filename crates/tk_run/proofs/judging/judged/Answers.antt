use Rattle.tk_run.proofs.Judged.{done_answers, stopped_answers}
use Rattle.tk_run.proofs.judging.judged.Goals as goal

pub returns-in-Done : goal.returns-in-Done
returns-in-Done c = λ shown shows.
    done_answers c.args.mode c.args.budget c.args.traced shown _ c.in_ok-comparing.comparing c.replay_counted-status.new.sink c.replay_counted-status.result.status c.finish.result c.compared.result
    shows c.in_ok-comparing.ensures c.in-Done.is c.replay_counted-status.ensures.outcome
    c.finish.ensures.same c.finish.ensures.lines c.finish.ensures.differs c.compared.ensures

pub returns-in-WriteFault : goal.returns-in-WriteFault
returns-in-WriteFault c = λ shown shows.
    stopped_answers c.args.mode c.args.budget c.args.traced shown _ c.in_ok-comparing.comparing c.replay_counted-status.new.sink c.replay_counted-status.result.status c.finish-in-WriteFault.result c.compared-in-WriteFault.result
    shows c.in_ok-comparing.ensures c.in-WriteFault.is (c.lacks_nothing-stops.ensures c.if-stops.true) c.replay_counted-status.ensures.outcome
    (c.replay_counted-status.ensures.write_fault c.in-WriteFault.is) c.finish-in-WriteFault.ensures.whole c.finish-in-WriteFault.ensures.never_cut c.compared-in-WriteFault.ensures
