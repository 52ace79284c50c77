use Rattle.std.proofs.Common.{arith}
use Rattle.tk_run.proofs.FleetAnswers.{own_ends, run_answers, run_counted, run_many, run_places, run_sure, start_places}
use Rattle.tk_run.proofs.RunHeadlines.{nothing_front}
use Rattle.tk_run.proofs.fleet_run.run_with_drivers.Goals as goal

pub returns-in-Err-OutOfMemory-clause-answers : goal.returns-in-Err-OutOfMemory-clause-answers
returns-in-Err-OutOfMemory-clause-answers g c = nothing_front c.args.script c.args.mode c.args.budget _ c.requires.steps.0

pub close-record-requires-after_bounds : goal.close-record-requires-after_bounds
close-record-requires-after_bounds g c lives within = start_places c.args.script c.args.mode c.args.budget c.in-Ok.fleet c.in-Ok.ensures.fleet

pub returns-in_default-clause-answers : goal.returns-in_default-clause-answers
returns-in_default-clause-answers g c = nothing_front c.args.script c.args.mode c.args.budget _ c.requires.steps.0

pub close-record-requires-2-after_bounds : goal.close-record-requires-2-after_bounds
close-record-requires-2-after_bounds g c lives within = run_places _ _ _ c.run-status.new.self.fleet _ _ c.run-status.result c.run-status.ensures.ends

pub returns-clause-answers : goal.returns-clause-answers
returns-clause-answers g c =
    let ends = own_ends c.args.script c.args.mode c.args.budget c.in-Ok-new.machine c.run-status.new.self.fleet _ _ c.run-status.result c.in-Ok-new.ensures c.run-status.ensures.ends in
    run_answers c.args.script c.args.mode c.args.budget c.run-status.new.self.fleet c.close-record-2.result _ _ c.run-status.result c.requires.some ends c.close-record-2.ensures.closed

pub returns-clause-write_fault : goal.returns-clause-write_fault
returns-clause-write_fault g c = (run_counted _ _ _ c.run-status.new.self.fleet _ _ c.run-status.result c.run-status.ensures.ends).rose

pub returns-clause-faults_stay : goal.returns-clause-faults_stay
returns-clause-faults_stay g c = (run_counted _ _ _ c.run-status.new.self.fleet _ _ c.run-status.result c.run-status.ensures.ends).stay

pub returns-clause-running : goal.returns-clause-running
returns-clause-running g c =
    let ends = own_ends c.args.script c.args.mode c.args.budget c.in-Ok-new.machine c.run-status.new.self.fleet _ _ c.run-status.result c.in-Ok-new.ensures c.run-status.ensures.ends in
    let many = run_many c.args.script c.args.mode c.args.budget c.run-status.new.self.fleet _ _ c.run-status.result ends in
    omega (arith, c.close-record-2.ensures.running, c.in-Ok.ensures.running, many)

pub returns-clause-certain : goal.returns-clause-certain
returns-clause-certain g c = λ has.
    let ends = own_ends c.args.script c.args.mode c.args.budget c.in-Ok-new.machine c.run-status.new.self.fleet _ _ c.run-status.result c.in-Ok-new.ensures c.run-status.ensures.ends in
    run_sure c.args.script c.args.mode c.args.budget c.run-status.new.self.fleet _ _ c.run-status.result ends has
