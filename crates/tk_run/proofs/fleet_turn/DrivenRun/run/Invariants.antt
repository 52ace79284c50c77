use Rattle.std.specs.Prelude.{◌≤◌}
use Rattle.fleet_model.specs.Fleets.{HasChannel}
use Rattle.tk_run.specs.FleetRuns.{held_by}
use Rattle.tk_run.proofs.FleetLoops.{IsRunningOn}
use Rattle.tk_run.proofs.fleet_turn.DrivenRun.run.Given as goal

abbrev pub invariant-turns : goal.invariant-turns
invariant-turns g l =
    IsRunningOn l.fn.self.machine.script l.fn.self.mode l.fn.self.machine.budget (held_by (g.K.Sink.held l.fn.sink) (g.K.Sink.faulted l.fn.sink) (g.K.Sink.sure_room l.fn.sink))
    (held_by (g.K.Sink.held l.sink) (g.K.Sink.faulted l.sink) (g.K.Sink.sure_room l.sink)) l.self.machine l.self.fleet
    × HasChannel l.self.fleet l.self.served
