use Rattle.std.proofs.Common.{None, Some}
use Rattle.tk_run.proofs.FleetLoops.{begins_may, breaks_first, breaks_run, ends_run, failed_status, runs_first, runs_on}
use Rattle.tk_run.proofs.FleetTurns.{own_going, own_turn, turn_fails, turn_gives}
use Rattle.tk_run.proofs.fleet_turn.DrivenRun.run.Goals as goal

pub pass_on-requires-clause-places : goal.pass_on-requires-clause-places
pass_on-requires-clause-places g c = begins_may _ _ _ _ _ c.requires.machine c.requires.fleet

pub returns-in-Err : goal.returns-in-Err
returns-in-Err g c = record {
  ends = failed_status _ _ _ c.in-Err.failure _ _ _ _
      (breaks_first _ _ _ c.args.self.now.machine c.args.self.now.fleet _ _ _ _ c.requires.run c.requires.machine c.requires.fleet c.in-Err.ensures.written c.in-Err.ensures.unhanded)
      c.failure_status.ensures;
}

pub turns-init : goal.turns-init
turns-init g c = (
  runs_first _ _ _ c.args.self.now.machine _ c.args.self.now.fleet _ _ _ c.requires.run c.requires.machine c.requires.fleet c.in_default.ensures.written c.in_default.ensures.hands c.in_default.ensures.machine,
  c.pass_on.ensures.served,
)

pub turn-requires-clause-going : goal.turn-requires-clause-going
turn-requires-clause-going g c = let r = c.turns.invariant.0 in own_going _ _ _ r.so None 0 c.turns.self.machine c.turns.self.fleet r.run r.going

pub turn-requires-clause-served : goal.turn-requires-clause-served
turn-requires-clause-served g c = c.turns.invariant.1

pub turns-preserved : goal.turns-preserved
turns-preserved g c =
    let r = c.turns.invariant.0 in
    let answers = own_turn _ _ _ r.so c.turns.self.machine c.turn.new.self.machine c.turns.self.fleet c.turn.new.self.fleet _ _ c.turn.result r.going (c.turn.ensures.answers r.so) in (
      runs_on _ _ _ _ _ _ c.turns.self.machine c.turn.new.self.machine c.turns.self.fleet c.turn.new.self.fleet r
          (turn_gives _ _ _ r.so c.turn.new.self.machine c.turn.new.self.fleet _ _ c.turn.result c.in-Ok-None.field-0 None answers c.in-Ok-None.is c.in-Ok-None.field-0-is),
      c.turn.ensures.served,
    )

pub returns-in-Ok-Some : goal.returns-in-Ok-Some
returns-in-Ok-Some g c =
    let r = c.turns.invariant.0 in
    let answers = own_turn _ _ _ r.so c.turns.self.machine c.turn.new.self.machine c.turns.self.fleet c.turn.new.self.fleet _ _ c.turn.result r.going (c.turn.ensures.answers r.so) in
    record {
      ends = ends_run _ _ _ c.in-Ok-Some.end _ _ _ _ c.turns.self.machine c.turns.self.fleet c.turn.new.self.fleet r
          (turn_gives _ _ _ r.so c.turn.new.self.machine c.turn.new.self.fleet _ _ c.turn.result c.in-Ok-Some.field-0 (Some c.in-Ok-Some.end) answers c.in-Ok-Some.is c.in-Ok-Some.field-0-is)
          c.status_of_end.ensures;
    }

pub returns-in-Err-turn : goal.returns-in-Err-turn
returns-in-Err-turn g c =
    let r = c.turns.invariant.0 in
    let answers = own_turn _ _ _ r.so c.turns.self.machine c.turn.new.self.machine c.turns.self.fleet c.turn.new.self.fleet _ _ c.turn.result r.going (c.turn.ensures.answers r.so) in
    record {
      ends = breaks_run _ _ _ c.in-Err-turn.failure _ _ _ _ c.turns.self.machine c.turns.self.fleet c.turn.new.self.fleet r
          (turn_fails _ _ _ r.so c.turn.new.self.machine c.turn.new.self.fleet _ _ c.turn.result c.in-Err-turn.failure answers c.in-Err-turn.is)
          c.failure_status-in-Err-turn.ensures;
    }
