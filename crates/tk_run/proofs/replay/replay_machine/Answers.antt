-- One turn after another.
use Rattle.std.proofs.Common.{◌≡◌, ◌+◌, ◌-◌, ◌≤◌, length, drop, refl, subst, sym, ap, ◌∙◌, List, Err, arith}
use Rattle.std.proofs.lemmas.List.{take_rest}
use Rattle.tk_types.specs.declared.line.Line.{Line}
use Rattle.tk_model.specs.LineText.{text_of_lines}
use Rattle.tk_run.specs.Replays.{WriteAnswers}
use Rattle.tk_run.specs.FedTurns.{TurnGives, next_course}
use Rattle.tk_run.specs.declared.replay.RunEnd.{RunEnd}
use Rattle.tk_run.proofs.Replays.{begins_certain, begins_outcome, feeding_begins, feeds_on, goes_on, last_certain, last_outcome, last_steps, nothing_written, status_steps, over_remaining, turn_first, unwritten_certain, unwritten_outcome}
use Rattle.tk_run.proofs.replay.replay_machine.Goals as goal
use Rattle.tk_run.proofs.replay.replay_machine.Goals.{in-Fed, in-Went}

pub returns-in-Err-clause-outcome : goal.returns-in-Err-clause-outcome
returns-in-Err-clause-outcome g c =
    let old = c.args.machine.now in
    begins_outcome _ _ old.script c.args.mode c.args.budget c.args.journal.now old c.in-Err.failure _ c.requires.fresh
    (subst (λ (lines : List Line). WriteAnswers (g.K.Sink.held c.args.sink.now) (g.K.Sink.held c.write_lines.new.sink) (text_of_lines lines) (Err c.in-Err.failure)) (c.deref.ensures.value ∙ c.take_lines-started.ensures.taken) c.in-Err.ensures.answer)
    (ap (λ (e : RunEnd). e.status) c.unwritten.ensures)

pub returns-in-Err-clause-certain : goal.returns-in-Err-clause-certain
returns-in-Err-clause-certain g c =
    let old = c.args.machine.now in
    begins_certain (g.K.Sink.held c.args.sink.now) _ _ _ old.script c.args.mode c.args.budget c.args.journal.now old c.in-Err.failure _ c.requires.fresh
    (rw (c.deref.ensures.value, c.take_lines-started.ensures.taken) at c.in-Err.ensures.certain) (ap (λ (e : RunEnd). e.status) c.unwritten.ensures)

pub turns-init : goal.turns-init
turns-init g c =
    let old = c.args.machine.now in
    let sure = rw (c.deref.ensures.value, c.take_lines-started.ensures.taken) at c.in_default.ensures.certain in
    feeding_begins old.script c.args.mode c.args.budget c.args.journal.now old _ _ c.requires.fresh c.take_lines-started.ensures.left c.requires.low c.requires.high (omega arith)
    (rw (c.deref.ensures.value, c.take_lines-started.ensures.taken) at c.in_default.ensures.answer) c.in_default.ensures.faults_stay
    (λ fits. let s = sure fits in (s.1, s.2))

pub returns-in_default-fed_turn-clause-outcome : goal.returns-in_default-fed_turn-clause-outcome
returns-in_default-fed_turn-clause-outcome g c = nothing_written _ c.turns.invariant.running refl

pub returns-in-Err-write_lines-clause-outcome : goal.returns-in-Err-write_lines-clause-outcome
returns-in-Err-write_lines-clause-outcome g c =
    let m = c.turns.machine in
    let entries = drop c.turns.taken c.args.journal.now in
    let gives : TurnGives m c.fed_turn.new.machine (next_course m (c.turns.taken + 1) entries) c.in-Ok.turn = rw take_rest at c.in-Ok.ensures in
    let first = turn_first m _ (c.turns.taken + 1) ((c.args.budget + length c.args.journal.now) - c.turns._turn) _ entries c.in-Ok.turn (omega arith) gives in
    unwritten_outcome _ first.0 c.in-Ok.turn.lines.items c.in-Err-write_lines.failure _ c.turns.invariant.running first.1
    (subst (λ (lines : List Line). WriteAnswers (g.K.Sink.held c.turns.sink) (g.K.Sink.held c.write_lines-in-turns.new.sink) (text_of_lines lines) (Err c.in-Err-write_lines.failure)) c.deref-in-turns.ensures.value c.in-Err-write_lines.ensures.answer)
    (ap (λ (e : RunEnd). e.status) c.unwritten-in-Err-write_lines.ensures)

pub returns-in-Err-write_lines-clause-certain : goal.returns-in-Err-write_lines-clause-certain
returns-in-Err-write_lines-clause-certain g c =
    let m = c.turns.machine in
    let entries = drop c.turns.taken c.args.journal.now in
    let gives : TurnGives m c.fed_turn.new.machine (next_course m (c.turns.taken + 1) entries) c.in-Ok.turn = rw take_rest at c.in-Ok.ensures in
    let first = turn_first m _ (c.turns.taken + 1) ((c.args.budget + length c.args.journal.now) - c.turns._turn) _ entries c.in-Ok.turn (omega arith) gives in
    unwritten_certain _ first.0 c.in-Ok.turn.lines.items c.in-Err-write_lines.failure _ c.turns.invariant.running first.1
    (rw c.deref-in-turns.ensures.value at c.in-Err-write_lines.ensures.certain) (ap (λ (e : RunEnd). e.status) c.unwritten-in-Err-write_lines.ensures)

pub returns-in-Over-clause-outcome : goal.returns-in-Over-clause-outcome
returns-in-Over-clause-outcome g c =
    let m = c.turns.machine in
    let entries = drop c.turns.taken c.args.journal.now in
    let gives : TurnGives m c.fed_turn.new.machine (next_course m (c.turns.taken + 1) entries) c.in-Ok.turn = rw take_rest at c.in-Ok.ensures in
    last_outcome _ c.in-Ok.turn.lines.items c.in-Over.last c.in-Ok.turn.steps _ c.turns.invariant.running
    (over_remaining m _ (c.turns.taken + 1) ((c.args.budget + length c.args.journal.now) - c.turns._turn) _ entries c.in-Ok.turn c.in-Over.last (omega arith) gives c.in-Over.is)
    (rw c.deref-in-turns.ensures.value at c.in_default-write_lines.ensures.answer) c.status_of_last.ensures

pub returns-in-Over-clause-certain : goal.returns-in-Over-clause-certain
returns-in-Over-clause-certain g c =
    let m = c.turns.machine in
    let entries = drop c.turns.taken c.args.journal.now in
    let gives : TurnGives m c.fed_turn.new.machine (next_course m (c.turns.taken + 1) entries) c.in-Ok.turn = rw take_rest at c.in-Ok.ensures in
    last_certain _ c.in-Ok.turn.lines.items c.in-Over.last c.in-Ok.turn.steps _ c.turns.invariant.running
    (over_remaining m _ (c.turns.taken + 1) ((c.args.budget + length c.args.journal.now) - c.turns._turn) _ entries c.in-Ok.turn c.in-Over.last (omega arith) gives c.in-Over.is)
    (rw c.deref-in-turns.ensures.value at c.in_default-write_lines.ensures.certain) c.status_of_last.ensures

pub returns-in-Over-clause-steps : goal.returns-in-Over-clause-steps
returns-in-Over-clause-steps g c =
    let m = c.turns.machine in
    let entries = drop c.turns.taken c.args.journal.now in
    let gives : TurnGives m c.fed_turn.new.machine (next_course m (c.turns.taken + 1) entries) c.in-Ok.turn = rw take_rest at c.in-Ok.ensures in
    rw c.status_of_last.ensures
    (status_steps c.in-Over.last _ c.in-Ok.turn.steps
    (last_steps c.in-Ok.turn.lines.items c.in-Over.last c.in-Ok.turn.steps c.turns.invariant.running
    (over_remaining m _ (c.turns.taken + 1) ((c.args.budget + length c.args.journal.now) - c.turns._turn) _ entries c.in-Ok.turn c.in-Over.last (omega arith) gives c.in-Over.is)))

pub turns-preserved : goal.turns-preserved
turns-preserved g c =
    let m = c.turns.machine in
    let entries = drop c.turns.taken c.args.journal.now in
    let gives : TurnGives m c.fed_turn.new.machine (next_course m (c.turns.taken + 1) entries) c.in-Ok.turn = rw take_rest at c.in-Ok.ensures in
    let sure = rw c.deref-in-turns.ensures.value at c.in_default-write_lines.ensures.certain in
    elim c.match-turn.branch [
      | in-Fed w ↦ rw w.taken-is
          (feeds_on m _ _ c.in-Ok.turn c.turns.invariant (omega arith) gives w.in-Fed.is (rw c.deref-in-turns.ensures.value at c.in_default-write_lines.ensures.answer) c.in_default-write_lines.ensures.faults_stay
          (λ fits. let s = sure fits in (s.1, s.2)))
      | in-Went w ↦ rw w.taken-is
          (goes_on m _ _ c.in-Ok.turn c.turns.invariant (omega arith) gives w.in-Went.is (rw c.deref-in-turns.ensures.value at c.in_default-write_lines.ensures.answer) c.in_default-write_lines.ensures.faults_stay
          (λ fits. let s = sure fits in (s.1, s.2)))
    ]
